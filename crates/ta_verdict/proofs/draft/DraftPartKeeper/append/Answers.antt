use Rattle.ta_verdict.proofs.DraftsMade.{keeps_appended}
use Rattle.ta_verdict.proofs.draft.DraftPartKeeper.append.Goals as goal

pub returns : goal.returns
returns c = λ first begun ns ms k b m. keeps_appended c.append.result first begun c.args.self.now c.args.part c.append.new.self ns ms c.append.ensures k b m
