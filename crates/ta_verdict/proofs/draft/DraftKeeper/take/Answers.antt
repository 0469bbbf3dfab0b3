use Rattle.ta_verdict.proofs.DraftsMade.{keeps_written}
use Rattle.ta_verdict.proofs.draft.DraftKeeper.take.Goals as goal

pub returns : goal.returns
returns c = λ first nodes kept. keeps_written c.write.result first c.args.self.now c.write.new.self nodes c.args.node c.write.ensures kept
