use Rattle.ta_verdict.proofs.DraftsMade.{begun_draft, keeps_none}
use Rattle.ta_verdict.proofs.draft.DraftPartKeeper.later.Goals as goal

pub returns-clause-begins : goal.returns-clause-begins
returns-clause-begins c = begun_draft c.args.self.now _ (λ i. c.args.self.now.wanted) c.new.ensures

pub returns-clause-keeps : goal.returns-clause-keeps
returns-clause-keeps c = keeps_none _
