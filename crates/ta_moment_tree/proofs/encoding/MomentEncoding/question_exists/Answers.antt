use Rattle.ta_moment_tree.proofs.Common.{sym, ◌∙◌}
use Rattle.ta_moments.specs.Moments.{known}
use Rattle.ta_moments.proofs.Searching.{exists_same}
use Rattle.ta_moment_tree.proofs.encoding.MomentEncoding.question_exists.Goals as goal

pub returns-clause-exists : goal.returns-clause-exists
returns-clause-exists c asking candidate past rest node =
    let t = c.args.self.now.plan.task in
    let same = c.exists_as.ensures asking candidate past rest node in
    let both = exists_same t.automaton.now t.pattern.now asking (known t.automaton.now t.pattern.now asking.silent candidate past) c.args.question in
    (λ h. both.0 (sym same ∙ h), λ h. same ∙ both.1 h)
