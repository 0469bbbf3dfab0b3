use Rattle.ta_search.proofs.Common.{IfOk, refl, subst, sym, IsSample, OutcomeHolds}
use Rattle.ta_search.proofs.vector.file_outcome.Goals as goal
use Rattle.ta_search.proofs.vector.file_outcome.Goals.{in-Sample, in-Empty, in-Spent, in-Overflow}

pub returns : goal.returns
returns g c = λ bytes within legal.
    let file = c.args.scoped.now.file in
    let terms = c.args.terms in
    let sample = c.in_ok-count.ensures in
    elim c.match-branch-2.branch [
      | in-Sample w ↦
          subst (λ r. IfOk r (OutcomeHolds bytes terms)) (sym w.result-is)
          (w.patterns_outcome.ensures bytes w.in-Sample.field-0
          (record { within = within; legal = legal; sample = subst (IsSample file terms.budget.nodes) w.in-Sample.is sample }))
      | in-Empty w ↦
          subst (λ r. IfOk r (OutcomeHolds bytes terms)) (sym w.result-is)
          (record { file = file; sampled = record { within = within; legal = legal; sample = subst (IsSample file terms.budget.nodes) w.in-Empty.is sample } })
      | in-Spent w ↦
          subst (λ r. IfOk r (OutcomeHolds bytes terms)) (sym w.result-is) (
            record { file = file; sampled = record { within = within; legal = legal; sample = subst (IsSample file terms.budget.nodes) w.in-Spent.is sample } },
            refl,
          )
      | in-Overflow w ↦
          subst (λ r. IfOk r (OutcomeHolds bytes terms)) (sym w.result-is) (
            record {
              file = file;
              sampled = record { within = within; legal = legal; sample = subst (IsSample file terms.budget.nodes) w.in-Overflow.is sample };
            },
            refl,
          )
    ]
