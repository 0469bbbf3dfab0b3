use Rattle.ta_program.proofs.Common.{◌∙◌, List, ap, as_many, first_picked, picked, subst, sym, length, false, AllByRecursion, Form, SampleReported}
use Rattle.ta_program.proofs.Common.{Verdict, VerdictFits, VerdictHolds}
use Rattle.ta_program.proofs.verify.report_to.Goals as goal

pub tell-requires-clause-all : goal.tell-requires-clause-all
tell-requires-clause-all g c =
    let file = c.args.scoped.now.file in
    let pick = c.args.pick in
    ap length c.as_slice.ensures
    ∙ as_many (VerdictHolds file c.args.asked.now.budget.given) (first_picked pick) (picked pick file.patterns) c.in_ok-verdicts.verdicts
    c.in_ok-verdicts.ensures.verdicts.hold

pub tell-requires-clause-fit : goal.tell-requires-clause-fit
tell-requires-clause-fit g c = subst (AllByRecursion (VerdictFits c.args.scoped.now.file)) (sym c.as_slice.ensures) c.in_ok-verdicts.ensures.verdicts.fit

pub returns-clause-reports : goal.returns-clause-reports
returns-clause-reports g c = λ begun has.
    let asked = c.args.asked.now in
    let form : Form = record { rest = false; json = asked.json; all = asked.all } in
    let report = c.in_ok-report.report in
    record {
      verdicts = c.in_ok-verdicts.verdicts;
      are = c.in_ok-verdicts.ensures.verdicts;
      reported = subst (λ (ws : List Verdict). SampleReported form c.args.scoped.now.file c.args.pick asked.budget.given.nodes ws report.number report.text)
          c.as_slice.ensures c.in_ok-report.ensures;
      certified = c.in_ok-verdicts.ensures.certificate begun has;
    }
