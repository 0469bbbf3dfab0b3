use Rattle.ta_program.proofs.Common.{◌≡◌, List, subst, sym, length, true, picked, AllByRecursion, Form, SampleReported, Verdict, VerdictFits}
use Rattle.ta_program.proofs.rest.report_to.Goals as goal

pub tell-requires-clause-all : goal.tell-requires-clause-all
tell-requires-clause-all g c = subst (λ (vs : List Verdict). length vs ≡ length (picked c.args.pick c.args.rest.now.ending.file.patterns))
    (sym c.as_slice.ensures) c.in_ok-verdicts.ensures.all

pub tell-requires-clause-fit : goal.tell-requires-clause-fit
tell-requires-clause-fit g c = subst (AllByRecursion (VerdictFits c.args.rest.now.ending.file)) (sym c.as_slice.ensures) c.in_ok-verdicts.ensures.fit

pub returns-clause-reports : goal.returns-clause-reports
returns-clause-reports g c = λ begun has.
    let asked = c.args.asked.now in
    let form : Form = record { rest = true; json = asked.json; all = asked.all } in
    let report = c.in_ok-report.report in
    record {
      verdicts = c.in_ok-verdicts.verdicts;
      are = c.in_ok-verdicts.ensures.verdicts;
      reported = subst (λ (ws : List Verdict). SampleReported form c.args.rest.now.ending.file c.args.pick asked.silent.budget.given.nodes ws report.number
          report.text) c.as_slice.ensures c.in_ok-report.ensures;
      certified = c.in_ok-verdicts.ensures.certificate begun has;
    }
