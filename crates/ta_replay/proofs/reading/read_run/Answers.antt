use Rattle.ta_replay.proofs.Common.{◌≡◌, err_is}
use Rattle.ta_replay.specs.declared.fault.RunFault.TheVariants as fault
use Rattle.ta_replay.proofs.OneRun.{one_run, no_fault}
use Rattle.ta_replay.proofs.OneFault.{malformed_only, misnamed_only}
use Rattle.ta_replay.proofs.reading.read_run.Goals as goal

pub returns-in_err-run-clause-only : goal.returns-in_err-run-clause-only
returns-in_err-run-clause-only c = λ run is. rw (err_is c.from_residual.result _ c.from_residual.ensures.1)
    (no_fault c.args.file.now run c.args.bytes.now c.in_err-run.field-0.0 is c.in_err-run.ensures.fault)

pub returns-in_err-run-clause-malformed : goal.returns-in_err-run-clause-malformed
returns-in_err-run-clause-malformed c = λ number bad. rw (err_is c.from_residual.result _ c.from_residual.ensures.1)
    (malformed_only c.args.file.now c.args.bytes.now c.in_err-run.field-0.0 number c.in_err-run.ensures.fault bad)

pub returns-in_err-run-clause-misnamed : goal.returns-in_err-run-clause-misnamed
returns-in_err-run-clause-misnamed c = λ number bad. rw (err_is c.from_residual.result _ c.from_residual.ensures.1)
    (misnamed_only c.args.file.now c.args.bytes.now c.in_err-run.field-0.0 number c.in_err-run.ensures.fault bad)

pub returns-clause-one : goal.returns-clause-one
returns-clause-one c = λ other is. one_run c.args.file.now c.args.bytes.now c.in_ok-run.run' other c.in_ok-run.ensures.text is

pub returns-clause-malformed : goal.returns-clause-malformed
returns-clause-malformed c = λ number bad.
    let none = no_fault c.args.file.now c.in_ok-run.run' c.args.bytes.now (fault.Line number) c.in_ok-run.ensures.text bad in absurd
    (let apart : fault.Line number ≡ fault.Memory = none in cc)

pub returns-clause-misnamed : goal.returns-clause-misnamed
returns-clause-misnamed c = λ number bad.
    let none = no_fault c.args.file.now c.in_ok-run.run' c.args.bytes.now (fault.Name number) c.in_ok-run.ensures.text bad in absurd
    (let apart : fault.Name number ≡ fault.Memory = none in cc)
