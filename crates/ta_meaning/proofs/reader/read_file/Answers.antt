use Rattle.ta_meaning.proofs.Common.{err_is}
use Rattle.ta_meaning.proofs.OneReading.{meaning-fault, scope-fault, is-legal}
use Rattle.ta_meaning.proofs.FileLimits.{legal_within}
use Rattle.ta_meaning.proofs.reader.read_file.Goals as goal

pub returns-in_err-file-clause-reads : goal.returns-in_err-file-clause-reads
returns-in_err-file-clause-reads c = rw (err_is c.from_residual-in_err-file.result _ c.from_residual-in_err-file.ensures.1)
    (meaning-fault c.args.limits.now c.args.bytes.now c.in_ok-tree.tree c.in_err-file.field-0.0 c.in_ok-tree.ensures.exact c.in_err-file.ensures)

pub returns-in-Ok-clause-reads : goal.returns-in-Ok-clause-reads
returns-in-Ok-clause-reads c = is-legal c.args.limits.now c.args.bytes.now c.in_ok-tree.tree c.in_ok-file.file c.in-Ok.scoped c.in_ok-tree.ensures.exact
    c.in_ok-file.ensures.0 c.in_ok-file.ensures.1 c.in-Ok.ensures.ok

pub returns-in-Err-clause-reads : goal.returns-in-Err-clause-reads
returns-in-Err-clause-reads c =
    rw c.fault_of.ensures (scope-fault c.args.limits.now c.args.bytes.now c.in_ok-tree.tree c.in_ok-file.file c.in-Err.fault c.in_ok-tree.ensures.exact
    c.in_ok-file.ensures.0 c.in_ok-file.ensures.1 c.in-Err.ensures.fault)

pub returns-in-Ok-clause-within : goal.returns-in-Ok-clause-within
returns-in-Ok-clause-within c = legal_within c.args.limits.now c.args.bytes.now c.in-Ok.scoped.file
    (is-legal c.args.limits.now c.args.bytes.now c.in_ok-tree.tree c.in_ok-file.file c.in-Ok.scoped c.in_ok-tree.ensures.exact c.in_ok-file.ensures.0
    c.in_ok-file.ensures.1 c.in-Ok.ensures.ok)
