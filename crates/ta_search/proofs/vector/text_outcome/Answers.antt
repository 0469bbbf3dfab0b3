use Rattle.std.proofs.Common.{◌≢◌, rules}
use Rattle.ta_syntax.specs.declared.fault.FileFault.TheVariants as fault
use Rattle.ta_search.proofs.Outcoming.{refused_by}
use Rattle.ta_search.proofs.vector.text_outcome.Goals as goal

pub returns-in-Err : goal.returns-in-Err
returns-in-Err g c =
    let other : c.in-Err.fault ≢ fault.Memory = search rules in
    refused_by c.args.terms.limits c.args.bytes.now c.in-Err.fault c.if-bytes-terms.false c.in-Err.ensures.reads other
