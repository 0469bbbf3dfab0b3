use Rattle.ta_smt.proofs.Common.{length, refl, shifted}
use Rattle.ta_smt.proofs.named.begins.Goals as goal

pub returns : goal.returns
returns c =
    let a = c.args.file.now.automaton in
    let shift = shifted (length a.fall) c.requires.fall in
    rw (c.as_slice.ensures, shift.is) refl
