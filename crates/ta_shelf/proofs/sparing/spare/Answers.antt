use Rattle.ta_shelf.proofs.ShellCommon.{inl, refl, rules}
use Rattle.ta_shelf.proofs.Compared.{compared_other, compared_same}
use Rattle.ta_shelf.proofs.sparing.spare.Goals as goal

pub returns-in-Ok-true-clause-spares : goal.returns-in-Ok-true-clause-spares
returns-in-Ok-true-clause-spares g c =
    let same = compared_same (g.S.Shelf.files c.args.shelf.now) c.args.name.now c.args.bytes.now _ _ c.in-Ok-true.field-0 (search rules)
    c.in-Ok-true.ensures.told c.in-Ok-true.ensures.log in
    record { added = same.added; grown = same.grown; such = record { comparing = same.such.0; spares = (refl, inl (same.such.1, refl)) } }

pub returns-in-Ok-false-clause-spares : goal.returns-in-Ok-false-clause-spares
returns-in-Ok-false-clause-spares g c = compared_other (g.S.Shelf.files c.args.shelf.now) c.args.name.now c.args.bytes.now c.args.words.now _ _
    c.in-Ok-false.field-0 (search rules) c.in-Ok-false.ensures.told c.in-Ok-false.ensures.log
