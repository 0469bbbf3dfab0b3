use Rattle.ta_shelf.proofs.Common.{false, true}
use Rattle.ta_shelf.proofs.ShellCommon.{Err, refl, rules, arith, Memory, ReadFailed}
use Rattle.ta_shelf.proofs.Parted.{asked_place, untold_place}
use Rattle.ta_shelf.proofs.sparing.part.Goals as goal

pub returns-in-Ok-true-clause-parts : goal.returns-in-Ok-true-clause-parts
returns-in-Ok-true-clause-parts g c =
    let log = asked_place (g.S.Shelf.files c.args.shelf.now) c.args.second.now c.args.first.now _ _ c.in-Ok-true.field-0 true (search rules)
    c.in-Ok-true.ensures.told c.in-Ok-true.ensures.log in
    record { added = log.added; grown = log.grown; such = record { asking = log.such.0; parts = (refl, (log.such.1, refl)) } }

pub returns-in-Ok-false-clause-parts : goal.returns-in-Ok-false-clause-parts
returns-in-Ok-false-clause-parts g c =
    let log = asked_place (g.S.Shelf.files c.args.shelf.now) c.args.second.now c.args.first.now _ _ c.in-Ok-false.field-0 false (search rules)
    c.in-Ok-false.ensures.told c.in-Ok-false.ensures.log in
    record { added = log.added; grown = log.grown; such = record { asking = log.such.0; parts = ((log.such.1, tt), (tt, tt)) } }

pub returns-in-Err-Memory-clause-parts : goal.returns-in-Err-Memory-clause-parts
returns-in-Err-Memory-clause-parts g c = untold_place (g.S.Shelf.files c.args.shelf.now) c.args.second.now c.args.first.now _ _ (Err c.in-Err-Memory.field-0)
    Memory (λ view. tt) c.in-Err-Memory.ensures.log

pub returns-in-Err-Failed-clause-parts : goal.returns-in-Err-Failed-clause-parts
returns-in-Err-Failed-clause-parts g c = untold_place (g.S.Shelf.files c.args.shelf.now) c.args.second.now c.args.first.now _ _ (Err c.in-Err-Failed.field-0)
    (ReadFailed c.args.second) (λ view. (1, omega arith, refl)) c.in-Err-Failed.ensures.log
