use Rattle.ta_shelf.proofs.ShellCommon.{◌≡◌, ◌∙◌, ℕ, Option, Some, None, refl, sym, subst, rules, Faulted}
use Rattle.ta_shelf.proofs.StagedMore.{outgrown, taken, lost, stopped}
use Rattle.ta_shelf.proofs.staged_file.add_to_file.Goals as goal

pub returns-in_default : goal.returns-in_default
returns-in_default g c = λ begun text h. outgrown _ _ begun c.args.file.now _ text c.args.bytes.now
    (rw c.in_default.is at c.room_left.ensures text c.args.bytes.now refl h.room) h

pub returns-in-Ok : goal.returns-in-Ok
returns-in-Ok g c = λ begun text h.
    let had : c.args.file.now.stage ≡ Some c.in-Some-take.stage = search rules in
    taken _ _ begun c.args.file.now c.in-Some-take.stage had _ text h c.add.new.stage c.in-Some.room c.args.bytes.now _ _ _
    (rw c.in-Some.is at c.room_left.ensures text c.args.bytes.now refl h.room) c.in-Ok.ensures.named c.in-Ok.ensures.added c.in-Ok.ensures.log
    c.in-Ok.ensures.cause c.in-Ok.ensures.kept

pub returns-in-Err-Failed : goal.returns-in-Err-Failed
returns-in-Err-Failed g c = λ begun text h.
    let had : c.args.file.now.stage ≡ Some c.in-Some-take.stage = search rules in
    let failed = rw c.in-Err-Failed.field-0-is at c.in-Err-Failed.ensures.cause in
    rw c.take.ensures.after (lost _ _ begun c.args.file.now c.in-Some-take.stage had _ text h (Some c.in-Some.room) c.args.bytes.now c.in-Err-Failed.field-0 _ _
    _ _
    (rw c.in-Some.is at c.room_left.ensures text c.args.bytes.now refl h.room) c.in-Err-Failed.ensures.log _ c.in-Err-Failed.ensures.named c.abandon.ensures.log
    (subst (λ (n : ℕ). Faulted (g.S.Shelf.faults c.args.shelf.now) n) (sym c.abandon.ensures.faults) failed)
    (c.abandon.ensures.kept ∙ c.in-Err-Failed.ensures.kept))

pub returns-in-Err-Memory : goal.returns-in-Err-Memory
returns-in-Err-Memory g c = λ begun text h.
    let had : c.args.file.now.stage ≡ Some c.in-Some-take.stage = search rules in
    let quiet = rw c.in-Err-Memory.field-0-is at c.in-Err-Memory.ensures.cause in
    stopped _ _ begun c.args.file.now c.in-Some-take.stage had _ text h c.add.new.stage (Some c.in-Some.room) c.args.bytes.now c.in-Err-Memory.field-0 _ _ _
    c.in-Err-Memory.ensures.named c.in-Err-Memory.ensures.log quiet c.in-Err-Memory.ensures.kept
