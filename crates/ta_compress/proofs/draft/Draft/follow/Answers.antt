use Rattle.ta_compress.proofs.Common.{◌≡◌, ◌+◌, ◌++◌, ◌∷◌, [], unsigned_abs, arith, sym, ap, ◌∙◌, subst, on_ok_weaker, RunLine, factor_of, DraftAt, LineKeeps}
use Rattle.ta_compress.proofs.Common.{MayRepeat, Room, unfolded}
use Rattle.ta_base.proofs.Integers.{to_z_abs}
use Rattle.ta_compress.proofs.Counted.{mark_ready, mark_room}
use Rattle.ta_compress.proofs.Drafting.{marked}
use Rattle.ta_compress.proofs.draft.Draft.follow.Goals as goal

pub repeat-requires-clause-may : goal.repeat-requires-clause-may
repeat-requires-clause-may c =
    let may = rw c.in-Step.is at c.requires.may in
    let count : c.unsigned_abs.result ≡ unsigned_abs c.in-Step.factor = c.unsigned_abs.ensures.value
    ∙ ap unsigned_abs (to_z_abs c.in-Step.factor 1000000 may.2 (omega arith)) in
    subst (λ n. MayRepeat c.args.scoped.now.file.automaton c.in-Step.rule n c.args.self.now.config.values.items) (sym count) may.3

pub returns-in-Step-clause-keeps : goal.returns-in-Step-clause-keeps
returns-in-Step-clause-keeps c =
    let a = c.args.scoped.now.file.automaton in
    let values = c.args.self.now.config.values.items in
    let may = rw c.in-Step.is at c.requires.may in
    let count : c.unsigned_abs.result ≡ unsigned_abs c.in-Step.factor = c.unsigned_abs.ensures.value
    ∙ ap unsigned_abs (to_z_abs c.in-Step.factor 1000000 may.2 (omega arith)) in
    on_ok_weaker c.repeat.result (λ stayed. subst (LineKeeps a values) (sym c.in-Step.is) (λ times some most. stayed times some (omega arith)))
    c.repeat.ensures.stayed

pub returns-in_ok-mark-in-Mark-clause-goes : goal.returns-in_ok-mark-in-Mark-clause-goes
returns-in_ok-mark-in-Mark-clause-goes c = λ first done d.
    let a = c.args.scoped.now.file.automaton in
    let closes = c.in_ok-mark-in-Mark.ensures.closes in
    let ready = mark_ready a c.args.self.now c.mark.new.self c.requires.ready c.in_ok-mark-in-Mark.ensures.config c.in_ok-mark-in-Mark.ensures.guards
    closes.none_left in
    subst (λ (l : RunLine). DraftAt a first (done ++ unfolded (l ∷ [])) c.mark.new.self) (sym c.in-Mark.is)
    (marked a first done c.in-Mark.event c.args.self.now c.mark.new.self d ready c.in_ok-mark-in-Mark.ensures.config closes)

pub returns-in_ok-mark-in-Mark-clause-room : goal.returns-in_ok-mark-in-Mark-clause-room
returns-in_ok-mark-in-Mark-clause-room c = λ more room.
    mark_room c.args.scoped.now.file.automaton c.args.self.now c.mark.new.self c.requires.ready (c.in_ok-mark-in-Mark.ensures.closes).none_left more
    (subst (λ (l : RunLine). Room (factor_of l + more) c.args.self.now.counts.items) c.in-Mark.is room)
