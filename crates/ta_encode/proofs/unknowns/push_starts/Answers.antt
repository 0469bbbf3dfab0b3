use Rattle.ta_encode.proofs.Common.{ℕ, Bool, ◌++◌, ◌∷◌, [], map, not, take, get_or, ap, ◌∙◌, append_assoc, filter, has_bit, bit_off, bit_on, item_none, ◌≡◌}
use Rattle.ta_encode.proofs.Common.{item_one, sym, Start, take_all}
use Rattle.std.proofs.Common.{append-nil}
use Rattle.ta_encode.proofs.Masked.{initial_within}
use Rattle.ta_encode.proofs.unknowns.push_starts.Goals.{then-empty-location-eq0+in_ok-push, else-empty-location-eq0}
use Rattle.ta_encode.proofs.unknowns.push_starts.Goals as goal

pub overflow_shl-location : goal.overflow_shl-location
overflow_shl-location c = initial_within c.args.automaton.now c.as_slice-location-items.result.now c.loop-location.location-index 0
    c.as_slice-location-items.ensures c.loop-location-test.true

pub loop-location-preserved : goal.loop-location-preserved
loop-location-preserved c =
    let items = c.as_slice-location-items.result.now in
    let i = c.loop-location.location-index in
    let l = get_or items i 0 in
    let before = c.args.meanings.now.items in
    let test : ℕ → Bool = λ k. not (has_bit c.args.empty k) in
    let done = map Start (filter test (take i items)) in
    let within = initial_within c.args.automaton.now items i 0 c.as_slice-location-items.ensures c.loop-location-test.true in
    elim c.if-empty-location-eq0.branch [
      | then-empty-location-eq0+in_ok-push w ↦
          ap (λ v. v.items) w.meanings-is ∙ w.in_ok-push.ensures.items ∙ ap (λ ms. ms ++ Start l ∷ []) c.loop-location.invariant
          ∙ append_assoc before done (Start l ∷ [])
          ∙ ap (λ ms. before ++ ms) (item_one Start test items i 0 c.loop-location-test.true
          (ap not (bit_off 128 c.args.empty l within w.if-empty-location-eq0.true)))
      | else-empty-location-eq0 w ↦
          ap (λ v. v.items) w.meanings-is ∙ c.loop-location.invariant
          ∙ ap (λ ms. before ++ ms) (item_none Start test items i 0 c.loop-location-test.true
          (ap not (bit_on 128 c.args.empty l within w.if-empty-location-eq0.false)))
    ]

pub loop-location-init : goal.loop-location-init
loop-location-init c = sym (append-nil c.args.meanings.now.items)

pub returns : goal.returns
returns c =
    let items = c.as_slice-location-items.result.now in
    let all : take c.loop-location.location-index items ≡ items = take_all _ _ c.loop-location-test.false in
    c.loop-location.invariant
    ∙ ap (λ ls. c.args.meanings.now.items ++ map Start (filter (λ k. not (has_bit c.args.empty k)) ls)) (all ∙ c.as_slice-location-items.ensures)
