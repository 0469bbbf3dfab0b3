use Rattle.ta_replay.proofs.Common.{◌≡◌, ℕ, ℤ, inl, inr, List, length, pos, slice_get, get_or, Some, IsBitSet, IsTrue, arith, rules, ap, sym, ◌∙◌, subst}
use Rattle.ta_replay.proofs.Common.{cases_lt, false≢true, to_z-of_z, slice_get-get_or, same_Some, rises_within, point_of}
use mir.Val.{SFits, to_z, of_z}
use mir.Syntax.{w128}
use Rattle.ta_replay.proofs.replaying.first_filled.Goals as goal
use Rattle.ta_replay.proofs.replaying.first_filled.Goals.{else-contains-via-then-contains+else-counts-place-ne0, else-contains-via-else-contains}

pub contains-requires : goal.contains-requires
contains-requires c =
    let a = c.args.automaton.now in
    let at : slice_get c.as_slice-location-items.result.now c.loop-place.place ≡ Some (get_or c.as_slice-location-items.result.now c.loop-place.place 0) =
    slice_get-get_or c.as_slice-location-items.result.now c.loop-place.place 0 (omega arith) in
    let here = subst (λ (ls : List ℕ). slice_get ls c.loop-place.place ≡ Some (get_or c.as_slice-location-items.result.now c.loop-place.place 0))
    c.as_slice-location-items.ensures at in
    let w = rises_within 0 (length a.locations) a.initial a.shape.initial_rises c.loop-place.place
    (get_or c.as_slice-location-items.result.now c.loop-place.place 0) here in
    omega (arith, w.1, a.shape.limits.locations_limit)

pub returns-then-counts-place-ne0-clause-some : goal.returns-then-counts-place-ne0-clause-some
returns-then-counts-place-ne0-clause-some c =
    let j = c.loop-place.place in
    let items = c.as_slice-location-items.result.now in
    let at : slice_get items j ≡ Some (get_or items j 0) = slice_get-get_or items j 0 (omega arith) in
    let test : IsTrue c.contains.result = c.if-contains.true in
    record {
      location = get_or items j 0;
      at = subst (λ (ls : List ℕ). slice_get ls j ≡ Some (get_or items j 0)) c.as_slice-location-items.ensures at;
      empty = c.contains.ensures.tells.0 test;
      some = λ e. c.if-counts-place-ne0.true (ap (λ z. of_z w128 z) (ap (λ (xs : List ℤ). get_or xs j (pos 0)) c.as_slice-counts.ensures ∙ e));
      before = c.loop-place.invariant;
    }

pub loop-place-preserved : goal.loop-place-preserved
loop-place-preserved c = λ i k b at bit.
    let j = c.loop-place.place in
    let items = c.as_slice-location-items.result.now in
    let here = subst (λ (ls : List ℕ). slice_get ls j ≡ Some (get_or items j 0)) c.as_slice-location-items.ensures (slice_get-get_or items j 0 (omega arith)) in
    elim (cases_lt i j) [
      | inl less ↦ c.loop-place.invariant i k less at bit
      | inr more ↦ (
          let same : i ≡ j = omega arith in
          let location : k ≡ get_or items j 0 = same_Some k (get_or items j 0) (sym at ∙ ap (λ n. slice_get c.args.automaton.now.initial n) same ∙ here) in
          elim c.else-contains.branch [
            | else-contains-via-then-contains+else-counts-place-ne0 w ↦ (
                let fits : SFits w128 (get_or c.as_slice-counts.result.now j (pos 0)) = search rules in
                let zero = ap (to_z w128) w.if-counts-place-ne0.false in
                let none = simp to_z-of_z at zero in
                ap (point_of c.args.run.now.counts) same ∙ ap (λ (xs : List ℤ). get_or xs j (pos 0)) (sym c.as_slice-counts.ensures) ∙ none)
            | else-contains-via-else-contains w ↦ (
                let told = c.contains.ensures.tells.1 (subst (IsBitSet c.args.pattern.now.empty) location bit) in
                absurd (false≢true (sym w.if-contains.false ∙ told)))
          ])
    ]
