use Rattle.ta_moment_tree.proofs.Common.{◌≡◌, ◌∙◌, ℕ, Bool, not, ◌+◌, ◌++◌, ◌∷◌, [], arith, ap, sym, subst, length, List, map, filter, range_with_len, has_bit}
use Rattle.ta_moment_tree.proofs.Common.{passed_none, passed_one, location_place, Row, UnknownForm, place_form, vector_of, AddsForms}
use Rattle.ta_moment_tree.proofs.Adding.{adds_more, adds_same}
use Rattle.ta_moment_tree.proofs.rows.push_counters.Goals.{then-not-contains+in_ok-counter+in_ok-push_form, else-not-contains}
use Rattle.ta_moment_tree.proofs.rows.push_counters.Goals as goal

pub loop-location-preserved : goal.loop-location-preserved
loop-location-preserved c =
    let a = c.args.plan.now.task.automaton.now in
    let p = c.args.plan.now.task.pattern.now in
    let l = c.loop-location.location in
    let test : ℕ → Bool = λ k. not (has_bit p.empty k) in
    let g : ℕ → UnknownForm = λ k. place_form a p (vector_of c.args.vector.now) (location_place a k) in
    let place : c.first_location-first.result + l ≡ location_place a l = ap (λ n. n + l) c.first_location-first.ensures in
    elim c.if-not-contains.branch [
      | then-not-contains+in_ok-counter+in_ok-push_form w ↦
          subst (λ (rs : List Row). AddsForms (map g (filter test (range_with_len 0 (l + 1)))) c.args.rows.now.items rs) (sym (ap (λ v. v.items) w.rows-is))
          (adds_more _ _ _ _ _ _
          (ap (λ (f : UnknownForm). map g (filter test (range_with_len 0 l)) ++ f ∷ [])
          (w.in_ok-counter.ensures.value ∙ ap (place_form a p (vector_of c.args.vector.now)) place)
          ∙ passed_one g test l (ap not (sym c.contains.ensures.bit ∙ w.if-not-contains.true)))
          c.loop-location.invariant w.in_ok-push_form.ensures)
      | else-not-contains w ↦
          subst (λ (rs : List Row). AddsForms (map g (filter test (range_with_len 0 (l + 1)))) c.args.rows.now.items rs) (sym (ap (λ v. v.items) w.rows-is))
          (adds_same _ _ _ _ (passed_none g test l (ap not (sym c.contains.ensures.bit ∙ w.if-not-contains.false))) c.loop-location.invariant)
    ]

pub returns : goal.returns
returns c =
    let a = c.args.plan.now.task.automaton.now in
    let p = c.args.plan.now.task.pattern.now in
    let test : ℕ → Bool = λ k. not (has_bit p.empty k) in
    let g : ℕ → UnknownForm = λ k. place_form a p (vector_of c.args.vector.now) (location_place a k) in
    let same = ap (λ (ls : List (List ℕ)). length ls) c.as_slice-location-end.ensures in
    let high = c.loop-location.auto.location-end in
    let low = c.loop-location-test.false in
    let end : c.loop-location.location ≡ length a.locations = omega arith in
    adds_same _ _ _ _ (ap (λ n. map g (filter test (range_with_len 0 n))) end) c.loop-location.invariant
