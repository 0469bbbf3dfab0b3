use Rattle.ta_moment_tree.proofs.Common.{◌≡◌, ◌∙◌, ◌+◌, ◌*◌, ◌≤◌, ◌^◌, ◌∷◌, [], List, Option, Some, None, length, map, slice_get, arith, ap, sym, subst, refl}
use Rattle.ta_moment_tree.proofs.Common.{ltb-false, slice_get_past, slice_get_read, Rule, UnknownForm, opposite_form, place_form, source_at, vector_of}
use Rattle.ta_moment_tree.proofs.Adding.{adds_none, adds_same}
use Rattle.ta_moment_tree.proofs.Forms.{small_more}
use Rattle.ta_moment_tree.proofs.silence.push_vacant.Goals as goal

pub opposite-requires : goal.opposite-requires
opposite-requires c = small_more (17000000000 * 3100) (2 ^ 119) _ (omega arith) c.in_ok-counter-in-Some.ensures.small

pub returns-in-None : goal.returns-in-None
returns-in-None c =
    let t = c.args.plan.now.task in
    let items = c.as_slice.result.now in
    let past : length items ≤ c.args.rule = ltb-false c.args.rule (length items) (sym c.in-None.ensures.lookup.0) in
    let none : slice_get t.automaton.now.rules c.args.rule ≡ None = subst (λ (rs : List Rule). slice_get rs c.args.rule ≡ None) c.as_slice.ensures
    (slice_get_past items c.args.rule past) in
    adds_same _ _ _ _ (sym (ap (λ (o : Option Rule). map opposite_form (source_at t.automaton.now t.pattern.now (vector_of c.args.vector.now) o)) none))
    (adds_none c.args.rows.now.items)

pub returns-in_ok-push_form-in-Some : goal.returns-in_ok-push_form-in-Some
returns-in_ok-push_form-in-Some c =
    let t = c.args.plan.now.task in
    let found = c.in-Some.ensures.lookup in
    let rule = c.in-Some.rule.now in
    let items = c.as_slice.result.now in
    let at : slice_get t.automaton.now.rules c.args.rule ≡ Some rule = subst (λ (rs : List Rule). slice_get rs c.args.rule ≡ Some rule) c.as_slice.ensures
    (slice_get_read items (length items) c.args.rule rule refl found.3.0 found.1) in
    let counter = c.in_ok-counter-in-Some.ensures.value
    ∙ ap (place_form t.automaton.now t.pattern.now (vector_of c.args.vector.now)) (ap (λ n. n + rule.from) c.first_location.ensures) in
    adds_same _ _ _ _
    (ap (λ (f : UnknownForm). f ∷ []) (c.in_ok-turned-in-Some.ensures ∙ ap opposite_form counter)
    ∙ sym (ap (λ (o : Option Rule). map opposite_form (source_at t.automaton.now t.pattern.now (vector_of c.args.vector.now) o)) at))
    c.in_ok-push_form-in-Some.ensures
