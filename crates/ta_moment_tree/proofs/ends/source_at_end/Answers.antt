use Rattle.ta_moment_tree.proofs.Common.{◌≡◌, ◌∙◌, ◌+◌, ◌∷◌, [], List, Option, Some, length, slice_get, ap, sym, subst, refl, slice_get_read, Rule, UnknownForm}
use Rattle.ta_moment_tree.proofs.Common.{place_form, source_at, vector_of}
use Rattle.ta_moment_tree.proofs.ends.source_at_end.Goals as goal

pub returns : goal.returns
returns c =
    let t = c.args.plan.now.task in
    let found = c.in-Some.ensures.lookup in
    let rule = c.in-Some.rule.now in
    let items = c.as_slice.result.now in
    let at : slice_get t.automaton.now.rules c.args.rule ≡ Some rule = subst (λ (rs : List Rule). slice_get rs c.args.rule ≡ Some rule) c.as_slice.ensures
    (slice_get_read items (length items) c.args.rule rule refl found.3.0 found.1) in
    let counter = c.in_ok-form-in-Some.ensures.value ∙ ap (place_form t.automaton.now t.pattern.now (vector_of c.args.end.now))
    (ap (λ n. n + rule.from) c.first_location.ensures) in
    ap (λ (f : UnknownForm). f ∷ []) counter ∙ sym (ap (λ (o : Option Rule). source_at t.automaton.now t.pattern.now (vector_of c.args.end.now) o) at)
