use Rattle.ta_moment_tree.proofs.Common.{◌≡◌, ◌+◌, ◌≤◌, ◌^◌, ◌++◌, ◌∷◌, [], List, map, pos, length, arith, sym, ap, ◌∙◌, subst, refl, is_none, not_none}
use Rattle.ta_moment_tree.proofs.Common.{to_z_range, InRange, IsNormal, coefficient, IsNormal-higher, slice_index_or, Meaning, Parameter, place_coefficient}
use Rattle.ta_moment_tree.proofs.Common.{Sparse, start_few}
use Rattle.ta_encode.proofs.Sparse.{sparse_push, sparse_skip, sparse_all}
use Rattle.ta_moment_tree.proofs.Forms.{form_same}
use Rattle.ta_moment_tree.proofs.at.start_form.Goals.{then-coefficient-ne0+in_ok-push, else-coefficient-ne0}
use Rattle.ta_moment_tree.proofs.at.start_form.Goals as goal

pub invariant_of-result : goal.invariant_of-result
invariant_of-result c =
    let t = c.args.plan.now.task in
    let few : c.loop-unknown.unknown ≤ 2 ^ 32 = (
    let high = c.loop-unknown.auto.unknown-end in
    let same = ap (λ (ms : List Meaning). length ms) (c.as_slice-meaning-items.ensures ∙ c.requires.starts) in
    let most = start_few t.automaton.now t.pattern.now in
    let parameters = t.automaton.now.shape.limits.parameters_limit in
    let locations = t.automaton.now.shape.limits.locations_limit in
    omega arith
    ) in
    record {
      constant_fits = omega arith;
      normal = subst (IsNormal 0 (2 ^ 32)) (sym c.from_vec.ensures)
          (IsNormal-higher 0 c.loop-unknown.unknown (2 ^ 32) c.loop-unknown.terms.items few c.loop-unknown.invariant.normal);
    }

pub loop-unknown-preserved : goal.loop-unknown-preserved
loop-unknown-preserved c =
    let f = λ (m : Meaning). place_coefficient c.args.plan.now.task.automaton.now m c.args.place in
    let ms = c.as_slice-meaning-items.result.now in
    let n = c.loop-unknown.unknown in
    let z = c.place_coefficient-coefficient.result in
    let told = c.place_coefficient-coefficient.ensures in
    let fits : InRange z = (let h = told.small in omega arith) in
    elim c.if-coefficient-ne0.branch [
      | then-coefficient-ne0+in_ok-push w ↦
          sparse_push f ms n c.loop-unknown.terms.items c.if-coefficient-ne0.terms.items (Parameter 0) z c.loop-unknown.invariant c.loop-unknown-test.true
          told.value (not_none z w.if-coefficient-ne0.true) fits
          (ap (λ v. v.items) w.terms-is ∙ w.in_ok-push.ensures.items ∙ ap (λ y. c.loop-unknown.terms.items ++ (n, y) ∷ []) (to_z_range z fits))
      | else-coefficient-ne0 w ↦
          subst (λ ts. Sparse f ms (n + 1) ts) (sym (ap (λ v. v.items) w.terms-is))
          (sparse_skip f ms n c.loop-unknown.terms.items (Parameter 0) z c.loop-unknown.invariant c.loop-unknown-test.true told.value
          (is_none z fits w.if-coefficient-ne0.false))
    ]

pub returns : goal.returns
returns c =
    let f = λ (m : Meaning). place_coefficient c.args.plan.now.task.automaton.now m c.args.place in
    let end : c.loop-unknown.unknown ≡ length c.as_slice-meaning-items.result.now =
    (let low = c.loop-unknown-test.false in let high = c.loop-unknown.auto.unknown-end in omega arith) in
    form_same _ _ refl (λ u. ap (λ ts. coefficient ts u) c.from_vec.ensures
    ∙ sparse_all f c.as_slice-meaning-items.result.now c.loop-unknown.unknown c.loop-unknown.terms.items c.loop-unknown.invariant end u
    ∙ ap (λ (us : List Meaning). slice_index_or (map f us) u (pos 0)) (c.as_slice-meaning-items.ensures ∙ c.requires.starts))

pub overflow_cast-unknown : goal.overflow_cast-unknown
overflow_cast-unknown c =
    let t = c.args.plan.now.task in
    let b = c.loop-unknown-test.true in
    let same = ap (λ (ms : List Meaning). length ms) (c.as_slice-meaning-items.ensures ∙ c.requires.starts) in
    let most = start_few t.automaton.now t.pattern.now in
    let parameters = t.automaton.now.shape.limits.parameters_limit in
    let locations = t.automaton.now.shape.limits.locations_limit in
    omega arith
