use Rattle.ta_encode.proofs.Common.{List, map, pos, ◌≡◌, ◌+◌, ◌≤◌, ◌^◌, ◌++◌, ◌∷◌, [], length, arith, sym, ap, ◌∙◌, subst, is_none, not_none, to_z_range}
use Rattle.ta_encode.proofs.Common.{InRange, IsNormal, coefficient, IsNormal-higher, slice_index_or, Meaning, line_coefficient, Sparse}
use Rattle.ta_encode.specs.declared.meaning.Meaning.TheVariants.{Parameter}
use Rattle.ta_encode.proofs.Sparse.{sparse_push, sparse_skip, sparse_all}
use Rattle.ta_encode.proofs.draft.Draft.row_of.Goals.{then-coefficient-ne0+in_ok-push, else-coefficient-ne0}
use Rattle.ta_encode.proofs.draft.Draft.row_of.Goals as goal

pub invariant_of-result : goal.invariant_of-result
invariant_of-result c =
    let few : c.loop-unknown.unknown ≤ 2 ^ 32 = (let high = c.loop-unknown.auto.unknown-end in let most = c.args.self.now.few in omega arith) in
    record {
      constant_fits = subst InRange (sym (to_z_range c.args.constant c.requires.fits)) c.requires.fits;
      normal = subst (IsNormal 0 (2 ^ 32)) (sym c.from_vec.ensures)
          (IsNormal-higher 0 c.loop-unknown.unknown (2 ^ 32) c.loop-unknown.written.items few c.loop-unknown.invariant.normal);
    }

pub loop-unknown-preserved : goal.loop-unknown-preserved
loop-unknown-preserved c =
    let f = line_coefficient c.args.self.now.automaton.now c.args.line.now.terms.now c.args.line.now.less_starts c.args.line.now.sense in
    let n = c.loop-unknown.unknown in
    let z = c.coefficient_of-coefficient.result in
    let told = c.coefficient_of-coefficient.ensures in
    elim c.if-coefficient-ne0.branch [
      | then-coefficient-ne0+in_ok-push w ↦
          sparse_push f c.as_slice-meanings.result.now n c.loop-unknown.written.items c.if-coefficient-ne0.written.items (Parameter 0) z
          c.loop-unknown.invariant c.loop-unknown-test.true told.value (not_none z w.if-coefficient-ne0.true) told.fits
          (ap (λ v. v.items) w.written-is ∙ w.in_ok-push.ensures.items ∙ ap (λ y. c.loop-unknown.written.items ++ (n, y) ∷ []) (to_z_range z told.fits))
      | else-coefficient-ne0 w ↦
          subst (λ ts. Sparse f c.as_slice-meanings.result.now (n + 1) ts) (sym (ap (λ v. v.items) w.written-is))
          (sparse_skip f c.as_slice-meanings.result.now n c.loop-unknown.written.items (Parameter 0) z c.loop-unknown.invariant c.loop-unknown-test.true
          told.value (is_none z told.fits w.if-coefficient-ne0.false))
    ]

pub returns-clause-row : goal.returns-clause-row
returns-clause-row c =
    let f = line_coefficient c.args.self.now.automaton.now c.args.line.now.terms.now c.args.line.now.less_starts c.args.line.now.sense in
    let end : c.loop-unknown.unknown ≡ length c.as_slice-meanings.result.now =
    (let low = c.loop-unknown-test.false in let high = c.loop-unknown.auto.unknown-end in omega arith) in
    record {
      constant = to_z_range c.args.constant c.requires.fits;
      coefficients = λ u. ap (λ ts. coefficient ts u) c.from_vec.ensures
          ∙ sparse_all f c.as_slice-meanings.result.now c.loop-unknown.unknown c.loop-unknown.written.items c.loop-unknown.invariant end u
          ∙ ap (λ (us : List Meaning). slice_index_or (map f us) u (pos 0)) c.as_slice-meanings.ensures.value;
    }
