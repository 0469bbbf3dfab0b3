-- a row's terms, unknown by unknown
use Rattle.ta_encode.proofs.Common.{◌≡◌, ◌≢◌, inl, inr, ℕ, ℤ, pos, ◌+◌, ◌<◌, List, [], ◌∷◌, ◌++◌, length, map, get_or, arith, sym, ap, ◌∙◌, subst, ints}
use Rattle.ta_encode.proofs.Common.{get_past, below_or_last, InRange, coefficient, IsNormal, IsNormal-push, IsNormal-higher, coefficient-append}
use Rattle.ta_encode.proofs.Common.{coefficient-above, get_or-map, cond_apart, cond_same, cases_lt, Sparse}

pub sparse_push : {M : Type 0} (f : M → ℤ) (ms : List M) (n : ℕ) (ts next : List (ℕ × ℤ)) (d : M) (z : ℤ) → Sparse f ms n ts → n < length ms
    → z ≡ f (get_or ms n d) → z ≢ pos 0 → InRange z → next ≡ ts ++ (n, z) ∷ [] → Sparse f ms (n + 1) next
sparse_push f ms n ts next d z h b same some fits e = record {
  normal = subst (IsNormal 0 (n + 1)) (sym e) (IsNormal-push 0 n ts (n, z) h.normal (omega arith) (record { not_zero = some; in_range = fits }));
  coefficients = λ u c. ap (λ us. coefficient us u) e ∙ coefficient-append ts ((n, z) ∷ []) u ∙ elim (below_or_last u n c) [
    | inl below ↦ (let other : n ≢ u = (λ q. absurd (let w = q in omega arith)) in omega (arith, ints, cond_apart n u z (pos 0) other, h.coefficients u below))
    | inr here ↦ (let value : get_or (map f ms) u (pos 0) ≡ z = ap (λ k. get_or (map f ms) k (pos 0)) here ∙ get_or-map f ms n d (pos 0) b ∙ sym same in
        omega (arith, ints, cond_same n u z (pos 0) (sym here), coefficient-above 0 n ts u h.normal (omega arith), value))
  ];
}

pub sparse_skip : {M : Type 0} (f : M → ℤ) (ms : List M) (n : ℕ) (ts : List (ℕ × ℤ)) (d : M) (z : ℤ) → Sparse f ms n ts → n < length ms → z ≡ f (get_or ms n d)
    → z ≡ pos 0 → Sparse f ms (n + 1) ts
sparse_skip f ms n ts d z h b same none = record {
  normal = IsNormal-higher 0 n (n + 1) ts (omega arith) h.normal;
  coefficients = λ u c. elim (below_or_last u n c) [
    | inl below ↦ h.coefficients u below
    | inr here ↦ coefficient-above 0 n ts u h.normal (omega arith) ∙ sym none ∙ same ∙ sym (get_or-map f ms n d (pos 0) b)
        ∙ ap (λ k. get_or (map f ms) k (pos 0)) (sym here)
  ];
}

pub sparse_all : {M : Type 0} (f : M → ℤ) (ms : List M) (n : ℕ) (ts : List (ℕ × ℤ)) → Sparse f ms n ts → n ≡ length ms → (u : ℕ)
    → coefficient ts u ≡ get_or (map f ms) u (pos 0)
sparse_all f ms n ts h e u = elim (cases_lt u n) [
  | inl b ↦ h.coefficients u b
  | inr b ↦ coefficient-above 0 n ts u h.normal b ∙ sym (get_past f ms u (omega arith))
]
