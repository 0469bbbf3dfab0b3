-- the values of a node's vectors, and the order of its stops, as the code finds them
use Rattle.ta_witness.proofs.Common.{In-numbers, in_numbers, moving_rules, int_lt, nat_lt, unsigned_abs, ◌||◌, any_below-at, any_below-next, any_below-none}
use Rattle.ta_witness.proofs.Common.{below_by, beyond_by, any_below, IsNormal, point_of, value_of, Form, form_value, sorted_is_chain, sum_grows, Comparable}
use Rattle.ta_witness.proofs.Common.{Counts, firings_in, counts_of, vector_of, count_at, form_values, is_below, moving_counts, listed}
use Rattle.ta_moments.proofs.Common.{Bool, true, false, cond, ◌≡◌, inl, inr, ℕ, zero, suc, ◌+◌, ◌<◌, ◌≤◌, ◌^◌, ℤ, pos, ◌+ℤ◌, ◌*ℤ◌, ◌≤ℤ◌, List, [], ◌∷◌, length}
use Rattle.ta_moments.proofs.Common.{map, slice_get, arith, ints, sym, ap, ◌∙◌, refl, cases_Bool, cases_lt, true≢false, eqb, range_sum-same, range_with_len, In}
use Rattle.ta_moments.proofs.Common.{In-filter, in_filter, Automaton, Pattern, is_moving}
use Rattle.ta_base.proofs.Naturals.{cond_apart, cond_same}
use Rattle.ta_linear.proofs.RangeSum.{terms_value-sum}
use Rattle.ta_linear.proofs.TermLemmas.{coefficient-below}
use Rattle.ta_linear.specs.Terms.{coefficient}
use Rattle.ta_moments.proofs.Values.{value_is, value_number}
use Rattle.ta_moments.proofs.Worth.{number}
use Rattle.ta_moments.specs.Laws.{Speaks}
use Rattle.ta_moments.specs.Nodes.{IsNatural}
use Rattle.ta_moment_tree.specs.Forms.{form_of}
use Rattle.ta_witness.specs.Inside.Stops.{VectorWithin}
use Rattle.ta_witness.proofs.Bridging.{map_within}
use Rattle.ta_witness.proofs.Listing.{are_listed, listed_at}

-- ---- forms of the first unknowns
own_term : (t : ℕ × ℤ) (ts : List (ℕ × ℤ)) (high : ℕ) → IsNormal (t.0 + 1) high ts → coefficient (t ∷ ts) t.0 ≡ t.1
own_term t ts high h =
    let none = coefficient-below (t.0 + 1) high ts t.0 h (omega arith) in
    let here : cond (eqb t.0 t.0) t.1 (pos 0) ≡ t.1 = cond_same t.0 t.0 t.1 (pos 0) refl in
    omega (arith, ints, none, here)

pub normal_within : (low high n : ℕ) (ts : List (ℕ × ℤ)) → IsNormal low high ts → low ≤ n → ((u : ℕ) → n ≤ u → coefficient ts u ≡ pos 0) → IsNormal low n ts
normal_within low high n [] h le speaks = le
normal_within low high n (t ∷ ts) h le speaks = elim (cases_lt t.0 n) [
  | inl b ↦ (
    h.0,
    h.1,
    normal_within (t.0 + 1) high n ts h.2 (omega (arith, b)) (λ u c.
        let other : cond (eqb t.0 u) t.1 (pos 0) ≡ pos 0 = cond_apart t.0 u t.1 (pos 0) (λ e. absurd (let w = e in omega (arith, w, b, c))) in
        omega (arith, ints, other, speaks u c)),
  )
  | inr b ↦ absurd (h.1.not_zero (sym (own_term t ts high h.2) ∙ speaks t.0 b))
]

pub vector_within : (n : ℕ) (fs : List Form) → ((r : ℕ) → Speaks n (vector_of fs r)) → VectorWithin n fs
vector_within n [] h = tt
vector_within n (f ∷ fs) h = (normal_within 0 (2 ^ 32) n f.terms f.normal (omega arith) (λ u c. h 0 u c), vector_within n fs (λ r u c. h (suc r) u c))

-- ---- their values
point_at : (vs : List ℕ) (x : ℕ) → point_of (map pos vs) x ≡ number vs x
point_at [] x = refl
point_at (v ∷ vs) zero = refl
point_at (v ∷ vs) (suc x) = point_at vs x

pub form_at : (vs : List ℕ) (f : Form) → IsNormal 0 (length vs) f.terms → value_of (point_of (map pos vs)) f ≡ form_value vs (form_of f)
form_at vs f h =
    let terms = terms_value-sum (point_of (map pos vs)) 0 (length vs) f.terms h in
    let same = range_sum-same (λ x. coefficient f.terms x *ℤ point_of (map pos vs) x) (λ x. coefficient f.terms x *ℤ number vs x) (length vs)
    (λ x b. ap (λ z. coefficient f.terms x *ℤ z) (point_at vs x)) in
    ap (λ z. f.constant +ℤ z) (terms ∙ same) ∙ sym (value_is vs (form_of f))

pub vector_at : (vs : List ℕ) (fs : List Form) (r : ℕ) → VectorWithin (length vs) fs → count_at (form_values (map pos vs) fs) r ≡ form_value vs (vector_of fs r)
vector_at vs [] r h = sym (value_number vs (pos 0))
vector_at vs (f ∷ fs) zero h = form_at vs f h.0
vector_at vs (f ∷ fs) (suc r) h = vector_at vs fs r h.1

natural_is : (z : ℤ) → pos 0 ≤ℤ z → pos (unsigned_abs z) ≡ z
natural_is z h = grind (arith, ints)

pub counts_listed : (a : Automaton) (p : Pattern) (vs : List ℕ) (fs : List Form) → VectorWithin (length vs) fs → IsNatural a p vs (vector_of fs)
    → moving_counts a p (form_values (map pos vs) fs) ≡ listed a p (counts_of vs (vector_of fs))
counts_listed a p vs fs h natural = map_within (λ r. cond (is_moving p (slice_get a.rules r)) (count_at (form_values (map pos vs) fs) r) (pos 0))
    (λ r. cond (is_moving p (slice_get a.rules r)) (pos (counts_of vs (vector_of fs) r)) (pos 0)) 0 (length a.rules)
    (λ r b. elim (cases_Bool (is_moving p (slice_get a.rules r))) [
      | inl t ↦ (
          let i : In r (moving_rules a p) = In-filter (λ q. is_moving p (slice_get a.rules q)) r (range_with_len 0 (length a.rules)) t
          (In-numbers r 0 (length a.rules) (omega arith) (omega arith)) in
          ap (λ z. cond (is_moving p (slice_get a.rules r)) z (pos 0)) (vector_at vs fs r h ∙ sym (natural_is (form_value vs (vector_of fs r)) (natural r i))))
      | inr e ↦ ap (λ c. cond c (count_at (form_values (map pos vs) fs) r) (pos 0)) e ∙ sym (ap (λ c. cond c (pos (counts_of vs (vector_of fs) r)) (pos 0)) e)
    ])

-- ---- which of two stops is below
no_test : (n : ℕ) (test : ℕ → Bool) → ((k : ℕ) → k < n → test k ≡ false) → any_below n test ≡ false
no_test zero test h = any_below-none test
no_test (suc n) test h =
    ap (λ (m : ℕ). any_below m test) (let e : suc n ≡ n + 1 = omega arith in e) ∙ any_below-next n test ∙ ap (λ b. b || any_below n test) (h n (omega arith))
    ∙ no_test n test (λ k b. h k (omega arith))

less_at : (b : Bool) (x y : ℕ) → y ≤ x → int_lt (cond b (pos x) (pos 0)) (cond b (pos y) (pos 0)) ≡ false
less_at true x y h = grind (arith, ints)
less_at false x y h = refl

not_less_at : (x y : ℕ) → int_lt (pos x) (pos y) ≡ false → y ≤ x
not_less_at x y h = grind (arith, ints)

pub below_same : (a : Automaton) (p : Pattern) (t s : Counts) → Comparable (moving_rules a p) s t
    → is_below (listed a p t) (listed a p s) ≡ nat_lt (firings_in (moving_rules a p) t) (firings_in (moving_rules a p) s)
below_same a p t s comparable =
    let rs = moving_rules a p in
    let n = length a.rules in
    let test : ℕ → Bool = λ r. int_lt (count_at (listed a p t) r) (count_at (listed a p s) r) in
    let size : length (listed a p s) ≡ n = (are_listed a p s).each_rule in
    let at : (r : ℕ) → r < n → test r ≡ int_lt (cond (is_moving p (slice_get a.rules r)) (pos (t r)) (pos 0))
    (cond (is_moving p (slice_get a.rules r)) (pos (s r)) (pos 0)) =
    (λ r b. ap (λ z. int_lt z (count_at (listed a p s) r)) (listed_at a p t r b)
    ∙ ap (int_lt (cond (is_moving p (slice_get a.rules r)) (pos (t r)) (pos 0))) (listed_at a p s r b)) in
    ap (λ (m : ℕ). any_below m test) size ∙ elim (cases_Bool (nat_lt (firings_in rs t) (firings_in rs s))) [
      | inl e ↦ (
          let less = below_by (firings_in rs t) (firings_in rs s) (nat_lt (firings_in rs t) (firings_in rs s)) refl e in
          elim (cases_Bool (any_below n test)) [
            | inl yes_below ↦ yes_below ∙ sym e
            | inr none ↦ absurd (
                let each : (r : ℕ) → In r rs → s r ≤ t r = (λ r i.
                let w = in_filter (λ q. is_moving p (slice_get a.rules q)) r (range_with_len 0 n) i in
                let b : r < n = (let c = (in_numbers r 0 n w.1).1 in omega (arith, c)) in
                let moves : int_lt (cond (is_moving p (slice_get a.rules r)) (pos (t r)) (pos 0)) (cond (is_moving p (slice_get a.rules r)) (pos (s r)) (pos 0))
                ≡ int_lt (pos (t r)) (pos (s r)) = ap (λ c. int_lt (cond c (pos (t r)) (pos 0)) (cond c (pos (s r)) (pos 0))) w.0 in
                elim (cases_Bool (test r)) [
                  | inl yes_test ↦ absurd (true≢false (sym (any_below-at n test r b yes_test) ∙ none))
                  | inr no_less ↦ not_less_at (t r) (s r) (sym moves ∙ sym (at r b) ∙ no_less)
                ]) in
                let most = sum_grows rs s t each in
                omega (arith, most, less))
          ])
      | inr e ↦ (
          let most = beyond_by (firings_in rs t) (firings_in rs s) (nat_lt (firings_in rs t) (firings_in rs s)) refl e in
          let each = sorted_is_chain rs s t comparable most in
          no_test n test (λ r b. at r b ∙ elim (cases_Bool (is_moving p (slice_get a.rules r))) [
            | inl moves ↦ less_at (is_moving p (slice_get a.rules r)) (t r) (s r)
                (each r (In-filter (λ q. is_moving p (slice_get a.rules q)) r (range_with_len 0 n) moves (In-numbers r 0 n (omega arith) (omega arith))))
            | inr stands ↦ ap (λ c. int_lt (cond c (pos (t r)) (pos 0)) (cond c (pos (s r)) (pos 0))) stands
          ]) ∙ sym e)
    ]
