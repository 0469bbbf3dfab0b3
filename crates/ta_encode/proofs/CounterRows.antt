-- the rows of all counters, unknown by unknown
use Rattle.ta_encode.proofs.Common.{◌≡◌, ◌≢◌, inl, inr, ℕ, zero, suc, ℤ, pos, negsuc, ◌+◌, ◌<◌, ◌-ℤ◌, List, [], ◌∷◌, ◌++◌, length, map, filter, range_with_len}
use Rattle.ta_encode.proofs.Common.{get_or, Some, Bool, cond, append-nil, cases_Bool, passed_none, passed_one, LinearRow, arith, ints, refl, sym, ap, ◌∙◌}
use Rattle.ta_encode.proofs.Common.{subst, cases_eq, length-map, get_or-map, InRange, Automaton, Rule, Row, Meaning, IsNormal, coefficient, IsRowOf}
use Rattle.ta_encode.proofs.Common.{counter_row, one_if, one_if-ne, one_if-shift, location_place, shared_change-location, rule_change, AreCounters}
use Rattle.ta_encode.proofs.Common.{counter_coefficient, terms_at, terms_in, Sparse, Counter}
use Rattle.std.specs.Prelude.{set}
use Rattle.std.proofs.lemmas.List.{map-set, get_or-set_same, get_or-set_other}
use Rattle.ta_base.proofs.Totals.{one_if-one}
use Rattle.ta_encode.specs.Inside.Counters.{Gains}
use Rattle.ta_encode.proofs.Sparse.{sparse_all, sparse_push, sparse_skip}

-- ---- one counter is written
pub written_here : (cs : List Counter) (l : ℕ) (x d : Counter) (t : ℕ × ℤ) → l < length cs
    → terms_in x ≡ terms_in (get_or cs l d) ++ t ∷ [] → terms_at (set cs l x) l ≡ terms_at cs l ++ t ∷ []
written_here cs l x d t b e =
    ap (λ (xs : List (List (ℕ × ℤ))). get_or xs l []) (map-set terms_in cs l x)
    ∙ get_or-set_same (map terms_in cs) l (terms_in x) [] (omega (arith, length-map cs terms_in)) ∙ e
    ∙ ap (λ (ts : List (ℕ × ℤ)). ts ++ t ∷ []) (sym (get_or-map terms_in cs l d [] b))

pub written_there : (cs : List Counter) (l k : ℕ) (x : Counter) → k ≢ l → terms_at (set cs l x) k ≡ terms_at cs k
written_there cs l k x apart =
    ap (λ (xs : List (List (ℕ × ℤ))). get_or xs k []) (map-set terms_in cs l x) ∙ get_or-set_other (map terms_in cs) l k (terms_in x) [] apart

-- ---- what is gained
gain_none : (n : ℕ) (z : ℤ) (before after : List (ℕ × ℤ)) → z ≡ pos 0 → after ≡ before → Gains n z before after
gain_none n z before after none is = inl (none, is)

gain_some : (n : ℕ) (z y : ℤ) (before after : List (ℕ × ℤ)) → z ≡ y → y ≢ pos 0 → InRange y → after ≡ before ++ (n, y) ∷ [] → Gains n z before after
gain_some n z y before after e some fits is =
    inr ((λ none. some (sym e ∙ none)), subst InRange (sym e) fits, is ∙ ap (λ (x : ℤ). before ++ (n, x) ∷ []) (sym e))

pub gain_as : (n : ℕ) (z y : ℤ) (before after : List (ℕ × ℤ)) → z ≡ y → Gains n y before after → Gains n z before after
gain_as n z y before after e gain = subst (λ (x : ℤ). Gains n x before after) (sym e) gain

-- what a rule changes at a location
pub location_change : (a : Automaton) (rule : Rule) (l : ℕ) → rule_change a (Some rule) (location_place a l) ≡ (one_if rule.to l -ℤ one_if rule.from l)
location_change a rule l =
    let first = length a.parameters + length a.shared in
    omega (arith, ints, shared_change-location a rule l, one_if-shift first rule.to l, one_if-shift first rule.from l)

-- ---- the terms of a counter, unknown by unknown
pub none_more : (cs : List Counter) (x : Counter) → terms_in x ≡ [] → ((l : ℕ) → terms_at cs l ≡ []) → (l : ℕ) → terms_at (cs ++ x ∷ []) l ≡ []
none_more [] x e h zero = e
none_more [] x e h (suc l) = refl
none_more (c ∷ cs) x e h zero = h zero
none_more (c ∷ cs) x e h (suc l) = none_more cs x e (λ k. h (suc k)) l

pub none_written : (a : Automaton) (ms : List Meaning) (cs : List Counter) → ((l : ℕ) → terms_at cs l ≡ []) → AreCounters a ms 0 cs
none_written a ms cs h = record {
  each = λ l b.
      let none : Sparse (counter_coefficient a l) ms 0 [] = record { normal = omega arith; coefficients = λ u c. absurd (omega arith) } in
      subst (λ (ts : List (ℕ × ℤ)). Sparse (counter_coefficient a l) ms 0 ts) (sym (h l)) none;
}

gained : {M : Type 0} (f : M → ℤ) (ms : List M) (n : ℕ) (before after : List (ℕ × ℤ)) (d : M) (z : ℤ)
    → Gains n z before after → Sparse f ms n before → n < length ms → z ≡ f (get_or ms n d) → Sparse f ms (n + 1) after
gained f ms n before after d z gain are b e = elim gain [
  | inl none ↦ subst (λ (ts : List (ℕ × ℤ)). Sparse f ms (n + 1) ts) (sym none.1) (sparse_skip f ms n before d z are b e none.0)
  | inr some ↦ sparse_push f ms n before after d z are b e some.0 some.1 some.2
]

pub one_more : (a : Automaton) (ms : List Meaning) (n : ℕ) (d : Meaning) (before after : List Counter)
    → AreCounters a ms n before → n < length ms → length after ≡ length before
    → ((l : ℕ) → l < length before → Gains n (counter_coefficient a l (get_or ms n d)) (terms_at before l) (terms_at after l)) → AreCounters a ms (n + 1) after
one_more a ms n d before after are b long gain = record {
  each = λ l c.
      let inside : l < length before = omega (arith, long) in
      let f = counter_coefficient a l in
      gained f ms n (terms_at before l) (terms_at after l) d (f (get_or ms n d)) (gain l inside) (are.each l inside) b refl;
}

-- ---- the counters from a location on, taken one by one
abbrev pub AreFrom : Automaton → List Meaning → ℕ → List Counter → Type 0
AreFrom a ms l [] = Unit {0}
AreFrom a ms l (c ∷ cs) = Sparse (counter_coefficient a l) ms (length ms) (terms_in c) × AreFrom a ms (l + 1) cs

from_each : (a : Automaton) (ms : List Meaning) (l : ℕ) (cs : List Counter)
    → ((k : ℕ) → k < length cs → Sparse (counter_coefficient a (l + k)) ms (length ms) (terms_at cs k)) → AreFrom a ms l cs
from_each a ms l [] h = tt
from_each a ms l (c ∷ cs) h = (
  subst (λ (n : ℕ). Sparse (counter_coefficient a n) ms (length ms) (terms_in c)) (let e : l + 0 ≡ l = omega arith in e) (h 0 (omega arith)),
  from_each a ms (l + 1) cs (λ k b.
      let e : l + suc k ≡ l + 1 + k = omega arith in
      subst (λ (n : ℕ). Sparse (counter_coefficient a n) ms (length ms) (terms_at cs k)) e (h (suc k) (omega arith))),
)

pub all_from : (a : Automaton) (ms : List Meaning) (cs : List Counter) → AreCounters a ms (length ms) cs → AreFrom a ms 0 cs
all_from a ms cs are = from_each a ms 0 cs (λ k b.
    let e : k ≡ 0 + k = omega arith in
    subst (λ (n : ℕ). Sparse (counter_coefficient a n) ms (length ms) (terms_at cs k)) e (are.each k b))

pub first_from : (a : Automaton) (ms : List Meaning) (l : ℕ) (c : Counter) (all cs : List Counter) → all ≡ c ∷ cs → AreFrom a ms l all
    → Sparse (counter_coefficient a l) ms (length ms) (terms_in c) × AreFrom a ms (l + 1) cs
first_from a ms l c all cs e are = subst (AreFrom a ms l) e are

-- the row of a counter whose terms are written
pub counter_written : (a : Automaton) (ms : List Meaning) (l : ℕ) (row : Row) (ts : List (ℕ × ℤ))
    → Sparse (counter_coefficient a l) ms (length ms) ts → row.form.constant ≡ pos 0 → row.form.terms ≡ ts
    → IsRowOf (counter_row a ms l) row × IsNormal 0 (length ms) row.form.terms
counter_written a ms l row ts are none e = (
  record {
    constant = none;
    coefficients = λ u. ap (λ (xs : List (ℕ × ℤ)). coefficient xs u) e ∙ sparse_all (counter_coefficient a l) ms (length ms) ts are refl u;
  },
  subst (IsNormal 0 (length ms)) (sym e) are.normal,
)

-- one location more
pub passed_step : (f : ℕ → LinearRow) (test : ℕ → Bool) (n : ℕ)
    → map f (filter test (range_with_len 0 n)) ++ cond (test n) (f n ∷ []) [] ≡ map f (filter test (range_with_len 0 (n + 1)))
passed_step f test n =
    let so_far = map f (filter test (range_with_len 0 n)) in
    let with = λ (b : Bool). so_far ++ cond b (f n ∷ []) [] in
    elim (cases_Bool (test n)) [
      | inl t ↦ ap with t ∙ passed_one f test n t
      | inr t ↦ ap with t ∙ append-nil so_far ∙ passed_none f test n t
    ]
