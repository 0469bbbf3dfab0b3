-- no form of a moment's vector leaves the range at natural values in range: each is 0, an unknown, or the difference of two
use Rattle.ta_walk.proofs.Common.{each_append, each_map_all, coefficient-below, InRange, IsNormal, Fact, Never, First, Stands, Last, Before, After, Same}
use Rattle.ta_walk.proofs.Common.{Vacant, Fails, vector_of, moment_of}
use Rattle.ta_moments.proofs.Common.{◌≡◌, ◌⊎◌, inl, inr, ℕ, zero, suc, ◌+◌, ◌<◌, ◌≤◌, ◌^◌, ℤ, pos, negsuc, ◌+ℤ◌, ◌-ℤ◌, ◌*ℤ◌, ◌≤ℤ◌, List, [], ◌∷◌, length}
use Rattle.ta_moments.proofs.Common.{Option, Some, None, eqb, cond, arith, ints, refl, sym, ap, ◌∙◌, subst, nat_tests, eqb_tells, cases_eq, one_if, one_times}
use Rattle.ta_moments.proofs.Common.{by_one, range_with_len, AllByRecursion, In, coefficient, Form, Automaton, Pattern, UnknownForm, minus_form, plus_form}
use Rattle.ta_moments.proofs.Common.{Vector, Moment, Point, Pair, Known, nothing_fired, event_vector, end_vector, first_vector, step_vector, before_vector}
use Rattle.ta_moments.proofs.Common.{after_vector, with_fact, needing, sparing}
unfoldable use Rattle.ta_moments.specs.Moments.{fresh, known}
use Rattle.std.proofs.Math.IntN.{*ℤ-zero}
use Rattle.ta_base.proofs.Integers.{minus_one_times}
use Rattle.ta_base.proofs.Naturals.{cond_apart, cond_same}
use Rattle.ta_linear.specs.Sums.{StaysInRange}
use Rattle.ta_linear.specs.Values.{point_of}
use Rattle.ta_moments.proofs.Reading.{fresh_out, needed_out}
use Rattle.ta_moment_tree.specs.Forms.{form_of}
use Rattle.ta_moment_tree.specs.Moments.{moments_of}
use Rattle.ta_moment_tree.specs.declared.moment.Moment.{Moment as KeptMoment}
use Rattle.ta_moment_tree.specs.declared.moment.Moment.TheVariants.{Point as KeptPoint, Pair as KeptPair}
use Rattle.ta_witness.specs.Given.{MomentStays, VectorStays}

-- ---- forms of one unknown, and differences of two
abbrev one_in : Option ℕ → ℕ → ℤ
one_in None u = pos 0
one_in (Some x) u = one_if x u

pub record IsOne (f : UnknownForm) : Type 0 where
  pub constant : f.constant ≡ pos 0
  unknown : Option ℕ
  is : (u : ℕ) → f.coefficient u ≡ one_in unknown u

pub record IsDifference (f : UnknownForm) : Type 0 where
  pub constant : f.constant ≡ pos 0
  more : Option ℕ
  less : Option ℕ
  is : (u : ℕ) → f.coefficient u ≡ (one_in more u -ℤ one_in less u)

abbrev pub AreDifferences : Vector → Type 0
AreDifferences v = (r : ℕ) → IsDifference (v r)

one_differs : (f : UnknownForm) → IsOne f → IsDifference f
one_differs f h = (let is = h.is in record { constant = h.constant; more = h.unknown; less = None; is = λ u. omega (arith, ints, is u) })

minus_differs : (f g : UnknownForm) → IsOne f → IsOne g → IsDifference (minus_form f g)
minus_differs f g h k =
    let one = h.is in
    let two = k.is in
    let first = h.constant in
    let second = k.constant in
    record { constant = omega (arith, ints, first, second); more = h.unknown; less = k.unknown; is = λ u. omega (arith, ints, one u, two u) }

nothing_one : (r : ℕ) → IsOne (nothing_fired r)
nothing_one r = record { constant = refl; unknown = None; is = λ u. refl }

fresh_one : (n : ℕ) (rs : List ℕ) (other : Vector) → ((r : ℕ) → IsOne (other r)) → (r : ℕ) → IsOne (fresh n rs other r)
unfolding fresh
fresh_one n [] other h r = h r
fresh_one n (q ∷ qs) other h r = elim (eqb_tells q r) [
  | inl same ↦ rw same.0 (record { constant = refl; unknown = Some n; is = λ u. refl })
  | inr ne ↦ rw ne.0 (fresh_one (n + 1) qs other h r)
]

-- the form of a rule is a new unknown, or the other one
fresh_cases : (n : ℕ) (rs : List ℕ) (other : Vector) (r : ℕ) → (IsOne (fresh n rs other r) × In r rs) ⊎ (fresh n rs other r ≡ other r)
unfolding fresh
fresh_cases n [] other r = inr refl
fresh_cases n (q ∷ qs) other r = elim (eqb_tells q r) [
  | inl same ↦ rw same.0 (inl (record { constant = refl; unknown = Some n; is = λ u. refl }, inl (sym same.1)))
  | inr ne ↦ rw ne.0 (elim (fresh_cases (n + 1) qs other r) [ inl one ↦ inl (one.0, inr one.1) | inr is ↦ inr is ])
]

-- ---- the vectors of moments
event_one : (a : Automaton) (p : Pattern) (e r : ℕ) → IsOne (event_vector a p e r)
event_one a p e r = fresh_one _ _ nothing_fired nothing_one r

pub end_one : (a : Automaton) (p : Pattern) (candidate : Option ℕ) (r : ℕ) → IsOne (end_vector a p candidate r)
end_one a p None r = nothing_one r
end_one a p (Some e) r = event_one a p e r

module _ (a : Automaton) (p : Pattern) (end : Vector) (ends : (r : ℕ) → IsOne (end r)) (unknowns g : ℕ) where
  step_one : (r : ℕ) → IsOne (step_vector a p unknowns g r)
  step_one r = fresh_one _ (needing a p g) nothing_fired nothing_one r

  left_over : (r : ℕ) → IsDifference (minus_form (end r) (step_vector a p unknowns g r))
  left_over r = minus_differs (end r) (step_vector a p unknowns g r) (ends r) (step_one r)

  before_differs : AreDifferences (before_vector a p end unknowns g)
  before_differs r = elim (fresh_cases unknowns (sparing a p g) (λ q. minus_form (end q) (step_vector a p unknowns g q)) r) [
    | inl one ↦ one_differs (before_vector a p end unknowns g r) one.0
    | inr is ↦ subst IsDifference (sym is) (left_over r)
  ]

  -- after the step it is the end, where the rule needs the guard, and else the same as before
  after_differs : AreDifferences (after_vector a p end unknowns g)
  after_differs r =
      let before = before_vector a p end unknowns g r in
      let step = step_vector a p unknowns g r in
      let last = ends r in
      elim (fresh_cases unknowns (sparing a p g) (λ q. minus_form (end q) (step_vector a p unknowns g q)) r) [
        | inl one ↦ (
            let none : step ≡ nothing_fired r =
            fresh_out (unknowns + length (sparing a p g)) (needing a p g) nothing_fired r (λ i. needed_out a p g r i one.1) in
            let is = one.0 in
            let each = is.is in
            one_differs (plus_form before step) (record {
              constant = omega (arith, ints, is.constant, ap (λ (f : UnknownForm). f.constant) none);
              unknown = is.unknown;
              is = λ u. omega (arith, ints, each u, ap (λ (f : UnknownForm). f.coefficient u) none);
            }))
        | inr is ↦ (
            let each = last.is in
            one_differs (plus_form before step) (record {
              constant = omega (arith, ints, last.constant, ap (λ (f : UnknownForm). f.constant) is);
              unknown = last.unknown;
              is = λ u. omega (arith, ints, each u, ap (λ (f : UnknownForm). f.coefficient u) is);
            }))
      ]

abbrev pub MomentDiffers : Moment → Type 0
MomentDiffers (Point v) = AreDifferences v
MomentDiffers (Pair v w) = AreDifferences v × AreDifferences w

point_differs : (v : Vector) → ((r : ℕ) → IsOne (v r)) → MomentDiffers (Point v)
point_differs v h r = one_differs (v r) (h r)

fact_differs : (a : Automaton) (p : Pattern) (silent : List ℕ) (end : Vector) → ((r : ℕ) → IsOne (end r)) → (k : Known)
    → AllByRecursion MomentDiffers k.moments → (fact : Fact) → AllByRecursion MomentDiffers (with_fact a p silent end k fact).moments
fact_differs a p silent end ends k h (First g) =
    each_append MomentDiffers k.moments (Point (first_vector a p k.unknowns g) ∷ []) h
    (point_differs (first_vector a p k.unknowns g) (fresh_one k.unknowns (sparing a p g) nothing_fired nothing_one), tt)
fact_differs a p silent end ends k h (Last g) =
    each_append MomentDiffers k.moments (Pair (before_vector a p end k.unknowns g) (after_vector a p end k.unknowns g) ∷ []) h
    ((before_differs a p end ends k.unknowns g, after_differs a p end ends k.unknowns g), tt)
fact_differs a p silent end ends k h (Never g) = each_append MomentDiffers k.moments [] h tt
fact_differs a p silent end ends k h (Stands g) = each_append MomentDiffers k.moments [] h tt
fact_differs a p silent end ends k h (Before x y) = each_append MomentDiffers k.moments [] h tt
fact_differs a p silent end ends k h (After x y) = each_append MomentDiffers k.moments [] h tt
fact_differs a p silent end ends k h (Same x y) = each_append MomentDiffers k.moments [] h tt
fact_differs a p silent end ends k h (Vacant r) = each_append MomentDiffers k.moments [] h tt
fact_differs a p silent end ends k h (Fails r g) = each_append MomentDiffers k.moments [] h tt

pub known_differs : (a : Automaton) (p : Pattern) (silent : List ℕ) (candidate : Option ℕ) (past : List Fact)
    → AllByRecursion MomentDiffers (known a p silent candidate past).moments
unfolding known
known_differs a p silent candidate [] =
    each_map_all MomentDiffers (λ e. Point (event_vector a p e)) (range_with_len 0 _) (λ e. point_differs (event_vector a p e) (event_one a p e))
known_differs a p silent candidate (fact ∷ past) =
    fact_differs a p silent (end_vector a p candidate) (end_one a p candidate) (known a p silent candidate past) (known_differs a p silent candidate past)
    fact

-- ---- sums of their terms
abbrev Least : ℕ → (ℕ → ℤ) → List (ℕ × ℤ) → Type 0
Least low d ts = (u : ℕ) → low ≤ u → coefficient ts u ≡ d u

-- the first coefficient, and those of the other terms
head_is : (t : ℕ × ℤ) (ts : List (ℕ × ℤ)) (high : ℕ) → IsNormal (t.0 + 1) high ts → coefficient (t ∷ ts) t.0 ≡ t.1
head_is t ts high h =
    let none = coefficient-below (t.0 + 1) high ts t.0 h (omega arith) in
    let here : cond (eqb t.0 t.0) t.1 (pos 0) ≡ t.1 = cond_same t.0 t.0 t.1 (pos 0) refl in
    omega (arith, ints, none, here)

rest_is : (t : ℕ × ℤ) (ts : List (ℕ × ℤ)) (u : ℕ) → t.0 < u → coefficient (t ∷ ts) u ≡ coefficient ts u
rest_is t ts u less =
    let other : cond (eqb t.0 u) t.1 (pos 0) ≡ pos 0 = cond_apart t.0 u t.1 (pos 0) (λ e. absurd (omega (arith, e, less))) in
    omega (arith, ints, other)

one_here : (x u : ℕ) → x ≡ u → one_if x u ≡ pos 1
one_here x u e = grind (arith, nat_tests)

one_apart : (x u : ℕ) → (x ≡ u → ⊥) → one_if x u ≡ pos 0
one_apart x u e = grind (arith, nat_tests)

-- whether it is that unknown, which no later one is
one_cases : (o : Option ℕ) (u : ℕ) → ((one_in o u ≡ pos 1) × ((v : ℕ) → u < v → one_in o v ≡ pos 0)) ⊎ (one_in o u ≡ pos 0)
one_cases None u = inr refl
one_cases (Some x) u = elim (cases_eq x u) [
  | inl e ↦ inl (one_here x u e, λ v less. one_apart x v (λ f. absurd (omega (arith, e, f, less))))
  | inr ne ↦ inr (one_apart x u ne)
]

-- numbers that are natural and in range
abbrev AreSmall : (ℕ → ℤ) → Type 0
AreSmall number = (x : ℕ) → (pos 0 ≤ℤ number x) × InRange (number x)

-- no term is left
none_stays : (number : ℕ → ℤ) (s : ℤ) (low high : ℕ) (ts : List (ℕ × ℤ)) → IsNormal low high ts → Least low (λ u. pos 0) ts → StaysInRange number s ts
none_stays number s low high [] h is = tt
none_stays number s low high (t ∷ ts) h is = absurd (h.1.not_zero (sym (head_is t ts high h.2) ∙ is t.0 h.0))

-- one term is left
last_stays : (number : ℕ → ℤ) (s k : ℤ) (o : Option ℕ) (low high : ℕ) (ts : List (ℕ × ℤ)) → IsNormal low high ts → Least low (λ u. k *ℤ one_in o u) ts
    → ((x : ℕ) → InRange (k *ℤ number x) × InRange (s +ℤ (k *ℤ number x))) → StaysInRange number s ts
last_stays number s k o low high [] h is within = tt
last_stays number s k o low high (t ∷ ts) h is within =
    let head : t.1 ≡ (k *ℤ one_in o t.0) = sym (head_is t ts high h.2) ∙ is t.0 h.0 in
    elim (one_cases o t.0) [
      | inl here ↦ (
          let own : t.1 ≡ k = head ∙ ap (λ z. k *ℤ z) here.0 ∙ by_one k in
          let both = within t.0 in
          let low_less = h.0 in
          let rest : Least (t.0 + 1) (λ u. pos 0) ts =
          (λ u b. sym (rest_is t ts u (omega arith)) ∙ is u (omega (arith, low_less, b)) ∙ ap (λ z. k *ℤ z) (here.1 u (omega arith)) ∙ *ℤ-zero k) in (
            subst (λ z. InRange (z *ℤ number t.0)) (sym own) both.0,
            subst (λ z. InRange (s +ℤ (z *ℤ number t.0))) (sym own) both.1,
            none_stays number _ (t.0 + 1) high ts h.2 rest,
          ))
      | inr gone ↦ absurd (h.1.not_zero (head ∙ ap (λ z. k *ℤ z) gone ∙ *ℤ-zero k))
    ]

-- the terms of a difference
terms_stay : (number : ℕ → ℤ) → AreSmall number → (more less : Option ℕ) (low high : ℕ) (ts : List (ℕ × ℤ)) → IsNormal low high ts
    → Least low (λ u. one_in more u -ℤ one_in less u) ts → StaysInRange number (pos 0) ts
terms_stay number small more less low high [] h is = tt
terms_stay number small more less low high (t ∷ ts) h is =
    let head : t.1 ≡ (one_in more t.0 -ℤ one_in less t.0) = sym (head_is t ts high h.2) ∙ is t.0 h.0 in
    let low_less = h.0 in
    let rest : Least (t.0 + 1) (λ u. one_in more u -ℤ one_in less u) ts = (λ u b. sym (rest_is t ts u (omega arith)) ∙ is u (omega (arith, low_less, b))) in
    let here = small t.0 in
    let n : ℤ = number t.0 in
    let natural : pos 0 ≤ℤ n = here.0 in
    let within : InRange n = here.1 in
    elim (one_cases more t.0) [
      | inl one ↦ elim (one_cases less t.0) [
        | inl other ↦ absurd (h.1.not_zero (omega (arith, ints, head, one.0, other.0)))
        | inr none ↦ (
            let own : t.1 ≡ pos 1 = omega (arith, ints, head, one.0, none) in
            let product : (t.1 *ℤ n) ≡ n = ap (λ z. z *ℤ n) own ∙ one_times n in
            let later : Least (t.0 + 1) (λ u. negsuc 0 *ℤ one_in less u) ts =
            (λ u b. omega (arith, ints, rest u b, one.1 u (omega arith), minus_one_times (one_in less u))) in (
              subst InRange (sym product) within,
              omega (arith, ints, product, within),
              last_stays number (pos 0 +ℤ (t.1 *ℤ n)) (negsuc 0) less (t.0 + 1) high
                  ts h.2 later (λ x.
                  let there = small x in
                  let low_there = there.0 in
                  let high_there = there.1 in
                  let turned = minus_one_times (number x) in
                  (omega (arith, ints, turned, low_there, high_there), omega (arith, ints, turned, low_there, high_there, product, natural, within))),
            ))
      ]
      | inr none ↦ elim (one_cases less t.0) [
        | inl one ↦ (
            let own : t.1 ≡ negsuc 0 = omega (arith, ints, head, none, one.0) in
            let product : (t.1 *ℤ n) ≡ (pos 0 -ℤ n) = ap (λ z. z *ℤ n) own ∙ minus_one_times n in
            let later : Least (t.0 + 1) (λ u. pos 1 *ℤ one_in more u) ts =
            (λ u b. omega (arith, ints, rest u b, one.1 u (omega arith), one_times (one_in more u))) in (
              omega (arith, ints, product, natural, within),
              omega (arith, ints, product, natural, within),
              last_stays number (pos 0 +ℤ (t.1 *ℤ n)) (pos 1)
                  more (t.0 + 1) high ts h.2 later (λ x.
                  let there = small x in
                  let low_there = there.0 in
                  let high_there = there.1 in
                  let turned = one_times (number x) in
                  (omega (arith, ints, turned, low_there, high_there), omega (arith, ints, turned, low_there, high_there, product, natural, within))),
            ))
        | inr gone ↦ absurd (h.1.not_zero (omega (arith, ints, head, none, gone)))
      ]
    ]

-- ---- the code's moments
form_stays : (numbers : List ℤ) → AreSmall (point_of numbers) → (f : Form) → IsDifference (form_of f) → StaysInRange (point_of numbers) f.constant f.terms
form_stays numbers small f h =
    let is = h.is in
    subst (λ (z : ℤ). StaysInRange (point_of numbers) z f.terms) (sym h.constant)
    (terms_stay (point_of numbers) small h.more h.less 0 (2 ^ 32) f.terms f.normal (λ u _. is u))

vector_stays : (numbers : List ℤ) → AreSmall (point_of numbers) → (fs : List Form) → ((r : ℕ) → IsDifference (vector_of fs r)) → VectorStays numbers fs
vector_stays numbers small [] h = tt
vector_stays numbers small (f ∷ fs) h = (form_stays numbers small f (h 0), vector_stays numbers small fs (λ r. h (suc r)))

moment_stays : (numbers : List ℤ) → AreSmall (point_of numbers) → (m : KeptMoment) → MomentDiffers (moment_of m) → MomentStays numbers m
moment_stays numbers small (KeptPoint v) h = vector_stays numbers small v.items h
moment_stays numbers small (KeptPair v w) h = (vector_stays numbers small v.items h.0, vector_stays numbers small w.items h.1)

each_stays : (numbers : List ℤ) → AreSmall (point_of numbers) → (ms : List KeptMoment) → AllByRecursion MomentDiffers (moments_of ms)
    → AllByRecursion (MomentStays numbers) ms
each_stays numbers small [] h = tt
each_stays numbers small (m ∷ ms) h = (moment_stays numbers small m h.0, each_stays numbers small ms h.1)

small_at : (numbers : List ℤ) → AllByRecursion (λ z. (pos 0 ≤ℤ z) × InRange z) numbers → AreSmall (point_of numbers)
small_at [] h x = (omega (arith, ints), omega arith)
small_at (z ∷ zs) h zero = h.0
small_at (z ∷ zs) h (suc x) = small_at zs h.1 x

-- the moments of a node stay in range at such numbers
pub moments_stay : (a : Automaton) (p : Pattern) (silent : List ℕ) (candidate : Option ℕ) (past : List Fact) (ms : List KeptMoment)
    → moments_of ms ≡ (known a p silent candidate past).moments
    → (numbers : List ℤ) → AllByRecursion (λ z. (pos 0 ≤ℤ z) × InRange z) numbers → AllByRecursion (MomentStays numbers) ms
moments_stay a p silent candidate past ms same numbers h =
    each_stays numbers (small_at numbers h) ms
    (subst (λ (ks : List Moment). AllByRecursion MomentDiffers ks) (sym same) (known_differs a p silent candidate past))
