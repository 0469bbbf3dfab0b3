-- what the rows of a node say at natural values
use Rattle.ta_moments.proofs.Common.{◌≡◌, inl, inr, ℕ, ◌+◌, ◌<◌, ℤ, pos, negsuc, ◌*ℤ◌, ◌≤ℤ◌, List, [], ◌∷◌, ◌++◌, map, filter, flat_map, length, slice_get}
use Rattle.ta_moments.proofs.Common.{Some, Option, Bool, true, false, not, ◌||◌, arith, sym, ap, ◌∙◌, refl, subst, ints, cases_Bool, cases_lt, false≢true}
use Rattle.ta_moments.proofs.Common.{eqb_tells, In, In-filter, In-map, In-numbers, in_filter, range_with_len, range_sum, range_sum-times, get_or, any_below}
use Rattle.ta_moments.proofs.Common.{any_below-at, one_if, Automaton, Pattern, Row, has_bit, location_place, UnknownForm, unknown_form, minus_form}
use Rattle.ta_moments.proofs.Common.{may_be_negative, sum_form, has_guard, moving_rules, needing, sparing, Vector, nothing_fired, fresh, place_form, form_at}
use Rattle.ta_moments.proofs.Common.{counters_at, guard_at, below, AllByRecursion, mul-ge-zero, In-left, In-right, below_zero, Speaks, AtMost, firings_in}
use Rattle.ta_moments.proofs.Common.{counts_of}
use Rattle.ta_base.proofs.Sums.{range_sum-nonpositive}
use Rattle.ta_moments.proofs.Speaking.{VectorSpeaks}
use Rattle.ta_moments.proofs.Worth.{number}
use Rattle.ta_moments.proofs.Values.{value_is, value_minus, value_number, value_plus}
use Rattle.ta_moments.specs.Whole.{form_value}
use Rattle.ta_moments.proofs.Starting.{natural_is}

-- a sum of terms that are at least 0
sum_natural : (f : ℕ → ℤ) (n : ℕ) → ((x : ℕ) → x < n → pos 0 ≤ℤ f x) → pos 0 ≤ℤ range_sum f n
sum_natural f n h =
    let low = range_sum-nonpositive (λ x. negsuc 0 *ℤ f x) n (λ x b. omega (arith, ints, h x b)) in
    omega (arith, ints, low, range_sum-times (negsuc 0) f n)

coefficient_natural : (z : ℤ) (n : ℕ) → pos 0 ≤ℤ z → pos 0 ≤ℤ (z *ℤ pos n)
coefficient_natural z n h = mul-ge-zero z (pos n) h (omega (arith, ints))

natural_worth : (vs : List ℕ) (f : UnknownForm) → pos 0 ≤ℤ f.constant → ((u : ℕ) → pos 0 ≤ℤ f.coefficient u) → pos 0 ≤ℤ form_value vs f
natural_worth vs f h i =
    let sum = sum_natural (λ u. f.coefficient u *ℤ number vs u) (length vs) (λ u _. coefficient_natural (f.coefficient u) (get_or vs u 0) (i u)) in
    omega (arith, ints, h, sum, value_is vs f)

natural_unknown : (vs : List ℕ) (x : ℕ) → pos 0 ≤ℤ form_value vs (unknown_form x)
natural_unknown vs x = natural_worth vs (unknown_form x) (omega (arith, ints)) (λ u. one_natural x u)
  where
    one_natural : (y u : ℕ) → pos 0 ≤ℤ one_if y u
    one_natural y u = elim (eqb_tells y u) [ inl same ↦ rw same.0 (omega (arith, ints)) | inr ne ↦ rw ne.0 (omega (arith, ints)) ]

not_below : (z : ℤ) → below_zero z ≡ false → pos 0 ≤ℤ z
not_below (pos n) e = omega (arith, ints)
not_below (negsuc n) e = absurd (false≢true (sym e))

-- a row that is left out is at least 0
left_out : (n : ℕ) (vs : List ℕ) (f : UnknownForm) → Speaks n f → may_be_negative n f ≡ false → pos 0 ≤ℤ form_value vs f
left_out n vs f speaks none =
    let parts = neither (below_zero f.constant) (any_below n (λ u. below_zero (f.coefficient u))) none in
    natural_worth vs f (not_below f.constant parts.0) (λ u. elim (cases_lt u n) [
      | inl low ↦ elim (cases_Bool (below_zero (f.coefficient u))) [
        | inl t ↦ absurd (false≢true (sym parts.1 ∙ any_below-at n (λ x. below_zero (f.coefficient x)) u low t))
        | inr e ↦ not_below (f.coefficient u) e
      ]
      | inr high ↦ omega (arith, ints, speaks u high)
    ])
  where
    neither : (b c : Bool) → (b || c) ≡ false → (b ≡ false) × (c ≡ false)
    neither true c e = absurd (false≢true (sym e))
    neither false c e = (refl, e)

-- ---- rows that are met
abbrev pub Met : List ℕ → List UnknownForm → Type 0
Met vs rows = (f : UnknownForm) → In f rows → pos 0 ≤ℤ form_value vs f

pub met_left : (vs : List ℕ) (fs gs : List UnknownForm) → Met vs (fs ++ gs) → Met vs fs
met_left vs fs gs h f i = h f (In-left f fs gs i)

pub met_right : (vs : List ℕ) (fs gs : List UnknownForm) → Met vs (fs ++ gs) → Met vs gs
met_right vs fs gs h f i = h f (In-right f fs gs i)

pub met_each : {X : Type 0} (vs : List ℕ) (g : X → List UnknownForm) (xs : List X) → Met vs (flat_map g xs) → (x : X) → In x xs → Met vs (g x)
met_each vs g [] h x i = absurd i
met_each vs g (y ∷ xs) h x (inl e) = subst (λ z. Met vs (g z)) (sym e) (met_left vs (g y) (flat_map g xs) h)
met_each vs g (y ∷ xs) h x (inr i) = met_each vs g xs (met_right vs (g y) (flat_map g xs) h) x i

pub met_map : {X : Type 0} (vs : List ℕ) (g : X → UnknownForm) (xs : List X) → Met vs (map g xs) → (x : X) → In x xs → pos 0 ≤ℤ form_value vs (g x)
met_map vs g xs h x i = h (g x) (In-map g x xs i)

pub met_all : (vs : List ℕ) (rows : List UnknownForm) → AllByRecursion (λ row. pos 0 ≤ℤ form_value vs row) rows → Met vs rows
met_all vs [] h f i = absurd i
met_all vs (g ∷ gs) h f (inl e) = subst (λ x. pos 0 ≤ℤ form_value vs x) (sym e) h.0
met_all vs (g ∷ gs) h f (inr i) = met_all vs gs h.1 f i

pub all_met : (vs : List ℕ) (rows : List UnknownForm) → Met vs rows → AllByRecursion (λ row. pos 0 ≤ℤ form_value vs row) rows
all_met vs [] h = tt
all_met vs (g ∷ gs) h = (h g (inl refl), all_met vs gs (λ f i. h f (inr i)))

-- one vector is below another
pub below_met : (a : Automaton) (p : Pattern) (n : ℕ) (v w : Vector) (vs : List ℕ) → VectorSpeaks n v → VectorSpeaks n w → Met vs (below a p n v w)
    → AtMost a p vs v w
below_met a p n v w vs sv sw h r i =
    let f = minus_form (w r) (v r) in
    let least : pos 0 ≤ℤ form_value vs f = elim (cases_Bool (may_be_negative n f)) [
      | inl t ↦ h f (In-filter (may_be_negative n) f (map (λ q. minus_form (w q) (v q)) (moving_rules a p)) t
          (In-map (λ q. minus_form (w q) (v q)) r (moving_rules a p) i))
      | inr e ↦ left_out n vs f (λ u b. omega (arith, ints, sv r u b, sw r u b)) e
    ] in
    omega (arith, ints, least, value_minus vs (w r) (v r))

-- the counters at a vector
pub counter_met : (a : Automaton) (p : Pattern) (v : Vector) (vs : List ℕ) → Met vs (counters_at a p v) → (l : ℕ) → l < length a.locations
    → has_bit p.empty l ≡ false → pos 0 ≤ℤ form_value vs (place_form a p v (location_place a l))
counter_met a p v vs h l b e =
    met_map vs (λ x. place_form a p v (location_place a x)) (filter (λ x. not (has_bit p.empty x)) (range_with_len 0 (length a.locations))) h l
    (In-filter (λ x. not (has_bit p.empty x)) l (range_with_len 0 (length a.locations)) (ap not e)
    (In-numbers l 0 (length a.locations) (omega arith) (omega arith)))

pub guard_met : (a : Automaton) (p : Pattern) (v : Vector) (vs : List ℕ) (o : Option Row) → Met vs (guard_at a p v o) → (row : Row) → o ≡ Some row
    → pos 0 ≤ℤ form_value vs (form_at a p v row.form)
guard_met a p v vs o h row e = subst (λ (x : Option Row). Met vs (guard_at a p v x)) e h (form_at a p v row.form) (inl refl)

-- ---- vectors of new unknowns
pub fresh_natural : (vs : List ℕ) (n : ℕ) (rs : List ℕ) (other : Vector) (r : ℕ) → ((In r rs → ⊥) → pos 0 ≤ℤ form_value vs (other r))
    → pos 0 ≤ℤ form_value vs (fresh n rs other r)
unfolding fresh
fresh_natural vs n [] other r h = h (λ i. i)
fresh_natural vs n (q ∷ qs) other r h = elim (eqb_tells q r) [
  | inl same ↦ rw same.0 (natural_unknown vs n)
  | inr ne ↦ rw ne.0 (fresh_natural vs (n + 1) qs other r (λ out. h (λ i. elim i [ inl e ↦ ne.1 (sym e) | inr j ↦ out j ])))
]

pub fresh_out : (n : ℕ) (rs : List ℕ) (other : Vector) (r : ℕ) → (In r rs → ⊥) → fresh n rs other r ≡ other r
unfolding fresh
fresh_out n [] other r out = refl
fresh_out n (q ∷ qs) other r out = elim (eqb_tells q r) [
  | inl same ↦ absurd (out (inl (sym same.1)))
  | inr ne ↦ rw ne.0 (fresh_out (n + 1) qs other r (λ i. out (inr i)))
]

pub nothing_zero : (vs : List ℕ) (r : ℕ) → form_value vs (nothing_fired r) ≡ pos 0
nothing_zero vs r = value_number vs (pos 0)

-- a moving rule needs a guard or spares it
pub needed_out : (a : Automaton) (p : Pattern) (g r : ℕ) → In r (needing a p g) → In r (sparing a p g) → ⊥
needed_out a p g r i j =
    let yes_in = in_filter (λ q. has_guard a g (slice_get a.rules q)) r (moving_rules a p) i in
    let no_in = in_filter (λ q. not (has_guard a g (slice_get a.rules q))) r (moving_rules a p) j in
    absurd (false≢true (ap not (sym yes_in.0) ∙ no_in.0))

pub spared_out : (a : Automaton) (p : Pattern) (g r : ℕ) → In r (moving_rules a p) → (In r (sparing a p g) → ⊥) → In r (needing a p g)
spared_out a p g r i out = elim (cases_Bool (has_guard a g (slice_get a.rules r))) [
  | inl t ↦ In-filter (λ q. has_guard a g (slice_get a.rules q)) r (moving_rules a p) t i
  | inr e ↦ absurd (out (In-filter (λ q. not (has_guard a g (slice_get a.rules q))) r (moving_rules a p) (ap not e) i))
]

-- ---- firings of one step
pub sum_counts : (vs : List ℕ) (v : Vector) (rs : List ℕ) → ((r : ℕ) → In r rs → pos 0 ≤ℤ form_value vs (v r))
    → pos (firings_in rs (counts_of vs v)) ≡ form_value vs (sum_form v rs)
unfolding sum_form
sum_counts vs v [] h = sym (value_number vs (pos 0))
sum_counts vs v (r ∷ rs) h =
    omega (arith, ints, natural_is (form_value vs (v r)) (h r (inl refl)), sum_counts vs v rs (λ q i. h q (inr i)), value_plus vs (v r) (sum_form v rs))

pub sum_filtered : (ok : ℕ → Bool) (n : ℕ → ℕ) (rs : List ℕ) → ((r : ℕ) → In r rs → ok r ≡ false → n r ≡ 0) → firings_in rs n ≡ firings_in (filter ok rs) n
sum_filtered ok n [] h = refl
sum_filtered ok n (r ∷ rs) h = elim (cases_Bool (ok r)) [
  | inl t ↦ rw t (omega (arith, sum_filtered ok n rs (λ q i. h q (inr i))))
  | inr e ↦ rw e (omega (arith, h r (inl refl) e, sum_filtered ok n rs (λ q i. h q (inr i))))
]
