-- a split at a vertex is one that can be written, and its floor is one that a bound may have
use Rattle.ta_walk.proofs.Common.{◌≡◌, inl, inr, ℕ, zero, suc, ◌^◌, ◌<◌, List, arith, subst, ℤ, pos, negsuc, ◌+ℤ◌, ◌*ℤ◌, ◌<ℤ◌, ◌≤ℤ◌, Option, Some, None}
use Rattle.ta_walk.proofs.Common.{slice_get, IsSomeAnd, ints, floor_natural, twice_most, some_within, InRange, System, IsSplit, row_of, basic_of, non_basic_of}
use Rattle.ta_walk.proofs.Common.{IsVertex, Fraction, reached_dictionary, IsAbove, SplitVertex, Pending, Search}
use Rattle.ta_base.proofs.Options.{is_some-map}
use Rattle.ta_walk.proofs.TableausInRange.{reached_proper}

-- the numerators of a vertex are in range
pub vertex_in_range : (s : System) (values : List Fraction) → IsVertex s values → (x : ℕ) → x < s.unknowns → IsSomeAnd (slice_get values x) (λ f. InRange f.top)
vertex_in_range s values v x below =
    let t = v.tableau in
    let d = reached_dictionary s v.steps t v.reached in
    let proper = reached_proper s v.steps t v.reached in
    elim (d.basis.cover x (omega arith)) [
      | inl b ↦
          let e = b.2 in
          subst (λ (u : ℕ). IsSomeAnd (slice_get values u) (λ f. InRange f.top)) b.2
          (is_some-map (slice_get values (basic_of t b.0)) (λ f. (f.top ≡ (row_of t b.0).constant) × (f.bottom ≡ (row_of t b.0).denominator))
          (λ f. InRange f.top) (λ f is. rw (is.0) (proper.rows b.0 b.1).constant) (v.gives.basic b.0 b.1 (omega arith)))
      | inr j ↦
          let e = j.2 in
          subst (λ (u : ℕ). IsSomeAnd (slice_get values u) (λ f. InRange f.top)) j.2
          (is_some-map (slice_get values (non_basic_of t j.0)) (λ f. (f.top ≡ pos 0) × (f.bottom ≡ pos 1)) (λ f. InRange f.top)
          (λ f is. rw (is.0) (omega arith)) (v.gives.non_basic j.0 j.1 (omega arith)))
    ]

floor_small : (k t b : ℤ) → pos 0 <ℤ b → pos 0 ≤ℤ k → (k *ℤ b) <ℤ t → t <ℤ ((k +ℤ pos 1) *ℤ b) → InRange t → k <ℤ pos (2 ^ 126)
floor_small (negsuc n) t b positive natural above below fits = absurd (omega (arith, ints))
floor_small (pos n) t (negsuc b) positive natural above below fits = absurd (omega (arith, ints))
floor_small (pos n) t (pos zero) positive natural above below fits = absurd (omega (arith, ints))
floor_small (pos n) t (pos (suc zero)) positive natural above below fits = absurd (omega (arith, ints))
floor_small (pos n) (negsuc m) (pos (suc (suc d))) positive natural above below fits = (let double = twice_most n d in absurd (omega (arith, ints)))
floor_small (pos n) (pos m) (pos (suc (suc d))) positive natural above below fits = (let double = twice_most n d in omega (arith, ints))

pub record FloorFits (floor : ℤ) : Type 0 where
  pub low : pos 0 ≤ℤ floor
  pub high : floor <ℤ pos (2 ^ 126)

floor_fits : (o : Option Fraction) (floor : ℤ) → IsSomeAnd o (IsAbove floor) → IsSomeAnd o (λ f. pos 0 ≤ℤ f.top) → IsSomeAnd o (λ f. InRange f.top)
    → FloorFits floor
floor_fits None floor is natural fits = absurd is
floor_fits (Some f) floor is natural fits =
    let low = floor_natural floor f.top f.bottom f.positive natural is.below in
    record { low = low; high = floor_small floor f.top f.bottom f.positive low is.above is.below fits }

-- a split is at an unknown of the word
pub split_within : {E : Type 0} (search : Search E) (w : Pending E) (unknown : ℕ) (floor : ℤ) → SplitVertex search w unknown floor
    → unknown < search.unknowns w.start w.past
split_within search w unknown floor v =
    let below = some_within v.values unknown (IsAbove floor) v.splits.here in
    let count = v.vertex.holds.gives.count in
    let unknowns = v.vertex.is.unknowns in
    omega arith

-- its floor is at least 0 and below 2^126
pub split_floor : {E : Type 0} (search : Search E) (w : Pending E) (unknown : ℕ) (floor : ℤ) → SplitVertex search w unknown floor → FloorFits floor
split_floor search w unknown floor v =
    let s = v.vertex.system in
    let vertex = v.vertex.holds in
    let below = some_within v.values unknown (IsAbove floor) v.splits.here in
    let count = vertex.gives.count in
    let inside : unknown < s.unknowns = omega arith in
    floor_fits (slice_get v.values unknown) floor v.splits.here (vertex.meet.not_negative unknown inside) (vertex_in_range s v.values vertex unknown inside)

pub split_fits : {E : Type 0} (search : Search E) (w : Pending E) (unknown : ℕ) (floor : ℤ) → SplitVertex search w unknown floor → unknown < 2 ^ 32
    → IsSplit unknown floor
split_fits search w unknown floor v number =
    let fits = split_floor search w unknown floor v in
    record { number = number; low = fits.low; high = fits.high }
