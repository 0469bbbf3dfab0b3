-- The moments that those of the code stand for, and bounds on their numbers.
use Rattle.std.specs.Prelude.{ℕ, ◌≡◌, List, map, slice_get, Some}
use Rattle.ta_moments.specs.Laws.{Speaks}
use Rattle.ta_moments.specs.Moments.{Moment as KnownMoment, Point as KnownPoint, Pair as KnownPair, early, late}
use Rattle.ta_moment_tree.specs.Forms.{SmallVector, vector_of}
use Rattle.ta_moment_tree.specs.declared.moment.Moment.{Moment}
use Rattle.ta_moment_tree.specs.declared.moment.Moment.TheVariants.{Point, Pair}

-- what a moment says
abbrev pub moment_of : Moment → KnownMoment
moment_of (Point vector) = KnownPoint (vector_of vector.items)
moment_of (Pair before after) = KnownPair (vector_of before.items) (vector_of after.items)

-- what moments say, in order
abbrev pub moments_of : List Moment → List KnownMoment
moments_of moments = map moment_of moments

-- the numbers of moments' vectors are small
pub record SmallMoments (moments : List KnownMoment) : Type 0 where
  pub early_small : (x : ℕ) (m : KnownMoment) → slice_get moments x ≡ Some m → SmallVector 3 (early m)
  pub late_small : (x : ℕ) (m : KnownMoment) → slice_get moments x ≡ Some m → SmallVector 3 (late m)

-- moments speak of the first unknowns alone
pub record MomentsSpeak (n : ℕ) (moments : List KnownMoment) : Type 0 where
  pub early_speaks : (x : ℕ) (m : KnownMoment) → slice_get moments x ≡ Some m → (r : ℕ) → Speaks n (early m r)
  pub late_speaks : (x : ℕ) (m : KnownMoment) → slice_get moments x ≡ Some m → (r : ℕ) → Speaks n (late m r)
