-- the judge of a leaf
use Rattle.ta_check.proofs.Common.{◌≡◌, ℕ, zero, suc, ◌+◌, ◌<◌, ◌≤◌, ◌^◌, ℤ, pos, unsigned_abs, List, [], ◌∷◌, ◌++◌, length, take, get_or, to_z, of_z}
use Rattle.ta_check.proofs.Common.{FitsSigned, ap, ◌∙◌, arith, w128, ints, to_z-of_z, fits_signed_from_abs, AreMultipliers, LeafOf, System, ArePairs, SystemAt}
use Rattle.ta_check.proofs.Common.{leaf_of, CheckStays, renumbered, IsJudged, leaf_stays, Pending, Search}

-- pairs of a line are multipliers
pub pairs_rise : (low : ℕ) (ts : List (ℕ × ℤ)) → ArePairs low ts → AreMultipliers low (2 ^ 32) ts
pairs_rise low [] are = tt
pairs_rise low (t ∷ ts) are = (are.0, are.1.row, are.1.low, pairs_rise (t.0 + 1) ts are.2)

-- a leaf of the code's system whose check stays in range is one of the word's rows
pub judged : {E : Type 0} (search : Search E) (w : Pending E) (s : System) (ts : List (ℕ × ℤ)) → SystemAt search w s → LeafOf s ts → CheckStays s ts
    → IsJudged search w ts
judged search w s ts is leaf stays = record {
  leaf = leaf_of search w s ts is leaf;
  in_range = leaf_stays search w s ts is stays;
}

-- a line has few pairs
pub pairs_few : (low : ℕ) (ts : List (ℕ × ℤ)) → ArePairs low ts → 0 < length ts → low + length ts ≤ 2 ^ 32
pairs_few low [] are some = absurd (omega arith)
pairs_few low (t ∷ []) are some = let from = are.0 in let row = are.1.row in omega arith
pairs_few low (t ∷ (u ∷ ts)) are some = let from = are.0 in let rest = pairs_few (t.0 + 1) (u ∷ ts) are.2 (omega arith) in omega arith

-- one more multiplier
pub renumbered_more : (k i : ℕ) (ts : List (ℕ × ℤ)) → i < length ts → renumbered k (take (i + 1) ts) ≡ renumbered k (take i ts)
    ++ (k + i, (get_or ts i (0, pos 0)).1) ∷ []
renumbered_more k i [] below = absurd (omega arith)
renumbered_more k zero (t ∷ ts) below = let e : k ≡ k + 0 = omega arith in ap (λ n. (n, t.1) ∷ []) e
renumbered_more k (suc i) (t ∷ ts) below =
    let e : k + 1 + i ≡ k + suc i = omega arith in
    let more : suc i + 1 ≡ suc (i + 1) = omega arith in
    ap (λ n. renumbered k (take n (t ∷ ts))) more ∙ ap (λ us. (k, t.1) ∷ us)
    (renumbered_more (k + 1) i ts (omega arith) ∙ ap (λ n. renumbered (k + 1) (take i ts) ++ (n, (get_or ts i (0, pos 0)).1) ∷ []) e)

-- a pair's multiplier is in range
pair_fits : (low : ℕ) (ts : List (ℕ × ℤ)) (i : ℕ) → ArePairs low ts → i < length ts → unsigned_abs (get_or ts i (0, pos 0)).1 < 2 ^ 127
pair_fits low [] i are below = absurd (omega arith)
pair_fits low (t ∷ ts) zero are below = let least = are.1.low in let most = are.1.high in omega (arith, ints)
pair_fits low (t ∷ ts) (suc i) are below = pair_fits (t.0 + 1) ts i are.2 (omega arith)

pub pair_clean : (low : ℕ) (ts : List (ℕ × ℤ)) (i : ℕ) → ArePairs low ts → i < length ts
    → to_z w128 (of_z w128 (get_or ts i (0, pos 0)).1) ≡ (get_or ts i (0, pos 0)).1
pair_clean low ts i are below =
    let z = (get_or ts i (0, pos 0)).1 in
    let fits : FitsSigned w128 z = fits_signed_from_abs w128 z (pair_fits low ts i are below) in
    to_z-of_z w128 z fits
