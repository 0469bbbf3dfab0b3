-- Bodies of templates, byte by byte.
use Rattle.ta_search.proofs.Common.{ℕ, ◌+◌, ◌<◌, ◌≡◌, ◌&&◌, not, eqb, List, [], ◌∷◌, length, Some, option_map, below_if, Hole, is_among, unknown_place, word_at}

-- behind so many bytes of a body, each `$` of which has a name of a hole behind it
pub record Behind (hs : List Hole) (body : List ℕ) (place : ℕ) (rest : List ℕ) : Type 0 where
  pub unknown : unknown_place hs body ≡ option_map (λ n. place + n) (unknown_place hs rest)
  pub counted : place + length rest ≡ length body

pub place_below : (hs : List Hole) (body : List ℕ) (p : ℕ) → unknown_place hs body ≡ Some p → p < length body
place_below hs [] p e = absurd (cc)
place_below hs (b ∷ bs) p e = below_if (length bs) p (eqb b 36 && not (is_among hs (word_at bs))) (unknown_place hs bs) (λ q f. place_below hs bs q f) e
