-- Parts of a tree that begin with a token: every sum does.
use Rattle.ta_meaning.proofs.Common.{ℕ, List, [], ◌∷◌, ◌++◌, sym, subst, IsSum, IsTerm, plain_sum, Offsets, at_first, sum_stated, TreeSum, SeenTerms, SeenTerm}
use Rattle.ta_meaning.proofs.Common.{SeenFactor, seen_none, seen_more, seen_number, seen_times, seen_alone, seen_blank, seen_named, seen_nested, plain_of_terms}
use Rattle.ta_meaning.proofs.Common.{plain_of_term, seen_sum}
use Rattle.ta_meaning.proofs.SeenSums.{offsets_of_sum, offsets_of_more, offsets_of_term, offsets_of_factor, SeenSum, every_sum_seen}
use Rattle.ta_syntax.specs.declared.sums.Sign.TheVariants as sign

-- a part with a token
abbrev pub Starts : List Offsets → Type 0
Starts [] = ⊥
Starts (x ∷ xs) = Unit {0}

pub starts-append : (s r : List Offsets) → Starts s → Starts (s ++ r)
starts-append [] r h = absurd h
starts-append (x ∷ s) r h = tt

pub starts-at_first : (at : ℕ) (s : List Offsets) → Starts s → Starts (at_first at s)
starts-at_first at [] h = h
starts-at_first at (x ∷ s) h = tt

-- ---- every part of a sum has a token

pub factor-starts : (f : SeenFactor) → Starts (offsets_of_factor f)
factor-starts (seen_named n) = tt
factor-starts (seen_nested ts) = tt

term-starts : (t : SeenTerm) → IsTerm (plain_of_term t) → Starts (offsets_of_term t)
term-starts (seen_number at d) is = tt
term-starts (seen_times at d f) is = tt
term-starts (seen_alone at f) is = starts-at_first at (offsets_of_factor f) (factor-starts f)
term-starts (seen_blank at) is = absurd is

seen-starts : (ts : SeenTerms) → IsSum (plain_of_terms ts) → Starts (offsets_of_sum ts)
seen-starts seen_none is = absurd is
seen-starts (seen_more sign.Plus t ts) is = starts-append (offsets_of_term t) (offsets_of_more ts) (term-starts t is.0)
seen-starts (seen_more sign.Minus t ts) is = tt

pub sum-starts : (s : TreeSum) → IsSum (plain_sum s) → Starts (sum_stated s)
sum-starts s is = let p : SeenSum s = every_sum_seen s in subst Starts (sym p.stated) (seen-starts (seen_sum s) (subst IsSum p.plain is))
