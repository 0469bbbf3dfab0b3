-- Lists of pairs of rise guards, in increasing order; which pairs may join them, and why others are refused.
use Rattle.std.specs.Prelude.{ℕ, ◌+◌, ◌<◌, ◌^◌, ◌==◌, ◌&&◌, ◌||◌, nat_lt, if◌then◌else◌, ℤ, ◌≡◌, Bool, List, [], ◌∷◌, ◌++◌, map, filter, true}
use Rattle.std.specs.List.{AllByRecursion, range_with_len}
use Rattle.ta_linear.specs.Leaf.{LeafOf}
use Rattle.ta_linear.specs.declared.row.System.{System}
use Rattle.ta_automaton.specs.declared.automaton.Automaton.{Automaton}
use Rattle.ta_base.specs.Masks.{In, has_bit}
use Rattle.ta_farkas.specs.Columns.{CheckStays}
use Rattle.ta_implied.specs.Implied.{ImplySystem, IsPair, ChainLeads}

-- the pairs of a guard with the guards of a mask before it, by rising number of the guard before
abbrev pub pairs_at : ℕ → ℕ → List (ℕ × ℕ)
pairs_at guard mask = map (λ j. (j, guard)) (filter (has_bit mask) (range_with_len 0 64))

-- the pairs of guards from a number on, by rising number of the guard after, where each has a mask of the guards before it
abbrev pub pairs_from : ℕ → List ℕ → List (ℕ × ℕ)
pairs_from guard [] = []
pairs_from guard (mask ∷ masks) = pairs_at guard mask ++ pairs_from (guard + 1) masks

-- whether a pair's place is before another's: by the guards after, and then by the guards before
abbrev pub is_earlier : ℕ × ℕ → ℕ × ℕ → Bool
is_earlier pair other = nat_lt pair.1 other.1 || ((pair.1 == other.1) && nat_lt pair.0 other.0)

-- a list of pairs with one more at its place
abbrev pub with_pair : ℕ × ℕ → List (ℕ × ℕ) → List (ℕ × ℕ)
with_pair pair [] = pair ∷ []
with_pair pair (other ∷ others) = if is_earlier pair other then pair ∷ other ∷ others else other ∷ with_pair pair others

-- a chain of pairs leads from one guard to another
abbrev pub LeadsSome : List (ℕ × ℕ) → ℕ → ℕ → Type 0
LeadsSome pairs first last = (more : ℕ) × ChainLeads pairs more first last

-- a guard comes before one of a mask, among those below a number
abbrev pub IsBeforeSome : List (ℕ × ℕ) → ℕ → ℕ → ℕ → Type 0
IsBeforeSome pairs mask n j = (guard : ℕ) × (guard < n) × (has_bit mask guard ≡ true) × In (j, guard) pairs

-- no chain of pairs leads from a guard back to itself
abbrev pub HasNoCircle : List (ℕ × ℕ) → Type 0
HasNoCircle pairs = (more guard : ℕ) → ¬ ChainLeads pairs more guard guard

-- masks of guards before others: they name existing guards only, and no chain of their pairs leads back
pub record AreOrderMasks (masks : List ℕ) : Type 0 where
  pub fit : AllByRecursion (λ m. m < 2 ^ 64) masks
  pub no_circle : HasNoCircle (pairs_from 0 masks)

-- a pair may join others: it has two different rise guards, is not among the others, and no chain of them leads from its guard after to its
-- guard before
pub record MayJoin (a : Automaton) (pairs : List (ℕ × ℕ)) (pair : ℕ × ℕ) : Type 0 where
  pub is : IsPair a pair
  pub fresh : ¬ In pair pairs
  pub closes_none : (more : ℕ) → ¬ ChainLeads pairs more pair.1 pair.0

-- multipliers are a leaf of a pair's system, and the check of it stays in range
pub record IsShown (a : Automaton) (pair : ℕ × ℕ) (ts : List (ℕ × ℤ)) : Type 0 where
  pub system : System
  pub is : ImplySystem a pair.0 pair.1 system
  pub leaf : LeafOf system ts
  pub stays : CheckStays system ts

-- a pair joined others at its place: it may join them, and these multipliers show it
pub record JoinsPair (a : Automaton) (pair : ℕ × ℕ) (ts : List (ℕ × ℤ)) (old new : List (ℕ × ℕ)) : Type 0 where
  pub may : MayJoin a old pair
  pub shown : IsShown a pair ts
  pub whole : new ≡ with_pair pair old

-- no chain of pairs leads from a guard to one that stands before it
abbrev pub GuardsInOrder : List (ℕ × ℕ) → List ℕ → Type 0
GuardsInOrder pairs [] = Unit {0}
GuardsInOrder pairs (guard ∷ guards) = AllByRecursion (λ later. ¬ LeadsSome pairs later guard) guards × GuardsInOrder pairs guards

-- the guards of a list in such an order
pub record AreOrdered (pairs : List (ℕ × ℕ)) (xs : List ℕ) : Type 0 where
  pub ys : List ℕ
  pub in_order : GuardsInOrder pairs ys
  pub all : (x : ℕ) → In x xs → In x ys
  pub only : (x : ℕ) → In x ys → In x xs

-- under pairs without a cycle, guards can be put into such an order
abbrev pub GuardsCanBeOrdered : Type 0
GuardsCanBeOrdered = (pairs : List (ℕ × ℕ)) → HasNoCircle pairs → (xs : List ℕ) → AreOrdered pairs xs
