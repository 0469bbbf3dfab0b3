-- Which rise guard implies which, under the resilience condition: of a pair, the guard before holds wherever the guard after holds. A
-- Farkas certificate shows it.
use Rattle.std.specs.Prelude.{ℕ, zero, suc, ◌+◌, ◌<◌, ◌≡◌, ◌≢◌, List, [], ◌∷◌, ◌++◌, ℤ, length, flat_map, slice_get, Some}
use Rattle.std.specs.List.{AllByRecursion}
use Rattle.ta_linear.specs.Forms.{IsNegation}
use Rattle.ta_linear.specs.Leaf.{LeafOf}
use Rattle.ta_linear.specs.Values.{RowHolds}
use Rattle.ta_linear.specs.declared.row.Row.{Row}
use Rattle.ta_linear.specs.declared.row.System.{System}
use Rattle.ta_automaton.specs.declared.automaton.Automaton.{Automaton}
use Rattle.ta_automaton.specs.declared.condition.Comparison.{Comparison}
use Rattle.ta_base.specs.Lists.{Distinct}
use Rattle.ta_base.specs.Masks.{In}
use Rattle.ta_automaton.specs.Runs.{Admissible, Config, value_at}

-- the rows of the resilience condition, in order
abbrev pub resilience_rows : Automaton → List Row
resilience_rows a = flat_map (λ (k : Comparison). k.rows) a.resilience.comparisons

-- the same numbers in two rows
pub record IsCopy (row copy : Row) : Type 0 where
  pub constant : copy.form.constant ≡ row.form.constant
  pub terms : copy.form.terms ≡ row.form.terms

-- row for row
abbrev pub AreCopies : List Row → List Row → Type 0
AreCopies [] [] = Unit {0}
AreCopies (r ∷ rs) (q ∷ qs) = IsCopy r q × AreCopies rs qs
AreCopies [] (q ∷ qs) = ⊥
AreCopies (r ∷ rs) [] = ⊥

-- the system of a pair of rise guards: its unknowns are the parameters and then the shared variables, and its rows those of the
-- resilience condition, then that of the guard that comes after, then the negated one of the guard that comes before
pub record ImplySystem (a : Automaton) (before after : ℕ) (system : System) : Type 0 where
  pub unknowns : system.unknowns ≡ length a.parameters + length a.shared
  pub first : Row
  pub before_is : slice_get a.rise before ≡ Some first
  pub second : Row
  pub after_is : slice_get a.rise after ≡ Some second
  pub negation : Row
  pub negated : IsNegation negation.form first.form
  pub rows : AreCopies (resilience_rows a ++ second ∷ negation ∷ []) system.rows

-- a guard holds in a configuration
abbrev pub RiseHolds : Automaton → Config → ℕ → Type 0
RiseHolds a c guard = (row : Row) → slice_get a.rise guard ≡ Some row → RowHolds (value_at c) row

-- if a pair's system has a leaf, the guard before holds in each configuration of admissible parameters in which the guard after holds
abbrev pub LeavesImply : Type 0
LeavesImply =
    (a : Automaton) (before after : ℕ) (system : System) (ts : List (ℕ × ℤ)) → ImplySystem a before after system → LeafOf system ts
    → (c : Config) → Admissible a c.parameters → length c.shared ≡ length a.shared
    → RiseHolds a c after → RiseHolds a c before

-- from one guard a chain of this many more pairs leads to another
abbrev pub ChainLeads : List (ℕ × ℕ) → ℕ → ℕ → ℕ → Type 0
ChainLeads pairs zero first last = In (first, last) pairs
ChainLeads pairs (suc more) first last = (next : ℕ) × In (first, next) pairs × ChainLeads pairs more next last

-- a pair of different rise guards
pub record IsPair (a : Automaton) (pair : ℕ × ℕ) : Type 0 where
  pub before : pair.0 < length a.rise
  pub after : pair.1 < length a.rise
  pub apart : pair.0 ≢ pair.1

-- a pair's system has a leaf
pub record IsImplied (a : Automaton) (pair : ℕ × ℕ) : Type 0 where
  pub system : System
  pub is : ImplySystem a pair.0 pair.1 system
  pub multipliers : List (ℕ × ℤ)
  pub leaf : LeafOf system multipliers

-- pairs that may order guards: each is implied, no pair occurs twice, and no chain leads from a guard back to itself
pub record Good (a : Automaton) (pairs : List (ℕ × ℕ)) : Type 0 where
  pub pairs_are : AllByRecursion (IsPair a) pairs
  pub implied : AllByRecursion (IsImplied a) pairs
  pub distinct : Distinct pairs
  pub acyclic : (more guard : ℕ) → ChainLeads pairs more guard guard → ⊥

-- under such pairs, in a configuration of admissible parameters: if a guard holds, so does each guard from which a chain leads to it
abbrev pub GuardsComeAfter : Type 0
GuardsComeAfter =
    (a : Automaton) (pairs : List (ℕ × ℕ)) → Good a pairs
    → (c : Config) → Admissible a c.parameters → length c.shared ≡ length a.shared
    → (more first last : ℕ) → ChainLeads pairs more first last → RiseHolds a c last → RiseHolds a c first
