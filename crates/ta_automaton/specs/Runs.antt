-- Runs of a threshold automaton, and the patterns that occur in them. Source: Konnov, Lazić, Veith, Widder, "A Short Counterexample
-- Property for Safety and Liveness Verification of Fault-Tolerant Distributed Algorithms", POPL 2017: counter systems, here with
-- transitions of one process, paths, and the safety part of ELTL_FT.
use Rattle.std.specs.Prelude.{ℕ, ℤ, pos, ◌+◌, ◌+ℤ◌, ◌≤ℤ◌, ◌≤◌, ◌≡◌, ◌==◌, List, [], ◌∷◌, ◌++◌, length, All, Contains, sum, slice_get, slice_index}
use Rattle.std.specs.Prelude.{if◌then◌else◌, Some, IsBitSet}
use Rattle.ta_linear.specs.Terms.{coefficient}
use Rattle.ta_linear.specs.Values.{value_of, RowHolds}
use Rattle.ta_linear.specs.declared.row.Row.{Row}
use Rattle.ta_automaton.specs.declared.condition.Comparison.{Comparison}
use Rattle.ta_automaton.specs.declared.condition.Condition.{Condition}
use Rattle.ta_automaton.specs.declared.rule.Rule.{Rule}
use Rattle.ta_automaton.specs.declared.automaton.Automaton.{Automaton}
use Rattle.ta_automaton.specs.declared.pattern.Event.{Event}
use Rattle.ta_automaton.specs.declared.pattern.Pattern.{Pattern}

-- the number at an index of a list
abbrev pub number_at : List ℕ → ℕ → ℤ
number_at values i = pos (slice_index values i)

-- a condition holds at a point: each row of each comparison has a form whose value is at least 0
abbrev pub HoldsAt : (ℕ → ℤ) → Condition → Type 0
HoldsAt point condition = All (λ (k : Comparison). All (RowHolds point) k.rows) condition.comparisons

-- admissible parameters: one natural number per parameter, at which the resilience condition holds
pub record Admissible (a : Automaton) (parameters : List ℕ) : Type 0 where
  pub count : length parameters ≡ length a.parameters
  pub resilience : HoldsAt (number_at parameters) a.resilience

-- a configuration: natural values of the parameters and the shared variables, and a counter for each location
pub record Config : Type 0 where
  pub parameters : List ℕ
  pub shared : List ℕ
  pub counters : List ℕ

-- the value at a place number: parameters first, then shared variables, then locations
abbrev pub value_at : Config → ℕ → ℤ
value_at c = number_at (c.parameters ++ c.shared ++ c.counters)

-- a condition holds in a configuration
abbrev pub Holds : Condition → Config → Type 0
Holds condition c = HoldsAt (value_at c) condition

-- an initial configuration: all processes are in initial locations, and every shared variable is 0
pub record Initial (a : Automaton) (c : Config) : Type 0 where
  pub admissible : Admissible a c.parameters
  pub shared_count : length c.shared ≡ length a.shared
  pub locations_count : length c.counters ≡ length a.locations
  pub others_empty : (l : ℕ) → ¬ Contains a.initial l → slice_index c.counters l ≡ 0
  pub processes : pos (sum c.counters) ≡ value_of (number_at c.parameters) a.processes
  pub shared_zero : (x : ℕ) → slice_index c.shared x ≡ 0

-- the guards that a mask names hold
abbrev pub MaskedHold : ℕ → List Row → Config → Type 0
MaskedHold mask rows c = (i : ℕ) (row : Row) → slice_get rows i ≡ Some row → IsBitSet mask i → RowHolds (value_at c) row

-- one process moves from the rule's source to its target, and the rule's updates are added
pub record Move (a : Automaton) (rule : Rule) (before after : Config) : Type 0 where
  pub rise : MaskedHold rule.rise a.rise before
  pub fall : MaskedHold rule.fall a.fall before
  pub some : 1 ≤ slice_index before.counters rule.from
  pub moved : (l : ℕ) → slice_index after.counters l + (if l == rule.from then 1 else 0) ≡ slice_index before.counters l + (if l == rule.to then 1 else 0)
  pub counters_count : length after.counters ≡ length before.counters
  pub added : (x : ℕ) → pos (slice_index after.shared x) ≡ (pos (slice_index before.shared x) +ℤ coefficient rule.updates x)
  pub shared_count : length after.shared ≡ length before.shared
  pub parameters : after.parameters ≡ before.parameters

-- a unit step of a rule, by its number
pub record Step (a : Automaton) (r : ℕ) (before after : Config) : Type 0 where
  pub rule : Rule
  pub named : slice_get a.rules r ≡ Some rule
  pub move : Move a rule before after

-- a schedule: rule numbers that are, one after another, steps from a configuration through the later ones
abbrev pub Steps : Automaton → Config → List ℕ → List Config → Type 0
Steps a c [] [] = Unit {0}
Steps a c (r ∷ rs) (d ∷ ds) = Step a r c d × Steps a d rs ds
Steps a c [] (d ∷ ds) = ⊥
Steps a c (r ∷ rs) [] = ⊥

-- a run: steps from an initial configuration
pub record Run (a : Automaton) (first : Config) (rules : List ℕ) (later : List Config) : Type 0 where
  pub initial : Initial a first
  pub steps : Steps a first rules later

-- the configuration after k steps
abbrev pub At : Config → List Config → ℕ → Config → Type 0
At first later k c = slice_get (first ∷ later) k ≡ Some c

-- an event's condition holds at its position, which is at most the run's length
abbrev pub HappensAt : Config → List Config → Event → ℕ → Type 0
HappensAt first later event k = (c : Config) × At first later k c × Holds event.condition c

-- the pattern occurs in the run of the rules from a first configuration
pub record Occurs (a : Automaton) (p : Pattern) (first : Config) (rules : List ℕ) : Type 0 where
  pub later : List Config
  pub run : Run a first rules later
  pub start : Holds p.start first
  pub kept_empty : (l : ℕ) → IsBitSet p.empty l → All (λ (c : Config). slice_index c.counters l ≡ 0) (first ∷ later)
  pub positions : List ℕ
  pub each_has_one : length positions ≡ length p.events
  pub happens : (e : ℕ) (event : Event) (k : ℕ) → slice_get p.events e ≡ Some event → slice_get positions e ≡ Some k → HappensAt first later event k
  pub in_order : (e f : ℕ) (event : Event) → slice_get p.events e ≡ Some event → IsBitSet event.after f → slice_index positions f ≤ slice_index positions e

-- the pattern occurs in no run, for any admissible parameters and any number of steps
abbrev pub Safe : Automaton → Pattern → Type 0
Safe a p = (first : Config) (rules : List ℕ) → Occurs a p first rules → ⊥

-- rules lead from one location to another
abbrev pub Walk : Automaton → ℕ → List ℕ → ℕ → Type 0
Walk a x [] y = x ≡ y
Walk a x (r ∷ rs) y = (rule : Rule) × (slice_get a.rules r ≡ Some rule) × (rule.from ≡ x) × Walk a rule.to rs y

-- a self-loop has no update
abbrev pub LoopsPure : Automaton → Type 0
LoopsPure a = (r : ℕ) (rule : Rule) → slice_get a.rules r ≡ Some rule → rule.from ≡ rule.to → (x : ℕ) → coefficient rule.updates x ≡ pos 0

-- a rule adds something to a shared variable
abbrev pub HasUpdate : Rule → Type 0
HasUpdate rule = (x : ℕ) × (pos 1 ≤ℤ coefficient rule.updates x)

-- a canonical automaton: no rule with an update has a walk from its target back to its source; a self-loop is such a walk
abbrev pub InScope : Automaton → Type 0
InScope a = (r : ℕ) (rule : Rule) → slice_get a.rules r ≡ Some rule → HasUpdate rule → (walk : List ℕ) → Walk a rule.to walk rule.from → ⊥
