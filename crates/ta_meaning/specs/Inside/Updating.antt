-- The updates of a rule while they are read.
use Rattle.std.specs.Prelude.{ℕ, ℤ, pos, ◌≡◌, ◌≤◌, ◌==◌, List, [], ◌∷◌, ◌++◌, length, map, slice_get, slice_index_or, Contains, Some, Result, Ok, Err}
use Rattle.std.specs.Prelude.{if◌then◌else◌}
use Rattle.std.specs.List.{AllByRecursion}
use Rattle.ta_syntax.specs.Grammar.{PlainUpdate}
use Rattle.ta_syntax.specs.declared.names.Spelled.{Spelled}
use Rattle.ta_syntax.specs.declared.fault.FileFault.{FileFault}
use Rattle.ta_syntax.specs.declared.fault.FileFault.TheVariants as fault
use Rattle.ta_base.specs.Lists.{Distinct}
use Rattle.ta_automaton.specs.Shape.{Update, variable_of}
use Rattle.ta_meaning.specs.Names.{Names, all_names}
use Rattle.ta_meaning.specs.Sums.{has_name}
use Rattle.ta_meaning.specs.Faults.{where_, else_, used_faults}
use Rattle.ta_meaning.specs.Meaning.{MeansUpdates}

-- the names at some numbers
abbrev pub names_at : List (List ℕ) → List ℕ → List (List ℕ)
names_at names numbers = map (λ x. slice_index_or names x []) numbers

-- an updated variable: F3 if it was updated before in the rule, otherwise the errors of a used name
abbrev pub variable_faults : Names → List (List ℕ) → Spelled → List FileFault
variable_faults ns before n = else_ (where_ (has_name before n.name) (fault.Duplicate n.at)) (used_faults (all_names ns) ns.shared n)

-- the number of a name, which is none of those seen
pub record IsNewVariable (names : List (List ℕ)) (seen : List ℕ) (name : List ℕ) (variable : ℕ) : Type 0 where
  pub named : slice_get names variable ≡ Some name
  pub new : Contains seen variable → ⊥

-- one more update, unless it is by 0; or out of memory
abbrev pub WithUpdate : List (ℕ × ℤ) → ℕ → ℕ → List (ℕ × ℤ) → Result (Unit {0}) FileFault → Type 0
WithUpdate updates variable amount after (Ok done) = after ≡ (if amount == 0 then updates else updates ++ (variable, pos amount) ∷ [])
WithUpdate updates variable amount after (Err e) = e ≡ fault.Memory

-- the updates that a rule's updates mean, of distinct shared variables
pub record UpdatesRead (ns : Names) (us : List PlainUpdate) (updates : List (ℕ × ℤ)) : Type 0 where
  pub means : MeansUpdates ns.shared us updates
  pub each : AllByRecursion (Update (length ns.shared)) updates
  pub distinct : Distinct (map variable_of updates)
  pub few : length updates ≤ length us
