-- What compression keeps of a run: the events that it marks, in order, and the configurations at which they happen.
use Rattle.std.specs.Prelude.{ℕ, ◌≡◌, List, [], ◌∷◌, length, replicate, unsigned_abs, slice_get, Some}
use Rattle.ta_automaton.specs.declared.automaton.Automaton.{Automaton}
use Rattle.ta_automaton.specs.declared.pattern.Pattern.{Pattern}
use Rattle.ta_automaton.specs.declared.file.File.{File}
use Rattle.ta_automaton.specs.Runs.{Config, Initial, Steps, At}
use Rattle.ta_pattern.specs.Empty.{KeepsEmpty}
use Rattle.ta_replay.specs.declared.run.Run.{Run}
use Rattle.ta_replay.specs.declared.run.RunLine.{RunLine}
use Rattle.ta_replay.specs.declared.run.RunLine.TheVariants.{Step, Mark}
use Rattle.ta_replay.specs.Shows.{IsFirstConfig}

-- unit steps of these rules lead from one configuration to another, and the pattern's `empty` is kept all along
pub record StepsLead (a : Automaton) (p : Pattern) (c : Config) (rules : List ℕ) (d : Config) : Type 0 where
  pub later : List Config
  pub steps : Steps a c rules later
  pub ends : At c later (length rules) d
  pub kept : (k : ℕ) (e : Config) → At c later k e → KeepsEmpty p.empty e

-- from a configuration on, the steps of lines are legal, and the lines mark these events at these configurations
abbrev pub LinesTell : Automaton → Pattern → Config → List RunLine → List (ℕ × Config) → Type 0
LinesTell a p c [] tale = tale ≡ []
LinesTell a p c (Step r factor ∷ lines) tale = (d : Config) × StepsLead a p c (replicate (unsigned_abs factor) r) d × LinesTell a p d lines tale
LinesTell a p c (Mark e ∷ lines) tale = (rest : List (ℕ × Config)) × (tale ≡ (e, c) ∷ rest) × LinesTell a p c lines rest

-- two runs begin at the same configuration, and mark the same events in the same order at the same configurations
pub record SameTale (file : File) (run other : Run) : Type 0 where
  pub pattern : Pattern
  pub named : slice_get file.patterns run.pattern ≡ Some pattern
  pub same_pattern : other.pattern ≡ run.pattern
  pub first : Config
  pub initial : Initial file.automaton first
  pub begins : IsFirstConfig file.automaton run first
  pub other_begins : IsFirstConfig file.automaton other first
  pub tale : List (ℕ × Config)
  pub told : LinesTell file.automaton pattern first run.lines tale
  pub other_told : LinesTell file.automaton pattern first other.lines tale
