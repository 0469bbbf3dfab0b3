-- Runs that fit a file: what they refer to exists.
use Rattle.std.specs.Prelude.{pos, ◌<◌, ◌≤ℤ◌, ◌≡◌, length, slice_get, Some}
use Rattle.std.specs.List.{AllByRecursion}
use Rattle.ta_linear.specs.Numbers.{InRange}
use Rattle.ta_automaton.specs.declared.automaton.Automaton.{Automaton}
use Rattle.ta_automaton.specs.declared.pattern.Pattern.{Pattern}
use Rattle.ta_automaton.specs.declared.file.File.{File}
use Rattle.ta_counter.specs.Values.{Value}
use Rattle.ta_replay.specs.declared.run.Run.{Run}
use Rattle.ta_replay.specs.declared.run.RunLine.{RunLine}
use Rattle.ta_replay.specs.declared.run.RunLine.TheVariants.{Step, Mark}

-- a step of an existing rule with a factor from 1, or a mark of an existing event
abbrev pub LineFits : Automaton → Pattern → RunLine → Type 0
LineFits a p (Step rule factor) = (rule < length a.rules) × (pos 1 ≤ℤ factor) × InRange factor
LineFits a p (Mark event) = event < length p.events

-- the run's numbers exist in the file, and it has a natural value in range for each parameter and a count for each initial location
pub record Fits (file : File) (run : Run) : Type 0 where
  pub pattern : Pattern
  pub named : slice_get file.patterns run.pattern ≡ Some pattern
  pub parameters : length run.parameters ≡ length file.automaton.parameters
  pub parameters_natural : AllByRecursion Value run.parameters
  pub counts : length run.counts ≡ length file.automaton.initial
  pub counts_natural : AllByRecursion Value run.counts
  pub lines : AllByRecursion (LineFits file.automaton pattern) run.lines
