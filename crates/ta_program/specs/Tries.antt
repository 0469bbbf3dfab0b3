-- What the output of `search` says of the values that were tried.
use Rattle.std.specs.Prelude.{ℕ, ◌≡◌, ◌↔◌, true, List, slice_get, Option, Some}
use Rattle.std.specs.List.{AllByRecursion}
use Rattle.ta_automaton.specs.declared.file.File.{File}
use Rattle.ta_automaton.specs.declared.pattern.Pattern.{Pattern}
use Rattle.ta_automaton.specs.Runs as runs
use Rattle.ta_encode.specs.Sample.{HasStart}
use Rattle.ta_base.specs.declared.limits.Limits.{Limits}
use Rattle.ta_meaning.specs.Reading.{Legal}
use Rattle.ta_search.specs.declared.outcome.Outcome.{Outcome}
use Rattle.ta_search.specs.declared.outcome.Outcome.TheVariants as outcome
use Rattle.ta_search.specs.declared.outcome.SearchEnd.{SearchEnd}
use Rattle.ta_search.specs.declared.template.Template.{Template}
use Rattle.ta_search.specs.Filling.{filled_text}
use Rattle.ta_search.specs.SearchJson.{search_told}
use Rattle.ta_shelf.specs.Sink.{with_text}
use Rattle.ta_shelf.specs.Sights.{View}
use Rattle.ta_program.specs.Values.{limits_of}
use Rattle.ta_program.specs.Search.{IsTemplate}
use Rattle.ta_program.specs.SearchWords.{SearchWords}

-- within these limits the text means a file, each of whose patterns occurs in no run, and some parameters of it have an initial configuration
pub record MeansSafe (l : Limits) (bytes : List ℕ) : Type 0 where
  pub file : File
  pub legal : Legal l bytes file
  pub safe : AllByRecursion (runs.Safe file.automaton) file.patterns
  pub parameters : List ℕ
  pub start : HasStart file.automaton parameters

-- within these limits the text means a file, whose pattern with this name occurs in a run
pub record MeansOccurring (l : Limits) (bytes name : List ℕ) : Type 0 where
  pub file : File
  pub legal : Legal l bytes file
  pub number : ℕ
  pub pattern : Pattern
  pub among : slice_get file.patterns number ≡ Some pattern
  pub named : name ≡ pattern.name
  pub first : runs.Config
  pub rules : List ℕ
  pub occurs : runs.Occurs file.automaton pattern first rules

-- within these limits the text means a file, no parameters of which have an initial configuration
pub record MeansEmpty (l : Limits) (bytes : List ℕ) : Type 0 where
  pub file : File
  pub legal : Legal l bytes file
  pub none : (parameters : List ℕ) → ¬ HasStart file.automaton parameters

-- what is said of a filled text as safe, unsafe or without parameters is so; of the other outcomes nothing is said here
abbrev pub OutcomeMeans : Limits → List ℕ → Outcome → Type 0
OutcomeMeans l bytes outcome.Long = Unit {0}
OutcomeMeans l bytes (outcome.Refused e) = Unit {0}
OutcomeMeans l bytes outcome.Empty = MeansEmpty l bytes
OutcomeMeans l bytes (outcome.SampleUnknown s) = Unit {0}
OutcomeMeans l bytes (outcome.Unsafe name run) = MeansOccurring l bytes name
OutcomeMeans l bytes (outcome.Unknown name v) = Unit {0}
OutcomeMeans l bytes (outcome.Safe certificate) = MeansSafe l bytes

-- the bytes under a name are the text of a template, and the output gained the text of what was tried, in JSON or in lines; each outcome
-- safe, unsafe or without parameters that this text lists is so of the text filled with the values that stand with it, and it ends with
-- `found` exactly with status 0
pub record EachTried (number : ℕ) (view : View) (asked : SearchWords) (written written' : Option (List ℕ)) : Type 0 where
  pub template : Template
  pub is_template : IsTemplate (limits_of asked.wide) view asked.file template
  pub end : SearchEnd
  pub gained : written' ≡ with_text written (search_told asked.json template end)
  pub means : AllByRecursion (λ x. OutcomeMeans (limits_of asked.wide) (filled_text template x.values) x.outcome) end.tried
  pub found : (end.found ≡ true) ↔ (number ≡ 0)
