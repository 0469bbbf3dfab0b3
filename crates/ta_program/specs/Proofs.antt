-- What `check` and `rest-check` say of the patterns that a certificate proves.
use Rattle.std.specs.Prelude.{ℕ, ◌≡◌, ◌+◌, ◌&&◌, ◌||◌, nat_lt, not, Bool, true, false, List, [], ◌∷◌, length, slice_get, Option, None, Some, if◌then◌else◌}
use Rattle.std.specs.List.{AllByRecursion}
use Rattle.ta_automaton.specs.declared.automaton.Automaton.{Automaton}
use Rattle.ta_automaton.specs.declared.file.File.{File}
use Rattle.ta_automaton.specs.declared.pattern.Pattern.{Pattern}
use Rattle.ta_automaton.specs.Runs as runs
use Rattle.ta_base.specs.declared.limits.TheConstants.{DEFAULT_NODES}
use Rattle.ta_report.specs.Check.{is_proved, proofs_text}
use Rattle.ta_report.specs.CheckJson.{proofs_of}
use Rattle.ta_report.specs.declared.verdict.ReportSample.{ReportSample}
use Rattle.ta_report.specs.declared.verdict.ReportSample.TheVariants as sample
use Rattle.ta_shelf.specs.Sights.{View}
use Rattle.ta_shelf.specs.declared.answer.Answer.{Answer}
use Rattle.ta_verdict.specs.Verdicts.{IsSample}
use Rattle.ta_program.specs.Headline.{HoldsFile}
use Rattle.ta_program.specs.declared.proof_options.ProofOptions.{ProofOptions}

-- what is said of the parameters, if it is wanted: by the same search as that of `verify` with the default budget
abbrev pub IsSampleFor : Bool → File → Option ReportSample → Type 0
IsSampleFor wanted file None = wanted ≡ false
IsSampleFor wanted file (Some s) = (wanted ≡ true) × IsSample file DEFAULT_NODES s

-- it is wanted for the status of `--all`, and for the line of `--parameters`
abbrev pub wants_sample : ProofOptions → Bool
wants_sample options = options.all || options.parameters

-- what is printed of it: all, or nothing
abbrev pub printed_sample : Bool → Option ReportSample → Option ReportSample
printed_sample true s = s
printed_sample false s = None

-- values of the parameters were found that have an initial configuration
abbrev pub is_found : ReportSample → Bool
is_found (sample.Sample values) = true
is_found sample.Empty = false
is_found (sample.Spent count) = false
is_found (sample.Overflow node kind) = false

abbrev pub has_start : Option ReportSample → Bool
has_start None = false
has_start (Some s) = is_found s

-- all patterns, of which the first has this number, are among those of these numbers
abbrev pub are_proved : List ℕ → ℕ → List Pattern → Bool
are_proved numbers number [] = true
are_proved numbers number (p ∷ ps) = is_proved numbers number && are_proved numbers (number + 1) ps

-- so are all patterns of a file, and there is one
abbrev pub each_proved : File → List ℕ → Bool
each_proved file numbers = nat_lt 0 (length file.patterns) && are_proved numbers 0 file.patterns

-- 2 if all is to be proved and isn't: some pattern is not proved, or there is none, or no parameters with an initial configuration are known
abbrev pub proofs_number : Bool → File → Option ReportSample → List ℕ → ℕ
proofs_number all file s numbers = if all && not (has_start s && each_proved file numbers) then 2 else 0

-- a status and a text say which patterns of a file are proved: those of these numbers; as `check` says it, or as `rest-check`
pub record TellsProofs (rest : Bool) (file : File) (options : ProofOptions) (numbers : List ℕ) (number : ℕ) (text : List ℕ) : Type 0 where
  pub sample : Option ReportSample
  pub is_sample : IsSampleFor (wants_sample options) file sample
  pub numbered : number ≡ proofs_number options.all file sample numbers
  pub told : text ≡ proofs_of options.json rest file (printed_sample options.parameters sample) numbers

-- the text of `check` and of `rest-check` without options
abbrev pub check_text : File → List ℕ → List ℕ
check_text file numbers = proofs_text false file None numbers

abbrev pub rest_check_text : File → List ℕ → List ℕ
rest_check_text file numbers = proofs_text true file None numbers

-- an answer says so, and puts no file
pub record SaysProofs (rest : Bool) (file : File) (options : ProofOptions) (numbers : List ℕ) (answer : Answer) : Type 0 where
  pub tells : TellsProofs rest file options numbers answer.number answer.text
  pub no_put : answer.puts ≡ []

-- the bytes under a name mean a file with patterns, a fact holds of each of them, and some initial configuration exists
pub record EveryPattern (Fact : Automaton → Pattern → Type 0) (view : View) (name : List ℕ) : Type 0 where
  pub file : File
  pub holds : HoldsFile view name file
  pub first : Pattern
  pub is_first : slice_get file.patterns 0 ≡ Some first
  pub each : AllByRecursion (Fact file.automaton) file.patterns
  pub start : runs.Config
  pub initial : runs.Initial file.automaton start
