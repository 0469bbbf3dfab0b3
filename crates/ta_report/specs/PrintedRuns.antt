-- The runs in a report.
use Rattle.std.specs.Prelude.{ℕ, ◌≡◌, ◌⊎◌, Bool, true, false, List, [], ◌∷◌, ◌++◌, codes, slice_get, Some}
use Rattle.std.specs.List.{AllByRecursion}
use Rattle.ta_automaton.specs.declared.file.File.{File}
use Rattle.ta_automaton.specs.declared.pattern.Pattern.{Pattern}
use Rattle.ta_replay.specs.declared.run.Run.{Run}
use Rattle.ta_replay.specs.RunText.{lines_text, run_text}
use Rattle.ta_base.specs.Bytes.{Avoids}
use Rattle.ta_report.specs.Printed.{LineAt, told_of}
use Rattle.ta_report.specs.Picked.{entry_of}
use Rattle.ta_report.specs.declared.pick.Pick.{Pick}
use Rattle.ta_report.specs.Report.{SampleFits, VerdictFits, told_text}
use Rattle.ta_report.specs.declared.verdict.ReportSample.{ReportSample}
use Rattle.ta_report.specs.declared.verdict.Verdict.{Verdict}
use Rattle.ta_report.specs.declared.verdict.Verdict.TheVariants.{Unsafe}

-- a text begins so
abbrev pub BeginsText : List ℕ → List ℕ → Type 0
BeginsText front text = (behind : List ℕ) × (text ≡ front ++ behind)

-- a line, without its line feed, that is not about a pattern
pub record IsPlain (line : List ℕ) : Type 0 where
  pub no_feed : Avoids 10 line
  pub other : ¬ BeginsText (codes "pattern ") line

-- how a report, and that of `rest`, begin the line of a safe pattern, and of an unsafe one, after its name
abbrev pub safe_words : Bool → List ℕ
safe_words false = codes "safe, "
safe_words true = codes "rest safe, "

abbrev pub unsafe_words : Bool → List ℕ
unsafe_words false = codes "unsafe, "
unsafe_words true = codes "rest unsafe, "

-- the bytes are the lines of a text after the line of this pattern that begins so, up to the next line about a pattern, or to the end
pub record RunPart (word name bytes text : List ℕ) : Type 0 where
  pub lines : List (List ℕ)
  pub bytes_are : bytes ≡ lines_text lines
  pub plain : AllByRecursion IsPlain lines
  pub words : List ℕ
  pub no_feed : Avoids 10 words
  pub behind : List ℕ
  pub ends : (behind ≡ []) ⊎ BeginsText (codes "pattern ") behind
  pub stands : LineAt (told_of name (word ++ words)) (10 ∷ (bytes ++ behind)) text

-- after the line of an unsafe pattern comes the text of its run, in both reports
abbrev pub RunsArePrinted : Type 0
RunsArePrinted =
    (rest : Bool) (file : File) (pick : Pick) (sample : ReportSample) (verdicts : List Verdict) (number : ℕ) (pattern : Pattern)
    → slice_get file.patterns number ≡ Some pattern
    → SampleFits file sample → AllByRecursion (VerdictFits file) verdicts
    → (nodes : ℕ) (run : Run) → entry_of pick verdicts number ≡ Some (Unsafe nodes run)
    → RunPart (unsafe_words rest) pattern.name (run_text file run) (told_text rest file pick sample verdicts)

-- what is found there is the text of its run
abbrev pub PrintedRuns : Type 0
PrintedRuns =
    (rest : Bool) (file : File) (pick : Pick) (sample : ReportSample) (verdicts : List Verdict) (number : ℕ) (pattern : Pattern)
    → slice_get file.patterns number ≡ Some pattern
    → SampleFits file sample → AllByRecursion (VerdictFits file) verdicts
    → (bytes : List ℕ) → RunPart (unsafe_words rest) pattern.name bytes (told_text rest file pick sample verdicts)
    → (nodes : ℕ) × (run : Run) × (entry_of pick verdicts number ≡ Some (Unsafe nodes run)) × (bytes ≡ run_text file run)
