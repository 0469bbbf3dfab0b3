-- What a printed line says of its pattern.
use Rattle.std.specs.Prelude.{ℕ, ◌≡◌, ◌⊎◌, List, ◌∷◌, ◌++◌, codes, slice_get, Some}
use Rattle.std.specs.List.{AllByRecursion}
use Rattle.ta_automaton.specs.declared.file.File.{File}
use Rattle.ta_automaton.specs.declared.pattern.Pattern.{Pattern}
use Rattle.ta_replay.specs.declared.run.Run.{Run}
use Rattle.ta_report.specs.Picked.{entry_of}
use Rattle.ta_report.specs.declared.pick.Pick.{Pick}
use Rattle.ta_report.specs.Report.{SampleFits, VerdictFits, report_text, rest_text}
use Rattle.ta_report.specs.declared.verdict.ReportSample.{ReportSample}
use Rattle.ta_report.specs.declared.verdict.Verdict.{Verdict}
use Rattle.ta_report.specs.declared.verdict.Verdict.TheVariants.{Safe, Unsafe}

-- a line of a text begins so, with these bytes after it: the first line, or one after a line feed
abbrev pub LineAt : List ℕ → List ℕ → List ℕ → Type 0
LineAt front behind text = (text ≡ front ++ behind) ⊎ ((before : List ℕ) × (text ≡ before ++ (10 ∷ (front ++ behind))))

-- some line of a text begins so
abbrev pub HasLine : List ℕ → List ℕ → Type 0
HasLine front text = (behind : List ℕ) × LineAt front behind text

-- a pattern's name, and what is said of it
abbrev pub told_of : List ℕ → List ℕ → List ℕ
told_of name word = codes "pattern " ++ (name ++ (codes ": " ++ word))

-- a pattern that a report prints as safe has the verdict Safe
abbrev pub PrintedSafe : Type 0
PrintedSafe =
    (file : File) (pick : Pick) (sample : ReportSample) (verdicts : List Verdict) (number : ℕ) (pattern : Pattern)
    → slice_get file.patterns number ≡ Some pattern
    → SampleFits file sample → AllByRecursion (VerdictFits file) verdicts
    → HasLine (told_of pattern.name (codes "safe, ")) (report_text file pick sample verdicts)
    → (nodes : ℕ) × (leaves : ℕ) × (entry_of pick verdicts number ≡ Some (Safe nodes leaves))

-- a pattern that a report prints as unsafe has the verdict Unsafe
abbrev pub PrintedUnsafe : Type 0
PrintedUnsafe =
    (file : File) (pick : Pick) (sample : ReportSample) (verdicts : List Verdict) (number : ℕ) (pattern : Pattern)
    → slice_get file.patterns number ≡ Some pattern
    → SampleFits file sample → AllByRecursion (VerdictFits file) verdicts
    → HasLine (told_of pattern.name (codes "unsafe, ")) (report_text file pick sample verdicts)
    → (nodes : ℕ) × (run : Run) × (entry_of pick verdicts number ≡ Some (Unsafe nodes run))

-- a pattern that the report of `rest` prints as safe at rest has the verdict Safe
abbrev pub PrintedRestSafe : Type 0
PrintedRestSafe =
    (file : File) (pick : Pick) (sample : ReportSample) (verdicts : List Verdict) (number : ℕ) (pattern : Pattern)
    → slice_get file.patterns number ≡ Some pattern
    → SampleFits file sample → AllByRecursion (VerdictFits file) verdicts
    → HasLine (told_of pattern.name (codes "rest safe, ")) (rest_text file pick sample verdicts)
    → (nodes : ℕ) × (leaves : ℕ) × (entry_of pick verdicts number ≡ Some (Safe nodes leaves))

-- a pattern that the report of `rest` prints as unsafe at rest has the verdict Unsafe
abbrev pub PrintedRestUnsafe : Type 0
PrintedRestUnsafe =
    (file : File) (pick : Pick) (sample : ReportSample) (verdicts : List Verdict) (number : ℕ) (pattern : Pattern)
    → slice_get file.patterns number ≡ Some pattern
    → SampleFits file sample → AllByRecursion (VerdictFits file) verdicts
    → HasLine (told_of pattern.name (codes "rest unsafe, ")) (rest_text file pick sample verdicts)
    → (nodes : ℕ) × (run : Run) × (entry_of pick verdicts number ≡ Some (Unsafe nodes run))
