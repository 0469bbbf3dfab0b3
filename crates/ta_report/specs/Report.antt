-- The reports of `verify` and `rest`.
use Rattle.std.specs.Prelude.{ℕ, ℤ, ◌≡◌, ◌<◌, ◌^◌, Bool, true, false, List, [], ◌∷◌, ◌++◌, codes, decimal, length}
use Rattle.std.specs.Fmt.{signed_decimal}
use Rattle.std.specs.List.{AllByRecursion}
use Rattle.ta_automaton.specs.declared.file.File.{File}
use Rattle.ta_automaton.specs.declared.pattern.Pattern.{Pattern}
use Rattle.ta_counter.specs.Values.{Value}
use Rattle.ta_replay.specs.Fits.{Fits}
use Rattle.ta_replay.specs.RunText.{run_text}
use Rattle.ta_report.specs.Picked.{picked}
use Rattle.ta_report.specs.declared.pick.Pick.{Pick}
use Rattle.ta_report.specs.declared.verdict.ReportKind.{ReportKind}
use Rattle.ta_report.specs.declared.verdict.ReportKind.TheVariants as kind
use Rattle.ta_report.specs.declared.verdict.ReportSample.{ReportSample}
use Rattle.ta_report.specs.declared.verdict.ReportSample.TheVariants as sample
use Rattle.ta_report.specs.declared.verdict.Verdict.{Verdict}
use Rattle.ta_report.specs.declared.verdict.Verdict.TheVariants.{Safe, Unsafe, Spent, Overflow}

-- where a number left the range
abbrev pub place_text : ReportKind → List ℕ
place_text (kind.Pivot pivot) = codes "pivot " ++ decimal pivot
place_text kind.Leaf = codes "leaf"
place_text kind.Run = codes "run"

-- the words for an exhausted budget, and for a number that left the range
abbrev pub spent_text : ℕ → List ℕ
spent_text nodes = codes "unknown, " ++ (decimal nodes ++ codes " nodes spent")

abbrev pub overflow_text : ℕ → ReportKind → List ℕ
overflow_text node kind = codes "unknown, outside 128 bits at node " ++ (decimal node ++ (codes ", " ++ place_text kind))

-- the values of the parameters
abbrev pub values_text : List (List ℕ) → List ℤ → List ℕ
values_text [] vs = []
values_text (n ∷ ns) [] = []
values_text (n ∷ ns) (v ∷ vs) = codes " " ++ (n ++ (codes "=" ++ (signed_decimal v ++ values_text ns vs)))

-- what is said of the parameters
abbrev pub sample_text : File → ReportSample → List ℕ
sample_text file (sample.Sample values) = codes "sample" ++ values_text file.automaton.parameters values
sample_text file sample.Empty = codes "none"
sample_text file (sample.Spent count) = spent_text count
sample_text file (sample.Overflow node kind) = overflow_text node kind

-- the line of the parameters
abbrev pub sample_line : File → ReportSample → List ℕ
sample_line file s = codes "parameters: " ++ (sample_text file s ++ codes "\n")

-- the words after a pattern's name
abbrev pub verdict_text : Verdict → List ℕ
verdict_text (Safe nodes leaves) = codes "safe, " ++ (decimal nodes ++ (codes " nodes, " ++ (decimal leaves ++ codes " leaves")))
verdict_text (Unsafe nodes run) = codes "unsafe, " ++ (decimal nodes ++ codes " nodes")
verdict_text (Spent nodes) = spent_text nodes
verdict_text (Overflow node kind) = overflow_text node kind

-- the word of the report of `rest` before a verdict that decides
abbrev pub rest_word : Verdict → List ℕ
rest_word (Safe nodes leaves) = codes "rest "
rest_word (Unsafe nodes run) = codes "rest "
rest_word (Spent nodes) = []
rest_word (Overflow node kind) = []

-- the word before a verdict: none, or that of `rest`
abbrev pub word_before : Bool → Verdict → List ℕ
word_before false v = []
word_before true v = rest_word v

-- the line of a pattern, in a report or in that of `rest`
abbrev pub told_line : Bool → Pattern → Verdict → List ℕ
told_line rest p v = codes "pattern " ++ (p.name ++ (codes ": " ++ (word_before rest v ++ (verdict_text v ++ codes "\n"))))

abbrev pub verdict_line : Pattern → Verdict → List ℕ
verdict_line p v = told_line false p v

-- what comes after the line of a pattern: the text of its run, if it has one
abbrev pub run_part : File → Verdict → List ℕ
run_part file (Safe nodes leaves) = []
run_part file (Unsafe nodes run) = run_text file run
run_part file (Spent nodes) = []
run_part file (Overflow node kind) = []

-- for each pattern, in order, its line and its run
abbrev pub told_lines : Bool → File → List Pattern → List Verdict → List ℕ
told_lines rest file [] vs = []
told_lines rest file (p ∷ ps) [] = []
told_lines rest file (p ∷ ps) (v ∷ vs) = told_line rest p v ++ (run_part file v ++ told_lines rest file ps vs)

abbrev pub verdict_lines : File → List Pattern → List Verdict → List ℕ
verdict_lines file ps vs = told_lines false file ps vs

-- the report of a sample of the parameters and a verdict for each picked pattern, or that of `rest`
abbrev pub told_text : Bool → File → Pick → ReportSample → List Verdict → List ℕ
told_text rest file pick s verdicts =
    codes "automaton " ++ (file.automaton.name ++ (codes "\n" ++ (sample_line file s ++ told_lines rest file (picked pick file.patterns) verdicts)))

-- the report of `verify`
abbrev pub report_text : File → Pick → ReportSample → List Verdict → List ℕ
report_text file pick s verdicts = told_text false file pick s verdicts

-- that of `rest`, with `rest safe` and `rest unsafe` in place of `safe` and `unsafe`
abbrev pub rest_text : File → Pick → ReportSample → List Verdict → List ℕ
rest_text file pick s verdicts = told_text true file pick s verdicts

-- the words for a safe and for an unsafe pattern, in a report and in that of `rest`
abbrev pub safe_word : Bool → List ℕ
safe_word false = codes "safe"
safe_word true = codes "rest safe"

abbrev pub unsafe_word : Bool → List ℕ
unsafe_word false = codes "unsafe"
unsafe_word true = codes "rest unsafe"

-- the numbers fit 64 bits, as the program's do: `decimal` writes at most 64 digits
abbrev pub PlaceFits : ReportKind → Type 0
PlaceFits (kind.Pivot pivot) = pivot < 2 ^ 64
PlaceFits kind.Leaf = Unit {0}
PlaceFits kind.Run = Unit {0}

-- and a sample has a natural value in range for each parameter
abbrev pub SampleFits : File → ReportSample → Type 0
SampleFits file (sample.Sample values) = (length values ≡ length file.automaton.parameters) × AllByRecursion Value values
SampleFits file sample.Empty = Unit {0}
SampleFits file (sample.Spent count) = count < 2 ^ 64
SampleFits file (sample.Overflow node kind) = (node < 2 ^ 64) × PlaceFits kind

-- and a run fits the file
abbrev pub VerdictFits : File → Verdict → Type 0
VerdictFits file (Safe nodes leaves) = (nodes < 2 ^ 64) × (leaves < 2 ^ 64)
VerdictFits file (Unsafe nodes run) = (nodes < 2 ^ 64) × Fits file run
VerdictFits file (Spent nodes) = nodes < 2 ^ 64
VerdictFits file (Overflow node kind) = (node < 2 ^ 64) × PlaceFits kind

-- two results of a file with the same report have the same sample and the same verdicts, with the same runs
abbrev pub ReportsAreDistinct : Type 0
ReportsAreDistinct =
    (file : File) (pick : Pick) (s t : ReportSample) (vs ws : List Verdict)
    → length vs ≡ length (picked pick file.patterns) → length ws ≡ length (picked pick file.patterns)
    → SampleFits file s → SampleFits file t → AllByRecursion (VerdictFits file) vs → AllByRecursion (VerdictFits file) ws
    → report_text file pick s vs ≡ report_text file pick t ws
    → (s ≡ t) × (vs ≡ ws)
