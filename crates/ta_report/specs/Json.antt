-- The report of `verify`, or that of `rest`, as one line of JSON (RFC 8259): an object whose members are in the byte order of their keys. A
-- number is the text of its digits.
use Rattle.std.specs.Prelude.{ℕ, ℤ, ◌-◌, ◌≡◌, ◌==◌, Bool, List, [], ◌∷◌, ◌++◌, codes, decimal, length, slice_get, take, Some}
use Rattle.std.specs.Fmt.{signed_decimal}
use Rattle.std.specs.List.{AllByRecursion, slice_split}
use Rattle.serde_json.specs.Data as json
use Rattle.serde_json.specs.Find.{get, get_item}
use Rattle.serde_json.specs.Read.{read}
use Rattle.serde_json.specs.Written.{compact_text}
use Rattle.ta_automaton.specs.declared.file.File.{File}
use Rattle.ta_automaton.specs.declared.pattern.Pattern.{Pattern}
use Rattle.ta_replay.specs.declared.run.Run.{Run}
use Rattle.ta_replay.specs.RunText.{lines_text, run_lines, run_text}
use Rattle.ta_report.specs.Picked.{entry_of, picked}
use Rattle.ta_report.specs.declared.pick.Pick.{Pick}
use Rattle.ta_report.specs.declared.verdict.ReportKind.{ReportKind}
use Rattle.ta_report.specs.declared.verdict.ReportSample.{ReportSample}
use Rattle.ta_report.specs.declared.verdict.ReportSample.TheVariants as sample
use Rattle.ta_report.specs.declared.verdict.Verdict.{Verdict}
use Rattle.ta_report.specs.declared.verdict.Verdict.TheVariants.{Safe, Unsafe, Spent, Overflow}
use Rattle.ta_report.specs.Report.{SampleFits, VerdictFits, place_text, safe_word, unsafe_word}

-- a number
abbrev pub digits_data : ℕ → json.Data
digits_data n = json.string (decimal n)

-- texts, in order
abbrev pub texts_data : List (List ℕ) → json.Items
texts_data [] = json.no_items
texts_data (text ∷ texts) = json.item (json.string text) (texts_data texts)

-- the lines of a text, each without the line feed that ends it
abbrev pub text_lines : List ℕ → List (List ℕ)
text_lines text = let parts = slice_split (λ b. b == 10) text in take (length parts - 1) parts

-- a parameter and its value
abbrev pub value_data : List ℕ → ℤ → json.Data
value_data name value = json.array (texts_data (name ∷ signed_decimal value ∷ []))

-- the values of the parameters
abbrev pub values_data : List (List ℕ) → List ℤ → json.Items
values_data [] vs = json.no_items
values_data (n ∷ ns) [] = json.no_items
values_data (n ∷ ns) (v ∷ vs) = json.item (value_data n v) (values_data ns vs)

-- an object with one member, and with one member more in front
abbrev pub one_member : List ℕ → json.Data → json.Members
one_member key d = json.member key d json.no_members

-- the verdict, after the other members
abbrev pub verdict_member : List ℕ → json.Members
verdict_member word = one_member (codes "verdict") (json.string word)

-- a node, and where in it a number left the range
abbrev pub place_members : ℕ → ReportKind → json.Members
place_members node kind =
    json.member (codes "node") (digits_data node)
    (json.member (codes "place") (json.string (place_text kind))
    (verdict_member (codes "overflow")))

-- nodes that were spent
abbrev pub spent_members : ℕ → json.Members
spent_members nodes = json.member (codes "nodes") (digits_data nodes) (verdict_member (codes "spent"))

-- what is said of the parameters
abbrev pub sample_data : File → ReportSample → json.Data
sample_data file (sample.Sample values) = json.object
    (json.member (codes "values") (json.array (values_data file.automaton.parameters values)) (verdict_member (codes "sample")))
sample_data file sample.Empty = json.object (verdict_member (codes "none"))
sample_data file (sample.Spent count) = json.object (spent_members count)
sample_data file (sample.Overflow node kind) = json.object (place_members node kind)

-- what is said of a pattern
abbrev pub verdict_data : Bool → File → Pattern → Verdict → json.Data
verdict_data rest file p (Safe nodes leaves) =
    json.object (json.member (codes "leaves") (digits_data leaves)
    (json.member (codes "name") (json.string p.name)
    (json.member (codes "nodes") (digits_data nodes)
    (verdict_member (safe_word rest)))))
verdict_data rest file p (Unsafe nodes run) =
    json.object (json.member (codes "name") (json.string p.name)
    (json.member (codes "nodes") (digits_data nodes)
    (json.member (codes "run") (json.array (texts_data (run_lines file run)))
    (verdict_member (unsafe_word rest)))))
verdict_data rest file p (Spent nodes) = json.object (json.member (codes "name") (json.string p.name) (spent_members nodes))
verdict_data rest file p (Overflow node kind) = json.object (json.member (codes "name") (json.string p.name) (place_members node kind))

-- why the parameters are unknown, alone; null where they are known
abbrev pub unknown_sample_data : ReportSample → json.Data
unknown_sample_data (sample.Sample values) = json.null
unknown_sample_data sample.Empty = json.null
unknown_sample_data (sample.Spent count) = json.object (spent_members count)
unknown_sample_data (sample.Overflow node kind) = json.object (place_members node kind)

-- why the pattern with this name is unknown, alone; null where it is known
abbrev pub unknown_verdict_data : List ℕ → Verdict → json.Data
unknown_verdict_data name (Safe nodes leaves) = json.null
unknown_verdict_data name (Unsafe nodes run) = json.null
unknown_verdict_data name (Spent nodes) = json.object (json.member (codes "name") (json.string name) (spent_members nodes))
unknown_verdict_data name (Overflow node kind) = json.object (json.member (codes "name") (json.string name) (place_members node kind))

-- for each pattern, in order
abbrev pub verdicts_data : Bool → File → List Pattern → List Verdict → json.Items
verdicts_data rest file [] vs = json.no_items
verdicts_data rest file (p ∷ ps) [] = json.no_items
verdicts_data rest file (p ∷ ps) (v ∷ vs) = json.item (verdict_data rest file p v) (verdicts_data rest file ps vs)

-- the report of a sample of the parameters and a verdict for each picked pattern, or that of `rest`
abbrev pub report_data : Bool → File → Pick → ReportSample → List Verdict → json.Data
report_data rest file pick s verdicts =
    json.object (json.member (codes "automaton") (json.string file.automaton.name)
    (json.member (codes "parameters") (sample_data file s)
    (one_member (codes "patterns") (json.array (verdicts_data rest file (picked pick file.patterns) verdicts)))))

-- its line
abbrev pub json_text : Bool → File → Pick → ReportSample → List Verdict → List ℕ
json_text rest file pick s verdicts = compact_text (report_data rest file pick s verdicts) ++ codes "\n"

-- the line is read as the report
abbrev pub JsonIsRead : Type 0
JsonIsRead =
    (rest : Bool) (file : File) (pick : Pick) (s : ReportSample) (verdicts : List Verdict)
    → read (compact_text (report_data rest file pick s verdicts)) ≡ Some (report_data rest file pick s verdicts)

-- if the lines of two results for a file have one text, they have the same sample and the same verdicts, with the same runs
abbrev pub JsonIsDistinct : Type 0
JsonIsDistinct =
    (rest : Bool) (file : File) (pick : Pick) (s t : ReportSample) (vs ws : List Verdict)
    → length vs ≡ length (picked pick file.patterns) → length ws ≡ length (picked pick file.patterns)
    → SampleFits file s → SampleFits file t → AllByRecursion (VerdictFits file) vs → AllByRecursion (VerdictFits file) ws
    → json_text rest file pick s vs ≡ json_text rest file pick t ws
    → (s ≡ t) × (vs ≡ ws)

-- a text is a line that is read as an object, which has an object in its list `patterns` with this name and this verdict
pub record JsonSays (name verdict text : List ℕ) : Type 0 where
  pub line : List ℕ
  pub ended : text ≡ line ++ codes "\n"
  pub whole : json.Data
  pub is : read line ≡ Some whole
  pub patterns : json.Items
  pub listed : get (codes "patterns") whole ≡ Some (json.array patterns)
  pub place : ℕ
  pub found : json.Data
  pub at : get_item place patterns ≡ Some found
  pub named : get (codes "name") found ≡ Some (json.string name)
  pub told : get (codes "verdict") found ≡ Some (json.string verdict)

-- and the object, whose verdict is this word, has these lines as its run
pub record JsonRun (verdict name bytes text : List ℕ) : Type 0 where
  pub says : JsonSays name verdict text
  pub lines : List (List ℕ)
  pub has : get (codes "run") says.found ≡ Some (json.array (texts_data lines))
  pub bytes_are : bytes ≡ lines_text lines

-- a pattern that the line calls safe has the verdict Safe
abbrev pub JsonSafe : Type 0
JsonSafe =
    (rest : Bool) (file : File) (pick : Pick) (s : ReportSample) (verdicts : List Verdict) (number : ℕ) (pattern : Pattern)
    → slice_get file.patterns number ≡ Some pattern
    → JsonSays pattern.name (safe_word rest) (json_text rest file pick s verdicts)
    → (nodes : ℕ) × (leaves : ℕ) × (entry_of pick verdicts number ≡ Some (Safe nodes leaves))

-- a pattern that the line calls unsafe has the verdict Unsafe, and the lines of its run are there
abbrev pub JsonUnsafe : Type 0
JsonUnsafe =
    (rest : Bool) (file : File) (pick : Pick) (s : ReportSample) (verdicts : List Verdict) (number : ℕ) (pattern : Pattern)
    → slice_get file.patterns number ≡ Some pattern
    → JsonSays pattern.name (unsafe_word rest) (json_text rest file pick s verdicts)
    → (nodes : ℕ) × (run : Run) × (entry_of pick verdicts number ≡ Some (Unsafe nodes run))
    × JsonRun (unsafe_word rest) pattern.name (run_text file run) (json_text rest file pick s verdicts)

-- and only these lines are there as its run
abbrev pub JsonRuns : Type 0
JsonRuns =
    (rest : Bool) (file : File) (pick : Pick) (s : ReportSample) (verdicts : List Verdict) (number : ℕ) (pattern : Pattern)
    → slice_get file.patterns number ≡ Some pattern
    → (bytes : List ℕ) → JsonRun (unsafe_word rest) pattern.name bytes (json_text rest file pick s verdicts)
    → (nodes : ℕ) × (run : Run) × (entry_of pick verdicts number ≡ Some (Unsafe nodes run)) × (bytes ≡ run_text file run)
