-- The texts of `check`, `rest-check` and `replay` as one line of JSON (RFC 8259), in the shapes of the report of `verify`.
use Rattle.std.specs.Prelude.{ℕ, ◌+◌, ◌≡◌, Bool, true, false, List, [], ◌∷◌, ◌++◌, codes, slice_get, Option, None, Some, IfSome, IsTrue}
use Rattle.serde_json.specs.Data as json
use Rattle.serde_json.specs.Read.{read}
use Rattle.serde_json.specs.Written.{compact_text}
use Rattle.ta_automaton.specs.declared.file.File.{File}
use Rattle.ta_automaton.specs.declared.pattern.Pattern.{Pattern}
use Rattle.ta_replay.specs.declared.run.Shown.{Shown}
use Rattle.ta_report.specs.Check.{is_proved, proofs_text, word_told}
use Rattle.ta_report.specs.Json.{JsonSays, digits_data, one_member, sample_data, verdict_member}
use Rattle.ta_report.specs.Printed.{HasLine, told_of}
use Rattle.ta_report.specs.Report.{SampleFits}
use Rattle.ta_report.specs.Shown.{shown_line}
use Rattle.ta_report.specs.declared.verdict.ReportSample.{ReportSample}

-- a name, and what is said of it
abbrev pub told_data : List ℕ → List ℕ → json.Data
told_data name word = json.object (json.member (codes "name") (json.string name) (verdict_member word))

-- for each pattern, in order, whether it is proved; the first has this number
abbrev pub proofs_data : Bool → List ℕ → ℕ → List Pattern → json.Items
proofs_data rest numbers number [] = json.no_items
proofs_data rest numbers number (p ∷ ps) = json.item (told_data p.name (word_told rest numbers number)) (proofs_data rest numbers (number + 1) ps)

-- the member for the patterns
abbrev pub proofs_member : Bool → List ℕ → List Pattern → json.Members
proofs_member rest numbers ps = one_member (codes "patterns") (json.array (proofs_data rest numbers 0 ps))

-- the members for the parameters, if a sample of them is given, and for the patterns
abbrev pub given_members : File → Option ReportSample → json.Members → json.Members
given_members file None members = members
given_members file (Some s) members = json.member (codes "parameters") (sample_data file s) members

-- which patterns of a file are proved: those of these numbers
abbrev pub all_proofs_data : Bool → File → Option ReportSample → List ℕ → json.Data
all_proofs_data rest file s numbers = json.object
    (json.member (codes "automaton") (json.string file.automaton.name) (given_members file s (proofs_member rest numbers file.patterns)))

-- its line
abbrev pub proofs_json : Bool → File → Option ReportSample → List ℕ → List ℕ
proofs_json rest file s numbers = compact_text (all_proofs_data rest file s numbers) ++ codes "\n"

-- the text of `check` or `rest-check`, in JSON or in lines
abbrev pub proofs_of : Bool → Bool → File → Option ReportSample → List ℕ → List ℕ
proofs_of true rest file s numbers = proofs_json rest file s numbers
proofs_of false rest file s numbers = proofs_text rest file s numbers

-- the word for a pattern that is proved
abbrev pub proved_word : Bool → List ℕ
proved_word false = codes "proved"
proved_word true = codes "rest proved"

-- a text says that the pattern with this name is proved
abbrev pub TellsProved : Bool → Bool → List ℕ → List ℕ → Type 0
TellsProved true rest name text = JsonSays name (proved_word rest) text
TellsProved false rest name text = HasLine (told_of name (proved_word rest)) text

-- a pattern that a text of `check` or `rest-check` calls proved is one of the proved ones
abbrev pub ToldProved : Type 0
ToldProved =
    (json rest : Bool) (file : File) (s : Option ReportSample) (numbers : List ℕ) (number : ℕ) (pattern : Pattern)
    → slice_get file.patterns number ≡ Some pattern
    → IfSome s (SampleFits file) → TellsProved json rest pattern.name (proofs_of json rest file s numbers)
    → IsTrue (is_proved numbers number)

-- the line of JSON is read as what it says
abbrev pub ProofsAreRead : Type 0
ProofsAreRead =
    (rest : Bool) (file : File) (s : Option ReportSample) (numbers : List ℕ)
    → read (compact_text (all_proofs_data rest file s numbers)) ≡ Some (all_proofs_data rest file s numbers)

-- the pattern that a run shows, with its unit steps and marks
abbrev pub shown_data : List ℕ → Shown → json.Data
shown_data name shown =
    json.object (json.member (codes "marks") (digits_data shown.marks)
    (json.member (codes "name") (json.string name)
    (json.member (codes "steps") (digits_data shown.steps)
    (verdict_member (codes "shown")))))

-- and the name of its automaton
abbrev pub replay_data : List ℕ → List ℕ → Shown → json.Data
replay_data automaton name shown =
    json.object (json.member (codes "automaton") (json.string automaton)
    (one_member (codes "patterns") (json.array (json.item (shown_data name shown) json.no_items))))

-- the text of `replay`, in JSON or as a line
abbrev pub shown_text : Bool → List ℕ → List ℕ → Shown → List ℕ
shown_text true automaton name shown = compact_text (replay_data automaton name shown) ++ codes "\n"
shown_text false automaton name shown = shown_line name shown
