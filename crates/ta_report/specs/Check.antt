-- The texts that `check` and `rest-check` print.
use Rattle.std.specs.Prelude.{ℕ, ◌+◌, ◌==◌, Bool, true, false, List, [], ◌∷◌, ◌++◌, codes, if◌then◌else◌, Option, None, Some}
use Rattle.std.specs.List.{list_any}
use Rattle.ta_automaton.specs.declared.pattern.Pattern.{Pattern}
use Rattle.ta_automaton.specs.declared.file.File.{File}
use Rattle.ta_report.specs.declared.verdict.ReportSample.{ReportSample}
use Rattle.ta_report.specs.Report.{sample_line}

-- whether a number is one of those of the patterns that are proved
abbrev pub is_proved : List ℕ → ℕ → Bool
is_proved numbers number = list_any (λ k. k == number) numbers

-- the word for the pattern with this number, in the text of `check` or of `rest-check`
abbrev pub word_told : Bool → List ℕ → ℕ → List ℕ
word_told false numbers number = if is_proved numbers number then codes "proved" else codes "not proved"
word_told true numbers number = if is_proved numbers number then codes "rest proved" else codes "not rest proved"

-- a line for each pattern; the first pattern has this number
abbrev pub proofs_told : Bool → List ℕ → ℕ → List Pattern → List ℕ
proofs_told rest numbers number [] = []
proofs_told rest numbers number (p ∷ ps) = (codes "pattern " ++ (p.name ++ (codes ": " ++ (word_told rest numbers number ++ codes "\n"))))
    ++ proofs_told rest numbers (number + 1) ps

-- the line of the parameters, if a sample of them is given
abbrev pub given_line : File → Option ReportSample → List ℕ
given_line file None = []
given_line file (Some s) = sample_line file s

-- the text that says which patterns of a file are proved: those of these numbers; as `check` says it, or with `rest proved` and
-- `not rest proved`, as `rest-check` does
abbrev pub proofs_text : Bool → File → Option ReportSample → List ℕ → List ℕ
proofs_text rest file s numbers = (codes "automaton " ++ (file.automaton.name ++ codes "\n")) ++ (given_line file s ++ proofs_told rest numbers 0 file.patterns)
