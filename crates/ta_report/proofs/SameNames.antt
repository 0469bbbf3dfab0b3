-- What is said of proved patterns speaks of a file's automaton and of its patterns' names, and of nothing else of it.
use Rattle.ta_report.proofs.Common.{◌≡◌, ◌∙◌, ◌+◌, ◌++◌, ◌∷◌, [], ℕ, Bool, true, false, List, Option, None, Some, refl, ap, codes, File, Pattern, ReportSample}
use Rattle.ta_report.proofs.Common.{compact_text, is_proved, proofs_text, proofs_told, values_data, values_text, word_told, Automaton, given_line}
use Rattle.ta_report.proofs.Common.{given_members, proofs_data, proofs_json, proofs_member, proofs_of, told_data}
use Rattle.serde_json.specs.Data as json
use Rattle.ta_report.specs.declared.verdict.ReportSample.TheVariants as sample

-- patterns with the same names, one by one
abbrev pub SameNames : List Pattern → List Pattern → Type 0
SameNames [] [] = Unit {0}
SameNames [] (q ∷ qs) = ⊥
SameNames (p ∷ ps) [] = ⊥
SameNames (p ∷ ps) (q ∷ qs) = (q.name ≡ p.name) × SameNames ps qs

told_alike : (rest : Bool) (ns : List ℕ) (number : ℕ) (ps qs : List Pattern) → SameNames ps qs → proofs_told rest ns number qs ≡ proofs_told rest ns number ps
told_alike rest ns number [] [] h = refl
told_alike rest ns number [] (q ∷ qs) h = absurd h
told_alike rest ns number (p ∷ ps) [] h = absurd h
told_alike rest ns number (p ∷ ps) (q ∷ qs) h =
    ap (λ (n : List ℕ). (codes "pattern " ++ (n ++ (codes ": " ++ (word_told rest ns number ++ codes "\n")))) ++ proofs_told rest ns (number + 1) qs) h.0
    ∙ ap (λ (t : List ℕ). (codes "pattern " ++ (p.name ++ (codes ": " ++ (word_told rest ns number ++ codes "\n")))) ++ t)
    (told_alike rest ns (number + 1) ps qs h.1)

line_alike : (file other : File) (s : Option ReportSample) → other.automaton ≡ file.automaton → given_line other s ≡ given_line file s
line_alike file other None e = refl
line_alike file other (Some (sample.Sample values)) e = ap
    (λ (a : Automaton). codes "parameters: " ++ ((codes "sample" ++ values_text a.parameters values) ++ codes "\n")) e
line_alike file other (Some sample.Empty) e = refl
line_alike file other (Some (sample.Spent count)) e = refl
line_alike file other (Some (sample.Overflow node kind)) e = refl

text_alike : (file other : File) → other.automaton ≡ file.automaton → SameNames file.patterns other.patterns
    → (rest : Bool) (s : Option ReportSample) (ns : List ℕ)
    → proofs_text rest other s ns ≡ proofs_text rest file s ns
text_alike file other same names rest s ns =
    ap (λ (a : Automaton). (codes "automaton " ++ (a.name ++ codes "\n")) ++ (given_line other s ++ proofs_told rest ns 0 other.patterns)) same
    ∙ ap (λ (t : List ℕ). (codes "automaton " ++ (file.automaton.name ++ codes "\n")) ++ (t ++ proofs_told rest ns 0 other.patterns))
    (line_alike file other s same)
    ∙ ap (λ (t : List ℕ). (codes "automaton " ++ (file.automaton.name ++ codes "\n")) ++ (given_line file s ++ t))
    (told_alike rest ns 0 file.patterns other.patterns names)

data_alike : (rest : Bool) (ns : List ℕ) (number : ℕ) (ps qs : List Pattern) → SameNames ps qs → proofs_data rest ns number qs ≡ proofs_data rest ns number ps
data_alike rest ns number [] [] h = refl
data_alike rest ns number [] (q ∷ qs) h = absurd h
data_alike rest ns number (p ∷ ps) [] h = absurd h
data_alike rest ns number (p ∷ ps) (q ∷ qs) h =
    ap (λ (n : List ℕ). json.item (told_data n (word_told rest ns number)) (proofs_data rest ns (number + 1) qs)) h.0
    ∙ ap (json.item (told_data p.name (word_told rest ns number))) (data_alike rest ns (number + 1) ps qs h.1)

members_alike : (file other : File) (s : Option ReportSample) (ms : json.Members) → other.automaton ≡ file.automaton
    → given_members other s ms ≡ given_members file s ms
members_alike file other None ms e = refl
members_alike file other (Some (sample.Sample values)) ms e =
    ap (λ (a : Automaton). json.member (codes "parameters") (json.object (json.member (codes "values") (json.array (values_data a.parameters values))
    (json.member (codes "verdict") (json.string (codes "sample")) json.no_members))) ms) e
members_alike file other (Some sample.Empty) ms e = refl
members_alike file other (Some (sample.Spent count)) ms e = refl
members_alike file other (Some (sample.Overflow node kind)) ms e = refl

json_alike : (file other : File) → other.automaton ≡ file.automaton → SameNames file.patterns other.patterns
    → (rest : Bool) (s : Option ReportSample) (ns : List ℕ)
    → proofs_json rest other s ns ≡ proofs_json rest file s ns
json_alike file other same names rest s ns =
    let line = λ (d : json.Data). compact_text d ++ codes "\n" in
    let whole = λ (name : List ℕ) (ms : json.Members). json.object (json.member (codes "automaton") (json.string name) ms) in
    ap (λ (a : Automaton). line (whole a.name (given_members other s (proofs_member rest ns other.patterns)))) same
    ∙ ap (λ (ms : json.Members). line (whole file.automaton.name ms)) (members_alike file other s (proofs_member rest ns other.patterns) same)
    ∙ ap (λ (ds : json.Items). line (whole file.automaton.name (given_members file s (json.member (codes "patterns") (json.array ds) json.no_members))))
    (data_alike rest ns 0 file.patterns other.patterns names)

-- so it is the same of two files that agree in these
pub proofs_alike : (file other : File) → other.automaton ≡ file.automaton → SameNames file.patterns other.patterns
    → (in_json rest : Bool) (s : Option ReportSample) (ns : List ℕ)
    → proofs_of in_json rest other s ns ≡ proofs_of in_json rest file s ns
proofs_alike file other same names true rest s ns = json_alike file other same names rest s ns
proofs_alike file other same names false rest s ns = text_alike file other same names rest s ns
