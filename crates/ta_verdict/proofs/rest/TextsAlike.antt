-- a report names a file's own patterns as it names their endings
use Rattle.ta_verdict.proofs.Common.{Fits, ReportSample}
use Rattle.ta_verdict.proofs.rest.Common.{◌≡◌, inl, inr, ℕ, zero, suc, true, false, List, [], ◌∷◌, ◌++◌, map, length, codes, Option, slice_get, arith, sym, ap}
use Rattle.ta_verdict.proofs.rest.Common.{◌∙◌, refl, AllByRecursion, Automaton, File, Pattern, Pick, All, One, listed, picked, Run, Endings, IsEnding, Verdict}
use Rattle.ta_verdict.proofs.rest.Common.{Safe, Unsafe, Spent, Overflow, RestTextsAreAlike, map-append, endings_names, EndingsOf, VerdictFits, rest_word}
use Rattle.ta_verdict.proofs.rest.Common.{run_part, sample_line, told_line, told_lines, values_text, verdict_text}
use Rattle.ta_verdict.proofs.rest.Common.{sample_data, texts_data, verdict_data, verdicts_data}
use Rattle.ta_verdict.proofs.rest.VerdictsTold.{ending_there}
use Rattle.ta_automaton.specs.Patterns.{event_name, pattern_name}
use Rattle.ta_replay.specs.declared.run.RunLine.{RunLine}
use Rattle.ta_replay.specs.declared.run.RunLine.TheVariants.{Step, Mark}
use Rattle.ta_replay.specs.Fits.{LineFits}
use Rattle.serde_json.specs.Written.{compact_text}
use Rattle.ta_report.specs.Json.{digits_data, one_member, values_data, verdict_member}
use Rattle.ta_report.specs.Report.{unsafe_word}
use Rattle.ta_replay.specs.RunText.{line_of, lines_of, lines_text, name_at, named_line, run_lines, run_text, slots, value_lines}
use Rattle.serde_json.specs.Data as json
use Rattle.ta_report.specs.declared.verdict.ReportSample.TheVariants as sample

-- the line of a step or of a mark
line_alike : (a : Automaton) (p q : Pattern) → IsEnding p q → (l : RunLine) → LineFits a p l → line_of a q l ≡ line_of a p l
line_alike a p q is (Step rule factor) fits = refl
line_alike a p q is (Mark event) fits = elim is.events [
  | inl moved ↦ ap (λ names. named_line (codes "mark ") (name_at names event))
      (ap (map event_name) moved.is ∙ map-append event_name moved.front (moved.moved ∷ [])
      ∙ ap (λ (n : List ℕ). map event_name moved.front ++ n ∷ []) moved.name
      ∙ sym (ap (map event_name) moved.was ∙ map-append event_name moved.front (moved.last ∷ [])))
  | inr added ↦ absurd (let none = ap length added.none in omega arith)
]

lines_alike : (a : Automaton) (p q : Pattern) → IsEnding p q → (ls : List RunLine) → AllByRecursion (LineFits a p) ls
    → map (line_of a q) ls ≡ map (line_of a p) ls
lines_alike a p q is [] fits = refl
lines_alike a p q is (l ∷ ls) fits = ap (λ (x : List ℕ). x ∷ map (line_of a q) ls) (line_alike a p q is l fits.0)
    ∙ ap (λ (xs : List (List ℕ)). line_of a p l ∷ xs) (lines_alike a p q is ls fits.1)

-- the lines of a run of the file's own pattern, and its text
run_lines_alike : (file ending : File) (added : ℕ) → EndingsOf file ending added → (run : Run) → Fits file run → run_lines ending run ≡ run_lines file run
run_lines_alike file ending added ends run fits =
    let n = run.pattern in
    let values = run.parameters ++ run.counts in
    let last = codes "end" ∷ [] in
    let head : List (List ℕ) → List ℕ = λ names. named_line (codes "run ") (name_at names n) in
    let at = ending_there file.patterns ending.patterns ends.patterns n fits.pattern fits.named in
    let lines = ap (λ (o : Option Pattern). lines_of file.automaton o run.lines) at.named
    ∙ lines_alike file.automaton fits.pattern at.ending at.is run.lines fits.lines
    ∙ sym (ap (λ (o : Option Pattern). lines_of file.automaton o run.lines) fits.named) in
    ap (λ (ns : List (List ℕ)). head ns ∷
    (value_lines (slots ending.automaton) values ++ (lines_of ending.automaton (slice_get ending.patterns n) run.lines ++ last)))
    (endings_names file.patterns ending.patterns ends.patterns)
    ∙ ap (λ (a : Automaton). head (map pattern_name file.patterns) ∷
    (value_lines (slots a) values ++ (lines_of a (slice_get ending.patterns n) run.lines ++ last))) ends.automaton
    ∙ ap (λ (ls : List (List ℕ)). head (map pattern_name file.patterns) ∷ (value_lines (slots file.automaton) values ++ (ls ++ last))) lines

run_alike : (file ending : File) (added : ℕ) → EndingsOf file ending added → (run : Run) → Fits file run → run_text ending run ≡ run_text file run
run_alike file ending added ends run fits = ap lines_text (run_lines_alike file ending added ends run fits)

part_alike : (file ending : File) (added : ℕ) → EndingsOf file ending added → (v : Verdict) → VerdictFits file v → run_part ending v ≡ run_part file v
part_alike file ending added ends (Safe nodes leaves) fits = refl
part_alike file ending added ends (Unsafe nodes run) fits = run_alike file ending added ends run fits.1
part_alike file ending added ends (Spent nodes) fits = refl
part_alike file ending added ends (Overflow node kind) fits = refl

told_alike : (file ending : File) (added : ℕ) → EndingsOf file ending added → (ps qs : List Pattern) (vs : List Verdict) → Endings ps qs
    → AllByRecursion (VerdictFits file) vs → told_lines true ending qs vs ≡ told_lines true file ps vs
told_alike file ending added ends [] [] vs h fits = refl
told_alike file ending added ends [] (q ∷ qs) vs h fits = absurd h
told_alike file ending added ends (p ∷ ps) [] vs h fits = absurd h
told_alike file ending added ends (p ∷ ps) (q ∷ qs) [] h fits = refl
told_alike file ending added ends (p ∷ ps) (q ∷ qs) (v ∷ vs) h fits =
    ap (λ (o : List ℕ). (codes "pattern " ++ (o ++ (codes ": " ++ (rest_word v ++ (verdict_text v ++ codes "\n")))))
    ++ (run_part ending v ++ told_lines true ending qs vs)) h.0.name
    ∙ ap (λ (r : List ℕ). told_line true p v ++ (r ++ told_lines true ending qs vs)) (part_alike file ending added ends v fits.0)
    ∙ ap (λ (ls : List ℕ). told_line true p v ++ (run_part file v ++ ls)) (told_alike file ending added ends ps qs vs h.1 fits.1)

-- the line of the parameters
sample_alike : (f g : File) → f.automaton ≡ g.automaton → (x : ReportSample) → sample_line f x ≡ sample_line g x
sample_alike f g e (sample.Sample values) = ap (λ (a : Automaton). codes "parameters: " ++ ((codes "sample" ++ values_text a.parameters values) ++ codes "\n"))
    e
sample_alike f g e sample.Empty = refl
sample_alike f g e (sample.Spent count) = refl
sample_alike f g e (sample.Overflow node kind) = refl

-- the endings of picked patterns
endings_one : (ps qs : List Pattern) (k : ℕ) → Endings ps qs → Endings (listed (slice_get ps k)) (listed (slice_get qs k))
endings_one [] [] k h = tt
endings_one [] (q ∷ qs) k h = absurd h
endings_one (p ∷ ps) [] k h = absurd h
endings_one (p ∷ ps) (q ∷ qs) zero h = (h.0, tt)
endings_one (p ∷ ps) (q ∷ qs) (suc k) h = endings_one ps qs k h.1

endings_picked : (pick : Pick) (ps qs : List Pattern) → Endings ps qs → Endings (picked pick ps) (picked pick qs)
endings_picked All ps qs h = h
endings_picked (One k) ps qs h = endings_one ps qs k h

-- what JSON says of a pattern
data_alike :
    (file ending : File) (added : ℕ) → EndingsOf file ending added → (p q : Pattern) → q.name ≡ p.name → (v : Verdict) → VerdictFits file v
    → verdict_data true ending q v ≡ verdict_data true file p v
data_alike file ending added ends p q named (Safe nodes leaves) fits =
    ap (λ (name : List ℕ). verdict_data true file (record p { name = name }) (Safe nodes leaves)) named
data_alike file ending added ends p q named (Unsafe nodes run) fits =
    ap (λ (name : List ℕ). verdict_data true ending (record p { name = name }) (Unsafe nodes run)) named
    ∙ ap (λ (lines : List (List ℕ)). json.object (json.member (codes "name") (json.string p.name)
    (json.member (codes "nodes") (digits_data nodes) (json.member (codes "run") (json.array (texts_data lines)) (verdict_member (unsafe_word true))))))
    (run_lines_alike file ending added ends run fits.1)
data_alike file ending added ends p q named (Spent nodes) fits =
    ap (λ (name : List ℕ). verdict_data true file (record p { name = name }) (Spent nodes)) named
data_alike file ending added ends p q named (Overflow node kind) fits =
    ap (λ (name : List ℕ). verdict_data true file (record p { name = name }) (Overflow node kind)) named

items_alike :
    (file ending : File) (added : ℕ) → EndingsOf file ending added → (ps qs : List Pattern) (vs : List Verdict) → Endings ps qs
    → AllByRecursion (VerdictFits file) vs → verdicts_data true ending qs vs ≡ verdicts_data true file ps vs
items_alike file ending added ends [] [] vs h fits = refl
items_alike file ending added ends [] (q ∷ qs) vs h fits = absurd h
items_alike file ending added ends (p ∷ ps) [] vs h fits = absurd h
items_alike file ending added ends (p ∷ ps) (q ∷ qs) [] h fits = refl
items_alike file ending added ends (p ∷ ps) (q ∷ qs) (v ∷ vs) h fits =
    ap (λ (d : json.Data). json.item d (verdicts_data true ending qs vs)) (data_alike file ending added ends p q h.0.name v fits.0)
    ∙ ap (json.item (verdict_data true file p v)) (items_alike file ending added ends ps qs vs h.1 fits.1)

-- what it says of the parameters
sample_data_alike : (f g : File) → f.automaton ≡ g.automaton → (x : ReportSample) → sample_data f x ≡ sample_data g x
sample_data_alike f g e (sample.Sample values) =
    ap (λ (a : Automaton). json.object (json.member (codes "values") (json.array (values_data a.parameters values)) (verdict_member (codes "sample")))) e
sample_data_alike f g e sample.Empty = refl
sample_data_alike f g e (sample.Spent count) = refl
sample_data_alike f g e (sample.Overflow node kind) = refl

-- a line of JSON with this name, and what is said of the parameters and of the patterns
abbrev json_line : List ℕ → json.Data → json.Items → List ℕ
json_line name parameters patterns =
    compact_text (json.object (json.member (codes "automaton") (json.string name) (json.member (codes "parameters") parameters
    (one_member (codes "patterns") (json.array patterns))))) ++ codes "\n"

pub texts_alike : RestTextsAreAlike
texts_alike file ending added ends false pick x vs fits =
    let ps = picked pick file.patterns in
    let qs = picked pick ending.patterns in
    let h = endings_picked pick file.patterns ending.patterns ends.patterns in
    ap (λ (ls : List ℕ). codes "automaton " ++ (ending.automaton.name ++ (codes "\n" ++ (sample_line ending x ++ ls))))
    (told_alike file ending added ends ps qs vs h fits)
    ∙ ap (λ (l : List ℕ). codes "automaton " ++ (ending.automaton.name ++ (codes "\n" ++ (l ++ told_lines true file ps vs))))
    (sample_alike ending file ends.automaton x)
    ∙ ap (λ (a : Automaton). codes "automaton " ++ (a.name ++ (codes "\n" ++ (sample_line file x ++ told_lines true file ps vs)))) ends.automaton
texts_alike file ending added ends true pick x vs fits =
    let ps = picked pick file.patterns in
    let qs = picked pick ending.patterns in
    let h = endings_picked pick file.patterns ending.patterns ends.patterns in
    ap (json_line ending.automaton.name (sample_data ending x)) (items_alike file ending added ends ps qs vs h fits)
    ∙ ap (λ (d : json.Data). json_line ending.automaton.name d (verdicts_data true file ps vs)) (sample_data_alike ending file ends.automaton x)
    ∙ ap (λ (a : Automaton). json_line a.name (sample_data file x) (verdicts_data true file ps vs)) ends.automaton
