-- The line of JSON says what the report says.
use Rattle.ta_report.proofs.Common.{ℕ, ℤ, zero, suc, ◌<◌, ◌^◌, ◌+◌, ◌≡◌, Bool, true, false, eqb, List, [], ◌∷◌, ◌++◌, length, get_or, codes, decimal, refl, sym}
use Rattle.ta_report.proofs.Common.{ap, ◌∙◌, arith, slice_get, Some, signed_decimal, append_cancel_right, AllByRecursion, read, compact_text, differ, File}
use Rattle.ta_report.proofs.Common.{Pattern, Pick, entry_of, first_picked, picked, safe_word, unsafe_word, distinct_map_at, pattern_name, Value, lines_text}
use Rattle.ta_report.proofs.Common.{run_lines, run_front, ReportKind, ReportSample, Verdict, Safe, Unsafe, Spent, Overflow, JsonIsDistinct, JsonRuns, JsonSafe}
use Rattle.ta_report.proofs.Common.{JsonSays, JsonUnsafe, json_text, report_data, sample_data, texts_data, value_data, values_data, verdict_data, verdicts_data}
use Rattle.ta_report.proofs.Common.{PlaceFits, SampleFits, VerdictFits, place_text, same_Some, get, get_item}
use Rattle.std.proofs.lemmas.Fmt.{decimal_injective}
use Rattle.ta_replay.specs.declared.run.Run.{Run as RunOf}
use Rattle.ta_replay.proofs.Decimals.{number_same as value_once}
use Rattle.ta_report.proofs.Distinct.{place_same}
use Rattle.ta_report.proofs.Picks.{entry_there, picked_there}
use Rattle.ta_report.proofs.ReadBack.{json_read}
use Rattle.serde_json.specs.Data as json
use Rattle.ta_report.specs.declared.verdict.ReportSample.TheVariants as sample

-- texts of a string, and the items of an array
pub string_same : (xs ys : List ℕ) → Some (json.string xs) ≡ Some (json.string ys) → xs ≡ ys
string_same xs ys e = cc

pub array_same : (ds es : json.Items) → Some (json.array ds) ≡ Some (json.array es) → ds ≡ es
array_same ds es e = cc

item_same : (d e : json.Data) (ds es : json.Items) → json.item d ds ≡ json.item e es → (d ≡ e) × (ds ≡ es)
item_same d e ds es h = let first : d ≡ e = cc in let rest : ds ≡ es = cc in (first, rest)

-- what is at a key is the same
pub at_key : (key : List ℕ) (d e : json.Data) → d ≡ e → get key d ≡ get key e
at_key key d e h = ap (get key) h

texts_same : (xs ys : List (List ℕ)) → texts_data xs ≡ texts_data ys → xs ≡ ys
texts_same [] [] e = refl
texts_same [] (y ∷ ys) e = cc
texts_same (x ∷ xs) [] e = cc
texts_same (x ∷ xs) (y ∷ ys) e =
    let parts = item_same (json.string x) (json.string y) (texts_data xs) (texts_data ys) e in
    let first = string_same x y (ap Some parts.0) in
    ap (λ z. z ∷ xs) first ∙ ap (λ zs. y ∷ zs) (texts_same xs ys parts.1)

digits_same : (m n : ℕ) → m < 2 ^ 64 → n < 2 ^ 64 → Some (json.string (decimal m)) ≡ Some (json.string (decimal n)) → m ≡ n
digits_same m n fm fn e = decimal_injective m n fm fn (string_same (decimal m) (decimal n) e)

kind_same : (j k : ReportKind) → PlaceFits j → PlaceFits k → Some (json.string (place_text j)) ≡ Some (json.string (place_text k)) → j ≡ k
kind_same j k fj fk e = (place_same j k [] [] fj fk (ap (λ xs. xs ++ (10 ∷ [])) (string_same (place_text j) (place_text k) e))).0

value_same : (n : List ℕ) (v w : ℤ) → Value v → Value w → value_data n v ≡ value_data n w → v ≡ w
value_same n v w fv fw e =
    let texts = texts_same (n ∷ signed_decimal v ∷ []) (n ∷ signed_decimal w ∷ []) (array_same _ _ (ap Some e)) in
    let digits : signed_decimal v ≡ signed_decimal w = cc in
    value_once v w fv fw digits

values_same : (ns : List (List ℕ)) (vs ws : List ℤ) → length vs ≡ length ns → length ws ≡ length ns → AllByRecursion Value vs → AllByRecursion Value ws
    → values_data ns vs ≡ values_data ns ws → vs ≡ ws
values_same [] [] [] cv cw fv fw e = refl
values_same [] [] (w ∷ ws) cv cw fv fw e = absurd (omega arith)
values_same [] (v ∷ vs) ws cv cw fv fw e = absurd (omega arith)
values_same (n ∷ ns) [] ws cv cw fv fw e = absurd (omega arith)
values_same (n ∷ ns) (v ∷ vs) [] cv cw fv fw e = absurd (omega arith)
values_same (n ∷ ns) (v ∷ vs) (w ∷ ws) cv cw fv fw e =
    let parts = item_same (value_data n v) (value_data n w) (values_data ns vs) (values_data ns ws) e in
    ap (λ z. z ∷ vs) (value_same n v w fv.0 fw.0 parts.0) ∙ ap (λ zs. w ∷ zs) (values_same ns vs ws (omega arith) (omega arith) fv.1 fw.1 parts.1)

-- data with different verdicts differ
words_differ : {X : Type 0} (k : ℕ) (a b : List ℕ) → eqb (get_or a k 0) (get_or b k 0) ≡ false → Some (json.string a) ≡ Some (json.string b) → X
words_differ k a b other e = absurd (differ k a b other (string_same a b e))

sample_same : (file : File) (x y : ReportSample) → SampleFits file x → SampleFits file y → sample_data file x ≡ sample_data file y → x ≡ y
sample_same file (sample.Sample vs) (sample.Sample ws) fx fy e =
    let values = array_same _ _ (at_key (codes "values") _ _ e) in
    ap sample.Sample (values_same file.automaton.parameters vs ws fx.0 fy.0 fx.1 fy.1 values)
sample_same file (sample.Sample vs) sample.Empty fx fy e = words_differ 0 (codes "sample") (codes "none") refl (at_key (codes "verdict") _ _ e)
sample_same file (sample.Sample vs) (sample.Spent n) fx fy e = words_differ 1 (codes "sample") (codes "spent") refl (at_key (codes "verdict") _ _ e)
sample_same file (sample.Sample vs) (sample.Overflow n k) fx fy e = words_differ 0 (codes "sample") (codes "overflow") refl (at_key (codes "verdict") _ _ e)
sample_same file sample.Empty (sample.Sample ws) fx fy e = words_differ 0 (codes "none") (codes "sample") refl (at_key (codes "verdict") _ _ e)
sample_same file sample.Empty sample.Empty fx fy e = refl
sample_same file sample.Empty (sample.Spent n) fx fy e = words_differ 0 (codes "none") (codes "spent") refl (at_key (codes "verdict") _ _ e)
sample_same file sample.Empty (sample.Overflow n k) fx fy e = words_differ 0 (codes "none") (codes "overflow") refl (at_key (codes "verdict") _ _ e)
sample_same file (sample.Spent m) (sample.Sample ws) fx fy e = words_differ 1 (codes "spent") (codes "sample") refl (at_key (codes "verdict") _ _ e)
sample_same file (sample.Spent m) sample.Empty fx fy e = words_differ 0 (codes "spent") (codes "none") refl (at_key (codes "verdict") _ _ e)
sample_same file (sample.Spent m) (sample.Spent n) fx fy e = ap sample.Spent (digits_same m n fx fy (at_key (codes "nodes") _ _ e))
sample_same file (sample.Spent m) (sample.Overflow n k) fx fy e = words_differ 0 (codes "spent") (codes "overflow") refl (at_key (codes "verdict") _ _ e)
sample_same file (sample.Overflow m j) (sample.Sample ws) fx fy e = words_differ 0 (codes "overflow") (codes "sample") refl (at_key (codes "verdict") _ _ e)
sample_same file (sample.Overflow m j) sample.Empty fx fy e = words_differ 0 (codes "overflow") (codes "none") refl (at_key (codes "verdict") _ _ e)
sample_same file (sample.Overflow m j) (sample.Spent n) fx fy e = words_differ 0 (codes "overflow") (codes "spent") refl (at_key (codes "verdict") _ _ e)
sample_same file (sample.Overflow m j) (sample.Overflow n k) fx fy e =
    let node = digits_same m n fx.0 fy.0 (at_key (codes "node") _ _ e) in
    let place = kind_same j k fx.1 fy.1 (at_key (codes "place") _ _ e) in
    ap (λ z. sample.Overflow z j) node ∙ ap (λ i. sample.Overflow n i) place

-- the words of two verdicts differ
safe_unsafe : {X : Type 0} (rest : Bool) → Some (json.string (safe_word rest)) ≡ Some (json.string (unsafe_word rest)) → X
safe_unsafe false e = words_differ 0 (codes "safe") (codes "unsafe") refl e
safe_unsafe true e = words_differ 5 (codes "rest safe") (codes "rest unsafe") refl e

safe_spent : {X : Type 0} (rest : Bool) → Some (json.string (safe_word rest)) ≡ Some (json.string (codes "spent")) → X
safe_spent false e = words_differ 1 (codes "safe") (codes "spent") refl e
safe_spent true e = words_differ 0 (codes "rest safe") (codes "spent") refl e

safe_overflow : {X : Type 0} (rest : Bool) → Some (json.string (safe_word rest)) ≡ Some (json.string (codes "overflow")) → X
safe_overflow false e = words_differ 0 (codes "safe") (codes "overflow") refl e
safe_overflow true e = words_differ 0 (codes "rest safe") (codes "overflow") refl e

unsafe_spent : {X : Type 0} (rest : Bool) → Some (json.string (unsafe_word rest)) ≡ Some (json.string (codes "spent")) → X
unsafe_spent false e = words_differ 0 (codes "unsafe") (codes "spent") refl e
unsafe_spent true e = words_differ 0 (codes "rest unsafe") (codes "spent") refl e

unsafe_overflow : {X : Type 0} (rest : Bool) → Some (json.string (unsafe_word rest)) ≡ Some (json.string (codes "overflow")) → X
unsafe_overflow false e = words_differ 0 (codes "unsafe") (codes "overflow") refl e
unsafe_overflow true e = words_differ 0 (codes "rest unsafe") (codes "overflow") refl e

verdict_same : (rest : Bool) (file : File) (p : Pattern) (v w : Verdict) → VerdictFits file v → VerdictFits file w
    → verdict_data rest file p v ≡ verdict_data rest file p w → v ≡ w
verdict_same rest file p (Safe m k) (Safe n l) fv fw e =
    let nodes = digits_same m n fv.0 fw.0 (at_key (codes "nodes") _ _ e) in
    let leaves = digits_same k l fv.1 fw.1 (at_key (codes "leaves") _ _ e) in
    ap (λ x. Safe x k) nodes ∙ ap (λ y. Safe n y) leaves
verdict_same rest file p (Safe m k) (Unsafe n other) fv fw e = safe_unsafe rest (at_key (codes "verdict") _ _ e)
verdict_same rest file p (Safe m k) (Spent n) fv fw e = safe_spent rest (at_key (codes "verdict") _ _ e)
verdict_same rest file p (Safe m l) (Overflow n k) fv fw e = safe_overflow rest (at_key (codes "verdict") _ _ e)
verdict_same rest file p (Unsafe m run) (Safe n l) fv fw e = safe_unsafe rest (sym (at_key (codes "verdict") _ _ e))
verdict_same rest file p (Unsafe m run) (Unsafe n other) fv fw e =
    let nodes = digits_same m n fv.0 fw.0 (at_key (codes "nodes") _ _ e) in
    let lines = texts_same (run_lines file run) (run_lines file other) (array_same _ _ (at_key (codes "run") _ _ e)) in
    let runs = run_front file run other [] [] fv.1 fw.1 (ap (λ ls. lines_text ls ++ []) lines) in
    ap (λ x. Unsafe x run) nodes ∙ ap (λ y. Unsafe n y) runs.0
verdict_same rest file p (Unsafe m run) (Spent n) fv fw e = unsafe_spent rest (at_key (codes "verdict") _ _ e)
verdict_same rest file p (Unsafe m run) (Overflow n k) fv fw e = unsafe_overflow rest (at_key (codes "verdict") _ _ e)
verdict_same rest file p (Spent m) (Safe n l) fv fw e = safe_spent rest (sym (at_key (codes "verdict") _ _ e))
verdict_same rest file p (Spent m) (Unsafe n other) fv fw e = unsafe_spent rest (sym (at_key (codes "verdict") _ _ e))
verdict_same rest file p (Spent m) (Spent n) fv fw e = ap Spent (digits_same m n fv fw (at_key (codes "nodes") _ _ e))
verdict_same rest file p (Spent m) (Overflow n k) fv fw e = words_differ 0 (codes "spent") (codes "overflow") refl (at_key (codes "verdict") _ _ e)
verdict_same rest file p (Overflow m j) (Safe n l) fv fw e = safe_overflow rest (sym (at_key (codes "verdict") _ _ e))
verdict_same rest file p (Overflow m j) (Unsafe n other) fv fw e = unsafe_overflow rest (sym (at_key (codes "verdict") _ _ e))
verdict_same rest file p (Overflow m j) (Spent n) fv fw e = words_differ 0 (codes "overflow") (codes "spent") refl (at_key (codes "verdict") _ _ e)
verdict_same rest file p (Overflow m j) (Overflow n k) fv fw e =
    let node = digits_same m n fv.0 fw.0 (at_key (codes "node") _ _ e) in
    let place = kind_same j k fv.1 fw.1 (at_key (codes "place") _ _ e) in
    ap (λ z. Overflow z j) node ∙ ap (λ i. Overflow n i) place

verdicts_same : (rest : Bool) (file : File) (ps : List Pattern) (vs ws : List Verdict) → length vs ≡ length ps → length ws ≡ length ps
    → AllByRecursion (VerdictFits file) vs → AllByRecursion (VerdictFits file) ws → verdicts_data rest file ps vs ≡ verdicts_data rest file ps ws → vs ≡ ws
verdicts_same rest file [] [] [] cv cw fv fw e = refl
verdicts_same rest file [] [] (w ∷ ws) cv cw fv fw e = absurd (omega arith)
verdicts_same rest file [] (v ∷ vs) ws cv cw fv fw e = absurd (omega arith)
verdicts_same rest file (p ∷ ps) [] ws cv cw fv fw e = absurd (omega arith)
verdicts_same rest file (p ∷ ps) (v ∷ vs) [] cv cw fv fw e = absurd (omega arith)
verdicts_same rest file (p ∷ ps) (v ∷ vs) (w ∷ ws) cv cw fv fw e =
    let parts = item_same (verdict_data rest file p v) (verdict_data rest file p w) (verdicts_data rest file ps vs) (verdicts_data rest file ps ws) e in
    let more = verdicts_same rest file ps vs ws (omega arith) (omega arith) fv.1 fw.1 parts.1 in
    ap (λ x. x ∷ vs) (verdict_same rest file p v w fv.0 fw.0 parts.0) ∙ ap (λ xs. w ∷ xs) more

-- a line is read as one report
pub json_distinct : JsonIsDistinct
json_distinct rest file pick x y vs ws cv cw fx fy fv fw e =
    let lines = append_cancel_right (compact_text (report_data rest file pick x vs)) (compact_text (report_data rest file pick y ws)) (codes "\n") e in
    let whole : report_data rest file pick x vs ≡ report_data rest file pick y ws = same_Some _ _
    (sym (json_read rest file pick x vs) ∙ ap read lines ∙ json_read rest file pick y ws) in
    let samples : sample_data file x ≡ sample_data file y = same_Some _ _ (at_key (codes "parameters") _ _ whole) in
    let patterns = array_same _ _ (at_key (codes "patterns") _ _ whole) in
    (sample_same file x y fx fy samples, verdicts_same rest file (picked pick file.patterns) vs ws cv cw fv fw patterns)

-- what is said of a pattern in the list
pub record ItemAt (rest : Bool) (file : File) (ps : List Pattern) (vs : List Verdict) (place : ℕ) (found : json.Data) : Type 0 where
  pub pattern : Pattern
  pub here : slice_get ps place ≡ Some pattern
  pub verdict : Verdict
  pub at : slice_get vs place ≡ Some verdict
  pub is : found ≡ verdict_data rest file pattern verdict

item_at : (rest : Bool) (file : File) (ps : List Pattern) (vs : List Verdict) (place : ℕ) (found : json.Data)
    → get_item place (verdicts_data rest file ps vs) ≡ Some found → ItemAt rest file ps vs place found
item_at rest file [] vs place found e = cc
item_at rest file (p ∷ ps) [] place found e = cc
item_at rest file (p ∷ ps) (v ∷ vs) zero found e = record { pattern = p; here = refl; verdict = v; at = refl; is = same_Some _ _ (sym e) }
item_at rest file (p ∷ ps) (v ∷ vs) (suc place) found e = let more = item_at rest file ps vs place found e in record
    { pattern = more.pattern; here = more.here; verdict = more.verdict; at = more.at; is = more.is }

-- its name
name_at : (rest : Bool) (file : File) (p : Pattern) (v : Verdict) → get (codes "name") (verdict_data rest file p v) ≡ Some (json.string p.name)
name_at rest file p (Safe nodes leaves) = refl
name_at rest file p _ = refl

-- what a line says of a pattern
pub record SaidIn (rest : Bool) (file : File) (pick : Pick) (vs : List Verdict) (number : ℕ) (p : Pattern) (found : json.Data) : Type 0 where
  pub verdict : Verdict
  pub at : entry_of pick vs number ≡ Some verdict
  pub is : found ≡ verdict_data rest file p verdict

said_in :
    (rest : Bool) (file : File) (pick : Pick) (x : ReportSample) (vs : List Verdict) (number : ℕ) (p : Pattern) (told : List ℕ)
    → slice_get file.patterns number ≡ Some p → (says : JsonSays p.name told (json_text rest file pick x vs)) → SaidIn rest file pick vs number p says.found
said_in rest file pick x vs number p told at says =
    let ps = picked pick file.patterns in
    let line = append_cancel_right (compact_text (report_data rest file pick x vs)) says.line (codes "\n") says.ended in
    let whole : says.whole ≡ report_data rest file pick x vs = same_Some _ _ (sym says.is ∙ ap read (sym line) ∙ json_read rest file pick x vs) in
    let patterns : says.patterns ≡ verdicts_data rest file ps vs = array_same _ _ (sym says.listed ∙ at_key (codes "patterns") _ _ whole) in
    let item = item_at rest file ps vs says.place says.found (ap (get_item says.place) (sym patterns) ∙ says.at) in
    let name : item.pattern.name ≡ p.name = string_same _ _
    (sym (name_at rest file item.pattern item.verdict) ∙ at_key (codes "name") _ _ (sym item.is) ∙ says.named) in
    let there = picked_there pick file.patterns says.place item.pattern item.here in
    let place : first_picked pick + says.place ≡ number = distinct_map_at pattern_name file.patterns (first_picked pick + says.place) number item.pattern p
    file.shape.distinct there at name in
    let same : item.pattern ≡ p = same_Some _ _ (sym there ∙ ap (slice_get file.patterns) place ∙ at) in
    record {
      verdict = item.verdict;
      at = ap (entry_of pick vs) (sym place) ∙ entry_there pick file.patterns vs says.place item.pattern item.verdict item.here item.at;
      is = item.is ∙ ap (λ (q : Pattern). verdict_data rest file q item.verdict) same;
    }

safe_said : (rest : Bool) (file : File) (p : Pattern) (v : Verdict) → get (codes "verdict") (verdict_data rest file p v) ≡ Some (json.string (safe_word rest))
    → (n : ℕ) × (l : ℕ) × (v ≡ Safe n l)
safe_said rest file p (Safe n l) e = (n, l, refl)
safe_said rest file p (Unsafe n run) e = safe_unsafe rest (sym e)
safe_said rest file p (Spent n) e = safe_spent rest (sym e)
safe_said rest file p (Overflow n kind) e = safe_overflow rest (sym e)

unsafe_said : (rest : Bool) (file : File) (p : Pattern) (v : Verdict)
    → get (codes "verdict") (verdict_data rest file p v) ≡ Some (json.string (unsafe_word rest)) → (n : ℕ) × (run : RunOf) × (v ≡ Unsafe n run)
unsafe_said rest file p (Safe n l) e = safe_unsafe rest e
unsafe_said rest file p (Unsafe n run) e = (n, run, refl)
unsafe_said rest file p (Spent n) e = unsafe_spent rest (sym e)
unsafe_said rest file p (Overflow n kind) e = unsafe_overflow rest (sym e)

pub json_safe : JsonSafe
json_safe rest file pick x vs number p at says =
    let said = said_in rest file pick x vs number p (safe_word rest) at says in
    let is = safe_said rest file p said.verdict (at_key (codes "verdict") _ _ (sym said.is) ∙ says.told) in
    (is.0, is.1, said.at ∙ ap Some is.2)

-- the run of an object
run_at : (rest : Bool) (file : File) (p : Pattern) (n : ℕ) (run : RunOf)
    → get (codes "run") (verdict_data rest file p (Unsafe n run)) ≡ Some (json.array (texts_data (run_lines file run)))
run_at rest file p n run = refl

pub json_unsafe : JsonUnsafe
json_unsafe rest file pick x vs number p at says =
    let said = said_in rest file pick x vs number p (unsafe_word rest) at says in
    let is = unsafe_said rest file p said.verdict (at_key (codes "verdict") _ _ (sym said.is) ∙ says.told) in
    let found : says.found ≡ verdict_data rest file p (Unsafe is.0 is.1) = said.is ∙ ap (verdict_data rest file p) is.2 in (
      is.0,
      is.1,
      said.at ∙ ap Some is.2,
      record
          { says = says; lines = run_lines file is.1; has = at_key (codes "run") _ _ found ∙ run_at rest file p is.0 is.1; bytes_are = refl },
    )

pub json_runs : JsonRuns
json_runs rest file pick x vs number p at bytes part =
    let said = said_in rest file pick x vs number p (unsafe_word rest) at part.says in
    let is = unsafe_said rest file p said.verdict (at_key (codes "verdict") _ _ (sym said.is) ∙ part.says.told) in
    let found : part.says.found ≡ verdict_data rest file p (Unsafe is.0 is.1) = said.is ∙ ap (verdict_data rest file p) is.2 in
    let lines = texts_same part.lines (run_lines file is.1) (array_same _ _ (sym part.has ∙ at_key (codes "run") _ _ found ∙ run_at rest file p is.0 is.1)) in
    (is.0, is.1, said.at ∙ ap Some is.2, part.bytes_are ∙ ap lines_text lines)
