-- The items of an array of JSON, as they are pushed.
use Rattle.ta_report.proofs.Common.{ℕ, ℤ, zero, suc, ◌+◌, ◌-◌, ◌<◌, ◌≤◌, ◌≡◌, false, ◌||◌, List, [], ◌∷◌, ◌++◌, map, length, take, get_or, refl, sym, ap, ◌∙◌}
use Rattle.ta_report.proofs.Common.{arith, length-append, ◌==◌, slice_split, take-map, AllByRecursion, map-append, length-map, take_all, take_more}
use Rattle.ta_report.proofs.Common.{take-append-le, items_of, items_view, view, has_float, items_have_float, split_line, File, Pattern, Pick, picked, Bool}
use Rattle.ta_report.proofs.Common.{lines_text, run_lines, Avoids, ReportSample, Verdict, Safe, Unsafe, Spent, Overflow, report_data, sample_data, text_lines}
use Rattle.ta_report.proofs.Common.{texts_data, unknown_sample_data, unknown_verdict_data, value_data, values_data, verdict_data, verdicts_data}
use Rattle.std.proofs.Math.Seq.{take-length}
use Rattle.serde_json.specs.declared.value.Value.{Value}
use Rattle.serde_json.specs.Data as json
use Rattle.ta_report.specs.declared.verdict.ReportSample.TheVariants as sample

-- the items of lists
pub texts_listed : (texts : List (List ℕ)) → items_of (map json.string texts) ≡ texts_data texts
texts_listed [] = refl
texts_listed (text ∷ texts) = ap (json.item (json.string text)) (texts_listed texts)

abbrev pub values_list : List (List ℕ) → List ℤ → List json.Data
values_list [] vs = []
values_list (n ∷ ns) [] = []
values_list (n ∷ ns) (v ∷ vs) = value_data n v ∷ values_list ns vs

pub values_listed : (ns : List (List ℕ)) (vs : List ℤ) → items_of (values_list ns vs) ≡ values_data ns vs
values_listed [] vs = refl
values_listed (n ∷ ns) [] = refl
values_listed (n ∷ ns) (v ∷ vs) = ap (json.item (value_data n v)) (values_listed ns vs)

abbrev pub verdicts_list : Bool → File → List Pattern → List Verdict → List json.Data
verdicts_list rest file [] vs = []
verdicts_list rest file (p ∷ ps) [] = []
verdicts_list rest file (p ∷ ps) (v ∷ vs) = verdict_data rest file p v ∷ verdicts_list rest file ps vs

pub verdicts_listed : (rest : Bool) (file : File) (ps : List Pattern) (vs : List Verdict)
    → items_of (verdicts_list rest file ps vs) ≡ verdicts_data rest file ps vs
verdicts_listed rest file [] vs = refl
verdicts_listed rest file (p ∷ ps) [] = refl
verdicts_listed rest file (p ∷ ps) (v ∷ vs) = ap (json.item (verdict_data rest file p v)) (verdicts_listed rest file ps vs)

-- the item at a place
pub value_at : (ns : List (List ℕ)) (vs : List ℤ) (i : ℕ) (d : json.Data) (n : List ℕ) (v : ℤ) → length vs ≡ length ns → i < length vs → n ≡ get_or ns i n
    → v ≡ get_or vs i v → (i < length (values_list ns vs)) × (value_data n v ≡ get_or (values_list ns vs) i d)
value_at [] [] i d n v count within is are = absurd (omega arith)
value_at [] (w ∷ vs) i d n v count within is are = absurd (omega arith)
value_at (m ∷ ns) [] i d n v count within is are = absurd (omega arith)
value_at (m ∷ ns) (w ∷ vs) zero d n v count within is are = (omega arith, ap (λ k. value_data k v) is ∙ ap (value_data m) are)
value_at (m ∷ ns) (w ∷ vs) (suc i) d n v count within is are = let more = value_at ns vs i d n v (omega arith) (omega arith) is are in let low = more.0 in
    (omega arith, more.1)

pub verdict_at : (rest : Bool) (file : File) (ps : List Pattern) (vs : List Verdict) (i : ℕ) (d : json.Data) (p : Pattern) (v : Verdict) → length vs ≡ length ps
    → i < length vs → p ≡ get_or ps i p → v ≡ get_or vs i v → (i < length (verdicts_list rest file ps vs))
    × (verdict_data rest file p v ≡ get_or (verdicts_list rest file ps vs) i d)
verdict_at rest file [] [] i d p v count within is are = absurd (omega arith)
verdict_at rest file [] (w ∷ vs) i d p v count within is are = absurd (omega arith)
verdict_at rest file (m ∷ ps) [] i d p v count within is are = absurd (omega arith)
verdict_at rest file (m ∷ ps) (w ∷ vs) zero d p v count within is are =
    (omega arith, ap (λ k. verdict_data rest file k v) is ∙ ap (verdict_data rest file m) are)
verdict_at rest file (m ∷ ps) (w ∷ vs) (suc i) d p v count within is are = let more = verdict_at rest file ps vs i d p v (omega arith) (omega arith) is are in
    let low = more.0 in (omega arith, more.1)

pub values_count : (ns : List (List ℕ)) (vs : List ℤ) → length (values_list ns vs) ≤ length vs
values_count [] vs = omega arith
values_count (n ∷ ns) [] = omega arith
values_count (n ∷ ns) (v ∷ vs) = omega (arith, values_count ns vs)

pub verdicts_count : (rest : Bool) (file : File) (ps : List Pattern) (vs : List Verdict) → length (verdicts_list rest file ps vs) ≤ length vs
verdicts_count rest file [] vs = omega arith
verdicts_count rest file (p ∷ ps) [] = omega arith
verdicts_count rest file (p ∷ ps) (v ∷ vs) = omega (arith, verdicts_count rest file ps vs)

-- one item more is pushed
pub pushed : (all : List json.Data) (i : ℕ) (before after : List Value) (v : Value) (d : json.Data) → map view before ≡ take i all → after ≡ before ++ v ∷ []
    → i < length all → view v ≡ get_or all i d → map view after ≡ take (i + 1) all
pushed all i before after v d so_far is within here =
    ap (map view) is ∙ map-append view before (v ∷ []) ∙ ap (λ ds. ds ++ view v ∷ []) so_far ∙ ap (λ e. take i all ++ e ∷ []) here
    ∙ sym (take_more all i d within)

-- all are pushed
pub all_pushed : (all : List json.Data) (i : ℕ) (vs : List Value) → map view vs ≡ take i all → length all ≤ i → items_view vs ≡ items_of all
all_pushed all i vs is most = ap items_of (is ∙ take_all i all most)

pub split_lines : (ls : List (List ℕ)) → AllByRecursion (Avoids 10) ls → slice_split (λ b. b == 10) (lines_text ls) ≡ ls ++ ([] ∷ [])
split_lines [] free = refl
split_lines (l ∷ ls) free = split_line l (lines_text ls) free.0 ∙ ap (λ parts. l ∷ parts) (split_lines ls free.1)

-- lines are those of their text
pub lines_back : (ls : List (List ℕ)) → AllByRecursion (Avoids 10) ls → text_lines (lines_text ls) ≡ ls
lines_back ls free =
    let last : List (List ℕ) = [] ∷ [] in
    let count : length (ls ++ last) - 1 ≡ length ls = omega (arith, length-append ls last) in
    ap (λ (parts : List (List ℕ)). take (length parts - 1) parts) (split_lines ls free)
    ∙ ap (λ n. take n (ls ++ last)) count ∙ take-append-le (length ls) ls last (omega arith) ∙ take-length ls

-- the last item is taken off
pub last_off : (parts : List (List ℕ)) (vs rest : List Value) → map view vs ≡ map json.string parts → rest ≡ take (length vs - 1) vs
    → map view rest ≡ map json.string (take (length parts - 1) parts)
last_off parts vs rest is cut =
    let count : length vs - 1 ≡ length parts - 1 = omega (arith, length-map vs view, ap (λ (ds : List json.Data). length ds) is, length-map parts json.string)
    in
    ap (map view) cut ∙ sym (take-map view (length vs - 1) vs) ∙ ap (take (length vs - 1)) is
    ∙ ap (λ n. take n (map json.string parts)) count ∙ take-map json.string (length parts - 1) parts

-- items with the views of these data
pub items_of_views : (vs : List Value) (ds : List json.Data) → map view vs ≡ ds → items_view vs ≡ items_of ds
items_of_views vs ds is = ap items_of is

-- no number stands in a report, so no number with a point
pub no_text_floats : (texts : List (List ℕ)) → items_have_float (texts_data texts) ≡ false
no_text_floats [] = refl
no_text_floats (text ∷ texts) = no_text_floats texts

no_value_floats : (ns : List (List ℕ)) (vs : List ℤ) → items_have_float (values_data ns vs) ≡ false
no_value_floats [] vs = refl
no_value_floats (n ∷ ns) [] = refl
no_value_floats (n ∷ ns) (v ∷ vs) = no_value_floats ns vs

pub no_sample_floats : (file : File) (s : ReportSample) → has_float (sample_data file s) ≡ false
no_sample_floats file (sample.Sample values) = ap (λ b. b || false) (no_value_floats file.automaton.parameters values)
no_sample_floats file sample.Empty = refl
no_sample_floats file (sample.Spent count) = refl
no_sample_floats file (sample.Overflow node kind) = refl

pub no_unknown_sample_float : (s : ReportSample) → has_float (unknown_sample_data s) ≡ false
no_unknown_sample_float (sample.Sample values) = refl
no_unknown_sample_float sample.Empty = refl
no_unknown_sample_float (sample.Spent count) = refl
no_unknown_sample_float (sample.Overflow node kind) = refl

pub no_unknown_verdict_float : (name : List ℕ) (v : Verdict) → has_float (unknown_verdict_data name v) ≡ false
no_unknown_verdict_float name (Safe nodes leaves) = refl
no_unknown_verdict_float name (Unsafe nodes run) = refl
no_unknown_verdict_float name (Spent nodes) = refl
no_unknown_verdict_float name (Overflow node kind) = refl

no_verdict_float : (rest : Bool) (file : File) (p : Pattern) (v : Verdict) → has_float (verdict_data rest file p v) ≡ false
no_verdict_float rest file p (Safe nodes leaves) = refl
no_verdict_float rest file p (Unsafe nodes run) = ap (λ b. b || false) (no_text_floats (run_lines file run))
no_verdict_float rest file p (Spent nodes) = refl
no_verdict_float rest file p (Overflow node kind) = refl

no_verdict_floats : (rest : Bool) (file : File) (ps : List Pattern) (vs : List Verdict) → items_have_float (verdicts_data rest file ps vs) ≡ false
no_verdict_floats rest file [] vs = refl
no_verdict_floats rest file (p ∷ ps) [] = refl
no_verdict_floats rest file (p ∷ ps) (v ∷ vs) = ap (λ b. b || items_have_float (verdicts_data rest file ps vs)) (no_verdict_float rest file p v)
    ∙ no_verdict_floats rest file ps vs

pub no_floats : (rest : Bool) (file : File) (pick : Pick) (s : ReportSample) (vs : List Verdict) → has_float (report_data rest file pick s vs) ≡ false
no_floats rest file pick s vs = ap (λ b. b || (items_have_float (verdicts_data rest file (picked pick file.patterns) vs) || false)) (no_sample_floats file s)
    ∙ ap (λ b. b || false) (no_verdict_floats rest file (picked pick file.patterns) vs)
