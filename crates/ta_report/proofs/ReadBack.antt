-- The line of JSON is read as the report.
use Rattle.ta_report.proofs.Common.{ℕ, ℤ, suc, ◌≤◌, ◌≡◌, List, [], ◌∷◌, ◌++◌, codes, refl, sym, ap, ◌∙◌, arith, append-nil, Option, Some, option_map}
use Rattle.ta_report.proofs.Common.{option_and_then, signed_decimal, read, of_json, of_items, of_members, compact_text, outline, items_outline, members_outline}
use Rattle.ta_report.proofs.Common.{Bool, File, Pattern, Pick, picked, unsafe_word, run_lines, ReportSample, Verdict, Safe, Unsafe, Spent, Overflow, JsonIsRead}
use Rattle.ta_report.proofs.Common.{digits_data, report_data, sample_data, texts_data, unknown_sample_data, unknown_verdict_data, value_data, values_data}
use Rattle.ta_report.proofs.Common.{verdict_data, verdict_member, verdicts_data}
use Rattle.json.specs.Token.{Token}
use Rattle.json.specs.Lex.{tokens}
use Rattle.json.specs.Tree.{HasNumbers, ItemsHaveNumbers, depth, items_depth, json_tokens}
use Rattle.json.proofs.Printed.Tokens.{tokens-print}
use Rattle.json.proofs.Printed.Trees.{ArePrintable-json_tokens, value-json_tokens}
use Rattle.serde_json.proofs.Texts.{print-outline}
use Rattle.json.specs.Json as grammar
use Rattle.serde_json.specs.Data as json
use Rattle.ta_report.specs.declared.verdict.ReportSample.TheVariants as sample

-- data that is read back from its text: it has no number, nests no deeper than this, and its members are in order
pub record IsRead (d : json.Data) (deep : ℕ) : Type 0 where
  pub numbers : HasNumbers (outline d)
  pub shallow : depth (outline d) ≤ deep
  pub same : of_json (outline d) ≡ Some d

pub record AreRead (ds : json.Items) (deep : ℕ) : Type 0 where
  pub numbers : ItemsHaveNumbers (items_outline ds)
  pub shallow : items_depth (items_outline ds) ≤ deep
  pub same : of_items (items_outline ds) ≡ Some ds

pub text_read : (text : List ℕ) (deep : ℕ) → IsRead (json.string text) deep
text_read text deep = record { numbers = tt; shallow = omega arith; same = refl }

pub none_read : (deep : ℕ) → AreRead json.no_items deep
none_read deep = record { numbers = tt; shallow = omega arith; same = refl }

pub item_read : (d : json.Data) (ds : json.Items) (deep : ℕ) → IsRead d deep → AreRead ds deep → AreRead (json.item d ds) deep
item_read d ds deep is are =
    let low = is.shallow in
    let lows = are.shallow in
    record {
      numbers = (is.numbers, are.numbers);
      shallow = omega arith;
      same = ap (option_and_then (λ e. option_map (json.item e) (of_items (items_outline ds)))) is.same ∙ ap (option_map (json.item d)) are.same;
    }

pub array_read : (ds : json.Items) (deep : ℕ) → AreRead ds deep → IsRead (json.array ds) (suc deep)
array_read ds deep are = let low = are.shallow in record { numbers = are.numbers; shallow = omega arith; same = ap (option_map json.array) are.same }

-- one member of an object is read
pub member_step : (k : List ℕ) (d : json.Data) (deep : ℕ) (ms found : json.Members) → IsRead d deep
    → of_members (members_outline (json.member k d ms)) found ≡ of_members (members_outline ms) (json.put k d found)
member_step k d deep ms found is = ap (option_and_then (λ e. of_members (members_outline ms) (json.put k e found))) is.same

pub object_same : (ms : json.Members) → of_members (members_outline ms) json.no_members ≡ Some ms → of_json (outline (json.object ms)) ≡ Some (json.object ms)
object_same ms e = ap (option_map json.object) e

pub texts_read : (texts : List (List ℕ)) (deep : ℕ) → AreRead (texts_data texts) deep
texts_read [] deep = none_read deep
texts_read (text ∷ texts) deep = item_read (json.string text) (texts_data texts) deep (text_read text deep) (texts_read texts deep)

values_read : (ns : List (List ℕ)) (vs : List ℤ) → AreRead (values_data ns vs) 1
values_read [] vs = none_read 1
values_read (n ∷ ns) [] = none_read 1
values_read (n ∷ ns) (v ∷ vs) = item_read (value_data n v) (values_data ns vs) 1
    (array_read (texts_data (n ∷ signed_decimal v ∷ [])) 0 (texts_read (n ∷ signed_decimal v ∷ []) 0)) (values_read ns vs)

pub sample_read : (file : File) (s : ReportSample) → IsRead (sample_data file s) 3
sample_read file (sample.Sample values) =
    let first = array_read (values_data file.automaton.parameters values) 1 (values_read file.automaton.parameters values) in
    let low = first.shallow in
    let d = json.array (values_data file.automaton.parameters values) in
    let verdict = json.string (codes "sample") in
    record {
      numbers = (first.numbers, (tt, tt));
      shallow = omega arith;
      same = object_same (json.member (codes "values") d (verdict_member (codes "sample")))
          (member_step (codes "values") d 2 (verdict_member (codes "sample")) json.no_members first
          ∙ member_step (codes "verdict") verdict 0 json.no_members (json.put (codes "values") d json.no_members) (text_read (codes "sample") 0));
    }
sample_read file sample.Empty = record { numbers = (tt, tt); shallow = omega arith; same = refl }
sample_read file (sample.Spent count) = record { numbers = (tt, (tt, tt)); shallow = omega arith; same = refl }
sample_read file (sample.Overflow node kind) = record { numbers = (tt, (tt, (tt, tt))); shallow = omega arith; same = refl }

pub unknown_sample_read : (s : ReportSample) → IsRead (unknown_sample_data s) 2
unknown_sample_read (sample.Sample values) = record { numbers = tt; shallow = omega arith; same = refl }
unknown_sample_read sample.Empty = record { numbers = tt; shallow = omega arith; same = refl }
unknown_sample_read (sample.Spent count) = record { numbers = (tt, (tt, tt)); shallow = omega arith; same = refl }
unknown_sample_read (sample.Overflow node kind) = record { numbers = (tt, (tt, (tt, tt))); shallow = omega arith; same = refl }

pub unknown_verdict_read : (name : List ℕ) (v : Verdict) → IsRead (unknown_verdict_data name v) 2
unknown_verdict_read name (Safe nodes leaves) = record { numbers = tt; shallow = omega arith; same = refl }
unknown_verdict_read name (Unsafe nodes run) = record { numbers = tt; shallow = omega arith; same = refl }
unknown_verdict_read name (Spent nodes) = record { numbers = (tt, (tt, (tt, tt))); shallow = omega arith; same = refl }
unknown_verdict_read name (Overflow node kind) = record { numbers = (tt, (tt, (tt, (tt, tt)))); shallow = omega arith; same = refl }

verdict_read : (rest : Bool) (file : File) (p : Pattern) (v : Verdict) → IsRead (verdict_data rest file p v) 2
verdict_read rest file p (Safe nodes leaves) = record { numbers = (tt, (tt, (tt, (tt, tt)))); shallow = omega arith; same = refl }
verdict_read rest file p (Unsafe nodes run) =
    let lines = texts_data (run_lines file run) in
    let third = array_read lines 0 (texts_read (run_lines file run) 0) in
    let low = third.shallow in
    let name = json.string p.name in
    let number = digits_data nodes in
    let after_two = json.member (codes "name") name (json.member (codes "nodes") number json.no_members) in
    let last = verdict_member (unsafe_word rest) in
    let two : of_members (members_outline
    (json.member (codes "name") name (json.member (codes "nodes") number (json.member (codes "run") (json.array lines) last)))) json.no_members ≡ of_members
    (members_outline (json.member (codes "run") (json.array lines) last)) after_two = refl in
    record {
      numbers = (tt, (tt, (third.numbers, (tt, tt))));
      shallow = omega arith;
      same = object_same (json.member (codes "name") name (json.member (codes "nodes") number (json.member (codes "run") (json.array lines) last)))
          (two ∙ member_step (codes "run") (json.array lines) 1 last after_two third);
    }
verdict_read rest file p (Spent nodes) = record { numbers = (tt, (tt, (tt, tt))); shallow = omega arith; same = refl }
verdict_read rest file p (Overflow node kind) = record { numbers = (tt, (tt, (tt, (tt, tt)))); shallow = omega arith; same = refl }

verdicts_read : (rest : Bool) (file : File) (ps : List Pattern) (vs : List Verdict) → AreRead (verdicts_data rest file ps vs) 2
verdicts_read rest file [] vs = none_read 2
verdicts_read rest file (p ∷ ps) [] = none_read 2
verdicts_read rest file (p ∷ ps) (v ∷ vs) = item_read (verdict_data rest file p v) (verdicts_data rest file ps vs) 2 (verdict_read rest file p v)
    (verdicts_read rest file ps vs)

report_read : (rest : Bool) (file : File) (pick : Pick) (s : ReportSample) (vs : List Verdict) → IsRead (report_data rest file pick s vs) 4
report_read rest file pick s vs =
    let second = sample_read file s in
    let third = array_read (verdicts_data rest file (picked pick file.patterns) vs) 2 (verdicts_read rest file (picked pick file.patterns) vs) in
    let low = second.shallow in
    let lows = third.shallow in
    let name = json.string file.automaton.name in
    let parameters = sample_data file s in
    let patterns = json.array (verdicts_data rest file (picked pick file.patterns) vs) in
    let last = json.member (codes "patterns") patterns json.no_members in
    let one = json.member (codes "automaton") name json.no_members in
    let two = json.member (codes "automaton") name (json.member (codes "parameters") parameters json.no_members) in
    let first : of_members (members_outline (json.member (codes "automaton") name (json.member (codes "parameters") parameters last))) json.no_members ≡
    of_members (members_outline (json.member (codes "parameters") parameters last)) one = refl in
    record {
      numbers = (tt, (second.numbers, (third.numbers, tt)));
      shallow = omega arith;
      same = object_same (json.member (codes "automaton") name (json.member (codes "parameters") parameters last))
          (first ∙ member_step (codes "parameters") parameters 3 last one second ∙ member_step (codes "patterns") patterns 3 json.no_members two third);
    }

-- what is read back
pub read_back : (d : json.Data) (deep : ℕ) → deep ≤ 127 → IsRead d deep → read (compact_text d) ≡ Some d
read_back d deep most is =
    let low = is.shallow in
    let j = outline d in
    let whole : Option (grammar.Json × List Token) → Option json.Data = λ r. option_and_then of_json (option_and_then (λ p. grammar.if_last p.0 p.1) r) in
    let texts : tokens (compact_text d) ≡ json_tokens j ++ [] = ap tokens (sym (print-outline d))
    ∙ tokens-print (json_tokens j) (ArePrintable-json_tokens j is.numbers) ∙ sym (append-nil (json_tokens j)) in
    ap (λ ts. whole (grammar.value 127 ts)) texts ∙ ap whole (value-json_tokens j 127 [] (omega arith)) ∙ is.same

pub json_read : JsonIsRead
json_read rest file pick s vs = read_back (report_data rest file pick s vs) 4 (omega arith) (report_read rest file pick s vs)
