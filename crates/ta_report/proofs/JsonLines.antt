-- No line of a report in JSON begins as the line of a pattern does: the whole report is one line, and it begins with a brace
use Rattle.ta_report.proofs.Common.{arith, ℕ, ℤ, ◌≡◌, ◌+◌, ◌++◌, ◌∷◌, [], List, Bool, true, false, cond, codes, decimal, if◌then◌else◌, sym, subst, refl, inl}
use Rattle.ta_report.proofs.Common.{inr, lit<, eqb_tells, signed_decimal, ◌||◌, ◌==◌, compact_text, File, Pattern, Avoids, avoids-append, avoids_known}
use Rattle.ta_report.proofs.Common.{behind_line, either_clear, heads_apart, run_lines, Option, None, Some, word_told, given_members, proofs_data, proofs_json}
use Rattle.ta_report.proofs.Common.{proofs_member, proofs_of, proved_word, told_data, json_text, report_data, sample_data, texts_data, value_data, values_data}
use Rattle.ta_report.proofs.Common.{verdict_data, verdict_member, verdicts_data, HasLine, LineAt, told_of, picked, unsafe_words, TellsSafe, TellsUnsafe}
use Rattle.ta_report.proofs.Common.{report_of, place_text, safe_word, unsafe_word, Pick, ReportKind, ReportSample, Verdict, Safe, Unsafe, Spent, Overflow}
use Rattle.std.proofs.Common.{◌≢◌}
use Rattle.std.proofs.lemmas.List.Concat.{flat_map-cons}
use Rattle.std.specs.Char.{digit_char}
use Rattle.std.specs.Prelude.{◌/◌, ◌%◌, nat_lt}
use Rattle.json.specs.Print.{escape, escape_byte, escape_letter, quoted}
use Rattle.serde_json.specs.Written.{comma_if, items_text, members_text}
use Rattle.ta_report.specs.CheckJson.{TellsProved}
use Rattle.ta_report.specs.Json.{place_members, spent_members}
use Rattle.ta_report.specs.PrintedRuns.{safe_words}
use Rattle.serde_json.specs.Data as json
use Rattle.ta_report.specs.declared.verdict.ReportSample.TheVariants as sample

chosen : (b : Bool) (x y : ℕ) → x ≢ 10 → y ≢ 10 → cond b x y ≢ 10
chosen true x y f g = f
chosen false x y f g = g

chosen_clear : (b : Bool) (xs ys : List ℕ) → Avoids 10 xs → Avoids 10 ys → Avoids 10 (cond b xs ys)
chosen_clear true xs ys f g = f
chosen_clear false xs ys f g = g

letter_clear : (x : ℕ) → x ≢ 10 → escape_letter x ≢ 10
letter_clear x other =
    chosen ((x == 34) || (x == 92)) x _ other
    (chosen (x == 8) 98 _ (λ e. omega (arith, e))
    (chosen (x == 12) 102 _ (λ e. omega (arith, e))
    (chosen (x == 10) 110 _ (λ e. omega (arith, e))
    (chosen (x == 13) 114 _ (λ e. omega (arith, e))
    (chosen (x == 9) 116 0 (λ e. omega (arith, e)) (λ e. omega (arith, e)))))))

-- a digit
chosen_below : (b : Bool) (n : ℕ) → (if b then 48 + n else 87 + n) ≢ 10
chosen_below true n e = omega (arith, e)
chosen_below false n e = omega (arith, e)

digit_clear : (n : ℕ) → digit_char n ≢ 10
digit_clear n = chosen_below (nat_lt n 10) n

other_clear : (x : ℕ) → x ≢ 10 → Avoids 10 (escape_byte x)
unfolding escape_byte
other_clear x other =
    chosen_clear (nat_lt 0 (escape_letter x)) (92 ∷ escape_letter x ∷ []) _ ((λ e. omega (arith, e)), (letter_clear x other, tt))
    (chosen_clear (nat_lt x 32) (92 ∷ 117 ∷ 48 ∷ 48 ∷ digit_char (x / 16) ∷ digit_char (x % 16) ∷ []) (x ∷ []) (
      (λ e. omega (arith, e)),
      (
        (λ e. omega (arith, e)),
        ((λ e. omega (arith, e)), ((λ e. omega (arith, e)), (digit_clear (x / 16), (digit_clear (x % 16), tt)))),
      ),
    )
    (other, tt))

ten_clear : Avoids 10 (escape_byte 10)
unfolding escape_byte
ten_clear = avoids_known 10 (92 ∷ 110 ∷ []) refl

byte_clear : (x : ℕ) → Avoids 10 (escape_byte x)
byte_clear x = elim (eqb_tells x 10) [
  | inl same ↦ subst (λ (y : ℕ). Avoids 10 (escape_byte y)) (sym same.1) ten_clear
  | inr apart ↦ other_clear x apart.1
]

escape_clear : (s : List ℕ) → Avoids 10 (escape s)
escape_clear [] = tt
escape_clear (x ∷ s) = subst (Avoids 10) (sym (flat_map-cons escape_byte x s)) (avoids-append 10 (escape_byte x) (escape s) (byte_clear x) (escape_clear s))

pub quoted_clear : (s : List ℕ) → Avoids 10 (quoted s)
quoted_clear s = ((λ e. omega (arith, e)), avoids-append 10 (escape s) (34 ∷ []) (escape_clear s) ((λ e. omega (arith, e)), tt))

-- ---- data whose text has no line feed
abbrev Clear : json.Data → Type 0
Clear d = Avoids 10 (compact_text d)

abbrev ClearItems : json.Items → Type 0
ClearItems ds = (later : Bool) → Avoids 10 (items_text later ds)

abbrev ClearMembers : json.Members → Type 0
ClearMembers ms = (later : Bool) → Avoids 10 (members_text later ms)

comma_clear : (later : Bool) → Avoids 10 (comma_if later)
comma_clear later = either_clear later (44 ∷ []) [] ((λ e. omega (arith, e)), tt) tt

no_items_clear : ClearItems json.no_items
no_items_clear later = ((λ e. omega (arith, e)), tt)

no_members_clear : ClearMembers json.no_members
no_members_clear later = ((λ e. omega (arith, e)), tt)

item_clear : (d : json.Data) (ds : json.Items) → Clear d → ClearItems ds → ClearItems (json.item d ds)
item_clear d ds one more later = avoids-append 10 (comma_if later) (compact_text d ++ items_text true ds) (comma_clear later)
    (avoids-append 10 (compact_text d) (items_text true ds) one (more true))

member_clear : (key : List ℕ) (d : json.Data) (ms : json.Members) → Clear d → ClearMembers ms → ClearMembers (json.member key d ms)
member_clear key d ms one more later =
    avoids-append 10 (comma_if later) (quoted key ++ (58 ∷ (compact_text d ++ members_text true ms))) (comma_clear later)
    (avoids-append 10 (quoted key) (58 ∷ (compact_text d ++ members_text true ms)) (quoted_clear key)
    ((λ e. omega (arith, e)), avoids-append 10 (compact_text d) (members_text true ms) one (more true)))

array_clear : (ds : json.Items) → ClearItems ds → Clear (json.array ds)
array_clear ds clear = ((λ e. omega (arith, e)), clear false)

object_clear : (ms : json.Members) → ClearMembers ms → Clear (json.object ms)
object_clear ms clear = ((λ e. omega (arith, e)), clear false)

-- ---- the parts of a report
texts_clear : (texts : List (List ℕ)) → ClearItems (texts_data texts)
texts_clear [] = no_items_clear
texts_clear (t ∷ ts) = item_clear (json.string t) (texts_data ts) (quoted_clear t) (texts_clear ts)

values_clear : (names : List (List ℕ)) (values : List ℤ) → ClearItems (values_data names values)
values_clear [] vs = no_items_clear
values_clear (n ∷ ns) [] = no_items_clear
values_clear (n ∷ ns) (v ∷ vs) = item_clear (value_data n v) (values_data ns vs)
    (array_clear (texts_data (n ∷ signed_decimal v ∷ [])) (texts_clear (n ∷ signed_decimal v ∷ []))) (values_clear ns vs)

said_clear : (key text : List ℕ) (ms : json.Members) → ClearMembers ms → ClearMembers (json.member key (json.string text) ms)
said_clear key text ms clear = member_clear key (json.string text) ms (quoted_clear text) clear

verdict_clear : (word : List ℕ) → ClearMembers (verdict_member word)
verdict_clear word = said_clear (codes "verdict") word json.no_members no_members_clear

place_clear : (node : ℕ) (kind : ReportKind) → ClearMembers (place_members node kind)
place_clear node kind =
    said_clear (codes "node") (decimal node) (json.member (codes "place") (json.string (place_text kind)) (verdict_member (codes "overflow")))
    (said_clear (codes "place") (place_text kind) (verdict_member (codes "overflow")) (verdict_clear (codes "overflow")))

spent_clear : (nodes : ℕ) → ClearMembers (spent_members nodes)
spent_clear nodes = said_clear (codes "nodes") (decimal nodes) (verdict_member (codes "spent")) (verdict_clear (codes "spent"))

sample_clear : (file : File) (s : ReportSample) → Clear (sample_data file s)
sample_clear file (sample.Sample values) =
    let items = values_data file.automaton.parameters values in
    object_clear (json.member (codes "values") (json.array items) (verdict_member (codes "sample")))
    (member_clear (codes "values") (json.array items) (verdict_member (codes "sample")) (array_clear items (values_clear file.automaton.parameters values))
    (verdict_clear (codes "sample")))
sample_clear file sample.Empty = object_clear (verdict_member (codes "none")) (verdict_clear (codes "none"))
sample_clear file (sample.Spent count) = object_clear (spent_members count) (spent_clear count)
sample_clear file (sample.Overflow node kind) = object_clear (place_members node kind) (place_clear node kind)

pattern_clear : (rest : Bool) (file : File) (p : Pattern) (v : Verdict) → Clear (verdict_data rest file p v)
pattern_clear rest file p (Safe nodes leaves) =
    let behind = json.member (codes "nodes") (json.string (decimal nodes)) (verdict_member (safe_word rest)) in
    let named = json.member (codes "name") (json.string p.name) behind in
    object_clear (json.member (codes "leaves") (json.string (decimal leaves)) named)
    (said_clear (codes "leaves") (decimal leaves) named
    (said_clear (codes "name") p.name behind
    (said_clear (codes "nodes") (decimal nodes) (verdict_member (safe_word rest)) (verdict_clear (safe_word rest)))))
pattern_clear rest file p (Unsafe nodes run) =
    let lines = json.array (texts_data (run_lines file run)) in
    let ran = json.member (codes "run") lines (verdict_member (unsafe_word rest)) in
    let behind = json.member (codes "nodes") (json.string (decimal nodes)) ran in
    object_clear (json.member (codes "name") (json.string p.name) behind)
    (said_clear (codes "name") p.name behind
    (said_clear (codes "nodes") (decimal nodes) ran
    (member_clear (codes "run") lines (verdict_member (unsafe_word rest)) (array_clear (texts_data (run_lines file run)) (texts_clear (run_lines file run)))
    (verdict_clear (unsafe_word rest)))))
pattern_clear rest file p (Spent nodes) = object_clear (json.member (codes "name") (json.string p.name) (spent_members nodes))
    (said_clear (codes "name") p.name (spent_members nodes) (spent_clear nodes))
pattern_clear rest file p (Overflow node kind) = object_clear (json.member (codes "name") (json.string p.name) (place_members node kind))
    (said_clear (codes "name") p.name (place_members node kind) (place_clear node kind))

patterns_clear : (rest : Bool) (file : File) (ps : List Pattern) (vs : List Verdict) → ClearItems (verdicts_data rest file ps vs)
patterns_clear rest file [] vs = no_items_clear
patterns_clear rest file (p ∷ ps) [] = no_items_clear
patterns_clear rest file (p ∷ ps) (v ∷ vs) = item_clear (verdict_data rest file p v) (verdicts_data rest file ps vs) (pattern_clear rest file p v)
    (patterns_clear rest file ps vs)

report_clear : (rest : Bool) (file : File) (pick : Pick) (s : ReportSample) (vs : List Verdict) → Clear (report_data rest file pick s vs)
report_clear rest file pick s vs =
    let items = verdicts_data rest file (picked pick file.patterns) vs in
    let patterns = json.member (codes "patterns") (json.array items) json.no_members in
    let parameters = json.member (codes "parameters") (sample_data file s) patterns in
    object_clear (json.member (codes "automaton") (json.string file.automaton.name) parameters)
    (said_clear (codes "automaton") file.automaton.name parameters
    (member_clear (codes "parameters") (sample_data file s) patterns (sample_clear file s)
    (member_clear (codes "patterns") (json.array items) json.no_members (array_clear items (patterns_clear rest file (picked pick file.patterns) vs))
    no_members_clear)))

nothing_told : (name word behind : List ℕ) → [] ≡ told_of name word ++ behind → ⊥
nothing_told name word behind e = cc

nothing_later : (name word behind before : List ℕ) → [] ≡ before ++ (10 ∷ (told_of name word ++ behind)) → ⊥
nothing_later name word behind [] e = cc
nothing_later name word behind (b ∷ before) e = cc

-- one line that begins with a brace
one_line : (rest name word behind : List ℕ) → Avoids 10 (123 ∷ rest) → LineAt (told_of name word) behind ((123 ∷ rest) ++ (10 ∷ [])) → ⊥
one_line rest name word behind clear (inl e) = heads_apart 112 123 _ _ (inl (lit< tt)) (sym e)
one_line rest name word behind clear (inr (before, e)) = elim (behind_line (123 ∷ rest) [] before (told_of name word ++ behind) clear e) [
  | inl none ↦ nothing_told name word behind none
  | inr later ↦ nothing_later name word behind later.0 later.1
]

object_told : (ms : json.Members) (name word behind : List ℕ) → Clear (json.object ms)
    → LineAt (told_of name word) behind (compact_text (json.object ms) ++ (10 ∷ [])) → ⊥
object_told ms name word behind clear at = one_line (members_text false ms) name word behind clear at

-- so no line tells of a pattern
no_line_told : (rest : Bool) (file : File) (pick : Pick) (s : ReportSample) (vs : List Verdict) (name word : List ℕ)
    → HasLine (told_of name word) (json_text rest file pick s vs) → ⊥
no_line_told rest file pick s vs name word has = object_told
    (json.member (codes "automaton") (json.string file.automaton.name)
    (json.member (codes "parameters") (sample_data file s)
    (json.member (codes "patterns") (json.array (verdicts_data rest file (picked pick file.patterns) vs)) json.no_members)))
    name word has.0 (report_clear rest file pick s vs) has.1

-- so what a line tells of a pattern is told of it
pub tells_by_line : (rest json : Bool) (file : File) (pick : Pick) (s : ReportSample) (vs : List Verdict) (name : List ℕ)
    → HasLine (told_of name (safe_words rest)) (report_of rest json file pick s vs) → TellsSafe rest json name (report_of rest json file pick s vs)
tells_by_line rest true file pick s vs name line = absurd (no_line_told rest file pick s vs name (safe_words rest) line)
tells_by_line rest false file pick s vs name line = line

pub tells_unsafe_by_line : (rest json : Bool) (file : File) (pick : Pick) (s : ReportSample) (vs : List Verdict) (name : List ℕ)
    → HasLine (told_of name (unsafe_words rest)) (report_of rest json file pick s vs) → TellsUnsafe rest json name (report_of rest json file pick s vs)
tells_unsafe_by_line rest true file pick s vs name line = absurd (no_line_told rest file pick s vs name (unsafe_words rest) line)
tells_unsafe_by_line rest false file pick s vs name line = line

-- ---- the line of JSON of `check` and of `rest-check`
proof_clear : (name word : List ℕ) → Clear (told_data name word)
proof_clear name word = object_clear (json.member (codes "name") (json.string name) (verdict_member word))
    (said_clear (codes "name") name (verdict_member word) (verdict_clear word))

proofs_clear : (rest : Bool) (numbers : List ℕ) (number : ℕ) (ps : List Pattern) → ClearItems (proofs_data rest numbers number ps)
proofs_clear rest numbers number [] = no_items_clear
proofs_clear rest numbers number (p ∷ ps) =
    item_clear (told_data p.name (word_told rest numbers number)) (proofs_data rest numbers (number + 1) ps)
    (proof_clear p.name (word_told rest numbers number)) (proofs_clear rest numbers (number + 1) ps)

given_clear : (file : File) (s : Option ReportSample) (ms : json.Members) → ClearMembers ms → ClearMembers (given_members file s ms)
given_clear file None ms clear = clear
given_clear file (Some s) ms clear = member_clear (codes "parameters") (sample_data file s) ms (sample_clear file s) clear

proofs_members_clear : (rest : Bool) (file : File) (s : Option ReportSample) (numbers : List ℕ)
    → ClearMembers (json.member (codes "automaton") (json.string file.automaton.name) (given_members file s (proofs_member rest numbers file.patterns)))
proofs_members_clear rest file s numbers =
    let items = proofs_data rest numbers 0 file.patterns in
    let patterns = json.member (codes "patterns") (json.array items) json.no_members in
    said_clear (codes "automaton") file.automaton.name (given_members file s patterns)
    (given_clear file s patterns (member_clear (codes "patterns") (json.array items) json.no_members
    (array_clear items (proofs_clear rest numbers 0 file.patterns)) no_members_clear))

no_proof_told : (rest : Bool) (file : File) (s : Option ReportSample) (numbers name word : List ℕ)
    → HasLine (told_of name word) (proofs_json rest file s numbers) → ⊥
no_proof_told rest file s numbers name word has =
    let ms = json.member (codes "automaton") (json.string file.automaton.name) (given_members file s (proofs_member rest numbers file.patterns)) in
    object_told ms name word has.0 (object_clear ms (proofs_members_clear rest file s numbers)) has.1

-- so what a line tells as proved is told as proved
pub proved_by_line : (in_json rest : Bool) (file : File) (s : Option ReportSample) (numbers text name : List ℕ) → text ≡ proofs_of in_json rest file s numbers
    → HasLine (told_of name (proved_word rest)) text → TellsProved in_json rest name text
proved_by_line true rest file s numbers text name e line = absurd
    (no_proof_told rest file s numbers name (proved_word rest) (subst (HasLine (told_of name (proved_word rest))) e line))
proved_by_line false rest file s numbers text name e line = line
