-- What the line of JSON of `check` or `rest-check` says, and that it is read so.
use Rattle.ta_report.proofs.Common.{ℕ, zero, suc, ◌+◌, ◌<◌, ◌≡◌, Bool, true, false, ◌||◌, List, [], ◌∷◌, length, get_or, codes, refl, sym, ap, ◌∙◌, arith}
use Rattle.ta_report.proofs.Common.{Option, Some, slice_get, read, compact_text, differ, distinct_map_at, pattern_name, File, Pattern, ReportSample, JsonSays}
use Rattle.ta_report.proofs.Common.{has_float, items_have_float, items_of, of_members, members_outline, sample_data, is_proved, word_told, None, IsTrue}
use Rattle.ta_report.proofs.Common.{if◌then◌else◌, append_cancel_right, same_Some, get, get_item, proofs_data, proofs_json, proved_word, told_data}
use Rattle.ta_report.specs.CheckJson.{ProofsAreRead, ToldProved, all_proofs_data}
use Rattle.ta_report.proofs.JsonItems.{no_sample_floats}
use Rattle.ta_report.proofs.JsonSayings.{array_same, at_key, string_same}
use Rattle.ta_report.proofs.Printed.{printed_proved}
use Rattle.ta_report.proofs.ReadBack.{AreRead, IsRead, array_read, item_read, member_step, none_read, object_same, read_back, sample_read}
use Rattle.serde_json.specs.Data as json

-- the items of the list
abbrev pub proofs_list : Bool → List ℕ → ℕ → List Pattern → List json.Data
proofs_list rest numbers number [] = []
proofs_list rest numbers number (p ∷ ps) = told_data p.name (word_told rest numbers number) ∷ proofs_list rest numbers (number + 1) ps

pub proofs_listed : (rest : Bool) (numbers : List ℕ) (number : ℕ) (ps : List Pattern)
    → items_of (proofs_list rest numbers number ps) ≡ proofs_data rest numbers number ps
proofs_listed rest numbers number [] = refl
proofs_listed rest numbers number (p ∷ ps) = ap (json.item (told_data p.name (word_told rest numbers number))) (proofs_listed rest numbers (number + 1) ps)

pub proofs_count : (rest : Bool) (numbers : List ℕ) (number : ℕ) (ps : List Pattern) → length (proofs_list rest numbers number ps) ≡ length ps
proofs_count rest numbers number [] = refl
proofs_count rest numbers number (p ∷ ps) = let more = proofs_count rest numbers (number + 1) ps in omega (arith, more)

pub proof_at : (rest : Bool) (numbers : List ℕ) (number : ℕ) (ps : List Pattern) (i : ℕ) (d : json.Data) (p : Pattern) → i < length ps → p ≡ get_or ps i p
    → told_data p.name (word_told rest numbers (number + i)) ≡ get_or (proofs_list rest numbers number ps) i d
proof_at rest numbers number [] i d p within is = absurd (omega (arith, within))
proof_at rest numbers number (q ∷ ps) zero d p within is =
    let here : number + 0 ≡ number = omega arith in
    ap (λ (n : ℕ). told_data p.name (word_told rest numbers n)) here ∙ ap (λ (r : Pattern). told_data r.name (word_told rest numbers number)) is
proof_at rest numbers number (q ∷ ps) (suc i) d p within is =
    let there : number + suc i ≡ (number + 1) + i = omega arith in
    ap (λ (n : ℕ). told_data p.name (word_told rest numbers n)) there ∙ proof_at rest numbers (number + 1) ps i d p (omega (arith, within)) is

-- no number stands in the line, so no number with a point
no_proof_floats : (rest : Bool) (numbers : List ℕ) (number : ℕ) (ps : List Pattern) → items_have_float (proofs_data rest numbers number ps) ≡ false
no_proof_floats rest numbers number [] = refl
no_proof_floats rest numbers number (p ∷ ps) = no_proof_floats rest numbers (number + 1) ps

pub no_floats : (rest : Bool) (file : File) (s : Option ReportSample) (numbers : List ℕ) → has_float (all_proofs_data rest file s numbers) ≡ false
no_floats rest file None numbers = ap (λ b. b || false) (no_proof_floats rest numbers 0 file.patterns)
no_floats rest file (Some s) numbers =
    ap (λ b. b || (items_have_float (proofs_data rest numbers 0 file.patterns) || false)) (no_sample_floats file s)
    ∙ ap (λ b. b || false) (no_proof_floats rest numbers 0 file.patterns)

-- the line is read back
each_read : (rest : Bool) (numbers : List ℕ) (number : ℕ) (ps : List Pattern) → AreRead (proofs_data rest numbers number ps) 2
each_read rest numbers number [] = none_read 2
each_read rest numbers number (p ∷ ps) =
    let d = told_data p.name (word_told rest numbers number) in
    item_read d (proofs_data rest numbers (number + 1) ps) 2 (record { numbers = (tt, (tt, tt)); shallow = omega arith; same = refl })
    (each_read rest numbers (number + 1) ps)

whole_read : (rest : Bool) (file : File) (s : Option ReportSample) (numbers : List ℕ) → IsRead (all_proofs_data rest file s numbers) 4
whole_read rest file None numbers =
    let listed = array_read (proofs_data rest numbers 0 file.patterns) 2 (each_read rest numbers 0 file.patterns) in
    let low = listed.shallow in
    let name = json.string file.automaton.name in
    let patterns = json.array (proofs_data rest numbers 0 file.patterns) in
    let last = json.member (codes "patterns") patterns json.no_members in
    let one = json.member (codes "automaton") name json.no_members in
    let first : of_members (members_outline (json.member (codes "automaton") name last)) json.no_members ≡ of_members (members_outline last) one = refl in
    record {
      numbers = (tt, (listed.numbers, tt));
      shallow = omega arith;
      same = object_same (json.member (codes "automaton") name last) (first ∙ member_step (codes "patterns") patterns 3 json.no_members one listed);
    }
whole_read rest file (Some s) numbers =
    let second = sample_read file s in
    let listed = array_read (proofs_data rest numbers 0 file.patterns) 2 (each_read rest numbers 0 file.patterns) in
    let low = second.shallow in
    let lows = listed.shallow in
    let name = json.string file.automaton.name in
    let parameters = sample_data file s in
    let patterns = json.array (proofs_data rest numbers 0 file.patterns) in
    let last = json.member (codes "patterns") patterns json.no_members in
    let one = json.member (codes "automaton") name json.no_members in
    let two = json.member (codes "automaton") name (json.member (codes "parameters") parameters json.no_members) in
    let first : of_members (members_outline (json.member (codes "automaton") name (json.member (codes "parameters") parameters last))) json.no_members ≡
    of_members (members_outline (json.member (codes "parameters") parameters last)) one = refl in
    record {
      numbers = (tt, (second.numbers, (listed.numbers, tt)));
      shallow = omega arith;
      same = object_same (json.member (codes "automaton") name (json.member (codes "parameters") parameters last))
          (first ∙ member_step (codes "parameters") parameters 3 last one second ∙ member_step (codes "patterns") patterns 3 json.no_members two listed);
    }

pub proofs_read : ProofsAreRead
proofs_read rest file s numbers = read_back (all_proofs_data rest file s numbers) 4 (omega arith) (whole_read rest file s numbers)

-- what is said of a pattern in the list
record ProofAt (rest : Bool) (numbers : List ℕ) (number : ℕ) (ps : List Pattern) (place : ℕ) (found : json.Data) : Type 0 where
  pattern : Pattern
  here : slice_get ps place ≡ Some pattern
  is : found ≡ told_data pattern.name (word_told rest numbers (number + place))

item_at : (rest : Bool) (numbers : List ℕ) (number : ℕ) (ps : List Pattern) (place : ℕ) (found : json.Data)
    → get_item place (proofs_data rest numbers number ps) ≡ Some found → ProofAt rest numbers number ps place found
item_at rest numbers number [] place found e = cc
item_at rest numbers number (p ∷ ps) zero found e =
    let here : number + 0 ≡ number = omega arith in
    record { pattern = p; here = refl; is = same_Some _ _ (sym e) ∙ ap (λ (n : ℕ). told_data p.name (word_told rest numbers n)) (sym here) }
item_at rest numbers number (p ∷ ps) (suc place) found e =
    let more = item_at rest numbers (number + 1) ps place found e in
    let there : (number + 1) + place ≡ number + suc place = omega arith in
    record { pattern = more.pattern; here = more.here; is = more.is ∙ ap (λ (n : ℕ). told_data more.pattern.name (word_told rest numbers n)) there }

-- where the patterns stand
listed_at : (rest : Bool) (file : File) (s : Option ReportSample) (numbers : List ℕ)
    → get (codes "patterns") (all_proofs_data rest file s numbers) ≡ Some (json.array (proofs_data rest numbers 0 file.patterns))
listed_at rest file None numbers = refl
listed_at rest file (Some s) numbers = refl

-- the one of two words that is said
chosen : (b : Bool) (one another : List ℕ) → ¬ (another ≡ one) → (if b then one else another) ≡ one → IsTrue b
chosen true one another apart e = refl
chosen false one another apart e = absurd (apart e)

word_proved : (rest : Bool) (numbers : List ℕ) (number : ℕ) → word_told rest numbers number ≡ proved_word rest → IsTrue (is_proved numbers number)
word_proved false numbers number e = chosen (is_proved numbers number) (codes "proved") (codes "not proved")
    (differ 0 (codes "not proved") (codes "proved") refl) e
word_proved true numbers number e = chosen (is_proved numbers number) (codes "rest proved") (codes "not rest proved")
    (differ 0 (codes "not rest proved") (codes "rest proved") refl) e

-- a pattern that the line calls proved is one of the proved ones
json_proved : (rest : Bool) (file : File) (s : Option ReportSample) (numbers : List ℕ) (number : ℕ) (p : Pattern) → slice_get file.patterns number ≡ Some p
    → JsonSays p.name (proved_word rest) (proofs_json rest file s numbers) → IsTrue (is_proved numbers number)
json_proved rest file s numbers number p at says =
    let line = append_cancel_right (compact_text (all_proofs_data rest file s numbers)) says.line (codes "\n") says.ended in
    let whole : says.whole ≡ all_proofs_data rest file s numbers = same_Some _ _ (sym says.is ∙ ap read (sym line) ∙ proofs_read rest file s numbers) in
    let patterns : says.patterns ≡ proofs_data rest numbers 0 file.patterns = array_same _ _
    (sym says.listed ∙ at_key (codes "patterns") _ _ whole ∙ listed_at rest file s numbers) in
    let item = item_at rest numbers 0 file.patterns says.place says.found (ap (get_item says.place) (sym patterns) ∙ says.at) in
    let name : item.pattern.name ≡ p.name = string_same _ _ (at_key (codes "name") _ _ (sym item.is) ∙ says.named) in
    let place : says.place ≡ number = distinct_map_at pattern_name file.patterns says.place number item.pattern p file.shape.distinct item.here at name in
    let word : word_told rest numbers (0 + says.place) ≡ proved_word rest = string_same _ _ (at_key (codes "verdict") _ _ (sym item.is) ∙ says.told) in
    let there : 0 + says.place ≡ number = omega (arith, place) in
    word_proved rest numbers number (ap (word_told rest numbers) (sym there) ∙ word)

pub told_proved : ToldProved
told_proved true rest file s numbers number p at fits says = json_proved rest file s numbers number p at says
told_proved false rest file s numbers number p at fits has = printed_proved rest file s numbers number p at fits has
