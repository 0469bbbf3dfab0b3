-- The line of JSON of a search: its items as they are pushed, that it has no number with a point, and that it is read back.
use Rattle.ta_search.proofs.Common.{ℕ, ◌≡◌, false, ◌||◌, List, [], ◌∷◌, ◌++◌, map, codes, decimal, refl, sym, ap, ◌∙◌, arith, map-append}
use Rattle.ta_search.proofs.Common.{Tried, Hole, Template, SearchEnd, Outcome, text_lines, texts_data, unknown_sample_data, unknown_verdict_data}
use Rattle.ta_search.proofs.Common.{verdict_member, items_of, view, has_float, items_have_float, of_members, members_outline, SearchIsRead, choice_data}
use Rattle.ta_search.proofs.Common.{choice_list, found_word, hole_data, outcome_data, search_data, tried_data, tries_data, unsafe_data}
use Rattle.serde_json.specs.Data as json
use Rattle.serde_json.specs.declared.value.Value.{Value}
use Rattle.ta_report.proofs.JsonItems.{no_text_floats, no_unknown_sample_float, no_unknown_verdict_float}
use Rattle.ta_report.proofs.ReadBack.{AreRead, IsRead, array_read, item_read, member_step, none_read, object_same, read_back, texts_read, unknown_sample_read}
use Rattle.ta_report.proofs.ReadBack.{unknown_verdict_read}
use Rattle.ta_report.specs.Faults.{file_fault_text}
use Rattle.ta_search.specs.declared.outcome.Outcome.TheVariants as outcome

-- the items of lists
pub choice_listed : (hs : List Hole) (values : List ℕ) → items_of (choice_list hs values) ≡ choice_data hs values
choice_listed [] values = refl
choice_listed (h ∷ hs) [] = refl
choice_listed (h ∷ hs) (value ∷ values) = ap (json.item (hole_data h.name value)) (choice_listed hs values)

pub tries_listed : (hs : List Hole) (xs : List Tried) → items_of (map (tried_data hs) xs) ≡ tries_data hs xs
tries_listed hs [] = refl
tries_listed hs (x ∷ xs) = ap (json.item (tried_data hs x)) (tries_listed hs xs)

-- one item more is pushed
pub one_item_more :
    (hs : List Hole) (front : List Tried) (x : Tried) (before after : List Value) (v : Value) → map view before ≡ map (tried_data hs) front
    → after ≡ before ++ v ∷ [] → view v ≡ tried_data hs x → map view after ≡ map (tried_data hs) (front ++ x ∷ [])
one_item_more hs front x before after v so_far is here =
    ap (map view) is ∙ map-append view before (v ∷ []) ∙ ap (λ ds. ds ++ view v ∷ []) so_far ∙ ap (λ d. map (tried_data hs) front ++ d ∷ []) here
    ∙ sym (map-append (tried_data hs) front (x ∷ []))

-- no number stands in the line, so no number with a point
no_choice_floats : (hs : List Hole) (values : List ℕ) → items_have_float (choice_data hs values) ≡ false
no_choice_floats [] values = refl
no_choice_floats (h ∷ hs) [] = refl
no_choice_floats (h ∷ hs) (value ∷ values) = no_choice_floats hs values

no_unsafe_float : (name run : List ℕ) → has_float (unsafe_data name run) ≡ false
no_unsafe_float name run = ap (λ b. b || false) (no_text_floats (text_lines run))

no_outcome_float : (o : Outcome) (values : json.Data) → has_float values ≡ false → has_float (outcome_data o values) ≡ false
no_outcome_float outcome.Long values plain = ap (λ b. b || false) plain
no_outcome_float (outcome.Refused e) values plain = ap (λ b. b || false) plain
no_outcome_float outcome.Empty values plain = ap (λ b. b || false) plain
no_outcome_float (outcome.SampleUnknown s) values plain = ap (λ b. b || (has_float values || false)) (no_unknown_sample_float s) ∙ ap (λ b. b || false) plain
no_outcome_float (outcome.Unsafe name run) values plain = ap (λ b. b || (has_float values || false)) (no_unsafe_float name run) ∙ ap (λ b. b || false) plain
no_outcome_float (outcome.Unknown name v) values plain = ap (λ b. b || (has_float values || false)) (no_unknown_verdict_float name v)
    ∙ ap (λ b. b || false) plain
no_outcome_float (outcome.Safe certificate) values plain = ap (λ b. b || false) plain

no_tries_floats : (hs : List Hole) (xs : List Tried) → items_have_float (tries_data hs xs) ≡ false
no_tries_floats hs [] = refl
no_tries_floats hs (x ∷ xs) =
    ap (λ b. b || items_have_float (tries_data hs xs)) (no_outcome_float x.outcome (json.array (choice_data hs x.values)) (no_choice_floats hs x.values))
    ∙ no_tries_floats hs xs

pub no_floats : (t : Template) (end : SearchEnd) → has_float (search_data t end) ≡ false
no_floats t end = ap (λ b. b || false) (no_tries_floats t.holes end.tried)

-- the line is read back
choice_read : (hs : List Hole) (values : List ℕ) → AreRead (choice_data hs values) 1
choice_read [] values = none_read 1
choice_read (h ∷ hs) [] = none_read 1
choice_read (h ∷ hs) (value ∷ values) =
    let texts = h.name ∷ decimal value ∷ [] in
    item_read (hole_data h.name value) (choice_data hs values) 1 (array_read (texts_data texts) 0 (texts_read texts 0)) (choice_read hs values)

unsafe_read : (name run : List ℕ) → IsRead (unsafe_data name run) 2
unsafe_read name run =
    let lines = texts_data (text_lines run) in
    let second = array_read lines 0 (texts_read (text_lines run) 0) in
    let low = second.shallow in
    let first = json.string name in
    let last = verdict_member (codes "unsafe") in
    let one = json.member (codes "name") first json.no_members in
    let begun : of_members (members_outline (json.member (codes "name") first (json.member (codes "run") (json.array lines) last))) json.no_members ≡ of_members
    (members_outline (json.member (codes "run") (json.array lines) last)) one = refl in
    record {
      numbers = (tt, (second.numbers, (tt, tt)));
      shallow = omega arith;
      same = object_same (json.member (codes "name") first (json.member (codes "run") (json.array lines) last))
          (begun ∙ member_step (codes "run") (json.array lines) 1 last one second);
    }

-- an outcome without a member in front of the values, and with one whose key comes before theirs
plain_read : (word : List ℕ) (values : json.Data) → IsRead values 2 → IsRead (json.object (json.member (codes "values") values (verdict_member word))) 3
plain_read word values is =
    let low = is.shallow in
    record {
      numbers = (is.numbers, (tt, tt));
      shallow = omega arith;
      same = object_same (json.member (codes "values") values (verdict_member word))
          (member_step (codes "values") values 2 (verdict_member word) json.no_members is);
    }

fault_read : (text : List ℕ) (word : List ℕ) (values : json.Data) → IsRead values 2
    → IsRead (json.object (json.member (codes "fault") (json.string text) (json.member (codes "values") values (verdict_member word)))) 3
fault_read text word values is =
    let low = is.shallow in
    let rest = json.member (codes "values") values (verdict_member word) in
    let one = json.member (codes "fault") (json.string text) json.no_members in
    let begun : of_members (members_outline (json.member (codes "fault") (json.string text) rest)) json.no_members ≡ of_members (members_outline rest) one =
    refl in
    record {
      numbers = (tt, (is.numbers, (tt, tt)));
      shallow = omega arith;
      same = object_same (json.member (codes "fault") (json.string text) rest) (begun ∙ member_step (codes "values") values 2 (verdict_member word) one is);
    }

parameters_read : (d : json.Data) (word : List ℕ) (values : json.Data) → IsRead d 2 → IsRead values 2
    → IsRead (json.object (json.member (codes "parameters") d (json.member (codes "values") values (verdict_member word)))) 3
parameters_read d word values first is =
    let low = is.shallow in
    let lows = first.shallow in
    let rest = json.member (codes "values") values (verdict_member word) in
    let one = json.member (codes "parameters") d json.no_members in
    record {
      numbers = (first.numbers, (is.numbers, (tt, tt)));
      shallow = omega arith;
      same = object_same (json.member (codes "parameters") d rest)
          (member_step (codes "parameters") d 2 rest json.no_members first ∙ member_step (codes "values") values 2 (verdict_member word) one is);
    }

pattern_read : (d : json.Data) (word : List ℕ) (values : json.Data) → IsRead d 2 → IsRead values 2
    → IsRead (json.object (json.member (codes "pattern") d (json.member (codes "values") values (verdict_member word)))) 3
pattern_read d word values first is =
    let low = is.shallow in
    let lows = first.shallow in
    let rest = json.member (codes "values") values (verdict_member word) in
    let one = json.member (codes "pattern") d json.no_members in
    record {
      numbers = (first.numbers, (is.numbers, (tt, tt)));
      shallow = omega arith;
      same = object_same (json.member (codes "pattern") d rest)
          (member_step (codes "pattern") d 2 rest json.no_members first ∙ member_step (codes "values") values 2 (verdict_member word) one is);
    }

outcome_read : (o : Outcome) (values : json.Data) → IsRead values 2 → IsRead (outcome_data o values) 3
outcome_read outcome.Long values is = plain_read (codes "long") values is
outcome_read (outcome.Refused e) values is = fault_read (file_fault_text e) (codes "refused") values is
outcome_read outcome.Empty values is = plain_read (codes "no parameters") values is
outcome_read (outcome.SampleUnknown s) values is = parameters_read (unknown_sample_data s) (codes "unknown") values (unknown_sample_read s) is
outcome_read (outcome.Unsafe name run) values is = pattern_read (unsafe_data name run) (codes "unsafe") values (unsafe_read name run) is
outcome_read (outcome.Unknown name v) values is = pattern_read (unknown_verdict_data name v) (codes "unknown") values (unknown_verdict_read name v) is
outcome_read (outcome.Safe certificate) values is = plain_read (codes "safe") values is

tries_read : (hs : List Hole) (xs : List Tried) → AreRead (tries_data hs xs) 3
tries_read hs [] = none_read 3
tries_read hs (x ∷ xs) =
    let values = array_read (choice_data hs x.values) 1 (choice_read hs x.values) in
    item_read (tried_data hs x) (tries_data hs xs) 3 (outcome_read x.outcome (json.array (choice_data hs x.values)) values) (tries_read hs xs)

whole_read : (t : Template) (end : SearchEnd) → IsRead (search_data t end) 5
whole_read t end =
    let tried = json.array (tries_data t.holes end.tried) in
    let last = verdict_member (found_word end.found) in
    let listed = array_read (tries_data t.holes end.tried) 3 (tries_read t.holes end.tried) in
    let low = listed.shallow in
    record {
      numbers = (listed.numbers, (tt, tt));
      shallow = omega arith;
      same = object_same (json.member (codes "tried") tried last) (member_step (codes "tried") tried 4 last json.no_members listed);
    }

pub searches_read : SearchIsRead
searches_read t end = read_back (search_data t end) 5 (omega arith) (whole_read t end)
