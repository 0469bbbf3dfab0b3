-- The lines of values.
use Rattle.ta_replay.proofs.Common.{ℕ, ℤ, ◌+◌, ◌<◌, ◌≤◌, ◌≡◌, List, [], ◌∷◌, ◌++◌, length, map, refl, sym, ap, subst, ◌∙◌, Some, length-append, arith, get_or}
use Rattle.ta_replay.proofs.Common.{option_map, slice_get-map, slice_get_read, slice_get_within, each_append, each_push, slice_get_left, slice_get_right, Value}
use Rattle.ta_replay.proofs.Common.{RunFault, Slot, valued_line, value_lines, lines_text, ValueRead, ValueRefused, ValuesBegun, ValuesRead, ValuesStopped}
use Rattle.ta_replay.proofs.Common.{ValuesFault, slice_get}
use Rattle.ta_replay.specs.declared.fault.RunFault.TheVariants as fault
use Rattle.ta_replay.proofs.ListSteps.{read_more, read_both}

pub value_lines-nil : (asked : List Slot) → value_lines asked [] ≡ []
value_lines-nil [] = refl
value_lines-nil (s ∷ ss) = refl

-- one value more
pub value_lines_push : (asked : List Slot) (values : List ℤ) (slot : Slot) (v : ℤ) → slice_get asked (length values) ≡ Some slot
    → value_lines asked (values ++ v ∷ []) ≡ value_lines asked values ++ (valued_line slot.word slot.name v ∷ [])
value_lines_push [] values slot v e = cc
value_lines_push (s ∷ ss) [] slot v e = let same : s ≡ slot = cc in ap (λ xs. valued_line s.word s.name v ∷ xs) (value_lines-nil ss)
    ∙ ap (λ t. valued_line t.word t.name v ∷ []) same
value_lines_push (s ∷ ss) (w ∷ ws) slot v e = ap (λ xs. valued_line s.word s.name w ∷ xs) (value_lines_push ss ws slot v e)

-- fewer values than are asked for in the first part
pub value_lines_front : (asked more : List Slot) (values : List ℤ) → length values ≤ length asked
    → value_lines (asked ++ more) values ≡ value_lines asked values
value_lines_front [] more [] low = value_lines-nil more
value_lines_front [] more (v ∷ vs) low = absurd (omega arith)
value_lines_front (s ∷ ss) more [] low = refl
value_lines_front (s ∷ ss) more (v ∷ vs) low = ap (λ xs. valued_line s.word s.name v ∷ xs) (value_lines_front ss more vs (omega arith))

-- the values of both parts
pub value_lines-append : (asked more : List Slot) (values others : List ℤ) → length values ≡ length asked
    → value_lines (asked ++ more) (values ++ others) ≡ value_lines asked values ++ value_lines more others
value_lines-append [] more [] others all = refl
value_lines-append [] more (v ∷ vs) others all = absurd (omega arith)
value_lines-append (s ∷ ss) more [] others all = absurd (omega arith)
value_lines-append (s ∷ ss) more (v ∷ vs) others all = ap (λ xs. valued_line s.word s.name v ∷ xs) (value_lines-append ss more vs others (omega arith))

pub length-value_lines : (asked : List Slot) (values : List ℤ) → length values ≤ length asked → length (value_lines asked values) ≡ length values
length-value_lines [] [] low = refl
length-value_lines [] (v ∷ vs) low = absurd (omega arith)
length-value_lines (s ∷ ss) [] low = refl
length-value_lines (s ∷ ss) (v ∷ vs) low = let more = length-value_lines ss vs (omega arith) in omega arith

-- no value is read
pub values_none : (asked : List Slot) (bytes : List ℕ) → ValuesBegun asked bytes [] bytes
values_none asked bytes = record { numbers = tt; read = ap (λ ls. lines_text ls ++ bytes) (sym (value_lines-nil asked)) }

-- one value more is read
pub values_more : (asked : List Slot) (bytes rest behind : List ℕ) (values : List ℤ) (slot : Slot) (v : ℤ) → ValuesBegun asked bytes values rest
    → slice_get asked (length values) ≡ Some slot → ValueRead slot.word slot.name rest v behind → ValuesBegun asked bytes (values ++ v ∷ []) behind
values_more asked bytes rest behind values slot v begun next is = record {
  numbers = each_push Value values v begun.numbers is.number;
  read = read_more bytes rest (valued_line slot.word slot.name v) behind (value_lines asked values) begun.read is.read
      ∙ ap (λ ls. lines_text ls ++ behind) (sym (value_lines_push asked values slot v next));
}

-- the next value is refused
pub values_stop : (asked : List Slot) (bytes rest : List ℕ) (values : List ℤ) (slot : Slot) (first number : ℕ) (e : RunFault)
    → ValuesBegun asked bytes values rest → slice_get asked (length values) ≡ Some slot → number ≡ first + length values
    → ValueRefused slot.word slot.name rest number e → ValuesFault asked bytes first e
values_stop asked bytes rest values slot first number e begun next place refused =
    stopped e record {
      values = values;
      rest = rest;
      slot = slot;
      begun = begun;
      next = next;
      refused = subst (λ n. ValueRefused slot.word slot.name rest n e)
          place refused;
    }
  where
    stopped : (e : RunFault) → ValuesStopped asked bytes first e → ValuesFault asked bytes first e
    stopped fault.Memory s = tt
    stopped _ s = s

-- the slot of an item
slot_at : {X : Type 0} (f : X → Slot) (xs items : List X) (i n : ℕ) (x : X) → items ≡ xs → n ≡ i → i < length items → x ≡ get_or items i x
    → slice_get (map f xs) n ≡ Some (f x)
slot_at f xs items i n x same e within is = ap (λ ys. slice_get (map f ys) n) (sym same) ∙ ap (slice_get (map f items)) e ∙ slice_get-map f items i
    ∙ ap (option_map f) (slice_get_read items (length items) i x refl within is)

-- the value of the next item is read
pub value_step : {X : Type 0} (f : X → Slot) (xs items : List X) (i : ℕ) (x : X) (bytes rest behind name : List ℕ) (values : List ℤ) (v : ℤ)
    → ValuesBegun (map f xs) bytes values rest → items ≡ xs → length values ≡ i → i < length items → x ≡ get_or items i x → name ≡ (f x).name
    → ValueRead (f x).word name rest v behind → ValuesBegun (map f xs) bytes (values ++ v ∷ []) behind
value_step f xs items i x bytes rest behind name values v begun same count within is called read =
    values_more (map f xs) bytes rest behind values (f x) v begun (slot_at f xs items i (length values) x same count within is)
    (subst (λ n. ValueRead (f x).word n rest v behind) called read)

-- the value of the next item is refused
pub value_stop : {X : Type 0} (f : X → Slot) (xs items : List X) (i : ℕ) (x : X) (bytes rest name : List ℕ) (values : List ℤ) (first number : ℕ) (e : RunFault)
    → ValuesBegun (map f xs) bytes values rest → items ≡ xs → length values ≡ i → i < length items → x ≡ get_or items i x → name ≡ (f x).name
    → number ≡ first + length values → ValueRefused (f x).word name rest number e → ValuesFault (map f xs) bytes first e
value_stop f xs items i x bytes rest name values first number e begun same count within is called place refused =
    values_stop (map f xs) bytes rest values (f x) first number e begun (slot_at f xs items i (length values) x same count within is) place
    (subst (λ n. ValueRefused (f x).word n rest number e) called refused)

-- the values of the first part stop
values_stopped_left : (ss ts : List Slot) (bytes : List ℕ) (first : ℕ) (e : RunFault) → ValuesStopped ss bytes first e → ValuesStopped (ss ++ ts) bytes first e
values_stopped_left ss ts bytes first e s =
    let within = slice_get_within ss (length s.values) s.slot s.next in
    record {
      values = s.values;
      rest = s.rest;
      slot = s.slot;
      begun = record {
        numbers = s.begun.numbers;
        read = s.begun.read
            ∙ ap (λ ls. lines_text ls ++ s.rest) (sym (value_lines_front ss ts s.values (omega arith)));
      };
      next = slice_get_left ss ts (length s.values) s.slot s.next;
      refused = s.refused;
    }

pub values_left : (ss ts : List Slot) (bytes : List ℕ) (first : ℕ) (e : RunFault) → ValuesFault ss bytes first e → ValuesFault (ss ++ ts) bytes first e
values_left ss ts bytes first fault.Memory s = tt
values_left ss ts bytes first e s = values_stopped_left ss ts bytes first e s

-- values behind values
values_join : (ss ts : List Slot) (bytes mid rest : List ℕ) (values others : List ℤ) → ValuesRead ss bytes values mid → ValuesBegun ts mid others rest
    → ValuesBegun (ss ++ ts) bytes (values ++ others) rest
values_join ss ts bytes mid rest values others read begun = record {
  numbers = each_append Value values others read.begun.numbers begun.numbers;
  read = read_both bytes mid rest (value_lines ss values) (value_lines ts others) read.begun.read begun.read
      ∙ ap (λ ls. lines_text ls ++ rest) (sym (value_lines-append ss ts values others read.all));
}

-- the values of the second part stop
values_stopped_right : (ss ts : List Slot) (bytes mid : List ℕ) (values : List ℤ) (first next : ℕ) (e : RunFault) → ValuesRead ss bytes values mid
    → next ≡ first + length values → ValuesStopped ts mid next e → ValuesStopped (ss ++ ts) bytes first e
values_stopped_right ss ts bytes mid values first next e read place s =
    let count = length-append values s.values in
    let all = read.all in
    let at : next + length s.values ≡ first + length (values ++ s.values) = omega arith in
    record {
      values = values ++ s.values;
      rest = s.rest;
      slot = s.slot;
      begun = values_join ss ts bytes mid s.rest values s.values read s.begun;
      next = slice_get_right ss ts (length (values ++ s.values)) (length s.values) (omega arith) ∙ s.next;
      refused = subst (λ n. ValueRefused s.slot.word s.slot.name s.rest n e) at s.refused;
    }

pub values_right : (ss ts : List Slot) (bytes mid : List ℕ) (values : List ℤ) (first next : ℕ) (e : RunFault) → ValuesRead ss bytes values mid
    → next ≡ first + length values → ValuesFault ts mid next e → ValuesFault (ss ++ ts) bytes first e
values_right ss ts bytes mid values first next fault.Memory read place s = tt
values_right ss ts bytes mid values first next e read place s = values_stopped_right ss ts bytes mid values first next e read place s

-- the values of both parts are read
pub values_both : (ss ts : List Slot) (bytes mid rest : List ℕ) (values others : List ℤ) → ValuesRead ss bytes values mid → ValuesRead ts mid others rest
    → ValuesRead (ss ++ ts) bytes (values ++ others) rest
values_both ss ts bytes mid rest values others read more = record {
  begun = values_join ss ts bytes mid rest values others read more.begun;
  all = length-append values others ∙ ap (λ n. n + length others) read.all ∙ ap (λ n. length ss + n) more.all ∙ sym (length-append ss ts);
}
