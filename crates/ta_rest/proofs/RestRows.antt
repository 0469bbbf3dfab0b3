-- words of rest are words under no pairs, and the rows of their ends
use Rattle.ta_rest.proofs.Common.{IsNarrow, LinearRow, counter_row, guard_rows, negated, opposite, word_rows}
use Rattle.ta_rest.proofs.ClaimCommon.{◌≡◌, inl, inr, ℕ, ◌≤◌, List, [], ◌∷◌, ◌++◌, length, map, cond, Bool, true, false, not, Option, Some, None, arith, sym}
use Rattle.ta_rest.proofs.ClaimCommon.{ap, ◌∙◌, subst, length-append, filter, Automaton, Pattern, has_bit, range_with_len, Element, LegalWord, has_rise}
use Rattle.ta_rest.proofs.ClaimCommon.{is_complete, pattern_search, Comes, Pending, Extend, AnswerIs, end_rows, must_be_left, rest_rows, rest_search, count_few}
use Rattle.ta_rest.proofs.ClaimCommon.{filter_numbers_same, System, AreRowsOf, SystemAt, meanings, PatternOver, few_rows, guards_few, refl}
use Rattle.std.proofs.lemmas.List.{length-map}
use Rattle.ta_encode.specs.declared.ending.WordEnd.{WordEnd}
use Rattle.ta_encode.specs.Ends.{EndedSystem, ended_rows}
use Rattle.ta_encode.specs.System.{bound_row}
use Rattle.ta_encode.proofs.Asking.{answers_moved}
use Rattle.ta_encode.proofs.Ended.{guards_same}
use Rattle.ta_rest.specs.RestEnds.{IsRestEnd}

-- the search of rest comes to the words of the pattern under no pairs
pub rest_comes : (a : Automaton) (p : Pattern) (start : ℕ) (past : List Element) → Comes (rest_search a p) start past → Comes (pattern_search a p []) start past
rest_comes a p start [] c = c
rest_comes a p start (e ∷ past) (inl b) = inl b
rest_comes a p start (e ∷ past) (inr c) = inr
    (answers_moved (rest_search a p) (pattern_search a p []) start past e (λ n. refl) c.0, rest_comes a p start past c.1)

-- and the same elements answer them
pub rest_answers : (a : Automaton) (p : Pattern) (start : ℕ) (past : List Element) (k : ℕ) (r : Option Element)
    → AnswerIs (pattern_search a p []) start past Extend k r → AnswerIs (rest_search a p) start past Extend k r
rest_answers a p start past k None h = h
rest_answers a p start past k (Some e) h = record { is = h.is; more = h.more; small = h.small }

-- the rows that are asked for at a word's end are those of rest
ended_are : (a : Automaton) (p : Pattern) (start : ℕ) (past : List Element) (end : Option WordEnd) → IsRestEnd a p start past end
    → ended_rows a (meanings a p start past) end ≡ cond (is_complete p past) (end_rows a p start past) []
unfolding end_rows
ended_are a p start past None going = sym (ap (λ (b : Bool). cond b (end_rows a p start past) []) going)
ended_are a p start past (Some end) is =
    let ms = meanings a p start past in
    let row : ℕ → LinearRow = λ l. opposite (counter_row a ms l) in
    let guards = guards_same a ms (has_bit end.failing) (λ i. not (has_rise past i)) 0 (length a.rise) a.rise is.1.failing (omega arith) in
    let places = filter_numbers_same (λ l. not (has_bit end.inhabited l)) (must_be_left a p start past) 0 (length a.locations) (length a.locations) is.1.left
    (omega arith) in
    ap (λ (rs : List LinearRow). map negated rs ++ map row (filter (λ l. not (has_bit end.inhabited l)) (range_with_len 0 (length a.locations)))) guards
    ∙ ap (λ (ls : List ℕ). map negated (guard_rows a ms (λ i. not (has_rise past i)) 0 a.rise) ++ map row ls) places
    ∙ sym (ap (λ (b : Bool). cond b (end_rows a p start past) []) is.0)

-- the system that is written of a word is that of rest
pub rest_system : (a : Automaton) (p : Pattern) (w : Pending Element) (end : Option WordEnd) (s : System) → IsRestEnd a p w.start w.past end
    → EndedSystem a p w.start w.past end w.bounds s → SystemAt (rest_search a p) w s
unfolding rest_rows
rest_system a p w end s is ended = record {
  unknowns = ended.unknowns;
  rows = subst (λ (ls : List LinearRow). AreRowsOf ((word_rows a p w.start w.past ++ ls) ++ map bound_row w.bounds) s.rows)
      (ended_are a p w.start w.past end is) ended.rows;
}

end_few : (a : Automaton) → IsNarrow a → (p : Pattern) (start : ℕ) (past : List Element) → length (end_rows a p start past) ≤ 48
unfolding end_rows
end_few a narrow p start past =
    let ms = meanings a p start past in
    let guards = guard_rows a ms (λ i. not (has_rise past i)) 0 a.rise in
    let places = filter (must_be_left a p start past) (range_with_len 0 (length a.locations)) in
    let row : ℕ → LinearRow = λ l. opposite (counter_row a ms l) in
    let rises = narrow.rise in
    let locations = narrow.locations in
    omega (
      arith,
      length-append (map negated guards) (map row places),
      length-map guards negated,
      length-map places row,
      guards_few a ms (λ i. not (has_rise past i)) 0 a.rise,
      count_few (must_be_left a p start past) (length a.locations),
    )

either_few : (b : Bool) (rows : List LinearRow) → length rows ≤ 48 → length (cond b rows []) ≤ 48
either_few true rows h = h
either_few false rows h = omega arith

-- its rows, but for the bounds
pub rest_few : (a : Automaton) → IsNarrow a → (p : Pattern) (start : ℕ) (past : List Element) → PatternOver a p → LegalWord a p start past
    → length (rest_rows a p start past) ≤ 2640
unfolding rest_rows
rest_few a narrow p start past over legal =
    let ends = cond (is_complete p past) (end_rows a p start past) [] in
    omega (
      arith,
      length-append (word_rows a p start past) ends,
      few_rows a narrow p start past over legal,
      either_few (is_complete p past) (end_rows a p start past)
          (end_few a narrow p start past),
    )
