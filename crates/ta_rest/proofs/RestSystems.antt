-- The numbers of the rows of rest are in range, so each word of rest has a system.
use Rattle.ta_rest.proofs.Common.{◌≡◌, ℕ, ◌≤◌, ◌^◌, Bool, List, [], length, map, filter, cond, not, range_with_len, slice_get, Some, Automaton, Pattern}
use Rattle.ta_rest.proofs.Common.{Element, has_rise, is_complete, opposite, negated, counter_row, guard_rows, word_rows, meanings, end_rows, must_be_left}
use Rattle.ta_rest.proofs.Common.{rest_rows, rest_search, File, pattern_within, BoundsWithin}
use Rattle.std.proofs.lemmas.Bool.{cond_both}
use Rattle.ta_base.proofs.Each.{each_append, each_map_all}
use Rattle.ta_linear.specs.declared.row.System.{System}
use Rattle.ta_encode.specs.Code.{SystemAt}
use Rattle.ta_encode.specs.Inside.Lines.{SmallCondition, SmallEvents}
use Rattle.ta_encode.specs.Search.{Pending}
use Rattle.ta_encode.proofs.Drafts.{events_small, start_small as small_at_start}
use Rattle.ta_encode.proofs.SystemsExist.{AllMild, Mild, counter_mild, negated_rises_mild, opposite_mild, system_exists, word_mild}

end_mild : (a : Automaton) (p : Pattern) (start : ℕ) (past : List Element) → AllMild 1000000001 (length (meanings a p start past)) (end_rows a p start past)
unfolding end_rows
end_mild a p start past =
    let ms = meanings a p start past in
    let n = length ms in
    let test : ℕ → Bool = λ i. not (has_rise past i) in
    let ls = filter (must_be_left a p start past) (range_with_len 0 (length a.locations)) in
    each_append (Mild 1000000001 n) (map negated (guard_rows a ms test 0 a.rise)) (map (λ (l : ℕ). opposite (counter_row a ms l)) ls)
    (negated_rises_mild a ms test)
    (each_map_all (Mild 1000000001 n) (λ (l : ℕ). opposite (counter_row a ms l)) ls
    (λ l. opposite_mild 1000000001 n (counter_row a ms l) (counter_mild a ms l)))

rest_mild : (a : Automaton) (p : Pattern) → SmallCondition p.start → SmallEvents p → (start : ℕ) (past : List Element)
    → AllMild 1000000001 (length (meanings a p start past)) (rest_rows a p start past)
unfolding rest_rows
rest_mild a p start_small events start past =
    let n = length (meanings a p start past) in
    each_append (Mild 1000000001 n) (word_rows a p start past) (cond (is_complete p past) (end_rows a p start past) [])
    (word_mild a p start_small events start past)
    (cond_both (is_complete p past) (end_rows a p start past) [] (AllMild 1000000001 n) (λ _. end_mild a p start past) (λ _. tt))

-- each word of rest of a pattern of a file, with few enough unknowns, has a system
pub rest_word_system : (file : File) (number : ℕ) (p : Pattern) (w : Pending Element) → slice_get file.patterns number ≡ Some p
    → length (meanings file.automaton p w.start w.past) ≤ 2 ^ 32 → BoundsWithin (length (meanings file.automaton p w.start w.past)) w.bounds → (system : System)
    × SystemAt (rest_search file.automaton p) w system
rest_word_system file number p w at few bounds =
    let a = file.automaton in
    let over = pattern_within file number p at in
    system_exists (rest_search a p) w few (rest_mild a p (small_at_start a p over) (events_small a p over) w.start w.past) bounds
