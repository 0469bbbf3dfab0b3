-- children of a word
use Rattle.ta_words.proofs.Common.{◌≡◌, ℕ, ◌-◌, ◌^◌, ◌<◌, ◌≤◌, List, [], ◌++◌, map, length, true, false, arith, sym, subst, filter, In-filter, In-left, In-map}
use Rattle.ta_words.proofs.Common.{In-right, In-numbers, Automaton, Pattern, range_with_len, In, Element, Event, Rise, Fall, is_complete, is_ready, is_standing}
use Rattle.ta_words.proofs.Common.{may_rise, children, cond-false}

pub event_child : (a : Automaton) (p : Pattern) (pairs : List (ℕ × ℕ)) (start : ℕ) (past : List Element) (e : ℕ) → is_complete p past ≡ false
    → e < length p.events → is_ready p past e ≡ true → In (Event e) (children a p pairs start past)
unfolding children
event_child a p pairs start past e more b ready =
    subst (In (Event e)) (sym (cond-false (is_complete p past) [] _ more))
    (In-left (Event e) _ _ (In-map Event e _ (In-filter (is_ready p past) e _ ready (In-numbers e 0 (length p.events) (omega arith) (omega arith)))))

pub rise_child : (a : Automaton) (p : Pattern) (pairs : List (ℕ × ℕ)) (start : ℕ) (past : List Element) (i : ℕ) → is_complete p past ≡ false → i < length a.rise
    → may_rise pairs past i ≡ true → In (Rise i) (children a p pairs start past)
unfolding children
rise_child a p pairs start past i more b new =
    subst (In (Rise i)) (sym (cond-false (is_complete p past) [] _ more))
    (In-right (Rise i) _ _ (In-left (Rise i) _ _
    (In-map Rise i _ (In-filter (may_rise pairs past) i _ new (In-numbers i 0 (length a.rise) (omega arith) (omega arith))))))

pub fall_child : (a : Automaton) (p : Pattern) (pairs : List (ℕ × ℕ)) (start : ℕ) (past : List Element) (mask : ℕ) → is_complete p past ≡ false → 1 ≤ mask
    → mask < 2 ^ length a.fall → is_standing a start past mask ≡ true → In (Fall mask) (children a p pairs start past)
unfolding children
fall_child a p pairs start past mask more low high standing =
    subst (In (Fall mask)) (sym (cond-false (is_complete p past) [] _ more))
    (In-right (Fall mask) (map Event (filter (is_ready p past) (range_with_len 0 (length p.events))))
    (map Rise (filter (may_rise pairs past) (range_with_len 0 (length a.rise)))
    ++ map Fall (filter (is_standing a start past) (range_with_len 1 (2 ^ length a.fall - 1))))
    (In-right (Fall mask) (map Rise (filter (may_rise pairs past) (range_with_len 0 (length a.rise))))
    (map Fall (filter (is_standing a start past) (range_with_len 1 (2 ^ length a.fall - 1))))
    (In-map Fall mask _ (In-filter (is_standing a start past) mask _ standing (In-numbers mask 1 (2 ^ length a.fall - 1) low (omega arith))))))
