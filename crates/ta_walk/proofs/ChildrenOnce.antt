-- the children of a word are distinct
use Rattle.ta_walk.proofs.Common.{inl, inr, ℕ, ◌-◌, ◌^◌, List, ◌++◌, length, map, filter, distinct_append, in_append, Automaton, Pattern, Distinct}
use Rattle.ta_walk.proofs.Common.{range_with_len, Element, children, is_complete, is_ready, is_standing, may_rise}
use Rattle.ta_words.specs.declared.element.Element.TheVariants.{Event, Rise, Fall}
use Rattle.ta_base.proofs.Each.{distinct_unless}
use Rattle.ta_base.proofs.Ranges.{in_passed, passed_distinct}

pub children_once : (a : Automaton) (p : Pattern) (pairs : List (ℕ × ℕ)) (start : ℕ) (past : List Element) → Distinct (children a p pairs start past)
unfolding children
children_once a p pairs start past =
    let events = map Event (filter (is_ready p past) (range_with_len 0 (length p.events))) in
    let rises = map Rise (filter (may_rise pairs past) (range_with_len 0 (length a.rise))) in
    let falls = map Fall (filter (is_standing a start past) (range_with_len 1 (2 ^ length a.fall - 1))) in
    let first : Distinct events = passed_distinct Event (is_ready p past) 0 (length p.events) (λ x y e. cc) in
    let second : Distinct rises = passed_distinct Rise (may_rise pairs past) 0 (length a.rise) (λ x y e. cc) in
    let third : Distinct falls = passed_distinct Fall (is_standing a start past) 1 (2 ^ length a.fall - 1) (λ x y e. cc) in
    let later : Distinct (rises ++ falls) = distinct_append rises falls second third (λ e h g.
    let r = (in_passed Rise (may_rise pairs past) 0 (length a.rise) e h).1 in
    let f = (in_passed Fall (is_standing a start past) 1 (2 ^ length a.fall - 1) e g).1 in
    absurd (cc)) in
    distinct_unless (is_complete p past) (events ++ (rises ++ falls)) (distinct_append events (rises ++ falls) first later (λ e h g.
    let v = (in_passed Event (is_ready p past) 0 (length p.events) e h).1 in
    elim (in_append e rises falls g) [
      | inl l ↦ (let r = (in_passed Rise (may_rise pairs past) 0 (length a.rise) e l).1 in absurd (cc))
      | inr l ↦ (let f = (in_passed Fall (is_standing a start past) 1 (2 ^ length a.fall - 1) e l).1 in absurd (cc))
    ]))
