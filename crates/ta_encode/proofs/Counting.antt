-- how many unknowns a word has
use Rattle.ta_encode.proofs.Common.{◌≡◌, ℕ, ◌+◌, ◌*◌, List, ◌∷◌, ◌++◌, length, map, not, slice_get, arith, ap, ◌∙◌, length-append, filter, length-map, has_bit}
use Rattle.ta_encode.proofs.Common.{range_with_len, Automaton, Pattern, Element, Event, Rise, Fall, may_fire, allowed_rules, Parameter, Start, Count, Single}
use Rattle.ta_encode.proofs.Common.{meanings, start_meanings, start_locations, counts_after, singles_after, filter_agree, length-range_with_len}

pub start_length : (a : Automaton) (p : Pattern) → length (start_meanings a p) ≡ length a.parameters + length (filter (λ l. not (has_bit p.empty l)) a.initial)
unfolding start_meanings
start_length a p = omega (
  arith,
  length-append (map Parameter (range_with_len 0 (length a.parameters))) (map Start (start_locations a p)),
  length-map
      (range_with_len 0 (length a.parameters)) Parameter,
  length-map (start_locations a p) Start,
  length-range_with_len 0 (length a.parameters),
)

allowed_length : (a : Automaton) (p : Pattern) (start : ℕ) (past : List Element) (allowed rules count : ℕ)
    → ((r : ℕ) → has_bit allowed r ≡ may_fire a p start past (slice_get a.rules r)) → rules ≡ length a.rules
    → count ≡ length (filter (has_bit allowed) (range_with_len 0 rules)) → count ≡ length (allowed_rules a p start past)
unfolding allowed_rules
allowed_length a p start past allowed rules count h e f =
    f ∙ ap (λ n. length (filter (has_bit allowed) (range_with_len 0 n))) e
    ∙ ap length (filter_agree (has_bit allowed) (λ r. may_fire a p start past (slice_get a.rules r)) h (range_with_len 0 (length a.rules)))

pub event_length : (a : Automaton) (p : Pattern) (start : ℕ) (past : List Element) (x allowed rules count : ℕ)
    → ((r : ℕ) → has_bit allowed r ≡ may_fire a p start past (slice_get a.rules r)) → rules ≡ length a.rules
    → count ≡ length (filter (has_bit allowed) (range_with_len 0 rules))
    → length (meanings a p start (Event x ∷ past)) ≡ length (meanings a p start past) + count
unfolding meanings
event_length a p start past x allowed rules count h e f = omega (
  arith,
  length-append (meanings a p start past) (counts_after a p start past),
  length-map (allowed_rules a p start past) (λ r. Count (length past) r),
  allowed_length a p start past allowed rules count h e f,
)

pub rise_length : (a : Automaton) (p : Pattern) (start : ℕ) (past : List Element) (x allowed rules count : ℕ)
    → ((r : ℕ) → has_bit allowed r ≡ may_fire a p start past (slice_get a.rules r)) → rules ≡ length a.rules
    → count ≡ length (filter (has_bit allowed) (range_with_len 0 rules))
    → length (meanings a p start (Rise x ∷ past)) ≡ length (meanings a p start past) + count
unfolding meanings
rise_length a p start past x allowed rules count h e f = omega (
  arith,
  length-append (meanings a p start past) (counts_after a p start past),
  length-map (allowed_rules a p start past) (λ r. Count (length past) r),
  allowed_length a p start past allowed rules count h e f,
)

pub fall_length : (a : Automaton) (p : Pattern) (start : ℕ) (past : List Element) (x allowed rules count : ℕ)
    → ((r : ℕ) → has_bit allowed r ≡ may_fire a p start past (slice_get a.rules r)) → rules ≡ length a.rules
    → count ≡ length (filter (has_bit allowed) (range_with_len 0 rules))
    → length (meanings a p start (Fall x ∷ past)) ≡ length (meanings a p start past) + 2 * count
unfolding meanings
fall_length a p start past x allowed rules count h e f =
    omega (
      arith,
      length-append (meanings a p start past ++ counts_after a p start past) (singles_after a p start past),
      length-append (meanings a p start past)
          (counts_after a p start past),
      length-map (allowed_rules a p start past) (λ r. Count (length past) r),
      length-map (allowed_rules a p start past)
          (λ r. Single (length past) r),
      allowed_length a p start past allowed rules count h e f,
    )
