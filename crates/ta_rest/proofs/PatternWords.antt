-- the words of a pattern
use Rattle.ta_rest.proofs.Common.{IsNarrow, prefix_fewer}
use Rattle.ta_rest.proofs.ClaimCommon.{◌≡◌, inl, inr, ℕ, zero, suc, ◌+◌, ◌-◌, ◌^◌, ◌<◌, ◌≤◌, List, [], ◌∷◌, ◌++◌, length, map, slice_get, Some, None, arith}
use Rattle.ta_rest.proofs.ClaimCommon.{sym, ap, ◌∙◌, refl, subst, length-append, lit<, filter, slice_get-map, slice_get_within, In, range_with_len, numbers_end}
use Rattle.ta_rest.proofs.ClaimCommon.{slice_numbers, Automaton, Pattern, Element, Event, Rise, Fall, LegalWord, LegalUnder, children, is_complete, is_ready}
use Rattle.ta_rest.proofs.ClaimCommon.{is_standing, may_rise, under_none, passed_length, Pending, BeginsAtWord, Comes, all_starts, empty_word, pattern_search}
use Rattle.ta_rest.proofs.ClaimCommon.{Extend, Option, AnswerIs, PatternOver}
use Rattle.std.proofs.Math.Nat.{pow-le-pow_right}
use Rattle.ta_encode.proofs.Asking.{answers_in, children_answer}
use Rattle.ta_base.proofs.Lists.{unless_most}

-- a word has few children
children_most : (a : Automaton) → IsNarrow a → (p : Pattern) (pairs : List (ℕ × ℕ)) (start : ℕ) (past : List Element) → PatternOver a p
    → length (children a p pairs start past) ≤ 87
unfolding children
children_most a narrow p pairs start past over =
    let events = map Event (filter (is_ready p past) (range_with_len 0 (length p.events))) in
    let rises = map Rise (filter (may_rise pairs past) (range_with_len 0 (length a.rise))) in
    let falls = map Fall (filter (is_standing a start past) (range_with_len 1 (2 ^ length a.fall - 1))) in
    let two : 0 < 2 = omega arith in
    let power : 2 ^ length a.fall ≤ 2 ^ 6 = pow-le-pow_right two narrow.fall in
    let first = passed_length Event (is_ready p past) 0 (length p.events) in
    let second = passed_length Rise (may_rise pairs past) 0 (length a.rise) in
    let third = passed_length Fall (is_standing a start past) 1 (2 ^ length a.fall - 1) in
    let most : length events ≤ 8 = omega (arith, over.events_limit) in
    let more : length rises ≤ 16 = omega (arith, narrow.rise) in
    let last : length falls ≤ 63 = omega arith in
    unless_most (is_complete p past) (events ++ (rises ++ falls)) 87 (omega (arith, length-append events (rises ++ falls), length-append rises falls))

-- the number of a child is small
child_below : (a : Automaton) → IsNarrow a → (p : Pattern) (pairs : List (ℕ × ℕ)) (start : ℕ) (past : List Element) (k : ℕ) (e : Element) → PatternOver a p
    → slice_get (children a p pairs start past) k ≡ Some e → k < 87
child_below a narrow p pairs start past k e over at = omega
    (arith, children_most a narrow p pairs start past over, slice_get_within (children a p pairs start past) k e at)

-- the word of a start set, by its number
pub start_at : (a : Automaton) (number : ℕ) → number < 2 ^ length a.fall → slice_get (all_starts a) number ≡ Some (empty_word number)
start_at a number h =
    slice_get-map empty_word (range_with_len 0 (2 ^ length a.fall)) number
    ∙ rw (slice_numbers 0 (2 ^ length a.fall) number h) (ap (λ (k : ℕ). Some (empty_word k)) (let e : 0 + number ≡ number = omega arith in e))

pub start_none : (a : Automaton) (number : ℕ) → 2 ^ length a.fall ≤ number → slice_get (all_starts a) number ≡ None
start_none a number h = slice_get-map empty_word (range_with_len 0 (2 ^ length a.fall)) number ∙ rw (numbers_end 0 (2 ^ length a.fall) number h) refl

-- what is known of a word with which the search of a pattern begins
record IsStart (a : Automaton) (w : Pending Element) : Type 0 where
  pub start : w.start < 2 ^ length a.fall
  pub past : w.past ≡ []

starts_are : (a : Automaton) (k n : ℕ) (w : Pending Element) → k + n ≤ 2 ^ length a.fall → In w (map empty_word (range_with_len k n)) → IsStart a w
starts_are a k zero w h is = absurd is
starts_are a k (suc n) w h (inl same) = record {
  start = subst (λ (v : Pending Element). v.start < 2 ^ length a.fall) (sym same) (let below : k < 2 ^ length a.fall = omega arith in below);
  past = ap
      (λ (v : Pending Element). v.past) same;
}
starts_are a k (suc n) w h (inr is) = starts_are a (k + 1) n w (omega arith) is

-- a word to which the search of a pattern comes under pairs is legal under them, and legal, and its start set is one of fall guards
pub record IsLegal (a : Automaton) (p : Pattern) (pairs : List (ℕ × ℕ)) (start : ℕ) (past : List Element) : Type 0 where
  pub start_is : start < 2 ^ length a.fall
  pub under : LegalUnder a p pairs start past
  pub legal : LegalWord a p start past

began : (a : Automaton) (p : Pattern) (pairs : List (ℕ × ℕ)) (start : ℕ) (past : List Element) → BeginsAtWord (pattern_search a p pairs) start past
    → IsLegal a p pairs start past
began a p pairs start past b =
    let is = starts_are a 0 (2 ^ length a.fall) b.0 (omega arith) b.1 in
    let none : [] ≡ past = sym is.past ∙ b.3 in
    record {
      start_is = subst (λ (k : ℕ). k < 2 ^ length a.fall) b.2 is.start;
      under = subst (LegalUnder a p pairs start) none tt;
      legal = subst (LegalWord a p start) none tt;
    }

pub comes_legal : (a : Automaton) (p : Pattern) (pairs : List (ℕ × ℕ)) (start : ℕ) (past : List Element) → Comes (pattern_search a p pairs) start past
    → IsLegal a p pairs start past
comes_legal a p pairs start [] c = began a p pairs start [] c
comes_legal a p pairs start (e ∷ past) (inl b) = began a p pairs start (e ∷ past) b
comes_legal a p pairs start (e ∷ past) (inr c) =
    let before = comes_legal a p pairs start past c.1 in
    let child = answers_in (pattern_search a p pairs) start past (is_complete p past) (children a p pairs start past) (λ n. refl) c.0.0 e c.0.1 in
    record { start_is = before.start_is; under = (child, before.under); legal = (under_none a p pairs start past e child, before.legal) }

-- the child of a number answers what a word asks
pub child_answers : (a : Automaton) → IsNarrow a → (p : Pattern) (pairs : List (ℕ × ℕ)) (start : ℕ) (past : List Element) (k : ℕ) (r : Option Element)
    → PatternOver a p
    → r ≡ slice_get (children a p pairs start past) k → AnswerIs (pattern_search a p pairs) start past Extend k r
child_answers a narrow p pairs start past k None over is = ap (λ (es : List Element). slice_get es k) (children_answer a p pairs start past) ∙ sym is
child_answers a narrow p pairs start past k (Some e) over is =
    let few = child_below a narrow p pairs start past k e over (sym is) in
    let large : 87 < 2 ^ 31 = lit< tt in
    record {
      is = ap (λ (es : List Element). slice_get es k) (children_answer a p pairs start past) ∙ sym is;
      more = prefix_fewer a p start past (e ∷ []);
      small = omega arith;
    }
