-- firing a rule
use Rattle.ta_automaton.proofs.Common.{◌≡◌, inl, inr, ℕ, ◌+◌, ◌≤◌, pos, ◌+ℤ◌, ◌-ℤ◌, map, length, eqb, cond, false, arith, sym, ap, ◌∙◌, refl, slice_get, get_or}
use Rattle.ta_automaton.proofs.Common.{Some, List, ints, cases_lt, nat_tests, length-map, get_or_past, natural, pos_natural, coefficient, Rule, Automaton}
use Rattle.ta_automaton.proofs.Common.{Config, Step, MaskedHold, range_with_len, one_if}
use Rattle.ta_base.proofs.Ranges.{at_index, past_numbers}
use Rattle.ta_base.proofs.Totals.{natural-moved}
pub use Rattle.ta_automaton.specs.Places.{Whole}
use Rattle.ta_automaton.proofs.Thresholds.{updates_natural, updates_within, from_within, to_within}
use Rattle.ta_automaton.proofs.Moves.{Fits}
use Rattle.std.proofs.lemmas.List.FromFn.{length-range_with_len}

abbrev pub fire : Automaton → Rule → Config → Config
fire a rule c = record {
  parameters = c.parameters;
  shared = map (λ x. natural (pos (get_or c.shared x 0) +ℤ coefficient rule.updates x)) (range_with_len 0 (length a.shared));
  counters = map (λ l. natural ((pos (get_or c.counters l 0) +ℤ one_if rule.to l) -ℤ one_if rule.from l)) (range_with_len 0 (length a.locations));
}

pub fire_whole : (a : Automaton) (rule : Rule) (c : Config) → Whole a c → Whole a (fire a rule c)
fire_whole a rule c w = record {
  parameters = w.parameters;
  shared = length-map (range_with_len 0 (length a.shared)) _ ∙ length-range_with_len 0 (length a.shared);
  counters = length-map (range_with_len 0 (length a.locations)) _ ∙ length-range_with_len 0 (length a.locations);
}

pub fire_step : (a : Automaton) (r : ℕ) (rule : Rule) (c : Config) → slice_get a.rules r ≡ Some rule → Whole a c → MaskedHold rule.rise a.rise c
    → MaskedHold rule.fall a.fall c → 1 ≤ get_or c.counters rule.from 0 → Step a r c (fire a rule c)
fire_step a r rule c named w rise fall some = record {
  rule = rule;
  named = named;
  move = record {
    rise = rise;
    fall = fall;
    some = some;
    moved = λ l. elim (cases_lt l (length a.locations)) [
      | inl b ↦ ap (λ n. n + cond (eqb l rule.from) 1 0)
          (at_index (λ k. natural ((pos (get_or c.counters k 0) +ℤ one_if rule.to k) -ℤ one_if rule.from k)) (length a.locations) l b)
          ∙ natural-moved (get_or c.counters l 0) rule.from rule.to l (get_or c.counters rule.from 0) some (λ e. ap (λ k. get_or c.counters k 0) e)
      | inr b ↦ (
          let here = from_within a r rule named in
          let there = to_within a r rule named in
          let f : eqb l rule.from ≡ false = grind (arith, nat_tests) in
          let t : eqb l rule.to ≡ false = grind (arith, nat_tests) in
          let was : get_or c.counters l 0 ≡ 0 = get_or_past c.counters l 0 (omega (arith, w.counters)) in
          let is = past_numbers (λ k. natural ((pos (get_or c.counters k 0) +ℤ one_if rule.to k) -ℤ one_if rule.from k)) (length a.locations) l b in
          rw (f, t) (omega (arith, was, is)))
    ];
    counters_count = (fire_whole a rule c w).counters ∙ sym w.counters;
    added = λ x. elim (cases_lt x (length a.shared)) [
      | inl b ↦ ap pos (at_index (λ k. natural (pos (get_or c.shared k 0) +ℤ coefficient rule.updates k)) (length a.shared) x b)
          ∙ pos_natural _ (omega (arith, ints, updates_natural a r rule named x))
      | inr b ↦ (
          let was : get_or c.shared x 0 ≡ 0 = get_or_past c.shared x 0 (omega (arith, w.shared)) in
          let is = past_numbers (λ k. natural (pos (get_or c.shared k 0) +ℤ coefficient rule.updates k)) (length a.shared) x b in
          omega (arith, ints, was, is, updates_within a r rule named x b))
    ];
    shared_count = (fire_whole a rule c w).shared ∙ sym w.shared;
    parameters = refl;
  };
}

pub step_whole : (a : Automaton) (r : ℕ) (c d : Config) → Whole a c → Step a r c d → Whole a d
step_whole a r c d w step = record {
  parameters = ap (λ (ps : List ℕ). length ps) step.move.parameters ∙ w.parameters;
  shared = step.move.shared_count ∙ w.shared;
  counters = step.move.counters_count ∙ w.counters;
}

pub fits_whole : (a : Automaton) (d : Config) → Whole a d → Fits a d
fits_whole a d w = record { parameters = w.parameters; shared = w.shared }
