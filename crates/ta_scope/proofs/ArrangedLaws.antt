-- arranged steps are legal
--
-- They go forward, each from a location where nobody arrives any more, and their end is that of the counts. If the counters at this
-- end are natural, none is negative on the way. Rise guards are asked for at the beginning and stay true. Fall guards are asked for
-- at the end, so they hold before every step, the last one among them.
use Rattle.ta_scope.proofs.Common.{◌≡◌, ℕ, ℤ, pos, ◌+ℤ◌, ◌≤ℤ◌, List, [], ◌∷◌, ◌++◌, inl, arith, sym, ap, ◌∙◌, refl, subst, slice_get, Some, ints, without_last}
use Rattle.ta_scope.proofs.Common.{In-right, last_of, Rule, Automaton, In, location_place, Config, value_at, InScope, total, total-append, terms_value-same}
use Rattle.ta_scope.proofs.Common.{fall_back, change_of, Onward, Piece, after, later_after, fire_in_order, each_rule_from, AreRuleCounts, ArrangedOf, count_at}
use Rattle.ta_scope.proofs.Common.{steps_along, ArrangedStepsAreLegal, ArrangedStepsReachTheEnd, GuardsHold, Passable, LeadsToEnd, arranged_steps, fall_mask}
use Rattle.ta_scope.proofs.Common.{value_after_steps, value_at_end, falls as falls_rows}
use Rattle.ta_linear.specs.Values.{RowHolds}
use Rattle.ta_scope.proofs.Circulations.{Rest, rest_same, rest_all, weighted}
use Rattle.ta_scope.proofs.Listing.{in_along, along_total, along_onward}

-- what the steps have from their list
pub record FromCounts (a : Automaton) (counts : List ℤ) (os : List ℕ) : Type 0 where
  pub onward : Onward a os
  pub named : (q : ℕ) → In q os → (rule : Rule) × (slice_get a.rules q ≡ Some rule)
  pub above : (q : ℕ) → In q os → pos 1 ≤ℤ count_at counts q
  pub sums : (i : ℕ) → total (change_of a i) os ≡ weighted a counts i

pub from_counts : (a : Automaton) → InScope a → (counts : List ℤ) → AreRuleCounts a counts → (steps : List (ℕ × ℤ)) → ArrangedOf a counts steps
    → FromCounts a counts (arranged_steps steps)
from_counts a scope counts c steps s =
    let rest : Rest a counts s.rest = rest_all a scope counts counts s.later s.rest (rest_same a counts c) s.taken_out in
    let along : FromCounts a counts (arranged_steps (steps_along a s.rest s.order)) = record {
      onward = along_onward a s.rest s.rules s.support s.no_cycle s.order s.ordered;
      named = λ q i. let w = in_along a s.rest s.order q i in let step = w.2 in (step.rule, step.named);
      above = λ q i. let w = in_along a s.rest s.order q i in let step = w.2 in omega (arith, ints, step.above, rest.less q);
      sums = λ i. along_total a s.rest rest.natural s.order s.ordered.each_once i ∙ rest.sums i;
    } in
    subst (λ (xs : List (ℕ × ℤ)). FromCounts a counts (arranged_steps xs)) (sym s.listed) along

legal : (a : Automaton) (counts : List ℤ) (os : List ℕ) → FromCounts a counts os → (c : Config) → Passable a c counts os → LeadsToEnd a c counts os
legal a counts os f c p =
    let same : (i : ℕ) → after a (value_at c) os i ≡ value_at_end a c counts i = (λ i. ap (λ z. value_at c i +ℤ z) (f.sums i)) in
    let piece : Piece a c os = record {
      whole = p.whole;
      exist = each_rule_from a os f.named;
      rises = λ o rule within named i row at set. p.rise o rule named (f.above o within) i row at set;
      falls = λ o rule within named j row at set. let w = last_of o os within in p.fall (without_last os) w.0 w.1 o rule named (f.above o within) j row at set;
      ends = λ l b. omega (arith, ints, same (location_place a l), p.natural l b);
    } in
    let fired = fire_in_order a os c f.onward piece in
    record {
      later = fired.later;
      legal = fired.steps;
      last = fired.end;
      reached = fired.last;
      whole = fired.whole;
      values = λ i. fired.values i ∙ same i;
    }

pub arranged_legal : ArrangedStepsAreLegal
arranged_legal a scope counts natural steps s c p = legal a counts (arranged_steps steps) (from_counts a scope counts natural steps s) c p

-- fall guards that hold at the end hold before the last step
before_last : (a : Automaton) (counts : List ℤ) (os : List ℕ) → FromCounts a counts os → (c : Config)
    → GuardsHold a counts fall_mask a.fall (value_at_end a c counts) → (front : List ℕ) (last : ℕ) → os ≡ front ++ last ∷ []
    → GuardsHold a counts fall_mask a.fall (value_after_steps a c front)
before_last a counts os f c falls front last cut r rule named above j row at set =
    let within : In last os = subst (In last) (sym cut) (In-right last front (last ∷ []) (inl refl)) in
    let point = value_after_steps a c front in
    let later = later_after a point (last ∷ []) (f.named last within, tt) in
    let same : (i : ℕ) → after a point (last ∷ []) i ≡ value_at_end a c counts i =
    (λ i. omega (arith, ints, total-append (change_of a i) front (last ∷ []), ap (total (change_of a i)) cut, f.sums i)) in
    let held : RowHolds (value_at_end a c counts) row = falls r rule named above j row at set in
    omega (
      arith,
      ints,
      held,
      fall_back a point (after a point (last ∷ [])) later row.form.terms (falls_rows a j row at),
      terms_value-same row.form.terms
          (after a point (last ∷ [])) (value_at_end a c counts) same,
    )

pub arranged_end : ArrangedStepsReachTheEnd
arranged_end a scope counts natural steps s c whole rise fall ends =
    let f = from_counts a scope counts natural steps s in
    legal a counts (arranged_steps steps) f c
    (record { whole = whole; rise = rise; fall = before_last a counts (arranged_steps steps) f c fall; natural = ends })
