-- the lines of the piece to a stop
use Rattle.ta_witness.proofs.Common.{◌^◌, ◌<ℤ◌, int_lt, map-append, InScope, each_append, range_more, item_at, no_item, LineFits, step_line, RunLine, Mark}
use Rattle.ta_witness.proofs.Common.{arranged_within, AreRuleCounts, ArrangedOf, count_at, AddsStop, AddsStops, gap, gaps, last_counts, marked}
use Rattle.ta_moments.proofs.Common.{subst, ◌≡◌, inl, inr, ℕ, suc, ◌+◌, ◌<◌, ℤ, pos, ◌≤ℤ◌, List, [], ◌∷◌, ◌++◌, length, map, Some, Option, None, arith, ints}
use Rattle.ta_moments.proofs.Common.{sym, ap, ◌∙◌, refl, append_assoc, cases_Bool, cases_lt, length-map, length-range_with_len, range_with_len, AllByRecursion}
use Rattle.ta_moments.proofs.Common.{Automaton, Pattern}
use Rattle.ta_witness.proofs.Making.{steps_fit}
use Rattle.ta_witness.specs.declared.stop.Stop.{Stop}

pub numbers_more : (f : ℕ → ℤ) (i : ℕ) (xs : List ℤ) (z : ℤ) → xs ≡ map f (range_with_len 0 i) → z ≡ f i → xs ++ z ∷ [] ≡ map f (range_with_len 0 (i + 1))
numbers_more f i xs z h e =
    let more : range_with_len 0 (i + 1) ≡ range_with_len 0 i ++ i ∷ [] = ap (range_with_len 0) (let q : i + 1 ≡ suc i = omega arith in q) ∙ range_more 0 i
    ∙ ap (λ (x : ℕ). range_with_len 0 i ++ x ∷ []) (let q : 0 + i ≡ i = omega arith in q) in
    ap (λ (ys : List ℤ). ys ++ z ∷ []) h ∙ ap (λ (y : ℤ). map f (range_with_len 0 i) ++ y ∷ []) e ∙ sym (map-append f (range_with_len 0 i) (i ∷ []))
    ∙ ap (map f) (sym more)

gap_natural : (x y : ℤ) → pos 0 ≤ℤ gap x y
gap_natural x y = elim (cases_Bool (int_lt x y)) [
  | inl t ↦ grind (arith, ints)
  | inr f ↦ grind (arith, ints)
]

pub gaps_are : (a : Automaton) (before after : List ℤ) → length after ≡ length a.rules → AreRuleCounts a (gaps before after)
gaps_are a before after size =
    let f : ℕ → ℤ = λ r. gap (count_at before r) (count_at after r) in
    record {
      each_rule = length-map (range_with_len 0 (length after)) f ∙ length-range_with_len 0 (length after) ∙ size;
      natural = λ r. elim (cases_lt r (length after)) [
        | inl b ↦ (let low = gap_natural (count_at before r) (count_at after r) in omega (arith, ints, item_at f (length after) r b, low))
        | inr b ↦ omega (arith, ints, no_item f 0 (length after) r b)
      ];
    }

mark_fits : (a : Automaton) (p : Pattern) (mark : Option ℕ) → ((e : ℕ) → mark ≡ Some e → e < length p.events)
    → AllByRecursion (LineFits a p) (map Mark (marked mark))
mark_fits a p None h = tt
mark_fits a p (Some e) h = (h e refl, tt)

pub stop_added : (a : Automaton) → InScope a → (p : Pattern) (before after : List ℤ) (mark : Option ℕ) (steps : List (ℕ × ℤ)) (old middle new : List RunLine)
    → length after ≡ length a.rules → ArrangedOf a (gaps before after) steps → middle ≡ old ++ map step_line steps
    → AllByRecursion (λ (step : ℕ × ℤ). step.1 <ℤ pos (2 ^ 127)) steps → new ≡ middle ++ map Mark (marked mark)
    → ((e : ℕ) → mark ≡ Some e → e < length p.events) → AddsStop a p before after mark old new
stop_added a scope p before after mark steps old middle new size arranged first below second event =
    let within = arranged_within a scope (gaps before after) (gaps_are a before after size) steps arranged in
    record {
      piece = record { steps = steps; last = None; marks = marked mark };
      steps = arranged;
      none_last = refl;
      marks = refl;
      added = second ∙ ap (λ (ls : List RunLine). ls ++ map Mark (marked mark)) first ∙ append_assoc old (map step_line steps) (map Mark (marked mark));
      fit = each_append (LineFits a p) (map step_line steps) (map Mark (marked mark))
          (steps_fit a p (gaps before after) steps within.exist within.factors below) (mark_fits a p mark event);
    }

-- ---- one stop more
pub stops_more : (a : Automaton) (p : Pattern) (first : List ℤ) (stops : List Stop) (x : Stop) (old lines new : List RunLine)
    → AddsStops a p first stops old lines → AddsStop a p (last_counts first stops) x.counts.items x.mark lines new
    → AddsStops a p first (stops ++ x ∷ []) old new
stops_more a p first [] x old lines new h g = (new, subst (λ (ls : List RunLine). AddsStop a p first x.counts.items x.mark ls new) h g, refl)
stops_more a p first (s ∷ stops) x old lines new h g = (h.0, h.1, stops_more a p s.counts.items stops x h.0 lines new h.2 g)

pub last_more : (first : List ℤ) (stops : List Stop) (x : Stop) → last_counts first (stops ++ x ∷ []) ≡ x.counts.items
last_more first [] x = refl
last_more first (s ∷ stops) x = last_more s.counts.items stops x
