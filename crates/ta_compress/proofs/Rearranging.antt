-- the arranged steps of a piece lead where the piece leads
--
-- Within a piece no guard changes before its last step. A rule that fires in it has guards that hold somewhere in the piece: a rise
-- guard then holds at the beginning, and a fall guard at the end. With these the arranged steps of the piece's counts are legal (`ArrangedLaws` of
-- ta_scope), and they have the same end, since ends depend on counts alone. None leads into a location that is kept empty, since
-- none of the piece's steps did.
use Rattle.ta_compress.proofs.Common.{◌≡◌, inl, inr, ℕ, zero, suc, ◌+◌, ◌<◌, ℤ, pos, ◌*ℤ◌, ◌≤ℤ◌, List, [], ◌∷◌, ◌++◌, length, arith, sym, ap, ◌∙◌, refl, subst}
use Rattle.ta_compress.proofs.Common.{slice_get, get_or, Some, IsBitSet, fun_ext, ints, cases_lt, eqb_tells, length-map, get_or_past, same_Some}
use Rattle.ta_compress.proofs.Common.{slice_get_within, RowHolds, Row, Automaton, Pattern, Rule, Whole, location_place, Config, InScope, Steps, At, value_at}
use Rattle.ta_compress.proofs.Common.{times_in, change_of, same_model, KeepsEmpty, ArrangedOf, AreRuleCounts, count_at, GuardsHold, LeadsToEnd, rise_mask}
use Rattle.ta_compress.proofs.Common.{fall_mask, value_at_end, RunLine, value_after, units, counts_of, StepsLead, at_number, range_with_len}
use Rattle.ta_base.proofs.Totals.{total-within}
use Rattle.ta_base.proofs.Each.{Cut, cut_of}
use Rattle.ta_base.specs.Masks.{In}
use Rattle.ta_base.proofs.Times.{EachOnce, total-by_times, times-in, times-numbers}
use Rattle.ta_automaton.specs.Runs.{Step}
use Rattle.ta_scope.specs.Legal as legal
use Rattle.ta_scope.proofs.ArrangedLaws.{FromCounts, from_counts, arranged_end}
use Rattle.ta_compress.proofs.Leading.{leads_first, leads_split, leads_value, leads_whole}
use Rattle.ta_compress.proofs.Steady.{Steady, units-value}
use Rattle.std.proofs.lemmas.List.FromFn.{length-range_with_len}

pub count_in : (a : Automaton) (body : List ℕ) (r : ℕ) → r < length a.rules → count_at (counts_of a body) r ≡ pos (times_in r body)
count_in a body r b = at_number (λ q. pos (times_in q body)) 0 (length a.rules) r (pos 0) b
    ∙ (let e : 0 + r ≡ r = omega arith in ap (λ q. pos (times_in q body)) e)

pub counts_length : (a : Automaton) (body : List ℕ) → length (counts_of a body) ≡ length a.rules
counts_length a body = length-map (range_with_len 0 (length a.rules)) _ ∙ length-range_with_len 0 (length a.rules)

pub counts_natural : (a : Automaton) (body : List ℕ) → AreRuleCounts a (counts_of a body)
counts_natural a body = record {
  each_rule = counts_length a body;
  natural = λ r. elim (cases_lt r (length a.rules)) [
    | inl b ↦ omega (arith, ints, count_in a body r b)
    | inr b ↦ omega (arith, ints, get_or_past (counts_of a body) r (pos 0) (let e = counts_length a body in omega arith))
  ];
}

-- a rule with a count is in the body
pub counted_occurs : (a : Automaton) (body : List ℕ) (r : ℕ) (rule : Rule) → slice_get a.rules r ≡ Some rule → pos 1 ≤ℤ count_at (counts_of a body) r
    → Cut r body
counted_occurs a body r rule named h = cut_of r body (times-in r body (omega (arith, ints, count_in a body r (slice_get_within a.rules r rule named))))

each_once : (a : Automaton) (p : Pattern) (c : Config) (rules : List ℕ) (d : Config) → StepsLead a p c rules d
    → EachOnce rules (range_with_len 0 (length a.rules))
each_once a p c [] d l = tt
each_once a p c (r ∷ rs) d l =
    let f = leads_first a p c r rs d l in (
      times-numbers r 0 (length a.rules) (omega arith) (let b = slice_get_within a.rules r f.step.rule f.step.named in omega arith),
      each_once a p f.next rs d f.rest,
    )

-- the end that the counts of a body have is the end of the body
end_value : (a : Automaton) (p : Pattern) (c : Config) (body : List ℕ) (d : Config) → Whole a c → StepsLead a p c body d → (i : ℕ)
    → value_at_end a c (counts_of a body) i ≡ value_at d i
end_value a p c body d w l i =
    let n = length a.rules in
    let counts = total-within (λ r. change_of a i r *ℤ count_at (counts_of a body) r) (λ r. change_of a i r *ℤ pos (times_in r body)) 0 n
    (λ r _ b. ap (λ z. change_of a i r *ℤ z) (count_in a body r (omega arith))) in
    omega (arith, ints, counts, total-by_times (change_of a i) (range_with_len 0 n) body (each_once a p c body d l), leads_value a p c body d w l i)

-- a unit step of the body, and where it is taken
pub record Taken (a : Automaton) (p : Pattern) (c : Config) (body : List ℕ) (r : ℕ) (rule : Rule) : Type 0 where
  pub front : List ℕ
  pub behind : List ℕ
  pub is : body ≡ front ++ r ∷ behind
  pub before : Config
  pub after : Config
  pub leads : StepsLead a p c front before
  pub step : Step a r before after
  pub same : step.rule ≡ rule
  pub kept : KeepsEmpty p.empty before
  pub kept_after : KeepsEmpty p.empty after

taken : (a : Automaton) (p : Pattern) (c : Config) (body : List ℕ) (d : Config) → StepsLead a p c body d → (r : ℕ) (rule : Rule)
    → slice_get a.rules r ≡ Some rule → pos 1 ≤ℤ count_at (counts_of a body) r → Taken a p c body r rule
taken a p c body d l r rule named h =
    let o = counted_occurs a body r rule named h in
    let parts = leads_split a p c o.front (r ∷ o.behind) d (subst (λ (xs : List ℕ). StepsLead a p c xs d) o.cut l) in
    let f = leads_first a p parts.middle r o.behind d parts.right in
    record {
      front = o.front;
      behind = o.behind;
      is = o.cut;
      before = parts.middle;
      after = f.next;
      leads = parts.left;
      step = f.step;
      same = same_Some f.step.rule rule (sym f.step.named ∙ named);
      kept = f.kept;
      kept_after = f.rest.kept 0 f.next refl;
    }

-- a configuration with the values behind some lines
pub record Stands (a : Automaton) (first : List ℤ) (done : List RunLine) (c : Config) : Type 0 where
  pub whole : Whole a c
  pub same : (i : ℕ) → value_at c i ≡ value_after a first done i

pub stands_after : (a : Automaton) (p : Pattern) (first : List ℤ) (done : List RunLine) (c : Config) (rules : List ℕ) (d : Config) → Stands a first done c
    → StepsLead a p c rules d → Stands a first (done ++ units rules) d
stands_after a p first done c rules d s l = record {
  whole = leads_whole a p c rules d s.whole l;
  same = λ i. omega (arith, ints, leads_value a p c rules d s.whole l i, s.same i, units-value a first done rules i);
}

holds_there : (a : Automaton) (first : List ℤ) (done : List RunLine) (c : Config) (row : Row) → Stands a first done c → RowHolds (value_at c) row
    → RowHolds (value_after a first done) row
holds_there a first done c row s h = subst (λ (f : ℕ → ℤ). RowHolds f row) (fun_ext s.same) h

holds_here : (a : Automaton) (first : List ℤ) (done : List RunLine) (c : Config) (row : Row) → Stands a first done c → RowHolds (value_after a first done) row
    → RowHolds (value_at c) row
holds_here a first done c row s h = subst (λ (f : ℕ → ℤ). RowHolds f row) (sym (fun_ext s.same)) h

-- a rule of a body whose `empty` is kept doesn't lead into `empty`
no_entry : (a : Automaton) (p : Pattern) (c : Config) (body : List ℕ) (r : ℕ) (rule : Rule) → Taken a p c body r rule → IsBitSet p.empty rule.to → ⊥
no_entry a p c body r rule t bit =
    let bit_there = subst (λ (q : Rule). IsBitSet p.empty q.to) (sym t.same) bit in
    let to = t.step.rule.to in
    let from = t.step.rule.from in
    let was = t.kept to bit_there in
    let is = t.kept_after to bit_there in
    let some = t.step.move.some in
    elim (eqb_tells to from) [
      | inl e ↦ (let there = ap (λ l. get_or t.before.counters l 0) e.1 in absurd (omega arith))
      | inr ne ↦ elim (eqb_tells to to) [
        | inl self ↦ (let moved = rw (ne.0, self.0) at (t.step.move.moved to) in absurd (omega arith))
        | inr other ↦ absurd (other.1 refl)
      ]
    ]

keeps_step : (a : Automaton) (p : Pattern) (r : ℕ) (c d : Config) → (step : Step a r c d) → (IsBitSet p.empty step.rule.to → ⊥) → KeepsEmpty p.empty c
    → KeepsEmpty p.empty d
keeps_step a p r c d step out kept l bit =
    let was = kept l bit in
    elim (eqb_tells l step.rule.to) [
      | inl e ↦ absurd (out (subst (IsBitSet p.empty) e.1 bit))
      | inr ne ↦ (let moved = rw ne.0 at (step.move.moved l) in omega (arith, moved))
    ]

keeps_on : (a : Automaton) (p : Pattern) (rules : List ℕ) (c : Config) (later : List Config)
    → ((q : ℕ) → In q rules → (rule : Rule) → slice_get a.rules q ≡ Some rule → IsBitSet p.empty rule.to → ⊥) → KeepsEmpty p.empty c → Steps a c rules later
    → (k : ℕ) (e : Config) → At c later k e → KeepsEmpty p.empty e
keeps_on a p rules c later out kept steps zero e at = subst (KeepsEmpty p.empty) (same_Some c e at) kept
keeps_on a p [] c [] out kept steps (suc k) e at = absurd (cc)
keeps_on a p [] c (d ∷ ds) out kept steps (suc k) e at = absurd steps
keeps_on a p (r ∷ rs) c [] out kept steps (suc k) e at = absurd steps
keeps_on a p (r ∷ rs) c (d ∷ ds) out kept steps (suc k) e at =
    keeps_on a p rs d ds (λ q i. out q (inr i)) (keeps_step a p r c d steps.0 (out r (inl refl) steps.0.rule steps.0.named) kept) steps.1 k e at

-- the arranged steps of a steady body lead where the body leads
pub rearranged : (a : Automaton) (p : Pattern) (first : List ℤ) (done : List RunLine) (body : List ℕ) (c d : Config) (steps : List (ℕ × ℤ)) → InScope a
    → Stands a first done c → StepsLead a p c body d → Steady a first done body → ArrangedOf a (counts_of a body) steps
    → StepsLead a p c (legal.arranged_steps steps) d
rearranged a p first done body c d steps scope s l steady arranged =
    let counts = counts_of a body in
    let natural = counts_natural a body in
    let same : (i : ℕ) → value_at_end a c counts i ≡ value_at d i = end_value a p c body d s.whole l in
    let rise : GuardsHold a counts rise_mask a.rise (value_at c) = (λ r rule named some i row at bit.
    let t = taken a p c body d l r rule named some in
    let held : RowHolds (value_at t.before) row = t.step.move.rise i row at (subst (λ (q : Rule). IsBitSet q.rise i) (sym t.same) bit) in
    holds_here a first done c row s
    (steady.rise t.front r t.behind t.is i row at
    (holds_there a first (done ++ units t.front) t.before row (stands_after a p first done c t.front t.before s t.leads) held))) in
    let fall : GuardsHold a counts fall_mask a.fall (value_at_end a c counts) = (λ r rule named some j row at bit.
    let t = taken a p c body d l r rule named some in
    let held : RowHolds (value_at t.before) row = t.step.move.fall j row at (subst (λ (q : Rule). IsBitSet q.fall j) (sym t.same) bit) in
    let end = steady.fall t.front r t.behind t.is j row at
    (holds_there a first (done ++ units t.front) t.before row (stands_after a p first done c t.front t.before s t.leads) held) in
    subst (λ (f : ℕ → ℤ). RowHolds f row) (sym (fun_ext same)) (holds_here a first (done ++ units body) d row (stands_after a p first done c body d s l) end))
    in
    let ends : LeadsToEnd a c counts (legal.arranged_steps steps) = arranged_end a scope counts natural steps arranged c s.whole rise fall
    (λ m b. omega (arith, ints, same (location_place a m))) in
    let here : ends.last ≡ d = same_model a ends.last d ends.whole (leads_whole a p c body d s.whole l) (λ i. ends.values i ∙ same i) in
    let from : FromCounts a counts (legal.arranged_steps steps) = from_counts a scope counts natural steps arranged in
    record {
      later = ends.later;
      steps = ends.legal;
      ends = subst (λ (x : Config). At c ends.later (length (legal.arranged_steps steps)) x) here ends.reached;
      kept = keeps_on a p (legal.arranged_steps steps) c ends.later
          (λ q i rule named. no_entry a p c body q rule (taken a p c body d l q rule named (from.above q i))) (l.kept 0 c refl) ends.legal;
    }
