-- what a unit step does to counts and lines
use Rattle.ta_compress.proofs.Common.{◌≡◌, inl, inr, ℕ, ◌+◌, ◌-◌, ◌<◌, ◌≤◌, ℤ, pos, ◌+ℤ◌, ◌*ℤ◌, List, [], ◌∷◌, ◌++◌, length, map, set, replicate, arith, sym}
use Rattle.ta_compress.proofs.Common.{ap, ◌∙◌, refl, subst, slice_get, append_assoc, append-nil, fun_ext, ints, cases_lt, eqb_tells, get_or-set_same}
use Rattle.ta_compress.proofs.Common.{get_or-set_other, length-set, next_value, point_of, zero-*ℤ, Automaton, one_if, rule_change, one_if-ne, one_if-natural}
use Rattle.ta_compress.proofs.Common.{Guards, IsOf, GuardsAre, GuardsStay, ArrangedOf, AreRuleCounts, count_at, RunFault, RunLine, step_line, Draft}
use Rattle.ta_compress.proofs.Common.{CompressFault, Replay, TooManySteps, Memory, unit, Advances, Closes, CountsStep, DraftAt, HasFallen}
use Rattle.ta_compress.proofs.Common.{GuardsOutOfRangeWithin, MayRepeat, MayStep, OneMore, DraftIsReady, RepeatsRule, RepeatStops, Room, SameGuards, repeated}
use Rattle.ta_compress.proofs.Common.{zeros}
use Rattle.std.proofs.lemmas.List.{replicate_more}
use Rattle.ta_base.proofs.Totals.{one_if-one, one_if-most}
use Rattle.ta_counter.specs.declared.config.Config.{Config}
use Rattle.ta_replay.specs.declared.fault.RunFault.TheVariants as runs
use Rattle.ta_compress.proofs.Drafting.{advance, no_counts, zero_counts}
use Rattle.ta_compress.proofs.Masks.{same_still, other_switches, fallen_drops, drops_fallen}

pub one_more_set : (r : ℕ) (counts : List ℤ) (z : ℤ) → r < length counts → z ≡ (count_at counts r +ℤ pos 1) → OneMore r counts (set counts r z)
one_more_set r counts z b is = record {
  each_rule = length-set counts r z;
  counted = λ q. elim (eqb_tells q r) [
    | inl e ↦ (
        let here = get_or-set_same counts r z (pos 0) b in
        let there = ap (count_at (set counts r z)) e.1 in
        let was = ap (count_at counts) e.1 in
        let one = ap (one_if r) e.1 ∙ one_if-one r in
        omega (arith, ints))
    | inr ne ↦ (
        let here = get_or-set_other counts r q z (pos 0) ne.1 in
        let none = one_if-ne r q (λ e. ne.1 (sym e)) in
        omega (arith, ints))
  ];
}

pub one_more_counts : (a : Automaton) (r : ℕ) (counts more : List ℤ) → AreRuleCounts a counts → OneMore r counts more → AreRuleCounts a more
one_more_counts a r counts more c one = record {
  each_rule = one.each_rule ∙ c.each_rule;
  natural = λ q. omega (arith, ints, one.counted q, c.natural q, one_if-natural r q);
}

pub goes_on : (a : Automaton) (r : ℕ) (f g : ℕ → ℤ) (old new : Draft) (now : Guards) → GuardsAre a f old.guards → GuardsAre a g now → SameGuards old.guards now
    → OneMore r old.counts.items new.counts.items → new.lines.items ≡ old.lines.items → CountsStep a r f g old new
goes_on a r f g old new now at there same one lines = inl (record { still = same_still a f g old.guards now at there same; counted = one; lines = lines })

pub falls : (a : Automaton) (r : ℕ) (f g : ℕ → ℤ) (old middle closed new : Draft) (now : Guards) → GuardsAre a f old.guards → GuardsAre a g now
    → HasFallen old.guards.fall now.fall → Closes a old.counts.items [] middle closed → middle.lines.items ≡ old.lines.items
    → new.counts.items ≡ closed.counts.items → new.lines.items ≡ closed.lines.items ++ unit r ∷ [] → CountsStep a r f g old new
falls a r f g old middle closed new now at there fallen c same counts lines = inr (inl (record {
  drops = fallen_drops a f g old.guards now at there fallen;
  closes = record {
    steps = c.steps;
    arranged = c.arranged;
    lines = lines ∙ ap (λ (ls : List RunLine). ls ++ unit r ∷ [])
        (c.lines ∙ ap (λ (ls : List RunLine). ls ++ (map step_line c.steps ++ [])) same
        ∙ ap (λ (ls : List RunLine). old.lines.items ++ ls) (append-nil (map step_line c.steps)))
        ∙ append_assoc old.lines.items (map step_line c.steps) (unit r ∷ []);
    none_left = counts ∙ c.none_left;
  };
}))

pub rises : (a : Automaton) (r : ℕ) (f g : ℕ → ℤ) (old middle new : Draft) (now : Guards) → GuardsAre a f old.guards → GuardsAre a g now
    → (SameGuards old.guards now → ⊥) → (HasFallen old.guards.fall now.fall → ⊥) → OneMore r old.counts.items middle.counts.items
    → Closes a middle.counts.items [] middle new → middle.lines.items ≡ old.lines.items → CountsStep a r f g old new
rises a r f g old middle new now at there other none one c same = inr (inr (record {
  switches = other_switches a f g old.guards now at there other;
  drops_none = λ d. none (drops_fallen a f g old.guards now at there d);
  counts = middle.counts.items;
  counted = one;
  closes = record {
    steps = c.steps;
    arranged = c.arranged;
    lines = c.lines
        ∙ ap (λ (ls : List RunLine). ls ++ (map step_line c.steps ++ [])) same;
    none_left = c.none_left;
  };
}))

-- a unit step that leaves the range
pub leaves_one : (a : Automaton) (r : ℕ) (values after : List ℤ) → RepeatsRule a r values 1 after → (GuardsStay a (point_of after) → ⊥)
    → GuardsOutOfRangeWithin a r 1 values
leaves_one a r values after moved leaves = record {
  times = 1;
  some = omega arith;
  most = omega arith;
  leaves = λ stay. leaves (subst (GuardsStay a) (sym (fun_ext moved)) stay);
}

pub advances : (a : Automaton) (r : ℕ) (old new : Draft) (config : Config) → DraftIsReady a old → IsOf a config
    → RepeatsRule a r old.config.values.items 1 config.values.items → GuardsAre a (point_of config.values.items) new.guards → new.config ≡ config
    → AreRuleCounts a new.counts.items → ((f g : ℕ → ℤ) → GuardsAre a f old.guards → GuardsAre a g new.guards → CountsStep a r f g old new)
    → Advances a r old new
advances a r old new config ready is moved guards same counts counted =
    let at_new = subst (λ (c : Config). GuardsAre a (point_of c.values.items) new.guards) (sym same) guards in
    record {
      moved = subst (λ (c : Config). RepeatsRule a r old.config.values.items 1 c.values.items) (sym same) moved;
      ready = record { is_of = subst (IsOf a) (sym same) is; guards = at_new; counts = counts };
      counted = counted (point_of old.config.values.items) (point_of new.config.values.items) ready.guards at_new;
    }

-- one unit step more takes its part of the room
room_after : (a : Automaton) (r : ℕ) (f g : ℕ → ℤ) (old new : Draft) (more : ℕ) → AreRuleCounts a old.counts.items → CountsStep a r f g old new
    → Room (1 + more) old.counts.items → Room more new.counts.items
room_after a r f g old new more c (inl s) room q = omega (arith, ints, s.counted.counted q, one_if-most r q, room q)
room_after a r f g old new more c (inr (inl s)) room q = omega (arith, ints, no_counts a new.counts.items s.closes.none_left q, c.natural q, room q)
room_after a r f g old new more c (inr (inr s)) room q = omega (arith, ints, no_counts a new.counts.items s.closes.none_left q, c.natural q, room q)

-- some firings in a row
pub record Going (a : Automaton) (r factor times : ℕ) (old new : Draft) : Type 0 where
  pub ready : DraftIsReady a new
  pub moved : RepeatsRule a r old.config.values.items times new.config.values.items
  pub goes : (first : List ℤ) (done : List RunLine) → DraftAt a first done old → DraftAt a first (done ++ replicate times (unit r)) new
  pub stayed : (t : ℕ) → 1 ≤ t → t ≤ times → GuardsStay a (repeated a r old.config.values.items t)
  pub room : (more : ℕ) → Room (factor + more) old.counts.items → Room ((factor - times) + more) new.counts.items

pub going_none : (a : Automaton) (r factor : ℕ) (old : Draft) → DraftIsReady a old → Going a r factor 0 old old
going_none a r factor old ready = record {
  ready = ready;
  moved = λ place. (let c = rule_change a (slice_get a.rules r) place in omega (arith, ints, zero-*ℤ c));
  goes = λ first done d. subst (λ (ls : List RunLine). DraftAt a first ls old) (sym (append-nil done)) d;
  stayed = λ t some most. absurd (omega arith);
  room = λ more room. (let e : factor + more ≡ (factor - 0) + more = omega arith in subst (λ n. Room n old.counts.items) e room);
}

pub going_more : (a : Automaton) (r factor times : ℕ) (old now new : Draft) → times < factor → Going a r factor times old now → Advances a r now new
    → Going a r factor (times + 1) old new
going_more a r factor times old now new less g step =
    let moved : RepeatsRule a r old.config.values.items (times + 1) new.config.values.items =
    (λ place. (let c = rule_change a (slice_get a.rules r) place in step.moved place ∙ ap (λ z. z +ℤ (pos 1 *ℤ c)) (g.moved place)
    ∙ next_value times (point_of old.config.values.items place) c)) in
    record {
      ready = step.ready;
      moved = moved;
      goes = λ first done d. subst (λ (ls : List RunLine). DraftAt a first ls new)
          (append_assoc done (replicate times (unit r)) (unit r ∷ []) ∙ ap (λ (ls : List RunLine). done ++ ls) (replicate_more times (unit r)))
          (advance a first (done ++ replicate times (unit r)) r now new (g.goes first done d) step);
      stayed = λ t some most. elim (cases_lt times t) [
        | inl more ↦ (
            let same : times + 1 ≡ t = omega arith in
            subst (λ n. GuardsStay a (repeated a r old.config.values.items n)) same (subst (GuardsStay a) (fun_ext moved) step.ready.guards.stay))
        | inr before ↦ g.stayed t some before
      ];
      room = λ more room.
          let e : (factor - times) + more ≡ 1 + ((factor - (times + 1)) + more) = omega arith in
          room_after a r (point_of now.config.values.items) (point_of new.config.values.items) now new ((factor - (times + 1)) + more) g.ready.counts
          step.counted (subst (λ n. Room n now.counts.items) e (g.room more room));
    }

pub going_may : (a : Automaton) (r factor times : ℕ) (old now : Draft) → times < factor → MayRepeat a r factor old.config.values.items
    → Going a r factor times old now → MayStep a r now.config.values.items
going_may a r factor times old now less may g = may times now.config less g.ready.is_of g.moved g.ready.guards.stay

pub going_room : (a : Automaton) (r factor times : ℕ) (old now : Draft) → times < factor → Room factor old.counts.items → Going a r factor times old now
    → Room 1 now.counts.items
going_room a r factor times old now less room g q =
    let e : factor ≡ factor + 0 = omega arith in
    let left = g.room 0 (subst (λ n. Room n old.counts.items) e room) q in
    omega (arith, ints, left)

-- a step that stops after some firings
pub going_stops : (a : Automaton) (r factor times line : ℕ) (old now : Draft) (fault : CompressFault) → times < factor → Going a r factor times old now
    → RepeatStops a r 1 now.config.values.items line fault → RepeatStops a r factor old.config.values.items line fault
going_stops a r factor times line old now Memory less g s = tt
going_stops a r factor times line old now (TooManySteps n) less g s = absurd s
going_stops a r factor times line old now (Replay fault) less g s = by_fault fault s where
  by_fault : (f : RunFault) → RepeatStops a r 1 now.config.values.items line (Replay f) → RepeatStops a r factor old.config.values.items line (Replay f)
  by_fault (runs.Overflow l) t = (
    t.0,
    record {
      times = times + 1;
      some = omega arith;
      most = omega arith;
      leaves = λ stay.
          let one : t.1.times ≡ 1 = (let low = t.1.some in let high = t.1.most in omega arith) in
          let same : repeated a r old.config.values.items (times + 1) ≡ repeated a r now.config.values.items 1 = fun_ext
          (λ place. (let c = rule_change a (slice_get a.rules r) place in sym
          (ap (λ z. z +ℤ (pos 1 *ℤ c)) (g.moved place) ∙ next_value times (point_of old.config.values.items place) c))) in
          t.1.leaves (subst (λ n. GuardsStay a (repeated a r now.config.values.items n)) (sym one) (subst (GuardsStay a) same stay));
    },
  )
  by_fault _ t = absurd t

pub gone_room : (a : Automaton) (r factor times : ℕ) (old new : Draft) → times ≡ factor → Going a r factor times old new → (more : ℕ)
    → Room (factor + more) old.counts.items → Room more new.counts.items
gone_room a r factor times old new all g more room =
    (let e : (factor - times) + more ≡ more = omega arith in subst (λ n. Room n new.counts.items) e (g.room more room))

-- a mark
pub mark_ready : (a : Automaton) (old new : Draft) → DraftIsReady a old → new.config ≡ old.config → new.guards ≡ old.guards → new.counts.items ≡ zeros a
    → DraftIsReady a new
mark_ready a old new ready config guards none = record {
  is_of = subst (IsOf a) (sym config) ready.is_of;
  guards = subst (λ (c : Config). GuardsAre a (point_of c.values.items) new.guards) (sym config)
      (subst (GuardsAre a (point_of old.config.values.items)) (sym guards) ready.guards);
  counts = zero_counts a new.counts.items none;
}

pub mark_room : (a : Automaton) (old new : Draft) → DraftIsReady a old → new.counts.items ≡ zeros a → (more : ℕ) → Room (0 + more) old.counts.items
    → Room more new.counts.items
mark_room a old new ready none more room q = omega (arith, ints, no_counts a new.counts.items none q, ready.counts.natural q, room q)

reclosed : (a : Automaton) (counts more : List ℤ) (kept : List RunLine) (old other new : Draft) → counts ≡ more → other.lines.items ≡ old.lines.items
    → Closes a counts kept other new → Closes a more kept old new
reclosed a counts more kept old other new same lines c = record {
  steps = c.steps;
  arranged = subst (λ (xs : List ℤ). ArrangedOf a xs c.steps) same c.arranged;
  lines = c.lines ∙ ap (λ (ls : List RunLine). ls ++ (map step_line c.steps ++ kept)) lines;
  none_left = c.none_left;
}

-- the same from a draft with another configuration
pub recounted : (a : Automaton) (r : ℕ) (f g : ℕ → ℤ) (old other new : Draft) → other.counts.items ≡ old.counts.items → other.lines.items ≡ old.lines.items
    → CountsStep a r f g other new → CountsStep a r f g old new
recounted a r f g old other new counts lines (inl s) = inl (record {
  still = s.still;
  counted = subst (λ (xs : List ℤ). OneMore r xs new.counts.items) counts s.counted;
  lines = s.lines ∙ lines;
})
recounted a r f g old other new counts lines (inr (inl s)) = inr (inl (record {
  drops = s.drops;
  closes = reclosed a other.counts.items old.counts.items (unit r ∷ []) old other new counts lines s.closes;
}))
recounted a r f g old other new counts lines (inr (inr s)) = inr (inr (record {
  switches = s.switches;
  drops_none = s.drops_none;
  counts = s.counts;
  counted = subst (λ (xs : List ℤ). OneMore r xs s.counts) counts s.counted;
  closes = reclosed a s.counts s.counts [] old other new refl lines s.closes;
}))
