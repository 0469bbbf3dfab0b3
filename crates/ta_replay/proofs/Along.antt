-- a replay from line to line
use Rattle.ta_replay.proofs.Common.{◌≡◌, inl, inr, ℕ, ◌+◌, ◌<◌, ◌↔◌, ℤ, ◌+ℤ◌, ◌*ℤ◌, List, [], ◌∷◌, length, take, arith, sym, ap, ◌∙◌, subst, slice_get, Some}
use Rattle.ta_replay.proofs.Common.{Option, IsBitSet, ints, cases_lt, same_Some, each_at, some_at, take_next, point_of, Automaton, Rule, Pattern, rule_change}
use Rattle.ta_replay.proofs.Common.{total, total-append, Config, config_of, IsOf, Run, RunLine, Step, Mark, RunFault, NotEmpty, Guard, Count, Overflow, Order}
use Rattle.ta_replay.proofs.Common.{LineFits, IsMarked, steps_before, ValuesAfter, Takes, LineTakes, LinePasses, InOrder, line_change, LineRefuses, LineStops}
use Rattle.ta_replay.proofs.Common.{FirstRefusal, run_line_number, FitsPattern, Following, MarksAfter}
use Rattle.ta_replay.specs.declared.fault.RunFault.TheVariants.{Event}
use Rattle.ta_replay.proofs.Lines.{marked-next}
use Rattle.ta_replay.proofs.Paths.{line_moves, path_next}

total-next : (a : Automaton) (place i : ℕ) (lines : List RunLine) (line : RunLine) → slice_get lines i ≡ Some line
    → total (line_change a place) (take (i + 1) lines) ≡ (total (line_change a place) (take i lines) +ℤ line_change a place line)
unfolding total
total-next a place i lines line at = omega
    (arith, ints, ap (total (line_change a place)) (take_next lines i line at), total-append (line_change a place) (take i lines) (line ∷ []))

-- the values after a step more
pub step_values : (a : Automaton) (run : Run) (i r : ℕ) (factor : ℤ) (values after : List ℤ) → r < length a.rules → slice_get run.lines i ≡ Some (Step r factor)
    → ValuesAfter a run (take i run.lines) values → Takes a r factor values after → ValuesAfter a run (take (i + 1) run.lines) after
step_values a run i r factor values after exists at v takes =
    let named = some_at a.rules r exists in
    let taken = takes named.0 named.1 in
    record {
      first = v.first;
      starts = v.starts;
      places = taken.places ∙ v.places;
      changed = λ place.
          let next = total-next a place i run.lines (Step r factor) at in
          let change = ap (λ (o : Option Rule). factor *ℤ rule_change a o place) named.1 in
          omega (arith, ints, taken.changed place, v.changed place, next, change);
    }

-- the values after one line more
pub values_next : (a : Automaton) (p : Pattern) (run : Run) (i : ℕ) (Marked : ℕ → Type 0) (values after : List ℤ) (line : RunLine) → LineFits a p line
    → slice_get run.lines i ≡ Some line → ValuesAfter a run (take i run.lines) values → LineTakes a p Marked values line after
    → ValuesAfter a run (take (i + 1) run.lines) after
values_next a p run i Marked values after (Step r factor) fits at v takes = step_values a run i r factor values after fits.0 at v takes.0
values_next a p run i Marked values after (Mark e) fits at v takes = record {
  first = v.first;
  starts = v.starts;
  places = ap (λ (vs : List ℤ). length vs) takes.0 ∙ v.places;
  changed = λ place.
      let next = total-next a place i run.lines (Mark e) at in
      let same = ap (λ (vs : List ℤ). point_of vs place) takes.0 in
      omega (arith, ints, same, v.changed place, next);
}

-- two ways to say which events are marked
abbrev pub Same : (ℕ → Type 0) → (ℕ → Type 0) → Type 0
Same P Q = (e : ℕ) → P e ↔ Q e

pub in_order_same : (p : Pattern) (P Q : ℕ → Type 0) → Same P Q → (e : ℕ) → InOrder p P e → InOrder p Q e
in_order_same p P Q same e h = record {
  new = λ q. h.new ((same e).1 q);
  after = λ event f at bit. (same f).0 (h.after event f at bit);
}

turned : (P Q : ℕ → Type 0) → Same P Q → Same Q P
turned P Q same e = ((same e).1, (same e).0)

takes_same : (a : Automaton) (p : Pattern) (P Q : ℕ → Type 0) (values after : List ℤ) (line : RunLine) → Same P Q → LineTakes a p P values line after
    → LineTakes a p Q values line after
takes_same a p P Q values after (Step r factor) same takes = takes
takes_same a p P Q values after (Mark e) same takes = (takes.0, (in_order_same p P Q same e takes.1.0, takes.1.1))

-- one line further
pub following_next : (a : Automaton) (p : Pattern) (run : Run) (i : ℕ) (config new : Config) (marks after : ℕ) (line : RunLine) → FitsPattern a p run
    → slice_get run.lines i ≡ Some line → Following a p run i config marks → IsOf a new
    → LineTakes a p (IsBitSet marks) config.values.items line new.values.items → MarksAfter marks line after → Following a p run (i + 1) new after
following_next a p run i config new marks after line fits at f is takes marked =
    let fit = each_at (LineFits a p) run.lines i line fits.lines at in
    let kept = f.path.kept (steps_before run.lines i) (config_of a config) f.path.ends in
    let moves = line_moves a p (IsBitSet marks) config new line fit f.is_of is takes kept in
    let here : LinePasses a p run i line = record {
      values = config.values.items;
      after = new.values.items;
      reached = f.reached;
      takes = takes_same a p (IsBitSet marks) (IsMarked (take i run.lines)) config.values.items new.values.items line f.marked takes;
    } in
    record {
      may_follow = f.may_follow;
      before = λ j other b there. elim (cases_lt j i) [
        | inl less ↦ f.before j other less there
        | inr more ↦ (
            let same : i ≡ j = omega arith in
            let item : line ≡ other = same_Some line other (sym at ∙ ap (slice_get run.lines) same ∙ there) in
            subst (λ (l : RunLine). LinePasses a p run j l) item (subst (λ n. LinePasses a p run n line) same here))
      ];
      is_of = is;
      reached = values_next a p run i (IsBitSet marks) config.values.items new.values.items line fit at f.reached takes;
      marked = λ e.
          let m = marked e in
          let n = marked-next run.lines i line at e in
          let old = f.marked e in (
            λ bit. n.1 (elim (m.0 bit) [ inl b ↦ inl (old.0 b) | inr s ↦ inr s ]),
            λ is_marked. m.1
                (elim (n.0 is_marked) [ inl b ↦ inl (old.1 b) | inr s ↦ inr s ]),
          );
      first = f.first;
      begins = f.begins;
      initial = f.initial;
      start = f.start;
      path = path_next a p run.lines i f.first (config_of a config) (config_of a new) line at f.path moves;
    }

event_same : (p : Pattern) (P Q : ℕ → Type 0) → Same P Q → (e : ℕ) → ¬ InOrder p P e → ¬ InOrder p Q e
event_same p P Q same e h order = h (in_order_same p Q P (turned P Q same) e order)

refuses_same : (a : Automaton) (p : Pattern) (P Q : ℕ → Type 0) (values : List ℤ) (line : RunLine) (number : ℕ) (fault : RunFault) → Same P Q
    → LineRefuses a p P values line number fault → LineRefuses a p Q values line number fault
refuses_same a p P Q values (Step r factor) number fault same h = h
refuses_same a p P Q values (Mark e) number (Order line) same h = (h.0, event_same p P Q same e h.1)
refuses_same a p P Q values (Mark e) number (Overflow line) same h = (h.0, (in_order_same p P Q same e h.1.0, h.1.1))
refuses_same a p P Q values (Mark e) number (Event line) same h = (h.0, (in_order_same p P Q same e h.1.0, h.1.1))
refuses_same a p P Q values (Mark e) number _ same h = h

-- what no line answers
never : (a : Automaton) (p : Pattern) (Marked : ℕ → Type 0) (values : List ℤ) (line : RunLine) (number : ℕ) (fault : RunFault)
    → LineRefuses a p Marked values line number fault → (run : Run) → LineStops a p run fault → FirstRefusal a p run fault
never a p Marked values line number (NotEmpty n) h run s = inr s
never a p Marked values line number (Guard n guard) h run s = s
never a p Marked values line number (Count n) h run s = s
never a p Marked values line number (Event n) h run s = s
never a p Marked values line number (Overflow n) h run s = inr (inr s)
never a p Marked values line number (Order n) h run s = s
never a p Marked values (Step r factor) number _ h run s = absurd h
never a p Marked values (Mark e) number _ h run s = absurd h

-- a line that refuses
pub following_stops : (a : Automaton) (p : Pattern) (run : Run) (i : ℕ) (config : Config) (marks : ℕ) (line : RunLine) (number : ℕ) (fault : RunFault)
    → slice_get run.lines i ≡ Some line → Following a p run i config marks → number ≡ run_line_number a i
    → LineRefuses a p (IsBitSet marks) config.values.items line number fault → FirstRefusal a p run fault
following_stops a p run i config marks line number fault at f is h =
    let told = refuses_same a p (IsBitSet marks) (IsMarked (take i run.lines)) config.values.items line number fault f.marked h in
    never a p (IsMarked (take i run.lines)) config.values.items line number fault told run (record {
      may_follow = f.may_follow;
      i = i;
      before = f.before;
      config = config;
      is_of = f.is_of;
      reached = f.reached;
      line = line;
      at = at;
      refuses = subst (λ n. LineRefuses a p (IsMarked (take i run.lines)) config.values.items line n fault) is told;
    })
