-- the model's steps along the lines
use Rattle.ta_replay.proofs.Common.{◌≡◌, ◌≢◌, ◌⊎◌, inl, inr, ℕ, zero, suc, ◌+◌, ◌≤◌, ℤ, pos, negsuc, List, [], ◌∷◌, ◌++◌, length, take, replicate, eqb, false}
use Rattle.ta_replay.proofs.Common.{arith, sym, ap, ◌∙◌, refl, subst, slice_get, get_or, Some, append-nil, ints, cases_lt, nat_tests, same_Some}
use Rattle.ta_replay.proofs.Common.{length-replicate, slice_get_left, some_at, point_of, Automaton, Rule, Event, Pattern, At, Holds, Steps, run_length, Config}
use Rattle.ta_replay.proofs.Common.{config_of, model_of, IsOf, Fires, holds_from, taken_fires, KeepsEmpty, holds_there, RunLine, Step, Mark, LineFits}
use Rattle.ta_replay.proofs.Common.{unit_steps, steps_before, LineTakes, Path}
use Rattle.ta_automaton.specs.Runs as runs
use Rattle.ta_replay.proofs.Lines.{unit_steps-next, steps_before-next}
use Rattle.ta_replay.proofs.Values.{keeps_at}

-- steps on from where steps end
pub steps-append : (a : Automaton) (c : runs.Config) (xs : List ℕ) (later : List runs.Config) (d : runs.Config) (ys : List ℕ) (more : List runs.Config)
    → Steps a c xs later → At c later (length xs) d → Steps a d ys more → Steps a c (xs ++ ys) (later ++ more)
steps-append a c [] [] d ys more s end t = subst (λ x. Steps a x ys more) (sym (same_Some c d end)) t
steps-append a c [] (e ∷ es) d ys more s end t = absurd s
steps-append a c (x ∷ xs) [] d ys more s end t = absurd s
steps-append a c (x ∷ xs) (e ∷ es) d ys more s end t = (s.0, steps-append a e xs es d ys more s.1 end t)

-- where steps that go on are
pub at_further : (c : runs.Config) (later : List runs.Config) (d : runs.Config) (more : List runs.Config) (k : ℕ) (e : runs.Config)
    → At c later (length later) d → At d more k e → At c (later ++ more) (length later + k) e
at_further c [] d more k e end at =
    let n : k ≡ 0 + k = omega arith in
    subst (λ m. slice_get (c ∷ more) m ≡ Some e) n (subst (λ x. slice_get (x ∷ more) k ≡ Some e) (sym (same_Some c d end)) at)
at_further c (x ∷ xs) d more k e end at =
    let n : suc (length xs + k) ≡ suc (length xs) + k = omega arith in
    subst (λ m. slice_get (c ∷ x ∷ (xs ++ more)) m ≡ Some e) n (at_further x xs d more k e end at)

pub at_either : (c : runs.Config) (later : List runs.Config) (d : runs.Config) (more : List runs.Config) (j : ℕ) (e : runs.Config) → At c later (length later) d
    → At c (later ++ more) j e → At c later j e ⊎ ((k : ℕ) × At d more k e)
at_either c [] d more j e end at = inr (j, subst (λ x. slice_get (x ∷ more) j ≡ Some e) (same_Some c d end) at)
at_either c (x ∷ xs) d more zero e end at = inl at
at_either c (x ∷ xs) d more (suc j) e end at = at_either x xs d more j e end at

-- where no firing leaves a location, no counter there falls
not_less : (a : Automaton) (r l : ℕ) (c d : runs.Config) → (step : runs.Step a r c d) → l ≢ step.rule.from → get_or c.counters l 0 ≤ get_or d.counters l 0
not_less a r l c d step other =
    let no : eqb l step.rule.from ≡ false = grind (arith, nat_tests) in
    let moved = rw no at (step.move.moved l) in
    omega (arith, moved)

below_last : (a : Automaton) (r l k : ℕ) (c : runs.Config) (later : List runs.Config) (d : runs.Config)
    → ((rule : Rule) → slice_get a.rules r ≡ Some rule → l ≢ rule.from) → Steps a c (replicate k r) later → At c later k d → (j : ℕ) (e : runs.Config)
    → At c later j e → get_or e.counters l 0 ≤ get_or d.counters l 0
below_last a r l zero c [] d other s end zero e at =
    let same : e ≡ d = same_Some e d (sym at ∙ end) in
    subst (λ (x : runs.Config). get_or e.counters l 0 ≤ get_or x.counters l 0) same (omega arith)
below_last a r l zero c [] d other s end (suc j) e at = absurd (cc)
below_last a r l zero c (x ∷ xs) d other s end j e at = absurd s
below_last a r l (suc k) c [] d other s end j e at = absurd s
below_last a r l (suc k) c (x ∷ xs) d other s end zero e at =
    let here = not_less a r l c x s.0 (other s.0.rule s.0.named) in
    let rest = below_last a r l k x xs d other s.1 end 0 x refl in
    subst (λ (y : runs.Config). get_or y.counters l 0 ≤ get_or d.counters l 0) (same_Some c e at) (omega arith)
below_last a r l (suc k) c (x ∷ xs) d other s end (suc j) e at = below_last a r l k x xs d other s.1 end j e at

-- firings of a rule that keep a location empty in the end kept it empty in between
pub kept_between : (a : Automaton) (r k mask : ℕ) (c d : runs.Config) → (fires : Fires a r (suc k) c d) → KeepsEmpty mask c → KeepsEmpty mask d
    → (j : ℕ) (e : runs.Config) → At c fires.later j e → KeepsEmpty mask e
kept_between a r k mask c d fires before after j e at l bit =
    let le = below_last a r l (suc k) c fires.later d (λ rule named same. leaves c fires.later fires.steps (before l bit) rule named same) fires.steps
    fires.last j e at in
    let zero_there = after l bit in
    omega arith where
      leaves : (x : runs.Config) (later : List runs.Config) → Steps a x (replicate (suc k) r) later → get_or x.counters l 0 ≡ 0 → (rule : Rule)
          → slice_get a.rules r ≡ Some rule → l ≡ rule.from → ⊥
      leaves x [] s none rule named same = s
      leaves x (y ∷ ys) s none rule named same =
          let is : s.0.rule ≡ rule = same_Some s.0.rule rule (sym s.0.named ∙ named) in
          let there = ap (λ (q : Rule). get_or x.counters q.from 0) is in
          let here = ap (λ n. get_or x.counters n 0) same in
          let some = s.0.move.some in
          absurd (omega arith)

-- what a line does in the model
pub record Moves (a : Automaton) (p : Pattern) (line : RunLine) (c d : runs.Config) : Type 0 where
  pub more : List runs.Config
  pub steps : Steps a c (unit_steps (line ∷ [])) more
  pub ends : At c more (length (unit_steps (line ∷ []))) d
  pub kept : (k : ℕ) (e : runs.Config) → At c more k e → KeepsEmpty p.empty e
  pub holds : (e : ℕ) (event : Event) → line ≡ Mark e → slice_get p.events e ≡ Some event → Holds event.condition c

step_moves : (a : Automaton) (p : Pattern) (r k : ℕ) (c d : runs.Config) → Fires a r (suc k) c d → KeepsEmpty p.empty c → KeepsEmpty p.empty d
    → Moves a p (Step r (pos (suc k))) c d
step_moves a p r k c d fires before after =
    let whole = append-nil (replicate (suc k) r) in
    let count : suc k ≡ length (replicate (suc k) r ++ []) = sym (ap (λ (xs : List ℕ). length xs) whole ∙ length-replicate (suc k) r) in
    record {
      more = fires.later;
      steps = subst (λ rs. Steps a c rs fires.later) (sym whole) fires.steps;
      ends = subst (λ n. At c fires.later n d) count fires.last;
      kept = kept_between a r k p.empty c d fires before after;
      holds = λ e event same at. absurd (cc);
    }

mark_moves : (a : Automaton) (p : Pattern) (e : ℕ) (c : runs.Config) → KeepsEmpty p.empty c
    → ((event : Event) → slice_get p.events e ≡ Some event → Holds event.condition c) → Moves a p (Mark e) c c
mark_moves a p e c kept holds = record {
  more = [];
  steps = tt;
  ends = refl;
  kept = λ k d at. only k d at;
  holds = λ f event same at. let is : e ≡ f = cc in holds event (subst (λ n. slice_get p.events n ≡ Some event) (sym is) at);
} where
  only : (k : ℕ) (d : runs.Config) → At c [] k d → KeepsEmpty p.empty d
  only zero d at = subst (KeepsEmpty p.empty) (same_Some c d at) kept
  only (suc k) d at = absurd (cc)

pub line_moves : (a : Automaton) (p : Pattern) (Marked : ℕ → Type 0) (before after : Config) (line : RunLine) → LineFits a p line → IsOf a before → IsOf a after
    → LineTakes a p Marked before.values.items line after.values.items → KeepsEmpty p.empty (config_of a before)
    → Moves a p line (config_of a before) (config_of a after)
line_moves a p Marked before after (Step r (pos zero)) fits is was takes kept = absurd (let some = fits.1 in omega (arith, ints))
line_moves a p Marked before after (Step r (negsuc k)) fits is was takes kept = absurd (let some = fits.1 in omega (arith, ints))
line_moves a p Marked before after (Step r (pos (suc k))) fits is was takes kept =
    let named = some_at a.rules r fits.0 in
    let fires = taken_fires a r named.0 (pos (suc k)) before.values.items after.values.items named.1 fits.1 before.natural is after.natural
    (takes.0 named.0 named.1) in
    step_moves a p r k (config_of a before) (config_of a after) fires kept (keeps_at a after p.empty was takes.1)
line_moves a p Marked before after (Mark e) fits is was takes kept =
    let here = mark_moves a p e (config_of a before) kept
    (λ event at. holds_there a event.condition before (holds_from (point_of before.values.items) event.condition (takes.1.1 event at))) in
    subst (λ (vs : List ℤ). Moves a p (Mark e) (config_of a before) (model_of a vs)) (sym takes.0) here

-- one line further
pub path_next : (a : Automaton) (p : Pattern) (lines : List RunLine) (i : ℕ) (first c d : runs.Config) (line : RunLine) → slice_get lines i ≡ Some line
    → Path a p lines i first c → Moves a p line c d → Path a p lines (i + 1) first d
path_next a p lines i first c d line at path m =
    let count = run_length a first (unit_steps (take i lines)) path.later path.steps in
    let ends = subst (λ n. At first path.later n c) (sym count) path.ends in
    let there : length path.later + length (unit_steps (line ∷ [])) ≡ steps_before lines (i + 1) = omega (arith, count, steps_before-next lines i line at) in
    record {
      later = path.later ++ m.more;
      steps = subst (λ rs. Steps a first rs (path.later ++ m.more)) (sym (unit_steps-next lines i line at))
          (steps-append a first (unit_steps (take i lines)) path.later c (unit_steps (line ∷ [])) m.more path.steps path.ends m.steps);
      ends = subst (λ n. At first (path.later ++ m.more) n d) there (at_further first path.later c m.more (length (unit_steps (line ∷ []))) d ends m.ends);
      kept = λ k e here. elim (at_either first path.later c m.more k e ends here) [ inl o ↦ path.kept k e o | inr w ↦ m.kept w.0 e w.1 ];
      happened = λ j e event b marks there. elim (cases_lt j i) [
        | inl less ↦ (let w = path.happened j e event less marks there in (w.0, slice_get_left (first ∷ path.later) m.more (steps_before lines j) w.0 w.1, w.2))
        | inr more ↦ (
            let same : i ≡ j = omega arith in
            let is : line ≡ Mark e = same_Some line (Mark e) (sym at ∙ ap (slice_get lines) same ∙ marks) in (
              c,
              subst (λ n. slice_get (first ∷ (path.later ++ m.more)) (steps_before lines n) ≡ Some c) same
                  (slice_get_left (first ∷ path.later) m.more (steps_before lines i) c path.ends),
              m.holds e event is there,
            ))
      ];
    }
