-- A run has one first refusal.
use Rattle.ta_replay.proofs.Common.{cases_order, ◌≡◌, inl, inr, ℕ, ◌+◌, ◌<◌, ℤ, pos, List, length, take, refl, sym, ap, ◌∙◌, subst, slice_get, Some, ext_get_or}
use Rattle.ta_replay.proofs.Common.{same_Some, AllByRecursion, each_at, some_at, point_of, Automaton, File, Pattern, Rule, RowFails, RowOutOfRange}
use Rattle.ta_replay.proofs.Common.{ConditionPasses, MayStart, StartsAt, StartFails, StepFails, StepIsTaken, before_last, Run, RunLine, Step, Mark, RunFault}
use Rattle.ta_replay.proofs.Common.{Resilience, Processes, Start, NotEmpty, Guard, Count, MissingEvent, Overflow, Order, Fits, LineFits, IsMarked, EmptyAt}
use Rattle.ta_replay.proofs.Common.{FirstFilled, LinePasses, LineTakes, MarkPasses, MayTakeLines, Takes, ValuesAfter, ConfigRefuses, StartRefuses, FilledAt}
use Rattle.ta_replay.proofs.Common.{LineStops, LineRefuses, StepRefuses, StepFills, MarkRefuses, LacksMark, FirstRefusal, ReplayFault, run_line_number}
use Rattle.ta_counter.specs.declared.fault.StartFault.{StartFault}
use Rattle.ta_counter.specs.declared.fault.StartFault.TheVariants as start
use Rattle.ta_counter.specs.declared.fault.StepFault.{StepFault}
use Rattle.ta_counter.specs.declared.fault.StepFault.TheVariants as step
use Rattle.ta_replay.specs.declared.fault.RunFault.TheVariants.{Event}
use Rattle.ta_replay.proofs.Begins.{starts_same, after_same}
use Rattle.ta_replay.proofs.FirstBad.{condition_clash, condition_meets, fails_clash, guards_clash, guards_meet, leaves_clash, not_both_bad}

-- the checks of the first configuration
start_once : (a : Automaton) (parameters counts : List ℤ) (e f : StartFault) → StartFails a parameters counts e → StartFails a parameters counts f → e ≡ f
start_once a ps cs (start.Resilience k) (start.Resilience l) s t = ap start.Resilience
    (condition_meets (point_of ps) (RowFails (point_of ps)) (RowFails (point_of ps)) (fails_clash (point_of ps)) (fails_clash (point_of ps)) a.resilience k l s
    t).0
start_once a ps cs (start.Resilience k) start.Processes s t = absurd
    (condition_clash (point_of ps) (RowFails (point_of ps)) (fails_clash (point_of ps)) a.resilience k t.resilience s)
start_once a ps cs (start.Resilience k) start.OutOfRange s (inl t) = absurd
    (not_both_bad (point_of ps) (condition_meets (point_of ps) (RowFails (point_of ps)) (RowOutOfRange (point_of ps)) (fails_clash (point_of ps))
    (leaves_clash (point_of ps)) a.resilience k t.0 s t.1).1)
start_once a ps cs (start.Resilience k) start.OutOfRange s (inr t) = absurd
    (condition_clash (point_of ps) (RowFails (point_of ps)) (fails_clash (point_of ps)) a.resilience k t.0 s)
start_once a ps cs start.Processes (start.Resilience k) s t = absurd
    (condition_clash (point_of ps) (RowFails (point_of ps)) (fails_clash (point_of ps)) a.resilience k s.resilience t)
start_once a ps cs start.Processes start.Processes s t = refl
start_once a ps cs start.Processes start.OutOfRange s (inl t) = absurd
    (condition_clash (point_of ps) (RowOutOfRange (point_of ps)) (leaves_clash (point_of ps)) a.resilience t.0 s.resilience t.1)
start_once a ps cs start.Processes start.OutOfRange s (inr (passes, inl leaves)) = absurd (leaves s.processes_stay)
start_once a ps cs start.Processes start.OutOfRange s (inr (passes, inr leaves)) = absurd (leaves s.sum_stays)
start_once a ps cs start.OutOfRange (start.Resilience k) (inl s) t = absurd
    (not_both_bad (point_of ps) (condition_meets (point_of ps) (RowFails (point_of ps)) (RowOutOfRange (point_of ps)) (fails_clash (point_of ps))
    (leaves_clash (point_of ps)) a.resilience k s.0 t s.1).1)
start_once a ps cs start.OutOfRange (start.Resilience k) (inr s) t = absurd
    (condition_clash (point_of ps) (RowFails (point_of ps)) (fails_clash (point_of ps)) a.resilience k s.0 t)
start_once a ps cs start.OutOfRange start.Processes (inl s) t = absurd
    (condition_clash (point_of ps) (RowOutOfRange (point_of ps)) (leaves_clash (point_of ps)) a.resilience s.0 t.resilience s.1)
start_once a ps cs start.OutOfRange start.Processes (inr (passes, inl leaves)) t = absurd (leaves t.processes_stay)
start_once a ps cs start.OutOfRange start.Processes (inr (passes, inr leaves)) t = absurd (leaves t.sum_stays)
start_once a ps cs start.OutOfRange start.OutOfRange s t = refl

may_not_fail : (a : Automaton) (parameters counts : List ℤ) (e : StartFault) → MayStart a parameters counts → StartFails a parameters counts e → ⊥
may_not_fail a ps cs (start.Resilience k) m s = condition_clash (point_of ps) (RowFails (point_of ps)) (fails_clash (point_of ps)) a.resilience k m.resilience s
may_not_fail a ps cs start.Processes m s = s.differ m.same
may_not_fail a ps cs start.OutOfRange m (inl s) = condition_clash (point_of ps) (RowOutOfRange (point_of ps)) (leaves_clash (point_of ps)) a.resilience s.0
    m.resilience s.1
may_not_fail a ps cs start.OutOfRange m (inr (passes, inl leaves)) = leaves m.processes_stay
may_not_fail a ps cs start.OutOfRange m (inr (passes, inr leaves)) = leaves m.sum_stays

-- as an error of the run
of_start : StartFault → RunFault
of_start (start.Resilience k) = Resilience k
of_start start.Processes = Processes
of_start start.OutOfRange = Overflow 1

record StartIs (a : Automaton) (run : Run) (e : RunFault) : Type 0 where
  fault : StartFault
  fails : StartFails a run.parameters run.counts fault
  is : e ≡ of_start fault

start_is : (a : Automaton) (run : Run) (e : RunFault) → ConfigRefuses a run e → StartIs a run e
unfolding of_start
start_is a run (Resilience k) h = record { fault = start.Resilience k; fails = h; is = refl }
start_is a run Processes h = record { fault = start.Processes; fails = h; is = refl }
start_is a run (Overflow line) h = record { fault = start.OutOfRange; fails = h.1; is = ap Overflow h.0 }
start_is a run _ h = absurd h

config_once : (a : Automaton) (run : Run) (e f : RunFault) → ConfigRefuses a run e → ConfigRefuses a run f → e ≡ f
config_once a run e f h g =
    let s = start_is a run e h in
    let t = start_is a run f g in
    s.is ∙ ap of_start (start_once a run.parameters run.counts s.fault t.fault s.fails t.fails) ∙ sym t.is

config_not : (a : Automaton) (run : Run) (e : RunFault) → MayStart a run.parameters run.counts → ConfigRefuses a run e → ⊥
config_not a run e may h = let s = start_is a run e h in may_not_fail a run.parameters run.counts s.fault may s.fails

-- the start condition
condition_once : (p : Pattern) (values : List ℤ) (e f : RunFault) → StartRefuses p values e → StartRefuses p values f → e ≡ f
condition_once p vs (Start k) (Start l) s t = ap Start
    (condition_meets (point_of vs) (RowFails (point_of vs)) (RowFails (point_of vs)) (fails_clash (point_of vs)) (fails_clash (point_of vs)) p.start k l s t).0
condition_once p vs (Start k) (Overflow l) s t = absurd
    (not_both_bad (point_of vs) (condition_meets (point_of vs) (RowFails (point_of vs)) (RowOutOfRange (point_of vs)) (fails_clash (point_of vs))
    (leaves_clash (point_of vs)) p.start k t.1.0 s t.1.1).1)
condition_once p vs (Overflow k) (Start l) s t = absurd
    (not_both_bad (point_of vs) (condition_meets (point_of vs) (RowFails (point_of vs)) (RowOutOfRange (point_of vs)) (fails_clash (point_of vs))
    (leaves_clash (point_of vs)) p.start l s.1.0 t s.1.1).1)
condition_once p vs (Overflow k) (Overflow l) s t = ap Overflow (s.0 ∙ sym t.0)
condition_once p vs (Start k) _ s t = absurd t
condition_once p vs (Overflow k) _ s t = absurd t
condition_once p vs _ f s t = absurd s

condition_not : (p : Pattern) (values : List ℤ) (e : RunFault) → ConditionPasses (point_of values) p.start → StartRefuses p values e → ⊥
condition_not p vs (Start k) passes s = condition_clash (point_of vs) (RowFails (point_of vs)) (fails_clash (point_of vs)) p.start k passes s
condition_not p vs (Overflow k) passes s = condition_clash (point_of vs) (RowOutOfRange (point_of vs)) (leaves_clash (point_of vs)) p.start s.1.0 passes s.1.1
condition_not p vs _ passes s = s

-- a step's checks before `empty`: as an error of the line with a number
of_step : ℕ → StepFault → RunFault
of_step n step.Count = Count n
of_step n (step.OutOfRange place) = Overflow n
of_step n (step.Guard guard) = Guard n guard

leaves_or_guard : (a : Automaton) (rule : Rule) (factor : ℤ) (values : List ℤ) (place guard : ℕ) → StepFails a rule factor values (step.OutOfRange place)
    → StepFails a rule factor values (step.Guard guard) → ⊥
leaves_or_guard a rule factor vs place guard (enough, inl l) t = l.first.bad (t.1 l.number l.first.item l.first.at)
leaves_or_guard a rule factor vs place guard (enough, inr w) t =
    let met = guards_meet a rule (point_of vs) (before_last a rule factor vs) RowFails RowOutOfRange fails_clash leaves_clash guard w.1.0 t.2 w.1.2 in
    not_both_bad met.1.0 met.1.1

step_once : (a : Automaton) (rule : Rule) (factor : ℤ) (values : List ℤ) (n : ℕ) (e f : StepFault) → StepFails a rule factor values e
    → StepFails a rule factor values f → of_step n e ≡ of_step n f
unfolding of_step
step_once a rule factor vs n step.Count step.Count s t = refl
step_once a rule factor vs n step.Count (step.OutOfRange place) s t = absurd (s t.0)
step_once a rule factor vs n step.Count (step.Guard guard) s t = absurd (s t.0)
step_once a rule factor vs n (step.OutOfRange place) step.Count s t = absurd (t s.0)
step_once a rule factor vs n (step.OutOfRange place) (step.OutOfRange other) s t = refl
step_once a rule factor vs n (step.OutOfRange place) (step.Guard guard) s t = absurd (leaves_or_guard a rule factor vs place guard s t)
step_once a rule factor vs n (step.Guard guard) step.Count s t = absurd (t s.0)
step_once a rule factor vs n (step.Guard guard) (step.OutOfRange place) s t = absurd (leaves_or_guard a rule factor vs place guard t s)
step_once a rule factor vs n (step.Guard guard) (step.Guard other) s t =
    ap (Guard n) (guards_meet a rule (point_of vs) (before_last a rule factor vs) RowFails RowFails fails_clash fails_clash guard other s.2 t.2).0

taken_not : (a : Automaton) (rule : Rule) (factor : ℤ) (values after : List ℤ) (e : StepFault) → StepIsTaken a rule factor values after
    → StepFails a rule factor values e → ⊥
taken_not a rule factor vs after step.Count t s = s t.enough
taken_not a rule factor vs after (step.OutOfRange place) t (enough, inl l) = l.first.bad (t.grow l.number l.first.item l.first.at)
taken_not a rule factor vs after (step.OutOfRange place) t (enough, inr w) = guards_clash a rule (point_of vs) (before_last a rule factor vs) RowOutOfRange
    leaves_clash w.1.0 t.guards.rise t.guards.fall w.1.2
taken_not a rule factor vs after (step.Guard guard) t s = guards_clash a rule (point_of vs) (before_last a rule factor vs) RowFails fails_clash guard
    t.guards.rise t.guards.fall s.2

-- a step leads to one list of values
taken_once : (a : Automaton) (rule : Rule) (factor : ℤ) (values v w : List ℤ) → StepIsTaken a rule factor values v → StepIsTaken a rule factor values w → v ≡ w
taken_once a rule factor vs v w s t = ext_get_or (pos 0) v w (s.places ∙ sym t.places) (λ i b. s.changed i ∙ sym (t.changed i))

-- how a step refuses: by its checks, or by `empty`
data StepIs (a : Automaton) (p : Pattern) (values : List ℤ) (r : ℕ) (factor : ℤ) (n : ℕ) (e : RunFault) : Type 0 where
  Checked : (fault : StepFault) → ((rule : Rule) → slice_get a.rules r ≡ Some rule → StepFails a rule factor values fault) → e ≡ of_step n fault
      → StepIs a p values r factor n e
  Filled : StepFills a p values r factor → e ≡ NotEmpty n → StepIs a p values r factor n e

step_is : (a : Automaton) (p : Pattern) (values : List ℤ) (r : ℕ) (factor : ℤ) (n : ℕ) (e : RunFault) → StepRefuses a p values r factor n e
    → StepIs a p values r factor n e
unfolding of_step
step_is a p vs r factor n (Count line) h = Checked step.Count h.1 (ap Count h.0)
step_is a p vs r factor n (Overflow line) h = Checked (step.OutOfRange h.1.0) h.1.1 (ap Overflow h.0)
step_is a p vs r factor n (Guard line guard) h = Checked (step.Guard guard) h.1 (ap (λ l. Guard l guard) h.0)
step_is a p vs r factor n (NotEmpty line) h = Filled h.1 (ap NotEmpty h.0)
step_is a p vs r factor n _ h = absurd h

step_same : (a : Automaton) (p : Pattern) (values : List ℤ) (r : ℕ) (factor : ℤ) (n : ℕ) (e f : RunFault) → r < length a.rules → StepIs a p values r factor n e
    → StepIs a p values r factor n f → e ≡ f
step_same a p vs r factor n e f within (Checked x fails is) (Checked y fail be) =
    let rule = some_at a.rules r within in
    is ∙ step_once a rule.0 factor vs n x y (fails rule.0 rule.1) (fail rule.0 rule.1) ∙ sym be
step_same a p vs r factor n e f within (Checked x fails is) (Filled fills be) =
    let rule = some_at a.rules r within in
    absurd (taken_not a rule.0 factor vs fills.0 x (fills.1 rule.0 rule.1) (fails rule.0 rule.1))
step_same a p vs r factor n e f within (Filled fills is) (Checked y fail be) =
    let rule = some_at a.rules r within in
    absurd (taken_not a rule.0 factor vs fills.0 y (fills.1 rule.0 rule.1) (fail rule.0 rule.1))
step_same a p vs r factor n e f within (Filled fills is) (Filled fill be) = is ∙ sym be

step_not : (a : Automaton) (p : Pattern) (values after : List ℤ) (r : ℕ) (factor : ℤ) (n : ℕ) (e : RunFault) → r < length a.rules
    → Takes a r factor values after → EmptyAt a p.empty after → StepIs a p values r factor n e → ⊥
step_not a p vs after r factor n e within takes kept (Checked x fails is) =
    let rule = some_at a.rules r within in
    taken_not a rule.0 factor vs after x (takes rule.0 rule.1) (fails rule.0 rule.1)
step_not a p vs after r factor n e within takes kept (Filled fills is) =
    let rule = some_at a.rules r within in
    fills.2 (subst (EmptyAt a p.empty) (taken_once a rule.0 factor vs after fills.0 (takes rule.0 rule.1) (fills.1 rule.0 rule.1)) kept)

-- a mark
mark_once : (p : Pattern) (Marked : ℕ → Type 0) (values : List ℤ) (e n : ℕ) (x y : RunFault) → e < length p.events → MarkRefuses p Marked values e n x
    → MarkRefuses p Marked values e n y → x ≡ y
mark_once p Marked vs e n (Order line) (Order other) within s t = ap Order (s.0 ∙ sym t.0)
mark_once p Marked vs e n (Order line) (Overflow other) within s t = absurd (s.1 t.1.0)
mark_once p Marked vs e n (Order line) (Event other) within s t = absurd (s.1 t.1.0)
mark_once p Marked vs e n (Overflow line) (Order other) within s t = absurd (t.1 s.1.0)
mark_once p Marked vs e n (Overflow line) (Overflow other) within s t = ap Overflow (s.0 ∙ sym t.0)
mark_once p Marked vs e n (Overflow line) (Event other) within s t =
    let event = some_at p.events e within in
    let bad = t.1.1 event.0 event.1 in
    let worse = s.1.1 event.0 event.1 in
    absurd (not_both_bad (point_of vs)
    (condition_meets (point_of vs) (RowFails (point_of vs)) (RowOutOfRange (point_of vs)) (fails_clash (point_of vs)) (leaves_clash (point_of vs))
    event.0.condition bad.0 worse.0 bad.1 worse.1).1)
mark_once p Marked vs e n (Event line) (Order other) within s t = absurd (t.1 s.1.0)
mark_once p Marked vs e n (Event line) (Overflow other) within s t =
    let event = some_at p.events e within in
    let bad = s.1.1 event.0 event.1 in
    let worse = t.1.1 event.0 event.1 in
    absurd (not_both_bad (point_of vs)
    (condition_meets (point_of vs) (RowFails (point_of vs)) (RowOutOfRange (point_of vs)) (fails_clash (point_of vs)) (leaves_clash (point_of vs))
    event.0.condition bad.0 worse.0 bad.1 worse.1).1)
mark_once p Marked vs e n (Event line) (Event other) within s t = ap Event (s.0 ∙ sym t.0)
mark_once p Marked vs e n (Order line) _ within s t = absurd t
mark_once p Marked vs e n (Overflow line) _ within s t = absurd t
mark_once p Marked vs e n (Event line) _ within s t = absurd t
mark_once p Marked vs e n _ y within s t = absurd s

mark_not : (p : Pattern) (Marked : ℕ → Type 0) (values : List ℤ) (e n : ℕ) (x : RunFault) → e < length p.events → MarkPasses p Marked values e
    → MarkRefuses p Marked values e n x → ⊥
mark_not p Marked vs e n (Order line) within passes s = s.1 passes.0
mark_not p Marked vs e n (Overflow line) within passes s =
    let event = some_at p.events e within in
    let bad = s.1.1 event.0 event.1 in
    condition_clash (point_of vs) (RowOutOfRange (point_of vs)) (leaves_clash (point_of vs)) event.0.condition bad.0 (passes.1 event.0 event.1) bad.1
mark_not p Marked vs e n (Event line) within passes s =
    let event = some_at p.events e within in
    let bad = s.1.1 event.0 event.1 in
    condition_clash (point_of vs) (RowFails (point_of vs)) (fails_clash (point_of vs)) event.0.condition bad.0 (passes.1 event.0 event.1) bad.1
mark_not p Marked vs e n _ within passes s = s

-- a line
line_once : (a : Automaton) (p : Pattern) (Marked : ℕ → Type 0) (values : List ℤ) (line : RunLine) (n : ℕ) (e f : RunFault) → LineFits a p line
    → LineRefuses a p Marked values line n e → LineRefuses a p Marked values line n f → e ≡ f
line_once a p Marked vs (Step r factor) n e f fits s t = step_same a p vs r factor n e f fits.0 (step_is a p vs r factor n e s) (step_is a p vs r factor n f t)
line_once a p Marked vs (Mark k) n e f fits s t = mark_once p Marked vs k n e f fits s t

line_not : (a : Automaton) (p : Pattern) (Marked : ℕ → Type 0) (values after : List ℤ) (line : RunLine) (n : ℕ) (e : RunFault) → LineFits a p line
    → LineTakes a p Marked values line after → LineRefuses a p Marked values line n e → ⊥
line_not a p Marked vs after (Step r factor) n e fits takes s = step_not a p vs after r factor n e fits.0 takes.0 takes.1 (step_is a p vs r factor n e s)
line_not a p Marked vs after (Mark k) n e fits takes s = mark_not p Marked vs k n e fits takes.1 s

fit_at : (a : Automaton) (p : Pattern) (run : Run) (i : ℕ) (line : RunLine) → AllByRecursion (LineFits a p) run.lines → slice_get run.lines i ≡ Some line
    → LineFits a p line
fit_at a p run i line fits at = each_at (LineFits a p) run.lines i line fits at

-- a line that passes doesn't stop the replay
stop_not : (a : Automaton) (p : Pattern) (run : Run) (e : RunFault) (s : LineStops a p run e) → AllByRecursion (LineFits a p) run.lines
    → LinePasses a p run s.i s.line → ⊥
stop_not a p run e s fits passes =
    let values = after_same a run (take s.i run.lines) passes.values s.config.values.items passes.reached s.reached in
    line_not a p (IsMarked (take s.i run.lines)) s.config.values.items passes.after s.line (run_line_number a s.i) e (fit_at a p run s.i s.line fits s.at)
    (subst (λ (v : List ℤ). LineTakes a p (IsMarked (take s.i run.lines)) v s.line passes.after) values passes.takes) s.refuses

stop_at_one : (a : Automaton) (p : Pattern) (run : Run) (e f : RunFault) (s : LineStops a p run e) (t : LineStops a p run f)
    → AllByRecursion (LineFits a p) run.lines → s.i ≡ t.i → e ≡ f
stop_at_one a p run e f s t fits same =
    let line : t.line ≡ s.line = same_Some t.line s.line (sym t.at ∙ ap (slice_get run.lines) (sym same) ∙ s.at) in
    let reached = subst (λ (i : ℕ). ValuesAfter a run (take i run.lines) t.config.values.items) (sym same) t.reached in
    let values : t.config.values.items ≡ s.config.values.items = after_same a run (take s.i run.lines) t.config.values.items s.config.values.items reached
    s.reached in
    let here = subst (λ (i : ℕ). LineRefuses a p (IsMarked (take i run.lines)) t.config.values.items t.line (run_line_number a i) f) (sym same) t.refuses in
    let there = subst (λ (v : List ℤ). LineRefuses a p (IsMarked (take s.i run.lines)) v t.line (run_line_number a s.i) f) values here in
    let other = subst (λ (l : RunLine). LineRefuses a p (IsMarked (take s.i run.lines)) s.config.values.items l (run_line_number a s.i) f) line there in
    line_once a p (IsMarked (take s.i run.lines)) s.config.values.items s.line (run_line_number a s.i) e f (fit_at a p run s.i s.line fits s.at) s.refuses other

stops_once : (a : Automaton) (p : Pattern) (run : Run) (e f : RunFault) → AllByRecursion (LineFits a p) run.lines → LineStops a p run e → LineStops a p run f
    → e ≡ f
stops_once a p run e f fits s t =
    elim (cases_order s.i t.i) [
      | inl same ↦ stop_at_one a p run e f s t fits same
      | inr other ↦ elim other [
        | inl less ↦ absurd (stop_not a p run e s fits (t.before s.i s.line less s.at))
        | inr more ↦ absurd (stop_not a p run f t fits (s.before t.i t.line more t.at))
      ]
    ]

-- the first filled location
filled_once : (a : Automaton) (p : Pattern) (run : Run) (j k : ℕ) → FirstFilled a p run j → FirstFilled a p run k → j ≡ k
filled_once a p run j k s t =
    elim (cases_order j k) [
      | inl same ↦ same
      | inr other ↦ elim other [
        | inl less ↦ absurd (s.some (t.before j s.location less s.at s.empty))
        | inr more ↦ absurd (t.some (s.before k t.location more t.at t.empty))
      ]
    ]

-- the first event without a mark
lacks_once : (a : Automaton) (p : Pattern) (run : Run) (j k : ℕ) → LacksMark a p run j → LacksMark a p run k → j ≡ k
lacks_once a p run j k s t =
    elim (cases_order j k) [
      | inl same ↦ same
      | inr other ↦ elim other [
        | inl less ↦ absurd (s.missing (t.before j less))
        | inr more ↦ absurd (t.missing (s.before k more))
      ]
    ]

-- the start condition refuses where the run starts
record ConditionStops (a : Automaton) (p : Pattern) (run : Run) (e : RunFault) : Type 0 where
  may_start : MayStart a run.parameters run.counts
  first : List ℤ
  starts : StartsAt a run.parameters run.counts first
  refuses : StartRefuses p first e

record LocationFilled (a : Automaton) (p : Pattern) (run : Run) (e : RunFault) : Type 0 where
  line : ℕ
  is : e ≡ NotEmpty line
  filled : FilledAt a p run line

record EventLacks (a : Automaton) (p : Pattern) (run : Run) (e : RunFault) : Type 0 where
  event : ℕ
  is : e ≡ MissingEvent event
  lacks : LacksMark a p run event

-- which check refuses, in the order of the checks
data Stage (a : Automaton) (p : Pattern) (run : Run) (e : RunFault) : Type 0 where
  AtConfig : ConfigRefuses a run e → Stage a p run e
  AtCondition : ConditionStops a p run e → Stage a p run e
  AtLocation : LocationFilled a p run e → Stage a p run e
  AtLine : LineStops a p run e → Stage a p run e
  AtEnd : EventLacks a p run e → Stage a p run e

stage_of : (a : Automaton) (p : Pattern) (run : Run) (e : RunFault) → FirstRefusal a p run e → Stage a p run e
stage_of a p run (Resilience k) h = AtConfig h
stage_of a p run Processes h = AtConfig h
stage_of a p run (Start k) h = AtCondition (record { may_start = h.may_start; first = h.first; starts = h.starts; refuses = h.stops })
stage_of a p run (NotEmpty line) (inl h) = AtLocation (record { line = line; is = refl; filled = h })
stage_of a p run (NotEmpty line) (inr h) = AtLine h
stage_of a p run (Guard line guard) h = AtLine h
stage_of a p run (Count line) h = AtLine h
stage_of a p run (Event line) h = AtLine h
stage_of a p run (MissingEvent e) h = AtEnd (record { event = e; is = refl; lacks = h })
stage_of a p run (Overflow line) (inl h) = AtConfig h
stage_of a p run (Overflow line) (inr (inl h)) =
    (let s = h.1.1 in AtCondition (record { may_start = s.may_start; first = s.first; starts = s.starts; refuses = (h.0, (h.1.0, s.stops)) }))
stage_of a p run (Overflow line) (inr (inr h)) = AtLine h
stage_of a p run (Order line) h = AtLine h
stage_of a p run _ h = absurd h

-- what stands where the start condition passed
record Begun (a : Automaton) (p : Pattern) (run : Run) : Type 0 where
  first : List ℤ
  starts : StartsAt a run.parameters run.counts first
  start : ConditionPasses (point_of first) p.start

stops_not : (a : Automaton) (p : Pattern) (run : Run) (e : RunFault) → ConditionStops a p run e → Begun a p run → ⊥
stops_not a p run e s b =
    let same = starts_same a run.parameters run.counts b.first s.first b.starts s.starts in
    condition_not p s.first e (subst (λ (v : List ℤ). ConditionPasses (point_of v) p.start) same b.start) s.refuses

conditions_once : (a : Automaton) (p : Pattern) (run : Run) (e f : RunFault) → ConditionStops a p run e → ConditionStops a p run f → e ≡ f
conditions_once a p run e f s t =
    let same = starts_same a run.parameters run.counts t.first s.first t.starts s.starts in
    condition_once p s.first e f s.refuses (subst (λ (v : List ℤ). StartRefuses p v f) same t.refuses)

filled_not : (a : Automaton) (p : Pattern) (run : Run) (e : RunFault) → LocationFilled a p run e → MayTakeLines a p run → ⊥
filled_not a p run e s m = let f = s.filled.filled in f.some (m.empty s.filled.j f.location f.at f.empty)

begun_filled : (a : Automaton) (p : Pattern) (run : Run) (e : RunFault) → LocationFilled a p run e → Begun a p run
begun_filled a p run e s = record { first = s.filled.first; starts = s.filled.starts; start = s.filled.start }

begun_follow : (a : Automaton) (p : Pattern) (run : Run) → MayTakeLines a p run → Begun a p run
begun_follow a p run m = record { first = m.first; starts = m.starts; start = m.start }

stages_once : (a : Automaton) (p : Pattern) (run : Run) (e f : RunFault) → AllByRecursion (LineFits a p) run.lines → Stage a p run e → Stage a p run f → e ≡ f
stages_once a p run e f fits (AtConfig s) (AtConfig t) = config_once a run e f s t
stages_once a p run e f fits (AtConfig s) (AtCondition t) = absurd (config_not a run e t.may_start s)
stages_once a p run e f fits (AtConfig s) (AtLocation t) = absurd (config_not a run e t.filled.may_start s)
stages_once a p run e f fits (AtConfig s) (AtLine t) = absurd (config_not a run e t.may_follow.may_start s)
stages_once a p run e f fits (AtConfig s) (AtEnd t) = absurd (config_not a run e t.lacks.may_follow.may_start s)
stages_once a p run e f fits (AtCondition s) (AtConfig t) = absurd (config_not a run f s.may_start t)
stages_once a p run e f fits (AtCondition s) (AtCondition t) = conditions_once a p run e f s t
stages_once a p run e f fits (AtCondition s) (AtLocation t) = absurd (stops_not a p run e s (begun_filled a p run f t))
stages_once a p run e f fits (AtCondition s) (AtLine t) = absurd (stops_not a p run e s (begun_follow a p run t.may_follow))
stages_once a p run e f fits (AtCondition s) (AtEnd t) = absurd (stops_not a p run e s (begun_follow a p run t.lacks.may_follow))
stages_once a p run e f fits (AtLocation s) (AtConfig t) = absurd (config_not a run f s.filled.may_start t)
stages_once a p run e f fits (AtLocation s) (AtCondition t) = absurd (stops_not a p run f t (begun_filled a p run e s))
stages_once a p run e f fits (AtLocation s) (AtLocation t) =
    let same = filled_once a p run s.filled.j t.filled.j s.filled.filled t.filled.filled in
    s.is ∙ ap NotEmpty (s.filled.line_is ∙ ap (λ j. 2 + length a.parameters + j) same ∙ sym t.filled.line_is) ∙ sym t.is
stages_once a p run e f fits (AtLocation s) (AtLine t) = absurd (filled_not a p run e s t.may_follow)
stages_once a p run e f fits (AtLocation s) (AtEnd t) = absurd (filled_not a p run e s t.lacks.may_follow)
stages_once a p run e f fits (AtLine s) (AtConfig t) = absurd (config_not a run f s.may_follow.may_start t)
stages_once a p run e f fits (AtLine s) (AtCondition t) = absurd (stops_not a p run f t (begun_follow a p run s.may_follow))
stages_once a p run e f fits (AtLine s) (AtLocation t) = absurd (filled_not a p run f t s.may_follow)
stages_once a p run e f fits (AtLine s) (AtLine t) = stops_once a p run e f fits s t
stages_once a p run e f fits (AtLine s) (AtEnd t) = absurd (stop_not a p run e s fits (t.lacks.passes s.i s.line s.at))
stages_once a p run e f fits (AtEnd s) (AtConfig t) = absurd (config_not a run f s.lacks.may_follow.may_start t)
stages_once a p run e f fits (AtEnd s) (AtCondition t) = absurd (stops_not a p run f t (begun_follow a p run s.lacks.may_follow))
stages_once a p run e f fits (AtEnd s) (AtLocation t) = absurd (filled_not a p run f t s.lacks.may_follow)
stages_once a p run e f fits (AtEnd s) (AtLine t) = absurd (stop_not a p run f t fits (s.lacks.passes t.i t.line t.at))
stages_once a p run e f fits (AtEnd s) (AtEnd t) = s.is ∙ ap MissingEvent (lacks_once a p run s.event t.event s.lacks t.lacks) ∙ sym t.is

-- a run has one first refusal
pub one_refusal : (file : File) (run : Run) (e f : RunFault) → Fits file run → ReplayFault file run e → ReplayFault file run f → e ≡ f
one_refusal file run e f fits s t =
    let p = fits.pattern in
    let a = file.automaton in
    stages_once a p run e f fits.lines (stage_of a p run e (s p fits.named)) (stage_of a p run f (t p fits.named))
