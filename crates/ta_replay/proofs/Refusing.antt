-- a run that shows its pattern within the range isn't refused
use Rattle.ta_replay.proofs.Common.{◌≡◌, inl, inr, ℕ, ◌+◌, ◌<◌, ℤ, pos, List, ◌∷◌, length, take, unsigned_abs, arith, sym, ap, ◌∙◌, refl, subst, slice_get}
use Rattle.ta_replay.proofs.Common.{Some, same_Some, slice_get_within, each_at, front_get, get_front, some_at, point_of, Automaton, Condition, File, Pattern}
use Rattle.ta_replay.proofs.Common.{Rule, location_place, HoldsAt, Initial, value_at, value_at-location, fits_whole, RowFails, RowOutOfRange, ConditionStopsAt}
use Rattle.ta_replay.proofs.Common.{config_of, Fires, StepFails, model_at, model_whole, naturals_at, same_model, fails_from, no_start, no_steps, Run, RunLine}
use Rattle.ta_replay.proofs.Common.{Step, Mark, RunFault, Resilience, Processes, Start, NotEmpty, Guard, Count, MissingEvent, Overflow, Order, Memory, LineFits}
use Rattle.ta_replay.proofs.Common.{IsMarked, MarksAt, ShowsPattern, steps_before, InOrder, ConditionStays, StepStays, NumbersStay, ConfigRefuses, StartStops}
use Rattle.ta_replay.proofs.Common.{FilledAt, LineStops, LineRefuses, StepRefuses, MarkRefuses, LacksMark, FirstRefusal, RefusedThough, run_line_number}
use Rattle.ta_replay.proofs.Common.{FitsPattern}
use mathlib.Core.Path.{fun_ext}
use Rattle.ta_automaton.specs.Runs as runs
use Rattle.ta_counter.specs.declared.fault.StepFault.TheVariants as step
use Rattle.ta_counter.specs.declared.fault.StartFault.TheVariants as start
use Rattle.ta_replay.specs.declared.fault.RunFault.TheVariants.{Event}
use Rattle.ta_replay.proofs.Along.{step_values}
use Rattle.ta_replay.proofs.Showing.{shown_starts, shown_model, shown_first, ShownAt, shown_at, shown_fires, values_of}

no_leave : (point : ℕ → ℤ) (condition : Condition) (k : ℕ) → ConditionStays point condition → ConditionStopsAt point (RowOutOfRange point) condition k → ⊥
no_leave point condition k stays stop =
    let inner = stop.bad.1 in
    inner.bad (stays k stop.item stop.at stop.bad.0 inner.item inner.at)

-- the checks before the lines
-- what may still be answered of a run that shows its pattern
abbrev pub Possible : Automaton → Pattern → Run → RunFault → Type 0
Possible a p run (Overflow line) = ¬ NumbersStay a p run
Possible a p run Memory = ⊥
Possible a p run _ = ⊥

pub config_denied : (a : Automaton) (p : Pattern) (run : Run) (fault : RunFault) → FitsPattern a p run → ShowsPattern a p run → ConfigRefuses a run fault
    → Possible a p run fault
config_denied a p run (Resilience k) fits s h =
    (no_start a run.parameters run.counts (start.Resilience k) fits.parameters fits.counts fits.parameters_natural fits.counts_natural h (values_of s.first)
    (shown_starts a p run fits s) (subst (Initial a) (sym (shown_model a p run fits s)) s.follows.initial))
config_denied a p run Processes fits s h =
    (no_start a run.parameters run.counts start.Processes fits.parameters fits.counts fits.parameters_natural fits.counts_natural h (values_of s.first)
    (shown_starts a p run fits s) (subst (Initial a) (sym (shown_model a p run fits s)) s.follows.initial))
config_denied a p run (Overflow line) fits s h = λ stays. elim h.1 [
  | inl w ↦ no_leave (point_of run.parameters) a.resilience w.0 stays.resilience w.1
  | inr w ↦ elim w.1 [ inl leaves ↦ leaves stays.processes | inr leaves ↦ leaves stays.sum ]
]
config_denied a p run _ fits s h = h

start_denied : (a : Automaton) (p : Pattern) (run : Run) (k : ℕ) → FitsPattern a p run → ShowsPattern a p run → StartStops a p run RowFails k → ⊥
start_denied a p run k fits s h =
    let same : value_at s.first ≡ point_of h.first = fun_ext (shown_first a p run fits s h.first h.starts) in
    fails_from (point_of h.first) p.start k h.stops (subst (λ (f : ℕ → ℤ). HoldsAt f p.start) same s.start)

start_leaves_denied : (a : Automaton) (p : Pattern) (run : Run) (k : ℕ) → NumbersStay a p run → StartStops a p run RowOutOfRange k → ⊥
start_leaves_denied a p run k stays h = no_leave (point_of h.first) p.start k (stays.start h.first h.starts) h.stops

filled_denied : (a : Automaton) (p : Pattern) (run : Run) (line : ℕ) → FitsPattern a p run → ShowsPattern a p run → FilledAt a p run line → ⊥
filled_denied a p run line fits s h =
    let f = h.filled in
    let none = s.kept_empty 0 s.first refl f.location f.empty in
    let count = s.begins.counts h.j f.location f.at in
    f.some (sym (naturals_at run.counts fits.counts_natural h.j) ∙ ap pos (sym count ∙ none))

lacks_denied : (a : Automaton) (p : Pattern) (run : Run) (e : ℕ) → ShowsPattern a p run → LacksMark a p run e → ⊥
lacks_denied a p run e s h =
    let event = some_at p.events e h.exists in
    let m = s.marked e event.0 event.1 in
    h.missing (m.line, m.marked)

-- a line, and the configuration before it
record Before (a : Automaton) (p : Pattern) (run : Run) (s : ShowsPattern a p run) (fault : RunFault) (stop : LineStops a p run fault) : Type 0 where
  shown : ShownAt a p run s stop.i
  points : (place : ℕ) → value_at shown.config place ≡ point_of stop.config.values.items place
  model : config_of a stop.config ≡ shown.config
  fit : LineFits a p stop.line

before : (a : Automaton) (p : Pattern) (run : Run) → FitsPattern a p run → (s : ShowsPattern a p run) (fault : RunFault) (stop : LineStops a p run fault)
    → Before a p run s fault stop
before a p run fits s fault stop =
    let c = shown_at a p run fits s stop.i (let b = slice_get_within run.lines stop.i stop.line stop.at in omega arith) in
    let values = stop.config.values.items in
    let points = c.same values stop.reached in
    record {
      shown = c;
      points = points;
      model = same_model a (config_of a stop.config) c.config (model_whole a values stop.is_of.places) c.whole
          (λ i. model_at a values stop.config.natural i ∙ sym (points i));
      fit = each_at (LineFits a p) run.lines stop.i stop.line fits.lines stop.at;
    }

no_firing : (a : Automaton) (p : Pattern) (run : Run) (s : ShowsPattern a p run) (fault : RunFault) (stop : LineStops a p run fault)
    (b : Before a p run s fault stop) (r : ℕ) (factor : ℤ) → slice_get run.lines stop.i ≡ Some (Step r factor)
    → ((d : runs.Config) → ¬ Fires a r (unsigned_abs factor) (config_of a stop.config) d) → ⊥
no_firing a p run s fault stop b r factor at none =
    let fires = shown_fires a p run s stop.i r factor b.shown.config at b.shown.at in
    none fires.0 (subst (λ x. Fires a r (unsigned_abs factor) x fires.0) (sym b.model) fires.1)

step_no_leave : (a : Automaton) (rule : Rule) (factor : ℤ) (values : List ℤ) (place : ℕ) → StepStays a rule factor values
    → StepFails a rule factor values (step.OutOfRange place) → ⊥
step_no_leave a rule factor values place stays h = elim h.1 [
  | inl l ↦ l.first.bad (stays.grow l.number l.first.item l.first.at)
  | inr w ↦ elim w.1.2 [
    | inl stop ↦ stop.bad.1 (stays.rise w.1.0 stop.item stop.at stop.bad.0)
    | inr v ↦ (let stop = v.1.2 in stop.bad.1 (stays.fall v.1.0 stop.item stop.at stop.bad.0))
  ]
]

step_denied : (a : Automaton) (p : Pattern) (run : Run) → FitsPattern a p run → (s : ShowsPattern a p run)
    → (fault : RunFault) (stop : LineStops a p run fault) (r : ℕ) (factor : ℤ) (number : ℕ) → stop.line ≡ Step r factor → (other : RunFault)
    → StepRefuses a p stop.config.values.items r factor number other → Possible a p run other
step_denied a p run fits s fault stop r factor number is other h =
    by_fault other h where
      at : slice_get run.lines stop.i ≡ Some (Step r factor)
      at = stop.at ∙ ap Some is

      fit : LineFits a p (Step r factor)
      fit = subst (LineFits a p) is (before a p run fits s fault stop).fit

      by_fault : (f : RunFault) → StepRefuses a p stop.config.values.items r factor number f → Possible a p run f
      by_fault (Count line) g =
          let named = some_at a.rules r fit.0 in
          no_firing a p run s fault stop (before a p run fits s fault stop) r factor at
          (no_steps a r named.0 factor stop.config step.Count named.1 fit.1 stop.is_of (g.1 named.0 named.1))
      by_fault (Guard line guard) g =
          let named = some_at a.rules r fit.0 in
          no_firing a p run s fault stop (before a p run fits s fault stop) r factor at
          (no_steps a r named.0 factor stop.config (step.Guard guard) named.1 fit.1 stop.is_of (g.1 named.0 named.1))
      by_fault (Overflow line) g =
          let named = some_at a.rules r fit.0 in
          λ stays. step_no_leave a named.0 factor stop.config.values.items g.1.0
          (stays.lines stop.i (Step r factor) stop.config.values.items at stop.reached named.0 named.1) (g.1.1 named.0 named.1)
      by_fault (NotEmpty line) g =
          let after = g.1.0 in
          let reached = step_values a run stop.i r factor stop.config.values.items after fit.0 at stop.reached g.1.1 in
          let c = shown_at a p run fits s (stop.i + 1) (let b = slice_get_within run.lines stop.i (Step r factor) at in omega arith) in
          g.1.2 (λ l bit. sym (c.same after reached (location_place a l)) ∙ value_at-location a c.config l (fits_whole a c.config c.whole)
          ∙ ap pos (s.kept_empty (steps_before run.lines (stop.i + 1)) c.config c.at l bit))
      by_fault _ g = g

order_there : (a : Automaton) (p : Pattern) (run : Run) → (s : ShowsPattern a p run) (i e : ℕ) → e < length p.events → MarksAt run.lines i e
    → InOrder p (IsMarked (take i run.lines)) e
order_there a p run s i e exists at = record {
  new = λ m.
      let event = some_at p.events e exists in
      let once = (s.marked e event.0 event.1).once in
      let w = get_front run.lines i m.0 (Mark e) m.1 in
      let here = once i at in
      let there = once m.0 w.1 in
      let less = w.0 in
      omega arith;
  after = λ event f named bit.
      let w = s.in_order e f i event named bit at in
      (w.0, front_get run.lines i w.0 (Mark f) w.1 w.2);
}

mark_denied : (a : Automaton) (p : Pattern) (run : Run) → FitsPattern a p run → (s : ShowsPattern a p run)
    → (fault : RunFault) (stop : LineStops a p run fault) (e number : ℕ) → stop.line ≡ Mark e → (other : RunFault)
    → MarkRefuses p (IsMarked (take stop.i run.lines)) stop.config.values.items e number other → Possible a p run other
mark_denied a p run fits s fault stop e number is other h =
    by_fault other h where
      at : MarksAt run.lines stop.i e
      at = stop.at ∙ ap Some is

      exists : e < length p.events
      exists = subst (LineFits a p) is (before a p run fits s fault stop).fit

      by_fault : (f : RunFault) → MarkRefuses p (IsMarked (take stop.i run.lines)) stop.config.values.items e number f → Possible a p run f
      by_fault (Order line) g = g.1 (order_there a p run s stop.i e exists at)
      by_fault (Overflow line) g =
          let event = some_at p.events e exists in
          let w = g.1.1 event.0 event.1 in
          λ stays. no_leave (point_of stop.config.values.items) event.0.condition w.0
          (stays.lines stop.i (Mark e) stop.config.values.items at stop.reached event.0 event.1) w.1
      by_fault (Event line) g =
          let event = some_at p.events e exists in
          let w = g.1.1 event.0 event.1 in
          let m = s.marked e event.0 event.1 in
          let b = before a p run fits s fault stop in
          let same_line = m.once stop.i at in
          let there = subst (λ n. slice_get (s.first ∷ s.later) (steps_before run.lines n) ≡ Some m.happens.0) (sym same_line) m.happens.1 in
          let same : m.happens.0 ≡ b.shown.config = same_Some m.happens.0 b.shown.config (sym there ∙ b.shown.at) in
          let points : value_at b.shown.config ≡ point_of stop.config.values.items = fun_ext b.points in
          fails_from (point_of stop.config.values.items) event.0.condition w.0 w.1
          (subst (λ (f : ℕ → ℤ). HoldsAt f event.0.condition) (ap value_at same ∙ points) m.happens.2)
      by_fault _ g = g

line_denied : (a : Automaton) (p : Pattern) (run : Run) → FitsPattern a p run → ShowsPattern a p run → (fault : RunFault) → LineStops a p run fault
    → Possible a p run fault
line_denied a p run fits s fault stop = by_line stop.line refl stop.refuses where
  by_line : (line : RunLine) → stop.line ≡ line → LineRefuses a p (IsMarked (take stop.i run.lines)) stop.config.values.items line (run_line_number a stop.i)
      fault → Possible a p run fault
  by_line (Step r factor) is h = step_denied a p run fits s fault stop r factor (run_line_number a stop.i) is fault h
  by_line (Mark e) is h = mark_denied a p run fits s fault stop e (run_line_number a stop.i) is fault h

-- a run that shows its pattern is refused only where a number leaves the range
pub denied : (a : Automaton) (p : Pattern) (run : Run) → FitsPattern a p run → ShowsPattern a p run → (fault : RunFault) → FirstRefusal a p run fault
    → Possible a p run fault
denied a p run fits s (Resilience k) h = config_denied a p run (Resilience k) fits s h
denied a p run fits s Processes h = config_denied a p run Processes fits s h
denied a p run fits s (Start k) h = start_denied a p run k fits s h
denied a p run fits s (NotEmpty line) (inl h) = filled_denied a p run line fits s h
denied a p run fits s (NotEmpty line) (inr h) = line_denied a p run fits s (NotEmpty line) h
denied a p run fits s (Guard line guard) h = line_denied a p run fits s (Guard line guard) h
denied a p run fits s (Count line) h = line_denied a p run fits s (Count line) h
denied a p run fits s (Event line) h = line_denied a p run fits s (Event line) h
denied a p run fits s (MissingEvent e) h = lacks_denied a p run e s h
denied a p run fits s (Overflow line) (inl h) = config_denied a p run (Overflow line) fits s h
denied a p run fits s (Overflow line) (inr (inl h)) = λ stays. start_leaves_denied a p run h.1.0 stays h.1.1
denied a p run fits s (Overflow line) (inr (inr h)) = line_denied a p run fits s (Overflow line) h
denied a p run fits s (Order line) h = line_denied a p run fits s (Order line) h
denied a p run fits s _ h = h

pub only_memory : (a : Automaton) (p : Pattern) (run : Run) → NumbersStay a p run → (fault : RunFault) → Possible a p run fault → fault ≡ Memory
only_memory a p run stays (Overflow line) h = absurd (h stays)
only_memory a p run stays Memory h = refl
only_memory a p run stays _ h = absurd h

-- the same, of the pattern that a file names
pub refused_though : (file : File) (p : Pattern) (run : Run) → slice_get file.patterns run.pattern ≡ Some p → (fault : RunFault)
    → Possible file.automaton p run fault → RefusedThough file run fault
refused_though file p run named (Overflow line) h = λ stays. h (stays p named)
refused_though file p run named _ h = h
