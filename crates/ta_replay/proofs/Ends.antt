-- where all lines pass
use Rattle.ta_replay.proofs.Common.{◌≡◌, ℕ, ◌<◌, ℤ, List, length, take, subst, slice_get, Some, IsBitSet, slice_get_within, front_get, get_front, point_of, Row}
use Rattle.ta_replay.proofs.Common.{Automaton, Condition, Pattern, Steps, Config, ConditionPasses, MaskedPass, Run, RunLine, Step, Mark, unit_steps, MarksAt}
use Rattle.ta_replay.proofs.Common.{IsMarked, ShowsPattern, LineTakes, LinePasses, InOrder, ConditionStays, MaskedStay, LineStays, NumbersStay, LacksMark}
use Rattle.ta_replay.proofs.Common.{Following, FirstUnmarked, take-length, neither_below}
use Rattle.ta_replay.proofs.Begins.{starts_same, after_same}

-- an event isn't marked on two lines
mark_in_order : (a : Automaton) (p : Pattern) (run : Run) (i e : ℕ) → LinePasses a p run i (Mark e) → InOrder p (IsMarked (take i run.lines)) e
mark_in_order a p run i e passes = passes.takes.1.0

marked_apart : (a : Automaton) (p : Pattern) (run : Run) (i j e : ℕ) → j < i → LinePasses a p run i (Mark e) → MarksAt run.lines j e → ⊥
marked_apart a p run i j e less passes at = (mark_in_order a p run i e passes).new (j, front_get run.lines i j (Mark e) less at)

all_pass : (a : Automaton) (p : Pattern) (run : Run) (config : Config) (marks : ℕ) → Following a p run (length run.lines) config marks
    → (j : ℕ) (line : RunLine) → slice_get run.lines j ≡ Some line → LinePasses a p run j line
all_pass a p run config marks f j line at = f.before j line (slice_get_within run.lines j line at) at

one_line : (a : Automaton) (p : Pattern) (run : Run) (config : Config) (marks : ℕ) → Following a p run (length run.lines) config marks → (e i j : ℕ)
    → MarksAt run.lines i e → MarksAt run.lines j e → j ≡ i
one_line a p run config marks f e i j here there =
    neither_below j i
    (λ less. marked_apart a p run i j e less (all_pass a p run config marks f i (Mark e) here) there)
    (λ less. marked_apart a p run j i e less (all_pass a p run config marks f j (Mark e) there) here)

all_marked : (a : Automaton) (p : Pattern) (run : Run) (config : Config) (marks : ℕ) → Following a p run (length run.lines) config marks → (e : ℕ)
    → IsBitSet marks e → IsMarked run.lines e
all_marked a p run config marks f e bit = let m = (f.marked e).0 bit in (m.0, (get_front run.lines (length run.lines) m.0 (Mark e) m.1).1)

pub ended_shows : (a : Automaton) (p : Pattern) (run : Run) (config : Config) (marks : ℕ) → Following a p run (length run.lines) config marks
    → ((e : ℕ) → e < length p.events → IsBitSet marks e) → ShowsPattern a p run
ended_shows a p run config marks f all = record {
  first = f.first;
  later = f.path.later;
  begins = f.begins;
  follows = record {
    initial = f.initial;
    steps = subst (λ (lines : List RunLine). Steps a f.first (unit_steps lines) f.path.later) (take-length run.lines) f.path.steps;
  };
  start = f.start;
  kept_empty = f.path.kept;
  marked = λ e event at.
      let m = all_marked a p run config marks f e (all e (slice_get_within p.events e event at)) in
      record {
        line = m.0;
        marked = m.1;
        once = λ j there. one_line a p run config marks f e m.0 j m.1 there;
        happens = f.path.happened m.0 e event (slice_get_within run.lines m.0 (Mark e) m.1) m.1 at;
      };
  in_order = λ e g i event at bit here.
      let m = (mark_in_order a p run i e (all_pass a p run config marks f i (Mark e) here)).after event g at bit in
      let w = get_front run.lines i m.0 (Mark g) m.1 in
      (m.0, w.0, w.1);
}

condition_stays : (point : ℕ → ℤ) (condition : Condition) → ConditionPasses point condition → ConditionStays point condition
condition_stays point condition passes j comparison at k row there = (passes j comparison at k row there).stays

masked_stay : (point : ℕ → ℤ) (mask : ℕ) (rows : List Row) → MaskedPass point mask rows → MaskedStay point mask rows
masked_stay point mask rows passes j row at bit = (passes j row at bit).stays

line_stays : (a : Automaton) (p : Pattern) (Marked : ℕ → Type 0) (values after : List ℤ) (line : RunLine) → LineTakes a p Marked values line after
    → LineStays a p values line
line_stays a p Marked values after (Step r factor) takes = λ rule at.
    let t = takes.0 rule at in
    record { grow = t.grow; rise = masked_stay _ rule.rise a.rise t.guards.rise; fall = masked_stay _ rule.fall a.fall t.guards.fall }
line_stays a p Marked values after (Mark e) takes = λ event at. condition_stays (point_of values) event.condition (takes.1.1 event at)

pub ended_stays : (a : Automaton) (p : Pattern) (run : Run) (config : Config) (marks : ℕ) → Following a p run (length run.lines) config marks
    → NumbersStay a p run
ended_stays a p run config marks f = record {
  resilience = condition_stays (point_of run.parameters) a.resilience f.may_follow.may_start.resilience;
  processes = f.may_follow.may_start.processes_stay;
  sum = f.may_follow.may_start.sum_stays;
  start = λ first starts. subst (λ (vs : List ℤ). ConditionStays (point_of vs) p.start)
      (starts_same a run.parameters run.counts f.may_follow.first first f.may_follow.starts starts)
      (condition_stays (point_of f.may_follow.first) p.start f.may_follow.start);
  lines = λ i line values at reached.
      let passes = all_pass a p run config marks f i line at in
      subst (λ (vs : List ℤ). LineStays a p vs line) (after_same a run (take i run.lines) passes.values values passes.reached reached)
      (line_stays a p (IsMarked (take i run.lines)) passes.values passes.after line passes.takes);
}

pub lacks_mark : (a : Automaton) (p : Pattern) (run : Run) (config : Config) (marks e : ℕ) → Following a p run (length run.lines) config marks
    → FirstUnmarked p marks e → LacksMark a p run e
lacks_mark a p run config marks e f first = record {
  may_follow = f.may_follow;
  passes = all_pass a p run config marks f;
  exists = first.exists;
  missing = λ m. first.missing ((f.marked e).1 (m.0, front_get run.lines (length run.lines) m.0 (Mark e) (slice_get_within run.lines m.0 (Mark e) m.1) m.1));
  before = λ g less. all_marked a p run config marks f g (first.before g less);
}
