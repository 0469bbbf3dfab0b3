-- the configurations of a run that shows a pattern, and their values
use Rattle.ta_replay.proofs.Common.{◌≡◌, ℕ, ◌+◌, ◌<◌, ◌≤◌, ℤ, pos, ◌+ℤ◌, ◌*ℤ◌, List, [], ◌∷◌, ◌++◌, length, take, drop, map, replicate, unsigned_abs, arith}
use Rattle.ta_replay.proofs.Common.{sym, ap, ◌∙◌, refl, subst, slice_get, get_or, Some, length-append, append_assoc, ints, ext_get_or, get_or-take, length-map}
use Rattle.ta_replay.proofs.Common.{length-replicate, same_Some, AllByRecursion, each_take, abs_natural, get_or-pos, slice_get_left, some_at, take_next}
use Rattle.ta_replay.proofs.Common.{point_of, Automaton, Pattern, location_place, rule_change, At, Initial, Steps, value_at, total, Whole, fits_after, move_at}
use Rattle.ta_replay.proofs.Common.{value_at-parameter, value_at-shared, value_at-location, total-append, run_length, model_of, places_of, StartsAt, Fires}
use Rattle.ta_replay.proofs.Common.{naturals_at, model_at, model_whole, same_model, starts_natural, Run, RunLine, Step, Mark, LineFits, unit_steps}
use Rattle.ta_replay.proofs.Common.{steps_before, ShowsPattern, ValuesAfter, line_change, FitsPattern, length-take-le, take-append-drop, append-nil}
use Rattle.ta_replay.proofs.Common.{take-append_seam, take-length}
use Rattle.ta_base.proofs.Totals.{total-replicate}
use Rattle.ta_automaton.specs.Runs as runs
use Rattle.ta_automaton.proofs.Moves.{Fits}
use Rattle.ta_automaton.proofs.RunLaws.{along, first_fits, fits_at}
use Rattle.ta_replay.proofs.Lines.{unit_steps-append}
use Rattle.ta_replay.proofs.Begins.{first_same}
use Rattle.ta_replay.proofs.Occurring.{steps_before_le}

abbrev pub values_of : runs.Config → List ℤ
values_of c = map pos (c.parameters ++ c.shared ++ c.counters)

values-at : (c : runs.Config) (i : ℕ) → point_of (values_of c) i ≡ value_at c i
values-at c i = get_or-pos (c.parameters ++ c.shared ++ c.counters) i

pub first_whole : (a : Automaton) (c : runs.Config) → Initial a c → Whole a c
first_whole a c initial = record { parameters = initial.admissible.count; shared = initial.shared_count; counters = initial.locations_count }

-- a shown run's first configuration has the values that the run starts with
pub shown_starts : (a : Automaton) (p : Pattern) (run : Run) → FitsPattern a p run → (s : ShowsPattern a p run)
    → StartsAt a run.parameters run.counts (values_of s.first)
shown_starts a p run fits s =
    let c = s.first in
    let initial = s.follows.initial in
    let f = first_fits a c initial in
    let count : length (values_of c) ≡ places_of a = omega (
      arith,
      length-map (c.parameters ++ c.shared ++ c.counters) pos,
      length-append (c.parameters ++ c.shared) c.counters,
      length-append c.parameters
          c.shared,
      initial.admissible.count,
      initial.shared_count,
      initial.locations_count,
    ) in
    let parameter = (λ (i : ℕ) (b : i < length a.parameters). values-at c i ∙ value_at-parameter a c i f b
    ∙ ap (λ (ps : List ℕ). pos (get_or ps i 0)) s.begins.parameters ∙ naturals_at run.parameters fits.parameters_natural i) in
    let front : length (take (length a.parameters) (values_of c)) ≡ length a.parameters = length-take-le (length a.parameters) (values_of c) (omega arith) in
    record {
      places = count;
      parameters_first = ext_get_or (pos 0) (take (length a.parameters) (values_of c)) run.parameters (front ∙ sym fits.parameters) (λ i b.
          let below : i < length a.parameters = omega (arith, front) in
          get_or-take (length a.parameters) (values_of c) i (pos 0) below ∙ parameter i below);
      shared_zero = λ x b. values-at c (length a.parameters + x) ∙ value_at-shared a c x f b ∙ ap pos (initial.shared_zero x);
      counts_there = λ j l at. values-at c (location_place a l) ∙ value_at-location a c l f ∙ ap pos (s.begins.counts j l at)
          ∙ naturals_at run.counts fits.counts_natural j;
      others_empty = λ l none. values-at c (location_place a l) ∙ value_at-location a c l f ∙ ap pos (initial.others_empty l none);
    }

pub shown_model : (a : Automaton) (p : Pattern) (run : Run) → FitsPattern a p run → (s : ShowsPattern a p run) → model_of a (values_of s.first) ≡ s.first
shown_model a p run fits s =
    let starts = shown_starts a p run fits s in
    let natural = starts_natural a run.parameters run.counts (values_of s.first) fits.parameters fits.counts fits.parameters_natural fits.counts_natural starts
    in
    same_model a (model_of a (values_of s.first)) s.first (model_whole a (values_of s.first) starts.places) (first_whole a s.first s.follows.initial)
    (λ i. model_at a (values_of s.first) natural i ∙ values-at s.first i)

pub shown_first : (a : Automaton) (p : Pattern) (run : Run) → FitsPattern a p run → (s : ShowsPattern a p run) → (v : List ℤ)
    → StartsAt a run.parameters run.counts v → (i : ℕ) → value_at s.first i ≡ point_of v i
shown_first a p run fits s v starts i = sym (values-at s.first i)
    ∙ first_same a run.parameters run.counts (values_of s.first) v (shown_starts a p run fits s) starts i

-- what steps change
changed : (a : Automaton) (c : runs.Config) (rules : List ℕ) (later : List runs.Config) → Steps a c rules later → Fits a c → (k : ℕ) (d : runs.Config)
    → At c later k d → (place : ℕ) → value_at d place ≡ (value_at c place +ℤ total (λ r. rule_change a (slice_get a.rules r) place) (take k rules))
unfolding total
changed a c rules later steps fits k d at place =
    along a (λ rs b e. Fits a b → value_at e place ≡ (value_at b place +ℤ total (λ r. rule_change a (slice_get a.rules r) place) rs))
    (λ b f. omega (arith, ints))
    (λ r rs b x e step h f.
    let g = fits_after a r b x f step in
    omega (arith, ints, h g, move_at a r b x f g step place))
    c rules later steps k d at fits

-- what lines change
pub lines-change : (a : Automaton) (p : Pattern) (place : ℕ) (lines : List RunLine) → AllByRecursion (LineFits a p) lines
    → total (λ r. rule_change a (slice_get a.rules r) place) (unit_steps lines) ≡ total (line_change a place) lines
unfolding total
lines-change a p place [] fits = refl
lines-change a p place (Step r k ∷ lines) fits =
    let f = λ (q : ℕ). rule_change a (slice_get a.rules q) place in
    let some = fits.0.1 in
    let natural : pos (unsigned_abs k) ≡ k = abs_natural k (omega (arith, ints)) in
    omega (
      arith,
      ints,
      total-append f (replicate (unsigned_abs k) r) (unit_steps lines),
      total-replicate f (unsigned_abs k) r,
      ap (λ z. z *ℤ f r) natural,
      lines-change a p place lines fits.1,
    )
lines-change a p place (Mark e ∷ lines) fits = omega (arith, ints, lines-change a p place lines fits.1)

front_steps : (lines : List RunLine) (i : ℕ) → take (steps_before lines i) (unit_steps lines) ≡ unit_steps (take i lines)
front_steps lines i =
    let whole : unit_steps lines ≡ unit_steps (take i lines) ++ unit_steps (drop i lines) = sym (ap unit_steps (take-append-drop i lines))
    ∙ unit_steps-append (take i lines) (drop i lines) in
    ap (take (steps_before lines i)) whole ∙ take-append_seam (unit_steps (take i lines)) (unit_steps (drop i lines))

-- the configuration before a line
pub record ShownAt (a : Automaton) (p : Pattern) (run : Run) (s : ShowsPattern a p run) (i : ℕ) : Type 0 where
  pub config : runs.Config
  pub at : At s.first s.later (steps_before run.lines i) config
  pub whole : Whole a config
  pub same : (v : List ℤ) → ValuesAfter a run (take i run.lines) v → (place : ℕ) → value_at config place ≡ point_of v place

pub shown_at : (a : Automaton) (p : Pattern) (run : Run) → FitsPattern a p run → (s : ShowsPattern a p run) → (i : ℕ) → i ≤ length run.lines
    → ShownAt a p run s i
shown_at a p run fits s i b =
    let n = steps_before run.lines i in
    let count = run_length a s.first (unit_steps run.lines) s.later s.follows.steps in
    let le = steps_before_le run.lines i (length run.lines) b in
    let all = ap (λ (lines : List RunLine). length (unit_steps lines)) (take-length run.lines) in
    let here = some_at (s.first ∷ s.later) n (omega arith) in
    let fitting = fits_at a s.first (unit_steps run.lines) s.later s.follows n here.0 here.1 in
    record {
      config = here.0;
      at = here.1;
      whole = record {
        parameters = fitting.parameters;
        shared = fitting.shared;
        counters = along a (λ rs b d. length d.counters ≡ length b.counters) (λ b. refl) (λ r rs b x d step h. h ∙ step.move.counters_count) s.first
            (unit_steps run.lines) s.later s.follows.steps n here.0 here.1 ∙ s.follows.initial.locations_count;
      };
      same = λ v reached place.
          let steps = changed a s.first (unit_steps run.lines) s.later s.follows.steps (first_fits a s.first s.follows.initial) n here.0 here.1 place in
          let front = ap (total (λ r. rule_change a (slice_get a.rules r) place)) (front_steps run.lines i) in
          let lines = lines-change a p place (take i run.lines) (each_take (LineFits a p) i run.lines fits.lines) in
          omega (arith, ints, steps, front, lines, reached.changed place, shown_first a p run fits s reached.first reached.starts place);
    }

-- steps in two parts
record Split (a : Automaton) (c : runs.Config) (xs ys : List ℕ) (later : List runs.Config) : Type 0 where
  left : List runs.Config
  right : List runs.Config
  is : later ≡ left ++ right
  steps : Steps a c xs left
  middle : runs.Config
  ends : At c left (length xs) middle
  rest : Steps a middle ys right

split : (a : Automaton) (c : runs.Config) (xs ys : List ℕ) (later : List runs.Config) → Steps a c (xs ++ ys) later → Split a c xs ys later
split a c [] ys later s = record { left = []; right = later; is = refl; steps = tt; middle = c; ends = refl; rest = s }
split a c (x ∷ xs) ys [] s = absurd s
split a c (x ∷ xs) ys (e ∷ es) s =
    let r = split a e xs ys es s.1 in
    record {
      left = e ∷ r.left;
      right = r.right;
      is = ap (λ (ds : List runs.Config). e ∷ ds) r.is;
      steps = (s.0, r.steps);
      middle = r.middle;
      ends = r.ends;
      rest = r.rest;
    }

-- the firings of a step line, from the configuration before it
pub shown_fires : (a : Automaton) (p : Pattern) (run : Run) (s : ShowsPattern a p run) (i r : ℕ) (factor : ℤ) (c : runs.Config)
    → slice_get run.lines i ≡ Some (Step r factor) → At s.first s.later (steps_before run.lines i) c → (d : runs.Config) × Fires a r (unsigned_abs factor) c d
shown_fires a p run s i r factor c at here =
    let k = unsigned_abs factor in
    let back = unit_steps (drop (i + 1) run.lines) in
    let front = unit_steps (take i run.lines) in
    let step = ap (λ (lines : List RunLine). unit_steps lines) (take_next run.lines i (Step r factor) at)
    ∙ unit_steps-append (take i run.lines) (Step r factor ∷ []) in
    let whole : unit_steps run.lines ≡ front ++ (replicate k r ++ back) =
    sym (ap unit_steps (take-append-drop (i + 1) run.lines)) ∙ unit_steps-append (take (i + 1) run.lines) (drop (i + 1) run.lines)
    ∙ ap (λ rs. rs ++ back) (step ∙ ap (λ rs. front ++ rs) (append-nil (replicate k r))) ∙ append_assoc front (replicate k r) back in
    let steps = subst (λ rs. Steps a s.first rs s.later) whole s.follows.steps in
    let one = split a s.first front (replicate k r ++ back) s.later steps in
    let there = subst (λ (ds : List runs.Config). At s.first ds (length front) one.middle) (sym one.is)
    (slice_get_left (s.first ∷ one.left) one.right (length front) one.middle one.ends) in
    let same : one.middle ≡ c = same_Some one.middle c (sym there ∙ here) in
    let two = split a one.middle (replicate k r) back one.right one.rest in
    let fires : Fires a r k one.middle two.middle = record
    { later = two.left; steps = two.steps; last = subst (λ n. At one.middle two.left n two.middle) (length-replicate k r) two.ends } in
    (two.middle, subst (λ x. Fires a r k x two.middle) same fires)
