-- a run is followed line by line
use Rattle.ta_compress.proofs.Common.{◌≡◌, inl, inr, ℕ, ◌+◌, ◌<◌, ℤ, pos, List, [], ◌∷◌, ◌++◌, take, drop, unsigned_abs, arith, sym, ap, ◌∙◌, refl, subst}
use Rattle.ta_compress.proofs.Common.{slice_get, Some, append-nil, fun_ext, ints, cases_lt, same_Some, each_at, each_take, point_of, File, Pattern, total}
use Rattle.ta_compress.proofs.Common.{total-append, GuardsStay, StartsAt, RunFault, Run, RunLine, Step, Mark, Fits, LineFits, run_line_number, ValuesAfter}
use Rattle.ta_compress.proofs.Common.{line_change, ShowsPattern, factor_of, factors_sum, FitsPattern, Draft, CompressFault, Replay, TooManySteps, Memory}
use Rattle.ta_compress.proofs.Common.{IsSmallReplay, CompressFaultOf, GuardsStayed, GuardsOutOfRangeIn, AreCut, CutOf, units, EndsAtLastMark, unfolded}
use Rattle.ta_compress.proofs.Common.{value_after, DraftAt, LineKeeps, LineMay, DraftStops, RepeatStops, Room, repeated}
use Rattle.ta_replay.specs.declared.fault.RunFault.TheVariants as runs
use Rattle.ta_compress.proofs.Repeating.{may_repeat}
use Rattle.ta_compress.proofs.Unfolding.{unfold-next, unfold-value, factors_at, factors_behind, nothing_open}

-- a run fits the pattern that it names
pub fits_named : (file : File) (run : Run) (fits : Fits file run) → FitsPattern file.automaton fits.pattern run
fits_named file run fits = record {
  parameters = fits.parameters;
  parameters_natural = fits.parameters_natural;
  counts = fits.counts;
  counts_natural = fits.counts_natural;
  lines = fits.lines;
}

-- the first lines are followed, and no guard left the range
pub record Going (file : File) (run : Run) (number : ℕ) (draft : Draft) : Type 0 where
  pub first : List ℤ
  pub starts : StartsAt file.automaton run.parameters run.counts first
  pub at_start : GuardsStay file.automaton (point_of first)
  pub at : DraftAt file.automaton first (unfolded (take number run.lines)) draft
  pub kept : (i : ℕ) → i < number → GuardsOutOfRangeIn file.automaton first run.lines i → ⊥
  pub room : Room (factors_sum (drop number run.lines)) draft.counts.items

-- the values behind some lines
reached_values : (file : File) (run : Run) (number : ℕ) (draft : Draft) → Fits file run → (g : Going file run number draft) → (place : ℕ)
    → point_of draft.config.values.items place ≡ value_after file.automaton g.first (take number run.lines) place
reached_values file run number draft fits g place =
    g.at.reached place ∙ unfold-value file.automaton fits.pattern g.first (take number run.lines)
    (each_take (LineFits file.automaton fits.pattern) number run.lines fits.lines) place

pub values_there : (file : File) (run : Run) (number : ℕ) (draft : Draft) → Fits file run → Going file run number draft
    → ValuesAfter file.automaton run (take number run.lines) draft.config.values.items
values_there file run number draft fits g = record {
  first = g.first;
  starts = g.starts;
  places = g.at.ready.is_of.places ∙ sym g.starts.places;
  changed = reached_values file run number draft fits g;
}

-- the next line may be followed
pub may_follow : (file : File) (run : Run) (number : ℕ) (draft : Draft) (line : RunLine) → Fits file run → IsSmallReplay file run → Going file run number draft
    → slice_get run.lines number ≡ Some line → LineMay file.automaton draft line
may_follow file run number draft (Mark e) fits admitted g at = tt
may_follow file run number draft (Step r k) fits admitted g at =
    let a = file.automaton in
    let fit = each_at (LineFits a fits.pattern) run.lines number (Step r k) fits.lines at in
    let shown = admitted.replayed.shows in
    let same : shown.pattern ≡ fits.pattern = same_Some shown.pattern fits.pattern (sym shown.named ∙ fits.named) in
    let shows = subst (λ (p : Pattern). ShowsPattern a p run) same shown.shows in
    let stays = admitted.replayed.stays fits.pattern fits.named in
    let here = factors_at run.lines number (Step r k) at in
    let most = factors_behind run.lines number in
    let few = admitted.few in (
      fit.0,
      fit.1,
      omega arith,
      may_repeat a fits.pattern run (fits_named file run fits) shows stays number r k at draft.config.values.items (values_there file run number draft fits g),
      λ q. (let room = g.room q in omega (arith, ints)),
    )

-- a unit step within a line, as a line of its own
step_value : (file : File) (run : Run) (number : ℕ) (draft : Draft) → Fits file run → (g : Going file run number draft) → (r times : ℕ) (place : ℕ)
    → repeated file.automaton r draft.config.values.items times place ≡ value_after file.automaton g.first (take number run.lines ++ Step r (pos times) ∷ [])
    place
unfolding total
step_value file run number draft fits g r times place =
    omega (
      arith,
      ints,
      reached_values file run number draft fits g place,
      total-append (line_change file.automaton place) (take number run.lines)
          (Step r (pos times) ∷ []),
    )

kept_there : (file : File) (run : Run) (number : ℕ) (draft : Draft) (line : RunLine) → Fits file run → (g : Going file run number draft)
    → slice_get run.lines number ≡ Some line → LineKeeps file.automaton draft.config.values.items line
    → GuardsOutOfRangeIn file.automaton g.first run.lines number → ⊥
kept_there file run number draft (Mark e) fits g at keeps l =
    let same = same_Some (Mark e) (Step l.rule l.factor) (sym at ∙ l.at) in
    absurd (cc)
kept_there file run number draft (Step r k) fits g at keeps l =
    let same = same_Some (Step r k) (Step l.rule l.factor) (sym at ∙ l.at) in
    let rule : r ≡ l.rule = cc in
    let factor : k ≡ l.factor = cc in
    let most = l.most in
    let stay = keeps l.times l.some (let e = ap unsigned_abs factor in omega arith) in
    l.leaves (subst (λ q. GuardsStay file.automaton (value_after file.automaton g.first (take number run.lines ++ Step q (pos l.times) ∷ []))) rule
    (subst (GuardsStay file.automaton) (fun_ext (step_value file run number draft fits g r l.times)) stay))

-- one line further
pub going_next : (file : File) (run : Run) (number : ℕ) (old new : Draft) (line : RunLine) → Fits file run → (g : Going file run number old)
    → slice_get run.lines number ≡ Some line →
    ((first : List ℤ) (done : List RunLine) → DraftAt file.automaton first done old → DraftAt file.automaton first (done ++ unfolded (line ∷ [])) new)
    → LineKeeps file.automaton old.config.values.items line → ((more : ℕ) → Room (factor_of line + more) old.counts.items → Room more new.counts.items)
    → Going file run (number + 1) new
going_next file run number old new line fits g at goes keeps room = record {
  first = g.first;
  starts = g.starts;
  at_start = g.at_start;
  at = subst (λ (ls : List RunLine). DraftAt file.automaton g.first ls new) (sym (unfold-next run.lines number line at))
      (goes g.first (unfolded (take number run.lines)) g.at);
  kept = λ i b l. elim (cases_lt i number) [
    | inl less ↦ g.kept i less l
    | inr more ↦ (let same : i ≡ number = omega arith in kept_there file run number old line fits g at keeps
        (subst (λ n. GuardsOutOfRangeIn file.automaton g.first run.lines n) same l))
  ];
  room = room (factors_sum (drop (number + 1) run.lines)) (subst (λ n. Room n old.counts.items) (factors_at run.lines number line at) g.room);
}

-- a line that stops
pub going_stops : (file : File) (run : Run) (number n : ℕ) (draft : Draft) (line : RunLine) (place : ℕ) (fault : CompressFault) → Fits file run
    → IsSmallReplay file run → Going file run number draft → EndsAtLastMark run.lines n → number < n → slice_get run.lines number ≡ Some line
    → place ≡ run_line_number file.automaton number → DraftStops file.automaton draft.config.values.items line place fault → CompressFaultOf file run fault
going_stops file run number n draft (Mark e) place fault fits admitted g last b at is stops = subst (CompressFaultOf file run) (sym stops) tt
going_stops file run number n draft (Step r k) place (TooManySteps steps) fits admitted g last b at is stops = absurd stops
going_stops file run number n draft (Step r k) place Memory fits admitted g last b at is stops = tt
going_stops file run number n draft (Step r k) place (Replay fault) fits admitted g last b at is stops = by_fault fault stops where
  by_fault : (f : RunFault) → RepeatStops file.automaton r (unsigned_abs k) draft.config.values.items place (Replay f) → CompressFaultOf file run (Replay f)
  by_fault (runs.Overflow l) s = inr (record {
    replayed = admitted.replayed;
    few = admitted.few;
    line = l;
    is = refl;
    leaves = inr (
      number,
      s.0 ∙ is,
      record {
        first = g.first;
        starts = g.starts;
        n = n;
        last_mark = last;
        at_start = g.at_start;
        within = b;
        leaves = record {
          rule = r;
          factor = k;
          at = at;
          times = s.1.times;
          some = s.1.some;
          most = s.1.most;
          leaves = λ stay. s.1.leaves (subst (GuardsStay file.automaton) (sym (fun_ext (step_value file run number draft fits g r s.1.times))) stay);
        };
        before = λ j less l. g.kept j less l;
      },
    );
  })
  by_fault _ s = absurd s

-- all lines up to the last mark are followed
pub gone : (file : File) (run : Run) (n : ℕ) (draft : Draft) → EndsAtLastMark run.lines n → Going file run n draft → CutOf file.automaton run draft.lines.items
gone file run n draft last g =
    let d = g.at in
    let none = nothing_open run.lines n d.written d.open_ last d.done_is in
    let whole : unfolded (take n run.lines) ≡ d.written = d.done_is ∙ ap (λ (xs : List ℕ). d.written ++ units xs) none ∙ append-nil d.written in
    record {
      first = g.first;
      starts = g.starts;
      n = n;
      last_mark = last;
      pieces = d.pieces;
      cut = subst (λ (ls : List RunLine). AreCut file.automaton g.first [] ls d.pieces draft.lines.items) (sym whole) d.cut;
    }

pub gone_stayed : (file : File) (run : Run) (n : ℕ) (draft : Draft) → EndsAtLastMark run.lines n → Going file run n draft → GuardsStayed file.automaton run
gone_stayed file run n draft last g = record
    { first = g.first; starts = g.starts; n = n; last_mark = last; at_start = g.at_start; on_the_way = λ i b l. g.kept i b l }
