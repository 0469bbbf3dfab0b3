use Rattle.ta_replay.proofs.Common.{◌-◌, ◌^◌, ◌≤◌, ◌∙◌, ℕ, List, length, min, ap, sym, subst, arith, same_Some, err_is, Event, Pattern, pattern_within, RunLine}
use Rattle.ta_replay.proofs.Common.{FirstRefusal, NumbersStay, factors_sum, slice_get_within}
use Rattle.ta_replay.specs.declared.run.Shown.{Shown}
use Rattle.ta_replay.proofs.Counting.{marks_are_events}
use Rattle.ta_replay.proofs.Naming.{named_read, fits_read, shows_read}
use Rattle.ta_replay.proofs.Refusing.{denied, only_memory, refused_though}
use Rattle.ta_replay.proofs.replaying.replay.Goals as goal

pub bounds-as_slice-run : goal.bounds-as_slice-run
bounds-as_slice-run c =
    let within = slice_get_within c.args.file.now.patterns c.args.run.now.pattern c.requires.pattern c.requires.named in
    let count = ap (λ (ps : List Pattern). length ps) c.as_slice.ensures in
    omega (arith, within, count)

pub replay_pattern-requires-clause-fits : goal.replay_pattern-requires-clause-fits
replay_pattern-requires-clause-fits c =
    let file = c.args.file.now in
    let run = c.args.run.now in
    let pattern = c.index-as_slice-run.result in
    let named = named_read file run c.as_slice.result.now pattern c.requires c.as_slice.ensures c.index-as_slice-run.is in
    fits_read file run pattern c.requires named

pub replay_pattern-requires-clause-within : goal.replay_pattern-requires-clause-within
replay_pattern-requires-clause-within c =
    let file = c.args.file.now in
    let run = c.args.run.now in
    let pattern = c.index-as_slice-run.result in
    let named = named_read file run c.as_slice.result.now pattern c.requires c.as_slice.ensures c.index-as_slice-run.is in
    pattern_within file run.pattern pattern named

pub returns-in_err-replay_pattern-clause-fault : goal.returns-in_err-replay_pattern-clause-fault
returns-in_err-replay_pattern-clause-fault c =
    let file = c.args.file.now in
    let run = c.args.run.now in
    let pattern = c.index-as_slice-run.result in
    let named = named_read file run c.as_slice.result.now pattern c.requires c.as_slice.ensures c.index-as_slice-run.is in
    let e = c.in_err-replay_pattern.field-0.0 in
    rw (err_is c.from_residual.result _ c.from_residual.ensures.1)
    (λ p at. subst (λ (q : Pattern). FirstRefusal file.automaton q run e) (same_Some pattern p (sym named ∙ at)) c.in_err-replay_pattern.ensures.refuses)

pub returns-in_err-replay_pattern-clause-only : goal.returns-in_err-replay_pattern-clause-only
returns-in_err-replay_pattern-clause-only c = λ shown stays.
    let file = c.args.file.now in
    let run = c.args.run.now in
    let pattern = c.index-as_slice-run.result in
    let named = named_read file run c.as_slice.result.now pattern c.requires c.as_slice.ensures c.index-as_slice-run.is in
    rw (err_is c.from_residual.result _ c.from_residual.ensures.1)
    (only_memory file.automaton pattern run (stays pattern named) c.in_err-replay_pattern.field-0.0
    (denied file.automaton pattern run (fits_read file run pattern c.requires named) (shows_read file run pattern shown named)
    c.in_err-replay_pattern.field-0.0 c.in_err-replay_pattern.ensures.refuses))

pub returns-in_err-replay_pattern-clause-shown : goal.returns-in_err-replay_pattern-clause-shown
returns-in_err-replay_pattern-clause-shown c = λ shown.
    let file = c.args.file.now in
    let run = c.args.run.now in
    let pattern = c.index-as_slice-run.result in
    let named = named_read file run c.as_slice.result.now pattern c.requires c.as_slice.ensures c.index-as_slice-run.is in
    rw (err_is c.from_residual.result _ c.from_residual.ensures.1)
    (refused_though file pattern run named c.in_err-replay_pattern.field-0.0
    (denied file.automaton pattern run (fits_read file run pattern c.requires named) (shows_read file run pattern shown named)
    c.in_err-replay_pattern.field-0.0 c.in_err-replay_pattern.ensures.refuses))

pub overflow_cast-result : goal.overflow_cast-result
overflow_cast-result c =
    let file = c.args.file.now in
    let run = c.args.run.now in
    let pattern = c.index-as_slice-run.result in
    let named = named_read file run c.as_slice.result.now pattern c.requires c.as_slice.ensures c.index-as_slice-run.is in
    let within = pattern_within file run.pattern pattern named in
    let limit : length pattern.events ≤ 8 = within.events_limit in
    let count = ap (λ (es : List Event). length es) c.as_slice-3.ensures in
    omega arith

pub returns-clause-shows : goal.returns-clause-shows
returns-clause-shows c =
    let pattern = c.index-as_slice-run.result in
    record {
      pattern = pattern;
      named = named_read c.args.file.now c.args.run.now c.as_slice.result.now pattern c.requires c.as_slice.ensures c.index-as_slice-run.is;
      shows = c.in_ok-replay_pattern.ensures.shows;
    }

pub returns-clause-stays : goal.returns-clause-stays
returns-clause-stays c = λ p at.
    let file = c.args.file.now in
    let run = c.args.run.now in
    let pattern = c.index-as_slice-run.result in
    let named = named_read file run c.as_slice.result.now pattern c.requires c.as_slice.ensures c.index-as_slice-run.is in
    subst (λ (q : Pattern). NumbersStay file.automaton q run) (same_Some pattern p (sym named ∙ at)) c.in_ok-replay_pattern.ensures.stays

pub returns-clause-counts : goal.returns-clause-counts
returns-clause-counts c =
    let file = c.args.file.now in
    let run = c.args.run.now in
    let pattern = c.index-as_slice-run.result in
    let named = named_read file run c.as_slice.result.now pattern c.requires c.as_slice.ensures c.index-as_slice-run.is in
    let fits = fits_read file run pattern c.requires named in
    let steps = c.steps_of.ensures ∙ ap (λ (lines : List RunLine). min (factors_sum lines) (2 ^ 64 - 1)) c.as_slice-2.ensures in
    let count = ap (λ (es : List Event). length es) c.as_slice-3.ensures in
    let marks = count ∙ sym (marks_are_events file.automaton pattern run fits.lines c.in_ok-replay_pattern.ensures.shows) in
    ap (λ (n : ℕ). let s : Shown = record { steps = n; marks = length c.as_slice-3.result.now } in s) steps
    ∙ ap (λ (n : ℕ). let s : Shown = record { steps = min (factors_sum run.lines) (2 ^ 64 - 1); marks = n } in s) marks
