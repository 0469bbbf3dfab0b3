use Rattle.ta_witness.proofs.Common.{slice_get-get_or, take, take_all, take_more, each_at, AddsStop, AddsStops, StopFits, last_counts}
use Rattle.ta_moments.proofs.Common.{◌≡◌, ◌∙◌, ◌+◌, ◌++◌, ◌∷◌, [], pos, ◌≤ℤ◌, ℤ, List, Some, length, sym, ap, subst, AllByRecursion}
use Rattle.ta_witness.specs.declared.stop.Stop.{Stop}
use Rattle.ta_witness.proofs.Lining.{last_more, stops_more}
use Rattle.ta_witness.proofs.moment_lines.lines_of.Goals.{After-as_slice-after}
use Rattle.ta_witness.proofs.moment_lines.lines_of.Goals as goal

-- the stop at hand has all counts, and its event exists
stop_fits : (c : After-as_slice-after) → StopFits c.args.scoped.now.file.automaton c.args.pattern.now c.stop-item.result
stop_fits c =
    let stops = c.args.stops.now in
    let i = c.loop-stop.stop-index in
    let x = c.stop-item.result in
    each_at (StopFits c.args.scoped.now.file.automaton c.args.pattern.now) stops i x c.requires.stops
    (slice_get-get_or stops i x c.loop-stop-test.true ∙ ap Some (sym c.stop-item.is))

pub loop-stop-preserved : goal.loop-stop-preserved
loop-stop-preserved c =
    let a = c.args.scoped.now.file.automaton in
    let p = c.args.pattern.now in
    let first = c.args.first.now in
    let stops = c.args.stops.now in
    let i = c.loop-stop.stop-index in
    let x : Stop = c.stop-item.result in
    let lines = c.loop-stop.lines.items in
    let new = c.push_stop.new.lines.items in
    let more : take (i + 1) stops ≡ take i stops ++ x ∷ [] = take_more stops i x c.loop-stop-test.true
    ∙ ap (λ (y : Stop). take i stops ++ y ∷ []) (sym c.stop-item.is) in
    let value : c.as_slice-after.result.now ≡ x.counts.items = c.as_slice-after.ensures.value in
    let own : AddsStop a p (last_counts first (take i stops)) x.counts.items x.mark lines new = subst
    (λ (zs : List ℤ). AddsStop a p zs x.counts.items x.mark lines new) c.loop-stop.invariant.1
    (subst (λ (zs : List ℤ). AddsStop a p c.loop-stop.before.now zs x.mark lines new) value c.in_ok-push_stop.ensures) in
    let fits = each_at (StopFits a p) stops i x c.requires.stops (slice_get-get_or stops i x c.loop-stop-test.true ∙ ap Some (sym c.stop-item.is)) in (
      subst (λ (xs : List Stop). AddsStops a p first xs [] new) (sym more) (stops_more a p first (take i stops) x [] lines new c.loop-stop.invariant.0 own),
      value ∙ sym (last_more first (take i stops) x) ∙ ap (last_counts first) (sym more),
      ap (λ (zs : List ℤ). length zs) value ∙ fits.rules,
      subst (AllByRecursion (λ z. pos 0 ≤ℤ z)) (sym value) fits.natural,
    )

pub push_stop-requires-clause-same : goal.push_stop-requires-clause-same
push_stop-requires-clause-same c =
    c.loop-stop.invariant.2 ∙ sym (stop_fits (goal.at.push_stop-requires-clause-same c).After-as_slice-after).rules
    ∙ sym (ap (λ (zs : List ℤ). length zs) c.as_slice-after.ensures.value)

pub push_stop-requires-clause-rules : goal.push_stop-requires-clause-rules
push_stop-requires-clause-rules c =
    ap (λ (zs : List ℤ). length zs) c.as_slice-after.ensures.value ∙ (stop_fits (goal.at.push_stop-requires-clause-rules c).After-as_slice-after).rules

pub push_stop-requires-clause-natural : goal.push_stop-requires-clause-natural
push_stop-requires-clause-natural c = c.loop-stop.invariant.3

pub push_stop-requires-clause-event : goal.push_stop-requires-clause-event
push_stop-requires-clause-event c = (stop_fits (goal.at.push_stop-requires-clause-event c).After-as_slice-after).event

pub returns : goal.returns
returns c =
    subst (λ (xs : List Stop). AddsStops c.args.scoped.now.file.automaton c.args.pattern.now c.args.first.now xs [] c.loop-stop.lines.items)
    (take_all c.loop-stop.stop-index c.args.stops.now c.loop-stop-test.false) c.loop-stop.invariant.0
