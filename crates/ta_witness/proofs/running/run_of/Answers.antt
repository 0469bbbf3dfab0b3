use Rattle.ta_witness.proofs.Common.{length-take, Meaning, Parameter, Start, RunLine, AreNaturals, AreValues, AddsStops, StopFits, MomentWithin, listed}
use Rattle.ta_witness.proofs.Common.{no_counts}
use Rattle.ta_moments.proofs.Common.{◌≡◌, ◌≤◌, ℕ, ℤ, pos, ◌≤ℤ◌, List, [], length, map, take, arith, sym, ap, ◌∙◌, refl, subst, slice_get_within, range_with_len}
use Rattle.ta_moments.proofs.Common.{AllByRecursion}
use Rattle.ta_moment_tree.specs.declared.moment.Moment.{Moment}
use Rattle.ta_witness.specs.Values.{unknown_value}
use Rattle.ta_witness.specs.Inside.Stops.{shapes_from, with_shapes}
use Rattle.ta_witness.specs.declared.stop.Stop.{Stop}
use Rattle.ta_witness.proofs.Listing.{are_listed}
use Rattle.ta_witness.proofs.MakingRuns.{few_events, fit_stops, front_known, moments_within, starts_within}
use Rattle.ta_witness.proofs.Ordering.{listed_natural}
use Rattle.ta_witness.proofs.running.run_of.Goals as goal

pub of-task-requires : goal.of-task-requires
of-task-requires c = slice_get_within c.args.scoped.now.file.patterns c.args.number c.args.node.now.plan.task.pattern.now c.requires.is.named

pub stops_of-requires-clause-few : goal.stops_of-requires-clause-few
stops_of-requires-clause-few c = few_events c.args.scoped.now.file c.args.number c.of-task.result.pattern.now c.of-task.ensures.pattern

pub stops_of-requires-clause-within : goal.stops_of-requires-clause-within
stops_of-requires-clause-within c = subst (AllByRecursion (MomentWithin (length c.args.values.now))) (sym c.moments.ensures)
    (moments_within c.args.scoped.now.file c.args.number c.args.node.now c.args.values.now c.of-task.result.pattern.now c.of-task.ensures.pattern c.requires)

pub slice_bounds-front-end : goal.slice_bounds-front-end
slice_bounds-front-end c =
    let le = starts_within c.args.scoped.now.file c.args.number c.args.node.now c.args.values.now c.of-task.result.pattern.now c.of-task.ensures.pattern
    c.requires in
    let few : length c.starts-starts.result.now ≤ length c.args.values.now = subst (λ (ms : List Meaning). length ms ≤ length c.args.values.now)
    (sym c.starts-starts.ensures) le in
    grind (arith, length-take)

pub parameters_of-requires-clause-known : goal.parameters_of-requires-clause-known
parameters_of-requires-clause-known c = subst (λ (ms : List Meaning). AreNaturals ms (take (length ms) c.args.values.now)) (sym c.starts-starts.ensures)
    (front_known c.args.scoped.now.file c.args.number c.args.node.now c.args.values.now c.of-task.result.pattern.now c.of-task.ensures.pattern c.requires)

pub starts_of-requires : goal.starts_of-requires
starts_of-requires c = subst (λ (ms : List Meaning). AreNaturals ms (take (length ms) c.args.values.now)) (sym c.starts-starts.ensures)
    (front_known c.args.scoped.now.file c.args.number c.args.node.now c.args.values.now c.of-task.result.pattern.now c.of-task.ensures.pattern c.requires)

pub lines_of-requires-clause-rules : goal.lines_of-requires-clause-rules
lines_of-requires-clause-rules c =
    let a = c.args.scoped.now.file.automaton in
    let p = c.of-task.result.pattern.now in
    let none : c.as_slice-2.result.now ≡ listed a p no_counts = c.as_slice-2.ensures.value ∙ c.in_ok-none.ensures in
    ap (λ (zs : List ℤ). length zs) none ∙ (are_listed a p no_counts).each_rule

pub lines_of-requires-clause-natural : goal.lines_of-requires-clause-natural
lines_of-requires-clause-natural c =
    let a = c.args.scoped.now.file.automaton in
    let p = c.of-task.result.pattern.now in
    let none : c.as_slice-2.result.now ≡ listed a p no_counts = c.as_slice-2.ensures.value ∙ c.in_ok-none.ensures in
    subst (AllByRecursion (λ z. pos 0 ≤ℤ z)) (sym none) (listed_natural a p no_counts)

pub lines_of-requires-clause-stops : goal.lines_of-requires-clause-stops
lines_of-requires-clause-stops c =
    let a = c.args.scoped.now.file.automaton in
    let p = c.of-task.result.pattern.now in
    let vs = c.args.values.now in
    let made = c.in_ok-stops.ensures.made ∙ ap (λ (ms : List Moment). with_shapes (shapes_from a p vs 0 ms) []) c.moments.ensures in
    subst (AllByRecursion (StopFits a p)) (sym c.as_slice-3.ensures.value)
    (fit_stops c.args.scoped.now.file c.args.number c.args.node.now vs p c.of-task.ensures.pattern c.requires c.in_ok-stops.stops.items made)

pub returns-clause-made : goal.returns-clause-made
returns-clause-made c =
    let a = c.args.scoped.now.file.automaton in
    let p = c.of-task.result.pattern.now in
    let vs = c.args.values.now in
    let made = c.in_ok-stops.ensures.made ∙ ap (λ (ms : List Moment). with_shapes (shapes_from a p vs 0 ms) []) c.moments.ensures in
    let none : c.as_slice-2.result.now ≡ listed a p no_counts = c.as_slice-2.ensures.value ∙ c.in_ok-none.ensures in
    let lines = c.in_ok-lines.lines.items in
    let starts = c.args.node.now.plan.starts in
    let parameters : AreValues (map (λ i. unknown_value starts (take (length starts) vs) (Parameter i)) (range_with_len 0 (length a.parameters)))
    c.in_ok-parameters.parameters.items =
    subst (λ (ms : List Meaning). AreValues (map (λ i. unknown_value ms (take (length ms) vs) (Parameter i)) (range_with_len 0 (length a.parameters)))
    c.in_ok-parameters.parameters.items) c.starts-starts.ensures
    (subst (λ (n : ℕ). AreValues (map (λ i. unknown_value c.starts-starts.result.now (take (length c.starts-starts.result.now) vs) (Parameter i))
    (range_with_len 0 n)) c.in_ok-parameters.parameters.items) (ap length c.as_slice-count.ensures) c.in_ok-parameters.ensures) in
    let counts : AreValues (map (λ l. unknown_value starts (take (length starts) vs) (Start l)) a.initial) c.in_ok-counts.counts.items =
    subst (λ (ms : List Meaning). AreValues (map (λ l. unknown_value ms (take (length ms) vs) (Start l)) a.initial) c.in_ok-counts.counts.items)
    c.starts-starts.ensures
    (subst (λ (ls : List ℕ). AreValues (map (λ l. unknown_value c.starts-starts.result.now (take (length c.starts-starts.result.now) vs) (Start l)) ls)
    c.in_ok-counts.counts.items) c.as_slice.ensures c.in_ok-counts.ensures) in
    let added : AddsStops a p (listed a p no_counts) c.in_ok-stops.stops.items [] lines =
    subst (λ (zs : List ℤ). AddsStops a p zs c.in_ok-stops.stops.items [] lines) none
    (subst (λ (ss : List Stop). AddsStops a p c.as_slice-2.result.now ss [] lines) c.as_slice-3.ensures.value c.in_ok-lines.ensures) in
    record {
      pattern = p;
      named = c.of-task.ensures.pattern;
      same_pattern = refl;
      parameters = subst (λ (zs : List ℤ). AreValues
          (map (λ i. unknown_value starts (take (length starts) vs) (Parameter i)) (range_with_len 0 (length a.parameters))) zs) (sym c.from_vec.ensures)
          parameters;
      counts = subst (λ (zs : List ℤ). AreValues (map (λ l. unknown_value starts (take (length starts) vs) (Start l)) a.initial) zs) (sym c.from_vec-2.ensures)
          counts;
      stops = c.in_ok-stops.stops.items;
      shapes = made;
      lines = subst (λ (ls : List RunLine). AddsStops a p (listed a p no_counts) c.in_ok-stops.stops.items [] ls) (sym c.from_vec-3.ensures) added;
    }
