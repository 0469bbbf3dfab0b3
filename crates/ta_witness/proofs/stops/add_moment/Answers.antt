use Rattle.ta_witness.proofs.Common.{Form, Shape, form_values, moment_shapes, moving_counts, mark_at, shape}
use Rattle.ta_moments.proofs.Common.{subst, ap, sym, ◌∙◌, ◌≡◌, ℕ, List, [], ◌∷◌, map, Option, None}
use Rattle.std.specs.Prelude.{OnOk}
use Rattle.ta_witness.proofs.Placing.{one_shape, two_shapes}
use Rattle.ta_witness.proofs.stops.add_moment.Goals as goal

pub returns-in-Point-clause-added : goal.returns-in-Point-clause-added
returns-in-Point-clause-added c =
    let a = c.args.automaton.now in
    let p = c.args.pattern.now in
    let vs = c.args.values.now in
    let olds = map shape c.args.stops.now.items in
    let x : Shape = (moving_counts a p (form_values vs c.as_slice.result.now), c.mark_at-mark.result) in
    subst (λ (zs : List Shape). OnOk c.add_vector.result (map shape c.add_vector.new.stops.items ≡ zs))
    (one_shape x (moment_shapes a p vs c.args.number c.args.moment.now) olds
    (ap (moment_shapes a p vs c.args.number) c.in-Point.is
    ∙ ap (λ (fs : List Form). (moving_counts a p (form_values vs fs), mark_at p c.args.number) ∷ []) (sym c.as_slice.ensures.value)
    ∙ ap (λ (o : Option ℕ). (moving_counts a p (form_values vs c.as_slice.result.now), o) ∷ []) (sym c.mark_at-mark.ensures))) c.add_vector.ensures.added

pub returns-in_ok-add_vector-in-Pair-clause-added : goal.returns-in_ok-add_vector-in-Pair-clause-added
returns-in_ok-add_vector-in-Pair-clause-added c =
    let a = c.args.automaton.now in
    let p = c.args.pattern.now in
    let vs = c.args.values.now in
    let olds = map shape c.args.stops.now.items in
    subst (λ (zs : List Shape). OnOk c.add_vector-in-Pair-2.result (map shape c.add_vector-in-Pair-2.new.stops.items ≡ zs))
    (two_shapes (moving_counts a p (form_values vs c.as_slice-in-Pair-2.result.now), None)
    (moving_counts a p (form_values vs c.as_slice-in-Pair.result.now), None) (moment_shapes a p vs c.args.number c.args.moment.now) olds
    (map shape c.add_vector-in-Pair.new.stops.items)
    (ap (moment_shapes a p vs c.args.number) c.in-Pair.is
    ∙ ap (λ (fs : List Form). (moving_counts a p (form_values vs fs), None) ∷ (moving_counts a p (form_values vs c.in-Pair.after.items), None) ∷ [])
    (sym c.as_slice-in-Pair-2.ensures.value)
    ∙ ap (λ (fs : List Form). (moving_counts a p (form_values vs c.as_slice-in-Pair-2.result.now), None) ∷ (moving_counts a p (form_values vs fs), None) ∷ [])
    (sym c.as_slice-in-Pair.ensures.value))
    c.in_ok-add_vector-in-Pair.ensures.added) c.add_vector-in-Pair-2.ensures.added
