use Rattle.ta_encode.proofs.Common.{List, ℕ, ◌++◌, map, length, ap, ◌∙◌, range_with_len, Parameter, Start, start_locations, start_meanings}
use Rattle.ta_encode.proofs.unknowns.start_meanings.Goals as goal

pub returns : goal.returns
unfolding start_meanings
returns c =
    let starts = map Start (start_locations c.args.automaton.now c.args.pattern.now) in
    c.in_ok-push_starts.ensures ∙ ap (λ ms. ms ++ starts)
    (c.in_ok-push_parameters.ensures ∙ ap (λ ms. ms ++ map Parameter (range_with_len 0 (length c.as_slice.result.now))) c.new-meanings.ensures.items
    ∙ ap (λ (ps : List (List ℕ)). map Parameter (range_with_len 0 (length ps))) c.as_slice.ensures)
