use Rattle.ta_encode.proofs.Common.{List, ℕ, ◌++◌, map, length, ap, ◌∙◌, range_with_len, none_kept_empty, sample_meanings, Parameter, Start}
use Rattle.ta_encode.proofs.sample.sample_meanings.Goals as goal

pub returns : goal.returns
unfolding sample_meanings
returns c =
    let a = c.args.automaton.now in
    let items = c.in_ok-push_parameters.ensures ∙ ap (λ ms. ms ++ map Parameter (range_with_len 0 (length c.as_slice.result.now))) c.new-meanings.ensures.items
    ∙ ap (λ (ps : List (List ℕ)). map Parameter (range_with_len 0 (length ps))) c.as_slice.ensures in
    c.in_ok-push_starts.ensures ∙ ap (λ (ls : List ℕ). c.push_parameters.new.meanings.items ++ map Start ls) (none_kept_empty a.initial)
    ∙ ap (λ ms. ms ++ map Start a.initial) items
