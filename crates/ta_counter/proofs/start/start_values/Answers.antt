use Rattle.ta_counter.proofs.Common.{◌≡◌, arith, ℕ, ℤ, pos, ◌+◌, ◌≤◌, ◌++◌, List, length, replicate, ap, ◌∙◌, sym, subst, take-replicate, front_back, Filling}
use Rattle.ta_counter.proofs.Filling.{fill_start}
use Rattle.ta_counter.proofs.start.start_values.Goals as goal

pub returns : goal.returns
returns c =
    let a = c.args.automaton.now in
    let parameters = c.args.parameters.now in
    let more = length c.as_slice.result.now + length c.as_slice-2.result.now in
    let shared = ap (λ (xs : List (List ℕ)). length xs) c.as_slice.ensures in
    let locations = ap (λ (xs : List (List ℕ)). length xs) c.as_slice-2.ensures in
    let limits = a.shape.limits in
    let few : more ≤ 192 = omega arith in
    let items : c.as_mut_slice.result.now ≡ parameters ++ replicate more (pos 0) = c.as_mut_slice.ensures.value ∙ c.with_zeros-values.ensures
    ∙ ap (λ (xs : List ℤ). parameters ++ xs) (take-replicate more 192 (pos 0) few) in
    let begun : Filling a parameters c.args.counts.now c.as_mut_slice.result.now 0 = subst (λ (xs : List ℤ). Filling a parameters c.args.counts.now xs 0)
    (sym items) (fill_start a parameters c.args.counts.now more c.requires.parameters c.requires.parameters_natural (omega arith)) in
    let count : length c.fill_counts.new.values ≡ length c.with_zeros-values.result.items = c.fill_counts.auto.values
    ∙ ap (λ (xs : List ℤ). length xs) c.as_mut_slice.ensures.value in
    rw (front_back c.with_zeros-values.result.items c.fill_counts.new.values count)
    (c.fill_counts.ensures parameters begun)
