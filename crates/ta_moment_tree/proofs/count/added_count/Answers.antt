use Rattle.ta_moment_tree.proofs.Common.{◌≡◌, ◌+◌, ℕ, Bool, not, length, slice_get, arith, ap, refl, ◌∙◌, filter, Fact, has_guard, moving_rules, with_fact}
use Rattle.std.proofs.lemmas.List.Filters.{length-filter_both}
use Rattle.ta_moment_tree.proofs.count.added_count.Goals as goal

pub returns-in-Last-clause-value : goal.returns-in-Last-clause-value
returns-in-Last-clause-value c silent end k =
    let a = c.args.task.automaton.now in
    let p = c.args.task.pattern.now in
    let g = c.in-Last.field-0 in
    let test : ℕ → Bool = λ r. has_guard a g (slice_get a.rules r) in
    let both = length-filter_both test (λ r. not (test r)) (λ r. refl) (moving_rules a p) in
    let value = c.moving_count.ensures.value in
    let sum : length (filter (λ r. not (test r)) (moving_rules a p)) + length (filter test (moving_rules a p)) ≡ c.moving_count.result = omega
    (arith, both, value) in
    ap (λ (fact : Fact). (with_fact a p silent end k fact).unknowns) c.in-Last.is ∙ ap (λ n. k.unknowns + n) sum
