use Rattle.ta_moment_tree.proofs.Common.{◌≡◌, ℕ, ◌+◌, ◌<◌, ◌^◌, List, [], Option, None, reverse, take, arith, ap, sym, ◌∙◌, reverse_more, Fact, Known}
use Rattle.ta_moment_tree.proofs.Common.{end_vector}
use Rattle.ta_moments.specs.Moments.{known}
use Rattle.ta_moment_tree.proofs.Counting.{fewer_first, known_first, known_more}
use Rattle.ta_moment_tree.proofs.count.unknown_count.Goals.{After-added_count-count}
use Rattle.ta_moment_tree.proofs.count.unknown_count.Goals as goal

pub loop-fact-init : goal.loop-fact-init
loop-fact-init c silent candidate = c.first_count-count.ensures.value
    ∙ sym (ap (λ (k : Known). k.unknowns) (known_first c.args.task.automaton.now c.args.task.pattern.now silent candidate))

-- with one more fact
more : (c : After-added_count-count) (silent : List ℕ) (candidate : Option ℕ)
    → c.loop-fact.count + c.added_count-count.result ≡
    (known c.args.task.automaton.now c.args.task.pattern.now silent candidate (reverse (take (c.loop-fact.fact-index + 1) c.args.facts.now))).unknowns
more c silent candidate =
    let a = c.args.task.automaton.now in
    let p = c.args.task.pattern.now in
    let past = reverse (take c.loop-fact.fact-index c.args.facts.now) in
    ap (λ n. n + c.added_count-count.result) (c.loop-fact.invariant silent candidate)
    ∙ sym (ap (λ (facts : List Fact). (known a p silent candidate facts).unknowns)
    (reverse_more c.args.facts.now c.loop-fact.fact-index _ c.loop-fact-test.true)
    ∙ ap (λ (k : Known). k.unknowns) (known_more a p silent candidate past _)
    ∙ c.added_count-count.ensures.value silent (end_vector a p candidate) (known a p silent candidate past))

pub overflow_add-count : goal.overflow_add-count
overflow_add-count c =
    let a = c.args.task.automaton.now in
    let p = c.args.task.pattern.now in
    let now = more c [] None in
    let room = c.requires [] None in
    let small : c.loop-fact.count + c.added_count-count.result < 2 ^ 32 = omega
    (arith, now, room, fewer_first a p [] None c.args.facts.now (c.loop-fact.fact-index + 1)) in
    record { fits = small }

pub loop-fact-preserved : goal.loop-fact-preserved
loop-fact-preserved c silent candidate = more c silent candidate
