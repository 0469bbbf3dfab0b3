use Rattle.ta_moment_tree.proofs.Common.{◌≡◌, ◌∙◌, arith, ap, length, map, range_with_len, guards, guard_at_end, vector_of, guard_of}
use Rattle.ta_moment_tree.proofs.Lists.{map_numbers, mapped_more}
use Rattle.ta_moment_tree.proofs.ends.guards_at_end.Goals as goal

pub loop-guard-preserved : goal.loop-guard-preserved
loop-guard-preserved c =
    let t = c.args.plan.now.task in
    let known = guard_at_end t.automaton.now t.pattern.now (vector_of c.args.end.now) in
    ap (map guard_of) c.in_ok-push.ensures.items ∙ mapped_more guard_of c.loop-guard.guards.items _ _ (known c.loop-guard.guard) c.loop-guard.invariant
    c.in_ok-is.ensures ∙ map_numbers known c.loop-guard.guard

pub returns : goal.returns
returns c =
    let t = c.args.plan.now.task in
    let known = guard_at_end t.automaton.now t.pattern.now (vector_of c.args.end.now) in
    let high = c.loop-guard.auto.guard-end in
    let low = c.loop-guard-test.false in
    let count = c.guard_count-guard-end.ensures.guards in
    let all : c.loop-guard.guard ≡ length (guards t.automaton.now) = omega arith in
    c.loop-guard.invariant ∙ ap (λ n. map known (range_with_len 0 n)) all
