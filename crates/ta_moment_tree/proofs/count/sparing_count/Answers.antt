use Rattle.ta_moment_tree.proofs.Common.{◌≡◌, ℕ, Bool, ◌&&◌, not, ◌+◌, ◌<◌, ◌^◌, length, slice_get, arith, ap, sym, ◌∙◌, filter, range_with_len, and_from}
use Rattle.ta_moment_tree.proofs.Common.{count_few, count_none, count_one, has_guard, is_moving}
use Rattle.ta_moment_tree.proofs.Passed.{filter_twice, and_never, never_and}
use Rattle.ta_moment_tree.proofs.count.sparing_count.Goals.{then-is_moving+then-not-has_guard, else-is_moving}
use Rattle.ta_moment_tree.proofs.count.sparing_count.Goals.{else-is_moving-via-then-is_moving+else-not-has_guard, else-is_moving-via-else-is_moving}
use Rattle.ta_moment_tree.proofs.count.sparing_count.Goals as goal

pub overflow_add-count : goal.overflow_add-count
overflow_add-count c =
    let a = c.args.automaton.now in
    let few = count_few (λ r. is_moving c.args.pattern.now (slice_get a.rules r) && not (has_guard a c.args.guard (slice_get a.rules r))) c.loop-rule.rule in
    let below = c.loop-rule-test.true in
    let is = c.loop-rule.invariant in
    let small : c.loop-rule.count + 1 < 2 ^ 32 = omega (arith, ap length c.as_slice-rule-end.ensures, a.shape.limits.rules_limit) in
    record { fits = small }

pub loop-rule-preserved : goal.loop-rule-preserved
loop-rule-preserved c =
    let r = c.loop-rule.rule in
    let a = c.args.automaton.now in
    let one : ℕ → Bool = λ k. is_moving c.args.pattern.now (slice_get a.rules k) in
    let two : ℕ → Bool = λ k. not (has_guard a c.args.guard (slice_get a.rules k)) in
    let test : ℕ → Bool = λ k. one k && two k in
    elim c.if-is_moving.branch [
      | then-is_moving+then-not-has_guard w ↦
          w.count-is ∙ ap (λ n. n + 1) c.loop-rule.invariant
          ∙ sym (count_one test r (and_from (one r) (two r) (sym c.is_moving.ensures ∙ w.if-is_moving.true)
          (ap not (sym w.has_guard.ensures) ∙ ap not w.if-not-has_guard.true)))
      | else-is_moving w ↦ elim w.else-is_moving.branch [
        | else-is_moving-via-then-is_moving+else-not-has_guard w' ↦
            w.count-is ∙ c.loop-rule.invariant ∙ sym
            (count_none test r (and_never (one r) (two r) (ap not (sym w'.has_guard.ensures) ∙ ap not w'.if-not-has_guard.false)))
        | else-is_moving-via-else-is_moving w' ↦
            w.count-is ∙ c.loop-rule.invariant ∙ sym (count_none test r (never_and (one r) (two r) (sym c.is_moving.ensures ∙ w'.if-is_moving.false)))
      ]
    ]

pub returns-clause-value : goal.returns-clause-value
returns-clause-value c =
    let a = c.args.automaton.now in
    let one : ℕ → Bool = λ k. is_moving c.args.pattern.now (slice_get a.rules k) in
    let two : ℕ → Bool = λ k. not (has_guard a c.args.guard (slice_get a.rules k)) in
    let high = c.loop-rule.auto.rule-end in
    let low = c.loop-rule-test.false in
    let end : c.loop-rule.rule ≡ length a.rules = omega (arith, ap length c.as_slice-rule-end.ensures) in
    c.loop-rule.invariant ∙ ap (λ n. length (filter (λ r. one r && two r) (range_with_len 0 n))) end
    ∙ ap length (filter_twice one two (range_with_len 0 (length a.rules)))

pub returns-clause-few : goal.returns-clause-few
returns-clause-few c =
    let a = c.args.automaton.now in
    let few = count_few (λ r. is_moving c.args.pattern.now (slice_get a.rules r) && not (has_guard a c.args.guard (slice_get a.rules r))) c.loop-rule.rule in
    let high = c.loop-rule.auto.rule-end in
    let is = c.loop-rule.invariant in
    omega (arith, ap length c.as_slice-rule-end.ensures, a.shape.limits.rules_limit)
