use Rattle.ta_moment_tree.proofs.Common.{ℕ, Bool, List, ◌≡◌, ◌∙◌, arith, ap, sym, length, map, slice_get, passed_none, passed_one, range_with_len, filter, Rule}
use Rattle.ta_moment_tree.proofs.Common.{may_be_stuck, rule_at_end, vector_of, rule_of}
use Rattle.ta_moment_tree.proofs.Lists.{mapped_more}
use Rattle.ta_moment_tree.proofs.ends.rules_at_end.Goals.{then-may_be_stuck+in_ok-is+in_ok-push, else-may_be_stuck}
use Rattle.ta_moment_tree.proofs.ends.rules_at_end.Goals as goal

pub loop-rule-preserved : goal.loop-rule-preserved
loop-rule-preserved c =
    let t = c.args.plan.now.task in
    let r = c.loop-rule.rule in
    let test : ℕ → Bool = λ k. may_be_stuck t.pattern.now (slice_get t.automaton.now.rules k) in
    let known = rule_at_end t.automaton.now t.pattern.now c.args.silent.now (vector_of c.args.end.now) in
    elim c.if-may_be_stuck.branch [
      | then-may_be_stuck+in_ok-is+in_ok-push w ↦
          ap (λ v. map rule_of v.items) w.rules-is ∙ ap (map rule_of) w.in_ok-push.ensures.items
          ∙ mapped_more rule_of c.loop-rule.rules.items _ _ (known r) c.loop-rule.invariant w.in_ok-is.ensures
          ∙ passed_one known test r (sym c.may_be_stuck.ensures ∙ w.if-may_be_stuck.true)
      | else-may_be_stuck w ↦ ap (λ v. map rule_of v.items) w.rules-is ∙ c.loop-rule.invariant
          ∙ passed_none known test r (sym c.may_be_stuck.ensures ∙ w.if-may_be_stuck.false)
    ]

pub returns : goal.returns
returns c =
    let t = c.args.plan.now.task in
    let test : ℕ → Bool = λ k. may_be_stuck t.pattern.now (slice_get t.automaton.now.rules k) in
    let known = rule_at_end t.automaton.now t.pattern.now c.args.silent.now (vector_of c.args.end.now) in
    let same = ap (λ (rs : List Rule). length rs) c.as_slice-rule-end.ensures in
    let high = c.loop-rule.auto.rule-end in
    let low = c.loop-rule-test.false in
    let all : c.loop-rule.rule ≡ length t.automaton.now.rules = omega arith in
    c.loop-rule.invariant ∙ ap (λ n. map known (filter test (range_with_len 0 n))) all
