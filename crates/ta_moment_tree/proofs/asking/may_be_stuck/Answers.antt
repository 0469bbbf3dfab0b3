use Rattle.ta_moment_tree.proofs.Common.{◌≡◌, ◌&&◌, not, false, List, length, refl, arith, nat_tests, slice_get, slice_get_read, Some, has_bit, subst, sym, ap}
use Rattle.ta_moment_tree.proofs.Common.{◌∙◌, Rule, may_be_stuck}
use Rattle.std.specs.Prelude.{nat_eq}
use Rattle.ta_moment_tree.proofs.asking.may_be_stuck.Goals as goal

pub returns-else-source-rule : goal.returns-else-source-rule
returns-else-source-rule c =
    let a = c.args.automaton.now in
    let p = c.args.pattern.now in
    let found = c.in-Some.ensures.lookup in
    let rule = c.in-Some.rule.now in
    let items = c.as_slice.result.now in
    let at : slice_get a.rules c.args.rule ≡ Some rule = subst (λ (rs : List Rule). slice_get rs c.args.rule ≡ Some rule) c.as_slice.ensures
    (slice_get_read items (length items) c.args.rule rule refl found.3.0 found.1) in
    let same : not (nat_eq rule.from rule.to) ≡ false = (let b = c.if-source-rule.false in grind (arith, nat_tests)) in
    same ∙ sym (ap (may_be_stuck p) at ∙ ap (λ b. b && not (has_bit p.empty rule.from)) same)
