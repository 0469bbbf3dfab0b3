use Rattle.ta_moment_tree.proofs.Common.{◌≡◌, ◌-◌, ◌<◌, ◌≤◌, arith, sym, ap, ◌∙◌, subst, refl, List, length, slice_get, Some, nat_lt, has_bit, slice_get_read}
use Rattle.ta_moment_tree.proofs.Common.{Rule, Row, has_guard}
use Rattle.std.proofs.lemmas.Bool.{cond-true, cond-false}
use Rattle.ta_moment_tree.proofs.Lists.{less_true, less_false}
use Rattle.ta_moment_tree.proofs.plan.has_guard.Goals as goal

pub returns-then-guard-rises : goal.returns-then-guard-rises
returns-then-guard-rises c =
    let a = c.args.automaton.now in
    let found = c.in-Some.ensures.lookup in
    let rule = c.in-Some.rule.now in
    let items = c.as_slice-2.result.now in
    let at : slice_get a.rules c.args.rule ≡ Some rule = subst (λ (rs : List Rule). slice_get rs c.args.rule ≡ Some rule) c.as_slice-2.ensures
    (slice_get_read items (length items) c.args.rule rule refl found.3.0 found.1) in
    let same = ap (λ (rs : List Row). length rs) c.as_slice.ensures in
    let less : c.args.guard < length a.rise = (let b = c.if-guard-rises.true in omega arith) in
    c.is_in.ensures ∙ ap (λ m. has_bit m c.args.guard) c.from.ensures
    ∙ sym (cond-true (nat_lt c.args.guard (length a.rise)) (has_bit rule.rise c.args.guard) (has_bit rule.fall (c.args.guard - length a.rise))
    (less_true c.args.guard (length a.rise) less)) ∙ ap (has_guard a c.args.guard) (sym at)

pub returns-else-guard-rises : goal.returns-else-guard-rises
returns-else-guard-rises c =
    let a = c.args.automaton.now in
    let found = c.in-Some.ensures.lookup in
    let rule = c.in-Some.rule.now in
    let items = c.as_slice-2.result.now in
    let at : slice_get a.rules c.args.rule ≡ Some rule = subst (λ (rs : List Rule). slice_get rs c.args.rule ≡ Some rule) c.as_slice-2.ensures
    (slice_get_read items (length items) c.args.rule rule refl found.3.0 found.1) in
    let same = ap (λ (rs : List Row). length rs) c.as_slice.ensures in
    let least : length a.rise ≤ c.args.guard = (let b = c.if-guard-rises.false in omega arith) in
    let place : c.args.guard - length c.as_slice.result.now ≡ c.args.guard - length a.rise = ap (λ n. c.args.guard - n) same in
    c.is_in-else-guard-rises.ensures ∙ ap (λ m. has_bit m (c.args.guard - length c.as_slice.result.now)) c.from-else-guard-rises.ensures
    ∙ ap (has_bit rule.fall) place
    ∙ sym (cond-false (nat_lt c.args.guard (length a.rise)) (has_bit rule.rise c.args.guard) (has_bit rule.fall (c.args.guard - length a.rise))
    (less_false c.args.guard (length a.rise) least)) ∙ ap (has_guard a c.args.guard) (sym at)
