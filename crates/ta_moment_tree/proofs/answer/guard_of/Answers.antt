use Rattle.ta_moment_tree.proofs.Common.{◌≡◌, ℕ, Bool, ◌+◌, ◌<◌, length, slice_get, arith, ap, sym, ◌∙◌, slice_get_past, filter, range_with_len, count_none}
use Rattle.ta_moment_tree.proofs.Common.{count_one, guards_of, has_guard}
use Rattle.ta_moment_tree.proofs.Passed.{passed_at}
use Rattle.ta_moment_tree.proofs.answer.guard_of.Goals.{then-has_guard+else-passed-number, else-has_guard}
use Rattle.ta_moment_tree.proofs.answer.guard_of.Goals as goal

pub returns-then-passed-number : goal.returns-then-passed-number
returns-then-passed-number c =
    let a = c.args.automaton.now in
    let test : ℕ → Bool = λ g. has_guard a g (slice_get a.rules c.args.rule) in
    let below = c.loop-guard-test.true in
    let inside : c.loop-guard.guard < length a.rise + length a.fall = omega (arith, ap length c.as_slice.ensures, ap length c.as_slice-2.ensures) in
    sym (passed_at test (length a.rise + length a.fall) c.loop-guard.guard c.args.number inside (sym c.has_guard.ensures ∙ c.if-has_guard.true)
    (sym c.if-passed-number.true ∙ c.loop-guard.invariant.is))

pub loop-guard-preserved : goal.loop-guard-preserved
loop-guard-preserved c =
    let a = c.args.automaton.now in
    let g = c.loop-guard.guard in
    let test : ℕ → Bool = λ k. has_guard a k (slice_get a.rules c.args.rule) in
    let most = c.loop-guard.invariant.most in
    elim c.if-has_guard.branch [
      | then-has_guard+else-passed-number w ↦ record {
        is = w.passed-is ∙ ap (λ n. n + 1) c.loop-guard.invariant.is ∙ sym (count_one test g (sym c.has_guard.ensures ∙ w.if-has_guard.true));
        most = (let is = w.passed-is in let other = w.if-passed-number.false in grind arith);
      }
      | else-has_guard w ↦ record {
        is = w.passed-is ∙ c.loop-guard.invariant.is ∙ sym (count_none test g (sym c.has_guard.ensures ∙ w.if-has_guard.false));
        most = (let is = w.passed-is in omega arith);
      }
    ]

pub returns : goal.returns
returns c =
    let a = c.args.automaton.now in
    let test : ℕ → Bool = λ g. has_guard a g (slice_get a.rules c.args.rule) in
    let low = c.loop-guard-test.false in
    let high = c.loop-guard.auto.guard-end in
    let end : c.loop-guard.guard ≡ length a.rise + length a.fall = omega (arith, ap length c.as_slice.ensures, ap length c.as_slice-2.ensures) in
    let all = c.loop-guard.invariant.is ∙ ap (λ n. length (filter test (range_with_len 0 n))) end in
    let most = c.loop-guard.invariant.most in
    sym (slice_get_past (guards_of a (slice_get a.rules c.args.rule)) c.args.number (omega (arith, all, most)))
