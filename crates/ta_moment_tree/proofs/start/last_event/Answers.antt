use Rattle.ta_moment_tree.proofs.Common.{◌≡◌, ℕ, Bool, ◌+◌, ◌<◌, length, not, arith, ap, sym, ◌∙◌, slice_get_past, filter, range_with_len, count_none}
use Rattle.ta_moment_tree.proofs.Common.{count_one, has_later}
use Rattle.ta_moment_tree.proofs.Passed.{passed_at}
use Rattle.ta_moment_tree.proofs.start.last_event.Goals.{then-not-has_later+else-passed-number, else-not-has_later}
use Rattle.ta_moment_tree.proofs.start.last_event.Goals as goal

pub returns-then-passed-number : goal.returns-then-passed-number
returns-then-passed-number c =
    let p = c.args.pattern.now in
    let test : ℕ → Bool = λ e. not (has_later p e) in
    let below = c.loop-event-test.true in
    let inside : c.loop-event.event < length p.events = omega (arith, ap length c.as_slice-event-end.ensures) in
    sym (passed_at test (length p.events) c.loop-event.event c.args.number inside (ap not (sym c.has_later.ensures) ∙ ap (λ b. not b) c.if-not-has_later.true)
    (sym c.if-passed-number.true ∙ c.loop-event.invariant.is))

pub loop-event-preserved : goal.loop-event-preserved
loop-event-preserved c =
    let p = c.args.pattern.now in
    let e = c.loop-event.event in
    let test : ℕ → Bool = λ k. not (has_later p k) in
    let most = c.loop-event.invariant.most in
    elim c.if-not-has_later.branch [
      | then-not-has_later+else-passed-number w ↦ record {
        is = w.passed-is ∙ ap (λ n. n + 1) c.loop-event.invariant.is
            ∙ sym (count_one test e (ap not (sym c.has_later.ensures) ∙ ap not w.if-not-has_later.true));
        most = (let is = w.passed-is in let other = w.if-passed-number.false in grind arith);
      }
      | else-not-has_later w ↦ record {
        is = w.passed-is ∙ c.loop-event.invariant.is ∙ sym (count_none test e (ap not (sym c.has_later.ensures) ∙ ap not w.if-not-has_later.false));
        most = (let is = w.passed-is in omega arith);
      }
    ]

pub returns : goal.returns
returns c =
    let p = c.args.pattern.now in
    let test : ℕ → Bool = λ e. not (has_later p e) in
    let low = c.loop-event-test.false in
    let high = c.loop-event.auto.event-end in
    let end : c.loop-event.event ≡ length p.events = omega (arith, ap length c.as_slice-event-end.ensures) in
    let all = c.loop-event.invariant.is ∙ ap (λ n. length (filter test (range_with_len 0 n))) end in
    let most = c.loop-event.invariant.most in
    sym (slice_get_past (filter test (range_with_len 0 (length p.events))) c.args.number (omega (arith, all, most)))
