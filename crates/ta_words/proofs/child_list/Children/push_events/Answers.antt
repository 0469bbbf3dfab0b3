use Rattle.ta_words.proofs.Common.{◌≡◌, ℕ, List, length, Bool, arith, ap, ◌∙◌, subst, IsSeen, is_ready, Element, Event}
use Rattle.ta_words.proofs.Pushes.{with_passed, none_pushed, push_passed, pass_over, ready_at}
use Rattle.ta_words.proofs.child_list.Children.push_events.Goals as goal
use Rattle.ta_words.proofs.child_list.Children.push_events.Goals.{then-is_ready, else-is_ready}
use Rattle.ta_base.proofs.Lists.{read_same}

pub loop-number-init : goal.loop-number-init
loop-number-init c = none_pushed Event (λ start past. is_ready c.args.pattern.now past) c.args.seen c.args.self.now 0

pub loop-number-preserved : goal.loop-number-preserved
loop-number-preserved c =
    let at = read_same c.args.pattern.now.events c.as_slice-event-items.result.now c.loop-number.number c.event-item.result c.as_slice-event-items.ensures
    c.loop-number-test.true c.event-item.is in
    let told : (start : ℕ) (past : List Element) → IsSeen c.args.seen start past
    → c.is_ready.result ≡ is_ready c.args.pattern.now past c.loop-number.number = λ start past is.
    ready_at c.args.pattern.now past c.as_slice-event-items.result.now c.loop-number.number c.event-item.result c.is_ready.result c.as_slice-event-items.ensures
    c.loop-number-test.true c.event-item.is
    (c.is_ready.ensures start past (length c.args.pattern.now.events) is (c.requires.named.after c.loop-number.number c.event-item.result at)
    (let h = c.requires.named.limit in omega arith)) in
    let test : ℕ → List Element → ℕ → Bool = λ start past. is_ready c.args.pattern.now past in
    elim c.if-is_ready.branch [
      | then-is_ready w ↦ push_passed Event test c.args.seen c.args.self.now c.loop-number.self c.if-is_ready.self 0 c.loop-number.number c.loop-number.number
          c.is_ready.result c.loop-number.invariant (omega arith) told w.if-is_ready.true (w.self-is ∙ w.push.ensures)
      | else-is_ready w ↦ pass_over Event test c.args.seen c.args.self.now c.loop-number.self c.if-is_ready.self 0 c.loop-number.number c.loop-number.number
          c.is_ready.result c.loop-number.invariant (omega arith) told w.if-is_ready.false w.self-is
    ]

pub returns : goal.returns
returns c = λ start past is.
    let end : c.loop-number.number ≡ length c.args.pattern.now.events =
    (let same = ap length c.as_slice-event-items.ensures in let low = c.loop-number-test.false in let high = c.loop-number.auto.number-end in omega arith)
    in
    subst (λ n. c.loop-number.self ≡ with_passed Event (is_ready c.args.pattern.now past) c.args.self.now 0 n) end
    (c.loop-number.invariant.passed start past is)
