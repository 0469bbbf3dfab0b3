use Rattle.ta_words.proofs.Common.{◌≡◌, ℕ, List, length, Bool, arith, ap, ◌∙◌, subst, IsSeen, may_rise, Element, Rise}
use Rattle.ta_words.proofs.Pushes.{with_passed, none_pushed, push_passed, pass_over}
use Rattle.ta_words.proofs.child_list.Children.push_rises.Goals as goal
use Rattle.ta_words.proofs.child_list.Children.push_rises.Goals.{then-may_rise, else-may_rise}

pub loop-rise-init : goal.loop-rise-init
loop-rise-init c = none_pushed Rise (λ start past. may_rise c.args.orders.now past) c.args.seen c.args.self.now 0

pub loop-rise-preserved : goal.loop-rise-preserved
loop-rise-preserved c =
    let rise = c.loop-rise.rise in
    let test : ℕ → List Element → ℕ → Bool = λ start past. may_rise c.args.orders.now past in
    let told : (start : ℕ) (past : List Element) → IsSeen c.args.seen start past
    → c.may_rise.result ≡ may_rise c.args.orders.now past rise = λ start past is. c.may_rise.ensures start past c.args.orders.now is c.mask.ensures in
    elim c.if-may_rise.branch [
      | then-may_rise w ↦ push_passed Rise test c.args.seen c.args.self.now c.loop-rise.self c.if-may_rise.self 0 rise rise c.may_rise.result
          c.loop-rise.invariant (omega arith) told w.if-may_rise.true (w.self-is ∙ w.push.ensures)
      | else-may_rise w ↦ pass_over Rise test c.args.seen c.args.self.now c.loop-rise.self c.if-may_rise.self 0 rise rise c.may_rise.result
          c.loop-rise.invariant (omega arith) told w.if-may_rise.false w.self-is
    ]

pub push-requires : goal.push-requires
push-requires c =
    let limit = c.requires.narrow.rise in
    let same = ap length c.as_slice-rise-end.ensures in
    omega (arith, c.loop-rise.invariant.room, c.loop-rise-test.true, c.requires.room)

pub returns : goal.returns
returns c = λ start past is.
    let end : c.loop-rise.rise ≡ length c.args.automaton.now.rise =
    (let same = ap length c.as_slice-rise-end.ensures in let low = c.loop-rise-test.false in let high = c.loop-rise.auto.rise-end in omega arith) in
    subst (λ n. c.loop-rise.self ≡ with_passed Rise (may_rise c.args.orders.now past) c.args.self.now 0 n) end (c.loop-rise.invariant.passed start past is)
