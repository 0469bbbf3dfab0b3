use Rattle.ta_words.proofs.Common.{◌≡◌, ◌+◌, ◌-◌, ◌^◌, length, arith, ap, ◌∙◌, subst, end_of_masks, is_standing, Fall}
use Rattle.ta_words.proofs.Pushes.{Pushed, with_passed, none_pushed, push_passed, pass_over}
use Rattle.ta_words.proofs.child_list.Children.push_falls.Goals as goal
use Rattle.ta_words.proofs.child_list.Children.push_falls.Goals.{then-is_standing, else-is_standing}

pub loop-falls-init : goal.loop-falls-init
loop-falls-init c = none_pushed Fall (is_standing c.args.automaton.now) c.args.seen c.args.self.now 1

pub loop-falls-preserved : goal.loop-falls-preserved
loop-falls-preserved c =
    let low = c.loop-falls.auto.falls in
    let more : c.loop-falls.falls - 1 + 1 ≡ c.loop-falls.falls + 1 - 1 = omega arith in
    let here : c.loop-falls.falls ≡ 1 + (c.loop-falls.falls - 1) = omega arith in
    subst (λ n. Pushed Fall (is_standing c.args.automaton.now) c.args.seen c.args.self.now c.if-is_standing.self 1 n) more
    (elim c.if-is_standing.branch [
      | then-is_standing w ↦ push_passed Fall (is_standing c.args.automaton.now) c.args.seen c.args.self.now c.loop-falls.self c.if-is_standing.self 1
          (c.loop-falls.falls - 1) c.loop-falls.falls c.is_standing.result c.loop-falls.invariant here c.is_standing.ensures w.if-is_standing.true
          (w.self-is ∙ w.push.ensures)
      | else-is_standing w ↦ pass_over Fall (is_standing c.args.automaton.now) c.args.seen c.args.self.now c.loop-falls.self c.if-is_standing.self 1
          (c.loop-falls.falls - 1) c.loop-falls.falls c.is_standing.result c.loop-falls.invariant here c.is_standing.ensures w.if-is_standing.false w.self-is
    ])

pub push-requires : goal.push-requires
push-requires c =
    let limit = c.requires.narrow.fall in
    let same = ap length c.as_slice.ensures in
    let most = end_of_masks (length c.as_slice.result.now) (omega arith) in
    omega (arith, c.loop-falls.invariant.room, c.loop-falls-test.true, c.requires.room, most.0, most.1)

pub returns : goal.returns
returns c = λ start past is.
    let same = ap length c.as_slice.ensures in
    let limit = c.requires.narrow.fall in
    let most = end_of_masks (length c.as_slice.result.now) (omega arith) in
    let end : c.loop-falls.falls - 1 ≡ 2 ^ length c.args.automaton.now.fall - 1 =
    (let low = c.loop-falls-test.false in let high = c.loop-falls.auto.falls-end (let p = most.2 in omega arith) in
    let equal : 2 ^ length c.as_slice.result.now ≡ 2 ^ length c.args.automaton.now.fall = ap (λ n. 2 ^ n) same in omega (arith, most.0, equal)) in
    subst (λ n. c.loop-falls.self ≡ with_passed Fall (is_standing c.args.automaton.now start past) c.args.self.now 1 n) end
    (c.loop-falls.invariant.passed start past is)
