use Rattle.ta_smt.proofs.Common.{◌≡◌, ◌<◌, ◌^◌, ◌∙◌, length, reverse, length-reverse, ap, arith, rules, subst, sym, FirstStranger}
use Rattle.ta_words.proofs.Counts.{legal_length}
use Rattle.ta_smt.proofs.Spelled.{spelled_length, stranger_found}
use Rattle.ta_smt.proofs.spelling.word_of.Goals as goal

pub overflow_cast-number : goal.overflow_cast-number
overflow_cast-number c =
    let t = c.args.task in
    let word = c.loop-element.word in
    let few = legal_length t.automaton.now t.pattern.now c.args.start_mask (reverse word) t.narrow t.over.events_limit c.loop-element.invariant.legal in
    let turned = length-reverse word in
    let same = ap length c.elements.ensures in
    let below : length c.elements.result.now < 2 ^ 32 = omega arith in
    search rules

pub returns-then-not-push-clause-stranger : goal.returns-then-not-push-clause-stranger
returns-then-not-push-clause-stranger c =
    let a = c.args.task.automaton.now in
    let p = c.args.task.pattern.now in
    let i = c.loop-element.element-index in
    let within = c.loop-element-test.true in
    let place : i ≡ length c.elements.result.now = sym
    (ap length c.elements.ensures ∙ spelled_length a p c.args.start_mask c.args.elements.now i c.loop-element.word (omega arith) c.loop-element.invariant)
    in
    subst (FirstStranger a p c.args.start_mask c.args.elements.now) place
    (stranger_found a p c.args.start_mask c.args.elements.now c.loop-element.word i _ c.push.result c.loop-element.invariant within
    (rw c.new-orders.ensures at c.push.ensures.child) c.if-not-push.true)
