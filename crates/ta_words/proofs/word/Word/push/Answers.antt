use Rattle.std.proofs.Common.{◌≡◌, ap, arith, length, ◌<◌, ◌≤◌}
use Rattle.ta_words.proofs.Common.{List, ◌∙◌, reverse, children}
use Rattle.ta_words.specs.declared.element.Element.{Element}
use Rattle.ta_words.proofs.Counts.{room}
use Rattle.ta_words.proofs.word.Word.push.Goals as goal

pub push-requires : goal.push-requires
push-requires c =
    let child = c.contains-is_child.ensures.0 c.if-is_child.true in
    let free = room c.args.task c.args.start_mask c.args.orders.now c.args.self.now c.children.result c.args.element c.requires
    (c.children.ensures ∙ ap (λ (w : List Element). children c.args.task.automaton.now c.args.task.pattern.now c.args.orders.now c.args.start_mask
    (reverse w)) c.elements.ensures) child in
    let same : length c.self.inside.elements.items ≡ length c.args.self.now = ap length c.self.view_is in
    let few : length c.self.inside.elements.items < 30 = omega arith in
    (omega arith, few)

pub invariant_of-self : goal.invariant_of-self
invariant_of-self c =
    let child = c.contains-is_child.ensures.0 c.if-is_child.true in
    let free = room c.args.task c.args.start_mask c.args.orders.now c.args.self.now c.children.result c.args.element c.requires
    (c.children.ensures ∙ ap (λ (w : List Element). children c.args.task.automaton.now c.args.task.pattern.now c.args.orders.now c.args.start_mask
    (reverse w)) c.elements.ensures) child in
    let same : length c.self.inside.elements.items ≡ length c.args.self.now = ap length c.self.view_is in
    let most : length c.push.new.self.items ≤ 30 = (let more = c.push.ensures.len in omega arith) in
    most
