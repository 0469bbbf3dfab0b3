use Rattle.ta_words.proofs.Common.{length, reverse, arith, sym, ap, ◌∙◌, is_ready, may_rise, Event, Rise}
use Rattle.ta_words.proofs.Lists.{events_named, children_listed, no_children}
use Rattle.ta_words.proofs.following.children.Goals as goal
use Rattle.ta_base.proofs.Ranges.{passed_most}

pub push_events-requires-clause-named : goal.push_events-requires-clause-named
push_events-requires-clause-named c = events_named c.args.task.automaton.now c.args.task.pattern.now c.args.task.over

pub push_rises-requires-clause-room : goal.push_rises-requires-clause-room
push_rises-requires-clause-room c =
    let p = c.args.task.pattern.now in
    let past = reverse c.args.elements.now in
    omega (
      arith,
      ap length c.new-children.ensures,
      c.args.task.over.events_limit,
      passed_most Event (is_ready p past) c.new-children.result
          c.push_events.new.self 0 (length p.events) (c.push_events.ensures c.args.start_mask past c.of-seen.ensures),
    )

pub push_falls-requires-clause-room : goal.push_falls-requires-clause-room
push_falls-requires-clause-room c =
    let a = c.args.task.automaton.now in
    let p = c.args.task.pattern.now in
    let past = reverse c.args.elements.now in
    omega (
      arith,
      ap length c.new-children.ensures,
      c.args.task.over.events_limit,
      c.args.task.narrow.rise,
      passed_most Event (is_ready p past) c.new-children.result c.push_events.new.self 0 (length p.events)
          (c.push_events.ensures c.args.start_mask past c.of-seen.ensures),
      passed_most Rise (may_rise c.args.orders.now past) c.push_events.new.self c.push_rises.new.self 0 (length a.rise)
          (c.push_rises.ensures c.args.start_mask past c.of-seen.ensures),
    )

pub returns-then-not-is_complete : goal.returns-then-not-is_complete
returns-then-not-is_complete c =
    let a = c.args.task.automaton.now in
    let p = c.args.task.pattern.now in
    let past = reverse c.args.elements.now in
    let start = c.args.start_mask in
    children_listed a p c.args.orders.now start past c.new-children.result c.push_events.new.self c.push_rises.new.self c.push_falls.new.self
    (sym (c.is_complete.ensures start past c.of-seen.ensures) ∙ c.if-not-is_complete.true) c.new-children.ensures
    (c.push_events.ensures start past c.of-seen.ensures) (c.push_rises.ensures start past c.of-seen.ensures)
    (c.push_falls.ensures start past c.of-seen.ensures)

pub returns-else-not-is_complete : goal.returns-else-not-is_complete
returns-else-not-is_complete c =
    let a = c.args.task.automaton.now in
    let p = c.args.task.pattern.now in
    let past = reverse c.args.elements.now in
    let start = c.args.start_mask in
    no_children a p c.args.orders.now start past c.new-children.result (sym (c.is_complete.ensures start past c.of-seen.ensures) ∙ c.if-not-is_complete.false)
    c.new-children.ensures
