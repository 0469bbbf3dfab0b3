use Rattle.ta_moment_tree.proofs.Common.{◌-◌, map, slice_get, ap, sym, ◌∙◌, option_map, slice_get-map, Vacant, Fails, guards_of}
use Rattle.ta_moment_tree.proofs.Passed.{behind_first}
use Rattle.ta_moment_tree.proofs.answer.stuck_answer.Goals as goal

pub returns-in-Some : goal.returns-in-Some
returns-in-Some c =
    let r = c.args.rule in
    let gs = guards_of c.args.automaton.now (slice_get c.args.automaton.now.rules r) in
    sym (behind_first (Vacant r) (map (Fails r) gs) c.args.number c.if-number-eq0.false
    ∙ slice_get-map (Fails r) gs (c.args.number - 1)
    ∙ ap (option_map (Fails r)) (sym c.guard_of.ensures ∙ c.in-Some.is))
