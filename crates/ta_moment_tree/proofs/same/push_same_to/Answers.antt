use Rattle.ta_moment_tree.proofs.Common.{◌∙◌, Some, ap, sym, option_copied, option_map, rows_of_same, moment_of}
use Rattle.ta_moment_tree.proofs.Adding.{adds_none, adds_same}
use Rattle.ta_moment_tree.proofs.same.push_same_to.Goals as goal

pub push_same_of-requires-clause-second : goal.push_same_of-requires-clause-second
push_same_of-requires-clause-second c = c.requires.moments.early_small c.args.second (moment_of c.in-Some.other.now)
    (sym c.get_moment.ensures ∙ ap (λ o. option_map moment_of (option_copied o)) c.in-Some.is)

pub push_same_of-requires-clause-second_late : goal.push_same_of-requires-clause-second_late
push_same_of-requires-clause-second_late c = c.requires.moments.late_small c.args.second (moment_of c.in-Some.other.now)
    (sym c.get_moment.ensures ∙ ap (λ o. option_map moment_of (option_copied o)) c.in-Some.is)

pub returns-in-None : goal.returns-in-None
returns-in-None c n h k l =
    let t = c.args.plan.now.task in
    let none = sym c.get_moment.ensures ∙ ap (λ o. option_map moment_of (option_copied o)) c.in-None.is in
    adds_same _ _ _ _ (sym (ap (rows_of_same t.automaton.now t.pattern.now n (Some (moment_of c.args.first.now))) none)) (adds_none c.args.rows.now.items)

pub returns-in_ok-push_same_of-in-Some : goal.returns-in_ok-push_same_of-in-Some
returns-in_ok-push_same_of-in-Some c n h k l =
    let t = c.args.plan.now.task in
    let some = sym c.get_moment.ensures ∙ ap (λ o. option_map moment_of (option_copied o)) c.in-Some.is in
    adds_same _ _ _ _ (sym (ap (rows_of_same t.automaton.now t.pattern.now n (Some (moment_of c.args.first.now))) some))
    (c.in_ok-push_same_of-in-Some.ensures n k l (h.early_speaks c.args.second (moment_of c.in-Some.other.now) some)
    (h.late_speaks c.args.second (moment_of c.in-Some.other.now) some))
