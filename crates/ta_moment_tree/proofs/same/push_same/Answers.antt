use Rattle.ta_moment_tree.proofs.Common.{◌∙◌, slice_get, ap, sym, option_copied, option_map, rows_of_same, moment_of, moments_of}
use Rattle.ta_moment_tree.proofs.Adding.{adds_none, adds_same}
use Rattle.ta_moment_tree.proofs.same.push_same.Goals as goal

pub push_same_to-requires-clause-first : goal.push_same_to-requires-clause-first
push_same_to-requires-clause-first c = c.requires.moments.early_small c.args.first (moment_of c.in-Some.moment.now)
    (sym c.get_moment.ensures ∙ ap (λ o. option_map moment_of (option_copied o)) c.in-Some.is)

pub push_same_to-requires-clause-first_late : goal.push_same_to-requires-clause-first_late
push_same_to-requires-clause-first_late c = c.requires.moments.late_small c.args.first (moment_of c.in-Some.moment.now)
    (sym c.get_moment.ensures ∙ ap (λ o. option_map moment_of (option_copied o)) c.in-Some.is)

pub returns-in-None : goal.returns-in-None
returns-in-None c n h =
    let t = c.args.plan.now.task in
    let none = sym c.get_moment.ensures ∙ ap (λ o. option_map moment_of (option_copied o)) c.in-None.is in
    adds_same _ _ _ _ (sym (ap (λ o. rows_of_same t.automaton.now t.pattern.now n o (slice_get (moments_of c.args.moments.now) c.args.second)) none))
    (adds_none c.args.rows.now.items)

pub returns-in_ok-push_same_to-in-Some : goal.returns-in_ok-push_same_to-in-Some
returns-in_ok-push_same_to-in-Some c n h =
    let t = c.args.plan.now.task in
    let some = sym c.get_moment.ensures ∙ ap (λ o. option_map moment_of (option_copied o)) c.in-Some.is in
    adds_same _ _ _ _ (sym (ap (λ o. rows_of_same t.automaton.now t.pattern.now n o (slice_get (moments_of c.args.moments.now) c.args.second)) some))
    (c.in_ok-push_same_to-in-Some.ensures n h (h.early_speaks c.args.first (moment_of c.in-Some.moment.now) some)
    (h.late_speaks c.args.first (moment_of c.in-Some.moment.now) some))
