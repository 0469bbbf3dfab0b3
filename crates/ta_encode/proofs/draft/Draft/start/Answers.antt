use Rattle.ta_encode.proofs.Common.{length, sym, subst, ◌≤◌, Automaton}
use Rattle.ta_encode.proofs.Drafts.{start_drafted}
use Rattle.ta_encode.proofs.draft.Draft.start.Goals as goal

pub push_start_guards-requires : goal.push_start_guards-requires
push_start_guards-requires c =
    record { narrow = subst (λ (a : Automaton). length a.fall ≤ 6) (sym c.in_ok-draft.ensures.automaton_is) c.args.origin.now.task.narrow.fall }

pub returns : goal.returns
returns c = start_drafted c.args.origin.now c.in_ok-draft.ensures c.in_ok-push_start_guards.ensures
