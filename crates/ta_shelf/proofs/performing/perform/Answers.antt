use Rattle.ta_shelf.proofs.ShellCommon.{◌∙◌, ◌++◌, [], List, Event, puts, reads, refl, sym, ap, subst, inl, inr, append-nil, ℕ, Option, Err, Told, Answer}
use Rattle.ta_shelf.proofs.ShellCommon.{ReadCause, JudgementHolds, seen, BeginRefuses}
use Rattle.ta_shelf.proofs.Clauses.{performs}
use Rattle.ta_shelf.proofs.Ended.{grown_by, not_begun, refused, settled}
use Rattle.ta_shelf.proofs.performing.perform.Goals as goal

pub returns-in-Ok-judge : goal.returns-in-Ok-judge
returns-in-Ok-judge g c =
    let tried = c.in-Ok.ensures.log in
    let says = c.in-Ok-judge.ensures.says in
    let done = c.finish.ensures in
    performs _ c.finish.result _ _ (record {
      tried = tried.made;
      read = says.added;
      made = done.settled.made;
      grown = grown_by _ _ _ _ tried.made (reads says.added) (puts done.settled.made) tried.grown says.grown done.settled.grown;
      tries = rw c.outputs.ensures at tried.such;
      opened = inl says.such.opened;
      end = settled _ _ c.in-Ok-judge.answer (rw c.in-Ok.ensures.kept at says.such.judges) c.finish.result _ _ done.settled.made done.result
          (rw (c.in-Ok-judge.ensures.kept, c.in-Ok.ensures.kept) at done.settled.such)
          (rw (c.in-Ok-judge.ensures.cause, c.in-Ok.ensures.cause) at done.cause) done.told;
    })

pub returns-in-Err-judge : goal.returns-in-Err-judge
returns-in-Err-judge g c =
    let tried = c.in-Ok.ensures.log in
    let says = c.in-Err-judge.ensures.says in
    performs _ c.tell_refusal.result _ _ (record {
      tried = tried.made;
      read = says.added;
      made = [];
      grown = grown_by _ _ _ _ tried.made (reads says.added) [] tried.grown says.grown (sym (append-nil _));
      tries = rw c.outputs.ensures at tried.such;
      opened = inl says.such.opened;
      end = refused _ _ c.in-Err-judge.refusal c.tell_refusal.result _ _
          (subst (λ (o : Option Told). JudgementHolds (g.C.Command.meaning c.args.command.now) (seen o says.added) (Err c.in-Err-judge.refusal))
          c.in-Ok.ensures.kept says.such.judges)
          (subst (λ (n : ℕ). ReadCause {T = Answer} (Err c.in-Err-judge.refusal) n (g.S.Shelf.faults c.judge.new.shelf)) c.in-Ok.ensures.cause
          c.in-Err-judge.ensures.cause) (c.in-Err-judge.ensures.kept ∙ c.in-Ok.ensures.kept)
          (record { numbered = c.tell_refusal.ensures.number; nothing = refl; told = c.tell_refusal.ensures.told });
    })

pub returns-in-Err : goal.returns-in-Err
returns-in-Err g c =
    let tried = c.in-Err.ensures.log in
    performs _ c.tell_refusal-in-Err.result _ _ (record {
      tried = tried.made;
      read = [];
      made = [];
      grown = tried.grown ∙ ap (λ (events : List Event). g.S.Shelf.calls c.args.shelf.now ++ events) (sym (append-nil (puts tried.made)));
      tries = rw c.outputs.ensures at tried.such;
      opened = inr refl;
      end = not_begun _ _ c.in-Err.refusal c.tell_refusal-in-Err.result _ _
          (subst (λ (names : List (List ℕ)). BeginRefuses names (Err c.in-Err.refusal)) c.outputs.ensures c.in-Err.ensures.refuses) c.in-Err.ensures.cause
          c.in-Err.ensures.kept
          (record { numbered = c.tell_refusal-in-Err.ensures.number; nothing = refl; told = c.tell_refusal-in-Err.ensures.told });
    })
