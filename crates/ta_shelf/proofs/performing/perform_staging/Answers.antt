use Rattle.ta_shelf.proofs.ShellCommon.{◌∙◌, ◌++◌, [], List, Event, puts, reads, refl, sym, ap, subst, inl, inr, append-nil, ℕ, Option, Ok, Err, Changed, Told}
use Rattle.ta_shelf.proofs.ShellCommon.{JudgementHolds, seen, BeginRefuses, StagedBy, answer_seen, result_seen}
use Rattle.ta_shelf.proofs.Clauses.{performs}
use Rattle.ta_shelf.proofs.Ended.{grown_by, not_begun, refused_staging, settled}
use Rattle.ta_shelf.proofs.performing.perform_staging.Goals as goal

pub returns-in-Ok-judge : goal.returns-in-Ok-judge
returns-in-Ok-judge g c =
    let tried = c.in-Ok.ensures.log in
    let both = c.in-Ok-judge.ensures.says in
    let says = both.says in
    let m = g.C.StagingCommand.meaning c.args.command.now in
    let staged = subst (λ (n : ℕ). Changed
    (StagedBy m.puts g.S.Shelf.stage_name g.S.Shelf.stage_bytes (Ok c.in-Ok-judge.answer) n (g.S.Shelf.faults c.judge.new.shelf)) both.middle
    (g.S.Shelf.calls c.judge.new.shelf)) c.in-Ok.ensures.cause both.staged in
    let done = c.finish_staged.ensures both.lost both.middle (g.S.Shelf.faults c.args.shelf.now) staged in
    performs _ c.finish_staged.result _ _ (record {
      tried = tried.made;
      read = says.added;
      made = done.settled.made;
      grown = grown_by _ _ _ _ tried.made (reads says.added) (puts done.settled.made) tried.grown says.grown done.settled.grown;
      tries = rw c.outputs.ensures at tried.such;
      opened = inl says.such.opened;
      end = settled _ _ (answer_seen g.S.Shelf.stage_bytes both.lost c.in-Ok-judge.answer) (rw c.in-Ok.ensures.kept at says.such.judges) c.finish_staged.result
          _ _ done.settled.made done.result
          (rw (c.in-Ok-judge.ensures.kept, c.in-Ok.ensures.kept) at done.settled.such)
          done.cause done.told;
    })

pub returns-in-Err-judge : goal.returns-in-Err-judge
returns-in-Err-judge g c =
    let tried = c.in-Ok.ensures.log in
    let both = c.in-Err-judge.ensures.says in
    let says = both.says in
    let m = g.C.StagingCommand.meaning c.args.command.now in
    performs _ c.tell_refusal.result _ _ (record {
      tried = tried.made;
      read = says.added;
      made = both.staged.made;
      grown = grown_by _ _ _ _ tried.made (reads says.added) (puts both.staged.made) tried.grown says.grown both.staged.grown;
      tries = rw c.outputs.ensures at tried.such;
      opened = inl says.such.opened;
      end = refused_staging m _ g.S.Shelf.stage_name g.S.Shelf.stage_bytes both.lost c.in-Err-judge.refusal c.tell_refusal.result _ _ both.staged.made
          (subst (λ (o : Option Told). JudgementHolds m (seen o says.added) (result_seen g.S.Shelf.stage_bytes both.lost (Err c.in-Err-judge.refusal)))
          c.in-Ok.ensures.kept says.such.judges)
          (subst (λ (n : ℕ). StagedBy m.puts g.S.Shelf.stage_name g.S.Shelf.stage_bytes (Err c.in-Err-judge.refusal) n (g.S.Shelf.faults c.judge.new.shelf)
          both.staged.made) c.in-Ok.ensures.cause both.staged.such)
          (c.in-Err-judge.ensures.kept ∙ c.in-Ok.ensures.kept)
          (record { numbered = c.tell_refusal.ensures.number; nothing = refl; told = c.tell_refusal.ensures.told });
    })

pub returns-in-Err : goal.returns-in-Err
returns-in-Err g c =
    let tried = c.in-Err.ensures.log in
    performs _ c.tell_refusal-in-Err.result _ _ (record {
      tried = tried.made;
      read = [];
      made = [];
      grown = tried.grown ∙ ap (λ (events : List Event). g.S.Shelf.calls c.args.shelf.now ++ events) (sym (append-nil (puts tried.made)));
      tries = rw c.outputs.ensures at tried.such;
      opened = inr refl;
      end = not_begun _ _ c.in-Err.refusal c.tell_refusal-in-Err.result _ _
          (subst (λ (names : List (List ℕ)). BeginRefuses names (Err c.in-Err.refusal)) c.outputs.ensures c.in-Err.ensures.refuses) c.in-Err.ensures.cause
          c.in-Err.ensures.kept
          (record { numbered = c.tell_refusal-in-Err.ensures.number; nothing = refl; told = c.tell_refusal-in-Err.ensures.told });
    })
