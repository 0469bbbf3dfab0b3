use Rattle.ta_links.proofs.Common.{◌≡◌, ◌∙◌, sym, subst, take, List, ℕ, Option, AreLinked}
use Rattle.ta_links.proofs.ExtendedRows.{dropped_linked}
use Rattle.ta_links.proofs.extending.drop_last.Goals as goal

pub returns-clause-sound : goal.returns-clause-sound
returns-clause-sound c =
    let l = c.args.links.now in
    let cut : c.truncate-2.new.self.items ≡ take c.args.last l.row_heads.items = c.truncate-2.ensures.items in
    subst (λ (rs : List (Option ℕ)). AreLinked l.cells.items rs l.column_heads.items l.free_head) (sym cut)
    (dropped_linked l.cells.items l.row_heads.items l.column_heads.items l.free_head c.args.last c.requires.room.sound
    (c.requires.room.rows ∙ c.requires.room.long) c.requires.empty)
