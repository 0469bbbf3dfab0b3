use Rattle.ta_shelf.proofs.Common.{concat}
use Rattle.ta_shelf.proofs.ShellCommon.{◌≡◌, ◌++◌, take, puts, added}
use Rattle.ta_shelf.proofs.putting.add_pieces.Given as goal

-- so many of the pieces are added, and no call failed
pub record AddedSoFar (Named Bytes Logged Calm Kept : Type 0) : Type 0 where
  pub named : Named
  pub bytes : Bytes
  pub log : Logged
  pub calm : Calm
  pub kept : Kept

abbrev pub invariant-loop-piece : goal.invariant-loop-piece
invariant-loop-piece g l = AddedSoFar
    (g.S.Shelf.stage_name l.stage ≡ g.S.Shelf.stage_name l.fn.stage)
    (g.S.Shelf.stage_bytes l.stage ≡ g.S.Shelf.stage_bytes l.fn.stage ++ concat (take l.piece-index l.pieces))
    (g.S.Shelf.calls l.shelf ≡ g.S.Shelf.calls l.fn.shelf ++ puts (added (g.S.Shelf.stage_name l.fn.stage) (take l.piece-index l.pieces)))
    (g.S.Shelf.faults l.shelf ≡ g.S.Shelf.faults l.fn.shelf)
    (g.S.Shelf.files l.shelf ≡ g.S.Shelf.files l.fn.shelf)
