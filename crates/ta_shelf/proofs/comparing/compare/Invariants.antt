use Rattle.ta_shelf.proofs.Common.{◌≤◌, ◌-◌, length, take}
use Rattle.ta_shelf.proofs.ReadSoFar.{Kept}
use Rattle.ta_shelf.proofs.comparing.compare.Given as goal

-- so many of the bytes are the first ones of the file
pub record Compared (Within Read : Type 0) : Type 0 where
  pub within : Within
  pub read : Read

abbrev pub invariant-comparing : goal.invariant-comparing
invariant-comparing g l = Compared
    (l.at ≤ length l.bytes)
    (Kept (g.S.Shelf.calls l.fn.shelf) (g.S.Shelf.calls l.shelf) (g.S.Shelf.files l.fn.shelf) l.name 0 (take l.at l.bytes) (g.S.Shelf.files l.shelf)
    (g.S.Shelf.faults l.fn.shelf) (g.S.Shelf.faults l.shelf))

-- the bytes that aren't compared yet
abbrev pub decreases-comparing : goal.decreases-comparing
decreases-comparing g l = length l.bytes - l.at
