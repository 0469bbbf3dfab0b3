use Rattle.ta_shelf.proofs.Common.{concat}
use Rattle.ta_shelf.proofs.ShellCommon.{◌≡◌, ◌++◌, ℕ, List, take, Begun, StagedSoFar}
use Rattle.ta_shelf.proofs.staged_file.add_texts_to_file.Given as goal

-- so many of the texts were handed over
abbrev pub invariant-loop-text : goal.invariant-loop-text
invariant-loop-text g l =
    (begun : Begun) (text : List ℕ) → StagedSoFar g.S.Shelf.stage_name g.S.Shelf.stage_bytes begun l.fn.file
    (record { files = g.S.Shelf.files l.fn.shelf; calls = g.S.Shelf.calls l.fn.shelf; faults = g.S.Shelf.faults l.fn.shelf }) text
    → StagedSoFar g.S.Shelf.stage_name g.S.Shelf.stage_bytes begun l.file
    (record { files = g.S.Shelf.files l.shelf; calls = g.S.Shelf.calls l.shelf; faults = g.S.Shelf.faults l.shelf })
    (text ++ concat (take l.text-index l.texts))
