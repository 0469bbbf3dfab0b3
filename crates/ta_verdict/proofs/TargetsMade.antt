-- lines that go to a staged file
use Rattle.ta_verdict.proofs.Common.{ℕ, List, Result, Ok, Err, Begun, IfErr, OnOk, StagedOr}
use Rattle.ta_shelf.specs.Ends.{ShelfState}
use Rattle.ta_shelf.specs.Staging.{StagedInPart, StagedSoFar}
use Rattle.ta_shelf.specs.declared.staged_file.StagedFile.{StagedFile}

module _ {T E : Type 0} (named bytes : T → List ℕ) (begun : Begun) (file : StagedFile T) (shelf : ShelfState) (text : List ℕ) where
  pub adds_or : (result : Result (Unit {0}) E) → StagedOr named bytes begun result file shelf text → OnOk result (StagedSoFar named bytes begun file shelf text)
  adds_or (Ok u) h = h
  adds_or (Err e) h = tt

  pub stops_or : (result : Result (Unit {0}) E) → StagedOr named bytes begun result file shelf text → IfErr result (λ e. StagedInPart named begun file shelf)
  stops_or (Ok u) h = tt
  stops_or (Err e) h = h
