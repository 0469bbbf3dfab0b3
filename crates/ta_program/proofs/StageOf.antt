-- a file was read, and its bytes were judged
use Rattle.ta_program.proofs.Common.{List, ℕ, Option, Result, Ok, Err, Event, Grew, Told, grew_meant, grew_means, grew_unspared, Refusal, ReadsFile, Kind}
use Rattle.ta_program.proofs.Common.{MeantBy, Stage, SparedStage}

module _ {A F T : Type 0} (kind : Kind A F) (value : T → A) (files : Option Told) (name : List ℕ) (before last : List Event) (bytes : List ℕ)
    (h : Grew (ReadsFile files name kind.limit (Ok bytes)) before last) where
  pub stage_of : (result : Result T Refusal) → MeantBy kind value name bytes result → Grew (Stage kind value files name result) before last
  stage_of (Ok given) m = grew_means kind value files name before last bytes h given m
  stage_of (Err refusal) m = grew_meant kind value files name before last bytes h refusal m

  -- of a file that means no value the outputs aren't looked at
  pub unspared_of : (outs : List (List ℕ)) (refusal : Refusal) → MeantBy {T = T} kind value name bytes (Err refusal)
      → Grew (SparedStage {T = T} kind value files name outs (Err refusal)) before last
  unspared_of outs refusal m = grew_unspared kind value files name outs refusal before last (grew_meant kind value files name before last bytes h refusal m)
