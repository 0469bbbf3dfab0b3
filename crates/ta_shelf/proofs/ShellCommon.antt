-- The names that the proofs of this crate cite, passed on from one place. Declares nothing.
pub use Rattle.std.specs.List.{concat}
pub use Rattle.std.proofs.Common.{Bor, Err, List, None, Ok, Option, Result, Some, [], add-one, ap, append_assoc, arith, drop, drop-cons, get_or, inl, inr}
pub use Rattle.std.proofs.Common.{length, length-append, refl, rules, subst, suc, sym, take, ℕ, ◌++◌, ◌+◌, ◌-◌, ◌<◌, ◌∙◌, ◌∷◌, ◌≡◌, ◌≢◌, ◌≤◌, ◌⊎◌}
pub use Rattle.std.proofs.lemmas.List.{append-nil, append_cancel_left, drop_at, length-take-le, take-append-drop, take-append-le, take_more}
pub use Rattle.std.specs.Option.{IfSome}
pub use Rattle.std.specs.Prelude.{Contains}
pub use Rattle.ta_shelf.specs.Calls.{Call, Event, Grew, Put as PutCall, Reads, Puts, puts, reads, PieceBy, ReadsBy, ReadsFirst, ReadsOn, Spells, Stops}
pub use Rattle.ta_shelf.specs.Calls.{bytes_given}
pub use Rattle.ta_shelf.specs.Put.{Appends, OthersStay, Told, WhereTold, bytes_held}
pub use Rattle.ta_shelf.specs.ReadPiece.{BeginsWith, FillsFrom, GivesFirst, ReadsPiece}
pub use Rattle.ta_shelf.specs.ReadWhole.{IsLonger, ReadsWhole}
pub use Rattle.ta_shelf.specs.declared.fault.WholeFault.TheVariants.{Missing, TooLong}
pub use Rattle.ta_shelf.specs.Commands.{AnswerHolds, Decides, Exact, IsSo, JudgementHolds, Meaning, Says}
pub use Rattle.ta_shelf.specs.Ends.{Calm, End, Ends, FailureTold, IsAnswered, IsHindered, LetGo, Performs, ShelfState, Quiet, SinkFaltered, SinkState, State}
pub use Rattle.ta_shelf.specs.Ends.{Telling, Tells}
pub use Rattle.ta_shelf.specs.Ends.End.{Done, NoMemory, Stopped, Unbegun, Unput, Unread, Unwritten}
pub use Rattle.ta_shelf.specs.Lines.{file_line, longer_than, missing, phrase_text, piece_text, pieces_text, refusal_line, refusal_number}
pub use Rattle.ta_shelf.specs.Puts.{HoldsEither, HoldsPut, HoldsText, KeptBut, PutsWithin, Stand, StopAt, may_put, names_put, output_names, put_bytes, PutText}
pub use Rattle.ta_shelf.specs.Puts.{put_text}
pub use Rattle.ta_shelf.specs.Reading.{Gives, IsReading, IsUnreadable, ReadCause, ReadsFile, SaysOfFile, UnreadBy}
pub use Rattle.ta_shelf.specs.Sights.{Absent, Begins, HasBytes, HasMore, Leads, Part, Sight, Unlike, View, Whole, in_calls, in_files, seen, where_told}
pub use Rattle.ta_shelf.specs.Stages.{FileIsAtFault, FileMeans, Hinders, IsBroken, Kind, ReadingGoesOn, Stage, after, finds, replies, settles}
pub use Rattle.ta_shelf.specs.declared.answer.Answer.{Answer}
pub use Rattle.ta_shelf.specs.declared.answer.Put.{Put}
pub use Rattle.ta_shelf.specs.declared.answer.Refusal.{Refusal}
pub use Rattle.ta_shelf.specs.declared.answer.Refusal.TheVariants.{Memory, PutFailed, ReadFailed, Refused}
pub use Rattle.std.specs.List.{AllByRecursion}
pub use Rattle.ta_base.proofs.Each.{each_append, each_weaker}
pub use Rattle.ta_shelf.specs.OutputCalls.{Acts, AreOfStages, AreStaging, Changed, IsOfStage, LeavesFiles, PutWhole, StopsPublishing, TellsFile}
pub use Rattle.ta_shelf.specs.Ends.{NotBegun, OutOfMemory, PutsStop, Spares, Unpublished, Unstaged}
pub use Rattle.std.specs.Option.{option_map}
pub use Rattle.std.specs.Prelude.{map}
pub use Rattle.std.proofs.lemmas.List.Elements.{Contains-append_left, Contains-append_right}
pub use Rattle.ta_base.proofs.Members.{contains_here, contains_cases}
pub use Rattle.ta_shelf.specs.Stage.{Stages, added, begun, published}
pub use Rattle.ta_shelf.specs.declared.entry.Step.{Step}
pub use Rattle.ta_shelf.specs.declared.fault.PutFault.{PutFault}
pub use Rattle.ta_shelf.specs.Sink.{with_text}
pub use Rattle.ta_shelf.specs.WriteWhole.{AddsPrefix}
pub use Rattle.ta_shelf.specs.Counts.{Faulted}
pub use Rattle.ta_shelf.specs.declared.putting.Halt.{Halt}
pub use Rattle.ta_shelf.specs.Putting.{AddsOr, BeginCause, BeginRefuses, PublishRefused, PublishesOne, Settled, SettledCause, StagesOr, WritesText}
pub use Rattle.ta_base.proofs.Lists.{concat_more}
pub use Rattle.ta_base.specs.declared.limits.TheConstants.{CERTIFICATE_BYTES}
pub use Rattle.ta_shelf.specs.Reading.{SaysLong}
pub use Rattle.ta_shelf.specs.Staging.{Begun, HasNoAnswer, IsOutputOf, IsStagedBy, LeavesRoom, LostByFault, OutputNamed, OutputStaged, SaysAndStages}
pub use Rattle.ta_shelf.specs.Staging.{SettlesFile, StagedBy, StagedInPart, StagedOr, StagedSoFar, answer_seen, output_puts, result_seen}
pub use Rattle.ta_shelf.specs.declared.staged_answer.StagedAnswer.{StagedAnswer}
pub use Rattle.ta_shelf.specs.declared.staged_answer.StagedOutput.{StagedOutput}
pub use Rattle.ta_shelf.specs.declared.staged_answer.StagedOutput.TheVariants.{Unasked, Staged, Lost}
pub use Rattle.ta_shelf.specs.declared.staged_file.StagedFile.{StagedFile}
