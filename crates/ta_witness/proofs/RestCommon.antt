-- The names that the proofs of this crate cite, passed on from one place. Declares nothing.
pub use Rattle.std.proofs.Common.{Bool, IsBitSet, List, None, Some, [], ap, append-nil, append_assoc, arith, cond, false, get_or, inl, inr, length}
pub use Rattle.std.proofs.Common.{length-append, map, refl, reverse, slice_get, subst, suc, sym, take, true, unsigned_abs, zero, ℕ, ℤ, ◌++◌, ◌+◌, ◌<◌, ◌^◌, ◌∙◌}
pub use Rattle.std.proofs.Common.{◌∷◌, ◌≡◌, ◌≤◌}
pub use Rattle.std.proofs.lemmas.Bool.{cases_Bool, false≢true, true≢false}
pub use Rattle.std.proofs.lemmas.List.{append_cancel_right, ext_get_or, reverse-append, reverse-reverse}
pub use Rattle.std.proofs.lemmas.Option.{same_Some, slice_get-get_or, slice_get_within}
pub use Rattle.std.specs.List.{AllByRecursion}
pub use Rattle.std.specs.Prelude.{IsTrue, option_to_list, slice_index, ◌↔◌}
pub use Rattle.ta_automaton.proofs.Thresholds.{after_earlier, pattern_within}
pub use Rattle.ta_automaton.specs.Runs.{At, Config, Holds, InScope, Initial}
pub use Rattle.ta_automaton.specs.declared.automaton.Automaton.{Automaton}
pub use Rattle.ta_automaton.specs.declared.file.File.{File}
pub use Rattle.ta_automaton.specs.declared.pattern.Event.{Event}
pub use Rattle.ta_automaton.specs.declared.pattern.Pattern.{Pattern}
pub use Rattle.ta_base.proofs.Bits.{at_set, bit_set, bit_true}
pub use Rattle.ta_base.proofs.Each.{each_at, each_back, each_from, each_front}
pub use Rattle.ta_base.specs.Masks.{has_bit}
pub use Rattle.ta_encode.specs.declared.encoded.Solution.{Solution}
pub use Rattle.ta_replay.specs.Fits.{Fits, LineFits}
pub use Rattle.ta_replay.specs.Replays.{ConditionStays, LineStays, NumbersStay, ReplayStays, ValuesAfter}
pub use Rattle.ta_replay.specs.Shows.{IsFirstConfig, MarkedOnce, MarksAt, Shows, ShowsPattern, unit_steps}
pub use Rattle.ta_replay.specs.declared.run.Run.{Run}
pub use Rattle.ta_replay.specs.declared.run.RunLine.{RunLine}
pub use Rattle.ta_replay.specs.declared.run.RunLine.TheVariants.{Mark, Step}
pub use Rattle.ta_rest.proofs.EndingLaws.{back_of, end_config, endings_rest, moved_count}
pub use Rattle.ta_rest.proofs.Solutions.{by_event, end_hold, steps_rest}
pub use Rattle.ta_rest.specs.Endings.{ComesLast, Endings, IsEnding, LastMoved, RestAdded, events_below}
pub use Rattle.ta_rest.specs.Faults.{EndingsOf}
pub use Rattle.ta_rest.specs.Rest.{AtRest, ComeAfterEarlier, RestOccurs}
pub use Rattle.ta_witness.specs.Laws.{OwnRunsRest, RestSolutionsSolve, RestWitnessesAreDetermined, RestWitnessesRest}
pub use Rattle.ta_witness.specs.Runs.{ComesToRest, EndsAsAdded, IsRestSolution, OccursAtRest, RestWitnessOf, ending_run, marked_at_end}
pub use Rattle.ta_witness.proofs.Backward.{PiecesBack, piece_rules, pieces_back, pieces_fire, values_of}
pub use Rattle.ta_witness.proofs.Witnesses.{Parts, parts_of}
pub use Rattle.ta_witness.specs.Witness.{IsShortRun, WitnessOf}
pub use Rattle.ta_words.specs.declared.element.Element.{Element}
