-- The names that the proofs of this crate cite, passed on from one place. Declares nothing.
pub use Rattle.std.proofs.Common.{All, Bool, IsBitSet, List, None, Option, Some, [], ap, arith, cond, eqb, eqb-true, false, get_or, inl, inr, length, not, pos}
pub use Rattle.std.proofs.Common.{refl, slice_get, subst, suc, sym, true, zero, ℕ, ℤ, ◌*ℤ◌, ◌*◌, ◌++◌, ◌+ℤ◌, ◌+◌, ◌-◌, ◌<◌, ◌↔◌, ◌∙◌, ◌∷◌, ◌≡◌, ◌≢◌, ◌≤ℤ◌, ◌≤◌}
pub use Rattle.std.proofs.Common.{◌⊎◌}
pub use Rattle.std.proofs.lemmas.Bool.{cases_Bool, cases_lt, cond-false, cond-true}
pub use Rattle.std.proofs.lemmas.Bool.Decides.{eqb_tells, nat_tests}
pub use Rattle.std.proofs.lemmas.Grind.{same_number_lists}
pub use Rattle.std.proofs.lemmas.Int.{ints}
pub use Rattle.std.proofs.lemmas.List.{get_or_past}
pub use Rattle.std.proofs.lemmas.Option.{same_Some, slice_get-get_or, slice_get_within}
pub use Rattle.ta_automaton.proofs.Trails.{run_length}
pub use Rattle.ta_automaton.specs.Places.{Whole}
pub use Rattle.ta_automaton.specs.Runs.{Config, Holds, Initial, LoopsPure, MaskedHold, Occurs, Run, Step, Steps, value_at}
pub use Rattle.ta_automaton.specs.declared.automaton.Automaton.{Automaton}
pub use Rattle.ta_automaton.specs.declared.pattern.Event.{Event}
pub use Rattle.ta_automaton.specs.declared.pattern.Pattern.{Pattern}
pub use Rattle.ta_automaton.specs.declared.rule.Rule.{Rule}
pub use Rattle.ta_linear.specs.Terms.{coefficient}
pub use Rattle.ta_linear.specs.Values.{RowHolds, value_of}
pub use Rattle.ta_linear.specs.declared.row.Row.{Row}
pub use Rattle.ta_rest.specs.Quiet.{MustMove, NoneSubtracted, QuietRest, QuietRestOccurs, QuietRestSafe}
pub use Rattle.ta_rest.specs.Rest.{ComeAfterEarlier}
pub use Rattle.ta_rest.specs.Moves.{FewMoves, is_move}
unfoldable pub use Rattle.ta_rest.specs.Moves.{moves_count}
pub use Rattle.ta_scope.specs.LongerCycles.{LoopsAlone}
pub use Rattle.ta_rest.specs.Fair.{CalmFrom, Fair, Follows, InfiniteRun, OccursForEver}
pub use Rattle.ta_rest.specs.FairLaws.{CalmRunsRest, FairRunsComeToRest, FairRunsOfFiles, GoesOn, GoesOnFairly, RestingRunsGoOn, RunsBecomeCalm, RunsGoOnFairly}
