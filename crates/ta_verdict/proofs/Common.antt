-- The names that the proofs of this crate cite, passed on from one place. Declares nothing.
pub use Rattle.std.proofs.Common.{Bool, Err, IfOk, List, None, Ok, Option, Result, Some, [], ap, append-nil, append_assoc, arith, codes, decimal, false, inl}
pub use Rattle.std.proofs.Common.{string_bytes}
pub use Rattle.std.proofs.Common.{inr, length, lit<, lit≤, map, pos, refl, reverse, rules, slice_get, subst, suc, sym, take, true, zero, ℕ, ℤ, ◌++◌, ◌+◌, ◌<◌}
pub use Rattle.std.proofs.Common.{◌^◌, ◌∙◌, ◌∷◌, ◌≡◌, ◌≤◌, ◌⊎◌}
pub use Rattle.std.proofs.lemmas.List.{length-map, length-take-le, take_all}
pub use Rattle.std.proofs.lemmas.Option.{same_Some, slice_get_within}
pub use Rattle.std.specs.List.{AllByRecursion, concat}
pub use Rattle.std.specs.declared.alloc.AllocError.{AllocError}
pub use Rattle.ta_automaton.specs.Numbered.{OfPattern}
pub use Rattle.ta_automaton.specs.Runs.{LoopsPure, Config}
pub use Rattle.ta_automaton.specs.declared.file.File.{File}
pub use Rattle.ta_automaton.specs.declared.pattern.Pattern.{Pattern}
pub use Rattle.ta_base.proofs.Each.{above_apart, each_append, each_map, each_push, weaker}
pub use Rattle.ta_base.proofs.Lists.{some_at, take_next}
pub use Rattle.ta_cert.specs.Certificates.{AreWritable, cert_lines, cert_text, head_text, nodes_text, order_lines, pair_of, proof_lines, proof_of, proof_text}
pub use Rattle.ta_cert.specs.Certificates.{proofs_of, proofs_text, question_text, version_of}
pub use Rattle.ta_cert.specs.Lines.{line_text, node_text}
pub use Rattle.ta_cert.specs.declared.line.Node.{Node}
pub use Rattle.ta_cert.specs.declared.line.Order.{Order}
pub use Rattle.ta_cert.specs.declared.line.Proof.{Proof}
pub use Rattle.ta_rest.specs.declared.claim.Claim.TheVariants.{Safe}
pub use Rattle.ta_encode.specs.PatternSearch.{pattern_search}
pub use Rattle.ta_encode.specs.Search.{Pending, Search}
pub use Rattle.ta_encode.specs.declared.encoded.Solution.{Solution}
pub use Rattle.ta_walk.specs.Found.{Found, FoundAt}
pub use Rattle.ta_moments.specs.Refutes.{of_events}
pub use Rattle.ta_moments.specs.declared.fact.Fact.{Fact}
pub use Rattle.ta_report.proofs.Picks.{entry_picked, entry_place, picked_there}
pub use Rattle.ta_report.specs.Picked.{entry_of, first_picked, picked}
pub use Rattle.ta_report.specs.Report.{VerdictFits}
pub use Rattle.ta_report.specs.declared.pick.Pick.{Pick}
pub use Rattle.ta_report.specs.declared.verdict.ReportKind.{ReportKind}
pub use Rattle.ta_report.specs.declared.verdict.Verdict.{Verdict}
pub use Rattle.ta_report.specs.declared.verdict.Verdict.TheVariants.{Overflow, Unsafe}
pub use Rattle.ta_scope.proofs.Judging.{loops_pure}
pub use Rattle.ta_verdict.specs.Certificates.{AreTrees, AreTreesOf, CertificateOf, CertificateOn, CertificatesAreDetermined, SafeOne, safe_among, safe_numbers}
pub use Rattle.ta_verdict.specs.Certificates.{safe_ones, safe_picked, text_by, tree_by, tree_size, tree_under, with_safe}
pub use Rattle.ta_verdict.specs.Drafts.{AddsTree, DraftBegins, DraftHasTree, DraftKeeps, HasProofs, HasText, HasTrees, ended_line, pieces_text}
pub use Rattle.ta_verdict.specs.Trees.{AreTreesOfFile, head_of, is_lazy}
pub use Rattle.ta_verdict.specs.Verdicts.{EachHolds, IsOutOfRangeIn, IsSample, Question, SafeHolds, SampleHolds, SamplesAreDetermined, SpentHolds, UnderOrders}
pub use Rattle.ta_verdict.specs.Verdicts.{VerdictAnswers, VerdictHolds, VerdictsAreDetermined, holds_by, moment_question, place_of, safety_question}
pub use Rattle.ta_verdict.specs.declared.budget.Budget.{Budget}
pub use Rattle.ta_verdict.specs.declared.draft.Draft.{Draft}
pub use Rattle.ta_walk.proofs.DeterminedEnds.{endings_once, ends_once, node_with}
pub use Rattle.ta_walk.proofs.OrdersOnce.{orders_once}
pub use Rattle.ta_walk.proofs.OrdersSound.{orders_sound}
pub use Rattle.ta_walk.proofs.ProofsMade.{refuted_hold}
pub use Rattle.ta_walk.specs.Ends.{Ending, IsProof, IsShort, IsSpent, IsVisitEnding, Left, NodeOf, SolutionAt, Solved, Stopped, TreeIs, Whole, leaf_count}
pub use Rattle.ta_walk.specs.Ends.{most_unknowns}
pub use Rattle.ta_walk.specs.FoundOrders.{FoundOrders}
pub use Rattle.ta_walk.specs.Visit.{WholeAt}
pub use Rattle.ta_walk.specs.declared.end.PlaceKind.{PlaceKind}
pub use Rattle.ta_witness.specs.Witness.{IsSolution, WitnessFaultOf, IsShortRun}
pub use Rattle.ta_shelf.specs.Staging.{Begun, StagedOr}
pub use Rattle.std.proofs.lemmas.Bool.{false≢true}
pub use Rattle.std.proofs.lemmas.Result.{IfOk-weaker}
pub use Rattle.std.specs.Prelude.{OnOk, IfErr}
pub use Rattle.ta_automaton.specs.Narrow.{IsNarrow, IsWithin}
pub use Rattle.ta_base.specs.declared.limits.Limits.{Limits}
pub use Rattle.ta_check.specs.Certificate.{Certificate, QuietRestCertificate}
pub use Rattle.ta_check.specs.Subjects.{Moments, Words, claimed_with}
pub use Rattle.ta_implied.specs.Implied.{Good}
pub use Rattle.ta_moment_tree.specs.Makers.{moments_of}
pub use Rattle.ta_replay.specs.Fits.{Fits}
pub use Rattle.ta_replay.specs.Replays.{ReplayStays}
pub use Rattle.ta_replay.specs.declared.run.Run.{Run}
pub use Rattle.ta_report.specs.declared.verdict.ReportSample.{ReportSample}
pub use Rattle.ta_rest.specs.Quiet.{QuietRestOccurs}
pub use Rattle.ta_rest.specs.Trees.{search_of_claim}
pub use Rattle.ta_walk.proofs.ClaimsVisited.{visit_of}
pub use Rattle.ta_walk.proofs.RunsOnce.{runs_once}
pub use Rattle.ta_walk.specs.MomentEnds.{LostAt}
pub use Rattle.ta_witness.proofs.OwnRuns.{ending_steps}
pub use Rattle.ta_witness.proofs.WitnessOnce.{one_witness}
pub use Rattle.ta_witness.specs.Resting.{OccursAtQuietRest}
