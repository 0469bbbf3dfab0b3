-- The names that the proofs of this crate cite, passed on from one place. Declares nothing.
pub use Rattle.std.proofs.Common.{Bool, Err, List, None, Ok, Option, Result, Some, [], ap, append-nil, arith, codes, false, inl, inr, length, map, refl, rules}
pub use Rattle.std.proofs.Common.{slice_get, subst, suc, sym, true, zero, ℕ, ◌+◌, ◌++◌, ◌<◌, ◌∙◌, ◌∷◌, ◌≡◌, ◌≤◌}
pub use Rattle.std.proofs.lemmas.List.{map-append}
pub use Rattle.std.proofs.lemmas.Option.{same_Some, slice_get_within}
pub use Rattle.std.specs.List.{AllByRecursion}
pub use Rattle.std.specs.Prelude.{IfOk}
pub use Rattle.ta_automaton.proofs.Thresholds.{pattern_within}
pub use Rattle.ta_automaton.specs.Numbered.{OfPattern}
pub use Rattle.ta_automaton.specs.declared.automaton.Automaton.{Automaton}
pub use Rattle.ta_automaton.specs.declared.file.File.{File}
pub use Rattle.ta_automaton.specs.declared.pattern.Pattern.{Pattern}
pub use Rattle.ta_base.proofs.Each.{each_at, each_from}
pub use Rattle.ta_base.proofs.Lists.{some_at}
pub use Rattle.ta_cert.specs.Certificates.{AreWritable, cert_lines, cert_text, head_text, proofs_text}
pub use Rattle.ta_cert.specs.declared.line.Node.{Node}
pub use Rattle.ta_cert.specs.declared.line.Proof.{Proof}
pub use Rattle.ta_rest.proofs.ClaimsShown.{come_after}
pub use Rattle.ta_rest.specs.declared.claim.Claim.TheVariants.{RestSafe}
pub use Rattle.ta_encode.specs.Range.{IsJudged}
pub use Rattle.ta_encode.proofs.Preorders.{in_order, weaker_proof}
pub use Rattle.ta_encode.specs.Refutes.{IsLeaf}
pub use Rattle.ta_encode.specs.Search.{Search}
pub use Rattle.ta_encode.specs.declared.encoded.Solution.{Solution}
pub use Rattle.ta_replay.specs.declared.run.Run.{Run}
pub use Rattle.ta_report.proofs.Picks.{picked_count, picked_there}
pub use Rattle.ta_report.specs.Json.{json_text, sample_data, texts_data, verdict_data, verdicts_data}
pub use Rattle.ta_report.specs.Picked.{first_picked, listed, picked}
pub use Rattle.ta_report.specs.declared.pick.Pick.{Pick}
pub use Rattle.ta_report.specs.declared.pick.Pick.TheVariants.{All, One}
pub use Rattle.ta_report.specs.Report.{VerdictFits, rest_word, run_part, sample_line, told_line, told_lines, told_text, values_text, verdict_text}
pub use Rattle.ta_report.specs.declared.verdict.Verdict.{Verdict}
pub use Rattle.ta_report.specs.declared.verdict.Verdict.TheVariants.{Overflow, Safe, Spent, Unsafe}
pub use Rattle.ta_rest.proofs.EndingShapes.{endings_count, endings_names}
pub use Rattle.ta_rest.proofs.Resting.{no_pairs_good, refuted_show}
pub use Rattle.ta_rest.specs.Endings.{Endings, IsEnding}
pub use Rattle.ta_rest.specs.Faults.{EndingsOf}
pub use Rattle.ta_rest.specs.RestSearch.{rest_rows, rest_search}
pub use Rattle.ta_rest.specs.declared.rest_file.RestFile.{RestFile}
pub use Rattle.ta_moment_tree.specs.Makers.{moments_of}
pub use Rattle.ta_walk.specs.Found.{Found, FoundAt}
pub use Rattle.ta_moments.specs.Refutes.{of_rest}
pub use Rattle.ta_moments.specs.declared.fact.Fact.{Fact}
pub use Rattle.ta_witness.specs.Runs.{EndsAsAdded, IsRestSolution, ending_run}
pub use Rattle.ta_verdict.specs.Rest.Budgets.{RestBudget, moments_within, resting, words_within}
pub use Rattle.ta_verdict.specs.Rest.Certificates.{RestCertificateOf, RestCertificatesAreDetermined, rest_head, rest_text_by, rest_tree, rest_tree_by}
pub use Rattle.ta_verdict.specs.Rest.Laws.{RestTextsAreAlike, RestVerdictsAreDetermined, RestsAreSolved}
pub use Rattle.ta_verdict.specs.Rest.Verdicts.{EndingVerdictHolds, IsNotSafe, KeepsSafe, OwnVerdict, OwnVerdicts, RestVerdictHolds, quiet_question}
pub use Rattle.ta_verdict.specs.Rest.Verdicts.{rest_holds_by, rest_question}
pub use Rattle.ta_verdict.proofs.DraftsMade.{Drafted, adds_tree, wanted_same}
pub use Rattle.ta_verdict.proofs.JudgedSoFar.{JudgedSoFar}
pub use Rattle.ta_verdict.proofs.VerdictsMade.{as_many, held_by, holds_weaker, overflow_holds, run_leaves, said_of}
pub use Rattle.ta_verdict.specs.Certificates.{AreTreesOf, safe_among, safe_picked}
pub use Rattle.ta_verdict.specs.Drafts.{DraftHasTree, DraftKeeps, ended_line}
pub use Rattle.ta_verdict.specs.Verdicts.{EachHolds}
pub use Rattle.ta_walk.proofs.ProofsMade.{proof_made}
pub use Rattle.ta_walk.proofs.WordsVisited.{left_wait, starts_wait}
pub use Rattle.ta_walk.specs.Ends.{IsProof, IsSpent, NodeOf, SolutionAt, TreeIs, TreeKept}
pub use Rattle.ta_witness.specs.Witness.{WitnessFaultOf}
pub use Rattle.ta_shelf.specs.Staging.{Begun}
