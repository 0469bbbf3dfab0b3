-- The names that the proofs of this crate cite, passed on from one place. Declares nothing.
pub use Rattle.std.proofs.Common.{Bool, Err, FitsSigned, IfErr, IfOk, IsErrOf, List, None, Ok, Option, Result, Some, [], ap, append-nil, append_assoc, arith}
pub use Rattle.std.proofs.Common.{cond, drop, false, get_or, inl, inr, is_err, length, length-append, length-drop, lit≤, map, nat_lt, of_z, pos, refl, reverse}
pub use Rattle.std.proofs.Common.{rules, slice_get, subst, suc, sym, take, take-append-drop, to_z, true, unsigned_abs, zero, ℕ, ℤ, ◌*ℤ◌, ◌++◌, ◌+ℤ◌, ◌+◌, ◌<ℤ◌}
pub use Rattle.std.proofs.Common.{◌<◌, ◌^◌, ◌∙◌, ◌∷◌, ◌≡◌, ◌≢◌, ◌≤ℤ◌, ◌≤◌, ◌⊎◌}
pub use Rattle.std.proofs.Math.Seq.{take-append_seam}
pub use Rattle.std.proofs.lemmas.Bool.{cases_lt, false_from_ne_true, false≢true, not-true, not_from_false}
pub use Rattle.std.proofs.lemmas.Int.{fits_signed_from_abs, ints, to_z-of_z}
pub use Rattle.std.proofs.lemmas.List.{reverse-append, reverse-reverse}
pub use Rattle.std.proofs.lemmas.Option.{none-some, slice_get_cases, slice_get_within}
pub use Rattle.std.proofs.result.Match.{err_is}
pub use Rattle.std.specs.Int.{w128}
pub use Rattle.std.specs.List.{AllByRecursion}
pub use Rattle.ta_automaton.specs.declared.automaton.Automaton.{Automaton}
pub use Rattle.ta_automaton.specs.declared.file.File.{File}
pub use Rattle.ta_automaton.specs.declared.pattern.Pattern.{Pattern}
pub use Rattle.ta_base.proofs.Each.{apart_before, each_all, each_back, older_new, others, still_new}
pub use Rattle.ta_base.proofs.Lists.{reverse_onto, some_at}
pub use Rattle.ta_base.proofs.Members.{In-left, In-right, in_append, known_first}
pub use Rattle.ta_base.proofs.Options.{none_of}
pub use Rattle.ta_base.specs.Lists.{Distinct, SameMembers}
pub use Rattle.ta_base.specs.Masks.{In}
pub use Rattle.ta_cert.proofs.Standing.{lines_numbered}
pub use Rattle.ta_cert.specs.Certificates.{AreOrders, AreWritable, order_lines, pair_of, proof_lines, proofs_of, version_of}
pub use Rattle.ta_cert.specs.Laws.{AreLater, AreShort, IsWhole, numbered_lines, unnumbered}
pub use Rattle.ta_cert.specs.Lines.{ArePairs, IsLine, IsNode, IsVersion, cert_lines_text, has_end, line_text}
pub use Rattle.ta_cert.specs.Streams.{Fails, GivesLine, IsErrOrMemory, Outcome, State, add_lines, end_of, failed, finish, first_line, on, start}
pub use Rattle.ta_cert.specs.Streams.{state, steps, text_lines}
pub use Rattle.ta_cert.specs.Tree.{Tree, all_preorder}
pub use Rattle.ta_cert.specs.declared.fault.CertFault.{CertFault}
pub use Rattle.ta_cert.specs.declared.line.Line.{Line}
pub use Rattle.ta_cert.specs.declared.line.Node.{Node}
pub use Rattle.ta_cert.specs.declared.line.Order.{Order}
pub use Rattle.ta_cert.specs.declared.reader.Reader.{Reader}
pub use Rattle.ta_check.specs.Certificate.{AllClaimsHold, AllQuietRestSafe, AllRestSafe, AllSafe, AllUnsolved, Certificate, CertificateFor}
pub use Rattle.ta_check.specs.Certificate.{CertificatesNameOneList, CertificatesShow, ClaimsHold, MayClaimAll, MayHave, PatternUnsolved, ProvesClaim}
pub use Rattle.ta_check.specs.Certificate.{ShowsPair, lines_of_kind, may_have, proof_number}
pub use Rattle.ta_check.specs.Checkers.{CheckerFeedAnswers, CheckerFinishAnswers, CheckerStandsFor, IsExactCheck, IsExactFeed, IsSoundChecker, StandBehind}
pub use Rattle.ta_check.specs.Checkers.{subject_of}
pub use Rattle.ta_check.specs.Faults.{AsksInVain, AtSomeWord, FirstFaultAlong, FirstLeafFault, HasNoForm, IsAtFault, IsFirstFaultFor, IsIdle, IsLastingFor}
pub use Rattle.ta_check.specs.Faults.{IsMisplaced, IsMisplacedNode, IsNoPair, IsUnawaited, IsWaiting, LastingFaultsLast, LeafFails, PairFails}
pub use Rattle.ta_check.specs.Forms.{HasForm, IsNoLeaf, IsQuestion}
pub use Rattle.ta_check.specs.Inside.Leaves.{WithoutBounds, renumbered}
pub use Rattle.ta_check.specs.Inside.Pieces.{IsToldOf, NextTaken, StandSomewhere, TakenTo}
pub use Rattle.ta_check.specs.Lines.{AtWord, BeginsProof, EndsCertificate, FactAt, LeadThrough, Leads, NothingIsLeft, OpensCertificate, ShowsWaiting, Standing}
pub use Rattle.ta_check.specs.Lines.{Stands, TakesOrder, Waits, first_standing, opened, search_there}
pub use Rattle.ta_check.specs.Positions.{Between, InNewest, IsKeptIn, IsPositionAt, LeafRefused, LeafTaken, LeafTold, LineAnswers, NodeStood}
pub use Rattle.ta_check.specs.Positions.{NodeTaken, NodeTold, SplitsNone, fault_at, place_of, unasked_in}
pub use Rattle.ta_check.specs.Subjects.{HasVersion, Kind, Moments, Subject, Words, asking_for, claimed_with, claiming, claiming_with, fact_of, kind_of}
pub use Rattle.ta_check.specs.Subjects.{moments_of, search_at, search_in, search_of, version_for}
pub use Rattle.ta_check.specs.declared.accepted.Accepted.{Accepted}
pub use Rattle.ta_check.specs.declared.position.Position.{Position}
pub use Rattle.ta_rest.specs.Claims.{MayClaim, search_for}
pub use Rattle.ta_rest.specs.Trees.{search_of_claim}
pub use Rattle.ta_rest.specs.declared.claim.Claim.{Claim}
pub use Rattle.ta_rest.specs.declared.claim.Claim.TheVariants.{RestSafe, Safe}
pub use Rattle.ta_encode.proofs.Ranges.{check_stays, leaf_stays, stays_same}
pub use Rattle.ta_encode.proofs.TreesLeft.{here_first, here_is, later_words}
pub use Rattle.ta_encode.specs.Cursors.{IsWord, here}
pub use Rattle.ta_encode.specs.InTrees.{AllGoOn, AllWithin, IsAllWithin, here_at}
pub use Rattle.ta_encode.specs.Range.{IsJudged}
pub use Rattle.ta_encode.specs.declared.cursor.Cursor.{Cursor}
pub use Rattle.ta_encode.specs.declared.cursor_place.Place.{Place}
pub use Rattle.ta_encode.proofs.CodeRows.{leaf_back, leaf_of, rows_count, weighted_same}
pub use Rattle.ta_encode.proofs.Preorders.{in_order, weaker_proof}
pub use Rattle.ta_encode.proofs.Whole.{unbounded_rows, whole_system}
pub use Rattle.ta_encode.specs.Code.{AreRowsOf, IsRowOf, SystemAt}
pub use Rattle.ta_encode.specs.InPreorder.{MayStand, Pending, RefutedInOrder, Search, parts}
pub use Rattle.ta_encode.specs.Lines.{BoundsWithin}
pub use Rattle.ta_encode.specs.Marks.{IsEncoding}
pub use Rattle.ta_encode.specs.Search.{Comes, MayAsk, asked, bounded_rows}
pub use Rattle.ta_encode.specs.System.{LinearRow, bound_row, word_rows}
pub use Rattle.ta_farkas.proofs.Judging.{no_fault}
pub use Rattle.ta_farkas.specs.Columns.{CheckStays, ColumnStays, column_sum, entry, part_in}
pub use Rattle.ta_farkas.specs.Faults.{FineBefore, FirstMissing, IsFirstFaultOfLeaf, row_at}
pub use Rattle.ta_farkas.specs.declared.LeafFault.{LeafFault}
pub use Rattle.ta_farkas.specs.declared.LeafFault.TheVariants.{NotNegative, Overflow, Positive, RowNumber}
pub use Rattle.ta_implied.proofs.Chains.{leads_along}
pub use Rattle.ta_implied.specs.Implied.{Good, IsPair}
pub use Rattle.ta_implied.specs.Orders.{IsShown, JoinsPair, MayJoin, with_pair}
pub use Rattle.ta_implied.specs.Refused.{FailsToShow, IsOrderFault}
pub use Rattle.ta_linear.specs.Leaf.{AreMultipliers, LeafOf, coefficient_in, constant_in}
unfoldable pub use Rattle.ta_linear.specs.Leaf.{weighted}
pub use Rattle.ta_linear.specs.declared.row.Row.{Row}
pub use Rattle.ta_linear.specs.declared.row.System.{System}
pub use Rattle.ta_rest.specs.Endings.{ComesLast, Endings, IsEnding}
pub use Rattle.ta_rest.specs.Faults.{EndingsOf}
pub use Rattle.ta_words.specs.declared.element.Element.{Element}
