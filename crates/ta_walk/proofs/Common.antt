-- The names that the proofs of this crate cite, passed on from one place. Declares nothing.
pub use Rattle.std.proofs.Common.{◌/◌, Bool, FitsSigned, IfOk, List, None, Ok, Option, Some, [], ap, append-nil, append_assoc, arith, codes, decimal, drop, ◌≢◌}
pub use Rattle.std.proofs.Common.{◌%◌, to_z, of_z, vec_len}
pub use Rattle.std.proofs.Common.{false, get_or, inl, inr, length, length-append, lit<, map, nat_lt, negsuc, pos, refl, reverse, rules, slice_get, subst, suc}
pub use Rattle.std.proofs.Common.{sym, take, true, zero, ℕ, ℤ, ◌*ℤ◌, ◌*◌, ◌++◌, ◌+ℤ◌, ◌+◌, ◌-◌, ◌<ℤ◌, ◌<◌, ◌^◌, ◌∙◌, ◌∷◌, ◌≡◌, ◌≤ℤ◌, ◌≤◌, ◌⊎◌}
pub use Rattle.std.proofs.Math.IntN.{*ℤ_comm}
pub use Rattle.std.proofs.lemmas.Bool.{cases_eq, cases_order, cond_both, false≢true}
pub use Rattle.std.proofs.lemmas.Bool.Decides.{nat_tests}
pub use Rattle.std.proofs.lemmas.Int.{by_lt_z, ints, to_z-of_z}
pub use Rattle.std.proofs.lemmas.List.{length-map, map-append, reverse-reverse, take-append-drop, take_more}
pub use Rattle.std.specs.Int.{int_div_euclid, int_rem_euclid, w128, IsGcd}
pub use Rattle.std.specs.List.{AllByRecursion, take-map, range_with_len, list_all, find, list_any}
pub use Rattle.std.specs.Prelude.{IsSomeAnd, filter, if◌then◌else◌, slice_index, unsigned_abs, SomeIff, Result, Err, option_copied}
pub use Rattle.ta_automaton.proofs.Thresholds.{pattern_within}
pub use Rattle.ta_automaton.specs.Patterns.{PatternOver}
pub use Rattle.ta_automaton.specs.declared.automaton.Automaton.{Automaton}
pub use Rattle.ta_automaton.specs.declared.file.File.{File}
pub use Rattle.ta_automaton.specs.declared.pattern.Pattern.{Pattern}
pub use Rattle.ta_base.proofs.DecimalDigits.{row_short}
pub use Rattle.ta_base.proofs.Each.{distinct_append, each_append, each_back, each_from_in, each_front, each_in, each_push, each_take, no_more, each_at}
pub use Rattle.ta_base.proofs.Each.{each_map_all}
pub use Rattle.ta_base.proofs.Integers.{below_limit, cancel_positive, euclid, factor_below, floor_high, floor_low, floor_natural, floor_once, ge-zero_of_mul}
pub use Rattle.ta_base.proofs.Integers.{mul-ge-zero}
pub use Rattle.ta_base.proofs.Integers.{number_short, twice_most, unsigned_abs-neg}
pub use Rattle.ta_base.proofs.Lists.{next_dropped, none_dropped, some_within}
pub use Rattle.ta_base.proofs.Members.{In-left, In-map, In-right, in_append, in_at, in_map}
pub use Rattle.ta_base.proofs.Ranges.{In-numbers, in_numbers}
pub use Rattle.ta_base.specs.Lists.{Distinct, Pairwise}
pub use Rattle.ta_base.specs.Masks.{In}
pub use Rattle.ta_cert.specs.Certificates.{IsOrder, order_lines, pair_of}
pub use Rattle.ta_cert.specs.Lines.{ArePairs, IsMultiplierPair, IsNode, IsSplit, line_text, pair_text, pairs_text, split_text}
pub use Rattle.ta_cert.specs.declared.line.Node.{Node}
pub use Rattle.ta_cert.specs.declared.line.Order.{Order}
pub use Rattle.ta_rest.proofs.ClaimWords.{claim_legal, claim_roots, claim_small, claim_unknowns}
pub use Rattle.ta_rest.proofs.PatternWords.{comes_legal}
pub use Rattle.ta_rest.specs.Claims.{search_for}
pub use Rattle.ta_rest.specs.Trees.{search_of_claim}
pub use Rattle.ta_rest.specs.declared.claim.Claim.{Claim}
pub use Rattle.ta_encode.proofs.Beginning.{at_word, comes_first}
pub use Rattle.ta_encode.proofs.Ranges.{check_stays, leaf_stays, stays_same}
pub use Rattle.ta_encode.proofs.RowCounts.{condition_few, few_unknowns}
pub use Rattle.ta_encode.specs.Cursors.{GoesOn, Inside, IsAtRoot, IsShared, Within, here, left_at, node_at}
pub use Rattle.ta_encode.specs.InTrees.{AllGoOn, AllWithin, here_at}
pub use Rattle.ta_encode.specs.Range.{IsJudged, LeafStays}
pub use Rattle.ta_encode.specs.TreeCalls.{IsSmall, RootIs}
pub use Rattle.ta_encode.specs.declared.cursor.Cursor.{Cursor}
pub use Rattle.ta_dense.specs.Slack.{variables}
unfoldable pub use Rattle.ta_dense.specs.Slack.{slack_tableau}
pub use Rattle.ta_dense.specs.Tableau.{Tableau, basic_of, cell_of, non_basic_of, row_of}
pub use Rattle.ta_encode.proofs.CodeRows.{leaf_of, rows_count, solution_of, unbounded}
pub use Rattle.ta_encode.proofs.Samples.{none_starts, sample_count, sample_few, samples_start}
pub use Rattle.ta_encode.specs.Code.{SystemAt, AreRowsOf}
pub use Rattle.ta_encode.specs.PatternSearch.{all_starts, empty_word, pattern_search}
pub use Rattle.ta_encode.specs.Sample.{HasStart, sample_meanings, sample_search, sampled}
unfoldable pub use Rattle.ta_encode.specs.Sample.{sample_rows}
pub use Rattle.ta_encode.specs.Search.{Comes, Pending, Search, SolvesAt, bound_at, bounded, bounded_rows, longer, parts, Answers, answered, asked, all_or_none}
pub use Rattle.ta_encode.specs.Search.{MayAsk}
pub use Rattle.ta_encode.specs.System.{LinearRow, SolvesWord, bound_row, condition_rows, opposite, processes_row}
pub use Rattle.ta_encode.specs.declared.meaning.Bound.{Bound}
pub use Rattle.ta_encode.specs.declared.meaning.Side.TheVariants.{High, Low}
pub use Rattle.ta_farkas.specs.Columns.{CheckStays, entry}
pub use Rattle.ta_implied.specs.Implied.{AreCopies, ChainLeads, Good, ImplySystem, IsImplied, IsPair, resilience_rows}
pub use Rattle.ta_implied.specs.Orders.{IsShown, MayJoin, is_earlier, with_pair}
pub use Rattle.ta_linear.specs.Leaf.{AreMultipliers, LeafOf}
pub use Rattle.ta_linear.specs.Numbers.{InRange}
pub use Rattle.ta_linear.specs.SameNumbers.{SameNumbers}
pub use Rattle.ta_linear.specs.Terms.{coefficient, IsNormal}
pub use Rattle.ta_linear.specs.declared.row.Row.{Row}
pub use Rattle.ta_linear.specs.declared.row.System.{System}
pub use Rattle.ta_simplex.proofs.DeterminedEnds.{end_once, first_once, none_beside}
pub use Rattle.ta_simplex.proofs.FewMultipliers.{few_multipliers}
pub use Rattle.ta_simplex.proofs.RunLemmas.{reached_dictionary}
pub use Rattle.ta_simplex.proofs.SystemEnds.{end_exists, slack_proper}
pub use Rattle.ta_simplex.proofs.WholeLemmas.{some_both, whole_vertex_solves}
pub use Rattle.ta_simplex.specs.Branch.{IsBranch}
pub use Rattle.ta_simplex.specs.LeastIndex.{LeastStep, OverflowsAt, Reached}
pub use Rattle.ta_simplex.specs.Refuted.{GivesMultipliers, IsRefuted}
pub use Rattle.ta_simplex.specs.Vertex.{IsVertex}
pub use Rattle.ta_simplex.specs.declared.fraction.Fraction.{Fraction}
pub use Rattle.ta_walk.specs.Answers.{HasEnding, HasSystems, SearchesHaveEnds, WalksHaveEnds, WordsHaveSystems}
pub use Rattle.ta_walk.specs.Ends.{Ending, EndingsAreDetermined, FoundWordsAreSolved, HasFewPairs, IsProof, IsShort, IsSpent, IsTreeEnd, IsUnbounded}
pub use Rattle.ta_walk.specs.Ends.{most_unknowns}
pub use Rattle.ta_walk.specs.Ends.{IsVisitEnd, IsVisitEnding, IsVisited, IsWalkEnd, Left, NodeOf, RefutedClaimsHold, SolutionAt, Solved, Stopped, TreeIs}
pub use Rattle.ta_walk.specs.Ends.{TreeKept, WalksAreDetermined, Whole, WholeNode, WholeNodesSolve, ScaledSolve, AreSolution, leaf_count, node_count}
pub use Rattle.ta_walk.specs.Ends.{visit_count}
pub use Rattle.ta_walk.specs.FoundOrders.{AreSoundOrders, FoundAfter, FoundBefore, FoundOrdersAreDetermined, FoundOrdersAreSound, IsTaken, RefutedPair}
pub use Rattle.ta_walk.specs.FoundOrders.{TryAnswers}
pub use Rattle.ta_walk.specs.Inside.Counted.{IsCounted, RoseBy}
pub use Rattle.ta_walk.specs.Inside.Whole.{HasFewFacts, visit_end}
pub use Rattle.ta_walk.specs.Work.{Rose, most_begun}
pub use Rattle.ta_walk.specs.Inside.Parts.{ComesTo, HasFewBounds, HasFewLeft, IsLaterKeeper, IsNotRefuted, IsWholeEnd, LeadsToBoth, PartEnds, PartVisited}
pub use Rattle.ta_walk.specs.Inside.Parts.{SharesBudget, beginning, behind, root_node}
pub use Rattle.ta_walk.specs.Inside.Sought.{ComesFirst, GuardTried, MasksAgree, PairTried}
pub use Rattle.ta_walk.specs.Samples.{IsSampleEnd, SampleAt, SampleEndsAreDetermined, SampleFound, SampleRefuted, SamplesAreReal}
pub use Rattle.ta_walk.specs.Splits.{HasAtMost, HasSplit, SpentNeedsSplits, WasSplit}
pub use Rattle.ta_walk.specs.Visit.{AreNumbers, IsAbove, IsOutOfRangeAt, IsWhole, IsWholeNumber, LeafAt, LeafOutOfRange, NodeAt, OfSystem, RefutedAt}
pub use Rattle.ta_walk.specs.Visit.{SplitVertex, SplitsAt, VertexAt, Visits, WholeAt, IsScaled, IsSettled, OpenVertex, parts_of}
pub use Rattle.ta_walk.specs.declared.end.PlaceKind.{PlaceKind}
pub use Rattle.ta_walk.specs.declared.end.SampleEnd.{SampleEnd}
pub use Rattle.ta_walk.specs.declared.end.TreeEnd.{TreeEnd}
pub use Rattle.ta_walk.specs.declared.end.WalkEnd.{WalkEnd}
pub use Rattle.ta_words.specs.Words.{LegalUnder, LegalWord, is_complete, is_ready, is_standing, may_rise}
unfoldable pub use Rattle.ta_words.specs.Words.{children}
pub use Rattle.ta_words.specs.declared.element.Element.{Element}
pub use Rattle.std.proofs.Math.Nat.{mul-suc, suc-mul}
pub use Rattle.std.proofs.lemmas.Result.{IfOk-weaker}
pub use Rattle.std.specs.Option.{is_some, option_or, option_map}
pub use Rattle.ta_automaton.specs.Narrow.{IsNarrow}
pub use Rattle.ta_cert.specs.declared.line.Node.TheVariants.{Extend}
pub use Rattle.ta_encode.proofs.Preorders.{in_order, weaker_proof}
pub use Rattle.ta_encode.specs.Asking.{AsksNothing}
pub use Rattle.ta_encode.specs.InPreorder.{RefutedInOrder}
pub use Rattle.ta_encode.specs.Refutes.{IsLeaf}
pub use Rattle.ta_linear.proofs.GcdLemmas.{gcd_of_is}
pub use Rattle.ta_linear.proofs.TermLemmas.{coefficient-below, IsNormal-le}
pub use Rattle.ta_linear.specs.Gcd.{gcd_of}
pub use Rattle.ta_moment_tree.proofs.ComingFacts.{come_answers, search_small}
pub use Rattle.ta_moment_tree.proofs.Systems.{bound_start}
pub use Rattle.ta_moment_tree.specs.Forms.{vector_of, forms_of}
pub use Rattle.ta_moment_tree.specs.Kept.{IsKeptAt, NodeIs}
pub use Rattle.ta_moment_tree.specs.Makers.{moment_maker, node_of, may_take, whole_values, scaled_in}
pub use Rattle.ta_moment_tree.specs.Moments.{moment_of}
pub use Rattle.ta_moment_tree.specs.Parts.{guard_of}
pub use Rattle.ta_moment_tree.specs.Systems.{bound_forms, bounded_node}
pub use Rattle.ta_moment_tree.specs.Trees.{asking_of, search_of_moments}
pub use Rattle.ta_moment_tree.specs.declared.encoding.MomentEncoding.{MomentEncoding}
pub use Rattle.ta_moments.proofs.Common.{known_at, moving_rules, and_parts, root, zero-*ℤ}
pub use Rattle.ta_moments.proofs.Searching.{exists_same}
pub use Rattle.ta_moments.proofs.Short.{few_moments}
pub use Rattle.ta_moments.proofs.Worth.{number}
pub use Rattle.ta_moments.specs.Facts.{is_open, question_of}
pub use Rattle.ta_moments.specs.Nodes.{AskedOnce}
pub use Rattle.ta_moments.specs.Questions.{QuestionsMayBeAsked, fits, if_fits, with_product, with_products, Values, is_known_natural, known_value}
pub use Rattle.ta_moments.specs.Questions.{next_question, natural_values, first_order, order_before, counts_positive, fails_at_end, is_at_most, is_guard_open}
pub use Rattle.ta_moments.specs.Questions.{is_order_open, order_to_ask, rule_to_ask}
pub use Rattle.ta_moments.specs.Refutes.{answers, are_pairs}
pub use Rattle.ta_moments.specs.Scaled.{IsCone}
pub use Rattle.ta_moments.specs.Searched.{Maker, answers_if_open, candidate_of, exists_as, moment_search, row_of_form, pending_of, asking_node}
pub use Rattle.ta_moments.specs.Vertices.{PositiveDenominators, common_denominator, multiple_of, number_over, numbers_over, IsNumberOver}
pub use Rattle.ta_moments.specs.Whole.{NoQuestionLeavesNothing}
pub use Rattle.ta_moments.specs.declared.fact.Fact.{Fact}
pub use Rattle.ta_moments.specs.declared.fact.Fact.TheVariants.{Never, First, Stands, Last, Before, After, Same, Fails, Vacant}
pub use Rattle.ta_moments.specs.declared.fact.Question.{Question}
pub use Rattle.ta_moments.specs.declared.fact.Question.TheVariants.{OfGuard, OfOrder, OfStuck}
pub use Rattle.ta_rest.specs.declared.claim.Claim.TheVariants.{Safe}
pub use Rattle.ta_walk.specs.Deciding.{most_questions}
pub use Rattle.ta_walk.specs.Inside.Showing.{EndsAtNode}
pub use Rattle.ta_walk.specs.MomentEnds.{EndsIn}
pub use Rattle.ta_walk.specs.declared.moment_end.MomentEnd.{MomentEnd}
pub use Rattle.ta_witness.specs.Given.{EncodesSomeWhole}
pub use Rattle.ta_witness.specs.MomentRuns.{MomentRunOf}
pub use Rattle.ta_words.proofs.Counts.{legal_length}
