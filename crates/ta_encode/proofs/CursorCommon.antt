-- The names that the proofs of this crate cite, passed on from one place. Declares nothing.
pub use Rattle.std.proofs.Common.{Bool, Err, FitsSigned, IfOk, List, None, Ok, Option, Result, Some, [], ap, append_assoc, arith, cond, drop, false, inl, inr}
pub use Rattle.std.proofs.Common.{length, length-append, map, nat_lt, not, pos, refl, reverse, rules, slice_get, subst, suc, sym, take, true, ℕ, ℤ, ◌*ℤ◌, ◌*◌}
pub use Rattle.std.proofs.Common.{◌++◌, ◌+ℤ◌, ◌+◌, ◌<◌, ◌^◌, ◌∙◌, ◌∷◌, ◌≡◌, ◌≤◌, ◌⊎◌}
pub use Rattle.std.proofs.lemmas.Bool.{cases_lt, ltb-false}
pub use Rattle.std.proofs.lemmas.Int.{ints, to_z-of_z}
pub use Rattle.std.proofs.lemmas.List.{append-nil, length-map, length-take-le, reverse-append, take-take, take_all}
pub use Rattle.std.proofs.lemmas.Option.{slice_get-map, slice_get_read}
pub use Rattle.std.specs.Int.{w128}
pub use Rattle.std.specs.List.{range_with_len}
pub use Rattle.std.specs.Prelude.{filter, ◌==◌}
pub use Rattle.std.specs.declared.alloc.AllocError.{AllocError}
pub use Rattle.ta_automaton.specs.declared.automaton.Automaton.{Automaton}
pub use Rattle.ta_automaton.specs.declared.pattern.Pattern.{Pattern}
pub use Rattle.ta_base.proofs.Lists.{all_taken, fewer_alike, longer_by, next_dropped, none_dropped, take_begins}
pub use Rattle.ta_base.proofs.Members.{in_at}
pub use Rattle.ta_base.proofs.Ranges.{count_few}
pub use Rattle.ta_base.specs.Masks.{has_bit}
pub use Rattle.ta_cert.specs.declared.line.Node.TheVariants.{Extend, Split}
pub use Rattle.ta_encode.specs.Cursors.{BeginsWithin, FrameFits, FramesFit, GoesOn, Inside, IsAtRoot, IsBeforeWords, IsShared, IsUnshared, IsWithin, IsWord}
pub use Rattle.ta_encode.specs.Cursors.{SplitFits, WentOn, Within, all_behind, behind, here, left_at, node_at, open_node}
pub use Rattle.ta_encode.specs.Asking.{ask_node, node_of}
pub use Rattle.ta_encode.specs.InTrees.{AllGoOn, AllWithin, here_at}
pub use Rattle.ta_encode.specs.TreeCalls.{IsAnswer, IsRoot, IsSmall}
pub use Rattle.ta_encode.specs.declared.cursor.Cursor.{Cursor}
pub use Rattle.ta_encode.specs.declared.cursor.Frame.{Frame}
pub use Rattle.ta_encode.proofs.CodeRows.{coefficient_same, constant_same, rows_count}
pub use Rattle.ta_encode.specs.Code.{SystemAt}
pub use Rattle.ta_encode.specs.Search.{BeginsAtWord, Comes, Pending, Search, bound_at, bounded, bounded_rows, longer, parts, answered}
pub use Rattle.ta_encode.specs.declared.meaning.Bound.{Bound}
pub use Rattle.ta_encode.specs.declared.meaning.Side.TheVariants.{High, Low}
pub use Rattle.ta_linear.specs.declared.row.System.{System}
pub use Rattle.ta_words.proofs.Counts.{event_new, fall_new, in_children, legal_length, rise_new}
pub use Rattle.ta_words.specs.Words.{LegalWord, allowed_rules, is_ready, is_standing}
unfoldable pub use Rattle.ta_words.specs.Words.{has_event, has_fallen, has_rise}
pub use Rattle.ta_words.specs.declared.element.Element.{Element}
pub use Rattle.ta_words.specs.declared.element.Element.TheVariants.{Event, Fall, Rise}
