-- The names that the proofs of this crate cite, passed on from one place. Declares nothing.
pub use Rattle.std.proofs.Common.{Bool, List, Some, [], ap, append_assoc, arith, bit_or, cond, eqb, false, get_or, inl, inr, length, length-append, lit<, map}
pub use Rattle.std.proofs.Common.{neg_ℤ, pos, refl, set, slice_get, subst, suc, sym, take, true, zero, ℕ, ℤ, ◌%◌, ◌&&◌, ◌*◌, ◌++◌, ◌+ℤ◌, ◌+◌, ◌-◌, ◌<◌, ◌^◌}
pub use Rattle.std.proofs.Common.{◌||◌, ◌↔◌, ◌∙◌, ◌∷◌, ◌≡◌, ◌≢◌, ◌≤ℤ◌, ◌≤◌, ◌⊎◌}
pub use Rattle.std.proofs.lemmas.Bool.{cases_Bool, cases_lt, cond-false, cond-true, false≢true, lt-ltb, or_cases, or_left, or_right}
pub use Rattle.std.proofs.lemmas.Bool.Decides.{Decides-eqb, eqb_tells, nat_tests}
pub use Rattle.std.proofs.lemmas.List.{append-nil, get_or_append_left, get_or_past}
pub use Rattle.std.proofs.lemmas.Nat.{le_or_l}
pub use Rattle.std.proofs.lemmas.Option.{same_Some, slice_get_read}
pub use Rattle.std.specs.List.{AllByRecursion, range_with_len}
pub use Rattle.std.specs.Prelude.{All, filter, flat_map, nat_lt, replicate}
pub use Rattle.ta_automaton.specs.Forms.{FormOver, RiseRow}
pub use Rattle.ta_automaton.specs.declared.automaton.Automaton.{Automaton}
pub use Rattle.ta_automaton.specs.declared.condition.Comparison.{Comparison}
pub use Rattle.ta_base.proofs.Bits.{bit_in_masks_below, has_above, has_none, has_or, no_numbers, some_bit, with_bit}
pub use Rattle.ta_base.proofs.Each.{behind_distinct, each_at, each_from_in, each_in, each_set}
pub use Rattle.ta_base.proofs.Lists.{cond_append, take_next_read}
pub use Rattle.ta_base.proofs.Members.{In-filter, In-left, In-map, In-right, back, either, in_append, in_filter, in_map}
pub use Rattle.ta_base.proofs.Ranges.{In-numbers, in_numbers}
pub use Rattle.ta_base.specs.Masks.{In, has_bit}
pub use Rattle.ta_implied.specs.Copies.{AreCopied, resilience_of}
pub use Rattle.ta_implied.specs.Implied.{AreCopies, ChainLeads, Good, GuardsComeAfter, ImplySystem, IsCopy, IsImplied, IsPair, LeavesImply, RiseHolds}
pub use Rattle.ta_implied.specs.Implied.{resilience_rows}
pub use Rattle.ta_implied.specs.Orders.{AreOrderMasks, AreOrdered, GuardsCanBeOrdered, GuardsInOrder, HasNoCircle, IsBeforeSome, IsShown, JoinsPair, LeadsSome}
pub use Rattle.ta_implied.specs.Orders.{MayJoin, is_earlier, pairs_at, pairs_from, with_pair}
pub use Rattle.ta_linear.specs.Forms.{IsNegation}
pub use Rattle.ta_linear.specs.Rows.{AllBelow}
pub use Rattle.ta_linear.specs.Terms.{IsNormal, coefficient}
pub use Rattle.ta_linear.specs.declared.row.Row.{Row}
pub use Rattle.ta_linear.specs.declared.row.System.{System}
