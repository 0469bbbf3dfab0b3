-- The names that the proofs of this crate cite, passed on from one place. Declares nothing.
pub use Rattle.std.specs.List.{range_with_len}
pub use Rattle.std.proofs.Common.{Bool, IsTrue, List, [], ap, arith, false, length, map, refl, subst, suc, sym, true, zero, ℕ, ◌&&◌, ◌++◌, ◌+◌, ◌-◌, ◌<◌, ◌||◌}
pub use Rattle.std.proofs.Common.{◌∙◌, ◌∷◌, ◌≡◌, ◌≤◌}
pub use Rattle.std.proofs.lemmas.List.{append_assoc, length-map, map-append}
pub use Rattle.std.specs.Prelude.{codes}
pub use Rattle.ta_maker.specs.Family.{lone, name, numbered, rules_of, sender, waiter, family}
pub use Rattle.ta_syntax.specs.Grammar.{IsSum, PlainRule, Term, Terms, PlainComparison, number, PlainTree}
pub use Rattle.ta_syntax.specs.PlainTrees.{plain_comparison, plain_location, plain_name, plain_pattern, plain_rule, plain_tree}
pub use Rattle.ta_syntax.specs.PlainSums.{plain_sum}
pub use Rattle.std.specs.List.{AllByRecursion}
pub use Rattle.ta_maker.specs.Made.{IsFamilyNumber}
pub use Rattle.ta_syntax.specs.Kinds.{IsDigits, IsNameText}
pub use Rattle.std.proofs.Common.{negsuc, ◌^◌, None, Option, Some, ltb, not, pos, ℤ, ◌+ℤ◌, ◌-ℤ◌, ◌*ℤ◌, ◌≤ℤ◌, inl, inr, slice_get, get_or, fold, sum}
pub use Rattle.std.specs.Prelude.{if◌then◌else◌, nat_eq, slice_index_or}
pub use Rattle.std.proofs.lemmas.Bool.{and_parts}
pub use Rattle.std.proofs.lemmas.List.FromFn.{length-range_with_len}
pub use Rattle.ta_automaton.specs.declared.file.File.{File}
pub use Rattle.ta_base.specs.LimitRows.{narrow}
pub use Rattle.ta_meaning.specs.Guards.{Guards}
pub use Rattle.ta_meaning.specs.Linear.{comparison_rows, linear_sum}
pub use Rattle.ta_meaning.specs.Meaning.{MeansTree}
pub use Rattle.ta_meaning.specs.Names.{plain_names}
pub use Rattle.ta_syntax.specs.declared.fault.FileFault.{FileFault}
pub use Rattle.ta_syntax.specs.declared.tree.Tree.{Tree}
