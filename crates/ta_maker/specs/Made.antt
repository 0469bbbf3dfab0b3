-- What making an automaton of the family answers.
use Rattle.std.specs.Prelude.{ℕ, ◌≡◌, ◌<◌, ◌≤◌, ◌⊎◌, Result, Ok, Err}
use Rattle.ta_syntax.specs.PlainTrees.{plain_tree}
use Rattle.ta_syntax.specs.declared.tree.Tree.{Tree}
use Rattle.ta_maker.specs.Family.{family}
use Rattle.ta_maker.specs.declared.fault.MakerFault.{MakerFault}
use Rattle.ta_maker.specs.declared.fault.MakerFault.TheVariants.{Memory, Range}

-- the numbers of the family
pub record IsFamilyNumber (k : ℕ) : Type 0 where
  pub low : 1 ≤ k
  pub high : k ≤ 7

-- the automaton of the number; or that it is none of the family
abbrev pub Makes : ℕ → Result Tree MakerFault → Type 0
Makes k (Ok tree) = IsFamilyNumber k × (plain_tree tree ≡ family k)
Makes k (Err Range) = (k ≡ 0) ⊎ (7 < k)
Makes k (Err Memory) = IsFamilyNumber k
