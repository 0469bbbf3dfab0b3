-- The names of an automaton file.
use Rattle.std.specs.Prelude.{ℕ, ◌≤◌, List, length}
use Rattle.std.proofs.Props.{props}
use Rattle.ta_syntax.specs.Kinds.{IsNameText, IsNameText-prop}

-- a letter or `_`, then letters, digits and `_`; no keyword; at most 64 bytes
pub record Name (bytes : List ℕ) : Type 0 where
  pub spelled : IsNameText bytes
  pub limit : length bytes ≤ 64

pub Name-prop : (bytes : List ℕ) → IsProp (Name bytes)
Name-prop bytes = hlevel (props, IsNameText-prop bytes)
