-- What a search tree answers of its nodes.
use Rattle.std.specs.Prelude.{ℕ, ◌+◌, ◌^◌, ◌<◌, ◌≤◌, ◌≡◌, Bool, true, false, List, [], ◌∷◌, length, slice_get, Option, Some, None}
use Rattle.ta_linear.specs.declared.row.System.{System}
use Rattle.ta_encode.specs.declared.meaning.Bound.{Bound}
use Rattle.ta_cert.specs.declared.line.Node.{Node}
use Rattle.ta_encode.specs.Search.{MayAsk, Search, answered, asked}
use Rattle.ta_encode.specs.Cursors.{node_at}

-- the search begins with this start, of this number
pub record RootIs {E : Type 0} (s : Search E) (number start : ℕ) : Type 0 where
  pub is : slice_get s.roots number ≡ Some (node_at start [] [])
  pub small : number < 2 ^ 31

-- whether there is one
abbrev pub IsRoot : {E : Type 0} → Search E → ℕ → Option ℕ → Type 0
IsRoot s number None = slice_get s.roots number ≡ None
IsRoot s number (Some start) = RootIs s number start

-- whether a node that asks may stand there
abbrev pub TellsMayAsk : {E : Type 0} → Search E → ℕ → List E → Node → Bool → Type 0
TellsMayAsk s start past n true = MayAsk s start past n
TellsMayAsk s start past n false = asked s start past n ≡ None

-- the answer with this number to what a node asks; the node that has this answer does not have fewer unknowns
pub record IsAnswer {E : Type 0} (s : Search E) (start : ℕ) (past : List E) (n : Node) (number : ℕ) (e : E) : Type 0 where
  pub is : slice_get (answered s start past n) number ≡ Some e
  pub more : s.unknowns start past ≤ s.unknowns start (e ∷ past)
  pub small : number < 2 ^ 31

-- whether there is one
abbrev pub AnswerIs : {E : Type 0} → Search E → ℕ → List E → Node → ℕ → Option E → Type 0
AnswerIs s start past n number None = slice_get (answered s start past n) number ≡ None
AnswerIs s start past n number (Some e) = IsAnswer s start past n number e

-- a system of few unknowns and few rows, without those of its bounds
abbrev pub IsSmall : List Bound → System → Type 0
IsSmall bounds system = system.unknowns + length system.rows ≤ 40000000 + length bounds
