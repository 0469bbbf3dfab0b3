-- The first error of a text that is not a certificate: its line, and the reason.
use Rattle.std.specs.Prelude.{ℕ, ◌≡◌, ◌≤◌, ◌⊎◌, List, [], ◌∷◌, ◌++◌, length, ℤ, Some, None, Result, IsErrOf}
use Rattle.ta_linear.specs.declared.row.System.{System}
use Rattle.ta_automaton.specs.declared.file.File.{File}
use Rattle.ta_base.specs.Masks.{In}
use Rattle.ta_cert.specs.declared.line.Line.{Line}
use Rattle.ta_cert.specs.declared.line.Line.TheVariants as line
use Rattle.ta_cert.specs.declared.line.Node.{Node}
use Rattle.ta_cert.specs.declared.line.Node.TheVariants as node
use Rattle.ta_cert.specs.declared.fault.CertFault.{CertFault}
use Rattle.ta_cert.specs.declared.fault.CertFault.TheVariants as fault
use Rattle.ta_cert.specs.Streams.{end_of, start, steps}
use Rattle.ta_implied.specs.Orders.{MayJoin}
use Rattle.ta_implied.specs.Refused.{FailsToShow}
use Rattle.ta_encode.specs.Code.{SystemAt}
use Rattle.ta_encode.specs.InPreorder.{Pending, Search}
use Rattle.ta_encode.specs.Search.{asked}
use Rattle.ta_farkas.specs.Faults.{IsFirstFaultOfLeaf as IsFirstLeafFault}
use Rattle.ta_farkas.specs.declared.LeafFault.{LeafFault}
use Rattle.ta_farkas.specs.declared.LeafFault.TheVariants as leaf
use Rattle.ta_rest.specs.declared.claim.Claim.TheVariants.{Safe}
use Rattle.ta_check.specs.Subjects.{HasVersion, Subject, claiming, kind_of}
use Rattle.ta_check.specs.Forms.{HasForm, IsNoLeaf, IsQuestion}
use Rattle.ta_check.specs.Lines.{Standing, AtWord, FactAt, NothingIsLeft, TakesOrder, first_standing, Leads}

-- a pair waits for its leaf
pub record IsWaiting (s : Standing) : Type 0 where
  pub pair : ℕ × ℕ
  pub waits : s.waiting ≡ Some pair

-- no pair waits, and no schema is left
pub record IsIdle (s : Standing) : Type 0 where
  pub none : s.waiting ≡ None
  pub done : s.pending ≡ []

-- a node of a form that the proofs of this version do not have
abbrev pub HasNoForm : Subject → Standing → Node → Type 0
HasNoForm subject s n = ¬ HasForm (kind_of s.version) subject.claim n

-- a node where nothing is to be refuted and no pair waits for its leaf; or a node other than a leaf where a pair waits
abbrev pub IsUnawaited : Standing → Node → Type 0
IsUnawaited s n = IsIdle s ⊎ (IsWaiting s × IsNoLeaf n)

-- the node does not bring a pair
abbrev pub IsNoPair : Standing → Node → Type 0
IsNoPair s (node.Order before later) = ¬ TakesOrder s
IsNoPair s n = Unit {0}

-- a node that cannot follow, whatever its contents: it is not a pair that may come, and either proofs do not have its form or it is
-- unawaited
pub record IsMisplacedNode (subject : Subject) (s : Standing) (n : Node) : Type 0 where
  pub no_pair : IsNoPair s n
  pub out : HasNoForm subject s n ⊎ IsUnawaited s n

-- a line of a form that cannot follow: a version that a certificate cannot have, a proof or the end where it may not come, or such a node
abbrev pub IsMisplaced : Subject → Standing → Line → Type 0
IsMisplaced subject s (line.Header version) = ¬ HasVersion subject version
IsMisplaced subject s (line.Pattern number) = ¬ NothingIsLeft s
IsMisplaced subject s (line.Tree node) = IsMisplacedNode subject s node
IsMisplaced subject s line.End = ¬ NothingIsLeft s

-- a pair's line where a pair may come, but this pair may not join those before it
pub record IsBadOrder (subject : Subject) (s : Standing) (l : Line) : Type 0 where
  pub before : ℕ
  pub later : ℕ
  pub is : l ≡ line.Tree (node.Order before later)
  pub takes : TakesOrder s
  pub bad : ¬ MayJoin subject.file.automaton s.pairs (before, later)

-- a pattern's line where a pattern's line may follow
pub record IsPatternLine (s : Standing) (l : Line) (number : ℕ) : Type 0 where
  pub is : l ≡ line.Pattern number
  pub free : NothingIsLeft s

-- at the first schema, or node of moments, that is left
pub record AtSomeWord (subject : Subject) (s : Standing) (fact : Search (FactAt s) → Pending (FactAt s) → Type 0) : Type 0 where
  pub search : Search (FactAt s)
  pub word : Pending (FactAt s)
  pub words : List (Pending (FactAt s))
  pub at : AtWord subject s search word words
  pub holds : fact search word

-- a node that asks, of a form that these proofs have, where it may not ask
pub record AsksInVain (subject : Subject) (s : Standing) (l : Line) (n : Node) : Type 0 where
  pub is : l ≡ line.Tree n
  pub form : HasForm (kind_of s.version) subject.claim n
  pub at : AtSomeWord subject s (λ search w. asked search w.start w.past n ≡ None)

-- a split of an unknown that the schema's system does not have
pub record SplitsUnknown (subject : Subject) (s : Standing) (l : Line) : Type 0 where
  pub unknown : ℕ
  pub floor : ℤ
  pub is : l ≡ line.Tree (node.Split unknown floor)
  pub at : AtSomeWord subject s (λ search w. search.unknowns w.start w.past ≤ unknown)

-- the first error of multipliers over the system of a schema: rows before columns, the columns by increasing unknown with the constants
-- last, and in each column its range before its sign
pub record FirstLeafFault {E : Type 0} (search : Search E) (w : Pending E) (ts : List (ℕ × ℤ)) (f : LeafFault) : Type 0 where
  pub system : System
  pub is : SystemAt search w system
  pub first : IsFirstLeafFault system ts f

-- the first error of multipliers over the system of the pair that waits
pub record PairFails (subject : Subject) (s : Standing) (ts : List (ℕ × ℤ)) (f : LeafFault) : Type 0 where
  pub pair : ℕ × ℕ
  pub waits : s.waiting ≡ Some pair
  pub fails : FailsToShow subject.file.automaton pair ts f

-- a leaf with this first error, at the first schema that is left or for the pair that waits
pub record LeafFails (subject : Subject) (s : Standing) (l : Line) (f : LeafFault) : Type 0 where
  pub multipliers : List (ℕ × ℤ)
  pub is : l ≡ line.Tree (node.Leaf multipliers)
  pub at : AtSomeWord subject s (λ search w. FirstLeafFault search w multipliers f) ⊎ PairFails subject s multipliers f

-- why a line with this number cannot follow
abbrev pub IsAtFault : Subject → Standing → ℕ → Line → CertFault → Type 0
IsAtFault subject s number l (fault.Line n) = (n ≡ number) × IsMisplaced subject s l
IsAtFault subject s number l (fault.UnknownPattern n) = (n ≡ number) × (k : ℕ) × IsPatternLine s l k × (length subject.file.patterns ≤ k)
IsAtFault subject s number l (fault.RepeatedPattern n) = (n ≡ number) × (k : ℕ) × IsPatternLine s l k × In k s.begun
IsAtFault subject s number l (fault.Pair n) = (n ≡ number) × IsBadOrder subject s l
IsAtFault subject s number l (fault.ExtendComplete n) = (n ≡ number) × AsksInVain subject s l node.Extend
IsAtFault subject s number l (fault.Question n) = (n ≡ number) × (question : Node) × IsQuestion question × AsksInVain subject s l question
IsAtFault subject s number l (fault.SplitVariable n) = (n ≡ number) × SplitsUnknown subject s l
IsAtFault subject s number l (fault.Row n row) = (n ≡ number) × LeafFails subject s l (leaf.RowNumber row)
IsAtFault subject s number l (fault.Overflow n column) = (n ≡ number) × LeafFails subject s l (leaf.Overflow column)
IsAtFault subject s number l (fault.Positive n unknown) = (n ≡ number) × LeafFails subject s l (leaf.Positive unknown)
IsAtFault subject s number l (fault.NotNegative n) = (n ≡ number) × LeafFails subject s l leaf.NotNegative
IsAtFault subject s number l _ = ⊥

-- the first error of lines with their numbers and of what ends them, from a standing on: that of the first line that cannot follow, or where
-- all may, that of the end
abbrev pub FirstFaultAlong : {A : Type 0} → Subject → Standing → List (ℕ × Line) → Result A CertFault → CertFault → Type 0
FirstFaultAlong subject s [] end f = IsErrOf end f
FirstFaultAlong subject s (x ∷ xs) end f = IsAtFault subject s x.0 x.1 f
    ⊎ ((next : Standing) × Leads subject s x.1 next × FirstFaultAlong subject next xs end f)

-- the first error of a text: of a line, or of the text itself, which is a line of no form or too long, a byte after the end, or an end that
-- comes too early
abbrev pub IsFirstFaultFor : Subject → List ℕ → CertFault → Type 0
IsFirstFaultFor subject text f =
    FirstFaultAlong subject first_standing (steps text (start subject.line_bytes)).0 (end_of (steps text (start subject.line_bytes)).1) f

-- a first error that each longer text keeps: any but an end that comes too early
abbrev pub IsLastingFor : Subject → List ℕ → CertFault → Type 0
IsLastingFor subject text f =
    FirstFaultAlong subject first_standing (steps text (start subject.line_bytes)).0 (steps text (start subject.line_bytes)).1 f

-- the first error, where the claim is that patterns of a file are safe, and a line has at most this many bytes
abbrev pub IsFirstFault : File → ℕ → List ℕ → CertFault → Type 0
IsFirstFault file limit text f = IsFirstFaultFor (claiming Safe file limit) text f

-- it is the first error of each longer text
abbrev pub LastingFaultsLast : Type 0
LastingFaultsLast = (subject : Subject) (text more : List ℕ) (f : CertFault) → IsLastingFor subject text f → IsFirstFaultFor subject (text ++ more) f
