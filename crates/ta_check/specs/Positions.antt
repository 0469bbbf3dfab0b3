-- What the fields of a position stand for, and what it answers to the next line.
use Rattle.std.specs.Prelude.{ℕ, ◌≡◌, ◌≢◌, ◌≤◌, ◌⊎◌, Bool, List, [], ◌∷◌, ◌++◌, reverse, slice_get, ℤ, Some, None, Result, Ok, Err}
use Rattle.ta_base.specs.Lists.{SameMembers}
use Rattle.ta_automaton.specs.Narrow.{IsNarrow}
use Rattle.ta_automaton.specs.declared.pattern.Pattern.{Pattern}
use Rattle.ta_cert.specs.declared.line.Line.{Line}
use Rattle.ta_cert.specs.declared.line.Node.{Node}
use Rattle.ta_cert.specs.declared.line.Node.TheVariants as node
use Rattle.ta_cert.specs.declared.fault.CertFault.{CertFault}
use Rattle.ta_cert.specs.declared.fault.CertFault.TheVariants as fault
use Rattle.ta_encode.specs.InPreorder.{MayStand, Pending, Search, parts}
use Rattle.ta_encode.specs.Search.{asked}
use Rattle.ta_encode.specs.Marks.{IsEncoding}
use Rattle.ta_encode.specs.InTrees.{AllGoOn, AllWithin, here_at}
use Rattle.ta_encode.specs.declared.cursor_place.Place.{Place}
use Rattle.ta_farkas.specs.declared.LeafFault.{LeafFault}
use Rattle.ta_farkas.specs.declared.LeafFault.TheVariants as leaf
use Rattle.ta_implied.specs.Orders.{MayJoin}
use Rattle.ta_moment_tree.specs.Kept.{IsKept}
use Rattle.ta_check.specs.Subjects.{Kind, Words, Moments, Subject, asking_for, fact_of, kind_of, search_of}
use Rattle.ta_check.specs.declared.position.Position.{Position}
use Rattle.ta_check.specs.Lines.{Standing, Leads}
use Rattle.ta_encode.specs.Range.{IsJudged}
use Rattle.ta_encode.specs.declared.ask.Ask.{Ask}
use Rattle.ta_encode.specs.declared.ask.Ask.TheVariants as ask
use Rattle.ta_check.specs.Forms.{IsQuestion}
use Rattle.ta_check.specs.Faults.{IsAtFault, FirstLeafFault}

-- the place in the trees of a kind
abbrev pub place_of : (kind : Kind) → Position → Place (fact_of kind)
place_of Words s = s.words
place_of Moments s = s.moments

-- the system that is kept for the trees of a kind is of this pattern
abbrev pub IsKeptIn : Kind → Subject → Pattern → Position → Type 0
IsKeptIn Words subject p s = IsEncoding subject.file.automaton p s.encoding
IsKeptIn Moments subject p s = IsKept subject.file.automaton p (asking_for subject.claim subject.silent).silent s.kept

-- between proofs, or before the first
pub record Between {E : Type 0} (s : Position) (pending : List (Pending E)) : Type 0 where
  pub current : s.current ≡ None
  pub left : pending ≡ []

-- before a node of the newest proof
pub record InNewest (subject : Subject) (s : Position) (at : Standing) : Type 0 where
  pub number : ℕ
  pub current : s.current ≡ Some number
  pub older : List ℕ
  pub begun : at.begun ≡ number ∷ older
  pub pattern : Pattern
  pub named : slice_get subject.file.patterns number ≡ Some pattern
  pub within : AllWithin (search_of (kind_of at.version) subject s.orders pattern) (place_of (kind_of at.version) s) at.pending
  pub kept : IsKeptIn (kind_of at.version) subject pattern s

-- a pair that waits may join those before it, and no proof began
pub record MayWait (subject : Subject) (at : Standing) (pair : ℕ × ℕ) : Type 0 where
  pub join : MayJoin subject.file.automaton at.pairs pair
  pub early : at.begun ≡ []

-- the position's fields are those of a standing, and what isn't version 3 is of a narrow file
pub record IsPositionAt (subject : Subject) (s : Position) (at : Standing) : Type 0 where
  pub version : at.version ≡ s.version
  pub narrow : at.version ≢ 3 → IsNarrow subject.file.automaton
  pub pairs : SameMembers at.pairs s.orders
  pub waiting : at.waiting ≡ s.waiting
  pub may : (pair : ℕ × ℕ) → at.waiting ≡ Some pair → MayWait subject at pair
  pub begun : at.begun ≡ reverse s.proved.items
  pub place : Between s at.pending ⊎ InNewest subject s at

-- the position's fields are those of some standing, for some number of bytes that a line may have
abbrev pub IsSomewhere : (ℕ → Subject) → Position → Type 0
IsSomewhere subject s = (limit : ℕ) × (at : Standing) × IsPositionAt (subject limit) s at

-- a position at a standing: its answer to the line with this number, and where it is then; "out of memory" is always allowed
abbrev pub LineAnswers : Subject → Standing → ℕ → Line → Position → Result (Unit {0}) CertFault → Type 0
LineAnswers subject at number l new (Ok _) = (after : Standing) × Leads subject at l after × IsPositionAt subject new after
LineAnswers subject at number l new (Err fault.Memory) = Unit {0}
LineAnswers subject at number l new (Err f) = IsAtFault subject at number l f

-- a leaf's error in the line with this number
abbrev pub fault_at : ℕ → LeafFault → CertFault
fault_at number (leaf.RowNumber row) = fault.Row number row
fault_at number (leaf.Overflow column) = fault.Overflow number column
fault_at number (leaf.Positive unknown) = fault.Positive number unknown
fault_at number leaf.NotNegative = fault.NotNegative number

-- the first error of a leaf at a schema, reported for the line with this number
pub record LeafTold {E : Type 0} (search : Search E) (w : Pending E) (number : ℕ) (ts : List (ℕ × ℤ)) (told : CertFault) : Type 0 where
  pub fault : LeafFault
  pub is : told ≡ fault_at number fault
  pub first : FirstLeafFault search w ts fault

-- what the checker of a leaf answers at a schema; "out of memory" is always allowed
abbrev pub LeafTaken : {E : Type 0} → Search E → Pending E → ℕ → List (ℕ × ℤ) → Result (Unit {0}) CertFault → Type 0
LeafTaken search w number ts (Ok _) = IsJudged search w ts
LeafTaken search w number ts (Err told) = (told ≡ fault.Memory) ⊎ LeafTold search w number ts told

-- the error of a node that may not ask, in the line with this number
abbrev pub unasked_in : ℕ → Ask → CertFault
unasked_in number ask.Extend = fault.ExtendComplete number
unasked_in number (ask.Guard guard) = fault.Question number
unasked_in number (ask.Order before later) = fault.Question number
unasked_in number (ask.Stuck rule) = fault.Question number

-- a split of an unknown that the system there does not have
pub record SplitsNone {E : Type 0} (search : Search E) (w : Pending E) (n : Node) : Type 0 where
  pub unknown : ℕ
  pub floor : ℤ
  pub is : n ≡ node.Split unknown floor
  pub beyond : search.unknowns w.start w.past ≤ unknown

-- a leaf that the checker refuses
pub record LeafRefused {E : Type 0} (search : Search E) (w : Pending E) (number : ℕ) (n : Node) (told : CertFault) : Type 0 where
  pub multipliers : List (ℕ × ℤ)
  pub is : n ≡ node.Leaf multipliers
  pub leaf : LeafTold search w number multipliers told

-- why a node cannot stand there, reported for the line with this number
abbrev pub NodeTold : {E : Type 0} → Search E → Pending E → ℕ → Node → CertFault → Type 0
NodeTold search w number n (fault.ExtendComplete k) = (k ≡ number) × (n ≡ node.Extend) × (asked search w.start w.past n ≡ None)
NodeTold search w number n (fault.Question k) = (k ≡ number) × IsQuestion n × (asked search w.start w.past n ≡ None)
NodeTold search w number n (fault.SplitVariable k) = (k ≡ number) × SplitsNone search w n
NodeTold search w number n told = LeafRefused search w number n told

-- a node may stand there, and the place goes on to what it leaves
pub record NodeStood {E : Type 0} (search : Search E) (old new : Place E) (n : Node) (more : Bool) : Type 0 where
  pub may : MayStand search (IsJudged search) (here_at old) n
  pub goes : (words : List (Pending E)) → AllWithin search old (here_at old ∷ words) → AllGoOn search new (parts search (here_at old) n ++ words) (Ok more)

-- a place's answer to a node's line, and where the place is then; "out of memory" is always allowed
abbrev pub NodeTaken : {E : Type 0} → Search E → Place E → ℕ → Node → Place E → Result Bool CertFault → Type 0
NodeTaken search old number n new (Ok more) = NodeStood search old new n more
NodeTaken search old number n new (Err told) = (told ≡ fault.Memory) ⊎ NodeTold search (here_at old) number n told
