-- Which lines may follow each other in a certificate: a transition relation whose states say what is still to be refuted.
use Rattle.std.specs.Prelude.{ℕ, ℤ, ◌≡◌, ◌≢◌, ◌⊎◌, List, [], ◌∷◌, ◌++◌, Option, Some, None}
use Rattle.ta_base.specs.Masks.{In}
use Rattle.ta_cert.specs.declared.line.Line.{Line}
use Rattle.ta_cert.specs.declared.line.Line.TheVariants as line
use Rattle.ta_cert.specs.declared.line.Node.{Node}
use Rattle.ta_cert.specs.declared.line.Node.TheVariants as node
use Rattle.ta_implied.specs.Orders.{IsShown, MayJoin}
use Rattle.ta_encode.specs.InPreorder.{Pending, Search, parts, MayStand}
use Rattle.ta_encode.specs.Range.{IsJudged}
use Rattle.ta_check.specs.Subjects.{HasVersion, Subject, fact_of, kind_of, search_at}

-- the state of a certificate after some of its lines: its version, or 0 before its first line; the pairs of rise guards that were shown, in
-- its order, and the pair whose leaf comes next; the patterns whose proofs began, the newest first, and what is still to be refuted for the
-- newest: schemas, or nodes of moments in version 3
pub record Standing : Type 0 where
  pub version : ℕ
  pub pairs : List (ℕ × ℕ)
  pub waiting : Option (ℕ × ℕ)
  pub begun : List ℕ
  pub pending : List (Pending (fact_of (kind_of version)))

-- the facts that are added to what is refuted there
abbrev pub FactAt : Standing → Type 0
FactAt s = fact_of (kind_of s.version)

-- the search for the pattern with this number in the file, under the pairs that were shown
abbrev pub search_there : Subject → (s : Standing) → ℕ → Option (Search (FactAt s))
search_there subject s number = search_at (kind_of s.version) subject s.pairs number

-- before the first line, which says the version
abbrev pub first_standing : Standing
first_standing = record { version = 3; pairs = []; waiting = None; begun = []; pending = [] }

-- the first schema, or node of moments, that is to be refuted, in the search of the newest pattern
pub record AtWord (subject : Subject) (s : Standing) (search : Search (FactAt s)) (word : Pending (FactAt s)) (words : List (Pending (FactAt s))) : Type 0 where
  pub none : s.waiting ≡ None
  pub number : ℕ
  pub older : List ℕ
  pub begun : s.begun ≡ number ∷ older
  pub searched : search_there subject s number ≡ Some search
  pub pending : s.pending ≡ word ∷ words

-- a pair may come: in version 2, where no pair waits and no proof began
pub record TakesOrder (s : Standing) : Type 0 where
  pub version : s.version ≡ 2
  pub none : s.waiting ≡ None
  pub early : s.begun ≡ []

-- a proof or the end may come: no pair waits, no schema is left, and version 2 has a pair
pub record NothingIsLeft (s : Standing) : Type 0 where
  pub none : s.waiting ≡ None
  pub some : s.version ≡ 2 → s.pairs ≢ []
  pub done : s.pending ≡ []

-- after the first line, of this version: nothing is to be refuted yet
abbrev pub opened : Standing → ℕ → Standing
opened s version = record { version = version; pairs = s.pairs; waiting = s.waiting; begun = s.begun; pending = [] }

-- the first line comes, of a version that a certificate may have
pub record OpensCertificate (subject : Subject) (s : Standing) (version : ℕ) (after : Standing) : Type 0 where
  pub has : HasVersion subject version
  pub leads : after ≡ opened s version

-- a pair comes that may join those before it
pub record Waits (subject : Subject) (s : Standing) (n : Node) (after : Standing) : Type 0 where
  pub pair : ℕ × ℕ
  pub is : n ≡ node.Order pair.0 pair.1
  pub takes : TakesOrder s
  pub may : MayJoin subject.file.automaton s.pairs pair
  pub leads : after ≡ record s { waiting = Some pair }

-- the leaf comes that shows the pair that waits
pub record ShowsWaiting (subject : Subject) (s : Standing) (n : Node) (after : Standing) : Type 0 where
  pub pair : ℕ × ℕ
  pub waits : s.waiting ≡ Some pair
  pub multipliers : List (ℕ × ℤ)
  pub is : n ≡ node.Leaf multipliers
  pub shown : IsShown subject.file.automaton pair multipliers
  pub leads : after ≡ record s { pairs = s.pairs ++ pair ∷ []; waiting = None }

-- the proof of a pattern begins: the file has the pattern, it had no proof so far, and the starts of its search are to be refuted
pub record BeginsProof (subject : Subject) (s : Standing) (number : ℕ) (after : Standing) : Type 0 where
  pub free : NothingIsLeft s
  pub search : Search (FactAt s)
  pub searched : search_there subject s number ≡ Some search
  pub new : In number s.begun → ⊥
  pub leads : after ≡ record s { begun = number ∷ s.begun; pending = search.roots }

-- a node stands at the first item that is to be refuted, and what it leaves of the item takes its place
pub record Stands (subject : Subject) (s : Standing) (node : Node) (after : Standing) : Type 0 where
  pub search : Search (FactAt s)
  pub word : Pending (FactAt s)
  pub words : List (Pending (FactAt s))
  pub at : AtWord subject s search word words
  pub may : MayStand search (IsJudged search) word node
  pub leads : after ≡ record s { pending = parts search word node ++ words }

-- the certificate ends
pub record EndsCertificate (s after : Standing) : Type 0 where
  pub free : NothingIsLeft s
  pub leads : after ≡ s

-- a line may follow, and leads there. (That only the first line is the header is a property of the text.)
abbrev pub Leads : Subject → Standing → Line → Standing → Type 0
Leads subject s (line.Header version) after = OpensCertificate subject s version after
Leads subject s (line.Pattern number) after = BeginsProof subject s number after
Leads subject s (line.Tree node) after = Stands subject s node after ⊎ (ShowsWaiting subject s node after ⊎ Waits subject s node after)
Leads subject s line.End after = EndsCertificate s after

-- lines may follow each other from there, and lead there
abbrev pub LeadThrough : Subject → Standing → List Line → Standing → Type 0
LeadThrough subject s [] after = after ≡ s
LeadThrough subject s (l ∷ ls) after = (between : Standing) × Leads subject s l between × LeadThrough subject between ls after
