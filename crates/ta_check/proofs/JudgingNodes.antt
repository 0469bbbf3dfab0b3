-- a position that takes a node
use Rattle.ta_automaton.specs.Narrow.{IsNarrow}
use Rattle.ta_check.proofs.Common.{◌≢◌, ◌≡◌, ◌⊎◌, ◌<◌, ◌≤◌, length, slice_get, inl, inr, ℕ, Bool, true, false, List, [], ◌∷◌, ◌++◌, reverse, Option, None}
use Rattle.ta_check.proofs.Common.{Some, Ok}
use Rattle.ta_check.proofs.Common.{Err, sym, ap, ◌∙◌, subst, refl, slice_get_within, Pattern, Line, Node, CertFault, Pending, Search, asked, parts, AllGoOn}
use Rattle.ta_check.proofs.Common.{AllWithin, IsAllWithin, here_at, here_first, here_is, later_words, LeafFault, Kind, HasForm, Subject, fact_of, kind_of}
use Rattle.ta_check.proofs.Common.{search_of, Place, Position, Standing, FactAt, AtWord, Stands, AtSomeWord, FirstLeafFault, IsNoPair, LeafFails, Between}
use Rattle.ta_check.proofs.Common.{InNewest, IsKeptIn, IsPositionAt, LeafRefused, NodeStood, NodeTold, SameMembers, LineAnswers, fault_at}
use Rattle.ta_check.proofs.Common.{place_of, none-some}
use Rattle.ta_cert.specs.declared.line.Line.TheVariants as line
use Rattle.ta_cert.specs.declared.line.Node.TheVariants as node
use Rattle.ta_cert.specs.declared.fault.CertFault.TheVariants as fault
use Rattle.ta_farkas.specs.declared.LeafFault.TheVariants as leaf
use Rattle.ta_check.proofs.Searches.{search_same}

-- what a position keeps of the first line and the pairs, where no pair waits
pub record Head (s : Position) (at : Standing) : Type 0 where
  pub version : at.version ≡ s.version
  pub pairs : SameMembers at.pairs s.orders
  pub waiting : at.waiting ≡ s.waiting
  pub none : at.waiting ≡ None

-- a position keeps what another one kept
pub record SameHead (old new : Position) : Type 0 where
  pub version : new.version ≡ old.version
  pub orders : new.orders ≡ old.orders
  pub waiting : new.waiting ≡ old.waiting

pub head_kept : (old new : Position) (at : Standing) → SameHead old new → Head old at → Head new at
head_kept old new at same head = record {
  version = head.version ∙ sym same.version;
  pairs = subst (λ (xs : List (ℕ × ℕ)). SameMembers at.pairs xs) (sym same.orders) head.pairs;
  waiting = head.waiting ∙ sym same.waiting;
  none = head.none;
}

pub head_of : (subject : Subject) (s : Position) (at : Standing) → s.waiting ≡ None → IsPositionAt subject s at → Head s at
head_of subject s at none is = record { version = is.version; pairs = is.pairs; waiting = is.waiting; none = is.waiting ∙ none }

-- before a node of the newest proof, which is that of this pattern of a number
pub record Newest (subject : Subject) (s : Position) (at : Standing) (number : ℕ) (p : Pattern) : Type 0 where
  pub head : Head s at
  pub older : List ℕ
  pub begun : at.begun ≡ number ∷ older
  pub named : slice_get subject.file.patterns number ≡ Some p
  pub within : AllWithin (search_of (kind_of at.version) subject s.orders p) (place_of (kind_of at.version) s) at.pending
  pub kept : IsKeptIn (kind_of at.version) subject p s

same_number : (subject : Subject) (s : Position) (at : Standing) (number : ℕ) → Head s at → s.current ≡ Some number → (inside : InNewest subject s at)
    → Newest subject s at number inside.pattern
same_number subject s at number head current inside =
    let same : inside.number ≡ number = let e : Some inside.number ≡ Some number = sym inside.current ∙ current in cc in
    record {
      head = head;
      older = inside.older;
      begun = subst (λ k. at.begun ≡ k ∷ inside.older) same inside.begun;
      named = subst (λ k. slice_get subject.file.patterns k ≡ Some inside.pattern) same inside.named;
      within = inside.within;
      kept = inside.kept;
    }

-- a position that has a current pattern is in its proof
pub some_newest : (subject : Subject) (s : Position) (at : Standing) (number : ℕ) → s.waiting ≡ None → s.current ≡ Some number → IsPositionAt subject s at
    → (p : Pattern) × Newest subject s at number p
some_newest subject s at number none current is = elim is.place [
  | inl between ↦ absurd (let nowhere : None ≡ Some number = sym between.current ∙ current in cc)
  | inr inside ↦ (inside.pattern, same_number subject s at number (head_of subject s at none is) current inside)
]

pub pattern_there : (subject : Subject) (s : Position) (at : Standing) (number : ℕ) → s.waiting ≡ None → s.current ≡ Some number → IsPositionAt subject s at
    → number < length subject.file.patterns
pattern_there subject s at number none current is =
    let n = some_newest subject s at number none current is in
    slice_get_within subject.file.patterns number n.0 n.1.named

-- the kind of a standing is that of its position
pub kind_at : (s : Position) (at : Standing) (kind : Kind) → Head s at → kind_of s.version ≡ kind → kind_of at.version ≡ kind
kind_at s at kind head is = ap kind_of head.version ∙ is

-- the tree of the pattern whose proof is being read
abbrev pub IsTree : (kind : Kind) → Subject → Position → ℕ → Search (fact_of kind) → Type 0
IsTree kind subject s number tree = (p : Pattern) → slice_get subject.file.patterns number ≡ Some p → tree ≡ search_of kind subject s.orders p

-- the place is within it
pub tree_within : (kind : Kind) (subject : Subject) (s : Position) (at : Standing) (number : ℕ) (tree : Search (fact_of kind)) → s.waiting ≡ None
    → s.current ≡ Some number → kind_of s.version ≡ kind → IsTree kind subject s number tree → IsPositionAt subject s at
    → IsAllWithin tree (place_of kind s)
tree_within kind subject s at number tree none current of same is =
    let n = some_newest subject s at number none current is in
    let here : IsAllWithin (search_of (kind_of at.version) subject s.orders n.0) (place_of (kind_of at.version) s) = (at.pending, n.1.within) in
    let there : IsAllWithin (search_of kind subject s.orders n.0) (place_of kind s) = subst
    (λ (k : Kind). IsAllWithin (search_of k subject s.orders n.0) (place_of k s)) (kind_at s at kind n.1.head of) here in
    subst (λ (q : Search (fact_of kind)). IsAllWithin q (place_of kind s)) (sym (same n.0 n.1.named)) there

-- what is kept is of its pattern
pub tree_kept : (kind : Kind) (subject : Subject) (s : Position) (at : Standing) (number : ℕ) (p : Pattern) → kind_of s.version ≡ kind
    → Newest subject s at number p → IsKeptIn kind subject p s
tree_kept kind subject s at number p of n = subst (λ (k : Kind). IsKeptIn k subject p s) (kind_at s at kind n.head of) n.kept

-- the words behind the first
abbrev pub later : (subject : Subject) (s : Position) (at : Standing) (number : ℕ) (p : Pattern) → Newest subject s at number p → List (Pending (FactAt at))
later subject s at number p n = later_words (search_of (kind_of at.version) subject s.orders p) (place_of (kind_of at.version) s) at.pending n.within

-- its word is the first that is left
first_within : (subject : Subject) (s : Position) (at : Standing) (number : ℕ) (p : Pattern) (n : Newest subject s at number p)
    → AllWithin (search_of (kind_of at.version) subject s.orders p) (place_of (kind_of at.version) s)
    (here_at (place_of (kind_of at.version) s) ∷ later subject s at number p n)
first_within subject s at number p n = here_first (search_of (kind_of at.version) subject s.orders p) (place_of (kind_of at.version) s) at.pending n.within

at_word : (subject : Subject) (s : Position) (at : Standing) (number : ℕ) (p : Pattern) (n : Newest subject s at number p)
    → AtWord subject at (search_of (kind_of at.version) subject s.orders p) (here_at (place_of (kind_of at.version) s)) (later subject s at number p n)
at_word subject s at number p n = record {
  none = n.head.none;
  number = number;
  older = n.older;
  begun = n.begun;
  searched = search_same (kind_of at.version) subject at.pairs s.orders number p n.named n.head.pairs;
  pending = here_is (search_of (kind_of at.version) subject s.orders p) (place_of (kind_of at.version) s) at.pending n.within;
}

-- what holds of the newest pattern's search and of the position's word
at_some_word : (subject : Subject) (s : Position) (at : Standing) (number : ℕ) (p : Pattern) (fact : Search (FactAt at) → Pending (FactAt at) → Type 0)
    → Newest subject s at number p → fact (search_of (kind_of at.version) subject s.orders p) (here_at (place_of (kind_of at.version) s))
    → AtSomeWord subject at fact
at_some_word subject s at number p fact n holds = record {
  search = search_of (kind_of at.version) subject s.orders p;
  word = here_at (place_of (kind_of at.version) s);
  words = later subject s at number p n;
  at = at_word subject s at number p n;
  holds = holds;
}

-- the pattern of a number is current where a node comes, else none is
abbrev pub CurrentWhere : Bool → ℕ → Option ℕ → Type 0
CurrentWhere true number current = current ≡ Some number
CurrentWhere false number current = current ≡ None

-- a position whose place went on is at what is left
went_at : (subject : Subject) (s : Position) (at : Standing) (number : ℕ) (p : Pattern) (words : List (Pending (FactAt at))) (older : List ℕ) (more : Bool)
    → Head s at → (at.version ≢ 3 → IsNarrow subject.file.automaton) → slice_get subject.file.patterns number ≡ Some p → at.begun ≡ number ∷ older
    → at.begun ≡ reverse s.proved.items
    → CurrentWhere more number s.current → IsKeptIn (kind_of at.version) subject p s
    → AllGoOn (search_of (kind_of at.version) subject s.orders p) (place_of (kind_of at.version) s) words (Ok more)
    → IsPositionAt subject s (record at { pending = words })
went_at subject s at number p words older more head narrow named newest proved current kept went = record {
  version = head.version;
  narrow = narrow;
  pairs = head.pairs;
  waiting = head.waiting;
  may = λ pair some. absurd (none-some pair (sym head.none ∙ some));
  begun = proved;
  place = placed words went;
}
  where
    placed : (ws : List (Pending (FactAt at))) → AllGoOn (search_of (kind_of at.version) subject s.orders p) (place_of (kind_of at.version) s) ws (Ok more)
        → Between s ws ⊎ InNewest subject s (record at { pending = ws })
    placed [] gone = inl (record {
      current = subst (λ (m : Bool). CurrentWhere m number s.current) gone current;
      left = refl;
    })
    placed (w ∷ ws) gone = inr (record {
      number = number;
      current = subst (λ (m : Bool). CurrentWhere m number s.current) gone.0 current;
      older = older;
      begun = newest;
      pattern = p;
      named = named;
      within = gone.1;
      kept = kept;
    })

-- what a node's line leaves: the system that is kept, and where the place is
abbrev Left : Subject → Position → Position → Pattern → Node → Bool → Kind → Type 0
Left subject old new p n more kind = IsKeptIn kind subject p new
    × NodeStood (search_of kind subject old.orders p) (place_of kind old) (place_of kind new) n more

-- a node that may stand at the word is taken, if the place goes on to its parts
pub node_taken : (kind : Kind) (subject : Subject) (old new : Position) (at : Standing) (k number : ℕ) (p : Pattern) (n : Node) (more : Bool)
    → Newest subject old at k p
    → kind_of old.version ≡ kind
    → IsPositionAt subject old at
    → SameHead old new
    → new.proved.items ≡ old.proved.items
    → CurrentWhere more k new.current
    → IsKeptIn kind subject p new
    → NodeStood (search_of kind subject old.orders p) (place_of kind old) (place_of kind new) n more
    → LineAnswers subject at number (line.Tree n) new (Ok tt)
node_taken kind subject old new at k number p n more first of is same proved current kept stood =
    let left = subst (Left subject old new p n more) (sym (kind_at old at kind first.head of)) (kept, stood) in
    let search = search_of (kind_of at.version) subject old.orders p in
    let word = here_at (place_of (kind_of at.version) old) in
    let words = parts search word n ++ later subject old at k p first in
    let stands : Stands subject at n (record at { pending = words }) = record {
      search = search;
      word = word;
      words = later subject old at k p first;
      at = at_word subject old at k p first;
      may = left.1.may;
      leads = refl;
    } in
    let went = left.1.goes (later subject old at k p first) (first_within subject old at k p first) in
    let gone = subst (λ (xs : List (ℕ × ℕ)). AllGoOn (search_of (kind_of at.version) subject xs p) (place_of (kind_of at.version) new) words (Ok more))
    (sym same.orders) went in (
      record at { pending = words },
      inl stands,
      went_at subject new at k p words first.older more (head_kept old new at same first.head) is.narrow first.named first.begun
          (is.begun ∙ ap reverse (sym proved)) current left.0 gone,
    )

-- a leaf's error is told in its line
fault_told : (subject : Subject) (at : Standing) (number : ℕ) (l : Line) (new : Position) (f : LeafFault) → LeafFails subject at l f
    → LineAnswers subject at number l new (Err (fault_at number f))
fault_told subject at number l new (leaf.RowNumber row) fails = (refl, fails)
fault_told subject at number l new (leaf.Overflow column) fails = (refl, fails)
fault_told subject at number l new (leaf.Positive unknown) fails = (refl, fails)
fault_told subject at number l new leaf.NotNegative fails = (refl, fails)

leaf_refused : (subject : Subject) (s new : Position) (at : Standing) (k number : ℕ) (p : Pattern) (n : Node) (f : CertFault) → Newest subject s at k p
    → LeafRefused (search_of (kind_of at.version) subject s.orders p) (here_at (place_of (kind_of at.version) s)) number n f
    → LineAnswers subject at number (line.Tree n) new (Err f)
leaf_refused subject s new at k number p n f newest refused =
    let told = refused.leaf in
    let fails : LeafFails subject at (line.Tree n) told.fault = record {
      multipliers = refused.multipliers;
      is = ap line.Tree refused.is;
      at = inl (at_some_word subject s at k p (λ search w. FirstLeafFault search w refused.multipliers told.fault) newest told.first);
    } in
    subst (λ g. LineAnswers subject at number (line.Tree n) new (Err g)) (sym told.is) (fault_told subject at number (line.Tree n) new told.fault fails)

-- what a node's line is refused for is its error
told_at : (subject : Subject) (s new : Position) (at : Standing) (k number : ℕ) (p : Pattern) (n : Node) (f : CertFault) → Newest subject s at k p
    → HasForm (kind_of at.version) subject.claim n → NodeTold (search_of (kind_of at.version) subject s.orders p) (here_at (place_of (kind_of at.version) s))
    number n f → LineAnswers subject at number (line.Tree n) new (Err f)
told_at subject s new at k number p n (fault.ExtendComplete m) newest form (place, is, none) = (
  place,
  record {
    is = ap line.Tree is;
    form = subst (HasForm (kind_of at.version) subject.claim) is form;
    at = at_some_word subject s at k p (λ search w. asked search w.start w.past node.Extend ≡ None) newest
        (subst (λ (q : Node). asked (search_of (kind_of at.version) subject s.orders p) (here_at (place_of (kind_of at.version) s)).start
        (here_at (place_of (kind_of at.version) s)).past q ≡ None) is none);
  },
)
told_at subject s new at k number p n (fault.Question m) newest form (place, asks, none) = (
  place,
  n,
  asks,
  record {
    is = refl;
    form = form;
    at = at_some_word subject s at k p (λ search w. asked search w.start w.past n ≡ None) newest none;
  },
)
told_at subject s new at k number p n (fault.SplitVariable m) newest form (place, splits) = (
  place,
  record {
    unknown = splits.unknown;
    floor = splits.floor;
    is = ap line.Tree splits.is;
    at = at_some_word subject s at k p (λ search w. search.unknowns w.start w.past ≤ splits.unknown) newest splits.beyond;
  },
)
told_at subject s new at k number p n f newest form told = leaf_refused subject s new at k number p n f newest told

abbrev Told : Subject → Position → ℕ → Pattern → Node → CertFault → Kind → Type 0
Told subject s number p n f kind = HasForm kind subject.claim n × NodeTold (search_of kind subject s.orders p) (here_at (place_of kind s)) number n f

pub node_refused : (kind : Kind) (subject : Subject) (s new : Position) (at : Standing) (k number : ℕ) (p : Pattern) (n : Node) (f : CertFault)
    → Newest subject s at k p → kind_of s.version ≡ kind → HasForm kind subject.claim n → (f ≡ fault.Memory)
    ⊎ NodeTold (search_of kind subject s.orders p) (here_at (place_of kind s)) number n f → LineAnswers subject at number (line.Tree n) new (Err f)
node_refused kind subject s new at k number p n f newest of form (inl memory) = subst (λ g. LineAnswers subject at number (line.Tree n) new (Err g))
    (sym memory) tt
node_refused kind subject s new at k number p n f newest of form (inr told) =
    let there = subst (Told subject s number p n f) (sym (kind_at s at kind newest.head of)) (form, told) in
    told_at subject s new at k number p n f newest there.0 there.1

-- what is said of a tree is said of the search that it is
pub told_in : {E : Type 0} (tree search : Search E) (place : Place E) (number : ℕ) (n : Node) (f : CertFault) → tree ≡ search → (f ≡ fault.Memory)
    ⊎ NodeTold tree (here_at place) number n f → (f ≡ fault.Memory) ⊎ NodeTold search (here_at place) number n f
told_in {E} tree search place number n f same told = subst (λ (q : Search E). (f ≡ fault.Memory) ⊎ NodeTold q (here_at place) number n f) same told

pub stood_in : {E : Type 0} (tree search : Search E) (old new : Place E) (n : Node) (more : Bool) → tree ≡ search → NodeStood tree old new n more
    → NodeStood search old new n more
stood_in {E} tree search old new n more same stood = subst (λ (q : Search E). NodeStood q old new n more) same stood

-- in a proof no pair comes
pub inside_no_pair : (at : Standing) (k : ℕ) (older : List ℕ) (n : Node) → at.begun ≡ k ∷ older → IsNoPair at n
inside_no_pair at k older (node.Order before later) begun = λ takes. (let none : [] ≡ (k ∷ older) = sym takes.early ∙ begun in cc)
inside_no_pair at k older node.Extend begun = tt
inside_no_pair at k older (node.Leaf ts) begun = tt
inside_no_pair at k older (node.Split unknown floor) begun = tt
inside_no_pair at k older (node.Guard guard) begun = tt
inside_no_pair at k older (node.Stuck rule) begun = tt
