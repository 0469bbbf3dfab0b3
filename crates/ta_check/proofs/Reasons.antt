-- A line that can't follow has one error
use Rattle.ta_check.proofs.Common.{◌≡◌, ℕ, ℤ, ◌<◌, ◌≤◌, ◌⊎◌, List, [], ◌∷◌, length, Some, inl, inr, refl, sym, ap, subst, ◌∙◌, arith, In, known_first, Line}
use Rattle.ta_check.proofs.Common.{Node, CertFault, FailsToShow, Pending, Search, LeafFault, Subject, kind_of, Standing, FactAt, NothingIsLeft, TakesOrder}
use Rattle.ta_check.proofs.Common.{Leads, HasForm, IsNoPair, IsQuestion, IsUnawaited, IsMisplaced, AtSomeWord, FirstLeafFault, LeafFails, IsAtFault, fault_at}
use Rattle.ta_check.proofs.Common.{none-some, IsMisplacedNode}
use Rattle.ta_check.proofs.Searches.{search_exists}
use Rattle.ta_cert.specs.declared.line.Line.TheVariants as line
use Rattle.ta_cert.specs.declared.line.Node.TheVariants as node
use Rattle.ta_cert.specs.declared.fault.CertFault.TheVariants as fault
use Rattle.ta_farkas.specs.declared.LeafFault.TheVariants as leaf
use Rattle.ta_check.proofs.Following.{word_once, leaf_of_leaf}
use Rattle.ta_check.proofs.LeafFaults.{leaf_fault_once, pair_fault_once}

-- the file has the patterns whose proofs began
abbrev pub KnowsBegun : Subject → Standing → Type 0
KnowsBegun subject s = (k : ℕ) → In k s.begun → k < length subject.file.patterns

-- one line further it still does
pub known_next : (subject : Subject) (s : Standing) (l : Line) (after : Standing) → KnowsBegun subject s → Leads subject s l after → KnowsBegun subject after
known_next subject s (line.Header version) after known leads = λ k began. known k (subst (λ t. In k t.begun) leads.leads began)
known_next subject s (line.Pattern number) after known leads = λ k began. known_first number k (length subject.file.patterns) s.begun
    (search_exists (kind_of s.version) subject s.pairs number leads.search leads.searched) known (subst (λ t. In k t.begun) leads.leads began)
known_next subject s (line.Tree n) after known (inl stands) = λ k began. known k (subst (λ t. In k t.begun) stands.leads began)
known_next subject s (line.Tree n) after known (inr (inl shows)) = λ k began. known k (subst (λ t. In k t.begun) shows.leads began)
known_next subject s (line.Tree n) after known (inr (inr waits)) = λ k began. known k (subst (λ t. In k t.begun) waits.leads began)
known_next subject s line.End after known leads = subst (KnowsBegun subject) (sym leads.leads) known

-- the error of a node at a word
AtWordFault : {E : Type 0} → ℕ → Node → CertFault → Search E → Pending E → Type 0
AtWordFault number node.Extend f p w = f ≡ fault.ExtendComplete number
AtWordFault number (node.Split unknown floor) f p w = f ≡ fault.SplitVariable number
AtWordFault number (node.Leaf ts) f p w = (why : LeafFault) × (f ≡ fault_at number why) × FirstLeafFault p w ts why
AtWordFault number (node.Guard guard) f p w = f ≡ fault.Question number
AtWordFault number (node.Order before later) f p w = f ≡ fault.Question number
AtWordFault number (node.Stuck rule) f p w = f ≡ fault.Question number

-- that of a node of a form that proofs have
record AtPlace (subject : Subject) (s : Standing) (number : ℕ) (n : Node) (f : CertFault) : Type 0 where
  pub form : HasForm (kind_of s.version) subject.claim n
  pub at : AtSomeWord subject s (λ p w. AtWordFault number n f p w)

question_fault : {E : Type 0} (number : ℕ) (n : Node) (f : CertFault) (p : Search E) (w : Pending E) → IsQuestion n → f ≡ fault.Question number
    → AtWordFault number n f p w
unfolding AtWordFault
question_fault number node.Extend f p w asks is = absurd asks
question_fault number (node.Leaf ts) f p w asks is = absurd asks
question_fault number (node.Split unknown floor) f p w asks is = absurd asks
question_fault number (node.Guard guard) f p w asks is = is
question_fault number (node.Order before later) f p w asks is = is
question_fault number (node.Stuck rule) f p w asks is = is

-- the error of the leaf of a pair
record WaitFault (subject : Subject) (s : Standing) (number : ℕ) (n : Node) (f : CertFault) : Type 0 where
  pub pair : ℕ × ℕ
  pub waits : s.waiting ≡ Some pair
  pub multipliers : List (ℕ × ℤ)
  pub is : n ≡ node.Leaf multipliers
  pub why : LeafFault
  pub told : f ≡ fault_at number why
  pub fails : FailsToShow subject.file.automaton pair multipliers why

-- the error of a pair where one may come
record JoinFault (s : Standing) (number : ℕ) (n : Node) (f : CertFault) : Type 0 where
  pub before : ℕ
  pub later : ℕ
  pub is : n ≡ node.Order before later
  pub told : f ≡ fault.Pair number
  pub takes : TakesOrder s

-- the error of a pattern's line where one may follow
PatternFault : Subject → Standing → ℕ → ℕ → CertFault → Type 0
PatternFault subject s number k f = ((f ≡ fault.UnknownPattern number) × (length subject.file.patterns ≤ k))
    ⊎ ((f ≡ fault.RepeatedPattern number) × In k s.begun)

-- what a line in error is, form by form
Reason : Subject → Standing → ℕ → Line → CertFault → Type 0
Reason subject s number (line.Header version) f = f ≡ fault.Line number
Reason subject s number (line.Pattern k) f = ((f ≡ fault.Line number) × (¬ NothingIsLeft s)) ⊎ (NothingIsLeft s × PatternFault subject s number k f)
Reason subject s number (line.Tree n) f = ((f ≡ fault.Line number) × IsMisplaced subject s (line.Tree n))
    ⊎ (AtPlace subject s number n f ⊎ (WaitFault subject s number n f ⊎ JoinFault s number n f))
Reason subject s number line.End f = f ≡ fault.Line number

misplaced_reason : (subject : Subject) (s : Standing) (number n : ℕ) (l : Line) → n ≡ number → IsMisplaced subject s l
    → Reason subject s number l (fault.Line n)
unfolding Reason
misplaced_reason subject s number n (line.Header version) place m = ap fault.Line place
misplaced_reason subject s number n (line.Pattern k) place m = inl (ap fault.Line place, m)
misplaced_reason subject s number n (line.Tree t) place m = inl (ap fault.Line place, m)
misplaced_reason subject s number n line.End place m = ap fault.Line place

leaf_reason : (subject : Subject) (s : Standing) (number : ℕ) (l : Line) (f : CertFault) (why : LeafFault) → f ≡ fault_at number why → LeafFails subject s l why
    → Reason subject s number l f
unfolding Reason AtWordFault
leaf_reason subject s number l f why is fails =
    subst (λ m. Reason subject s number m f) (sym fails.is) (inr (elim fails.at [
      | inl at ↦ inl record {
        form = tt;
        at = record {
          search = at.search;
          word = at.word;
          words = at.words;
          at = at.at;
          holds = (why, is, at.holds);
        };
      }
      | inr pair ↦ inr (inl record {
        pair = pair.pair;
        waits = pair.waits;
        multipliers = fails.multipliers;
        is = refl;
        why = why;
        told = is;
        fails = pair.fails;
      })
    ]))

reason : (subject : Subject) (s : Standing) (number : ℕ) (l : Line) (f : CertFault) → IsAtFault subject s number l f → Reason subject s number l f
unfolding Reason AtWordFault PatternFault
reason subject s number l (fault.Line n) at = misplaced_reason subject s number n l at.0 at.1
reason subject s number l (fault.UnknownPattern n) (place, k, here, beyond) = subst (λ m. Reason subject s number m (fault.UnknownPattern n)) (sym here.is)
    (inr (here.free, inl (ap fault.UnknownPattern place, beyond)))
reason subject s number l (fault.RepeatedPattern n) (place, k, here, old) = subst (λ m. Reason subject s number m (fault.RepeatedPattern n)) (sym here.is)
    (inr (here.free, inr (ap fault.RepeatedPattern place, old)))
reason subject s number l (fault.Pair n) (place, bad) = subst (λ m. Reason subject s number m (fault.Pair n)) (sym bad.is)
    (inr (inr (inr record { before = bad.before; later = bad.later; is = refl; told = ap fault.Pair place; takes = bad.takes })))
reason subject s number l (fault.ExtendComplete n) (place, vain) =
    let at = vain.at in
    subst (λ m. Reason subject s number m (fault.ExtendComplete n)) (sym vain.is)
    (inr (inl record {
      form = vain.form;
      at = record
          { search = at.search; word = at.word; words = at.words; at = at.at; holds = ap fault.ExtendComplete place };
    }))
reason subject s number l (fault.Question n) (place, question, asks, vain) =
    let at = vain.at in
    subst (λ m. Reason subject s number m (fault.Question n)) (sym vain.is)
    (inr (inl record {
      form = vain.form;
      at = record {
        search = at.search;
        word = at.word;
        words = at.words;
        at = at.at;
        holds = question_fault number question (fault.Question n) at.search at.word asks
            (ap fault.Question place);
      };
    }))
reason subject s number l (fault.SplitVariable n) (place, splits) =
    let at = splits.at in
    subst (λ m. Reason subject s number m (fault.SplitVariable n)) (sym splits.is)
    (inr (inl record { form = tt; at = record { search = at.search; word = at.word; words = at.words; at = at.at; holds = ap fault.SplitVariable place } }))
reason subject s number l (fault.Row n row) (place, fails) = leaf_reason subject s number l (fault.Row n row) (leaf.RowNumber row)
    (ap (λ k. fault.Row k row) place) fails
reason subject s number l (fault.Overflow n column) (place, fails) = leaf_reason subject s number l (fault.Overflow n column) (leaf.Overflow column)
    (ap (λ k. fault.Overflow k column) place) fails
reason subject s number l (fault.Positive n unknown) (place, fails) = leaf_reason subject s number l (fault.Positive n unknown) (leaf.Positive unknown)
    (ap (λ k. fault.Positive k unknown) place) fails
reason subject s number l (fault.NotNegative n) (place, fails) = leaf_reason subject s number l (fault.NotNegative n) leaf.NotNegative
    (ap fault.NotNegative place) fails
reason subject s number l _ at = absurd at

-- a node has one error at a word
node_once : {E : Type 0} (number : ℕ) (n : Node) (f g : CertFault) (p : Search E) (w : Pending E) → AtWordFault number n f p w → AtWordFault number n g p w
    → f ≡ g
unfolding AtWordFault
node_once number node.Extend f g p w a b = a ∙ sym b
node_once number (node.Split unknown floor) f g p w a b = a ∙ sym b
node_once number (node.Guard guard) f g p w a b = a ∙ sym b
node_once number (node.Order before later) f g p w a b = a ∙ sym b
node_once number (node.Stuck rule) f g p w a b = a ∙ sym b
node_once number (node.Leaf ts) f g p w (why, is, first) (other, that, second) = is ∙ ap (fault_at number) (leaf_fault_once p w ts why other first second)
    ∙ sym that

-- and at the first word that is left
word_fault_once : (subject : Subject) (s : Standing) (number : ℕ) (n : Node) (f g : CertFault) → AtPlace subject s number n f → AtPlace subject s number n g
    → f ≡ g
word_fault_once subject s number n f g x y =
    let a = x.at in
    let b = y.at in
    let same = word_once subject s a.search b.search a.word b.word a.words b.words a.at b.at in
    node_once number n f g b.search b.word
    (subst (λ (v : Pending (FactAt s)). AtWordFault number n f b.search v) same.word
    (subst (λ (p : Search (FactAt s)). AtWordFault number n f p a.word) same.search a.holds)) b.holds

-- and as the leaf of a pair
wait_fault_once : (subject : Subject) (s : Standing) (number : ℕ) (n : Node) (f g : CertFault) → WaitFault subject s number n f → WaitFault subject s number n g
    → f ≡ g
wait_fault_once subject s number n f g a b =
    let pair : a.pair ≡ b.pair = (let e : Some a.pair ≡ Some b.pair = sym a.waits ∙ b.waits in cc) in
    let ts : a.multipliers ≡ b.multipliers = leaf_of_leaf a.multipliers b.multipliers (sym a.is ∙ b.is) in
    let fails = subst (λ q. FailsToShow subject.file.automaton q b.multipliers a.why) pair
    (subst (λ us. FailsToShow subject.file.automaton a.pair us a.why) ts a.fails) in
    a.told ∙ ap (fault_at number) (pair_fault_once subject.file.automaton b.pair b.multipliers a.why b.why fails b.fails) ∙ sym b.told

-- a pattern's line has one error
pattern_once : (subject : Subject) (s : Standing) (number k : ℕ) (f g : CertFault) → KnowsBegun subject s → PatternFault subject s number k f
    → PatternFault subject s number k g → f ≡ g
unfolding PatternFault
pattern_once subject s number k f g known (inl (is, beyond)) (inl (that, other)) = is ∙ sym that
pattern_once subject s number k f g known (inl (is, beyond)) (inr (that, old)) = let below = known k old in absurd (omega arith)
pattern_once subject s number k f g known (inr (is, old)) (inl (that, beyond)) = let below = known k old in absurd (omega arith)
pattern_once subject s number k f g known (inr (is, old)) (inr (that, other)) = is ∙ sym that

-- a node that stands at a word or is the leaf of a pair isn't misplaced
idle_word : (subject : Subject) (s : Standing) (n : Node) (fact : Search (FactAt s) → Pending (FactAt s) → Type 0) → IsUnawaited s n → AtSomeWord subject s fact
    → ⊥
idle_word subject s n fact (inl idle) at = let none : [] ≡ (at.word ∷ at.words) = sym idle.done ∙ at.at.pending in cc
idle_word subject s n fact (inr (waits, none)) at = none-some waits.pair (sym at.at.none ∙ waits.waits)

placed_word : (subject : Subject) (s : Standing) (n : Node) (number : ℕ) (f : CertFault) → IsMisplacedNode subject s n → AtPlace subject s number n f → ⊥
placed_word subject s n number f m at = elim m.out [
  | inl without ↦ without at.form
  | inr unawaited ↦ idle_word subject s n _ unawaited at.at
]

placed_leaf : (subject : Subject) (s : Standing) (n : Node) (number : ℕ) (f : CertFault) → IsMisplacedNode subject s n → WaitFault subject s number n f → ⊥
placed_leaf subject s n number f m at = elim m.out [
  | inl without ↦ without (subst (HasForm (kind_of s.version) subject.claim) (sym at.is) tt)
  | inr unawaited ↦ by (subst (IsUnawaited s) at.is unawaited)
]
  where
    by : IsUnawaited s (node.Leaf at.multipliers) → ⊥
    by (inl idle) = none-some at.pair (sym idle.none ∙ at.waits)
    by (inr (waits, leaf)) = leaf

placed_pair : (subject : Subject) (s : Standing) (n : Node) (number : ℕ) (f : CertFault) → IsMisplacedNode subject s n → JoinFault s number n f → ⊥
placed_pair subject s n number f m at = let never : ¬ TakesOrder s = subst (IsNoPair s) at.is m.no_pair in never at.takes

-- where a pair may come nothing is to be refuted
word_or_pair : (subject : Subject) (s : Standing) (n : Node) (number : ℕ) (f g : CertFault) → AtPlace subject s number n f → JoinFault s number n g → ⊥
word_or_pair subject s n number f g x pair =
    let at = x.at.at in
    let none : [] ≡ (at.number ∷ at.older) = sym pair.takes.early ∙ at.begun in
    cc

reason_once : (subject : Subject) (s : Standing) (number : ℕ) (l : Line) (f g : CertFault) → KnowsBegun subject s → Reason subject s number l f
    → Reason subject s number l g → f ≡ g
unfolding Reason
reason_once subject s number (line.Header version) f g known a b = a ∙ sym b
reason_once subject s number (line.Pattern k) f g known (inl (is, left)) (inl (that, other)) = is ∙ sym that
reason_once subject s number (line.Pattern k) f g known (inl (is, left)) (inr (done, why)) = absurd (left done)
reason_once subject s number (line.Pattern k) f g known (inr (done, why)) (inl (is, left)) = absurd (left done)
reason_once subject s number (line.Pattern k) f g known (inr (done, why)) (inr (also, because)) = pattern_once subject s number k f g known why because
reason_once subject s number (line.Tree n) f g known (inl (is, m)) (inl (that, also)) = is ∙ sym that
reason_once subject s number (line.Tree n) f g known (inl (is, m)) (inr (inl at)) = absurd (placed_word subject s n number g m at)
reason_once subject s number (line.Tree n) f g known (inl (is, m)) (inr (inr (inl at))) = absurd (placed_leaf subject s n number g m at)
reason_once subject s number (line.Tree n) f g known (inl (is, m)) (inr (inr (inr at))) = absurd (placed_pair subject s n number g m at)
reason_once subject s number (line.Tree n) f g known (inr (inl at)) (inl (is, m)) = absurd (placed_word subject s n number f m at)
reason_once subject s number (line.Tree n) f g known (inr (inr (inl at))) (inl (is, m)) = absurd (placed_leaf subject s n number f m at)
reason_once subject s number (line.Tree n) f g known (inr (inr (inr at))) (inl (is, m)) = absurd (placed_pair subject s n number f m at)
reason_once subject s number (line.Tree n) f g known (inr (inl at)) (inr (inl there)) = word_fault_once subject s number n f g at there
reason_once subject s number (line.Tree n) f g known (inr (inl at)) (inr (inr (inl wait))) = absurd (none-some wait.pair (sym at.at.at.none ∙ wait.waits))
reason_once subject s number (line.Tree n) f g known (inr (inl at)) (inr (inr (inr pair))) = absurd (word_or_pair subject s n number f g at pair)
reason_once subject s number (line.Tree n) f g known (inr (inr (inl wait))) (inr (inl at)) = absurd (none-some wait.pair (sym at.at.at.none ∙ wait.waits))
reason_once subject s number (line.Tree n) f g known (inr (inr (inr pair))) (inr (inl at)) = absurd (word_or_pair subject s n number g f at pair)
reason_once subject s number (line.Tree n) f g known (inr (inr (inl wait))) (inr (inr (inl other))) = wait_fault_once subject s number n f g wait other
reason_once subject s number (line.Tree n) f g known (inr (inr (inl wait))) (inr (inr (inr pair))) = absurd
    (none-some wait.pair (sym pair.takes.none ∙ wait.waits))
reason_once subject s number (line.Tree n) f g known (inr (inr (inr pair))) (inr (inr (inl wait))) = absurd
    (none-some wait.pair (sym pair.takes.none ∙ wait.waits))
reason_once subject s number (line.Tree n) f g known (inr (inr (inr pair))) (inr (inr (inr other))) = pair.told ∙ sym other.told
reason_once subject s number line.End f g known a b = a ∙ sym b

-- one standing, number and line have one error
pub at_fault_once : (subject : Subject) (s : Standing) (number : ℕ) (l : Line) (f g : CertFault) → KnowsBegun subject s → IsAtFault subject s number l f
    → IsAtFault subject s number l g → f ≡ g
at_fault_once subject s number l f g known a b = reason_once subject s number l f g known (reason subject s number l f a) (reason subject s number l g b)
