-- what is known at each node of the visit of a word's tree
use Rattle.ta_walk.proofs.Common.{◌≡◌, ℕ, ◌+◌, ◌-◌, ◌<◌, ◌≤◌, true, false, List, [], ◌∷◌, ◌++◌, ◌∙◌, length, arith, refl, sym, ap, subst, Ok, length-append}
use Rattle.ta_walk.proofs.Common.{AllByRecursion, each_back, each_front, Node, Pending, Search, parts, GoesOn, Inside, IsShared, Within, here, left_at, Cursor}
use Rattle.ta_walk.proofs.Common.{NodeAt, Visits, IsSpent, NodeOf, TreeIs, IsVisited, leaf_count, HasFewBounds, LeadsToBoth, SharesBudget, beginning}
use Rattle.ta_walk.proofs.SearchesMoved.{moved_visits}
use Rattle.ta_walk.proofs.WalkSoFar.{visits_more}
use Rattle.ta_walk.proofs.FewBounds.{few_left}
use Rattle.ta_walk.proofs.LeavesCounted.{leaves_few}

-- behind the word of the cursor are the words that its open nodes leave
pub inside_of : {E : Type 0} (s : Search E) (c : Cursor E) (w : Pending E) (words : List (Pending E)) → Within s c (w ∷ words) → Inside s c words
inside_of s c w words all =
    let left = all.left in
    let rest : all.words ≡ words = cc in
    subst (Inside s c) rest all.inside

-- the words that a cursor leaves are told by where it is
pub pending_is : {E : Type 0} (s : Search E) (c : Cursor E) (pending : List (Pending E)) → Within s c pending → pending ≡ left_at s c
pending_is s c pending within = within.left ∙ ap (λ (ws : List (Pending _)). here c ∷ ws) within.inside.left

-- before a node of the trees of some words, behind these
pub record WordSoFar {E : Type 0} (s : Search E) (begun : List (Pending E)) (c : Cursor E) (done : ℕ) (found : List Node) : Type 0 where
  pub pending : List (Pending E)
  pub within : Within s c pending
  pub visits : Visits s begun found pending
  pub counted : length found ≡ done

pub word_begins : {E : Type 0} (s : Search E) (c : Cursor E) → Within s c (left_at s c) → WordSoFar s (left_at s c) c 0 []
word_begins s c within = record { pending = left_at s c; within = within; visits = refl; counted = refl }

-- the same, at the word of the cursor
record AtHere {E : Type 0} (s : Search E) (begun : List (Pending E)) (c : Cursor E) (found : List Node) : Type 0 where
  pub words : List (Pending E)
  pub within : Within s c (here c ∷ words)
  pub visits : Visits s begun found (here c ∷ words)

at_here : {E : Type 0} (s : Search E) (begun : List (Pending E)) (c : Cursor E) (done : ℕ) (found : List Node) → WordSoFar s begun c done found
    → AtHere s begun c found
at_here s begun c done found so = record {
  words = so.within.words;
  within = subst (Within s c) so.within.left so.within;
  visits = subst (Visits s begun found) so.within.left so.visits;
}

-- each node adds at most one bound to a word
pub word_few : {E : Type 0} (s : Search E) (begun : List (Pending E)) (c : Cursor E) (done most : ℕ) (found : List Node)
    → AllByRecursion (HasFewBounds most) begun → WordSoFar s begun c done found → AllByRecursion (HasFewBounds (most + done)) (left_at s c)
word_few s begun c done most found few so =
    subst (λ (k : ℕ). AllByRecursion (HasFewBounds (most + k)) (left_at s c)) so.counted
    (subst (AllByRecursion (HasFewBounds (most + length found))) (pending_is s c so.pending so.within) (few_left s most begun found so.pending few so.visits))

pub word_visited : {E : Type 0} (s : Search E) (begun : List (Pending E)) (c : Cursor E) (done : ℕ) (found : List Node) → WordSoFar s begun c done found
    → IsVisited (beginning s begun) done (here c)
word_visited s begun c done found so =
    let at = at_here s begun c done found so in
    record { nodes = found; words = at.words; visits = moved_visits s s.roots begun begun found (here c ∷ at.words) at.visits; counted = so.counted }

went_on : {E : Type 0} (s : Search E) (new : Cursor E) (ws : List (Pending E)) → GoesOn s new ws (Ok true) → Within s new ws
went_on s new [] goes = absurd (cc)
went_on s new (w ∷ ws) goes = goes.1

ended : {E : Type 0} (s : Search E) (new : Cursor E) (ws : List (Pending E)) → GoesOn s new ws (Ok false) → ws ≡ []
ended s new [] goes = refl
ended s new (w ∷ ws) goes = absurd (let e = goes.0 in cc)

-- it goes on to the next node
pub word_goes : {E : Type 0} (s : Search E) (begun : List (Pending E)) (c new : Cursor E) (done : ℕ) (found : List Node) (m : Node)
    → WordSoFar s begun c done found → NodeAt s (here c) m →
    ((w : Pending E) (words : List (Pending E)) → Within s c (w ∷ words) → GoesOn s new (parts s w m ++ words) (Ok true)) →
    WordSoFar s begun new (done + 1) (found ++ m ∷ [])
word_goes s begun c new done found m so stands goes =
    let at = at_here s begun c done found so in
    let counted = so.counted in
    record {
      pending = parts s (here c) m ++ at.words;
      within = went_on s new (parts s (here c) m ++ at.words) (goes (here c) at.words at.within);
      visits = visits_more s begun found (here c) at.words m at.visits stands;
      counted = omega (arith, length-append found (m ∷ []));
    }

-- no word is left
pub word_refutes : {E : Type 0} (s : Search E) (begun : List (Pending E)) (c new : Cursor E) (done budget : ℕ) (found : List Node) (m : Node)
    → WordSoFar s begun c done found → NodeAt s (here c) m →
    ((w : Pending E) (words : List (Pending E)) → Within s c (w ∷ words) → GoesOn s new (parts s w m ++ words) (Ok false)) →
    done + 1 ≤ budget → TreeIs (beginning s begun) budget (found ++ m ∷ []) (done + 1)
word_refutes s begun c new done budget found m so stands goes within =
    let at = at_here s begun c done found so in
    let counted = so.counted in
    let none = ended s new (parts s (here c) m ++ at.words) (goes (here c) at.words at.within) in
    record {
      visits =
          moved_visits s s.roots begun begun (found ++ m ∷ []) []
          (subst (λ (ws : List (Pending _)). Visits s begun (found ++ m ∷ []) ws) none (visits_more s begun found (here c) at.words m at.visits stands));
      counted = omega (arith, length-append found (m ∷ []));
      within = within;
    }

-- the node of the cursor has a fact
pub word_at_node : {E : Type 0} (s : Search E) (begun : List (Pending E)) (c : Cursor E) (done budget : ℕ) (found : List Node) (F : Pending E → Type 0)
    → WordSoFar s begun c done found → F (here c) → done + 1 ≤ budget → NodeOf (beginning s begun) budget (done + 1) F
word_at_node s begun c done budget found F so holds within = record {
  before = done;
  number_is = refl;
  within = within;
  word = here c;
  visited = word_visited s begun c done found so;
  holds = holds;
}

-- a word is left behind the budget
pub word_spent : {E : Type 0} (s : Search E) (begun : List (Pending E)) (c : Cursor E) (budget : ℕ) (found : List Node) → WordSoFar s begun c budget found
    → IsSpent (beginning s begun) budget budget
word_spent s begun c budget found so = record { counted = refl; word = here c; visited = word_visited s begun c budget found so }

-- words are shared behind some nodes
pub word_shared : {E : Type 0} (s : Search E) (begun : List (Pending E)) (c new later : Cursor E) (done leaves : ℕ) (found : List Node)
    (Keeps : List Node → Type 0) → WordSoFar s begun c done found → IsShared s c new later → leaves ≡ leaf_count found → Keeps found
    → LeadsToBoth s begun Keeps new later done leaves
word_shared s begun c new later done leaves found Keeps so shared few kept = record {
  nodes = found;
  visits = subst (Visits s begun found) (pending_is s c so.pending so.within ∙ shared.words) so.visits;
  counted = sym so.counted;
  leaves_are = few;
  kept = kept;
}

-- and both cursors have room for what is left of the budget
pub both_stand : {E : Type 0} (s : Search E) (begun : List (Pending E)) (c new later : Cursor E) (done nodes most leaves : ℕ) (found : List Node)
    → AllByRecursion (HasFewBounds most) begun → most + nodes ≤ 1000000000 → WordSoFar s begun c done found → IsShared s c new later → 0 < done → done ≤ nodes
    → leaves ≡ leaf_count found
    → SharesBudget s nodes done leaves new later
both_stand s begun c new later done nodes most leaves found few room so shared some within leaves_are =
    let all = subst (AllByRecursion (HasFewBounds (most + done))) shared.words (word_few s begun c done most found few so) in
    let fits : (most + done) + (nodes - done) ≤ 1000000000 = omega arith in
    let less = leaves_few found in
    record {
      some = some;
      within = within;
      leaves_few = omega arith;
      here = record {
        within = shared.first;
        most = most + done;
        room = fits;
        few = each_front (HasFewBounds (most + done)) (left_at s new) (left_at s later)
            all;
      };
      there = record {
        within = shared.second;
        most = most + done;
        room = fits;
        few = each_back (HasFewBounds (most + done)) (left_at s new) (left_at s later)
            all;
      };
    }
