-- a search has one end, and so has a walk
use Rattle.ta_walk.proofs.Common.{cases_order, ◌≡◌, inl, inr, ℕ, ◌<◌, List, ℤ, length, arith, refl, sym, ap, ◌∙◌, subst, Node, PlaceKind, NodeAt, WholeAt}
use Rattle.ta_walk.proofs.Common.{IsOutOfRangeAt, TreeIs, NodeOf, SolutionAt, IsSpent, Ending, Whole, Solved, Stopped, Left, IsVisitEnding}
use Rattle.ta_walk.proofs.Common.{EndingsAreDetermined, IsWalkEnd, WalksAreDetermined, Pending, Search, WalkEnd, Element}
use Rattle.ta_walk.proofs.DeterminedNodes.{whole_once, whole_is_no_node, leaving_is_no_node, leaving_is_not_whole, leaving_once}
use Rattle.ta_walk.proofs.DeterminedVisits.{tree_once, word_of_tree, word_once, node_at_word}
use Rattle.ta_encode.specs.declared.encoded.Solution.{Solution}
use Rattle.ta_walk.specs.declared.end.WalkEnd.TheVariants.{Refuted, Found, Spent, Overflow}
use Rattle.ta_base.proofs.Lists.{reversed_same}

-- where a fact holds of a word, no node stands at it
abbrev BarsNodes : {E : Type 0} → Search E → (Pending E → Type 0) → Type 0
BarsNodes {E} s fact = (w : Pending E) (n : Node) → fact w → NodeAt s w n → ⊥

-- a whole tree has no node of that number with such a fact
not_in_tree : {E : Type 0} (s : Search E) (budget c i : ℕ) (ns : List Node) (F : Pending E → Type 0) → BarsNodes s F → TreeIs s budget ns c
    → NodeOf s budget i F → ⊥
not_in_tree s budget c i ns F bars t f =
    let on = word_of_tree s budget ns c f.before f.word t f.visited in
    bars f.word on.1.0 f.holds on.1.1

-- nor does a spent budget reach past a node with such a fact
not_before_spent : {E : Type 0} (s : Search E) (budget c i : ℕ) (F : Pending E → Type 0) → BarsNodes s F → IsSpent s budget c → NodeOf s budget i F → ⊥
not_before_spent s budget c i F bars spent f =
    let less : f.before < budget = (let h = f.within in let e = f.number_is in omega arith) in
    let on = node_at_word s f.before budget f.word spent.word less f.visited spent.visited in
    bars f.word on.0 f.holds on.1

tree_is_not_spent : {E : Type 0} (s : Search E) (budget c d : ℕ) (ns : List Node) → TreeIs s budget ns c → IsSpent s budget d → ⊥
tree_is_not_spent s budget c d ns t spent =
    let less = (word_of_tree s budget ns c budget spent.word t spent.visited).0 in
    absurd (omega arith)

-- two such nodes are one, at one word
record SamePlace {E : Type 0} (i j : ℕ) (F G : Pending E → Type 0) : Type 0 where
  pub number : i ≡ j
  pub word : Pending E
  pub one : F word
  pub other : G word

place_once : {E : Type 0} (s : Search E) (budget i j : ℕ) (F G : Pending E → Type 0) → BarsNodes s F → BarsNodes s G → NodeOf s budget i F → NodeOf s budget j G
    → SamePlace i j F G
place_once s budget i j F G bars bar f g =
    let number = f.number_is in
    elim (cases_order f.before g.before) [
      | inl same ↦ record {
        number = omega arith;
        word = f.word;
        one = f.holds;
        other = subst G (sym (word_once s f.before g.before f.word g.word same f.visited g.visited)) g.holds;
      }
      | inr apart ↦ elim apart [
        | inl less ↦ (let on = node_at_word s f.before g.before f.word g.word less f.visited g.visited in absurd (bars f.word on.0 f.holds on.1))
        | inr more ↦ (let on = node_at_word s g.before f.before g.word f.word more g.visited f.visited in absurd (bar g.word on.0 g.holds on.1))
      ]
    ]

-- a whole node at this word
abbrev IsWhole : {E : Type 0} → Search E → Pending E → List ℤ → Pending E → Type 0
IsWhole s word values w = (w ≡ word) × WholeAt s w values

whole_bars : {E : Type 0} (s : Search E) (word : Pending E) (values : List ℤ) → BarsNodes s (IsWhole s word values)
whole_bars s word values w n h g = whole_is_no_node s w values n h.1 g

leaving_bars : {E : Type 0} (s : Search E) (j : PlaceKind) → BarsNodes s (λ w. IsOutOfRangeAt s w j)
leaving_bars s j w n h g = leaving_is_no_node s w j n h g

pub endings_once : {E : Type 0} → EndingsAreDetermined E
endings_once s budget (Whole ns c) (Whole ms d) h g =
    let nodes = tree_once s budget ns ms c d h g in
    let counts : c ≡ d = h.counted ∙ ap length nodes ∙ sym g.counted in
    cc
endings_once s budget (Whole ns c) (Solved j v ks) h g = absurd (not_in_tree s budget c j ns (IsWhole s v ks) (whole_bars s v ks) h g)
endings_once s budget (Whole ns c) (Stopped d) h g = absurd (tree_is_not_spent s budget c d ns h g)
endings_once s budget (Whole ns c) (Left j l) h g = absurd (not_in_tree s budget c j ns (λ w. IsOutOfRangeAt s w l) (leaving_bars s l) h g)
endings_once s budget (Solved i v ks) (Whole ms d) h g = absurd (not_in_tree s budget d i ms (IsWhole s v ks) (whole_bars s v ks) g h)
endings_once s budget (Solved i v ks) (Solved j u ns) h g =
    let same = place_once s budget i j (IsWhole s v ks) (IsWhole s u ns) (whole_bars s v ks) (whole_bars s u ns) h g in
    let counts = same.number in
    let words : v ≡ u = sym same.one.0 ∙ same.other.0 in
    let values = whole_once s same.word ks ns same.one.1 same.other.1 in
    cc
endings_once s budget (Solved i v ks) (Stopped d) h g = absurd (not_before_spent s budget d i (IsWhole s v ks) (whole_bars s v ks) g h)
endings_once s budget (Solved i v ks) (Left j l) h g =
    let same = place_once s budget i j (IsWhole s v ks) (λ w. IsOutOfRangeAt s w l) (whole_bars s v ks) (leaving_bars s l) h g in
    absurd (leaving_is_not_whole s same.word l ks same.other same.one.1)
endings_once s budget (Stopped c) (Whole ms d) h g = absurd (tree_is_not_spent s budget d c ms g h)
endings_once s budget (Stopped c) (Solved j u ns) h g = absurd (not_before_spent s budget c j (IsWhole s u ns) (whole_bars s u ns) h g)
endings_once s budget (Stopped c) (Stopped d) h g = ap Stopped (h.counted ∙ sym g.counted)
endings_once s budget (Stopped c) (Left j l) h g = absurd (not_before_spent s budget c j (λ w. IsOutOfRangeAt s w l) (leaving_bars s l) h g)
endings_once s budget (Left i k) (Whole ms d) h g = absurd (not_in_tree s budget d i ms (λ w. IsOutOfRangeAt s w k) (leaving_bars s k) g h)
endings_once s budget (Left i k) (Solved j u ns) h g =
    let same = place_once s budget i j (λ w. IsOutOfRangeAt s w k) (IsWhole s u ns) (leaving_bars s k) (whole_bars s u ns) h g in
    absurd (leaving_is_not_whole s same.word k ns same.one same.other.1)
endings_once s budget (Left i k) (Stopped d) h g = absurd (not_before_spent s budget d i (λ w. IsOutOfRangeAt s w k) (leaving_bars s k) g h)
endings_once s budget (Left i k) (Left j l) h g =
    let same = place_once s budget i j (λ w. IsOutOfRangeAt s w k) (λ w. IsOutOfRangeAt s w l) (leaving_bars s k) (leaving_bars s l) h g in
    let counts = same.number in
    let kinds = leaving_once s same.word k l same.one same.other in
    cc

-- the node of a number has a fact that follows
pub node_with : {E : Type 0} (s : Search E) (budget number : ℕ) (F G : Pending E → Type 0) (n : NodeOf s budget number F) → G n.word → NodeOf s budget number G
node_with s budget number F G n holds = record
    { before = n.before; number_is = n.number_is; within = n.within; word = n.word; visited = n.visited; holds = holds }

-- what a walk ended at, as an end of its search
abbrev ending_of : (s : Search Element) (number budget : ℕ) (e : WalkEnd) → IsWalkEnd s number budget e → Ending Element
ending_of s number budget (Refuted ns c) h = Whole ns c
ending_of s number budget (Found i x) h = Solved i h.word x.values
ending_of s number budget (Spent c) h = Stopped c
ending_of s number budget (Overflow i k) h = Left i k

is_ending : (s : Search Element) (number budget : ℕ) (e : WalkEnd) (h : IsWalkEnd s number budget e) → IsVisitEnding s budget (ending_of s number budget e h)
is_ending s number budget (Refuted ns c) h = h
is_ending s number budget (Found i x) h = node_with s budget i (SolutionAt s number x) (IsWhole s h.word x.values) h (refl, h.holds.whole)
is_ending s number budget (Spent c) h = h
is_ending s number budget (Overflow i k) h = h

solution_once : (s : Search Element) (number : ℕ) (x y : Solution) (w v : Pending Element) → w ≡ v → x.values ≡ y.values → SolutionAt s number x w
    → SolutionAt s number y v → x ≡ y
solution_once s number x y w v same values h g =
    let patterns = h.pattern ∙ sym g.pattern in
    let starts = h.start ∙ ap (λ (u : Pending Element). u.start) same ∙ sym g.start in
    let words = reversed_same x.word y.word v.past (h.word ∙ ap (λ (u : Pending Element). u.past) same) g.word in
    λ i. record { pattern = patterns i; start_mask = starts i; word = words i; values = values i }

pub ends_once : WalksAreDetermined
ends_once s number budget e f h g = from e f h g
    (endings_once s budget (ending_of s number budget e h) (ending_of s number budget f g) (is_ending s number budget e h) (is_ending s number budget f g))
  where
    from : (e f : WalkEnd) (h : IsWalkEnd s number budget e) (g : IsWalkEnd s number budget f) → ending_of s number budget e h ≡ ending_of s number budget f g
        → e ≡ f
    from (Refuted ns c) (Refuted ms d) h g same = cc
    from (Refuted ns c) (Found j y) h g same = absurd (cc)
    from (Refuted ns c) (Spent d) h g same = absurd (cc)
    from (Refuted ns c) (Overflow j l) h g same = absurd (cc)
    from (Found i x) (Refuted ms d) h g same = absurd (cc)
    from (Found i x) (Found j y) h g same =
        let counts : i ≡ j = cc in
        let words : h.word ≡ g.word = cc in
        let values : x.values ≡ y.values = cc in
        let solutions = solution_once s number x y h.word g.word words values h.holds g.holds in
        cc
    from (Found i x) (Spent d) h g same = absurd (cc)
    from (Found i x) (Overflow j l) h g same = absurd (cc)
    from (Spent c) (Refuted ms d) h g same = absurd (cc)
    from (Spent c) (Found j y) h g same = absurd (cc)
    from (Spent c) (Spent d) h g same = cc
    from (Spent c) (Overflow j l) h g same = absurd (cc)
    from (Overflow i k) (Refuted ms d) h g same = absurd (cc)
    from (Overflow i k) (Found j y) h g same = absurd (cc)
    from (Overflow i k) (Spent d) h g same = absurd (cc)
    from (Overflow i k) (Overflow j l) h g same = cc
