-- at a word stands one node, or it is whole, or a number leaves the range
use Rattle.ta_walk.proofs.Common.{◌≡◌, ◌⊎◌, inl, inr, ℕ, List, None, ap, ◌∙◌, refl, subst, ℤ, Node, LeafStays, Fraction, PlaceKind, SplitsAt, AreNumbers}
use Rattle.ta_walk.proofs.Common.{NodeAt, WholeAt, IsOutOfRangeAt, SplitVertex, IsScaled, Pending, Search, bounded_rows, sym, Some, OpenVertex, VertexAt}
use Rattle.ta_walk.proofs.Common.{IsSettled, parts_of}
use Rattle.ta_walk.proofs.DeterminedOutcomes.{multipliers_at, values_at, no_vertex, counts_at, no_overflow_refuted, no_overflow_vertex}
use Rattle.ta_walk.proofs.DeterminedValues.{SameSplit, split_once, numbers_once, whole_has_no_split}
use Rattle.ta_cert.specs.declared.line.Node.TheVariants as node
use Rattle.ta_walk.specs.declared.end.PlaceKind.TheVariants as kind

split_same : {E : Type 0} (s : Search E) (w : Pending E) (x y : ℕ) (k n : ℤ) → SplitVertex s w x k → SplitVertex s w y n → SameSplit x y k n
split_same s w x y k n h g =
    let values = values_at s w g.values h.values g.vertex h.vertex in
    split_once h.values x y k n h.splits (subst (λ (fs : List Fraction). SplitsAt fs y n) values g.splits)

-- at one vertex one node asks
asks_once : {E : Type 0} (s : Search E) (w : Pending E) (m n : Node) → OpenVertex s w m → OpenVertex s w n → m ≡ n
asks_once s w m n h g =
    let values = values_at s w h.values g.values h.vertex g.vertex in
    let one = h.question in
    let other = g.question in
    let same : s.question w.start w.past (parts_of h.values) ≡ s.question w.start w.past (parts_of g.values) = ap
    (λ (fs : List Fraction). s.question w.start w.past (parts_of fs)) values in
    some_once m n (sym one ∙ same ∙ other)
  where
    some_once : (m n : Node) → Some m ≡ Some n → m ≡ n
    some_once m n e = cc

-- where a node asks, the vertex isn't settled
asks_unsettled : {E : Type 0} (s : Search E) (w : Pending E) (n : Node) (values : List Fraction) → OpenVertex s w n → VertexAt s w values → IsSettled s w values
    → ⊥
asks_unsettled s w n values h vertex settled =
    settled n (subst (λ (fs : List Fraction). s.question w.start w.past (parts_of fs) ≡ Some n) (values_at s w h.values values h.vertex vertex) h.question)
    h.may

pub node_once : {E : Type 0} (s : Search E) (w : Pending E) (m n : Node) → NodeAt s w m → NodeAt s w n → m ≡ n
node_once s w (node.Leaf ts) (node.Leaf us) h g = ap node.Leaf (multipliers_at s w ts us h.refuted g.refuted)
node_once s w (node.Leaf ts) n h g = absurd (no_vertex s w ts g.values h.refuted g.vertex)
node_once s w n (node.Leaf us) h g = absurd (no_vertex s w us h.values g.refuted h.vertex)
node_once s w (node.Split x k) (node.Split y n) h g =
    let same = split_same s w x y k n h g in
    ap (λ (z : ℕ). node.Split z k) same.unknown ∙ ap (λ (f : ℤ). node.Split y f) same.floor
node_once s w (node.Split x k) n h g = absurd (asks_unsettled s w n h.values g h.vertex h.settled)
node_once s w n (node.Split y k) h g = absurd (asks_unsettled s w n g.values h g.vertex g.settled)
node_once s w m n h g = asks_once s w m n h g

-- what is taken at one vertex is one list
taken_once : {E : Type 0} (s : Search E) (w : Pending E) (values : List Fraction) (ks ns : List ℤ) → AreNumbers values ks ⊎ IsScaled s w values ks
    → AreNumbers values ns ⊎ IsScaled s w values ns → ks ≡ ns
taken_once s w values ks ns (inl h) (inl g) = numbers_once values ks ns h g
taken_once s w values ks ns (inl h) (inr g) = absurd (whole_has_no_split values ks g.unknown g.floor h g.splits)
taken_once s w values ks ns (inr h) (inl g) = absurd (whole_has_no_split values ns h.unknown h.floor g h.splits)
taken_once s w values ks ns (inr h) (inr g) = same (sym h.scaled ∙ g.scaled)
  where
    same : Some ks ≡ Some ns → ks ≡ ns
    same e = cc

-- nothing is taken where an unknown is split
not_taken : {E : Type 0} (s : Search E) (w : Pending E) (values : List Fraction) (ks : List ℤ) (x : ℕ) (k : ℤ) → AreNumbers values ks ⊎ IsScaled s w values ks
    → SplitsAt values x k → s.scaled w (parts_of values) ≡ None → ⊥
not_taken s w values ks x k (inl h) splits none = whole_has_no_split values ks x k h splits
not_taken s w values ks x k (inr h) splits none = apart (sym none ∙ h.scaled)
  where
    apart : None ≡ Some ks → ⊥
    apart e = absurd (cc)

pub whole_once : {E : Type 0} (s : Search E) (w : Pending E) (ks ns : List ℤ) → WholeAt s w ks → WholeAt s w ns → ks ≡ ns
whole_once s w ks ns h g =
    let values = values_at s w g.values h.values g.vertex h.vertex in
    taken_once s w h.values ks ns h.whole (subst (λ (fs : List Fraction). AreNumbers fs ns ⊎ IsScaled s w fs ns) values g.whole)

-- a whole node is no node of the tree
pub whole_is_no_node : {E : Type 0} (s : Search E) (w : Pending E) (ks : List ℤ) (n : Node) → WholeAt s w ks → NodeAt s w n → ⊥
whole_is_no_node s w ks (node.Leaf ts) h g = no_vertex s w ts h.values g.refuted h.vertex
whole_is_no_node s w ks (node.Split x k) h g =
    let values = values_at s w g.values h.values g.vertex h.vertex in
    not_taken s w h.values ks x k h.whole (subst (λ (fs : List Fraction). SplitsAt fs x k) values g.splits)
    (subst (λ (fs : List Fraction). s.scaled w (parts_of fs) ≡ None) values g.unscaled)
whole_is_no_node s w ks n h g = asks_unsettled s w n h.values g h.vertex h.settled

-- nor does one stand where a number leaves the range
pub leaving_is_no_node : {E : Type 0} (s : Search E) (w : Pending E) (j : PlaceKind) (n : Node) → IsOutOfRangeAt s w j → NodeAt s w n → ⊥
leaving_is_no_node s w (kind.Pivot c) (node.Leaf ts) h g = no_overflow_refuted s w ts c g.refuted h
leaving_is_no_node s w (kind.Pivot c) n h g = no_overflow_vertex s w g.values c g.vertex h
leaving_is_no_node s w kind.Leaf (node.Leaf ts) h g = h.leaves
    (subst (LeafStays (bounded_rows s w)) (multipliers_at s w ts h.multipliers g.refuted h.refuted) g.in_range)
leaving_is_no_node s w kind.Leaf n h g = no_vertex s w h.multipliers g.values h.refuted g.vertex
leaving_is_no_node s w kind.Run n h g = absurd h

pub leaving_is_not_whole : {E : Type 0} (s : Search E) (w : Pending E) (j : PlaceKind) (ks : List ℤ) → IsOutOfRangeAt s w j → WholeAt s w ks → ⊥
leaving_is_not_whole s w (kind.Pivot c) ks h g = no_overflow_vertex s w g.values c g.vertex h
leaving_is_not_whole s w kind.Leaf ks h g = no_vertex s w h.multipliers g.values h.refuted g.vertex
leaving_is_not_whole s w kind.Run ks h g = absurd h

pub leaving_once : {E : Type 0} (s : Search E) (w : Pending E) (i j : PlaceKind) → IsOutOfRangeAt s w i → IsOutOfRangeAt s w j → i ≡ j
leaving_once s w (kind.Pivot c) (kind.Pivot d) h g = ap kind.Pivot (counts_at s w c d h g)
leaving_once s w (kind.Pivot c) kind.Leaf h g = absurd (no_overflow_refuted s w g.multipliers c g.refuted h)
leaving_once s w (kind.Pivot c) kind.Run h g = absurd g
leaving_once s w kind.Leaf (kind.Pivot d) h g = absurd (no_overflow_refuted s w h.multipliers d h.refuted g)
leaving_once s w kind.Leaf kind.Leaf h g = refl
leaving_once s w kind.Leaf kind.Run h g = absurd g
leaving_once s w kind.Run j h g = absurd h
