-- reading a proof node by node
use Rattle.ta_encode.proofs.Common.{◌≡◌, ℕ, zero, suc, ◌≤◌, ◌<◌, ℤ, List, [], ◌∷◌, ◌++◌, map, length, arith, sym, ap, ◌∙◌, refl, subst, append_assoc, Node}
use Rattle.ta_encode.proofs.Common.{Tree, Forest, Leaf, Ask, Split, Done, More, preorder, forest_preorder, all_preorder, Low, High, Pending, Search, bound_at}
use Rattle.ta_encode.proofs.Common.{bounded, longer, MayAsk, answered, IsLeaf, RefutesBy, RefuteEach, RefuteAll, ProofBy, RefutedInOrder, ProofsReadInOrder}
use Rattle.ta_encode.proofs.Common.{ProofsAreDetermined, LeafTest, false≢true}
use Rattle.ta_encode.proofs.Asking.{none_asked}
use Rattle.ta_base.proofs.Lists.{joined, regrouped}
use Rattle.ta_cert.specs.declared.line.Node.TheVariants as node

-- the tree of the first word, and the nodes of the others
pub record First {E : Type 0} (s : Search E) (test : LeafTest E) (w : Pending E) (ws : List (Pending E)) (ns : List Node) : Type 0 where
  pub tree : Tree
  pub rest : List Node
  pub nodes : ns ≡ preorder tree ++ rest
  pub refutes : RefutesBy s test w tree
  pub others : RefutedInOrder s test ws rest
  pub shorter : length rest < length ns

-- the trees of these words, and the nodes of the others
record Each {E : Type 0} (s : Search E) (test : LeafTest E) (vs ws : List (Pending E)) (ns : List Node) : Type 0 where
  pub trees : Forest
  pub rest : List Node
  pub nodes : ns ≡ forest_preorder trees ++ rest
  pub refutes : RefuteEach s test vs trees
  pub others : RefutedInOrder s test ws rest
  pub shorter : length rest ≤ length ns

abbrev Reads : {E : Type 0} → Search E → LeafTest E → ℕ → Type 0
Reads {E} s test n = (w : Pending E) (ws : List (Pending E)) (ns : List Node) → length ns ≤ n → RefutedInOrder s test (w ∷ ws) ns → First s test w ws ns

read_each : {E : Type 0} (s : Search E) (test : LeafTest E) (n : ℕ) → Reads s test n → (vs ws : List (Pending E)) (ns : List Node) → length ns ≤ n
    → RefutedInOrder s test (vs ++ ws) ns → Each s test vs ws ns
unfolding RefutesBy
read_each s test n read [] ws ns b h = record { trees = Done; rest = ns; nodes = refl; refutes = tt; others = h; shorter = omega arith }
read_each s test n read (v ∷ vs) ws ns b h =
    let one = read v (vs ++ ws) ns b h in
    let more = read_each s test n read vs ws one.rest (omega (arith, one.shorter)) one.others in
    record {
      trees = More one.tree more.trees;
      rest = more.rest;
      nodes = joined ns (preorder one.tree) one.rest (forest_preorder more.trees) more.rest one.nodes more.nodes;
      refutes = (one.refutes, more.refutes);
      others = more.others;
      shorter = omega (arith, one.shorter, more.shorter);
    }

read_first : {E : Type 0} (s : Search E) (test : LeafTest E) (n : ℕ) → Reads s test n
unfolding RefutesBy
read_first s test n w ws [] b h = absurd (cc)
read_first s test zero w ws (m ∷ ns) b h = absurd (omega arith)
read_first s test (suc n) w ws (node.Leaf ts ∷ ns) b h = record { tree = Leaf ts; rest = ns; nodes = refl; refutes = h.0; others = h.1; shorter = omega arith }
read_first s test (suc n) w ws (node.Split unknown floor ∷ ns) b h =
    let low = read_first s test n (bounded w (bound_at unknown floor Low)) (bounded w (bound_at unknown floor High) ∷ ws) ns (omega arith) h.1 in
    let high = read_first s test n (bounded w (bound_at unknown floor High)) ws low.rest (omega (arith, low.shorter)) low.others in
    record {
      tree = Split unknown floor low.tree high.tree;
      rest = high.rest;
      nodes = (let both : ns ≡ (preorder low.tree ++ preorder high.tree) ++ high.rest =
          joined ns (preorder low.tree) low.rest (preorder high.tree) high.rest low.nodes high.nodes in
          ap (λ (xs : List Node). node.Split unknown floor ∷ xs) {y = (preorder low.tree ++ preorder high.tree) ++ high.rest} both);
      refutes = (h.0, low.refutes, high.refutes);
      others = high.others;
      shorter = omega (arith, low.shorter, high.shorter);
    }
read_first s test (suc n) w ws (m ∷ ns) b h =
    let each = read_each s test n (read_first s test n) (map (longer w) (answered s w.start w.past m)) ws ns (omega arith) h.1 in
    record {
      tree = Ask m each.trees;
      rest = each.rest;
      nodes = ap (λ (xs : List Node). m ∷ xs) each.nodes;
      refutes = (h.0, each.refutes);
      others = each.others;
      shorter = omega (arith, each.shorter);
    }

mutual
  unfolding RefutesBy

  pub write_tree : (tree : Tree) {E : Type 0} (s : Search E) (test : LeafTest E) (w : Pending E) (ws : List (Pending E)) (rest : List Node)
      → RefutesBy s test w tree → RefutedInOrder s test ws rest → RefutedInOrder s test (w ∷ ws) (preorder tree ++ rest)
  write_tree (Leaf ts) s test w ws rest h g = (h, g)
  write_tree (Ask (node.Leaf ts) trees) s test w ws rest h g = absurd (false≢true h.0)
  write_tree (Ask (node.Split unknown floor) trees) s test w ws rest h g = absurd (false≢true h.0)
  write_tree (Ask n trees) s test w ws rest h g = (h.0, write_forest trees s test (map (longer w) (answered s w.start w.past n)) ws rest h.1 g)
  write_tree (Split unknown floor low high) s test w ws rest h g =
      let l = bounded w (bound_at unknown floor Low) in
      let r = bounded w (bound_at unknown floor High) in (
        h.0,
        subst (RefutedInOrder s test (l ∷ r ∷ ws)) (sym (append_assoc (preorder low) (preorder high) rest))
            (write_tree low s test l (r ∷ ws) (preorder high ++ rest) h.1 (write_tree high s test r ws rest h.2 g)),
      )

  write_forest : (trees : Forest) {E : Type 0} (s : Search E) (test : LeafTest E) (vs ws : List (Pending E)) (rest : List Node) → RefuteEach s test vs trees
      → RefutedInOrder s test ws rest → RefutedInOrder s test (vs ++ ws) (forest_preorder trees ++ rest)
  write_forest Done s test [] ws rest h g = g
  write_forest Done s test (v ∷ vs) ws rest h g = absurd h
  write_forest (More tree trees) s test [] ws rest h g = absurd h
  write_forest (More tree trees) s test (v ∷ vs) ws rest h g =
      subst (RefutedInOrder s test (v ∷ (vs ++ ws))) (sym (append_assoc (preorder tree) (forest_preorder trees) rest))
      (write_tree tree s test v (vs ++ ws) (forest_preorder trees ++ rest) h.0 (write_forest trees s test vs ws rest h.1 g))

-- the trees of these words
record Trees {E : Type 0} (s : Search E) (test : LeafTest E) (ws : List (Pending E)) (ns : List Node) : Type 0 where
  pub trees : List Tree
  pub refutes : RefuteAll s test ws trees
  pub nodes : all_preorder trees ≡ ns

read_trees : {E : Type 0} (s : Search E) (test : LeafTest E) (ws : List (Pending E)) (ns : List Node) → RefutedInOrder s test ws ns → Trees s test ws ns
read_trees s test [] [] h = record { trees = []; refutes = tt; nodes = refl }
read_trees s test [] (n ∷ ns) h = absurd h
read_trees s test (w ∷ ws) ns h =
    let one = read_first s test (length ns) w ws ns (omega arith) h in
    let more = read_trees s test ws one.rest one.others in
    record {
      trees = one.tree ∷ more.trees;
      refutes = (one.refutes, more.refutes);
      nodes = (let all : preorder one.tree ++ all_preorder more.trees ≡ preorder one.tree ++ one.rest =
          ap (λ (xs : List Node). preorder one.tree ++ xs) more.nodes in let back : preorder one.tree ++ one.rest ≡ ns = sym one.nodes in all ∙ back);
    }

write_trees : {E : Type 0} (s : Search E) (test : LeafTest E) (ws : List (Pending E)) (trees : List Tree) → RefuteAll s test ws trees
    → RefutedInOrder s test ws (all_preorder trees)
write_trees s test [] [] h = refl
write_trees s test [] (tree ∷ trees) h = absurd h
write_trees s test (w ∷ ws) [] h = absurd h
write_trees s test (w ∷ ws) (tree ∷ trees) h = write_tree tree s test w ws (all_preorder trees) h.0 (write_trees s test ws trees h.1)

pub in_order : {E : Type 0} (test : Search E → LeafTest E) → ProofsReadInOrder test
in_order test s nodes = (
  λ h. let t = read_trees s (test s) s.roots nodes h in (t.trees, t.refutes, t.nodes),
  λ w. subst (RefutedInOrder s (test s) s.roots) w.2 (write_trees s (test s) s.roots w.0 w.1),
)

-- trees that refute one word and begin one list of nodes are one tree
record SameTree (t u : Tree) (xs ys : List Node) : Type 0 where
  pub tree : t ≡ u
  pub rest : xs ≡ ys

record SameForest (t u : Forest) (xs ys : List Node) : Type 0 where
  pub trees : t ≡ u
  pub rest : xs ≡ ys

split_parts : (x x' : ℕ) (k k' : ℤ) (xs ys : List Node) → (node.Split x k ∷ xs) ≡ (node.Split x' k' ∷ ys) → (x ≡ x') × (k ≡ k') × (xs ≡ ys)
split_parts x x' k k' xs ys e = (cc, cc, cc)

leaf_parts : (ts us : List (ℕ × ℤ)) (xs ys : List Node) → (node.Leaf ts ∷ xs) ≡ (node.Leaf us ∷ ys) → (ts ≡ us) × (xs ≡ ys)
leaf_parts ts us xs ys e = (cc, cc)

same_head : (n m : Node) (xs ys : List Node) → (n ∷ xs) ≡ (m ∷ ys) → (n ≡ m) × (xs ≡ ys)
same_head n m xs ys e = (cc, cc)

-- a node that asks is no leaf and no split
asks_no_leaf : {E : Type 0} (s : Search E) (w : Pending E) (n : Node) (ts : List (ℕ × ℤ)) (xs ys : List Node) → (n ∷ xs) ≡ (node.Leaf ts ∷ ys)
    → MayAsk s w.start w.past n → ⊥
asks_no_leaf s w n ts xs ys e may = none_asked s w.start w.past (node.Leaf ts) (subst (MayAsk s w.start w.past) (same_head n (node.Leaf ts) xs ys e).0 may) refl

asks_no_split : {E : Type 0} (s : Search E) (w : Pending E) (n : Node) (x : ℕ) (k : ℤ) (xs ys : List Node) → (n ∷ xs) ≡ (node.Split x k ∷ ys)
    → MayAsk s w.start w.past n → ⊥
asks_no_split s w n x k xs ys e may = none_asked s w.start w.past (node.Split x k)
    (subst (MayAsk s w.start w.past) (same_head n (node.Split x k) xs ys e).0 may) refl

mutual
  unfolding RefutesBy

  same_tree : (t u : Tree) {E : Type 0} (s : Search E) (test : LeafTest E) (w v : Pending E) (xs ys : List Node) → w ≡ v → RefutesBy s test w t
      → RefutesBy s test v u → preorder t ++ xs ≡ preorder u ++ ys → SameTree t u xs ys
  same_tree (Leaf ts) (Leaf us) s test w v xs ys o h g e = let q = leaf_parts ts us xs ys e in record { tree = ap Leaf q.0; rest = q.1 }
  same_tree (Ask n ts) (Ask m us) {E} s test w v xs ys o h g e =
      let both = same_head n m (forest_preorder ts ++ xs) (forest_preorder us ++ ys) e in
      let one = both.0 in
      let left : map (longer w) (answered s w.start w.past n) ≡ map (longer v) (answered s v.start v.past m) = cc in
      let q = same_forest ts us s test (map (longer w) (answered s w.start w.past n)) (map (longer v) (answered s v.start v.past m)) xs ys left h.1 g.1 both.1
      in
      let under = q.trees in
      record { tree = cc; rest = q.rest }
  same_tree (Ask n ts) (Leaf us) s test w v xs ys o h g e = absurd (asks_no_leaf s w n us (forest_preorder ts ++ xs) ys e h.0)
  same_tree (Ask n ts) (Split x k l r) s test w v xs ys o h g e = absurd
      (asks_no_split s w n x k (forest_preorder ts ++ xs) ((preorder l ++ preorder r) ++ ys) e h.0)
  same_tree (Leaf us) (Ask n ts) s test w v xs ys o h g e = absurd (asks_no_leaf s v n us (forest_preorder ts ++ ys) xs (sym e) g.0)
  same_tree (Split x k l r) (Ask n ts) s test w v xs ys o h g e = absurd
      (asks_no_split s v n x k (forest_preorder ts ++ ys) ((preorder l ++ preorder r) ++ xs) (sym e) g.0)
  same_tree (Split x k l r) (Split x' k' l' r') s test w v xs ys o h g e =
      let q = split_parts x x' k k' ((preorder l ++ preorder r) ++ xs) ((preorder l' ++ preorder r') ++ ys) e in
      let low : bounded w (bound_at x k Low) ≡ bounded v (bound_at x' k' Low) = cc in
      let high : bounded w (bound_at x k High) ≡ bounded v (bound_at x' k' High) = cc in
      let one = same_tree l l' s test (bounded w (bound_at x k Low)) (bounded v (bound_at x' k' Low)) (preorder r ++ xs) (preorder r' ++ ys) low h.1 g.1
      (regrouped (preorder l) (preorder r) xs (preorder l') (preorder r') ys q.2) in
      let two = same_tree r r' s test (bounded w (bound_at x k High)) (bounded v (bound_at x' k' High)) xs ys high h.2 g.2 one.rest in
      let left = one.tree in
      let right = two.tree in
      let number = q.0 in
      let at = q.1 in
      record { tree = cc; rest = two.rest }
  same_tree _ _ s test w v xs ys o h g e = absurd (cc)

  same_forest : (t u : Forest) {E : Type 0} (s : Search E) (test : LeafTest E) (ws vs : List (Pending E)) (xs ys : List Node) → ws ≡ vs → RefuteEach s test ws t
      → RefuteEach s test vs u → forest_preorder t ++ xs ≡ forest_preorder u ++ ys → SameForest t u xs ys
  same_forest Done Done s test ws vs xs ys o h g e = record { trees = refl; rest = e }
  same_forest Done (More u us) s test [] [] xs ys o h g e = absurd g
  same_forest Done (More u us) s test [] (v ∷ vs) xs ys o h g e = absurd (cc)
  same_forest Done (More u us) s test (w ∷ ws) vs xs ys o h g e = absurd h
  same_forest (More t ts) Done s test [] vs xs ys o h g e = absurd h
  same_forest (More t ts) Done s test (w ∷ ws) [] xs ys o h g e = absurd (cc)
  same_forest (More t ts) Done s test (w ∷ ws) (v ∷ vs) xs ys o h g e = absurd g
  same_forest (More t ts) (More u us) s test [] vs xs ys o h g e = absurd h
  same_forest (More t ts) (More u us) s test (w ∷ ws) [] xs ys o h g e = absurd g
  same_forest (More t ts) (More u us) s test (w ∷ ws) (v ∷ vs) xs ys o h g e =
      let first : w ≡ v = cc in
      let others : ws ≡ vs = cc in
      let one = same_tree t u s test w v (forest_preorder ts ++ xs) (forest_preorder us ++ ys) first h.0 g.0
      (regrouped (preorder t) (forest_preorder ts) xs (preorder u) (forest_preorder us) ys e) in
      let two = same_forest ts us s test ws vs xs ys others h.1 g.1 one.rest in
      let left = one.tree in
      let right = two.trees in
      record { trees = cc; rest = two.rest }

same_trees : {E : Type 0} (s : Search E) (test : LeafTest E) (ws : List (Pending E)) (ts us : List Tree) → RefuteAll s test ws ts → RefuteAll s test ws us
    → all_preorder ts ≡ all_preorder us → ts ≡ us
same_trees s test [] [] [] h g e = refl
same_trees s test [] [] (u ∷ us) h g e = absurd g
same_trees s test [] (t ∷ ts) us h g e = absurd h
same_trees s test (w ∷ ws) [] us h g e = absurd h
same_trees s test (w ∷ ws) (t ∷ ts) [] h g e = absurd g
same_trees s test (w ∷ ws) (t ∷ ts) (u ∷ us) h g e =
    let one = same_tree t u s test w w (all_preorder ts) (all_preorder us) refl h.0 g.0 e in
    let left = one.tree in
    let right = same_trees s test ws ts us h.1 g.1 one.rest in
    cc

-- each leaf that meets one test meets the other
abbrev pub Follows : {E : Type 0} → LeafTest E → LeafTest E → Type 0
Follows {E} strong weak = (w : Pending E) (ts : List (ℕ × ℤ)) → strong w ts → weak w ts

mutual
  unfolding RefutesBy

  weaker_tree : {E : Type 0} (strong weak : LeafTest E) → Follows strong weak → (tree : Tree) (s : Search E) (w : Pending E) → RefutesBy s strong w tree
      → RefutesBy s weak w tree
  weaker_tree strong weak f (Leaf ts) s w h = f w ts h
  weaker_tree strong weak f (Ask n trees) s w h = (h.0, weaker_forest strong weak f trees s (map (longer w) (answered s w.start w.past n)) h.1)
  weaker_tree strong weak f (Split unknown floor low high) s w h = (
    h.0,
    weaker_tree strong weak f low s (bounded w (bound_at unknown floor Low)) h.1,
    weaker_tree strong weak f high s
        (bounded w (bound_at unknown floor High)) h.2,
  )

  weaker_forest : {E : Type 0} (strong weak : LeafTest E) → Follows strong weak → (trees : Forest) (s : Search E) (ws : List (Pending E))
      → RefuteEach s strong ws trees → RefuteEach s weak ws trees
  weaker_forest strong weak f Done s [] h = tt
  weaker_forest strong weak f Done s (w ∷ ws) h = h
  weaker_forest strong weak f (More tree trees) s [] h = h
  weaker_forest strong weak f (More tree trees) s (w ∷ ws) h = (weaker_tree strong weak f tree s w h.0, weaker_forest strong weak f trees s ws h.1)

weaker_trees : {E : Type 0} (strong weak : LeafTest E) → Follows strong weak → (s : Search E) (ws : List (Pending E)) (trees : List Tree)
    → RefuteAll s strong ws trees → RefuteAll s weak ws trees
weaker_trees strong weak f s [] [] h = tt
weaker_trees strong weak f s [] (tree ∷ trees) h = h
weaker_trees strong weak f s (w ∷ ws) [] h = h
weaker_trees strong weak f s (w ∷ ws) (tree ∷ trees) h = (weaker_tree strong weak f tree s w h.0, weaker_trees strong weak f s ws trees h.1)

pub weaker_proof : {E : Type 0} (strong weak : LeafTest E) → Follows strong weak → (s : Search E) (trees : List Tree) → ProofBy s strong trees
    → ProofBy s weak trees
weaker_proof strong weak f s trees h = weaker_trees strong weak f s s.roots trees h

pub determined : {E : Type 0} → ProofsAreDetermined E
determined s ts us h g e = same_trees s (IsLeaf s) s.roots ts us h g e
