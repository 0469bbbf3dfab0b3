-- nodes that refute the roots of a search of moments are the lines of a moment proof
use Rattle.ta_moments.proofs.Common.{◌≡◌, ℕ, List, [], ◌∷◌, map, Option, sym, ap, ◌∙◌, refl, subst, false≢true, In, Automaton, Pattern, OfGuard, OfOrder}
use Rattle.ta_moments.proofs.Common.{OfStuck, Fact, candidates, Asking, of_events, of_rest, MomentTree, ProofAsking, root, each_from_in, Pending, IsLeaf, Line}
use Rattle.ta_moments.proofs.Common.{OfLeaf, OfSplit, OfAsk, all_lines, AreListed, Maker, moment_search, node_in, pending_of}
use Rattle.ta_base.proofs.Each.{each_map}
use Rattle.ta_cert.specs.declared.line.Node.{Node as TreeNode}
use Rattle.ta_encode.specs.InPreorder.{RefutedInOrder as NodesRefute}
use Rattle.ta_moments.specs.Certified.{MomentNodesAreProofs, MomentNodesShowSafety, MomentRestNodesShow, MomentRestNodesShowOfFairRuns}
use Rattle.ta_moments.specs.Certified.{MomentRestNodesShowSafety, RefuteRoots}
use Rattle.ta_moments.proofs.Ending.{fair_shows, rest_shows}
use Rattle.ta_moments.proofs.Preorders.{in_order}
use Rattle.ta_moments.proofs.Refuting.{rest_safety, safety}
use Rattle.ta_moments.proofs.Searching.{are_a_search}
use Rattle.ta_cert.specs.declared.line.Node.TheVariants as node

-- lines whose nodes these are
record LinesOf (nodes : List TreeNode) : Type 0 where
  lines : List Line
  same : map node_in lines ≡ nodes

one_more : (l : Line) (nodes : List TreeNode) → LinesOf nodes → LinesOf (node_in l ∷ nodes)
one_more l nodes of = record { lines = l ∷ of.lines; same = ap (λ (ns : List TreeNode). node_in l ∷ ns) of.same }

module _ (a : Automaton) (p : Pattern) (asking : Asking) (maker : Maker) where
  lines_of : (nodes : List TreeNode) (ws : List (Pending Fact))
      → NodesRefute (moment_search a p asking maker) (IsLeaf (moment_search a p asking maker)) ws nodes → LinesOf nodes
  lines_of [] ws h = record { lines = []; same = refl }
  lines_of (n ∷ nodes) [] h = absurd h
  lines_of (node.Leaf ts ∷ nodes) (w ∷ ws) h = one_more (OfLeaf ts) nodes (lines_of nodes _ h.1)
  lines_of (node.Split unknown floor ∷ nodes) (w ∷ ws) h = one_more (OfSplit unknown floor) nodes (lines_of nodes _ h.1)
  lines_of (node.Guard g ∷ nodes) (w ∷ ws) h = one_more (OfAsk (OfGuard g)) nodes (lines_of nodes _ h.1)
  lines_of (node.Order x y ∷ nodes) (w ∷ ws) h = one_more (OfAsk (OfOrder x y)) nodes (lines_of nodes _ h.1)
  lines_of (node.Stuck r ∷ nodes) (w ∷ ws) h = one_more (OfAsk (OfStuck r)) nodes (lines_of nodes _ h.1)
  lines_of (node.Extend ∷ nodes) (w ∷ ws) h = absurd (false≢true h.0)

  roots_listed : AreListed p (map root (candidates p))
  roots_listed = each_map root (λ c. In c (candidates p)) (λ n. In n.candidate (candidates p)) (candidates p) (λ c h. h)
      (each_from_in (λ c. In c (candidates p)) (candidates p) (λ c h. h))

  roots_same : (cs : List (Option ℕ)) → map (λ c. pending_of (root c)) cs ≡ map pending_of (map root cs)
  roots_same [] = refl
  roots_same (c ∷ cs) = ap (λ (ws : List (Pending Fact)). pending_of (root c) ∷ ws) (roots_same cs)

  -- nodes at the roots, as they are listed
  at_roots : (nodes : List TreeNode) → RefuteRoots (moment_search a p asking maker) nodes
      → NodesRefute (moment_search a p asking maker) (IsLeaf (moment_search a p asking maker)) (map pending_of (map root (candidates p))) nodes
  at_roots nodes h = subst (λ (ws : List (Pending Fact)). NodesRefute (moment_search a p asking maker) (IsLeaf (moment_search a p asking maker)) ws nodes)
      (roots_same (candidates p)) h

  from_roots : (nodes : List TreeNode) → NodesRefute (moment_search a p asking maker) (IsLeaf (moment_search a p asking maker))
      (map pending_of (map root (candidates p))) nodes → RefuteRoots (moment_search a p asking maker) nodes
  from_roots nodes h = subst (λ (ws : List (Pending Fact)). NodesRefute (moment_search a p asking maker) (IsLeaf (moment_search a p asking maker)) ws nodes)
      (sym (roots_same (candidates p))) h

  -- the proof whose nodes they are
  proof_of : (nodes : List TreeNode) → RefuteRoots (moment_search a p asking maker) nodes → (trees : List MomentTree) × ProofAsking a p asking trees
      × (map node_in (all_lines trees) ≡ nodes)
  proof_of nodes h =
      let of = lines_of nodes (moment_search a p asking maker).roots h in
      let lines_refute = subst (λ (ns : List TreeNode). NodesRefute (moment_search a p asking maker) (IsLeaf (moment_search a p asking maker))
      (map pending_of (map root (candidates p))) ns) (sym of.same) (at_roots nodes h) in
      let found = (in_order a p asking of.lines).0 ((are_a_search a p asking maker (map root (candidates p)) roots_listed of.lines).1 lines_refute) in
      (found.0, found.1, ap (map node_in) found.2 ∙ of.same)

  nodes_of : (nodes : List TreeNode) → (trees : List MomentTree) × ProofAsking a p asking trees × (map node_in (all_lines trees) ≡ nodes)
      → RefuteRoots (moment_search a p asking maker) nodes
  nodes_of nodes found =
      let refuted = (are_a_search a p asking maker (map root (candidates p)) roots_listed (all_lines found.0)).0
      ((in_order a p asking (all_lines found.0)).1 (found.0, found.1, refl)) in
      subst (λ (ns : List TreeNode). RefuteRoots (moment_search a p asking maker) ns) found.2 (from_roots (map node_in (all_lines found.0)) refuted)

pub nodes_are_proofs : MomentNodesAreProofs
nodes_are_proofs a p asking maker nodes = (proof_of a p asking maker nodes, nodes_of a p asking maker nodes)

pub nodes_show : MomentNodesShowSafety
nodes_show file n p at loops maker nodes h =
    let found = proof_of file.automaton p of_events maker nodes h in
    safety file n p at loops found.0 found.1

pub rest_nodes_show_so : MomentRestNodesShowSafety
rest_nodes_show_so a p early some loops silent maker nodes h =
    let found = proof_of a p (of_rest silent) maker nodes h in
    rest_safety a p early some loops silent found.0 found.1

pub rest_nodes_show : MomentRestNodesShow
rest_nodes_show a p ending is early loops silent maker nodes h =
    let found = proof_of a ending (of_rest silent) maker nodes h in
    rest_shows a p ending is early loops silent found.0 found.1

pub fair_nodes_show : MomentRestNodesShowOfFairRuns
fair_nodes_show file scope alone n p ending at is silent maker nodes h =
    let found = proof_of file.automaton ending (of_rest silent) maker nodes h in
    fair_shows file scope alone n p ending at is silent found.0 found.1
