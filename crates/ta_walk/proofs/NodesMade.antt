-- Why the trees of moments that a visit refutes are a proof: their nodes refute in order that with which the search begins, and each can
-- be written in a line. A guard is asked at most once, so a node has few unknowns and a leaf few multipliers; a budget below 2 ^ 32
-- bounds the bounds
use Rattle.ta_walk.proofs.Common.{and_parts, root, lit<, is_some, PatternOver, IsNode, Node, IsJudged, variables, SystemAt, RefutedInOrder, IsLeaf, MayAsk}
use Rattle.ta_walk.proofs.Common.{Pending, Search, bounded_rows, parts, rows_count, in_order, weaker_proof, System, few_multipliers, HasFewPairs, IsProof}
use Rattle.ta_walk.proofs.Common.{IsUnbounded, TreeIs, most_unknowns, NodeAt, Visits, Fact, Question, OfGuard, OfOrder, OfStuck, is_open, Maker}
use Rattle.ta_walk.proofs.Common.{answers_if_open, candidate_of, exists_as, moment_search, pending_of, exists_same, search_small, moment_maker}
use Rattle.ta_walk.proofs.ProofsMade.{refuted_in_order}
use Rattle.ta_walk.proofs.NodesWritten.{node_written}
use Rattle.ta_walk.proofs.NodesShort.{nodes_short}
use Rattle.ta_walk.proofs.WordsVisited.{Waits, next_wait, roots_wait}
use Rattle.ta_moments.proofs.Common.{◌≡◌, inl, inr, ℕ, ◌+◌, ◌<◌, ◌≤◌, ◌^◌, Bool, true, false, ◌&&◌, cond, List, [], ◌∷◌, ◌++◌, length, map, slice_get, Option}
use Rattle.ta_moments.proofs.Common.{Some, None, arith, refl, sym, ap, ◌∙◌, subst, false≢true, cases_lt, same_Some, slice_get_past, AllByRecursion}
use Rattle.ta_moments.proofs.Common.{Automaton, Pattern, may_be_stuck, after_earlier, pattern_within}
use Rattle.ta_moments.specs.Facts.{candidates}
use Rattle.ta_moments.specs.Moments.{known}
use Rattle.ta_moments.specs.Refutes.{Asking, Exists, of_events, of_rest}
use Rattle.ta_moments.proofs.Certifying.{nodes_show, rest_nodes_show}
use Rattle.ta_moment_tree.specs.Makers.{moments_of}
use Rattle.ta_rest.specs.Endings.{IsEnding}
use Rattle.ta_witness.proofs.OwnRuns.{ending_at}
use Rattle.ta_walk.specs.Laws.{RefutedMomentsHold, RefutedRestMomentsHold}
use Rattle.ta_walk.proofs.FewUnknowns.{comes_few}
use Rattle.ta_cert.specs.declared.line.Node.TheVariants as node

-- ---- what is asked
asked_so : (b : Bool) (es : List Fact) → is_some (cond b (Some es) None) ≡ true → b ≡ true
asked_so true es h = refl
asked_so false es h = absurd (false≢true h)

rule_there : (a : Automaton) (p : Pattern) (r : ℕ) → may_be_stuck p (slice_get a.rules r) ≡ true → r < 1024
rule_there a p r h = elim (cases_lt r (length a.rules)) [
  | inl less ↦ omega (arith, less, a.shape.limits.rules_limit)
  | inr past ↦ absurd (false≢true (sym (ap (may_be_stuck p) (slice_get_past a.rules r past)) ∙ h))
]

-- ---- where the search begins
starts_unbounded : (cs : List (Option ℕ)) → AllByRecursion IsUnbounded (map (λ c. pending_of (root c)) cs)
starts_unbounded [] = tt
starts_unbounded (c ∷ cs) = (refl, starts_unbounded cs)

-- it begins without bounds
pub roots_unbounded : (a : Automaton) (p : Pattern) (asking : Asking) (maker : Maker) → AllByRecursion IsUnbounded (moment_search a p asking maker).roots
roots_unbounded a p asking maker = starts_unbounded (candidates p)

module _ (a : Automaton) (p : Pattern) (asking : Asking) (maker : Maker) (over : PatternOver a p) where
  abbrev search : Search Fact
  search = moment_search a p asking maker

  -- a question that may be asked exists
  exists : (start : ℕ) (past : List Fact) (q : Question)
      → is_some (answers_if_open a p asking (known a p asking.silent (candidate_of start) past) past (Some q)) ≡ true
      → Exists a p asking (known a p asking.silent (candidate_of start) past) q
  exists start past q h =
      let k = known a p asking.silent (candidate_of start) past in
      (exists_same a p asking k q).0 (and_parts (is_open past q) (exists_as a p asking k q) (asked_so (is_open past q && exists_as a p asking k q) _ h)).1

  -- and can be written
  asks_node : (most : ℕ) (w : Pending Fact) → Waits search most w → (n : Node) → MayAsk search w.start w.past n → IsNode n
  asks_node most w waits (node.Guard g) h =
      let large : 1024 < 2 ^ 32 = lit< tt in
      let there : g < length a.rise + length a.fall = exists w.start w.past (OfGuard g) h in
      let rise = a.shape.limits.rise_limit in
      let fall = a.shape.limits.fall_limit in
      omega (arith, there, rise, fall, large)
  asks_node most w waits (node.Order x y) h =
      let large : 1024 < 2 ^ 32 = lit< tt in
      let there = exists w.start w.past (OfOrder x y) h in
      let one = there.0 in
      let two = there.1 in
      let few = (comes_few a p asking maker over w.start w.past waits.comes).moments in
      let limits = a.shape.limits in
      (omega (arith, one, two, few, limits.rise_limit, limits.fall_limit, large), omega (arith, two, few, limits.rise_limit, limits.fall_limit, large))
  asks_node most w waits (node.Stuck r) h =
      let large : 1024 < 2 ^ 32 = lit< tt in
      let there = exists w.start w.past (OfStuck r) h in
      omega (arith, rule_there a p r there.1, large)
  asks_node most w waits node.Extend h = tt
  asks_node most w waits (node.Split unknown floor) h = absurd (false≢true h)
  asks_node most w waits (node.Leaf ts) h = absurd (false≢true h)

  -- ---- nodes that are visited
  system_few : (most : ℕ) (w : Pending Fact) → Waits search most w → most ≤ 1000000000 → (s : System) → SystemAt search w s → variables s < 2 ^ 32
  system_few most w waits budget s at =
      let small = search_small a p over asking maker w waits.comes in
      let bounds = waits.few in
      let unknowns = at.unknowns in
      omega (arith, small, bounds, unknowns, rows_count (bounded_rows search w) s.rows at.rows)

  node_few : (most : ℕ) (w : Pending Fact) (n : Node) → Waits search most w → NodeAt search w n → HasFewPairs (most_unknowns a) n
  node_few most w (node.Leaf ts) waits stands =
      let s = stands.refuted.system in
      let unknowns = stands.refuted.is.unknowns in
      let few = (comes_few a p asking maker over w.start w.past waits.comes).unknowns in
      omega (arith, few_multipliers s ts stands.refuted.holds, unknowns, few)
  node_few most w node.Extend waits stands = tt
  node_few most w (node.Split unknown floor) waits stands = tt
  node_few most w (node.Guard g) waits stands = tt
  node_few most w (node.Order x y) waits stands = tt
  node_few most w (node.Stuck r) waits stands = tt

  nodes_written : (most : ℕ) (ws : List (Pending Fact)) (ns : List Node) (rest : List (Pending Fact)) → most + length ns ≤ 1000000000
      → AllByRecursion (Waits search most) ws → Visits search ws ns rest → AllByRecursion IsNode ns
  nodes_written most ws [] rest budget all v = tt
  nodes_written most [] (n ∷ ns) rest budget all v = absurd v
  nodes_written most (w ∷ ws) (n ∷ ns) rest budget all v = (
    node_written search w n (system_few most w all.0 (omega arith)) (asks_node most w all.0) v.0,
    nodes_written (most + 1) (parts search w n ++ ws) ns rest (omega arith) (next_wait search most w ws n all) v.1,
  )

  nodes_few : (most : ℕ) (ws : List (Pending Fact)) (ns : List Node) (rest : List (Pending Fact)) → AllByRecursion (Waits search most) ws
      → Visits search ws ns rest → AllByRecursion (HasFewPairs (most_unknowns a)) ns
  nodes_few most ws [] rest all v = tt
  nodes_few most [] (n ∷ ns) rest all v = absurd v
  nodes_few most (w ∷ ws) (n ∷ ns) rest all v =
      (node_few most w n all.0 v.0, nodes_few (most + 1) (parts search w n ++ ws) ns rest (next_wait search most w ws n all) v.1)

  -- the nodes of a whole tree are a proof that a judge accepts
  pub proof_made : (budget : ℕ) → budget ≤ 1000000000 → (nodes : List Node) (count : ℕ) → TreeIs search budget nodes count
      → IsProof (most_unknowns a) search nodes
  proof_made budget within nodes count tree =
      let starts = roots_wait search (roots_unbounded a p asking maker) in
      let counted = tree.counted in
      let budgeted = tree.within in
      let writable = nodes_written 0 search.roots nodes [] (omega arith) starts tree.visits in
      let few = nodes_few 0 search.roots nodes [] starts tree.visits in
      record {
        refutes = refuted_in_order search search.roots nodes tree.visits;
        writable = writable;
        few = few;
        short = nodes_short (most_unknowns a) nodes writable few;
      }

-- a judge's leaves are leaves
leaves_refute : (s : Search Fact) (nodes : List Node) → RefutedInOrder s (IsJudged s) s.roots nodes → RefutedInOrder s (IsLeaf s) s.roots nodes
leaves_refute s nodes h =
    let trees = (in_order IsJudged s nodes).0 h in
    (in_order IsLeaf s nodes).1 (trees.0, weaker_proof (IsJudged s) (IsLeaf s) (λ w ts judged. judged.leaf) s trees.0 trees.1, trees.2)

pub refuted_hold : RefutedMomentsHold
refuted_hold file number p at loops budget within nodes count tree =
    let maker = moment_maker file.automaton p of_events in
    let proof = proof_made file.automaton p of_events maker (pattern_within file number p at) budget within nodes count tree in
    (proof, nodes_show file number p at loops maker nodes (leaves_refute (moments_of file.automaton p of_events) nodes proof.refutes))

-- a pattern's own ending
own_ending : (ps qs : List Pattern) (number : ℕ) (own p : Pattern) → (q : Pattern) × (slice_get ps number ≡ Some q) × IsEnding q p
    → slice_get ps number ≡ Some own → IsEnding own p
own_ending ps qs number own p found named = subst (λ (q : Pattern). IsEnding q p) (same_Some found.0 own (sym found.1 ∙ named)) found.2

pub refuted_rest_hold : RefutedRestMomentsHold
refuted_rest_hold file ending added of loops number own p own_at at silent budget within nodes count tree =
    let asking = of_rest silent in
    let proof =
    proof_made ending.automaton p asking (moment_maker ending.automaton p asking) (pattern_within ending number p at) budget within nodes count tree in
    let refute = leaves_refute (moments_of ending.automaton p asking) nodes proof.refutes in
    let is = own_ending file.patterns ending.patterns number own p (ending_at file.patterns ending.patterns of.patterns number p at) own_at in
    let early = after_earlier _ _ own (pattern_within file number own own_at) in
    let here : RefutedInOrder (moments_of file.automaton p asking) (IsLeaf (moments_of file.automaton p asking)) (moments_of file.automaton p asking).roots
    nodes = subst (λ (a : Automaton). RefutedInOrder (moments_of a p asking) (IsLeaf (moments_of a p asking)) (moments_of a p asking).roots nodes)
    of.automaton refute in
    (proof, rest_nodes_show file.automaton own p is early loops silent (moment_maker file.automaton p asking) nodes here)
