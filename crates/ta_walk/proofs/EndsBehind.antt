-- the end of a visit behind nodes that lead to the words with which another begins
use Rattle.ta_walk.proofs.Common.{nat_tests, ◌≡◌, ℕ, ◌+◌, ◌-◌, ◌<◌, ◌≤◌, cond_both, nat_lt, List, [], ◌++◌, length, length-append, arith, refl, subst, Node}
use Rattle.ta_walk.proofs.Common.{Pending, Search, IsOutOfRangeAt, Visits, IsSpent, NodeOf, TreeKept, IsVisited, WholeNode, leaf_count, TreeEnd, PartEnds}
use Rattle.ta_walk.proofs.Common.{beginning, behind}
use Rattle.ta_walk.proofs.SearchesMoved.{moved_out_of_range, moved_visits, moved_whole}
use Rattle.ta_walk.proofs.VisitsJoined.{LeftBefore, leaves_added, left_before, left_in_tree, visited_behind, visits_on}
use Rattle.ta_walk.specs.declared.end.TreeEnd.TheVariants as tree

-- some nodes lead to words
pub record LeadsTo {E : Type 0} (s : Search E) (ws us : List (Pending E)) (ns : List Node) (count leaves : ℕ) : Type 0 where
  pub visits : Visits (beginning s ws) ws ns us
  pub counted : length ns ≡ count
  pub leaves_are : leaf_count ns ≡ leaves

-- the budget is spent behind them
spent_behind : {E : Type 0} (s : Search E) (ws us : List (Pending E)) (ns : List Node) (count leaves budget before : ℕ) → LeadsTo s ws us ns count leaves
    → budget ≡ count + before → LeftBefore (beginning s us) before → IsSpent (beginning s ws) budget budget
spent_behind s ws us ns count leaves budget before to is left =
    let counted = to.counted in
    let sum : length ns + before ≡ budget = omega arith in
    record {
      counted = refl;
      word = left.word;
      visited = subst (λ (k : ℕ). IsVisited (beginning s ws) k left.word) sum (visited_behind s ws us ns before left.word to.visits left.visited);
    }

-- a node behind them
node_behind : {E : Type 0} (s : Search E) (ws us : List (Pending E)) (ns : List Node) (count leaves budget later number : ℕ) (F G : Pending E → Type 0)
    → LeadsTo s ws us ns count leaves → count + number ≤ budget → ((w : Pending E) → F w → G w)
    → NodeOf (beginning s us) later number F → NodeOf (beginning s ws) budget (count + number) G
node_behind s ws us ns count leaves budget later number F G to within on of =
    record {
      before = length ns + of.before;
      number_is = omega arith;
      within = within;
      word = of.word;
      visited = visited_behind s ws us ns of.before of.word to.visits of.visited;
      holds = on of.word of.holds;
    }

-- or the budget is spent before it
spent_at : {E : Type 0} (s : Search E) (ws us : List (Pending E)) (ns : List Node) (count leaves budget later number : ℕ) (F : Pending E → Type 0)
    → LeadsTo s ws us ns count leaves → count ≤ budget → budget - count < number
    → NodeOf (beginning s us) later number F → IsSpent (beginning s ws) budget budget
spent_at s ws us ns count leaves budget later number F to within many of =
    spent_behind s ws us ns count leaves budget (budget - count) to (omega arith)
    (left_before (beginning s us) (budget - count) of.before of.word (omega arith) of.visited)

tree_behind : {E : Type 0} (s : Search E) (ws us : List (Pending E)) (ns : List Node) (count leaves budget later more others : ℕ)
    (Keeps Kept : List Node → Type 0) → LeadsTo s ws us ns count leaves → count + more ≤ budget → ((ms : List Node) → Keeps ms → Kept (ns ++ ms))
    → TreeKept (beginning s us) later Keeps more others → TreeKept (beginning s ws) budget Kept (count + more) (leaves + others)
tree_behind s ws us ns count leaves budget later more others Keeps Kept to within on kept =
    let counted = to.counted in
    record {
      nodes = ns ++ kept.nodes;
      is = record {
        visits = visits_on (beginning s ws) ws ns us kept.nodes [] to.visits (moved_visits s us ws us kept.nodes [] kept.is.visits);
        counted = omega (arith, length-append ns kept.nodes);
        within = within;
      };
      counted = omega (arith, leaves_added ns kept.nodes);
      kept = on kept.nodes kept.kept;
    }

spent_in : {E : Type 0} (s : Search E) (ws us : List (Pending E)) (ns : List Node) (count leaves budget later more others : ℕ) (Keeps : List Node → Type 0)
    → LeadsTo s ws us ns count leaves → count ≤ budget → budget - count < more
    → TreeKept (beginning s us) later Keeps more others → IsSpent (beginning s ws) budget budget
spent_in s ws us ns count leaves budget later more others Keeps to within many kept =
    spent_behind s ws us ns count leaves budget (budget - count) to (omega arith)
    (left_in_tree (beginning s us) kept.nodes [] (budget - count) (omega arith) kept.is.visits)

pub end_behind : {E : Type 0} (s : Search E) (ws us : List (Pending E)) (ns : List Node) (count leaves budget later : ℕ) (Keeps Kept : List Node → Type 0)
    (end : TreeEnd E) → LeadsTo s ws us ns count leaves → count ≤ budget
    → ((ms : List Node) → Keeps ms → Kept (ns ++ ms)) → PartEnds (beginning s us) later Keeps end
    → PartEnds (beginning s ws) budget Kept (behind budget count leaves end)
end_behind s ws us ns count leaves budget later Keeps Kept (tree.Refuted more others) to within on is =
    cond_both (nat_lt (budget - count) more) (tree.Spent budget) (tree.Refuted (count + more) (leaves + others)) (PartEnds (beginning s ws) budget Kept)
    (λ yes'. spent_in s ws us ns count leaves budget later more others Keeps to within (grind (arith, nat_tests)) is)
    (λ no'. tree_behind s ws us ns count leaves budget later more others Keeps Kept to
    (let fits : more ≤ budget - count = grind (arith, nat_tests) in omega arith) on is)
end_behind s ws us ns count leaves budget later Keeps Kept (tree.Found more start facts values) to within on is =
    cond_both (nat_lt (budget - count) more) (tree.Spent budget) (tree.Found (count + more) start facts values) (PartEnds (beginning s ws) budget Kept)
    (λ yes'. spent_at s ws us ns count leaves budget later more (WholeNode (beginning s us) start facts values) to within (grind (arith, nat_tests)) is)
    (λ no'. node_behind s ws us ns count leaves budget later more (WholeNode (beginning s us) start facts values)
    (WholeNode (beginning s ws) start facts values) to (let fits : more ≤ budget - count = grind (arith, nat_tests) in omega arith)
    (λ w at. record { start_is = at.start_is; facts_are = at.facts_are; whole = moved_whole s us ws w values at.whole }) is)
end_behind s ws us ns count leaves budget later Keeps Kept (tree.Spent more) to within on is =
    cond_both (nat_lt (budget - count) more) (tree.Spent budget) (tree.Spent (count + more)) (PartEnds (beginning s ws) budget Kept)
    (λ yes'. let many : budget - count < more = grind (arith, nat_tests) in spent_behind s ws us ns count leaves budget (budget - count) to (omega arith)
    (left_before (beginning s us) (budget - count) more is.word (omega arith) is.visited))
    (λ no'. spent_behind s ws us ns count leaves (count + more) more to refl (record { word = is.word; visited = is.visited }))
end_behind s ws us ns count leaves budget later Keeps Kept (tree.Overflow more kind) to within on is =
    cond_both (nat_lt (budget - count) more) (tree.Spent budget) (tree.Overflow (count + more) kind) (PartEnds (beginning s ws) budget Kept)
    (λ yes'. spent_at s ws us ns count leaves budget later more (λ w. IsOutOfRangeAt (beginning s us) w kind) to within (grind (arith, nat_tests)) is)
    (λ no'. node_behind s ws us ns count leaves budget later more (λ w. IsOutOfRangeAt (beginning s us) w kind) (λ w. IsOutOfRangeAt (beginning s ws) w kind) to
    (let fits : more ≤ budget - count = grind (arith, nat_tests) in omega arith)
    (λ w at. moved_out_of_range s us ws w kind at) is)
