-- two parts of a visit, one behind the other
use Rattle.ta_walk.proofs.Common.{◌≡◌, ℕ, ◌≤◌, List, [], ◌∷◌, ◌++◌, refl, sym, subst, append_assoc, Node, Pending, Search, left_at, Cursor, IsOutOfRangeAt}
use Rattle.ta_walk.proofs.Common.{IsSpent, IsTreeEnd, NodeOf, TreeKept, IsVisited, WholeNode, TreeEnd, IsLaterKeeper, IsNotRefuted, IsWholeEnd, LeadsToBoth}
use Rattle.ta_walk.proofs.Common.{PartEnds, PartVisited, beginning, behind}
use Rattle.ta_walk.proofs.SearchesMoved.{moved_out_of_range, moved_visits, moved_whole}
use Rattle.ta_walk.proofs.VisitsJoined.{visits_before}
use Rattle.ta_walk.proofs.EndsBehind.{LeadsTo, end_behind}
use Rattle.ta_walk.specs.declared.end.TreeEnd.TheVariants as tree

-- the nodes of a refuted part lead to the words behind it
leads_to : {E : Type 0} (Keeps : List Node → Type 0) (s : Search E) (ws vs : List (Pending E)) (nodes count leaves : ℕ)
    → (t : TreeKept (beginning s ws) nodes Keeps count leaves) → LeadsTo s (ws ++ vs) vs t.nodes count leaves
leads_to Keeps s ws vs nodes count leaves t = record {
  visits = visits_before (beginning s (ws ++ vs)) ws t.nodes [] vs (moved_visits s ws (ws ++ vs) ws t.nodes [] t.is.visits);
  counted = sym t.is.counted;
  leaves_are = sym t.counted;
}

-- a refuted part, and one behind it, whatever budget it had
pub merged_parts : {K E : Type 0} (Keeps : K → K → List Node → Type 0) (begins : K → K → Type 0) (s : Search E) (ws vs : List (Pending E))
    (nodes later count leaves : ℕ) (begun late first second kept : K) (end : TreeEnd E)
    → PartVisited Keeps (beginning s ws) nodes begun first (tree.Refuted count leaves) → PartVisited Keeps (beginning s vs) later late second end
    → IsLaterKeeper begins Keeps begun late
    → ((f b : K) (ns ms : List Node) → Keeps f first ns → begins f b → Keeps b second ms → Keeps f kept (ns ++ ms))
    → PartVisited Keeps (beginning s (ws ++ vs)) nodes begun kept (behind nodes count leaves end)
merged_parts Keeps begins s ws vs nodes later count leaves begun late first second kept end one other fresh append = λ f before has.
    let t = one f before has in
    let to = leads_to (λ ms. Keeps f first (before ++ ms)) s ws vs nodes count leaves t in
    end_behind s (ws ++ vs) vs t.nodes count leaves nodes later (λ ms. Keeps late second ([] ++ ms)) (λ ms. Keeps f kept (before ++ ms)) end to t.is.within
    (λ ms has_more. subst (Keeps f kept) (append_assoc before t.nodes ms) (append f late (before ++ t.nodes) ms t.kept (fresh.0 f before has) has_more))
    (other late [] fresh.1)

-- some nodes, and the words of two cursors behind them
pub shared_part : {K E : Type 0} (Keeps : K → K → List Node → Type 0) (s : Search E) (words : List (Pending E)) (first later : Cursor E)
    (nodes left count leaves : ℕ) (begun taken kept : K) (end : TreeEnd E) → count ≤ nodes
    → ((f : K) (before : List Node) → Keeps f begun before → LeadsToBoth s words (λ ms. Keeps f taken (before ++ ms)) first later count leaves)
    → PartVisited Keeps (beginning s (left_at s first ++ left_at s later)) left taken kept end
    → PartVisited Keeps (beginning s words) nodes begun kept (behind nodes count leaves end)
shared_part Keeps s words first later nodes left count leaves begun taken kept end within to both = λ f before has.
    let t = to f before has in
    let us = left_at s first ++ left_at s later in
    let leads : LeadsTo s words us t.nodes count leaves = record
    { visits = moved_visits s s.roots words words t.nodes us t.visits; counted = sym t.counted; leaves_are = sym t.leaves_are } in
    end_behind s words us t.nodes count leaves nodes left (λ ms. Keeps f kept ((before ++ t.nodes) ++ ms)) (λ ms. Keeps f kept (before ++ ms)) end leads within
    (λ ms has_more. subst (Keeps f kept) (append_assoc before t.nodes ms) has_more)
    (both f (before ++ t.nodes) t.kept)

-- where a part isn't refuted, what comes behind it doesn't matter
visited_before : {E : Type 0} (s : Search E) (ws vs : List (Pending E)) (count : ℕ) (w : Pending E) → IsVisited (beginning s ws) count w
    → IsVisited (beginning s (ws ++ vs)) count w
visited_before s ws vs count w v = record {
  nodes = v.nodes;
  words = v.words ++ vs;
  visits = visits_before (beginning s (ws ++ vs)) ws v.nodes (w ∷ v.words) vs (moved_visits s ws (ws ++ vs) ws v.nodes (w ∷ v.words) v.visits);
  counted = v.counted;
}

node_before : {E : Type 0} (s : Search E) (ws vs : List (Pending E)) (budget number : ℕ) (F G : Pending E → Type 0) → ((w : Pending E) → F w → G w)
    → NodeOf (beginning s ws) budget number F → NodeOf (beginning s (ws ++ vs)) budget number G
node_before s ws vs budget number F G on of = record {
  before = of.before;
  number_is = of.number_is;
  within = of.within;
  word = of.word;
  visited = visited_before s ws vs of.before of.word of.visited;
  holds = on of.word of.holds;
}

end_before : {E : Type 0} (s : Search E) (ws vs : List (Pending E)) (budget : ℕ) (Keeps : List Node → Type 0) (end : TreeEnd E) → IsNotRefuted end
    → PartEnds (beginning s ws) budget Keeps end → PartEnds (beginning s (ws ++ vs)) budget Keeps end
end_before s ws vs budget Keeps (tree.Refuted count leaves) decides is = absurd decides
end_before s ws vs budget Keeps (tree.Found count start facts values) decides is =
    node_before s ws vs budget count (WholeNode (beginning s ws) start facts values) (WholeNode (beginning s (ws ++ vs)) start facts values)
    (λ w at. record { start_is = at.start_is; facts_are = at.facts_are; whole = moved_whole s ws (ws ++ vs) w values at.whole }) is
end_before s ws vs budget Keeps (tree.Spent count) decides is = record
    { counted = refl; word = is.word; visited = visited_before s ws vs count is.word is.visited }
end_before s ws vs budget Keeps (tree.Overflow node kind) decides is =
    node_before s ws vs budget node (λ w. IsOutOfRangeAt (beginning s ws) w kind) (λ w. IsOutOfRangeAt (beginning s (ws ++ vs)) w kind)
    (λ w at. moved_out_of_range s ws (ws ++ vs) w kind at) is

pub decided_part : {K E : Type 0} (Keeps : K → K → List Node → Type 0) (s : Search E) (ws vs : List (Pending E)) (nodes : ℕ) (begun kept : K) (end : TreeEnd E)
    → IsNotRefuted end
    → PartVisited Keeps (beginning s ws) nodes begun kept end → PartVisited Keeps (beginning s (ws ++ vs)) nodes begun kept end
decided_part Keeps s ws vs nodes begun kept end decides one = λ f before has. end_before s ws vs nodes (λ ms. Keeps f kept (before ++ ms)) end decides
    (one f before has)

-- what is kept may be said otherwise, of an end that is whole
kept_otherwise : {E : Type 0} (s : Search E) (budget : ℕ) (Keeps Kept : List Node → Type 0) (end : TreeEnd E) → IsWholeEnd budget end
    → ((ms : List Node) → Keeps ms → Kept ms) → PartEnds s budget Keeps end → IsTreeEnd s budget Kept end
kept_otherwise s budget Keeps Kept (tree.Refuted count leaves) whole on is = record
    { nodes = is.nodes; is = is.is; counted = is.counted; kept = on is.nodes is.kept }
kept_otherwise s budget Keeps Kept (tree.Found count start facts values) whole on is = is
kept_otherwise s budget Keeps Kept (tree.Spent count) whole on is = subst (λ (k : ℕ). IsSpent s k count) whole is
kept_otherwise s budget Keeps Kept (tree.Overflow node kind) whole on is = is

-- a visit of all words, whose nodes went to a keeper of their own
pub whole_visited : {K E : Type 0} (Keeps : K → K → List Node → Type 0) (begins : K → K → Type 0) (s : Search E) (words : List (Pending E)) (nodes : ℕ)
    (begun late part kept : K) (end : TreeEnd E) → words ≡ s.roots → Keeps begun begun [] → IsLaterKeeper begins Keeps begun late
    → ((f b : K) (ns ms : List Node) → Keeps f begun ns → begins f b → Keeps b part ms → Keeps f kept (ns ++ ms)) → IsWholeEnd nodes end
    → PartVisited Keeps (beginning s words) nodes late part end → IsTreeEnd s nodes (Keeps begun kept) end
whole_visited Keeps begins s words nodes begun late part kept end all keeps fresh append whole visited =
    kept_otherwise s nodes (λ ms. Keeps late part ([] ++ ms)) (Keeps begun kept) end whole
    (λ ms has. append begun late [] ms keeps (fresh.0 begun [] keeps) has)
    (subst (λ (us : List (Pending _)). PartEnds (beginning s us) nodes (λ ms. Keeps late part ([] ++ ms)) end) all (visited late [] fresh.1))
