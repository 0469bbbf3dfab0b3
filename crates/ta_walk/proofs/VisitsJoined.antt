-- visits of lists of words that are put together or cut
use Rattle.ta_walk.proofs.Common.{cases_order, ◌≡◌, inl, inr, ℕ, zero, suc, ◌+◌, ◌<◌, ◌≤◌, List, [], ◌∷◌, ◌++◌, length, length-append, arith, refl, sym, ap}
use Rattle.ta_walk.proofs.Common.{◌∙◌, subst, append_assoc, Node, Pending, Search, parts, Visits, IsVisited, leaf_count, beginning}
use Rattle.ta_walk.proofs.SearchesMoved.{moved_visits}
use Rattle.ta_cert.specs.declared.line.Node.TheVariants as node

-- a visit goes the same way with further words behind those with which it begins
pub visits_before : {E : Type 0} (s : Search E) (ws : List (Pending E)) (ns : List Node) (rest more : List (Pending E)) → Visits s ws ns rest
    → Visits s (ws ++ more) ns (rest ++ more)
visits_before s ws [] rest more v = ap (λ (xs : List (Pending _)). xs ++ more) v
visits_before s [] (n ∷ ns) rest more v = absurd v
visits_before s (w ∷ ws) (n ∷ ns) rest more v = (
  v.0,
  subst (λ (xs : List (Pending _)). Visits s xs ns (rest ++ more)) (append_assoc (parts s w n) ws more)
      (visits_before s (parts s w n ++ ws) ns rest more v.1),
)

-- a visit goes on where another ends
pub visits_on : {E : Type 0} (s : Search E) (ws : List (Pending E)) (ns : List Node) (mid : List (Pending E)) (ms : List Node) (rest : List (Pending E))
    → Visits s ws ns mid → Visits s mid ms rest → Visits s ws (ns ++ ms) rest
visits_on s ws [] mid ms rest v u = subst (λ (xs : List (Pending _)). Visits s xs ms rest) v u
visits_on s [] (n ∷ ns) mid ms rest v u = absurd v
visits_on s (w ∷ ws) (n ∷ ns) mid ms rest v u = (v.0, visits_on s (parts s w n ++ ws) ns mid ms rest v.1 u)

-- so many nodes were visited from some words on, and then a word is left
record Stopped {E : Type 0} (s : Search E) (ws : List (Pending E)) (count : ℕ) : Type 0 where
  pub word : Pending E
  pub words : List (Pending E)
  pub nodes : List Node
  pub visits : Visits s ws nodes (word ∷ words)
  pub counted : length nodes ≡ count

stops_before : {E : Type 0} (s : Search E) (ws : List (Pending E)) (ns : List Node) (rest : List (Pending E)) (count : ℕ) → count < length ns
    → Visits s ws ns rest → Stopped s ws count
stops_before s ws [] rest count less v = absurd (omega arith)
stops_before s [] (n ∷ ns) rest count less v = absurd v
stops_before s (w ∷ ws) (n ∷ ns) rest zero less v = record { word = w; words = ws; nodes = []; visits = refl; counted = refl }
stops_before s (w ∷ ws) (n ∷ ns) rest (suc count) less v =
    let on = stops_before s (parts s w n ++ ws) ns rest count (omega arith) v.1 in
    record { word = on.word; words = on.words; nodes = n ∷ on.nodes; visits = (v.0, on.visits); counted = ap suc on.counted }

-- where some nodes lead to words, and a word is left behind so many nodes of theirs, it is left behind both
pub visited_behind : {E : Type 0} (s : Search E) (ws us : List (Pending E)) (ns : List Node) (before : ℕ) (w : Pending E) → Visits (beginning s ws) ws ns us
    → IsVisited (beginning s us) before w → IsVisited (beginning s ws) (length ns + before) w
visited_behind s ws us ns before w v u = record {
  nodes = ns ++ u.nodes;
  words = u.words;
  visits = visits_on (beginning s ws) ws ns us u.nodes (w ∷ u.words) v (moved_visits s us ws us u.nodes (w ∷ u.words) u.visits);
  counted = let c = u.counted in omega (arith, length-append ns u.nodes);
}

-- a word that is left behind fewer nodes
pub record LeftBefore {E : Type 0} (s : Search E) (count : ℕ) : Type 0 where
  pub word : Pending E
  pub visited : IsVisited s count word

stopped : {E : Type 0} (s : Search E) (count : ℕ) → Stopped s s.roots count → LeftBefore s count
stopped s count at = record { word = at.word; visited = record { nodes = at.nodes; words = at.words; visits = at.visits; counted = at.counted } }

pub left_before : {E : Type 0} (s : Search E) (count before : ℕ) (w : Pending E) → count ≤ before → IsVisited s before w → LeftBefore s count
left_before s count before w most v =
    let many = v.counted in
    elim (cases_order count before) [
      | inl same ↦ record { word = w; visited = record { nodes = v.nodes; words = v.words; visits = v.visits; counted = many ∙ sym same } }
      | inr other ↦ elim other [
        | inl less ↦ stopped s count (stops_before s s.roots v.nodes (w ∷ v.words) count (omega arith) v.visits)
        | inr more ↦ absurd (omega arith)
      ]
    ]

-- the same in a tree that has more nodes
pub left_in_tree : {E : Type 0} (s : Search E) (ns : List Node) (rest : List (Pending E)) (count : ℕ) → count < length ns → Visits s s.roots ns rest
    → LeftBefore s count
left_in_tree s ns rest count less v = stopped s count (stops_before s s.roots ns rest count less v)

-- the leaves of two lists
pub leaves_added : (ns ms : List Node) → leaf_count (ns ++ ms) ≡ leaf_count ns + leaf_count ms
leaves_added [] ms = omega arith
leaves_added (node.Leaf ts ∷ ns) ms = let rest = leaves_added ns ms in omega arith
leaves_added (n ∷ ns) ms = leaves_added ns ms
