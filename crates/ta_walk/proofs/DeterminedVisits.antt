-- visits from one list of words are one, as far as both go
use Rattle.ta_walk.proofs.Common.{cases_order, ◌≡◌, inl, inr, ℕ, ◌<◌, List, [], ◌∷◌, ◌++◌, length, arith, refl, sym, ◌∙◌, subst, Node, NodeAt, Visits, TreeIs}
use Rattle.ta_walk.proofs.Common.{IsVisited, Pending, Search, parts}
use Rattle.ta_walk.proofs.DeterminedNodes.{node_once}

-- two visits that are one
record SameVisit {E : Type 0} (ns ms : List Node) (left rest : List (Pending E)) : Type 0 where
  pub nodes : ns ≡ ms
  pub words : left ≡ rest

-- a visit goes on with a node at the first word that another leaves
record GoesOn {E : Type 0} (s : Search E) (left : List (Pending E)) : Type 0 where
  pub word : Pending E
  pub others : List (Pending E)
  pub first : left ≡ word ∷ others
  pub next : Node
  pub stands : NodeAt s word next

-- after one node at one word, both visits go on from the same words
visits_moved : {E : Type 0} (s : Search E) (w : Pending E) (ws : List (Pending E)) (n m : Node) (ms : List Node) (rest : List (Pending E)) → NodeAt s w n
    → NodeAt s w m → Visits s (parts s w m ++ ws) ms rest → Visits s (parts s w n ++ ws) ms rest
visits_moved s w ws n m ms rest h g v = subst (λ (k : Node). Visits s (parts s w k ++ ws) ms rest) (node_once s w m n g h) v

visits_once : {E : Type 0} (s : Search E) (ws : List (Pending E)) (ns ms : List Node) (left rest : List (Pending E)) → length ns ≡ length ms
    → Visits s ws ns left → Visits s ws ms rest → SameVisit ns ms left rest
visits_once s ws [] [] left rest e v u = record { nodes = refl; words = v ∙ sym u }
visits_once s ws [] (m ∷ ms) left rest e v u = absurd (omega arith)
visits_once s ws (n ∷ ns) [] left rest e v u = absurd (omega arith)
visits_once s [] (n ∷ ns) (m ∷ ms) left rest e v u = absurd v
visits_once s (w ∷ ws) (n ∷ ns) (m ∷ ms) left rest e v u =
    let first = node_once s w n m v.0 u.0 in
    let same = visits_once s (parts s w n ++ ws) ns ms left rest (omega arith) v.1 (visits_moved s w ws n m ms rest v.0 u.0 u.1) in
    let others = same.nodes in
    record { nodes = cc; words = same.words }

goes_on : {E : Type 0} (s : Search E) (ws : List (Pending E)) (ns ms : List Node) (left rest : List (Pending E)) → length ns < length ms → Visits s ws ns left
    → Visits s ws ms rest → GoesOn s left
goes_on s ws ns [] left rest h v u = absurd (omega arith)
goes_on s [] [] (m ∷ ms) left rest h v u = absurd u
goes_on s [] (n ∷ ns) (m ∷ ms) left rest h v u = absurd u
goes_on s (w ∷ ws) [] (m ∷ ms) left rest h v u = record { word = w; others = ws; first = v; next = m; stands = u.0 }
goes_on s (w ∷ ws) (n ∷ ns) (m ∷ ms) left rest h v u =
    goes_on s (parts s w n ++ ws) ns ms left rest (omega arith) v.1 (visits_moved s w ws n m ms rest v.0 u.0 u.1)

-- no visit goes on where no word is left
ends_there : {E : Type 0} (s : Search E) (ws : List (Pending E)) (ns ms : List Node) (rest : List (Pending E)) → length ns < length ms → Visits s ws ns []
    → Visits s ws ms rest → ⊥
ends_there s ws ns ms rest h v u = let on = goes_on s ws ns ms [] rest h v u in let first = on.first in absurd (cc)

-- it goes on with a node at the word that is left
node_there : {E : Type 0} (s : Search E) (ws : List (Pending E)) (w : Pending E) (ns ms : List Node) (words rest : List (Pending E)) → length ns < length ms
    → Visits s ws ns (w ∷ words) → Visits s ws ms rest → (n : Node) × NodeAt s w n
node_there s ws w ns ms words rest h v u =
    let on = goes_on s ws ns ms (w ∷ words) rest h v u in
    let first = on.first in
    let word : on.word ≡ w = cc in
    (on.next, subst (λ (x : Pending _). NodeAt s x on.next) word on.stands)

-- the tree of a pattern is one
pub tree_once : {E : Type 0} (s : Search E) (budget : ℕ) (ns ms : List Node) (c d : ℕ) → TreeIs s budget ns c → TreeIs s budget ms d → ns ≡ ms
tree_once s budget ns ms c d t u =
    elim (cases_order (length ns) (length ms)) [
      | inl same ↦ (visits_once s s.roots ns ms [] [] same t.visits u.visits).nodes
      | inr other ↦ elim other [
        | inl less ↦ absurd (ends_there s s.roots ns ms [] less t.visits u.visits)
        | inr more ↦ absurd (ends_there s s.roots ms ns [] more u.visits t.visits)
      ]
    ]

-- a word that is left within a whole tree has a node
pub word_of_tree : {E : Type 0} (s : Search E) (budget : ℕ) (ns : List Node) (c before : ℕ) (w : Pending E) → TreeIs s budget ns c → IsVisited s before w
    → (before < c) × ((n : Node) × NodeAt s w n)
word_of_tree s budget ns c before w t v =
    let counted = t.counted in
    let many = v.counted in
    elim (cases_order (length v.nodes) (length ns)) [
      | inl same ↦ (let words = (visits_once s s.roots v.nodes ns (w ∷ v.words) [] same v.visits t.visits).words in absurd (cc))
      | inr other ↦ elim other [
        | inl less ↦ (omega arith, node_there s s.roots w v.nodes ns v.words [] less v.visits t.visits)
        | inr more ↦ absurd (ends_there s s.roots ns v.nodes (w ∷ v.words) more t.visits v.visits)
      ]
    ]

-- the word that is left after so many nodes is one
pub word_once : {E : Type 0} (s : Search E) (before after : ℕ) (w x : Pending E) → before ≡ after → IsVisited s before w → IsVisited s after x → w ≡ x
word_once s before after w x e v u =
    let many = v.counted in
    let others = u.counted in
    let words = (visits_once s s.roots v.nodes u.nodes (w ∷ v.words) (x ∷ u.words) (many ∙ e ∙ sym others) v.visits u.visits).words in
    cc

-- where more are visited, a node stands at the word
pub node_at_word : {E : Type 0} (s : Search E) (before after : ℕ) (w x : Pending E) → before < after → IsVisited s before w → IsVisited s after x → (n : Node)
    × NodeAt s w n
node_at_word s before after w x h v u =
    node_there s s.roots w v.nodes u.nodes v.words (x ∷ u.words) (omega arith) v.visits u.visits
