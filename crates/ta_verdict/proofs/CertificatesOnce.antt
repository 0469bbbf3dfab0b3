-- a file has one certificate for a budget
use Rattle.ta_verdict.proofs.Common.{◌≡◌, ◌∙◌, Bool, true, false, List, [], ◌∷◌, ℕ, map, refl, sym, ap, subst, File, Pattern, cert_text, question_text, pair_of}
use Rattle.ta_verdict.proofs.Common.{Node, Order, Proof, Search, of_events, pattern_search, TreeIs, orders_once, AreTrees, AreTreesOf}
use Rattle.ta_verdict.proofs.Common.{CertificatesAreDetermined, SafeOne, safe_picked, text_by, tree_by, tree_under, endings_once, Ending, Left, Solved, Stopped}
use Rattle.ta_verdict.proofs.Common.{Whole, moments_of}
use Rattle.ta_verdict.proofs.VerdictsOnce.{verdicts_once}

-- a search has one tree
nodes_of : {E : Type 0} → Ending E → List Node
nodes_of (Whole nodes count) = nodes
nodes_of (Solved count w values) = []
nodes_of (Stopped count) = []
nodes_of (Left node kind) = []

pub tree_once :
    {E : Type 0} (s : Search E) (budget : ℕ) (nodes others : List Node) (count : ℕ) → TreeIs s budget nodes count → TreeIs s budget others count
    → nodes ≡ others
unfolding nodes_of
tree_once s budget nodes others count is are = ap nodes_of (endings_once s budget (Whole nodes count) (Whole others count) is are)

-- where each pattern has one tree, those that are safe have one list of trees
pub trees_once : (Tree : Pattern → List Node → ℕ → Type 0)
    → ((p : Pattern) (nodes others : List Node) (count : ℕ) → Tree p nodes count → Tree p others count → nodes ≡ others)
    → (ones : List SafeOne) (ps qs : List Proof) → AreTreesOf Tree ones ps → AreTreesOf Tree ones qs → ps ≡ qs
trees_once Tree once [] [] [] h k = refl
trees_once Tree once [] [] (q ∷ qs) h k = absurd k
trees_once Tree once [] (p ∷ ps) qs h k = absurd h
trees_once Tree once (one ∷ ones) [] qs h k = absurd h
trees_once Tree once (one ∷ ones) (p ∷ ps) [] h k = absurd k
trees_once Tree once (one ∷ ones) (p ∷ ps) (q ∷ qs) h k =
    let numbers : p.pattern ≡ q.pattern = h.0.numbered ∙ sym k.0.numbered in
    let nodes = once one.pattern p.nodes q.nodes one.nodes h.0.is k.0.is in
    let first : p ≡ q = λ i. record { pattern = numbers i; nodes = nodes i } in
    ap (λ (r : Proof). r ∷ ps) first ∙ ap (λ (rs : List Proof). q ∷ rs) (trees_once Tree once ones ps qs h.1 k.1)

one_tree :
    (lazy : Bool) (file : File) (budget : ℕ) (p : Pattern) (nodes others : List Node) (count : ℕ) → tree_by lazy file budget p nodes count
    → tree_by lazy file budget p others count → nodes ≡ others
one_tree false file budget p nodes others count h k =
    let orders = orders_once file.automaton h.orders k.orders h.found k.found in
    let first = subst (λ (os : List Order). TreeIs (pattern_search file.automaton p (map pair_of os)) budget nodes count) orders h.holds in
    tree_once (pattern_search file.automaton p (map pair_of k.orders)) budget nodes others count first k.holds
one_tree true file budget p nodes others count h k = tree_once (moments_of file.automaton p of_events) budget nodes others count h k

one_text :
    (lazy : Bool) (file : File) (ps qs : List Proof) (text other : List ℕ) → ps ≡ qs → text_by lazy file ps text → text_by lazy file qs other → text ≡ other
one_text false file ps qs text other trees c d =
    let orders = orders_once file.automaton c.orders d.orders c.found d.found in
    c.written ∙ ap (λ (os : List Order). cert_text os ps) orders ∙ ap (cert_text d.orders) trees ∙ sym d.written
one_text true file ps qs text other trees c d = c ∙ ap question_text trees ∙ sym d

pub certificates_once : CertificatesAreDetermined
certificates_once file pick budget vs ws text other h k c d =
    let ones = ap (safe_picked file pick) (verdicts_once file pick budget vs ws h k) in
    let trees = trees_once (tree_under file budget) (one_tree budget.lazy file budget.nodes) (safe_picked file pick ws) c.trees d.trees
    (subst (λ (xs : List SafeOne). AreTrees file budget xs c.trees) ones c.are) d.are in
    one_text budget.lazy file c.trees d.trees text other trees c.text_is d.text_is
