-- each node adds at most one bound to the words that it leaves
use Rattle.ta_walk.proofs.Common.{ℕ, ◌+◌, ◌≤◌, List, [], ◌∷◌, ◌++◌, map, suc, length, length-append, arith, sym, subst, AllByRecursion, each_append, Node}
use Rattle.ta_walk.proofs.Common.{Bound, Low, High, Pending, Search, bound_at, bounded, longer, parts, Visits, HasFewBounds, answered}
use Rattle.ta_cert.specs.declared.line.Node.TheVariants as node

few_more : {E : Type 0} (few more : ℕ) (ws : List (Pending E)) → few ≤ more → AllByRecursion (HasFewBounds few) ws → AllByRecursion (HasFewBounds more) ws
few_more few more [] h all = tt
few_more few more (w ∷ ws) h all = (let k = all.0 in omega arith, few_more few more ws h all.1)

longer_few : {E : Type 0} (most : ℕ) (w : Pending E) (es : List E) → HasFewBounds most w → AllByRecursion (HasFewBounds most) (map (longer w) es)
longer_few most w [] few = tt
longer_few most w (e ∷ es) few = (few, longer_few most w es few)

bounded_few : {E : Type 0} (most : ℕ) (w : Pending E) (b : Bound) → HasFewBounds most w → HasFewBounds (most + 1) (bounded w b)
bounded_few most w b few = omega (arith, length-append w.bounds (b ∷ []))

parts_few : {E : Type 0} (s : Search E) (most : ℕ) (w : Pending E) (n : Node) → HasFewBounds most w → AllByRecursion (HasFewBounds (most + 1)) (parts s w n)
parts_few s most w (node.Leaf ts) few = tt
parts_few s most w (node.Split unknown floor) few =
    (bounded_few most w (bound_at unknown floor Low) few, (bounded_few most w (bound_at unknown floor High) few, tt))
parts_few s most w n few = longer_few (most + 1) w (answered s w.start w.past n) (omega arith)

pub few_left : {E : Type 0} (s : Search E) (most : ℕ) (ws : List (Pending E)) (ns : List Node) (rest : List (Pending E)) → AllByRecursion (HasFewBounds most) ws
    → Visits s ws ns rest → AllByRecursion (HasFewBounds (most + length ns)) rest
few_left s most ws [] rest all v = few_more most (most + 0) rest (omega arith) (subst (AllByRecursion (HasFewBounds most)) (sym v) all)
few_left s most [] (n ∷ ns) rest all v = absurd v
few_left s most (w ∷ ws) (n ∷ ns) rest all v =
    few_more ((most + 1) + length ns) (most + suc (length ns)) rest (omega arith)
    (few_left s (most + 1) (parts s w n ++ ws) ns rest
    (each_append (HasFewBounds (most + 1)) (parts s w n) ws (parts_few s most w n all.0) (few_more most (most + 1) ws (omega arith) all.1)) v.1)
