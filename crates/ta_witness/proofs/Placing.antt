-- where the code puts stops
use Rattle.ta_witness.proofs.Common.{◌-◌, drop, get_or, drop-cons, drop-map, drop_all, map-append, take-map, take_more, Places, Shape, is_below, moment_shapes}
use Rattle.ta_witness.proofs.Common.{shape, MomentStays}
use Rattle.ta_moments.proofs.Common.{true, false, cond, ◌≡◌, ℕ, suc, ◌+◌, ◌<◌, ◌≤◌, ℤ, List, [], ◌∷◌, ◌++◌, length, map, take, arith, sym, ap, ◌∙◌, refl}
use Rattle.ta_moments.proofs.Common.{append_assoc, subst, AllByRecursion, Automaton, Pattern}
use Rattle.ta_moment_tree.specs.declared.moment.Moment.{Moment}
unfoldable use Rattle.ta_witness.specs.Inside.Stops.{shapes_from, with_shape, with_shapes}
use Rattle.ta_witness.specs.declared.stop.Stop.{Stop}

pub goes_behind : (s t : Shape) (ts : List Shape) → is_below t.0 s.0 ≡ true → with_shape s (t ∷ ts) ≡ t ∷ with_shape s ts
unfolding with_shape
goes_behind s t ts e = ap (λ b. cond b (t ∷ with_shape s ts) (s ∷ t ∷ ts)) e

pub goes_before : (s t : Shape) (ts : List Shape) → is_below t.0 s.0 ≡ false → with_shape s (t ∷ ts) ≡ s ∷ t ∷ ts
unfolding with_shape
goes_before s t ts e = ap (λ b. cond b (t ∷ with_shape s ts) (s ∷ t ∷ ts)) e

pub goes_last : (s : Shape) → with_shape s [] ≡ s ∷ []
unfolding with_shape
goes_last s = refl

-- the stops from one on
from_on : (ss : List Stop) (i : ℕ) (d : Stop) → i < length ss → drop i (map shape ss) ≡ shape (get_or ss i d) ∷ drop (i + 1) (map shape ss)
from_on ss i d b =
    drop-map shape i ss ∙ ap (map shape) (drop-cons ss i d b) ∙ ap (λ (xs : List Shape). shape (get_or ss i d) ∷ xs) (sym (drop-map shape (suc i) ss))
    ∙ ap (λ (j : ℕ). shape (get_or ss i d) ∷ drop j (map shape ss)) (let e : suc i ≡ i + 1 = omega arith in e)

abbrev pub Behind : ℕ → List ℤ → List Stop → Type 0
Behind i counts ss = (s : Shape) → s.0 ≡ counts → with_shape s (map shape ss) ≡ take i (map shape ss) ++ with_shape s (drop i (map shape ss))

pub placed_here : (ss : List Stop) (counts : List ℤ) (i : ℕ) (d : Stop) → i < length ss → Behind i counts ss
    → is_below (get_or ss i d).counts.items counts ≡ false → Places i counts ss
placed_here ss counts i d b h f = record {
  within = omega arith;
  there = λ s e.
      let next = from_on ss i d b in
      let test : is_below (get_or ss i d).counts.items s.0 ≡ false = ap (is_below (get_or ss i d).counts.items) e ∙ f in
      h s e ∙ ap (λ (xs : List Shape). take i (map shape ss) ++ xs)
      (ap (with_shape s) next ∙ goes_before s (shape (get_or ss i d)) (drop (i + 1) (map shape ss)) test ∙ ap (λ (xs : List Shape). s ∷ xs) (sym next));
}

pub placed_next : (ss : List Stop) (counts : List ℤ) (i : ℕ) (d : Stop) → i < length ss → Behind i counts ss
    → is_below (get_or ss i d).counts.items counts ≡ true → Behind (i + 1) counts ss
placed_next ss counts i d b h t s e =
    let x = shape (get_or ss i d) in
    let rest = with_shape s (drop (i + 1) (map shape ss)) in
    let test : is_below (get_or ss i d).counts.items s.0 ≡ true = ap (is_below (get_or ss i d).counts.items) e ∙ t in
    let more : take (i + 1) (map shape ss) ≡ take i (map shape ss) ++ x ∷ [] = take-map shape (i + 1) ss ∙ ap (map shape) (take_more ss i d b)
    ∙ map-append shape (take i ss) (get_or ss i d ∷ []) ∙ ap (λ (xs : List Shape). xs ++ x ∷ []) (sym (take-map shape i ss)) in
    h s e ∙ ap (λ (xs : List Shape). take i (map shape ss) ++ xs) (ap (with_shape s) (from_on ss i d b) ∙ goes_behind s x (drop (i + 1) (map shape ss)) test)
    ∙ sym (append_assoc (take i (map shape ss)) (x ∷ []) rest) ∙ ap (λ (xs : List Shape). xs ++ rest) (sym more)

pub placed_last : (ss : List Stop) (counts : List ℤ) → Behind (length ss) counts ss → Places (length ss) counts ss
placed_last ss counts h = record {
  within = omega arith;
  there = λ s e.
      let none : drop (length ss) (map shape ss) ≡ [] = drop-map shape (length ss) ss ∙ ap (map shape) (drop_all (length ss) ss (omega arith)) in
      h s e ∙ ap (λ (xs : List Shape). take (length ss) (map shape ss) ++ xs)
      (ap (with_shape s) none ∙ goes_last s ∙ ap (λ (xs : List Shape). s ∷ xs) (sym none));
}

pub inserted : (ss news : List Stop) (s : Stop) (i : ℕ) → news ≡ take i ss ++ s ∷ drop i ss → Places i s.counts.items ss
    → map shape news ≡ with_shape (shape s) (map shape ss)
inserted ss news s i e h =
    ap (map shape) e ∙ map-append shape (take i ss) (s ∷ drop i ss)
    ∙ ap (λ (xs : List Shape). xs ++ shape s ∷ map shape (drop i ss)) (sym (take-map shape i ss))
    ∙ ap (λ (xs : List Shape). take i (map shape ss) ++ shape s ∷ xs) (sym (drop-map shape i ss))
    ∙ sym (h.there (shape s) refl)

-- the stops of one moment
pub one_shape : (x : Shape) (ss ts : List Shape) → ss ≡ x ∷ [] → with_shape x ts ≡ with_shapes ss ts
unfolding with_shapes
one_shape x ss ts e = sym (ap (λ (zs : List Shape). with_shapes zs ts) e)

pub two_shapes : (x y : Shape) (ss ts us : List Shape) → ss ≡ x ∷ y ∷ [] → us ≡ with_shape y ts → with_shape x us ≡ with_shapes ss ts
unfolding with_shapes
two_shapes x y ss ts us e f = ap (with_shape x) f ∙ sym (ap (λ (zs : List Shape). with_shapes zs ts) e)

shapes_append : (xs ys zs : List Shape) → with_shapes (xs ++ ys) zs ≡ with_shapes xs (with_shapes ys zs)
unfolding with_shapes
shapes_append [] ys zs = refl
shapes_append (x ∷ xs) ys zs = ap (with_shape x) (shapes_append xs ys zs)

shapes_cons : (a : Automaton) (p : Pattern) (vs : List ℤ) (k : ℕ) (m : Moment) (ms : List Moment) → shapes_from a p vs k (m ∷ ms) ≡ moment_shapes a p vs k m
    ++ shapes_from a p vs (k + 1) ms
unfolding shapes_from
shapes_cons a p vs k m ms = refl

moments_on : (ms : List Moment) (i : ℕ) (d : Moment) → i < length ms → drop i ms ≡ get_or ms i d ∷ drop (i + 1) ms
moments_on ms i d b = drop-cons ms i d b ∙ ap (λ (j : ℕ). get_or ms i d ∷ drop j ms) (let e : suc i ≡ i + 1 = omega arith in e)

-- those of one moment more
pub shapes_more : (a : Automaton) (p : Pattern) (vs : List ℤ) (ms : List Moment) (i : ℕ) (d : Moment) (old new : List Shape) → i < length ms
    → old ≡ with_shapes (shapes_from a p vs (i + 1) (drop (i + 1) ms)) [] → new ≡ with_shapes (moment_shapes a p vs i (get_or ms i d)) old
    → new ≡ with_shapes (shapes_from a p vs i (drop i ms)) []
shapes_more a p vs ms i d old new b h e =
    let m = get_or ms i d in
    let rest = shapes_from a p vs (i + 1) (drop (i + 1) ms) in
    e ∙ ap (with_shapes (moment_shapes a p vs i m)) h ∙ sym (shapes_append (moment_shapes a p vs i m) rest [])
    ∙ ap (λ (xs : List Shape). with_shapes xs []) (sym (ap (shapes_from a p vs i) (moments_on ms i d b) ∙ shapes_cons a p vs i m (drop (i + 1) ms)))

pub no_shapes : (a : Automaton) (p : Pattern) (vs : List ℤ) (ms : List Moment) → [] ≡ with_shapes (shapes_from a p vs (length ms) (drop (length ms) ms)) []
unfolding shapes_from with_shapes
no_shapes a p vs ms = sym (ap (λ (ns : List Moment). with_shapes (shapes_from a p vs (length ms) ns) []) (drop_all (length ms) ms (omega arith)))

-- the stops of the moments from one on
abbrev pub Placed : Automaton → Pattern → List ℤ → List Moment → ℕ → List Shape → Type 0
Placed a p vs ms left shapes = (left ≤ length ms) × (shapes ≡ with_shapes (shapes_from a p vs left (drop left ms)) [])
    × AllByRecursion (MomentStays vs) (drop left ms)

pub none_placed : (a : Automaton) (p : Pattern) (vs : List ℤ) (ms : List Moment) (shapes : List Shape) → shapes ≡ [] → Placed a p vs ms (length ms) shapes
none_placed a p vs ms shapes e =
    (omega arith, e ∙ no_shapes a p vs ms, subst (AllByRecursion (MomentStays vs)) (sym (drop_all (length ms) ms (omega arith))) tt)

pub one_placed : (a : Automaton) (p : Pattern) (vs : List ℤ) (ms : List Moment) (left : ℕ) (m : Moment) (old new : List Shape) → 0 < left
    → Placed a p vs ms left old → m ≡ get_or ms (left - 1) m → new ≡ with_shapes (moment_shapes a p vs (left - 1) m) old → MomentStays vs m
    → Placed a p vs ms (left - 1) new
one_placed a p vs ms left m old new some h e f stays =
    let k = left - 1 in
    let next : left ≡ k + 1 = omega (arith, some) in
    let g = subst (λ (j : ℕ). Placed a p vs ms j old) next h in
    let within = g.0 in
    let b : k < length ms = omega (arith, within) in
    let rest = g.1 in
    let all = g.2 in (
      omega (arith, within),
      shapes_more a p vs ms k m old new b rest (f ∙ ap (λ (x : Moment). with_shapes (moment_shapes a p vs k x) old) e),
      subst (AllByRecursion (MomentStays vs)) (sym (moments_on ms k m b)) (subst (MomentStays vs) e stays, all),
    )
