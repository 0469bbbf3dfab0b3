-- the vectors of a template by their numbers
use Rattle.ta_search.proofs.Common.{◌≡◌, ◌∙◌, ℕ, zero, suc, ◌+◌, ◌*◌, ◌/◌, ◌%◌, ◌<◌, List, [], ◌∷◌, ◌++◌, length, map, drop, get_or, refl, sym, ap, subst}
use Rattle.ta_search.proofs.Common.{arith, length-append, drop_all, drop_more, get_or-append-add, get_or-map, get_or_append_left, length-map, div-add-mod'}
use Rattle.ta_search.proofs.Common.{quotient_below, rest_below, numbers_get_or, Hole, value_count, vector_count, vector_at, each_before, hole_values, vectors}
use Rattle.std.proofs.lemmas.List.FromFn.{length-range_with_len}

-- vectors that begin with a value
abbrev begun : ℕ → List (List ℕ) → List (List ℕ)
begun value vs = map (λ (vector : List ℕ). value ∷ vector) vs

each_count : (values : List ℕ) (vs : List (List ℕ)) → length (each_before values vs) ≡ length values * length vs
each_count [] vs = omega arith
each_count (x ∷ xs) vs = let more = each_count xs vs in let here : length (begun x vs) ≡ length vs = length-map vs (λ (vector : List ℕ). x ∷ vector) in
    length-append (begun x vs) (each_before xs vs) ∙ omega arith

each_at : (values : List ℕ) (vs : List (List ℕ)) (m k r : ℕ) → m ≡ length vs → k < length values → r < m
    → get_or (each_before values vs) (k * m + r) [] ≡ get_or values k 0 ∷ get_or vs r []
each_at [] vs m k r same h g = absurd (omega arith)
each_at (x ∷ xs) vs m zero r same h g =
    let e : 0 * m + r ≡ r = omega arith in
    let count : length (begun x vs) ≡ length vs = length-map vs (λ (vector : List ℕ). x ∷ vector) in
    let within : r < length vs = omega arith in
    ap (λ n. get_or (begun x vs ++ each_before xs vs) n []) e ∙ get_or_append_left (begun x vs) (each_before xs vs) [] r (omega arith)
    ∙ get_or-map (λ (vector : List ℕ). x ∷ vector) vs r [] [] within
each_at (x ∷ xs) vs m (suc k) r same h g =
    let count : length (begun x vs) ≡ length vs = length-map vs (λ (vector : List ℕ). x ∷ vector) in
    let e : suc k * m + r ≡ length (begun x vs) + (k * m + r) = omega arith in
    ap (λ n. get_or (begun x vs ++ each_before xs vs) n []) e ∙ get_or-append-add (begun x vs) (each_before xs vs) (k * m + r) []
    ∙ each_at xs vs m k r same (omega arith) g

-- there are as many as choices
pub vectors_counted : (hs : List Hole) → length (vectors hs) ≡ vector_count hs
vectors_counted [] = refl
vectors_counted (h ∷ hs) =
    each_count (hole_values h) (vectors hs) ∙ ap (λ n. n * length (vectors hs)) (length-range_with_len h.low (value_count h))
    ∙ ap (λ n. value_count h * n) (vectors_counted hs)

pub vector_numbered : (hs : List Hole) (place : ℕ) → place < vector_count hs → get_or (vectors hs) place [] ≡ vector_at hs place
vector_numbered [] zero h = refl
vector_numbered [] (suc place) h = refl
vector_numbered (h ∷ hs) place below =
    let m = vector_count hs in
    let q = place / m in
    let r = place % m in
    let first : q < value_count h = quotient_below (value_count h) m place below in
    let rest : r < m = (rest_below (value_count h) m place below).1 in
    let many : q < length (hole_values h) = subst (λ n. q < n) (sym (length-range_with_len h.low (value_count h))) first in
    let e : q * m + r ≡ place = div-add-mod' place m in
    ap (λ n. get_or (vectors (h ∷ hs)) n []) (sym e) ∙ each_at (hole_values h) (vectors hs) m q r (sym (vectors_counted hs)) many rest
    ∙ ap (λ v. v ∷ get_or (vectors hs) r []) (numbers_get_or h.low (value_count h) q first)
    ∙ ap (λ (vs : List ℕ). (h.low + q) ∷ vs) (vector_numbered hs r rest)

-- a vector has a value for each hole
pub vector_length : (hs : List Hole) (place : ℕ) → length (vector_at hs place) ≡ length hs
vector_length [] place = refl
vector_length (h ∷ hs) place = ap suc (vector_length hs (place % vector_count hs))

-- what is left of the vectors from a number on
pub vectors_left : (hs : List Hole) (place : ℕ) → place < vector_count hs → drop place (vectors hs) ≡ vector_at hs place ∷ drop (place + 1) (vectors hs)
vectors_left hs place below =
    drop_more (vectors hs) place [] (subst (λ n. place < n) (sym (vectors_counted hs)) below)
    ∙ ap (λ (v : List ℕ). v ∷ drop (place + 1) (vectors hs)) (vector_numbered hs place below)

pub none_left : (hs : List Hole) → drop (vector_count hs) (vectors hs) ≡ []
none_left hs = let count = vectors_counted hs in drop_all (vector_count hs) (vectors hs) (omega arith)
