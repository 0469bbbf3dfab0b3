-- the systems of a branch by revised dictionaries: fewer, over other rows, one more, and the last of them
use Rattle.ta_simplex.proofs.Common.{◌≡◌, ℕ, zero, suc, ◌≤◌, List, [], ◌∷◌, ◌++◌, length, take, drop, fewer_alike, reverse, arith, sym, ap, ◌∙◌, subst, Option}
use Rattle.ta_simplex.proofs.Common.{Some, None, option_to_list, remove, append-nil, reverse-append, length-take-le, take-append-drop, Row, System, Tableau}
use Rattle.ta_simplex.proofs.Common.{AllBelow, BeginsSystem, IsUnderWay}
use Rattle.std.proofs.Math.Seq.{take-length}
use Rattle.std.proofs.lemmas.List.{take-take, take_all}
use Rattle.ta_revised.proofs.ShortFacts.{short_count}
use Rattle.ta_revised.specs.Negative.{NoneNegativeAt}
use Rattle.ta_revised.specs.ShortRows.{AreShort}
use Rattle.ta_revised.specs.declared.short_rows.ShortRows.{ShortRows}
use Rattle.ta_simplex.specs.declared.revised_branch.RevisedStanding.{RevisedStanding}
use Rattle.ta_simplex.specs.RevisedRuns.{AreRevised, RevisedFits, StandsRevised}

-- the first of some items are no more than asked for
length-take-most : {X : Type 0} (n : ℕ) (xs : List X) → length (take n xs) ≤ n
length-take-most zero xs = omega arith
length-take-most (suc n) [] = omega arith
length-take-most (suc n) (x ∷ xs) = let rest = length-take-most n xs in omega arith

-- nor more than there are
length-take-fewer : {X : Type 0} (n : ℕ) (xs : List X) → length (take n xs) ≤ length xs
length-take-fewer zero xs = omega arith
length-take-fewer (suc n) [] = omega arith
length-take-fewer (suc n) (x ∷ xs) = let rest = length-take-fewer n xs in omega arith

-- more rows
pub revised_more : (rows : List Row) (most all : ℕ) (os : List RevisedStanding) → most ≤ all → AreRevised rows most os → AreRevised rows all os
revised_more rows most all [] h s = s
revised_more rows most all (o ∷ os) h s = (let r = s.0 in omega arith, s.1, s.2)

-- without the last
pub revised_pop : (rows : List Row) (most : ℕ) (xs ys : List RevisedStanding) (last : Option RevisedStanding) → xs ≡ ys ++ option_to_list last →
    AreRevised rows most (reverse xs) → AreRevised rows most (reverse ys)
revised_pop rows most xs ys None e s = subst (λ (os : List RevisedStanding). AreRevised rows most (reverse os)) (e ∙ append-nil ys) s
revised_pop rows most xs ys (Some o) e s =
    let all = subst (λ (os : List RevisedStanding). AreRevised rows most os) (ap reverse e ∙ reverse-append ys (o ∷ [])) s in
    revised_more rows o.rows most (reverse ys) all.0 all.2

-- without those at the end
revised_front : (rows : List Row) (most : ℕ) (os ps : List RevisedStanding) → AreRevised rows most (os ++ ps) → AreRevised rows most os
revised_front rows most [] ps s = tt
revised_front rows most (o ∷ os) ps s = (s.0, s.1, revised_front rows o.rows os ps s.2)

-- without the first
revised_behind : (rows : List Row) (most : ℕ) (xs : List RevisedStanding) → AreRevised rows most (reverse xs) → AreRevised rows most (reverse (drop 1 xs))
revised_behind rows most [] s = tt
revised_behind rows most (x ∷ xs) s =
    revised_front rows most (reverse xs) (x ∷ []) (subst (λ (os : List RevisedStanding). AreRevised rows most os) (reverse-append (x ∷ []) xs) s)

-- the same, where the first was removed
pub revised_removed : (rows : List Row) (most : ℕ) (xs ys : List RevisedStanding) → ys ≡ remove xs 0 → AreRevised rows most (reverse xs)
    → AreRevised rows most (reverse ys)
revised_removed rows most xs ys e s = subst (λ (os : List RevisedStanding). AreRevised rows most (reverse os)) (sym e) (revised_behind rows most xs s)

-- other rows, the first of which are the same
revised_rows : (rows other : List Row) (most same : ℕ) (os : List RevisedStanding) → take same rows ≡ take same other → most ≤ same → AreRevised rows most os
    → AreRevised other most os
revised_rows rows other most same [] e h s = tt
revised_rows rows other most same (o ∷ os) e h s =
    let r = s.0 in (
      r,
      subst (λ (rs : List Row). StandsRevised rs o) (fewer_alike o.rows same rows other (omega arith) e) s.1,
      revised_rows rows other o.rows same os e (omega arith) s.2,
    )

-- the same, where the last system fits: it has no more rows than are the same
pub revised_shared : (rows other : List Row) (unknowns same : ℕ) (os : List RevisedStanding) → take same rows ≡ take same other → same ≤ length other
    → RevisedFits unknowns same os → AreRevised rows (length rows) os → AreRevised other (length other) os
revised_shared rows other unknowns same [] e h f s = tt
revised_shared rows other unknowns same (o ∷ os) e h f s =
    let r = f.1 in
    revised_more other o.rows (length other) (o ∷ os) (omega arith) (revised_rows rows other o.rows same (o ∷ os) e r (omega arith, s.1, s.2))

-- the rows in short numbers, without those that aren't the same in other rows
pub short_shared : (s t : ShortRows) (rows other : List Row) (same : ℕ) → take same rows ≡ take same other → AreShort s (take (length s.rows.items) rows)
    → ((rs : List Row) → AreShort s rs → AreShort t (take same rs)) → AreShort t (take (length t.rows.items) other)
short_shared s t rows other same e a cut =
    let all = take (length s.rows.items) rows in
    let first = cut all a in
    let count : length t.rows.items ≡ length (take same all) = short_count t (take same all) first in
    let few : length t.rows.items ≤ same = omega (arith, count, length-take-most same all) in
    let less : length t.rows.items ≤ length s.rows.items = omega (arith, count, length-take-fewer same all, length-take-most (length s.rows.items) rows) in
    let here : take same all ≡ take (length t.rows.items) other = sym (take-length (take same all)) ∙ ap (λ n. take n (take same all)) (sym count)
    ∙ take-take (length t.rows.items) same all few ∙ take-take (length t.rows.items) (length s.rows.items) rows less
    ∙ fewer_alike (length t.rows.items) same rows other few e in
    subst (AreShort t) here first

-- a system, with another name of how many unknowns it has
record SameSystem (s : System) (unknowns : ℕ) (d : Tableau) : Type 0 where
  below : AllBelow unknowns s.rows
  under_way : IsUnderWay (record { unknowns = unknowns; rows = s.rows; within = below }) d
  holds : NoneNegativeAt (record { unknowns = unknowns; rows = s.rows; within = below }) d

-- each system is one under its own number
same_system : (s : System) (unknowns : ℕ) (d : Tableau) → s.unknowns ≡ unknowns → IsUnderWay s d → NoneNegativeAt s d → SameSystem s unknowns d
same_system s unknowns d e way holds = subst (λ (n : ℕ). SameSystem s n d) e (record { below = s.within; under_way = way; holds = holds })

-- a system stands with all of its rows
stands_revised : (s : System) (o : RevisedStanding) → o.unknowns ≡ s.unknowns → IsUnderWay s o.dictionary → NoneNegativeAt s o.dictionary
    → StandsRevised s.rows o
stands_revised s o e way holds =
    let same = same_system s o.unknowns o.dictionary (sym e) way holds in
    record { below = same.below; under_way = same.under_way; holds = same.holds }

-- one more
pub revised_push : (s : System) (o : RevisedStanding) (xs ys : List RevisedStanding) → ys ≡ xs ++ o ∷ [] → o.unknowns ≡ s.unknowns → o.rows ≡ length s.rows
    → IsUnderWay s o.dictionary → NoneNegativeAt s o.dictionary → AreRevised s.rows (length s.rows) (reverse xs)
    → AreRevised s.rows (length s.rows) (reverse ys)
revised_push s o xs ys e same_unknowns same_rows way holds before =
    let all : take o.rows s.rows ≡ s.rows = take_all o.rows s.rows (omega (arith, same_rows)) in
    let here : StandsRevised s.rows o = stands_revised s o same_unknowns way holds in
    let there : StandsRevised (take o.rows s.rows) o = subst (λ (rs : List Row). StandsRevised rs o) (sym all) here in
    let rest : AreRevised s.rows o.rows (reverse xs) = subst (λ (n : ℕ). AreRevised s.rows n (reverse xs)) (sym same_rows) before in
    let most : o.rows ≤ length s.rows = omega (arith, same_rows) in
    subst (λ (os : List RevisedStanding). AreRevised s.rows (length s.rows) os) (sym (ap reverse e ∙ reverse-append xs (o ∷ []))) (most, there, rest)

-- the last system, which is a beginning of a longer one
pub record LastRevised (o : RevisedStanding) (l : System) : Type 0 where
  pub shorter : System
  pub begins : BeginsSystem shorter l
  pub under_way : IsUnderWay shorter o.dictionary
  pub holds : NoneNegativeAt shorter o.dictionary
  pub count : length shorter.rows ≡ o.rows

-- the last system of a branch that fits is such a beginning
pub last_revised : (xs rest : List RevisedStanding) (o : RevisedStanding) (l : System) (same : ℕ) → xs ≡ rest ++ o ∷ []
    → AreRevised l.rows (length l.rows) (reverse xs) → RevisedFits l.unknowns same (reverse xs) → LastRevised o l
last_revised xs rest o l same e s b =
    let turned : reverse xs ≡ o ∷ reverse rest = ap reverse e ∙ reverse-append rest (o ∷ []) in
    let st = subst (λ (os : List RevisedStanding). AreRevised l.rows (length l.rows) os) turned s in
    let fits = subst (λ (os : List RevisedStanding). RevisedFits l.unknowns same os) turned b in
    let on = st.1 in
    let few = st.0 in
    let count_rows = length-take-le o.rows l.rows few in
    record {
      shorter = record { unknowns = o.unknowns; rows = take o.rows l.rows; within = on.below };
      begins = record { unknowns = fits.0; rows = sym (take-append-drop o.rows l.rows) ∙ ap (λ (n : ℕ). take o.rows l.rows ++ drop n l.rows) (sym count_rows) };
      under_way = on.under_way;
      holds = on.holds;
      count = count_rows;
    }
