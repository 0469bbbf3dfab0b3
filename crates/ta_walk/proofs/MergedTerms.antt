-- terms of two lists, taken by rising unknown
use Rattle.ta_walk.proofs.Common.{◌≡◌, ℕ, ℤ, pos, ◌+◌, ◌<◌, ◌≤◌, ◌^◌, ◌*ℤ◌, List, [], ◌∷◌, length, get_or, Option, Some, None, arith, ap, ◌∙◌, ints, nat_tests}
use Rattle.ta_walk.proofs.Common.{InRange, coefficient, IsNormal, IsNormal-le, coefficient-below, with_product, with_products}
use Rattle.std.proofs.Common.{◌-ℤ◌}
use Rattle.ta_walk.specs.NextTerms.{IsTaken, AreNextTerms}
use Rattle.ta_walk.proofs.Fitting.{none_stays, one_more, skip, with_fits}

-- the difference of two lists' coefficients
abbrev pub difference : List (ℕ × ℤ) → List (ℕ × ℤ) → ℕ → ℤ
difference above beneath u = coefficient above u -ℤ coefficient beneath u

-- one list where the other is empty
pub left_alone : (xs ys : List (ℕ × ℤ)) (t : ℕ × ℤ) (ts : List (ℕ × ℤ)) → xs ≡ t ∷ ts → length ys ≡ 0
    → AreNextTerms xs ys t.0 t.1 (pos 0) ts ys
left_alone xs [] t ts e none = rw e (record {
  left_taken = λ x. omega (arith, ints);
  right_taken = λ x. grind (arith, ints);
  normal = λ low high left right. (left.0, left.1.in_range, omega arith, left.2, IsNormal-le (t.0 + 1) high ts left.2);
  shorter = omega arith;
})
left_alone xs (s ∷ ys) t ts e none = absurd (omega arith)

pub right_alone : (xs ys : List (ℕ × ℤ)) (t : ℕ × ℤ) (ts : List (ℕ × ℤ)) → ys ≡ t ∷ ts → length xs ≡ 0
    → AreNextTerms xs ys t.0 (pos 0) t.1 xs ts
right_alone xs ys t ts e none =
    let turned = left_alone ys xs t ts e none in
    record {
      left_taken = turned.right_taken;
      right_taken = turned.left_taken;
      normal = λ low high left right. (let n = turned.normal low high right left in (n.0, n.2, n.1, n.4, n.3));
      shorter = omega (arith, turned.shorter);
    }

-- the coefficient of an unknown below the one that is taken, of that one, and of one above it
taken_below : (ts : List (ℕ × ℤ)) (unknown : ℕ) (value : ℤ) (rest : List (ℕ × ℤ)) (u : ℕ)
    → IsTaken ts unknown value rest → IsNormal (unknown + 1) (2 ^ 32) rest → u < unknown → coefficient ts u ≡ pos 0
taken_below ts unknown value rest u is normal less =
    let none = coefficient-below (unknown + 1) (2 ^ 32) rest u normal (omega arith) in
    let here = is u in
    grind (arith, ints, nat_tests)

taken_at : (ts : List (ℕ × ℤ)) (unknown : ℕ) (value : ℤ) (rest : List (ℕ × ℤ))
    → IsTaken ts unknown value rest → IsNormal (unknown + 1) (2 ^ 32) rest → coefficient ts unknown ≡ value
taken_at ts unknown value rest is normal =
    let none = coefficient-below (unknown + 1) (2 ^ 32) rest unknown normal (omega arith) in
    let here = is unknown in
    grind (arith, ints, nat_tests)

taken_above : (ts : List (ℕ × ℤ)) (unknown : ℕ) (value : ℤ) (rest : List (ℕ × ℤ)) (u : ℕ)
    → IsTaken ts unknown value rest → unknown < u → coefficient ts u ≡ coefficient rest u
taken_above ts unknown value rest u is more =
    let here = is u in
    grind (arith, ints, nat_tests)

-- the sum over the unknowns below a place, and the terms from there on
pub record Adding (c : ℕ → ℤ) (numbers : List ℤ) (start : ℤ) (left right : List (ℕ × ℤ)) (sum : ℤ) : Type 0 where
  pub place : ℕ
  pub within : place ≤ length numbers
  pub left_normal : IsNormal place (2 ^ 32) left
  pub right_normal : IsNormal place (2 ^ 32) right
  pub same : (u : ℕ) → place ≤ u → c u ≡ difference left right u
  pub so_far : with_products c numbers (Some start) place ≡ Some sum
  pub fits : InRange sum

-- past unknowns that neither list has
reaches : {c : ℕ → ℤ} {ns : List ℤ} {start : ℤ} {l r : List (ℕ × ℤ)} {sum : ℤ} (m : ℕ) (now : Adding c ns start l r sum) → now.place ≤ m
    → ((u : ℕ) → now.place ≤ u → u < m → difference l r u ≡ pos 0) → with_products c ns (Some start) m ≡ Some sum
reaches {c} {ns} {start} {l} {r} {sum} m now low none =
    skip c ns (Some start) now.place m sum now.fits low (λ u from less. now.same u from ∙ none u from less) now.so_far

-- both lists are at their end
pub adding_end : {c : ℕ → ℤ} {ns : List ℤ} {start : ℤ} {l r : List (ℕ × ℤ)} {sum : ℤ}
    → Adding c ns start l r sum → l ≡ [] → r ≡ [] → with_products c ns (Some start) (length ns) ≡ Some sum
adding_end {ns = ns} {r = r} now left right =
    reaches (length ns) now now.within (λ u from less. ap (λ ts. difference ts r u) left ∙ ap (λ ts. difference [] ts u) right)

-- up to the next unknown
up_to : {c : ℕ → ℤ} {ns : List ℤ} {start : ℤ} {l r : List (ℕ × ℤ)} {sum : ℤ} {unknown : ℕ} {one other : ℤ}
    {ls rs : List (ℕ × ℤ)} (m : ℕ)
    (now : Adding c ns start l r sum) → AreNextTerms l r unknown one other ls rs → now.place ≤ m → m ≤ unknown
    → with_products c ns (Some start) m ≡ Some sum
up_to {l = l} {r = r} {unknown = unknown} {one = one} {other = other} {ls = ls} {rs = rs} m now next low high =
    let normal = next.normal now.place (2 ^ 32) now.left_normal now.right_normal in
    reaches m now low (λ u from less.
    let left = taken_below l unknown one ls u next.left_taken normal.3 (omega (arith, less, high)) in
    let right = taken_below r unknown other rs u next.right_taken normal.4 (omega (arith, less, high)) in
    omega (arith, ints, left, right))

-- the next unknown has no number
pub adding_past : {c : ℕ → ℤ} {ns : List ℤ} {start : ℤ} {l r : List (ℕ × ℤ)} {sum : ℤ} {unknown : ℕ} {one other : ℤ}
    {ls rs : List (ℕ × ℤ)}
    → Adding c ns start l r sum → AreNextTerms l r unknown one other ls rs → ¬ (unknown < length ns)
    → with_products c ns (Some start) (length ns) ≡ Some sum
adding_past {ns = ns} now next past = up_to (length ns) now next now.within (omega (arith, past))

-- the sum with the next unknown
with_next : {c : ℕ → ℤ} {ns : List ℤ} {start : ℤ} {l r : List (ℕ × ℤ)} {sum : ℤ} {unknown : ℕ} {one other : ℤ}
    {ls rs : List (ℕ × ℤ)} (o : Option ℤ)
    → Adding c ns start l r sum → AreNextTerms l r unknown one other ls rs
    → o ≡ with_product (Some sum) ((one -ℤ other) *ℤ get_or ns unknown (pos 0)) → with_products c ns (Some start) (unknown + 1) ≡ o
with_next {c} {ns} {start} {l} {r} {sum} {unknown} {one} {other} {ls} {rs} o now next is =
    let normal = next.normal now.place (2 ^ 32) now.left_normal now.right_normal in
    let left = taken_at l unknown one ls next.left_taken normal.3 in
    let right = taken_at r unknown other rs next.right_taken normal.4 in
    let same : (one -ℤ other) ≡ c unknown = omega (arith, ints, now.same unknown normal.0, left, right) in
    one_more c ns (Some start) unknown sum o
    (up_to unknown now next normal.0 (omega arith))
    (is ∙ ap (λ z. with_product (Some sum) (z *ℤ get_or ns unknown (pos 0))) same)

pub adding_none : {c : ℕ → ℤ} {ns : List ℤ} {start : ℤ} {l r : List (ℕ × ℤ)} {sum : ℤ} {unknown : ℕ} {one other : ℤ}
    {ls rs : List (ℕ × ℤ)}
    → Adding c ns start l r sum → AreNextTerms l r unknown one other ls rs → unknown < length ns
    → None ≡ with_product (Some sum) ((one -ℤ other) *ℤ get_or ns unknown (pos 0)) → with_products c ns (Some start) (length ns) ≡ None
adding_none {c} {ns} {start} {unknown = unknown} now next less is =
    none_stays c ns (Some start) (unknown + 1) (length ns) (omega (arith, less)) (with_next None now next is)

pub adding_next : {c : ℕ → ℤ} {ns : List ℤ} {start : ℤ} {l r : List (ℕ × ℤ)} {sum : ℤ} {unknown : ℕ} {one other : ℤ}
    {ls rs : List (ℕ × ℤ)} (more : ℤ)
    → Adding c ns start l r sum → AreNextTerms l r unknown one other ls rs → unknown < length ns
    → Some more ≡ with_product (Some sum) ((one -ℤ other) *ℤ get_or ns unknown (pos 0)) → Adding c ns start ls rs more
adding_next {c} {ns} {start} {l} {r} {sum} {unknown} {one} {other} {ls} {rs} more now next less is =
    let normal = next.normal now.place (2 ^ 32) now.left_normal now.right_normal in
    let low : now.place ≤ unknown = normal.0 in
    record {
      place = unknown + 1;
      within = omega (arith, less);
      left_normal = normal.3;
      right_normal = normal.4;
      same = λ u above.
          (let left = taken_above l unknown one ls u next.left_taken (omega (arith, above)) in
          let right = taken_above r unknown other rs u next.right_taken (omega (arith, above)) in
          omega (arith, ints, now.same u (omega (arith, low, above)), left, right));
      so_far = with_next (Some more) now next is;
      fits = with_fits sum ((one -ℤ other) *ℤ get_or ns unknown (pos 0)) more is;
    }
