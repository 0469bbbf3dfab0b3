use Rattle.ta_dense.proofs.Common.{◌≡◌, ◌≢◌, ℕ, zero, suc, ◌*◌, ◌<◌, List, [], ◌∷◌, length, get_or, arith, refl, sym, ap, ◌∙◌, subst, ℤ, pos, ◌+ℤ◌, ◌*ℤ◌, ◌∣◌}
use Rattle.ta_dense.proofs.Common.{ints, ext_get_or, dvd_antisymm, cancel_positive, cross_arith, dvd_cross, mul_cancel, same_positive, single, single-at}
use Rattle.ta_dense.proofs.Common.{single-elsewhere, TableauRow, Tableau, non_basic_of, gcd_with, IsDictionaryRow, dot, IsDictionary, gcd_of, unsigned_abs}
use Rattle.std.proofs.Math.IntN.{*ℤ_comm}
use Rattle.ta_linear.proofs.GcdLemmas.{dvd-gcd_of}
use Rattle.ta_dense.proofs.Dot.{dot-change, dot-scaled}
use Rattle.ta_dense.proofs.Primitive.{primitive_divisor}
use Rattle.ta_dense.proofs.RowFacts.{record_same}
use Rattle.ta_base.proofs.Integers.{once_and_nothing, none_and_once}

-- what divides the products with numbers divides that with their greatest common divisor
dvd-gcd_with : (k x g : ℕ) (zs : List ℤ) → k ∣ x * g → ((i : ℕ) → i < length zs → k ∣ x * unsigned_abs (get_or zs i (pos 0))) → k ∣ x * gcd_with g zs
dvd-gcd_with k x g [] p all = p
dvd-gcd_with k x g (z ∷ zs) p all = dvd-gcd_with k x (gcd_of g (unsigned_abs z)) zs (dvd-gcd_of k x g (unsigned_abs z) p (all 0 (omega arith)))
    (λ i h. all (suc i) (omega arith))

-- two rows of one basic variable agree after multiplication by the other's denominator
cross : (A : ℤ → (ℕ → ℤ) → Type 0) (n : ℕ) (t : Tableau) (r r' : TableauRow) → IsDictionary A n t → IsDictionaryRow A t.non_basic r
    → IsDictionaryRow A t.non_basic r' → r.basic ≡ r'.basic → (q : ℤ) (want : ℕ → ℤ) →
    r'.denominator *ℤ (q *ℤ r.constant +ℤ dot r.cells t.non_basic want) ≡ r.denominator *ℤ (q *ℤ r'.constant +ℤ dot r'.cells t.non_basic want)
cross A n t r r' d p p' same q want =
    let f = d.free q want in
    let h = p.holds (pos f.0 *ℤ q) f.1 f.3 ∙ ap (λ (z : ℤ). (pos f.0 *ℤ q) *ℤ r.constant +ℤ z) (dot-scaled r.cells t.non_basic f.1 want (pos f.0) f.4) in
    let h' = p'.holds (pos f.0 *ℤ q) f.1 f.3 ∙ ap (λ (z : ℤ). (pos f.0 *ℤ q) *ℤ r'.constant +ℤ z) (dot-scaled r'.cells t.non_basic f.1 want (pos f.0) f.4) in
    let k = rw (← same) at h' in
    mul_cancel f.0 _ _ f.2 (cross_arith r.denominator r'.denominator (f.1 r.basic) (pos f.0) q r.constant r'.constant (dot r.cells t.non_basic want)
    (dot r'.cells t.non_basic want) h k)

pub dot-nothing : (cs : List ℤ) (us : List ℕ) → dot cs us (λ _. pos 0) ≡ pos 0
dot-nothing [] us = refl
dot-nothing (c ∷ cs) [] = refl
dot-nothing (c ∷ cs) (u ∷ us) = omega (arith, ints, dot-nothing cs us)

dot-one : (cs : List ℤ) (us : List ℕ) (j : ℕ) → j < length us → length cs ≡ length us → ((i : ℕ) → i < length us → i ≢ j → get_or us j 0 ≢ get_or us i 0)
    → dot cs us (single (get_or us j 0) (pos 1)) ≡ get_or cs j (pos 0)
dot-one cs us j h e apart =
    let k = dot-change cs us (single (get_or us j 0) (pos 1)) (λ _. pos 0) j h e
    (λ i inside ne. single-elsewhere (get_or us j 0) (get_or us i 0) (pos 1) (apart i inside ne)) in
    let m = rw (single-at (get_or us j 0) (get_or us j 0) (pos 1) refl, dot-nothing cs us) at k in
    omega (arith, ints, m)

constant_cross : (A : ℤ → (ℕ → ℤ) → Type 0) (n : ℕ) (t : Tableau) (r r' : TableauRow) → IsDictionary A n t → IsDictionaryRow A t.non_basic r
    → IsDictionaryRow A t.non_basic r' → r.basic ≡ r'.basic →
    r'.denominator *ℤ r.constant ≡ r.denominator *ℤ r'.constant
constant_cross A n t r r' d p p' same =
    let k = rw (dot-nothing r.cells t.non_basic, dot-nothing r'.cells t.non_basic) at (cross A n t r r' d p p' same (pos 1) (λ _. pos 0)) in
    ap (λ (z : ℤ). r'.denominator *ℤ z) (once_and_nothing r.constant) ∙ k ∙ ap (λ (z : ℤ). r.denominator *ℤ z) (sym (once_and_nothing r'.constant))

cell_cross : (A : ℤ → (ℕ → ℤ) → Type 0) (n : ℕ) (t : Tableau) (r r' : TableauRow) → IsDictionary A n t → IsDictionaryRow A t.non_basic r
    → IsDictionaryRow A t.non_basic r' → r.basic ≡ r'.basic → (j : ℕ) → j < length t.non_basic →
    r'.denominator *ℤ get_or r.cells j (pos 0) ≡ r.denominator *ℤ get_or r'.cells j (pos 0)
cell_cross A n t r r' d p p' same j h =
    let apart = λ (i : ℕ) (inside : i < length t.non_basic) (ne : i ≢ j) (e : non_basic_of t j ≡ non_basic_of t i). ne
    (d.basis.non_basic_once i j inside h (sym e)) in
    let k = rw (dot-one r.cells t.non_basic j h p.long apart, dot-one r'.cells t.non_basic j h p'.long apart) at
    (cross A n t r r' d p p' same (pos 0) (single (non_basic_of t j) (pos 1))) in
    ap (λ (z : ℤ). r'.denominator *ℤ z) (none_and_once r.constant (get_or r.cells j (pos 0))) ∙ k
    ∙ ap (λ (z : ℤ). r.denominator *ℤ z) (sym (none_and_once r'.constant (get_or r'.cells j (pos 0))))

dvd_denominator : (A : ℤ → (ℕ → ℤ) → Type 0) (n : ℕ) (t : Tableau) (r r' : TableauRow) → IsDictionary A n t → IsDictionaryRow A t.non_basic r
    → IsDictionaryRow A t.non_basic r' → r.basic ≡ r'.basic →
    unsigned_abs r.denominator ∣ unsigned_abs r'.denominator
dvd_denominator A n t r r' d p p' same =
    let all = dvd-gcd_with (unsigned_abs r.denominator) (unsigned_abs r'.denominator) (unsigned_abs r.denominator) (r.constant ∷ r.cells)
    (dvd_cross r.denominator r'.denominator r.denominator r'.denominator (*ℤ_comm r'.denominator r.denominator))
    (each (constant_cross A n t r r' d p p' same) (λ j h. cell_cross A n t r r' d p p' same j (let e = p.long in omega arith))) in
    let P : ℕ → Type 0 = λ m. unsigned_abs r.denominator ∣ unsigned_abs r'.denominator * m in
    let one = subst P (primitive_divisor r p.primitive) all in
    let e : unsigned_abs r'.denominator * 1 ≡ unsigned_abs r'.denominator = omega arith in
    subst (λ (m : ℕ). unsigned_abs r.denominator ∣ m) e one
  where
    each : r'.denominator *ℤ r.constant ≡ r.denominator *ℤ r'.constant
        → ((j : ℕ) → j < length r.cells → r'.denominator *ℤ get_or r.cells j (pos 0) ≡ r.denominator *ℤ get_or r'.cells j (pos 0)) →
        (i : ℕ) → i < length (r.constant ∷ r.cells) → unsigned_abs r.denominator ∣ unsigned_abs r'.denominator * unsigned_abs
        (get_or (r.constant ∷ r.cells) i (pos 0))
    each first cells zero h = dvd_cross r.denominator r'.denominator r.constant r'.constant first
    each first cells (suc i) h = dvd_cross r.denominator r'.denominator (get_or r.cells i (pos 0)) (get_or r'.cells i (pos 0)) (cells i (omega arith))

-- for a basis that pivots reach, the numbers of a basic variable's row are unique
pub unique_row : (A : ℤ → (ℕ → ℤ) → Type 0) (n : ℕ) (t : Tableau) (r r' : TableauRow) → IsDictionary A n t → IsDictionaryRow A t.non_basic r
    → IsDictionaryRow A t.non_basic r' → r.basic ≡ r'.basic → r ≡ r'
unique_row A n t r r' d p p' same =
    let e : r.denominator ≡ r'.denominator = same_positive r.denominator r'.denominator p.positive p'.positive
    (dvd_antisymm (dvd_denominator A n t r r' d p p' same) (dvd_denominator A n t r' r d p' p (sym same))) in
    let b : r.constant ≡ r'.constant = cancel_positive r'.denominator r.constant r'.constant p'.positive
    (constant_cross A n t r r' d p p' same ∙ ap (λ (z : ℤ). z *ℤ r'.constant) e) in
    let cs : r.cells ≡ r'.cells = ext_get_or (pos 0) r.cells r'.cells (p.long ∙ sym p'.long)
    (λ j h. cancel_positive r'.denominator (get_or r.cells j (pos 0)) (get_or r'.cells j (pos 0)) p'.positive
    (cell_cross A n t r r' d p p' same j (let l = p.long in omega arith) ∙ ap (λ (z : ℤ). z *ℤ get_or r'.cells j (pos 0)) e)) in
    record_same r r' same e b cs
