use Rattle.ta_dense.proofs.Common.{◌≡◌, ℕ, zero, suc, ◌<◌, List, [], ◌∷◌, length, map, set, get_or, arith, refl, sym, ap, ℤ, pos, ◌*ℤ◌, ◌-ℤ◌, neg_ℤ, ints}
use Rattle.ta_dense.proofs.Common.{length-map, merged_arith, turned_arith, get_or-neg, TableauRow, combine, cell_of, turned, merged_by, dot, EquationHolds}
use Rattle.ta_dense.proofs.Dot.{dot-set, dot-neg, dot-combine}

pub get_or-combine : (p q : ℤ) (xs cs : List ℤ) (column : ℕ) → length xs ≡ length cs
    → get_or (combine p q xs cs) column (pos 0) ≡ p *ℤ get_or xs column (pos 0) -ℤ q *ℤ get_or cs column (pos 0)
get_or-combine p q [] [] column e = omega (arith, ints)
get_or-combine p q [] (c ∷ cs) column e = absurd (omega arith)
get_or-combine p q (a ∷ xs) [] column e = absurd (omega arith)
get_or-combine p q (a ∷ xs) (c ∷ cs) zero e = refl
get_or-combine p q (a ∷ xs) (c ∷ cs) (suc column) e = get_or-combine p q xs cs column (omega arith)

pub length-combine : (p q : ℤ) (xs cs : List ℤ) → length xs ≡ length cs → length (combine p q xs cs) ≡ length xs
length-combine p q [] [] e = refl
length-combine p q [] (c ∷ cs) e = refl
length-combine p q (a ∷ xs) [] e = absurd (omega arith)
length-combine p q (a ∷ xs) (c ∷ cs) e = ap suc (length-combine p q xs cs (omega arith))

-- the turned row holds where the chosen row does
pub Holds-turned : (us : List ℕ) (r : TableauRow) (column : ℕ) (scale : ℤ) (value : ℕ → ℤ) → column < length r.cells → length us ≡ length r.cells →
    EquationHolds us r scale value → EquationHolds (set us column r.basic) (turned (get_or us column 0) column r) scale value
Holds-turned us r column scale value h e holds =
    let n = dot-set (map neg_ℤ r.cells) us value column r.denominator r.basic (simp length-map h) (simp length-map e) in
    let m = simp (get_or-neg, dot-neg) at n in
    turned_arith r.denominator (value r.basic) scale r.constant (dot r.cells us value) (cell_of r column) (value (get_or us column 0))
    (dot (set (map neg_ℤ r.cells) column r.denominator) (set us column r.basic) value) holds m

pub Holds-merged_by : (us : List ℕ) (chosen r : TableauRow) (column : ℕ) (p q scale : ℤ) (value : ℕ → ℤ) → column < length r.cells → length us ≡ length r.cells
    → length chosen.cells ≡ length r.cells →
    p *ℤ cell_of r column ≡ q *ℤ cell_of chosen column → EquationHolds us chosen scale value → EquationHolds us r scale value →
    EquationHolds (set us column chosen.basic) (merged_by p q column chosen r) scale value
Holds-merged_by us chosen r column p q scale value h e f same first second =
    let long : length (combine p q r.cells chosen.cells) ≡ length r.cells = length-combine p q r.cells chosen.cells (sym f) in
    let n = dot-set (combine p q r.cells chosen.cells) us value column (q *ℤ chosen.denominator) chosen.basic (omega arith) (omega arith) in
    let m = simp (get_or-combine p q r.cells chosen.cells column (sym f), dot-combine p q r.cells chosen.cells us value (sym f)) at n in
    merged_arith chosen.denominator (value chosen.basic) scale chosen.constant (dot chosen.cells us value) (cell_of chosen column) (value (get_or us column 0))
    r.denominator (value r.basic) r.constant (dot r.cells us value) (cell_of r column)
    (dot (set (combine p q r.cells chosen.cells) column (q *ℤ chosen.denominator)) (set us column chosen.basic) value) p q first second same m
