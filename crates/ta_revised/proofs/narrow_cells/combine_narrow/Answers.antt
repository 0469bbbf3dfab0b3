use Rattle.ta_revised.proofs.Common.{◌≡◌, ap, ◌∙◌, sym, subst, refl, ℕ, ℤ, List, pos, negsuc, to_z-of_z, SFits, of_z, to_z, w16, combine, AllCombineIn16}
use Rattle.ta_revised.proofs.narrow_cells.combine_narrow.Goals as goal

-- a factor that is known by its bits
known : (z : ℤ) (n : ℕ) → SFits w16 z → of_z w16 z ≡ n → z ≡ to_z w16 n
known z n f e = sym (to_z-of_z w16 z f) ∙ ap (to_z w16) e

-- what fits with two factors fits with equal ones, and gives the same
fit : (p q a b : ℤ) (xs cs : List ℤ) → p ≡ a → q ≡ b → AllCombineIn16 p q xs cs → AllCombineIn16 a b xs cs
fit p q a b xs cs e f h =
    subst (λ (z : ℤ). AllCombineIn16 a z xs cs) f (subst (λ (z : ℤ). AllCombineIn16 z q xs cs) e h)

same : (p q a b : ℤ) (xs cs new : List ℤ) → p ≡ a → q ≡ b → new ≡ combine a b xs cs → new ≡ combine p q xs cs
same p q a b xs cs new e f h =
    h ∙ ap (λ (z : ℤ). combine z b xs cs) (sym e) ∙ ap (λ (z : ℤ). combine p z xs cs) (sym f)

pub combine_by-requires-clause-fit : goal.combine_by-requires-clause-fit
combine_by-requires-clause-fit c =
    fit c.args.p c.args.q (pos 1) (pos 1) c.args.cells.now c.args.chosen.now (known c.args.p 1 c.ranges.p c.in-1-eq1.is-0)
    (known c.args.q 1 c.ranges.q c.in-1-eq1.is-1) c.requires.fit

pub returns-in-1-eq1 : goal.returns-in-1-eq1
returns-in-1-eq1 c =
    same c.args.p c.args.q (pos 1) (pos 1) c.args.cells.now c.args.chosen.now c.combine_by.new.cells (known c.args.p 1 c.ranges.p c.in-1-eq1.is-0)
    (known c.args.q 1 c.ranges.q c.in-1-eq1.is-1)
    c.combine_by.ensures

pub combine_by-requires-in-1-minus1-clause-fit : goal.combine_by-requires-in-1-minus1-clause-fit
combine_by-requires-in-1-minus1-clause-fit c =
    fit c.args.p c.args.q (pos 1) (negsuc 0) c.args.cells.now c.args.chosen.now (known c.args.p 1 c.ranges.p c.in-1-minus1.is-0)
    (known c.args.q 65535 c.ranges.q c.in-1-minus1.is-1) c.requires.fit

pub returns-in-1-minus1 : goal.returns-in-1-minus1
returns-in-1-minus1 c =
    same c.args.p c.args.q (pos 1) (negsuc 0) c.args.cells.now c.args.chosen.now c.combine_by-in-1-minus1.new.cells
    (known c.args.p 1 c.ranges.p c.in-1-minus1.is-0) (known c.args.q 65535 c.ranges.q c.in-1-minus1.is-1)
    c.combine_by-in-1-minus1.ensures

pub combine_by-requires-in-1-eq2-clause-fit : goal.combine_by-requires-in-1-eq2-clause-fit
combine_by-requires-in-1-eq2-clause-fit c =
    fit c.args.p c.args.q (pos 1) (pos 2) c.args.cells.now c.args.chosen.now (known c.args.p 1 c.ranges.p c.in-1-eq2.is-0)
    (known c.args.q 2 c.ranges.q c.in-1-eq2.is-1) c.requires.fit

pub returns-in-1-eq2 : goal.returns-in-1-eq2
returns-in-1-eq2 c =
    same c.args.p c.args.q (pos 1) (pos 2) c.args.cells.now c.args.chosen.now c.combine_by-in-1-eq2.new.cells (known c.args.p 1 c.ranges.p c.in-1-eq2.is-0)
    (known c.args.q 2 c.ranges.q c.in-1-eq2.is-1)
    c.combine_by-in-1-eq2.ensures

pub combine_by-requires-in-1-minus2-clause-fit : goal.combine_by-requires-in-1-minus2-clause-fit
combine_by-requires-in-1-minus2-clause-fit c =
    fit c.args.p c.args.q (pos 1) (negsuc 1) c.args.cells.now c.args.chosen.now (known c.args.p 1 c.ranges.p c.in-1-minus2.is-0)
    (known c.args.q 65534 c.ranges.q c.in-1-minus2.is-1) c.requires.fit

pub returns-in-1-minus2 : goal.returns-in-1-minus2
returns-in-1-minus2 c =
    same c.args.p c.args.q (pos 1) (negsuc 1) c.args.cells.now c.args.chosen.now c.combine_by-in-1-minus2.new.cells
    (known c.args.p 1 c.ranges.p c.in-1-minus2.is-0) (known c.args.q 65534 c.ranges.q c.in-1-minus2.is-1)
    c.combine_by-in-1-minus2.ensures

pub combine_by-requires-in-1-default-clause-fit : goal.combine_by-requires-in-1-default-clause-fit
combine_by-requires-in-1-default-clause-fit c =
    let f = c.ranges.q in
    simp to_z-of_z
    (fit c.args.p c.args.q (pos 1) c.args.q c.args.cells.now c.args.chosen.now (known c.args.p 1 c.ranges.p c.in-1-default.is-0) refl c.requires.fit)

pub returns-in-1-default : goal.returns-in-1-default
returns-in-1-default c =
    let f = c.ranges.q in
    same c.args.p c.args.q (pos 1) c.args.q c.args.cells.now c.args.chosen.now c.combine_by-in-1-default.new.cells
    (known c.args.p 1 c.ranges.p c.in-1-default.is-0) refl
    (simp to_z-of_z at c.combine_by-in-1-default.ensures)

pub combine_by-requires-in-2-eq1-clause-fit : goal.combine_by-requires-in-2-eq1-clause-fit
combine_by-requires-in-2-eq1-clause-fit c =
    fit c.args.p c.args.q (pos 2) (pos 1) c.args.cells.now c.args.chosen.now (known c.args.p 2 c.ranges.p c.in-2-eq1.is-0)
    (known c.args.q 1 c.ranges.q c.in-2-eq1.is-1) c.requires.fit

pub returns-in-2-eq1 : goal.returns-in-2-eq1
returns-in-2-eq1 c =
    same c.args.p c.args.q (pos 2) (pos 1) c.args.cells.now c.args.chosen.now c.combine_by-in-2-eq1.new.cells (known c.args.p 2 c.ranges.p c.in-2-eq1.is-0)
    (known c.args.q 1 c.ranges.q c.in-2-eq1.is-1)
    c.combine_by-in-2-eq1.ensures

pub combine_by-requires-in-2-minus1-clause-fit : goal.combine_by-requires-in-2-minus1-clause-fit
combine_by-requires-in-2-minus1-clause-fit c =
    fit c.args.p c.args.q (pos 2) (negsuc 0) c.args.cells.now c.args.chosen.now (known c.args.p 2 c.ranges.p c.in-2-minus1.is-0)
    (known c.args.q 65535 c.ranges.q c.in-2-minus1.is-1) c.requires.fit

pub returns-in-2-minus1 : goal.returns-in-2-minus1
returns-in-2-minus1 c =
    same c.args.p c.args.q (pos 2) (negsuc 0) c.args.cells.now c.args.chosen.now c.combine_by-in-2-minus1.new.cells
    (known c.args.p 2 c.ranges.p c.in-2-minus1.is-0) (known c.args.q 65535 c.ranges.q c.in-2-minus1.is-1)
    c.combine_by-in-2-minus1.ensures

pub combine_by-requires-in_default-eq1-clause-fit : goal.combine_by-requires-in_default-eq1-clause-fit
combine_by-requires-in_default-eq1-clause-fit c =
    let f = c.ranges.p in
    simp to_z-of_z
    (fit c.args.p c.args.q c.args.p (pos 1) c.args.cells.now c.args.chosen.now refl (known c.args.q 1 c.ranges.q c.in_default-eq1.is-1) c.requires.fit)

pub returns-in_default-eq1 : goal.returns-in_default-eq1
returns-in_default-eq1 c =
    let f = c.ranges.p in
    same c.args.p c.args.q c.args.p (pos 1) c.args.cells.now c.args.chosen.now c.combine_by-in_default-eq1.new.cells refl
    (known c.args.q 1 c.ranges.q c.in_default-eq1.is-1)
    (simp to_z-of_z at c.combine_by-in_default-eq1.ensures)

pub combine_by-requires-in_default-minus1-clause-fit : goal.combine_by-requires-in_default-minus1-clause-fit
combine_by-requires-in_default-minus1-clause-fit c =
    let f = c.ranges.p in
    simp to_z-of_z
    (fit c.args.p c.args.q c.args.p (negsuc 0) c.args.cells.now c.args.chosen.now refl (known c.args.q 65535 c.ranges.q c.in_default-minus1.is-1)
    c.requires.fit)

pub returns-in_default-minus1 : goal.returns-in_default-minus1
returns-in_default-minus1 c =
    let f = c.ranges.p in
    same c.args.p c.args.q c.args.p (negsuc 0) c.args.cells.now c.args.chosen.now c.combine_by-in_default-minus1.new.cells refl
    (known c.args.q 65535 c.ranges.q c.in_default-minus1.is-1)
    (simp to_z-of_z at c.combine_by-in_default-minus1.ensures)
