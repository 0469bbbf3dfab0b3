use Rattle.ta_meaning.proofs.Common.{ℤ, pos, ◌≤◌, ◌-ℤ◌, unsigned_abs, FitsSigned, sym, ap, refl, subst, rules, w128, to_z-of_z}
use Rattle.ta_meaning.proofs.SmallForms.{shifted_difference, shifted_fits}
use Rattle.ta_meaning.proofs.forms.difference.Goals as goal

pub returns : goal.returns
returns c =
    let unshifted = c.in_ok-unshifted.unshifted in
    let is = c.in_ok-unshifted.ensures in
    let one : FitsSigned w128 unshifted.constant = search rules in
    let two : FitsSigned w128 c.from.result = search rules in
    let small : unsigned_abs c.from.result ≤ 1 = subst (λ (z : ℤ). unsigned_abs z ≤ 1) (sym c.from.ensures) c.requires.shift in
    let all : FitsSigned w128 (unshifted.constant -ℤ c.from.result) = shifted_fits unshifted.constant c.args.greater.now.constant c.args.less.now.constant
    c.from.result is.constant c.requires.greater.constant c.requires.less.constant small in
    shifted_difference unshifted c.args.greater.now c.args.less.now _ (pos c.args.shift) is refl
    (simp to_z-of_z (ap (λ (z : ℤ). unshifted.constant -ℤ z) c.from.ensures))
