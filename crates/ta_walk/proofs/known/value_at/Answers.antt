use Rattle.ta_walk.proofs.Common.{rules, ◌≡◌, ℕ, ℤ, List, Option, Some, None, length, sym, ap, ◌∙◌, arith, FitsSigned, ◌*ℤ◌, option_copied, w128, to_z-of_z}
use Rattle.ta_walk.proofs.Common.{coefficient, if_fits, with_products}
use Rattle.std.specs.Prelude.{◌-ℤ◌}
use Rattle.ta_moments.specs.Forms.{minus_form}
use Rattle.ta_moment_tree.specs.Forms.{form_in}
use Rattle.ta_walk.proofs.Fitting.{none_stays}
use Rattle.ta_walk.proofs.known.value_at.Goals as goal

pub returns-in-None : goal.returns-in-None
returns-in-None c =
    let form = minus_form (form_in (option_copied c.args.above)) (form_in (option_copied c.args.beneath)) in
    let numbers = c.args.vertex.now.numbers in
    let none : None ≡ if_fits (form.constant *ℤ c.args.vertex.now.denominator) = c.in-None.ensures in
    sym (none_stays form.coefficient numbers _ 0 (length numbers) (omega arith) (sym none))

pub returns-in-Some : goal.returns-in-Some
returns-in-Some c =
    let form = minus_form (form_in (option_copied c.args.above)) (form_in (option_copied c.args.beneath)) in
    let numbers = c.args.vertex.now.numbers in
    let sum : FitsSigned w128 c.in-Some.sum = search rules in
    let start : Some c.in-Some.sum ≡ if_fits (form.constant *ℤ c.args.vertex.now.denominator) = c.in-Some.ensures in
    let one = c.terms_of.result.now in
    let other = c.terms_of-in-Some.result.now in
    let upper = (form_in (option_copied c.args.above)).coefficient in
    let lower = (form_in (option_copied c.args.beneath)).coefficient in
    let value : (ℕ → ℤ) → (ℕ → ℤ) → List ℤ → Option ℤ → Option ℤ = λ f g ns o. with_products (λ u. f u -ℤ g u) ns o (length ns) in
    let added : c.add_terms.result ≡ value (coefficient one) (coefficient other) c.as_slice.result.now (Some c.in-Some.sum) =
    simp to_z-of_z at c.add_terms.ensures in
    added
    ∙ ap (λ ns. value (coefficient one) (coefficient other) ns (Some c.in-Some.sum)) c.as_slice.ensures
    ∙ ap (λ f. value f (coefficient other) numbers (Some c.in-Some.sum)) (sym c.terms_of.ensures.coefficients)
    ∙ ap (λ f. value upper f numbers (Some c.in-Some.sum)) (sym c.terms_of-in-Some.ensures.coefficients)
    ∙ ap (value upper lower numbers) start
