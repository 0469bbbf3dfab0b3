use Rattle.ta_report.proofs.Common.{List, ℕ, ℤ, ◌≡◌, ◌==◌, ◌++◌, ◌∷◌, ◌∙◌, ap, rules, subst, sym, unsigned_abs, FitsSigned, w128, to_z-of_z, on_ok_weaker}
use Rattle.ta_report.proofs.Common.{constant_text, each, first_text, summands_text, term_text}
use Rattle.std.proofs.Common.{string_bytes}
use Rattle.ta_report.proofs.Showing.{behind}
use Rattle.ta_report.proofs.shown.show_sum.Goals as goal

pub returns : goal.returns
returns c =
    let a = c.args.automaton.now in
    let z = c.args.form.now.constant in
    let fits : FitsSigned w128 z = search rules in
    let t0 = string_bytes c.args.text.now in
    let t1 = string_bytes c.show_first.new.text in
    let t2 = string_bytes c.show_terms.new.text in
    let t3 = string_bytes c.show_constant.new.text in
    let first = c.in-Some.first.now in
    let others = c.in-Some.others.now in
    let x1 : List ℕ = each (term_text a) others in
    let x2 : List ℕ = constant_text (unsigned_abs z == 0) z in
    let terms : first ∷ others ≡ c.args.form.now.terms = sym c.in-Some.ensures.cases.0 ∙ c.as_slice.ensures in
    on_ok_weaker c.show_constant.result (λ h.
    let last : t3 ≡ t2 ++ x2 = h ∙ ap (λ (y : ℤ). t2 ++ constant_text (unsigned_abs y == 0) y) (to_z-of_z w128 z fits) in
    subst (λ (ts : List (ℕ × ℤ)). t3 ≡ t0 ++ summands_text a ts z) terms
    (behind t0 t1 t3 (first_text a first) (x1 ++ x2) c.in_ok-show_first.ensures (behind t1 t2 t3 x1 x2 c.in_ok-show_terms.ensures last)))
    c.show_constant.ensures
