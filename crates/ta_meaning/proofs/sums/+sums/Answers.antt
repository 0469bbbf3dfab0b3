use Rattle.ta_meaning.proofs.Common.{◌≡◌, inr, ◌+◌, ◌^◌, ◌∷◌, List, drop, sym, ap, subst, ◌∙◌, rules, arith, pos, FitsSigned, w128, to_z-of_z, err_is}
use Rattle.ta_meaning.proofs.Common.{drop_more, drop_of_length-le, Terms, plain_sum, plain_terms, Sign, TreeTerm, FileFault, sum_uses, linear_sum, out-TreeTerm}
use Rattle.ta_meaning.proofs.Common.{FirstOrMemory, sum_faults, first_places, PartOf}
use Rattle.ta_syntax.proofs.PrintSteps.{plain_sum_out}
use Rattle.ta_meaning.proofs.Answering.{judges-answer}
use Rattle.ta_meaning.proofs.TreeSums.{terms_faults, sum_faults_out}
use Rattle.ta_meaning.proofs.SmallForms.{within_more}
use Rattle.ta_meaning.proofs.PartForms.{named_answers, nested_answers, factor_first, alone_first, number_small, alone_answers, number_first, product_answers}
use Rattle.ta_meaning.proofs.PartForms.{Summing, sum_begins, sum_more, sum_fails, sum_ends, sum_within}
use Rattle.ta_meaning.proofs.sums.+sums.Goals as goal

pub sum_form-terms-init : goal.sum_form-terms-init
sum_form-terms-init t c = sum_begins (first_places c.args.places.now.names c.args.allowed) c.deref-term-items.result.now c.constant_of-form.result
    c.constant_of-form.ensures.constant c.constant_of-form.ensures.terms

pub sum_form-returns-in_err-next : goal.sum_form-returns-in_err-next
sum_form-returns-in_err-next t c =
    let s = first_places c.args.places.now.names c.args.allowed in
    let xs = c.deref-term-items.result.now in
    let i = c.terms.term-index in
    let x = c.term-item.result in
    let here : drop i xs ≡ x ∷ drop (i + 1) xs = drop_more xs i x (omega arith) ∙ ap (λ (y : Sign × TreeTerm). y ∷ drop (i + 1) xs) (sym c.term-item.is) in
    let had = subst (λ (ys : List (Sign × TreeTerm)). Summing s xs ys i c.terms.form) here c.terms.invariant in
    let first = sum_fails s xs (drop (i + 1) xs) x i c.terms.form c.in_err-next.field-0.0 had c.in_err-next.ensures in
    let all : terms_faults s xs ≡ sum_faults s c.args.sum.now = ap (λ (ys : List (Sign × TreeTerm)). terms_faults s ys) c.deref-term-items.ensures.value
    ∙ sym (sum_faults_out s c.args.sum.now) in
    rw (err_is c.from_residual.result _ c.from_residual.ensures.1) (subst (λ (fs : List FileFault). FirstOrMemory fs c.in_err-next.field-0.0) all first)

pub sum_form-plus_signed-requires-clause-a : goal.sum_form-plus_signed-requires-clause-a
sum_form-plus_signed-requires-clause-a t c =
    let s = first_places c.args.places.now.names c.args.allowed in
    let xs = c.deref-term-items.result.now in
    sum_within s xs (drop c.terms.term-index xs) c.terms.term-index c.terms.form c.terms.invariant (omega arith)

pub sum_form-terms-preserved : goal.sum_form-terms-preserved
sum_form-terms-preserved t c =
    let s = first_places c.args.places.now.names c.args.allowed in
    let xs = c.deref-term-items.result.now in
    let i = c.terms.term-index in
    let x = c.term-item.result in
    let here : drop i xs ≡ x ∷ drop (i + 1) xs = drop_more xs i x (omega arith) ∙ ap (λ (y : Sign × TreeTerm). y ∷ drop (i + 1) xs) (sym c.term-item.is) in
    let had = subst (λ (ys : List (Sign × TreeTerm)). Summing s xs ys i c.terms.form) here c.terms.invariant in
    sum_more s xs (drop (i + 1) xs) x i c.terms.form c.in_ok-next.next c.in_ok-form.form had c.in_ok-next.ensures.0 c.in_ok-next.ensures.1 c.in_ok-form.ensures

pub sum_form-returns : goal.sum_form-returns
sum_form-returns t c =
    let s = first_places c.args.places.now.names c.args.allowed in
    let xs = c.deref-term-items.result.now in
    let i = c.terms.term-index in
    let had = subst (λ (ys : List (Sign × TreeTerm)). Summing s xs ys i c.terms.form) (drop_of_length-le xs c.terms-test.false) c.terms.invariant in
    let ended = sum_ends s xs i c.terms.form had (omega arith) in
    let all : terms_faults s xs ≡ sum_faults s c.args.sum.now = ap (λ (ys : List (Sign × TreeTerm)). terms_faults s ys) c.deref-term-items.ensures.value
    ∙ sym (sum_faults_out s c.args.sum.now) in
    let plain : plain_terms xs ≡ plain_sum c.args.sum.now = ap (λ (ys : List (Sign × TreeTerm)). plain_terms ys) c.deref-term-items.ensures.value
    ∙ sym (plain_sum_out c.args.sum.now) in
    (sym all ∙ ended.0, subst (λ (ts : Terms). PartOf (sum_uses s.allowed ts) (linear_sum s.allowed ts) (2 ^ 93) c.terms.form) plain ended.1)

pub term_form-returns-in_err-number-in-Some : goal.term_form-returns-in_err-number-in-Some
term_form-returns-in_err-number-in-Some t c =
    rw (err_is c.from_residual-in_err-number-in-Some.result _ c.from_residual-in_err-number-in-Some.ensures.1)
    (number_first (first_places c.args.places.now.names c.args.allowed) c.args.term.now c.in-Some.body c.in_err-number-in-Some.field-0.0 c.in-Some.is
    (inr c.in_err-number-in-Some.ensures))

pub term_form-returns-in_ok-number-in-None : goal.term_form-returns-in_ok-number-in-None
term_form-returns-in_ok-number-in-None t c =
    let fits : FitsSigned w128 c.from.result = search rules in
    let is : c.constant_of.result.constant ≡ pos c.in_ok-number-in-None.number = (simp to_z-of_z at c.constant_of.ensures.constant) ∙ c.from.ensures in
    alone_answers (first_places c.args.places.now.names c.args.allowed) c.args.term.now c.in_ok-number-in-None.number c.constant_of.result c.in-None.is
    c.in_ok-number-in-None.ensures.0 c.in_ok-number-in-None.ensures.1 is c.constant_of.ensures.terms

pub term_form-returns-in_ok-product-in-Some : goal.term_form-returns-in_ok-product-in-Some
term_form-returns-in_ok-product-in-Some t c =
    product_answers (first_places c.args.places.now.names c.args.allowed) c.args.term.now c.in-Some.body c.in_ok-number-in-Some.number c.in_ok-form-in-Some.form
    c.in_ok-product-in-Some.product c.small_form.result
    c.in-Some.is c.in_ok-number-in-Some.ensures.0 c.in_ok-number-in-Some.ensures.1 c.in_ok-form-in-Some.ensures.0 c.in_ok-form-in-Some.ensures.1
    c.in_ok-product-in-Some.ensures (judges-answer _ _ c.small_form.result c.small_form.ensures)

pub factor_form-returns-in-Named : goal.factor_form-returns-in-Named
factor_form-returns-in-Named t c = named_answers (first_places c.args.places.now.names c.args.allowed) c.args.factor.now c.in-Named.name c.name_form.result
    c.in-Named.is c.name_form.ensures

pub factor_form-returns-in-Nested : goal.factor_form-returns-in-Nested
factor_form-returns-in-Nested t c = nested_answers (first_places c.args.places.now.names c.args.allowed) c.args.factor.now c.in-Nested.sum c.sum_form.result
    c.in-Nested.is c.sum_form.ensures

pub term_form-returns-in_err-form-in-Some : goal.term_form-returns-in_err-form-in-Some
term_form-returns-in_err-form-in-Some t c =
    rw (err_is c.from_residual-in_err-form-in-Some.result _ c.from_residual-in_err-form-in-Some.ensures.1)
    (factor_first (first_places c.args.places.now.names c.args.allowed) c.args.term.now c.in-Some.body c.in_err-form-in-Some.field-0.0 c.in-Some.is
    c.in_ok-number-in-Some.ensures.0 c.in_err-form-in-Some.ensures)

pub term_form-returns-in_err-number-in-None : goal.term_form-returns-in_err-number-in-None
term_form-returns-in_err-number-in-None t c =
    rw (err_is c.from_residual.result _ c.from_residual.ensures.1)
    (alone_first (first_places c.args.places.now.names c.args.allowed) c.args.term.now c.in_err-number-in-None.field-0.0 c.in-None.is
    (inr c.in_err-number-in-None.ensures))

pub term_form-times-requires-clause-form : goal.term_form-times-requires-clause-form
term_form-times-requires-clause-form t c = within_more (2 ^ 93) (2 ^ 94) c.in_ok-form-in-Some.form (omega arith) c.in_ok-form-in-Some.ensures.1.within

pub term_form-times-requires-clause-factor : goal.term_form-times-requires-clause-factor
term_form-times-requires-clause-factor t c = number_small (out-TreeTerm c.args.term.now).factor c.in_ok-number-in-Some.number c.in_ok-number-in-Some.ensures.0
    c.in_ok-number-in-Some.ensures.1

pub sum_form-plus_signed-requires-clause-b : goal.sum_form-plus_signed-requires-clause-b
sum_form-plus_signed-requires-clause-b t c = c.in_ok-next.ensures.1.within
