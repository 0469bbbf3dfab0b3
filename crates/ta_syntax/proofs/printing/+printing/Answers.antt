use Rattle.ta_syntax.proofs.Common.{◌≡◌, ◌+◌, ◌∷◌, ◌++◌, [], zero, suc, List, ℕ, drop, sym, ap, subst, ◌∙◌, arith, drop_more, drop_of_length-le, string_bytes}
use Rattle.ta_syntax.proofs.Common.{if_ok_then, sum_kinds, term_kinds, factor_kinds, plain_sum, plain_term, plain_terms, plain_factor, Prints, sign_before}
use Rattle.ta_syntax.proofs.Common.{Kind, Sign, TreeTerm, TreeFactor}
use Rattle.ta_syntax.proofs.PrintSteps.{Goes, goes_on, goes_to_end, prints_then, signed, signed_all, plain_sum_out}
use Rattle.ta_syntax.proofs.SumSteps.{plain_nested}
use Rattle.ta_syntax.specs.declared.tokens.Kind.TheVariants as kind
use Rattle.ta_syntax.specs.declared.tokens.Mark.TheVariants as mark
use Rattle.ta_syntax.proofs.printing.+printing.Goals as goal

pub print_factor-returns-in_ok-print_sum-in-Nested : goal.print_factor-returns-in_ok-print_sum-in-Nested
print_factor-returns-in_ok-print_sum-in-Nested t c =
    let before = string_bytes c.args.text.now in
    let opened = string_bytes c.put_mark.new.text in
    let inside = string_bytes c.print_sum.new.text in
    let closed = string_bytes c.put_mark-in-Nested.new.text in
    let sum = c.in-Nested.sum in
    let is = ap (λ (f : TreeFactor). factor_kinds (plain_factor f)) c.in-Nested.is ∙ ap factor_kinds (plain_nested sum) in
    if_ok_then c.put_mark-in-Nested.result
    (λ (p : Prints inside closed (kind.Fixed mark.Close ∷ [])).
    subst (λ (ks : List Kind). Prints before closed ks) (sym is)
    (prints_then before opened closed (kind.Fixed mark.Open ∷ []) (sum_kinds (plain_sum sum) ++ kind.Fixed mark.Close ∷ []) c.in_ok-put_mark-in-Nested.ensures
    (prints_then opened inside closed (sum_kinds (plain_sum sum)) (kind.Fixed mark.Close ∷ []) c.in_ok-print_sum-in-Nested.ensures p)))
    c.put_mark-in-Nested.ensures

pub print_sum-terms-preserved : goal.print_sum-terms-preserved
print_sum-terms-preserved t c =
    let xs = c.deref-term-items.result.now in
    let i = c.terms.place in
    let x = c.term-item.result in
    let start = string_bytes c.args.text.now in
    let now = string_bytes c.terms.text in
    let between = string_bytes c.put_sign.new.text in
    let next = string_bytes c.print_term.new.text in
    let all = signed zero xs in
    let rest = signed (suc i) (drop (i + 1) xs) in
    let one_on : suc i ≡ i + 1 = omega arith in
    let here : drop i xs ≡ x ∷ drop (i + 1) xs = drop_more xs i x (omega arith) ∙ ap (λ (y : Sign × TreeTerm). y ∷ drop (i + 1) xs) (sym c.term-item.is) in
    let had = subst (λ (ys : List (Sign × TreeTerm)). Goes start now all (signed i ys)) here c.terms.invariant in
    let behind_sign = goes_on start now between all (sign_before i x.0) (term_kinds (plain_term x.1) ++ rest) had c.in_ok-put_sign.ensures in
    subst (λ (n : ℕ). Goes start next all (signed n (drop (i + 1) xs))) one_on
    (goes_on start between next all (term_kinds (plain_term x.1)) rest behind_sign c.in_ok-print_term.ensures)

pub print_sum-returns : goal.print_sum-returns
print_sum-returns t c =
    let xs = c.deref-term-items.result.now in
    let start = string_bytes c.args.text.now in
    let now = string_bytes c.terms.text in
    let i = c.terms.place in
    let whole = goes_to_end start now (signed zero xs)
    (subst (λ (ys : List (Sign × TreeTerm)). Goes start now (signed zero xs) (signed i ys)) (drop_of_length-le xs c.terms-test.false) c.terms.invariant) in
    let is = signed_all xs ∙ ap (λ (ys : List (Sign × TreeTerm)). sum_kinds (plain_terms ys)) c.deref-term-items.ensures.value
    ∙ ap sum_kinds (sym (plain_sum_out c.args.sum.now)) in
    subst (λ (ks : List Kind). Prints start now ks) is whole
