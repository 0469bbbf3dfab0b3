use Rattle.ta_syntax.proofs.Common.{◌≡◌, ◌+◌, ◌∷◌, [], drop, sym, ap, subst, ◌∙◌, arith, drop_more, drop_of_length-le, string_bytes, listed, further, Prints}
use Rattle.ta_syntax.proofs.PrintSteps.{Goes, goes_on, goes_to_end, prints_then}
use Rattle.ta_syntax.specs.declared.tokens.Kind.TheVariants as kind
use Rattle.ta_syntax.specs.declared.tokens.Mark.TheVariants as mark
use Rattle.ta_syntax.proofs.printing.print_listed.Goals as goal

pub items-preserved : goal.items-preserved
items-preserved g c =
    let f = g.T.Printed.spelled in
    let xs = c.in-Some.rest.now in
    let i = c.items.item-index in
    let x = c.item-item.result in
    let start = string_bytes c.print.new.text in
    let now = string_bytes c.items.text in
    let between = string_bytes c.put_mark.new.text in
    let next = string_bytes c.print-in-items.new.text in
    let all = further kind.Fixed f xs in
    let here : drop i xs ≡ x ∷ drop (i + 1) xs = drop_more xs i x (omega arith) ∙ ap (λ y. y ∷ drop (i + 1) xs) (sym c.item-item.is) in
    let one = prints_then now between next (kind.Fixed mark.Comma ∷ []) (f x) c.in_ok-put_mark.ensures c.in_ok-print-2.ensures in
    goes_on start now next all (kind.Fixed mark.Comma ∷ f x) (further kind.Fixed f (drop (i + 1) xs))
    (subst (λ ys. Goes start now all (further kind.Fixed f ys)) here c.items.invariant) one

pub returns : goal.returns
returns g c =
    let f = g.T.Printed.spelled in
    let xs = c.in-Some.rest.now in
    let before = string_bytes c.args.text.now in
    let start = string_bytes c.print.new.text in
    let now = string_bytes c.items.text in
    let all = further kind.Fixed f xs in
    let rest = goes_to_end start now all
    (subst (λ ys. Goes start now all (further kind.Fixed f ys)) (drop_of_length-le xs c.items-test.false) c.items.invariant) in
    let whole = prints_then before start now (f c.in-Some.first.now) all c.in_ok-print.ensures rest in
    subst (λ ys. Prints before now (listed kind.Fixed f ys)) (sym c.in-Some.ensures.cases.0) whole
