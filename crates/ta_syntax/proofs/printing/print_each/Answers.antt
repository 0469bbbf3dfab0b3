use Rattle.ta_syntax.proofs.Common.{◌≡◌, ◌+◌, ◌∷◌, drop, sym, ap, subst, ◌∙◌, arith, drop_more, drop_of_length-le, string_bytes, each}
use Rattle.ta_syntax.proofs.PrintSteps.{Goes, goes_on, goes_to_end}
use Rattle.ta_syntax.proofs.printing.print_each.Goals as goal

pub items-preserved : goal.items-preserved
items-preserved g c =
    let f = g.T.Printed.spelled in
    let xs = c.args.items.now in
    let i = c.items.item-index in
    let x = c.item-item.result in
    let start = string_bytes c.args.text.now in
    let now = string_bytes c.items.text in
    let here : drop i xs ≡ x ∷ drop (i + 1) xs = drop_more xs i x (omega arith) ∙ ap (λ y. y ∷ drop (i + 1) xs) (sym c.item-item.is) in
    goes_on start now (string_bytes c.print.new.text) (each f xs) (f x) (each f (drop (i + 1) xs))
    (subst (λ ys. Goes start now (each f xs) (each f ys)) here c.items.invariant) c.in_ok-print.ensures

pub returns : goal.returns
returns g c =
    let f = g.T.Printed.spelled in
    let xs = c.args.items.now in
    let start = string_bytes c.args.text.now in
    let now = string_bytes c.items.text in
    goes_to_end start now (each f xs) (subst (λ ys. Goes start now (each f xs) (each f ys)) (drop_of_length-le xs c.items-test.false) c.items.invariant)
