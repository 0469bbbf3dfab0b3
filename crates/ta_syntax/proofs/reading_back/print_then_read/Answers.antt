use Rattle.ta_syntax.proofs.Common.{List, ℕ, sym, subst, ◌∙◌, err_is, plain_tree, IsTextOf}
use Rattle.ta_syntax.proofs.ReadBack.{text_of}
use Rattle.ta_syntax.proofs.reading_back.print_then_read.Goals as goal

pub returns-in_err-again : goal.returns-in_err-again
returns-in_err-again c =
    let t = c.args.tree.now in
    let is = c.as_bytes.ensures.value ∙ c.as_str.ensures ∙ c.in_ok-text.ensures in
    let text = subst (λ (b : List ℕ). IsTextOf b (plain_tree t)) (sym is) (text_of t) in
    rw (err_is c.from_residual-in_err-again.result _ c.from_residual-in_err-again.ensures.1)
    (record { same = tt; only = λ within. c.in_err-again.ensures.only (plain_tree t) text within })

pub returns : goal.returns
returns c =
    let t = c.args.tree.now in
    let is = c.as_bytes.ensures.value ∙ c.as_str.ensures ∙ c.in_ok-text.ensures in
    let text = subst (λ (b : List ℕ). IsTextOf b (plain_tree t)) (sym is) (text_of t) in
    record { same = sym (c.in_ok-again.ensures.alone (plain_tree t) text); only = λ within. tt }
