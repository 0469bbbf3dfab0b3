use Rattle.ta_compress.proofs.Common.{rules, arith, ◌≡◌, ◌++◌, ◌∷◌, [], ℕ, ℤ, pos, List, map, sym, ap, ◌∙◌, get_or, take, append_assoc, take_more, take_all}
use Rattle.ta_compress.proofs.Common.{map_push, ints, w128, to_z, of_z, RunLine, Step, step_line}
use Rattle.ta_compress.proofs.draft.push_steps.Goals as goal

pub loop-rule-preserved : goal.loop-rule-preserved
loop-rule-preserved c =
    let steps = c.args.steps.now in
    let i = c.loop-rule.rule-index in
    let item = get_or steps i (0, pos 0) in
    let old = c.args.lines.now.items in
    let same : to_z w128 (of_z w128 item.1) ≡ item.1 = search (rules, arith, ints) in
    c.in_ok-push.ensures.items
    ∙ ap (λ z. c.loop-rule.lines.items ++ Step item.0 z ∷ []) same
    ∙ ap (λ (xs : List RunLine). xs ++ step_line item ∷ []) c.loop-rule.invariant
    ∙ append_assoc old (map step_line (take i steps)) (step_line item ∷ [])
    ∙ ap (λ (xs : List RunLine). old ++ xs)
    (sym (ap (map step_line) (take_more steps i (0, pos 0) c.loop-rule-test.true) ∙ map_push step_line (take i steps) item))

pub returns : goal.returns
returns c = λ _. c.loop-rule.invariant ∙ ap (λ (xs : List (ℕ × ℤ)). c.args.lines.now.items ++ map step_line xs)
    (take_all c.loop-rule.rule-index c.args.steps.now c.loop-rule-test.false)
