use Rattle.ta_encode.proofs.Common.{◌≡◌, ◌+◌, ◌++◌, ◌∷◌, [], map, arith, sym, ap, ◌∙◌, append_assoc, map-append, range_with_len, numbers_more, Parameter}
use Rattle.ta_encode.proofs.unknowns.push_parameters.Goals as goal

pub loop-parameter-preserved : goal.loop-parameter-preserved
loop-parameter-preserved c =
    let i = c.loop-parameter.parameter in
    let before = c.args.meanings.now.items in
    let done = map Parameter (range_with_len 0 i) in
    c.in_ok-push.ensures.items ∙ ap (λ ms. ms ++ Parameter i ∷ []) c.loop-parameter.invariant ∙ append_assoc before done (Parameter i ∷ [])
    ∙ ap (λ ms. before ++ ms) (sym (ap (map Parameter) (numbers_more 0 i ∙ ap (λ k. range_with_len 0 i ++ k ∷ []) (let e : 0 + i ≡ i = omega arith in e))
    ∙ map-append Parameter (range_with_len 0 i) (i ∷ [])))
