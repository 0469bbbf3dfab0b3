use Rattle.ta_dense.proofs.Common.{◌≡◌, arith, sym, ◌∙◌, ap, ◌+◌, suc, ◌++◌, ◌∷◌, [], List, ℕ, map, append_assoc, range_with_len, range_more, raised}
use Rattle.ta_dense.proofs.extending.raised_columns.Goals as goal

pub loop-unknown-preserved : goal.loop-unknown-preserved
loop-unknown-preserved c =
    let u = c.args.unknowns in
    let n = c.loop-unknown.unknown in
    let e : suc c.loop-unknown.unknown ≡ c.loop-unknown.unknown + 1 = omega arith in
    let old = map (raised c.args.unknowns c.args.new) c.args.non_basic.now in
    c.in_ok-push.ensures.items ∙ ap (λ (xs : List ℕ). xs ++ (u + n) ∷ []) c.loop-unknown.invariant ∙ append_assoc old (range_with_len u n) ((u + n) ∷ [])
    ∙ ap (λ (xs : List ℕ). old ++ xs) (sym (range_more u n) ∙ ap (range_with_len u) e)
