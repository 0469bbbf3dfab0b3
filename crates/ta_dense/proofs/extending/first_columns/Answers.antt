use Rattle.ta_dense.proofs.Common.{◌≡◌, arith, sym, ◌∙◌, ap, ◌+◌, suc, ◌++◌, ◌∷◌, [], List, ℕ, range_with_len, range_more}
use Rattle.ta_dense.proofs.extending.first_columns.Goals as goal

pub loop-unknown-preserved : goal.loop-unknown-preserved
loop-unknown-preserved c =
    let n = c.loop-unknown.unknown in
    let e : suc c.loop-unknown.unknown ≡ c.loop-unknown.unknown + 1 = omega arith in
    let z : 0 + c.loop-unknown.unknown ≡ c.loop-unknown.unknown = omega arith in
    c.in_ok-push.ensures.items ∙ ap (λ (xs : List ℕ). xs ++ n ∷ []) c.loop-unknown.invariant ∙ ap (λ (x : ℕ). range_with_len 0 n ++ x ∷ []) (sym z)
    ∙ sym (range_more 0 n) ∙ ap (range_with_len 0) e

pub returns : goal.returns
returns c =
    let all : c.loop-unknown.unknown ≡ c.args.unknowns = omega arith in
    c.loop-unknown.invariant ∙ ap (range_with_len 0) all
