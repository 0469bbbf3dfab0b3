use Rattle.ta_program.proofs.Common.{◌≡◌, ◌∙◌, sym, false, rules, tests, list_any, YieldsList-from_slice, any_from_yields_List, Tried, leaves_unknown}
use Rattle.ta_program.proofs.search.end_number.Goals as goal

pub returns-else-any : goal.returns-else-any
returns-else-any c =
    let is : c.any.result ≡ list_any (λ (x : Tried). leaves_unknown x.outcome) c.args.end.now.tried = any_from_yields_List
    (λ (x : Tried). leaves_unknown x.outcome) _ _ _ c.any.ensures.ran (YieldsList-from_slice c.args.end.now.tried (cc)) (λ x b q k. search (rules, tests))
    in
    let none : list_any (λ (x : Tried). leaves_unknown x.outcome) c.args.end.now.tried ≡ false = sym is ∙ c.if-any.false in
    rw none (search (rules, tests))
