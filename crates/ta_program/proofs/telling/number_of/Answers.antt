use Rattle.ta_program.proofs.Common.{◌≡◌, sym, ◌∙◌, true, false, rules, tests, list_any, YieldsList-from_slice, any_from_yields_List, is_unsafe, is_unknown}
use Rattle.ta_program.proofs.telling.number_of.Goals as goal

pub returns-then-any-2 : goal.returns-then-any-2
returns-then-any-2 c =
    let some : c.any.result ≡ list_any is_unsafe c.args.verdicts.now = any_from_yields_List is_unsafe _ _ _ c.any.ensures.ran
    (YieldsList-from_slice c.args.verdicts.now (cc)) (λ x b q k. search (rules, tests)) in
    let other : c.any-else-any.result ≡ list_any is_unknown c.args.verdicts.now = any_from_yields_List is_unknown _ _ _ c.any-else-any.ensures.ran
    (YieldsList-from_slice c.args.verdicts.now (cc)) (λ x b q k. search (rules, tests)) in
    let none : list_any is_unsafe c.args.verdicts.now ≡ false = sym some ∙ c.if-any.false in
    let is : list_any is_unknown c.args.verdicts.now ≡ true = sym other ∙ c.if-any-2.true in
    rw (none, is)

pub returns-else-any-2 : goal.returns-else-any-2
returns-else-any-2 c =
    let some : c.any.result ≡ list_any is_unsafe c.args.verdicts.now = any_from_yields_List is_unsafe _ _ _ c.any.ensures.ran
    (YieldsList-from_slice c.args.verdicts.now (cc)) (λ x b q k. search (rules, tests)) in
    let other : c.any-else-any.result ≡ list_any is_unknown c.args.verdicts.now = any_from_yields_List is_unknown _ _ _ c.any-else-any.ensures.ran
    (YieldsList-from_slice c.args.verdicts.now (cc)) (λ x b q k. search (rules, tests)) in
    let none : list_any is_unsafe c.args.verdicts.now ≡ false = sym some ∙ c.if-any.false in
    let no_other : list_any is_unknown c.args.verdicts.now ≡ false = sym other ∙ c.if-any-2.false in
    rw (none, no_other)
