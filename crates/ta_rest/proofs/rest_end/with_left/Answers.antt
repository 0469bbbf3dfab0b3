use Rattle.ta_rest.proofs.Common.{◌≡◌, inl, inr, ◌<◌, eqb, false, reverse, arith, sym, ◌∙◌, eqb_tells}
use Rattle.ta_rest.proofs.RestMasks.{out_of}
use Rattle.ta_rest.proofs.rest_end.with_left.Goals as goal

pub returns-then-is_unlocked : goal.returns-then-is_unlocked
returns-then-is_unlocked c = λ l.
    let a = c.args.automaton.now in
    let rule = c.args.rule.now in
    let limit = a.shape.limits.locations_limit in
    let from = c.requires.from in
    let small : rule.from < 128 = omega arith in
    let apart : eqb rule.from rule.to ≡ false = elim (eqb_tells rule.from rule.to) [ inl e ↦ absurd (c.if-rule.true e.1) | inr ne ↦ ne.0 ] in
    out_of a c.args.start_mask (reverse c.args.elements.now) rule c.args.left l small apart (sym c.is_unlocked.ensures ∙ c.if-is_unlocked.true)
