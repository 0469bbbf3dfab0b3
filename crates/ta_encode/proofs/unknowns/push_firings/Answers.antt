use Rattle.ta_encode.proofs.Common.{length, ◌<◌, ◌++◌, ◌∷◌, [], map, arith, ap, ◌∙◌, append_assoc, filter, has_bit, range_with_len, bit_off, bit_on}
use Rattle.ta_encode.proofs.Common.{passed_none, passed_one, firing}
use Rattle.ta_encode.proofs.unknowns.push_firings.Goals.{then-allowed-rule-ne0+in_ok-push, else-allowed-rule-ne0}
use Rattle.ta_base.proofs.Ranges.{passed_most}
use Rattle.ta_encode.proofs.unknowns.push_firings.Goals as goal

pub loop-rule-preserved : goal.loop-rule-preserved
loop-rule-preserved c =
    let r = c.loop-rule.rule in
    let f = firing c.args.single c.args.element in
    let before = c.args.meanings.now.items in
    let done = map f (filter (has_bit c.args.allowed) (range_with_len 0 r)) in
    let within : r < 128 = (let b = c.loop-rule-test.true in let most = c.requires in omega arith) in
    elim c.if-allowed-rule-ne0.branch [
      | then-allowed-rule-ne0+in_ok-push w ↦
          ap (λ v. v.items) w.meanings-is ∙ w.in_ok-push.ensures.items ∙ ap (λ m. c.loop-rule.meanings.items ++ m ∷ []) w.firing.ensures
          ∙ ap (λ ms. ms ++ f r ∷ []) c.loop-rule.invariant
          ∙ append_assoc before done (f r ∷ []) ∙ ap (λ ms. before ++ ms)
          (passed_one f (has_bit c.args.allowed) r (bit_on 128 c.args.allowed r within w.if-allowed-rule-ne0.true))
      | else-allowed-rule-ne0 w ↦
          ap (λ v. v.items) w.meanings-is ∙ c.loop-rule.invariant
          ∙ ap (λ ms. before ++ ms) (passed_none f (has_bit c.args.allowed) r (bit_off 128 c.args.allowed r within w.if-allowed-rule-ne0.false))
    ]

pub returns-in_err-push-clause-most : goal.returns-in_err-push-clause-most
returns-in_err-push-clause-most c = omega (
  arith,
  c.loop-rule.auto.rule-end,
  ap length c.in_err-push.ensures.items,
  passed_most (firing c.args.single c.args.element) (has_bit c.args.allowed)
      c.args.meanings.now.items c.loop-rule.meanings.items 0 c.loop-rule.rule c.loop-rule.invariant,
)

pub returns-clause-most : goal.returns-clause-most
returns-clause-most c = omega (
  arith,
  c.loop-rule.auto.rule-end,
  passed_most (firing c.args.single c.args.element) (has_bit c.args.allowed)
      c.args.meanings.now.items c.loop-rule.meanings.items 0 c.loop-rule.rule c.loop-rule.invariant,
)
