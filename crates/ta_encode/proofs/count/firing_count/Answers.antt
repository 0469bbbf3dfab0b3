use Rattle.ta_encode.proofs.Common.{◌+◌, ◌<◌, ◌^◌, arith, ap, sym, ◌∙◌, has_bit, bit_off, bit_on, count_few, count_none, count_one}
use Rattle.ta_encode.proofs.count.firing_count.Goals.{then-allowed-rule-ne0, else-allowed-rule-ne0}
use Rattle.ta_encode.proofs.count.firing_count.Goals as goal

pub overflow_add-count : goal.overflow_add-count
overflow_add-count c =
    let few = count_few (has_bit c.args.allowed) c.loop-rule.rule in
    let below = c.loop-rule-test.true in
    let most = c.requires in
    let is = c.loop-rule.invariant in
    let small : c.loop-rule.count + 1 < 2 ^ 32 = omega arith in
    record { fits = small }

pub loop-rule-preserved : goal.loop-rule-preserved
loop-rule-preserved c =
    let r = c.loop-rule.rule in
    let within : r < 128 = (let b = c.loop-rule-test.true in let most = c.requires in omega arith) in
    elim c.if-allowed-rule-ne0.branch [
      | then-allowed-rule-ne0 w ↦ w.count-is ∙ ap (λ n. n + 1) c.loop-rule.invariant
          ∙ sym (count_one (has_bit c.args.allowed) r (bit_on 128 c.args.allowed r within w.if-allowed-rule-ne0.true))
      | else-allowed-rule-ne0 w ↦ w.count-is ∙ c.loop-rule.invariant
          ∙ sym (count_none (has_bit c.args.allowed) r (bit_off 128 c.args.allowed r within w.if-allowed-rule-ne0.false))
    ]

pub returns-clause-few : goal.returns-clause-few
returns-clause-few c =
    let few = count_few (has_bit c.args.allowed) c.loop-rule.rule in
    let high = c.loop-rule.auto.rule-end in
    let most = c.requires in
    let is = c.loop-rule.invariant in
    omega arith
