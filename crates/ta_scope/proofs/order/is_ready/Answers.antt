use Rattle.ta_scope.proofs.Common.{ap, refl, length, arith, List, ℕ, IsBitSet, false≢true, slice_get_within, read_same, Rule, Blocks, Ready}
use Rattle.ta_scope.proofs.order.is_ready.Goals as goal
use Rattle.ta_base.proofs.Lists.{one_passed}

pub returns-then-blocks : goal.returns-then-blocks
returns-then-blocks c =
    let a = c.args.automaton.now in
    let named = read_same a.rules c.as_slice-rule-items.result.now c.loop-number.number c.rule-item.result c.as_slice-rule-items.ensures c.loop-number-test.true
    c.rule-item.is in
    let blocked = c.if-blocks.ensures.0 refl in
    (λ t. absurd (false≢true t), λ ready. absurd (ready.free c.loop-number.number c.rule-item.result named blocked.0 blocked.1))

pub loop-number-preserved : goal.loop-number-preserved
loop-number-preserved c =
    let a = c.args.automaton.now in
    let named = read_same a.rules c.as_slice-rule-items.result.now c.loop-number.number c.rule-item.result c.as_slice-rule-items.ensures c.loop-number-test.true
    c.rule-item.is in
    one_passed (λ (r : ℕ) (rule : Rule). ¬ (IsBitSet c.args.rules.now r × Blocks c.args.placed.now c.args.location rule)) a.rules c.loop-number.number
    c.rule-item.result named
    (λ blocked. false≢true (c.if-blocks.ensures.1 blocked)) c.loop-number.invariant

pub returns : goal.returns
returns c =
    let a = c.args.automaton.now in
    let ready : Ready a c.args.rules.now c.args.placed.now c.args.location = record {
      remains = λ placed. false≢true (c.if-is_placed.ensures.1 placed);
      free = λ r rule named member blocks.
          let same = ap (λ (xs : List Rule). length xs) c.as_slice-rule-items.ensures in
          let within = slice_get_within a.rules r rule named in
          c.loop-number.invariant r rule (omega arith) named (member, blocks);
    } in
    (λ t. ready, λ ready. refl)
