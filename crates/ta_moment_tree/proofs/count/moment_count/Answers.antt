use Rattle.ta_moment_tree.proofs.Common.{◌+◌, length, arith, ap, sym, ◌∙◌}
use Rattle.ta_moment_tree.proofs.Counting.{moments_at_first, moments_kept, moment_pushed, counts_one}
use Rattle.ta_moment_tree.proofs.count.moment_count.Goals.{then-not-is_plain, else-not-is_plain}
use Rattle.ta_moment_tree.proofs.count.moment_count.Goals as goal

pub loop-fact-init : goal.loop-fact-init
loop-fact-init c = record {
  few = omega (arith, ap length c.as_slice-count.ensures);
  is = λ a silent candidate. ap length c.as_slice-count.ensures ∙ sym (moments_at_first a c.args.pattern.now silent candidate);
}

pub loop-fact-preserved : goal.loop-fact-preserved
loop-fact-preserved c =
    let p = c.args.pattern.now in
    let few = c.loop-fact.invariant.few in
    let old = c.loop-fact.invariant.is in
    elim c.if-not-is_plain.branch [
      | then-not-is_plain w ↦ record {
        few = (let is = w.count-is in omega arith);
        is = λ a silent candidate. w.count-is ∙ ap (λ n. n + 1) (old a silent candidate)
            ∙ sym (counts_one _ _ _ (moment_pushed a p silent candidate c.args.facts.now c.loop-fact.fact-index _ c.loop-fact-test.true
            (sym c.is_plain.ensures ∙ w.if-not-is_plain.true)));
      }
      | else-not-is_plain w ↦ record {
        few = (let is = w.count-is in omega arith);
        is = λ a silent candidate. w.count-is ∙ old a silent candidate
            ∙ sym (ap length (moments_kept a p silent candidate c.args.facts.now c.loop-fact.fact-index _ c.loop-fact-test.true
            (sym c.is_plain.ensures ∙ w.if-not-is_plain.false)));
      }
    ]
