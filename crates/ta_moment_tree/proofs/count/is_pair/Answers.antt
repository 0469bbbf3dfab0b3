use Rattle.ta_moment_tree.proofs.Common.{◌+◌, List, length, slice_get, arith, ap, sym, ◌∙◌, Moment, is_pair_in}
use Rattle.ta_moment_tree.proofs.Counting.{counts_one, moment_pushed, moments_at_first, moments_kept, no_pair_first, pair_added, pair_later, pair_other}
use Rattle.ta_moment_tree.proofs.count.is_pair.Goals.{then-not-is_plain+else-count-moment, else-not-is_plain}
use Rattle.ta_moment_tree.proofs.count.is_pair.Goals as goal

pub loop-fact-init : goal.loop-fact-init
loop-fact-init c = record {
  few = omega (arith, ap length c.as_slice-count.ensures);
  is = λ a silent candidate. ap length c.as_slice-count.ensures ∙ sym (moments_at_first a c.args.pattern.now silent candidate);
  none = λ a silent candidate. no_pair_first a c.args.pattern.now silent candidate c.args.moment;
}

pub returns-then-count-moment : goal.returns-then-count-moment
returns-then-count-moment c a silent candidate =
    let p = c.args.pattern.now in
    let xs = c.args.facts.now in
    let i = c.loop-fact.fact-index in
    let adds = moment_pushed a p silent candidate xs i _ c.loop-fact-test.true (sym c.is_plain.ensures ∙ c.if-not-is_plain.true) in
    let here = sym c.if-count-moment.true ∙ c.loop-fact.invariant.is a silent candidate in
    let long = counts_one _ _ _ adds in
    c.is_last.ensures ∙ sym (pair_later a p silent candidate xs (i + 1) c.args.moment (omega (arith, here, long)) ∙ pair_added _ _ _ c.args.moment adds here)

pub loop-fact-preserved : goal.loop-fact-preserved
loop-fact-preserved c =
    let p = c.args.pattern.now in
    let xs = c.args.facts.now in
    let i = c.loop-fact.fact-index in
    let few = c.loop-fact.invariant.few in
    let old = c.loop-fact.invariant.is in
    let none = c.loop-fact.invariant.none in
    elim c.if-not-is_plain.branch [
      | then-not-is_plain+else-count-moment w ↦ record {
        few = (let is = w.count-is in omega arith);
        is = λ a silent candidate. w.count-is ∙ ap (λ n. n + 1) (old a silent candidate)
            ∙ sym (counts_one _ _ _ (moment_pushed a p silent candidate xs i _ c.loop-fact-test.true (sym c.is_plain.ensures ∙ w.if-not-is_plain.true)));
        none = λ a silent candidate. pair_other _ _ _ c.args.moment
            (moment_pushed a p silent candidate xs i _ c.loop-fact-test.true (sym c.is_plain.ensures ∙ w.if-not-is_plain.true))
            (λ same. w.if-count-moment.false (old a silent candidate ∙ sym same)) ∙ none a silent candidate;
      }
      | else-not-is_plain w ↦ record {
        few = (let is = w.count-is in omega arith);
        is = λ a silent candidate. w.count-is ∙ old a silent candidate
            ∙ sym (ap length (moments_kept a p silent candidate xs i _ c.loop-fact-test.true (sym c.is_plain.ensures ∙ w.if-not-is_plain.false)));
        none = λ a silent candidate. ap (λ (ms : List Moment). is_pair_in (slice_get ms c.args.moment))
            (moments_kept a p silent candidate xs i _ c.loop-fact-test.true (sym c.is_plain.ensures ∙ w.if-not-is_plain.false)) ∙ none a silent candidate;
      }
    ]
