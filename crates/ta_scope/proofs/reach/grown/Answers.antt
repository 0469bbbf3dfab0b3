use Rattle.ta_scope.proofs.Common.{ap, refl, length, arith, List, ℕ, false≢true, slice_get_within, read_same, Rule, LeadsOut}
use Rattle.ta_scope.proofs.Reaching.{grown_by, grown_greater, to_fits}
use Rattle.ta_scope.proofs.reach.grown.Goals as goal
use Rattle.ta_base.proofs.Lists.{one_passed}

pub returns-then-leads_out-clause-some : goal.returns-then-leads_out-clause-some
returns-then-leads_out-clause-some c =
    let a = c.args.automaton.now in
    let named = read_same a.rules c.as_slice-rule-items.result.now c.loop-number.number c.rule-item.result c.as_slice-rule-items.ensures c.loop-number-test.true
    c.rule-item.is in
    grown_by a c.args.rules.now c.args.mask c.loop-number.number c.rule-item.result named (c.if-leads_out.ensures.0 refl)
    (to_fits a c.loop-number.number c.rule-item.result named)

pub returns-then-leads_out-clause-greater : goal.returns-then-leads_out-clause-greater
returns-then-leads_out-clause-greater c =
    let a = c.args.automaton.now in
    let named = read_same a.rules c.as_slice-rule-items.result.now c.loop-number.number c.rule-item.result c.as_slice-rule-items.ensures c.loop-number-test.true
    c.rule-item.is in
    grown_greater c.args.rules.now c.args.mask c.loop-number.number c.rule-item.result (c.if-leads_out.ensures.0 refl)
    (to_fits a c.loop-number.number c.rule-item.result named)

pub loop-number-preserved : goal.loop-number-preserved
loop-number-preserved c =
    let a = c.args.automaton.now in
    let named = read_same a.rules c.as_slice-rule-items.result.now c.loop-number.number c.rule-item.result c.as_slice-rule-items.ensures c.loop-number-test.true
    c.rule-item.is in
    one_passed (λ (r : ℕ) (rule : Rule). ¬ LeadsOut c.args.rules.now c.args.mask r rule) a.rules c.loop-number.number c.rule-item.result named
    (λ out. false≢true (c.if-leads_out.ensures.1 out)) c.loop-number.invariant

pub returns-clause-none : goal.returns-clause-none
returns-clause-none c = λ r rule named.
    let a = c.args.automaton.now in
    let same = ap (λ (xs : List Rule). length xs) c.as_slice-rule-items.ensures in
    let within = slice_get_within a.rules r rule named in
    c.loop-number.invariant r rule (omega arith) named
