use Rattle.ta_scope.proofs.Common.{ℕ, ap, length, arith, List, false≢true, Ready}
use borrow.Author.Count.{below_more}
use Rattle.ta_scope.proofs.order.next_location.Goals as goal

pub loop-location-preserved : goal.loop-location-preserved
loop-location-preserved c =
    below_more (λ m. ¬ Ready c.args.automaton.now c.args.rules.now c.args.placed.now m) c.loop-location.location c.loop-location.invariant
    (λ ready. false≢true (c.if-is_ready.ensures.1 ready))

pub returns-clause-none : goal.returns-clause-none
returns-clause-none c = λ l b.
    let same = ap (λ (xs : List (List ℕ)). length xs) c.as_slice.ensures in
    c.loop-location.invariant l (omega arith)
