use Rattle.ta_encode.proofs.Common.{ℕ, ◌∷◌, ◌++◌, [], ◌≡◌, List, length, arith, sym, ap, subst, length-append, terms_at, Counter}
use Rattle.ta_encode.proofs.CounterRows.{none_more}
use Rattle.ta_encode.proofs.counters.no_terms.Goals as goal

pub loop-preserved : goal.loop-preserved
loop-preserved c =
    let inv = c.loop.invariant in
    let before = c.loop.counters.items in
    let x : Counter = record { terms = c.in_ok-with_capacity.field-0 } in
    let items : c.push.new.self.items ≡ before ++ x ∷ [] = c.in_ok-push.ensures.items in
    record {
      long = omega (arith, ap (λ (xs : List Counter). length xs) items, length-append before (x ∷ []), inv.long);
      none = subst (λ (xs : List Counter). (k : ℕ) → terms_at xs k ≡ []) (sym items) (none_more before x c.in_ok-with_capacity.ensures.items inv.none);
    }
