use Rattle.ta_encode.proofs.Common.{◌≡◌, ℕ, ◌∷◌, List, Bool, length, not, arith, refl, sym, ap, subst, has_bit, Meaning, Automaton, counter_row, LinearRow}
use Rattle.ta_encode.proofs.Common.{into_iter_items, Sparse, AreCounters, counter_coefficient, terms_in, Counter}
use Rattle.ta_encode.proofs.Adding.{adds_more, adds_nothing}
use Rattle.ta_encode.proofs.CounterRows.{AreFrom, all_from, first_from, passed_step}
use Rattle.ta_encode.proofs.draft.Draft.push_all_counters.Goals as goal

pub loop-counter-preserved : goal.loop-counter-preserved
loop-counter-preserved c =
    let inv = c.loop-counter.invariant in
    let before = c.args.self.now in
    let a = before.automaton.now in
    let ms = before.meanings.items in
    let l = c.loop-counter.location in
    let x = c.in-Some.counter in
    let rest = into_iter_items c.next.new.self in
    let steps : into_iter_items c.loop-counter.counter-iterator ≡ x ∷ rest = c.in-Some.ensures.steps.0 in
    let both = first_from a ms l x _ rest steps inv.rest in
    let short = ap (λ (xs : List Counter). length xs) steps in
    let line : ℕ → LinearRow = counter_row a ms in
    let test : ℕ → Bool = λ k. not (has_bit c.args.empty k) in
    record {
      so_far = adds_more (passed_step line test l) inv.so_far c.in_ok-push_written.ensures;
      rest = both.1;
      count = omega arith;
      long = omega arith;
    }

pub loop-counter-init : goal.loop-counter-init
loop-counter-init c =
    let before = c.args.self.now in
    let a = before.automaton.now in
    let ms = before.meanings.items in
    let all = c.in_ok-counters.counters in
    let told = c.in_ok-counters.ensures in
    let gives = c.into_iter-counter-iterator.ensures.into_iter_gives in
    let are = subst (λ (us : List Meaning). AreCounters a us (length us) all.items) c.as_slice.ensures.value told.are in
    record {
      so_far = adds_nothing _ before refl;
      rest = subst (AreFrom a ms 0) (sym gives.0) (all_from a ms all.items are);
      count = omega (arith, ap (λ (xs : List Counter). length xs) gives.0, told.long);
      long = omega (arith, gives.1, ap (λ (xs : List Counter). length xs) gives.0, all.ok.0);
    }

pub push_written-requires : goal.push_written-requires
push_written-requires c =
    let inv = c.loop-counter.invariant in
    let now = c.loop-counter.self in
    let a = c.args.self.now.automaton.now in
    let ms = c.args.self.now.meanings.items in
    let l = c.loop-counter.location in
    let x = c.in-Some.counter in
    let rest = into_iter_items c.next.new.self in
    let steps : into_iter_items c.loop-counter.counter-iterator ≡ x ∷ rest = c.in-Some.ensures.steps.0 in
    let both = first_from a ms l x _ rest steps inv.rest in
    let short = ap (λ (xs : List Counter). length xs) steps in
    let limit = a.shape.limits.locations_limit in
    let count = inv.count in
    record {
      location = omega arith;
      written =
          subst (λ (b : Automaton). Sparse (counter_coefficient b l) now.meanings.items (length now.meanings.items) (terms_in x)) (sym inv.so_far.automaton)
          (subst (λ (us : List Meaning). Sparse (counter_coefficient a l) us (length us) (terms_in x)) (sym inv.so_far.unknowns) both.0);
    }
