use Rattle.ta_encode.proofs.Common.{◌≡◌, ℕ, List, length, arith, ap, subst, ◌∙◌, AreCounters}
use Rattle.ta_encode.specs.declared.meaning.Meaning.TheVariants.{Parameter}
use Rattle.ta_encode.proofs.CounterRows.{none_written, one_more}
use Rattle.ta_encode.proofs.counters.counters_at.Goals as goal

pub loop-unknown-init : goal.loop-unknown-init
loop-unknown-init c = record {
  long = c.in_ok-counters.ensures.long ∙ ap (λ (xs : List (List ℕ)). length xs) c.as_slice-locations.ensures;
  are = none_written c.args.automaton.now c.args.meanings.now c.in_ok-counters.counters.items c.in_ok-counters.ensures.none;
}

pub loop-unknown-preserved : goal.loop-unknown-preserved
loop-unknown-preserved c =
    let inv = c.loop-unknown.invariant in
    let a = c.args.automaton.now in
    let ms = c.args.meanings.now in
    let told = c.in_ok-push_unknown.ensures in
    record {
      long = told.long ∙ inv.long;
      are = one_more a ms c.loop-unknown.unknown (Parameter 0) c.loop-unknown.counters.items c.push_unknown.new.counters.items
          inv.are c.loop-unknown-test.true told.long told.gains;
    }

pub returns-clause-are : goal.returns-clause-are
returns-clause-are c =
    let a = c.args.automaton.now in
    let ms = c.args.meanings.now in
    let end : c.loop-unknown.unknown ≡ length ms = (let low = c.loop-unknown-test.false in let high = c.loop-unknown.auto.unknown-end in omega arith) in
    subst (λ n. AreCounters a ms n c.loop-unknown.counters.items) end c.loop-unknown.invariant.are
