use Rattle.ta_encode.proofs.Common.{ℕ, ℤ, ◌<◌, ◌^◌, ◌∷◌, ◌++◌, [], arith, ap, ◌∙◌, unsigned_abs, to_z_range, terms_in, Counter}
use Rattle.ta_encode.proofs.CounterRows.{written_here, written_there}
use Rattle.ta_encode.proofs.counters.push_at.Goals as goal

pub returns-in_ok-push_term-clause-here : goal.returns-in_ok-push_term-clause-here
returns-in_ok-push_term-clause-here c = λ b.
    let z = c.args.coefficient in
    let few : unsigned_abs z < 2 ^ 127 = (let small = c.requires in omega arith) in
    let old = c.index_mut.result.now in
    let t : ℕ × ℤ = (c.args.unknown, z) in
    let read = ap (λ (x : Counter). terms_in x ++ t ∷ []) c.index_mut.ensures.value in
    written_here c.args.counters.now.items c.args.location c.push_term.new.counter old t b
    (c.in_ok-push_term.ensures ∙ ap (λ (y : ℤ). terms_in old ++ (c.args.unknown, y) ∷ []) (to_z_range z few) ∙ read)

pub returns-in_ok-push_term-clause-others : goal.returns-in_ok-push_term-clause-others
returns-in_ok-push_term-clause-others c = λ l apart. written_there c.args.counters.now.items c.args.location l c.push_term.new.counter apart
