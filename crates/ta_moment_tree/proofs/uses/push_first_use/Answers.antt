use Rattle.ta_moment_tree.proofs.Common.{ℕ, pos, ◌∙◌, ◌+◌, ◌++◌, List, length, slice_get, arith, ap, sym, subst, Rule, sparing, Point, Vector, below}
use Rattle.ta_moment_tree.proofs.Common.{counters_at, first_vector, guard_at, guards, nothing_fired, VectorSpeaks, speak_fresh, speak_number, vector_more}
use Rattle.ta_moment_tree.proofs.Common.{SmallVector, vector_of, AddsForms}
use Rattle.ta_moment_tree.proofs.Beginning.{first_is, first_small, nothing_small, sparing_below, sparing_few}
use Rattle.ta_moment_tree.proofs.uses.push_first_use.Goals as goal

pub fresh-requires-clause-numbers : goal.fresh-requires-clause-numbers
fresh-requires-clause-numbers c =
    let t = c.args.plan.now.task in
    let few = sparing_few t.automaton.now t.pattern.now c.args.guard c.as_slice-rules.result.now (c.as_slice-rules.ensures.value ∙ c.in_ok-others.ensures) in
    let least = c.requires.few in
    omega arith

pub fresh-requires-clause-rules : goal.fresh-requires-clause-rules
fresh-requires-clause-rules c =
    let t = c.args.plan.now.task in
    sparing_below t.automaton.now t.pattern.now c.args.guard c.as_slice-rules.result.now (length c.as_slice-count.result.now)
    (c.as_slice-rules.ensures.value ∙ c.in_ok-others.ensures) (ap (λ (rs : List Rule). length rs) c.as_slice-count.ensures)

pub fresh-requires-clause-above : goal.fresh-requires-clause-above
fresh-requires-clause-above c = nothing_small 3

pub fresh-requires-clause-beneath : goal.fresh-requires-clause-beneath
fresh-requires-clause-beneath c = nothing_small 3

pub push_first_rows-requires-clause-vector : goal.push_first_rows-requires-clause-vector
push_first_rows-requires-clause-vector c =
    let t = c.args.plan.now.task in
    subst (λ (v : Vector). SmallVector 1 v)
    (sym (ap vector_of c.as_slice.ensures.value ∙ first_is t.automaton.now t.pattern.now c.args.unknowns c.args.guard c.as_slice-rules.result.now _
    (c.as_slice-rules.ensures.value ∙ c.in_ok-others.ensures) c.in_ok-vector.ensures.value))
    (first_small t.automaton.now t.pattern.now c.args.unknowns c.args.guard)

pub returns-clause-unknowns : goal.returns-clause-unknowns
returns-clause-unknowns c = ap (λ (rs : List ℕ). length rs) (c.as_slice-rules.ensures.value ∙ c.in_ok-others.ensures)

pub returns-clause-moment : goal.returns-clause-moment
returns-clause-moment c =
    let t = c.args.plan.now.task in
    ap Point (first_is t.automaton.now t.pattern.now c.args.unknowns c.args.guard c.as_slice-rules.result.now _
    (c.as_slice-rules.ensures.value ∙ c.in_ok-others.ensures) c.in_ok-vector.ensures.value)

pub returns-clause-rows : goal.returns-clause-rows
returns-clause-rows c =
    let t = c.args.plan.now.task in
    let a = t.automaton.now in
    let p = t.pattern.now in
    let is = c.as_slice-rules.ensures.value ∙ c.in_ok-others.ensures in
    let ss = sparing a p c.args.guard in
    let u = c.args.unknowns in
    let n = u + length ss in
    let v = first_vector a p u c.args.guard in
    let end = vector_of c.args.end.now in
    let same = ap vector_of c.as_slice.ensures.value ∙ first_is a p u c.args.guard c.as_slice-rules.result.now _ is c.in_ok-vector.ensures.value in
    let speaks : VectorSpeaks n v = speak_fresh u ss nothing_fired n (omega arith) (λ r. speak_number n (pos 0)) in
    subst (λ (w : Vector). AddsForms (counters_at a p w ++ (guard_at a p w (slice_get (guards a) c.args.guard) ++ below a p n w end)) c.args.rows.now.items
    c.push_first_rows.new.rows.items) same
    (c.in_ok-push_first_rows.ensures n (subst (λ (w : Vector). VectorSpeaks n w) (sym same) speaks) (vector_more u n end (omega arith) c.requires.speaks))
