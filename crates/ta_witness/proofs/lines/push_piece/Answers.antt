use Rattle.ta_witness.proofs.Common.{◌≡◌, ℕ, ℤ, List, length, map, sym, ap, ◌∙◌, subst, Rule, range_with_len, AreRuleCounts, Meaning, Count, unknown_value}
use Rattle.ta_witness.proofs.Common.{counts_before}
use Rattle.ta_witness.proofs.Making.{StepsPushed, counts_from, piece_added}
use Rattle.ta_witness.proofs.lines.push_piece.Goals as goal

pub arrange-requires : goal.arrange-requires
arrange-requires c =
    let a = c.args.scoped.now.file.automaton in
    let rules = ap (λ (rs : List Rule). length rs) c.as_slice-rules.ensures in
    let natural = counts_from a (λ r. unknown_value c.args.meanings.now c.args.values.now (Count c.args.number r)) (length c.as_slice-rules.result.now)
    c.in_ok-counts.counts.items rules c.in_ok-counts.ensures in
    subst (AreRuleCounts a) (sym c.as_slice.ensures.value) natural

pub returns : goal.returns
returns c =
    let a = c.args.scoped.now.file.automaton in
    let p = c.args.pattern.now in
    let value : Meaning → ℤ = unknown_value c.args.meanings.now c.args.values.now in
    let rules = ap (λ (rs : List Rule). length rs) c.as_slice-rules.ensures in
    let f : ℕ → ℤ = λ r. value (Count c.args.number r) in
    let counts = c.as_slice.result.now in
    let are : counts ≡ counts_before a value c.args.number = c.as_slice.ensures.value ∙ c.in_ok-counts.ensures.are
    ∙ ap (λ n. map f (range_with_len 0 n)) rules in
    let natural = subst (AreRuleCounts a) (sym c.as_slice.ensures.value)
    (counts_from a f (length c.as_slice-rules.result.now) c.in_ok-counts.counts.items rules c.in_ok-counts.ensures) in
    let steps = c.in_ok-arranged.arranged.steps in
    let pushed : StepsPushed steps c.args.lines.now.items c.push_steps.new.lines.items = subst
    (λ xs. StepsPushed xs c.args.lines.now.items c.push_steps.new.lines.items) c.as_slice-2.ensures
    (c.in_ok-push_steps.ensures.added, c.in_ok-push_steps.ensures.fit) in
    piece_added a c.args.scoped.now.in_scope p value c.args.number c.args.element counts steps c.args.lines.now.items c.push_steps.new.lines.items
    c.push_end.new.lines.items are natural c.in_ok-arranged.ensures pushed c.in_ok-push_end.ensures
