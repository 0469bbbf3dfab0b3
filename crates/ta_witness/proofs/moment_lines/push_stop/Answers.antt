use Rattle.ta_witness.proofs.Common.{◌^◌, ◌<ℤ◌, step_line, AreRuleCounts, ArrangedOf}
use Rattle.ta_moments.proofs.Common.{◌≡◌, ◌∙◌, ◌++◌, ℕ, ℤ, pos, List, map, sym, subst, AllByRecursion}
use Rattle.ta_witness.proofs.Lining.{gaps_are, stop_added}
use Rattle.ta_witness.proofs.moment_lines.push_stop.Goals as goal

pub arrange-requires : goal.arrange-requires
arrange-requires c =
    let a = c.args.scoped.now.file.automaton in
    subst (AreRuleCounts a) (sym (c.as_slice.ensures.value ∙ c.in_ok-counts.ensures)) (gaps_are a c.args.before.now c.args.after.now c.requires.rules)

pub returns : goal.returns
returns c =
    let a = c.args.scoped.now.file.automaton in
    let steps = c.in_ok-arranged.arranged.steps in
    let arranged = subst (λ (cs : List ℤ). ArrangedOf a cs steps) (c.as_slice.ensures.value ∙ c.in_ok-counts.ensures) c.in_ok-arranged.ensures in
    let added = subst (λ (xs : List (ℕ × ℤ)). c.push_steps.new.lines.items ≡ c.args.lines.now.items ++ map step_line xs) c.as_slice-2.ensures
    c.in_ok-push_steps.ensures.added in
    let below = subst (λ (xs : List (ℕ × ℤ)). AllByRecursion (λ (step : ℕ × ℤ). step.1 <ℤ pos (2 ^ 127)) xs) c.as_slice-2.ensures c.in_ok-push_steps.ensures.fit
    in
    stop_added a c.args.scoped.now.in_scope c.args.pattern.now c.args.before.now c.args.after.now c.args.mark steps c.args.lines.now.items
    c.push_steps.new.lines.items c.push_mark.new.lines.items c.requires.rules arranged added below c.in_ok-push_mark.ensures c.requires.event
