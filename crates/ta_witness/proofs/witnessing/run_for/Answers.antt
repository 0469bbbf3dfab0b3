use Rattle.ta_witness.proofs.Common.{◌≤◌, ℤ, List, length, sym, subst, Element, unknown_value, EachMayEnd, AreNaturals}
use Rattle.ta_witness.proofs.Making.{ends_from, few_elements, known_from}
use Rattle.ta_witness.proofs.witnessing.run_for.Goals as goal

pub parameters_of-requires-clause-known : goal.parameters_of-requires-clause-known
parameters_of-requires-clause-known c = subst (AreNaturals c.args.meanings.now) (sym c.as_slice-values.ensures)
    (known_from c.args.scoped.now.file c.args.pattern.now c.args.meanings.now c.args.solution.now c.requires.made)

pub starts_of-requires : goal.starts_of-requires
starts_of-requires c = subst (AreNaturals c.args.meanings.now) (sym c.as_slice-values.ensures)
    (known_from c.args.scoped.now.file c.args.pattern.now c.args.meanings.now c.args.solution.now c.requires.made)

pub lines_of-requires-clause-few : goal.lines_of-requires-clause-few
lines_of-requires-clause-few c = subst (λ (xs : List Element). length xs ≤ 30) (sym c.elements-elements.ensures)
    (few_elements c.args.scoped.now.file c.args.pattern.now c.args.meanings.now c.args.solution.now c.requires.narrow c.requires.made)

pub lines_of-requires-clause-known : goal.lines_of-requires-clause-known
lines_of-requires-clause-known c = subst (AreNaturals c.args.meanings.now) (sym c.as_slice-values.ensures)
    (known_from c.args.scoped.now.file c.args.pattern.now c.args.meanings.now c.args.solution.now c.requires.made)

pub lines_of-requires-clause-ends : goal.lines_of-requires-clause-ends
lines_of-requires-clause-ends c =
    let a = c.args.scoped.now.file.automaton in
    let p = c.args.pattern.now in
    let ms = c.args.meanings.now in
    let solution = c.args.solution.now in
    subst (λ (xs : List Element). EachMayEnd a p (unknown_value ms c.as_slice-values.result.now) xs) (sym c.elements-elements.ensures)
    (subst (λ (vs : List ℤ). EachMayEnd a p (unknown_value ms vs) solution.word) (sym c.as_slice-values.ensures)
    (ends_from c.args.scoped.now.file p ms solution c.requires.made))
