use Rattle.ta_moment_tree.proofs.Common.{◌≡◌, ◌∙◌, ◌++◌, List, ℕ, map, ap, sym, subst, AllByRecursion, AreRowsOf, Option, bound_row, Row, Speaks, Known}
use Rattle.ta_moment_tree.proofs.Common.{row_of_form, forms_of, bound_forms}
use Rattle.ta_moments.specs.Moments.{known}
use Rattle.ta_moments.proofs.Speaking.{rows_speak}
use Rattle.ta_moment_tree.proofs.Adding.{adds_forms}
use Rattle.ta_moment_tree.proofs.Systems.{back, floors_within, rows_of_forms, rows_of_lines, system_below}
use Rattle.ta_moment_tree.proofs.encoding.MomentEncoding.system_from.Goals.{In_ok-push_bounds}
use Rattle.ta_moment_tree.proofs.encoding.MomentEncoding.system_from.Goals as goal

-- what is written: the node's rows, and those of the bounds
written : (c : In_ok-push_bounds) → forms_of c.push_bounds.new.rows.items ≡ forms_of c.args.self.now.draft.rows.items ++ bound_forms c.args.bounds.now
written c = adds_forms (bound_forms c.args.bounds.now) _ _ c.in_ok-push_bounds.ensures
    ∙ ap (λ (rs : List Row). forms_of rs ++ bound_forms c.args.bounds.now) (c.in_ok-push_copies.ensures ∙ c.as_slice.ensures.value)

pub push_bounds-requires : goal.push_bounds-requires
push_bounds-requires c = floors_within c.args.self.now.draft.unknowns c.args.bounds.now c.requires.bounds

-- the node's rows speak of its unknowns alone
spoken : (c : In_ok-push_bounds) → AllByRecursion (Speaks c.args.self.now.draft.unknowns) (forms_of c.args.self.now.draft.rows.items)
spoken c =
    let some = c.requires.node.is in
    subst (λ (k : Known). AllByRecursion (Speaks k.unknowns) k.rows) (sym some.is.draft.known)
    (rows_speak c.args.self.now.plan.task.automaton.now c.args.self.now.plan.task.pattern.now c.requires.node.silent some.candidate some.is.listed
    some.past)

pub invariant_of-result : goal.invariant_of-result
invariant_of-result c =
    let w = (goal.at.invariant_of-result c).In_ok-push_bounds in
    record {
      within = system_below c.args.self.now.draft.unknowns (forms_of c.args.self.now.draft.rows.items) c.args.bounds.now c.from_vec.result (spoken w)
          c.requires.bounds (ap forms_of c.from_vec.ensures ∙ written w);
    }

pub returns-clause-system : goal.returns-clause-system
returns-clause-system c = λ asking candidate past node. let w = (goal.at.returns-clause-system c).In_ok-push_bounds in
    record {
      unknowns = ap (λ (k : Known). k.unknowns) node.draft.known;
      rows = rows_of_forms _ c.from_vec.result
          (ap forms_of c.from_vec.ensures ∙ written w ∙ ap (λ (k : Known). k.rows ++ bound_forms c.args.bounds.now) node.draft.known);
    }

pub returns-clause-search : goal.returns-clause-search
returns-clause-search c = λ asking question candidate past node.
    let w = (goal.at.returns-clause-search c).In_ok-push_bounds in
    let a = c.args.self.now.plan.task.automaton.now in
    let p = c.args.self.now.plan.task.pattern.now in
    let bounds = c.args.bounds.now in
    let k = known a p asking.silent candidate past in
    let pairs = rows_of_forms (k.rows ++ bound_forms bounds) c.from_vec.result
    (ap forms_of c.from_vec.ensures ∙ written w ∙ ap (λ (k : Known). k.rows ++ bound_forms bounds) node.draft.known) in
    record {
      unknowns = ap (λ (k : Known). k.unknowns) node.draft.known ∙ ap (λ (o : Option ℕ). (known a p asking.silent o past).unknowns) (sym (back candidate));
      rows = subst (λ (o : Option ℕ). AreRowsOf
          (map (row_of_form (known a p asking.silent o past).unknowns) (known a p asking.silent o past).rows ++ map bound_row bounds) c.from_vec.result)
          (sym (back candidate)) (rows_of_lines k.unknowns k.rows bounds c.from_vec.result (rows_speak a p asking.silent candidate node.listed past) pairs);
    }
