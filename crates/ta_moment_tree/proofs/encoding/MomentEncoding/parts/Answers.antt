use Rattle.ta_moment_tree.proofs.Common.{◌≡◌, ◌∙◌, ℕ, Bool, List, [], cond, map, ap, sym, subst, Form, Known, Vector, end_vector, SmallVector, vector_of}
use Rattle.ta_moment_tree.proofs.Common.{moments_of, guard_of, rule_of}
use Rattle.ta_moments.specs.Questions.{guards_at_end, rules_at_end}
use Rattle.ta_moment_tree.proofs.PartsAtEnd.{end_fits, parts_same}
use Rattle.ta_moment_tree.proofs.encoding.MomentEncoding.parts.Goals as goal

pub guards_at_end-requires-clause-end : goal.guards_at_end-requires-clause-end
guards_at_end-requires-clause-end c = subst (λ (fs : List Form). SmallVector 3 (vector_of fs)) (sym c.as_slice-end.ensures.value)
    (end_fits c.args.self.now c.requires.node)

pub rules_of-requires-clause-end : goal.rules_of-requires-clause-end
rules_of-requires-clause-end c = subst (λ (fs : List Form). SmallVector 3 (vector_of fs)) (sym c.as_slice-end.ensures.value)
    (end_fits c.args.self.now c.requires.node)

pub returns-clause-parts : goal.returns-clause-parts
returns-clause-parts c asking candidate past bounds rest silent node =
    let a = c.args.self.now.plan.task.automaton.now in
    let p = c.args.self.now.plan.task.pattern.now in
    let end : vector_of c.as_slice-end.result.now ≡ end_vector a p candidate = ap vector_of c.as_slice-end.ensures.value ∙ node.draft.end in
    parts_same _ _
    (c.as_slice.ensures.value ∙ node.plan.moving)
    end
    (ap (map guard_of) c.from_vec.ensures ∙ c.in_ok-guards.ensures ∙ ap (guards_at_end a p) end)
    (ap moments_of c.as_slice-2.ensures.value ∙ ap (λ (k : Known). k.moments) node.draft.known)
    (ap (map rule_of) c.from_vec-2.ensures ∙ c.in_ok-rules.ensures
    ∙ ap (λ (v : Vector). cond c.args.rest (rules_at_end a p c.args.silent.now v) []) end
    ∙ ap (λ (s : List ℕ). cond c.args.rest (rules_at_end a p s (end_vector a p candidate)) []) (sym silent)
    ∙ ap (λ (b : Bool). cond b (rules_at_end a p asking.silent (end_vector a p candidate)) []) (sym rest))
