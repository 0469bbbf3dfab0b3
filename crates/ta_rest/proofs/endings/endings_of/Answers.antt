use Rattle.ta_rest.proofs.Common.{◌≡◌, ◌∷◌, List, arith, subst, sym, Pattern}
use Rattle.ta_rest.proofs.EndingShapes.{EndingsSoFar, next_few, so_far_more}
use Rattle.ta_base.proofs.Lists.{first_removed}
use Rattle.ta_rest.proofs.endings.endings_of.Goals as goal

pub ending_of-requires : goal.ending_of-requires
ending_of-requires c =
    let all = c.args.patterns.items in
    let rest = c.remove-pattern.new.self.items in
    let endings = c.patterns.endings.items in
    let pattern = c.remove-pattern.result in
    let parts : c.patterns.rest.items ≡ pattern ∷ rest = first_removed c.patterns.rest.items rest pattern c.remove-pattern.ensures.value
    c.remove-pattern.ensures.by_index.2 (omega (arith, c.remove-pattern.ensures.len, c.patterns.rest.ok)) in
    next_few all rest endings pattern (subst (λ (ps : List Pattern). EndingsSoFar all ps endings) parts c.patterns.invariant) c.requires

pub patterns-preserved : goal.patterns-preserved
patterns-preserved c =
    let all = c.args.patterns.items in
    let rest = c.remove-pattern.new.self.items in
    let endings = c.patterns.endings.items in
    let pattern = c.remove-pattern.result in
    let parts : c.patterns.rest.items ≡ pattern ∷ rest = first_removed c.patterns.rest.items rest pattern c.remove-pattern.ensures.value
    c.remove-pattern.ensures.by_index.2 (omega (arith, c.remove-pattern.ensures.len, c.patterns.rest.ok)) in
    subst (EndingsSoFar all rest) (sym c.in_ok-push.ensures.items)
    (so_far_more all rest endings pattern c.in_ok-ending_of.field-0 (subst (λ (ps : List Pattern). EndingsSoFar all ps endings) parts c.patterns.invariant)
    c.in_ok-ending_of.ensures)
