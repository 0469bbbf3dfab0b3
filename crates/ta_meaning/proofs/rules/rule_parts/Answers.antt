use Rattle.ta_meaning.proofs.Common.{◌≡◌, inr, List, [], ◌∷◌, ◌++◌, map, length, subst, refl, err_is, plain_comparison, plain_update, TreeComparison}
use Rattle.ta_meaning.proofs.Common.{TreeUpdate, name_of, FirstOrMemory, in_guards, guards_faults, updates_faults, kinds_of, guards_so_far, GuardsNumbered}
use Rattle.ta_meaning.proofs.Common.{UpdatesRead}
use Rattle.ta_meaning.proofs.RuleSteps.{first_declared, first_from, first_to, first_guards, first_updates, none_in_rule, rule_read}
use Rattle.ta_meaning.proofs.rules.rule_parts.Goals as goal

pub returns-in_err-check_declared : goal.returns-in_err-check_declared
returns-in_err-check_declared c =
    let ns = kinds_of c.args.places.now in
    let g = guards_so_far ns c.args.guards.now in
    rw (err_is c.from_residual.result _ c.from_residual.ensures.1)
    (first_declared c.args.limits.now ns (map name_of c.args.before.now) g c.args.rule.now c.in_err-check_declared.field-0.0
    (inr c.in_err-check_declared.ensures))

pub returns-in_err-from : goal.returns-in_err-from
returns-in_err-from c =
    let ns = kinds_of c.args.places.now in
    let g = guards_so_far ns c.args.guards.now in
    rw (err_is c.from_residual-in_err-from.result _ c.from_residual-in_err-from.ensures.1)
    (first_from c.args.limits.now ns (map name_of c.args.before.now) g c.args.rule.now c.in_err-from.field-0.0 c.in_ok-check_declared.ensures.0
    (inr c.in_err-from.ensures))

pub returns-in_err-to : goal.returns-in_err-to
returns-in_err-to c =
    let ns = kinds_of c.args.places.now in
    let g = guards_so_far ns c.args.guards.now in
    rw (err_is c.from_residual-in_err-to.result _ c.from_residual-in_err-to.ensures.1)
    (first_to c.args.limits.now ns (map name_of c.args.before.now) g c.args.rule.now c.in_err-to.field-0.0 c.in_ok-check_declared.ensures.0
    c.in_ok-from.ensures.0
    (inr c.in_err-to.ensures))

pub returns-in_err-masks : goal.returns-in_err-masks
returns-in_err-masks c =
    let ns = kinds_of c.args.places.now in
    let g = guards_so_far ns c.args.guards.now in
    let e = c.in_err-masks.field-0.0 in
    let told = subst (λ (cs : List TreeComparison). FirstOrMemory (guards_faults c.args.limits.now (length ns.parameters) (in_guards ns) g cs) e)
    c.as_slice.ensures
    c.in_err-masks.ensures in
    rw (err_is c.from_residual-in_err-masks.result _ c.from_residual-in_err-masks.ensures.1)
    (first_guards c.args.limits.now ns (map name_of c.args.before.now) g c.args.rule.now e c.in_ok-check_declared.ensures.0 c.in_ok-from.ensures.0
    c.in_ok-to.ensures.0 told)

pub returns-in_err-updates : goal.returns-in_err-updates
returns-in_err-updates c =
    let ns = kinds_of c.args.places.now in
    let g = guards_so_far ns c.args.guards.now in
    let e = c.in_err-updates.field-0.0 in
    let when = subst (λ (cs : List TreeComparison). guards_faults c.args.limits.now (length ns.parameters) (in_guards ns) g cs ≡ []) c.as_slice.ensures
    c.in_ok-masks.ensures.0 in
    let told = subst (λ (us : List TreeUpdate). FirstOrMemory (updates_faults ns [] us) e) c.as_slice-2.ensures c.in_err-updates.ensures in
    rw (err_is c.from_residual-in_err-updates.result _ c.from_residual-in_err-updates.ensures.1)
    (first_updates c.args.limits.now ns (map name_of c.args.before.now) g c.args.rule.now e c.in_ok-check_declared.ensures.0 c.in_ok-from.ensures.0
    c.in_ok-to.ensures.0 when
    told)

pub returns : goal.returns
returns c =
    let ns = kinds_of c.args.places.now in
    let g = guards_so_far ns c.args.guards.now in
    let when = subst (λ (cs : List TreeComparison). guards_faults c.args.limits.now (length ns.parameters) (in_guards ns) g cs ≡ []) c.as_slice.ensures
    c.in_ok-masks.ensures.0 in
    let guards = subst (λ (cs : List TreeComparison). GuardsNumbered c.args.limits.now ns c.args.guards.now (map plain_comparison cs) c.number_guards.new.guards
    c.in_ok-masks.masks) c.as_slice.ensures c.in_ok-masks.ensures.1 in
    let none = subst (λ (us : List TreeUpdate). updates_faults ns [] us ≡ []) c.as_slice-2.ensures c.in_ok-updates.ensures.0 in
    let updates = subst (λ (us : List TreeUpdate). UpdatesRead ns (map plain_update us) c.in_ok-updates.updates.items) c.as_slice-2.ensures
    c.in_ok-updates.ensures.1 in (
      none_in_rule c.args.limits.now ns (map name_of c.args.before.now) g c.args.rule.now c.in_ok-check_declared.ensures.0 c.in_ok-from.ensures.0
          c.in_ok-to.ensures.0 when none,
      rule_read c.args.limits.now ns (map name_of c.args.before.now) (map name_of c.args.before.now ++ c.args.rule.now.name.name ∷ []) c.args.guards.now
          c.number_guards.new.guards
          c.args.rule.now c.in_ok-masks.masks c.in_ok-updates.updates.items _ c.in_ok-check_declared.ensures.0 refl c.in_ok-from.ensures.1
          c.in_ok-to.ensures.1 guards updates refl refl refl c.from_vec.ensures,
    )
