use Rattle.ta_meaning.proofs.Common.{◌≡◌, ℕ, List, [], ◌∷◌, ◌++◌, map, length, ap, sym, subst, ◌∙◌, arith, into_iter_items, nil_from_length, err_is, name_of}
use Rattle.ta_meaning.proofs.Common.{Rule, TreeRule, FirstOrMemory, rule_faults, guards_so_far, kinds_of, RuleRead}
use Rattle.ta_meaning.proofs.RuleSequence.{RulesReading, rules_begin, rules_more, rules_stop, rules_end}
use Rattle.ta_meaning.proofs.rules.resolve_rules.Goals as goal

pub loop-rule-init : goal.loop-rule-init
loop-rule-init c =
    let gives = c.into_iter-rule-iterator.ensures.into_iter_gives in
    let none = c.new-resolved.ensures.items in
    record {
      so_far = rules_begin c.args.limits.now (kinds_of c.args.places.now) c.args.rules.items _ _ _ c.new-resolved.result.items gives.0 (ap (map name_of) none)
          c.new.ensures.items
          c.new-2.ensures.items none;
      long = gives.1 ∙ c.args.rules.ok.0 ∙ ap (λ (rs : List TreeRule). length rs) (sym gives.0);
    }

pub resolve_rule-requires : goal.resolve_rule-requires
resolve_rule-requires c = c.loop-rule.invariant.so_far.kept

pub returns-in_err-one : goal.returns-in_err-one
returns-in_err-one c =
    let ns = kinds_of c.args.places.now in
    let all = c.args.rules.items in
    let resolved = c.loop-rule.resolved.items in
    let e = c.in_err-one.field-0.0 in
    let here = subst (λ (rs : List TreeRule). RulesReading c.args.limits.now ns all rs (map name_of resolved) c.loop-rule.guards resolved)
    c.in-Some.ensures.steps.0
    c.loop-rule.invariant.so_far in
    let told = subst (λ (before : List Rule). FirstOrMemory
    (rule_faults c.args.limits.now ns (map name_of before) (guards_so_far ns c.loop-rule.guards) c.in-Some.rule) e)
    c.as_slice.ensures.value c.in_err-one.ensures in
    rw (err_is c.from_residual.result _ c.from_residual.ensures.1)
    (rules_stop c.args.limits.now ns all (into_iter_items c.next.new.self) c.in-Some.rule (map name_of resolved) c.loop-rule.guards resolved e here told)

pub loop-rule-preserved : goal.loop-rule-preserved
loop-rule-preserved c =
    let ns = kinds_of c.args.places.now in
    let all = c.args.rules.items in
    let rest = into_iter_items c.next.new.self in
    let rule = c.in-Some.rule in
    let steps = c.in-Some.ensures.steps in
    let resolved = c.loop-rule.resolved.items in
    let guards = c.loop-rule.guards in
    let after = c.resolve_rule.new.guards in
    let one = c.in_ok-one.one in
    let here = subst (λ (rs : List TreeRule). RulesReading c.args.limits.now ns all rs (map name_of resolved) guards resolved) steps.0
    c.loop-rule.invariant.so_far in
    let read = subst (λ (before : List Rule). (rule_faults c.args.limits.now ns (map name_of before) (guards_so_far ns guards) rule ≡ [])
    × RuleRead c.args.limits.now ns (map name_of before) guards rule (map name_of before ++ rule.name.name ∷ []) after one) c.as_slice.ensures.value
    c.in_ok-one.ensures in
    let more = rules_more c.args.limits.now ns all rest rule (map name_of resolved) (map name_of resolved ++ rule.name.name ∷ []) guards after resolved one here
    read.0 read.1 in
    let named = subst (λ (names : List (List ℕ)). RulesReading c.args.limits.now ns all rest names after (resolved ++ one ∷ [])) more.names_are more in
    record {
      so_far = subst (λ (zs : List Rule). RulesReading c.args.limits.now ns all rest (map name_of zs) after zs) (sym c.in_ok-push.ensures.items) named;
      long = omega (arith, steps.1, c.loop-rule.invariant.long, ap (λ (rs : List TreeRule). length rs) steps.0);
    }

pub returns : goal.returns
returns c =
    let none = nil_from_length (into_iter_items c.loop-rule.rule-iterator) (sym c.loop-rule.invariant.long ∙ c.in-None.ensures.steps.0) in
    rules_end c.args.limits.now (kinds_of c.args.places.now) c.args.rules.items _ (map name_of c.loop-rule.resolved.items) c.loop-rule.guards
    c.loop-rule.resolved.items none
    c.loop-rule.invariant.so_far
