use Rattle.ta_meaning.proofs.Common.{◌≡◌, ℕ, List, [], ◌∷◌, ◌++◌, map, length, ap, sym, subst, ◌∙◌, arith, into_iter_items, nil_from_length, err_is, Distinct}
use Rattle.ta_meaning.proofs.Common.{pattern_name, Pattern, plain_pattern, TreePattern, FirstOrMemory, pattern_faults, ResolvedPattern, kinds_of}
use Rattle.ta_meaning.proofs.PatternSteps.{PatternsTo, patterns_begin, patterns_stop, patterns_go_on, patterns_end}
use Rattle.ta_meaning.proofs.patterns.resolve_patterns.Goals as goal

pub loop-pattern-init : goal.loop-pattern-init
loop-pattern-init c =
    let xs = c.args.patterns.items in
    let gives = c.into_iter-pattern-iterator.ensures.into_iter_gives in
    let none = c.new-resolved.ensures.items in
    let resolved = c.new-resolved.result.items in
    let start = patterns_begin (kinds_of c.args.places.now) xs (map pattern_name resolved) resolved (ap (map pattern_name) none) none in
    record {
      so_far = subst (λ (ps : List TreePattern). PatternsTo (kinds_of c.args.places.now) xs ps (map pattern_name resolved) resolved) (sym gives.0) start;
      long = gives.1 ∙ c.args.patterns.ok.0 ∙ ap (λ (ps : List TreePattern). length ps) (sym gives.0);
    }

pub resolve_pattern-requires : goal.resolve_pattern-requires
resolve_pattern-requires c = subst (λ (before : List Pattern). Distinct (map pattern_name before)) (sym c.as_slice.ensures.value)
    c.loop-pattern.invariant.so_far.distinct

pub returns-in_err-one : goal.returns-in_err-one
returns-in_err-one c =
    let xs = c.args.patterns.items in
    let ns = kinds_of c.args.places.now in
    let resolved = c.loop-pattern.resolved.items in
    let e = c.in_err-one.field-0.0 in
    let here = subst (λ (ys : List TreePattern). PatternsTo ns xs ys (map pattern_name resolved) resolved) c.in-Some.ensures.steps.0
    c.loop-pattern.invariant.so_far in
    let told = subst (λ (before : List Pattern). FirstOrMemory (pattern_faults ns (map pattern_name before) c.in-Some.pattern) e) c.as_slice.ensures.value
    c.in_err-one.ensures in
    rw (err_is c.from_residual.result _ c.from_residual.ensures.1)
    (patterns_stop ns xs c.in-Some.pattern (into_iter_items c.next.new.self) (map pattern_name resolved) resolved here e told)

pub loop-pattern-preserved : goal.loop-pattern-preserved
loop-pattern-preserved c =
    let xs = c.args.patterns.items in
    let ns = kinds_of c.args.places.now in
    let rest = into_iter_items c.next.new.self in
    let pattern = c.in-Some.pattern in
    let steps = c.in-Some.ensures.steps in
    let resolved = c.loop-pattern.resolved.items in
    let one = c.in_ok-one.one in
    let here = subst (λ (ys : List TreePattern). PatternsTo ns xs ys (map pattern_name resolved) resolved) steps.0 c.loop-pattern.invariant.so_far in
    let read = subst (λ (before : List Pattern). (pattern_faults ns (map pattern_name before) pattern ≡ [])
    × ResolvedPattern ns (map pattern_name before) (plain_pattern pattern) (map pattern_name before ++ pattern.name.name ∷ []) one) c.as_slice.ensures.value
    c.in_ok-one.ensures in
    let more = patterns_go_on ns xs pattern rest (map pattern_name resolved) resolved here (map pattern_name resolved ++ pattern.name.name ∷ []) one read.0
    read.1 in
    let named = subst (λ (names : List (List ℕ)). PatternsTo ns xs rest names (resolved ++ one ∷ [])) more.names_are more in
    record {
      so_far = subst (λ (zs : List Pattern). PatternsTo ns xs rest (map pattern_name zs) zs) (sym c.in_ok-push.ensures.items) named;
      long = omega (arith, steps.1, c.loop-pattern.invariant.long, ap (λ (ps : List TreePattern). length ps) steps.0);
    }

pub returns : goal.returns
returns c =
    let xs = c.args.patterns.items in
    let ns = kinds_of c.args.places.now in
    let resolved = c.loop-pattern.resolved.items in
    let none = nil_from_length (into_iter_items c.loop-pattern.pattern-iterator) (sym c.loop-pattern.invariant.long ∙ c.in-None.ensures.steps.0) in
    patterns_end ns xs (map pattern_name resolved) resolved c.requires
    (subst (λ (ys : List TreePattern). PatternsTo ns xs ys (map pattern_name resolved) resolved) none c.loop-pattern.invariant.so_far)
