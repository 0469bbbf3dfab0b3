use Rattle.ta_syntax.proofs.Common.{refl, ap, inl, inr, ◌≡◌, ◌∙◌, [], List, Token, err_is, nil_from_length, Limits, body, Production, both, nothing, parse}
use Rattle.ta_syntax.proofs.FileSteps.{to_end}
use Rattle.ta_syntax.proofs.Steps.{then, past, halts_by, halts_in, stops_first}
use Rattle.ta_syntax.specs.FileGrammar as grammar
use Rattle.ta_syntax.specs.declared.tokens.Mark.TheVariants as mark
use Rattle.ta_syntax.proofs.file.read_body.Goals as goal

abbrev all_rules : Limits → Production
all_rules l = grammar.blocks l.rules mark.Rule grammar.rule

abbrev all_patterns : Limits → Production
all_patterns l = grammar.blocks l.patterns mark.Pattern (grammar.pattern l)

abbrev all_blocks : Limits → Production
all_blocks l = both (all_rules l) (all_patterns l)

pub returns-in_err-resilience : goal.returns-in_err-resilience
returns-in_err-resilience c = rw (err_is c.from_residual.result _ c.from_residual.ensures.1)
    (inl (stops_first (grammar.declared_list mark.Resilience 16 grammar.comparison) (all_blocks c.args.limits.now) c.args.end c.args.tokens.now
    c.in_err-resilience.field-0.0
    c.in_err-resilience.ensures))

pub returns-in_err-rules : goal.returns-in_err-rules
returns-in_err-rules c = rw (err_is c.from_residual-in_err-rules.result _ c.from_residual-in_err-rules.ensures.1)
    (inl (halts_in (body c.args.limits.now) (all_rules c.args.limits.now) (all_patterns c.args.limits.now) c.args.end c.in_err-rules.field-0.0
    (past c.in_ok-resilience.ensures.took) c.in_err-rules.ensures))

pub returns-in_err-patterns : goal.returns-in_err-patterns
returns-in_err-patterns c = rw (err_is c.from_residual-in_err-patterns.result _ c.from_residual-in_err-patterns.ensures.1)
    (inl (halts_by (body c.args.limits.now) (all_patterns c.args.limits.now) c.args.end c.in_err-patterns.field-0.0
    (then (past c.in_ok-resilience.ensures.took) (past c.in_ok-rules.ensures.took)) c.in_err-patterns.ensures))

pub returns-in-Some : goal.returns-in-Some
returns-in-Some c =
    let took = then (past c.in_ok-resilience.ensures.took) (then (past c.in_ok-rules.ensures.took) c.in_ok-patterns.ensures.took) in
    inr (c.in-Some.first.now, _, took.goes ∙ ap (λ (z : List Token). parse nothing z) c.in-Some.ensures.cases.0, refl)

pub returns : goal.returns
returns c =
    let none : c.in_ok-patterns.rest.now ≡ [] = nil_from_length c.in_ok-patterns.rest.now c.in_default.ensures.cases in
    let took = then (past c.in_ok-resilience.ensures.took) (then (past c.in_ok-rules.ensures.took) c.in_ok-patterns.ensures.took) in
    rw (c.from_vec.ensures, c.from_vec-2.ensures) (record {
      resilience = c.in_ok-resilience.ensures.few;
      rules = c.in_ok-rules.ensures.few;
      patterns = c.in_ok-patterns.ensures.few;
      took = to_end took none;
    })
