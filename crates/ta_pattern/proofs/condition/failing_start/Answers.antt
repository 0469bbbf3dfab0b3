use Rattle.ta_pattern.proofs.Common.{IfNone, IfSome, point_of, Holds, HoldsAt, config_of, IfSome_then}
use Rattle.std.proofs.lemmas.Result.{IfOk-weaker}
use Rattle.ta_base.proofs.Options.{none_weaker}
use Rattle.ta_pattern.proofs.Agreeing.{holds_there, holds_here}
use Rattle.ta_pattern.proofs.condition.failing_start.Goals as goal

pub returns-clause-holds : goal.returns-clause-holds
returns-clause-holds c = λ a.
    let config = c.args.config.now in
    let start = c.args.pattern.now.start in
    let told = rw c.values.ensures at c.first_false.ensures.holds in
    IfOk-weaker c.first_false.result (λ first. IfNone first (HoldsAt (point_of config.values.items) start))
    (λ first. IfNone first (Holds start (config_of a config))) (λ first h. none_weaker first (holds_there a start config) h) told

pub returns-clause-fails : goal.returns-clause-fails
returns-clause-fails c = λ a.
    let config = c.args.config.now in
    let start = c.args.pattern.now.start in
    let told = rw c.values.ensures at c.first_false.ensures.fails in
    IfOk-weaker c.first_false.result (λ first. IfSome first (λ k. ¬ HoldsAt (point_of config.values.items) start))
    (λ first. IfSome first (λ k. ¬ Holds start (config_of a config)))
    (λ first h. IfSome_then first h (λ _. (λ fails holds. fails (holds_here a start config holds)))) told
