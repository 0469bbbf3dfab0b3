use Rattle.ta_report.proofs.Common.{◌≡◌, ◌∙◌, ◌<◌, ap, arith, length, rules, array, view, view-Array, verdict_data}
use Rattle.ta_report.proofs.JsonItems.{verdicts_list, verdicts_listed, verdicts_count, verdict_at, pushed, all_pushed}
use Rattle.ta_report.proofs.object.verdict_values.Goals as goal

pub loop-number-preserved : goal.loop-number-preserved
loop-number-preserved c =
    let l = c.loop-number in
    let file = c.args.file.now in
    let verdicts = c.args.verdicts.now in
    let v = c.index-verdicts-number.result in
    let p = c.index-patterns-number.result in
    let within : l.number < length verdicts = c.loop-number-test.true in
    let d = view c.in_ok-verdict_value.field-0 in
    let here = verdict_at c.args.rest file c.args.patterns.now verdicts l.number d p v c.requires.all within (search rules) (search rules) in
    let is : d ≡ verdict_data c.args.rest file p v = search rules in
    pushed (verdicts_list c.args.rest file c.args.patterns.now verdicts) l.number l.items.items c.push.new.self.items c.in_ok-verdict_value.field-0 d
    l.invariant c.in_ok-push.ensures.items here.0 (is ∙ here.1)

pub returns : goal.returns
returns c =
    let l = c.loop-number in
    let file = c.args.file.now in
    let verdicts = c.args.verdicts.now in
    view-Array l.items ∙ ap array (all_pushed (verdicts_list c.args.rest file c.args.patterns.now verdicts) l.number l.items.items l.invariant
    (omega (arith, verdicts_count c.args.rest file c.args.patterns.now verdicts, c.loop-number-test.false))
    ∙ verdicts_listed c.args.rest file c.args.patterns.now verdicts)
