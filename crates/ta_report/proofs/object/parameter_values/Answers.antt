use Rattle.ta_report.proofs.Common.{◌≡◌, ◌∙◌, ap, ◌<◌, arith, get_or, pos, length, rules, array, view, view-Array, value_data}
use Rattle.ta_report.proofs.JsonItems.{values_list, values_listed, values_count, value_at, pushed, all_pushed}
use Rattle.ta_report.proofs.object.parameter_values.Goals as goal

pub loop-number-preserved : goal.loop-number-preserved
loop-number-preserved c =
    let l = c.loop-number in
    let names = c.args.names.now in
    let values = c.args.values.now in
    let v = get_or values l.number (pos 0) in
    let name = c.index-names-number.result in
    let within : l.number < length values = c.loop-number-test.true in
    let d = view c.in_ok-parameter_value.field-0 in
    let here = value_at names values l.number d name v c.requires within (search rules) (search rules) in
    let is : d ≡ value_data name v = search rules in
    pushed (values_list names values) l.number l.items.items c.push.new.self.items c.in_ok-parameter_value.field-0 d l.invariant c.in_ok-push.ensures.items
    here.0 (is ∙ here.1)

pub returns : goal.returns
returns c =
    let l = c.loop-number in
    let names = c.args.names.now in
    let values = c.args.values.now in
    view-Array l.items ∙ ap array (all_pushed (values_list names values) l.number l.items.items l.invariant
    (omega (arith, values_count names values, c.loop-number-test.false)) ∙ values_listed names values)
