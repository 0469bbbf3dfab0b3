use Rattle.ta_report.proofs.Common.{◌∙◌, ap, has_float}
use Rattle.ta_report.proofs.CheckSayings.{no_floats}
use Rattle.ta_report.proofs.check_object.proofs_json.Goals as goal

pub json_line-requires : goal.json_line-requires
json_line-requires c = ap has_float c.in_ok-value.ensures ∙ no_floats c.args.rest c.args.file.now c.args.sample.now c.args.numbers.now
