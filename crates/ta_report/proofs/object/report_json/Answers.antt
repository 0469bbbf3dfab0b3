use Rattle.ta_report.proofs.Common.{◌≡◌, ◌∙◌, ◌++◌, ap, false, codes, view, compact_text, has_float, report_data}
use Rattle.ta_report.proofs.JsonItems.{no_floats}
use Rattle.ta_report.proofs.object.report_json.Goals as goal

pub returns : goal.returns
returns c =
    let whole = report_data c.args.rest c.args.said.now.file.now c.args.said.now.pick c.args.said.now.sample.now c.args.said.now.verdicts.now in
    let is : view c.in_ok-report.report ≡ whole = c.in_ok-report.ensures in
    let plain : has_float (view c.in_ok-report.report) ≡ false = ap has_float is
    ∙ no_floats c.args.rest c.args.said.now.file.now c.args.said.now.pick c.args.said.now.sample.now c.args.said.now.verdicts.now in
    c.from_string.ensures ∙ c.in_ok-push_str.ensures.bytes ∙ ap (λ bytes. bytes ++ codes "\n") (c.in_ok-text.ensures.text plain ∙ ap compact_text is)
