use Rattle.ta_report.proofs.Common.{◌≡◌, ◌∙◌, List, ℕ, ap, subst, lines_text, run_lines, run_clear, text_lines, texts_data, view}
use Rattle.std.specs.Prelude.{IfOk}
use Rattle.ta_report.proofs.JsonItems.{lines_back}
use Rattle.serde_json.specs.Data as json
use Rattle.ta_report.proofs.object.run_value.Goals as goal

pub returns : goal.returns
returns c =
    let lines = run_lines c.args.file.now c.args.run.now in
    let bytes : c.as_str.result.now ≡ lines_text lines = c.as_str.ensures ∙ c.in_ok-text.ensures in
    let back : text_lines c.as_str.result.now ≡ lines = ap text_lines bytes ∙ lines_back lines (run_clear c.args.file.now c.args.run.now c.requires) in
    subst (λ (ls : List (List ℕ)). IfOk c.lines_value.result (λ value. view value ≡ json.array (texts_data ls))) back c.lines_value.ensures
