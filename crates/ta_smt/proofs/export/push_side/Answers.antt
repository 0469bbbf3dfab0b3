use Rattle.ta_smt.proofs.Common.{◌++◌, ◌∙◌, ap, arith, string_bytes, summands}
use Rattle.ta_smt.proofs.Written.{none_text, one_text}
use Rattle.ta_smt.proofs.export.push_side.Goals as goal

pub returns-in_ok-push_str-in-0 : goal.returns-in_ok-push_str-in-0
returns-in_ok-push_str-in-0 c = c.in_ok-push_str-in-0.ensures.bytes
    ∙ ap (λ xs. string_bytes c.args.text.now ++ xs) (none_text (summands c.args.side c.args.form.now) (omega arith))

pub returns-in_ok-push_summands-in-1 : goal.returns-in_ok-push_summands-in-1
returns-in_ok-push_summands-in-1 c = c.in_ok-push_summands-in-1.ensures
    ∙ ap (λ xs. string_bytes c.args.text.now ++ xs) (one_text (summands c.args.side c.args.form.now) (omega arith))
