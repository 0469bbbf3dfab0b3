use Rattle.ta_smt.proofs.Common.{◌++◌, ◌∙◌, ap, codes, string_bytes, summands, led_text, ◌≡◌}
use Rattle.ta_base.proofs.Lists.{whole_more}
use Rattle.ta_smt.proofs.Written.{more_text}
use Rattle.ta_smt.proofs.export.push_sum.Goals as goal

pub returns : goal.returns
returns c =
    let middle = led_text (codes " ") (summands c.args.side c.args.form.now) in
    let before = string_bytes c.args.text.now in
    let begun = string_bytes c.push_str.new.self in
    let last : string_bytes c.push_str-2.new.self ≡ string_bytes c.push_summands.new.text ++ codes ")" = c.in_ok-push_str-2.ensures.bytes in
    last
    ∙ whole_more (string_bytes c.push_summands.new.text) begun middle (codes ")") c.in_ok-push_summands.ensures
    ∙ whole_more begun before (codes "(+") (middle ++ codes ")") c.in_ok-push_str.ensures.bytes
    ∙ ap (λ xs. before ++ xs) (more_text (summands c.args.side c.args.form.now) c.requires)
