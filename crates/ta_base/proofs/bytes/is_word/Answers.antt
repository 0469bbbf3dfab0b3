use Rattle.std.proofs.Common.{sym, ◌∙◌}
use Rattle.ta_base.proofs.bytes.is_word.Goals as goal
use Rattle.ta_base.proofs.Each.{word_tells}

pub returns-then-is_letter : goal.returns-then-is_letter
returns-then-is_letter c = word_tells c.args.bytes.now c.are_word_bytes.result c.in-len1-up.len_at_least (sym c.is_letter.ensures ∙ c.if-is_letter.true)
    c.are_word_bytes.ensures
