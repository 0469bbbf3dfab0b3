use Rattle.ta_replay.proofs.Common.{sym, subst, ◌∙◌, false≢true, append_cancel_left, IsWord}
use Rattle.ta_replay.proofs.words.read_named.Goals as goal

pub returns-else-is_word : goal.returns-else-is_word
returns-else-is_word c =
    λ name is.
    let rest = append_cancel_left c.args.word.now c.in_ok-name.name.now name (sym c.in_ok-name.ensures ∙ is.text) in
    false≢true (sym c.if-is_word.false ∙ c.is_word.ensures.1 (subst IsWord (sym rest) is.spelled))
