use Rattle.ta_replay.proofs.Common.{sym, ◌∙◌, false≢true}
use Rattle.ta_replay.proofs.Forms.{no_space, no_word, no_number}
use Rattle.ta_replay.proofs.words.read_valued.Goals as goal

pub returns-in_err-name : goal.returns-in_err-name
returns-in_err-name c =
    rw c.from_residual-in_err-name.ensures
    (no_space c.args.word.now c.in_ok-rest.rest.now c.args.line.now c.in_ok-rest.ensures c.in_err-name.ensures)

pub returns-then-not-is_word : goal.returns-then-not-is_word
returns-then-not-is_word c = no_word c.args.word.now c.in_ok-rest.rest.now c.args.line.now c.in_ok-name.name.now c.in_ok-name.digits.now c.in_ok-rest.ensures
    c.in_ok-name.ensures (λ word. false≢true (sym c.if-not-is_word.true ∙ c.is_word.ensures.1 word))

pub returns-in_err-value : goal.returns-in_err-value
returns-in_err-value c =
    rw c.from_residual-in_err-value.ensures
    (no_number c.args.word.now c.in_ok-rest.rest.now c.args.line.now c.in_ok-name.name.now c.in_ok-name.digits.now c.in_ok-rest.ensures c.in_ok-name.ensures
    c.in_err-value.ensures)
