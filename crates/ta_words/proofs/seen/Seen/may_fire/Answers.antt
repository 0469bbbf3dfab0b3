use Rattle.std.proofs.Common.{sym, ap, ◌∙◌, ◌&&◌}
use Rattle.ta_words.proofs.Past.{allowed}
use Rattle.ta_words.proofs.seen.Seen.may_fire.Goals as goal

pub returns-then-moves_outside : goal.returns-then-moves_outside
returns-then-moves_outside c = λ start past is.
    sym (ap (λ b. b && c.is_unlocked.result) c.if-moves_outside.true)
    ∙ allowed c.args.automaton.now c.args.pattern.now start past c.args.rule.now c.moves_outside.result c.is_unlocked.result c.moves_outside.ensures
    (c.is_unlocked.ensures start past is)
