use Rattle.ta_maker.proofs.Flawless.{flawless}
use Rattle.ta_maker.proofs.laws.family_is_flawless.Goals as goal

pub returns : goal.returns
returns c = flawless c.printed_has_tokens.ensures.tokens c.printed_has_tokens.ensures.trees
