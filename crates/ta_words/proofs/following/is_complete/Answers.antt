use Rattle.ta_words.proofs.Common.{reverse}
use Rattle.ta_words.proofs.following.is_complete.Goals as goal

pub returns : goal.returns
returns c = c.is_complete.ensures 0 (reverse c.args.elements.now) c.of.ensures
