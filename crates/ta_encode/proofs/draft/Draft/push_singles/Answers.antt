use Rattle.ta_encode.proofs.Adding.{adds_both}
use Rattle.ta_encode.proofs.draft.Draft.push_singles.Goals as goal

pub returns : goal.returns
returns c = adds_both c.in_ok-push_block.ensures c.in_ok-push_block-2.ensures
