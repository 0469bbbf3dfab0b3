use Rattle.ta_walk.proofs.WalksEnd.{walks_end, words_have}
use Rattle.ta_walk.proofs.laws.walks_have_ends.Goals as goal

pub returns : goal.returns
returns c = record { systems = words_have; ends = walks_end }
