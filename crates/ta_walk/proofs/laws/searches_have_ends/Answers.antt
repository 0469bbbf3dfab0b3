use Rattle.ta_walk.proofs.SearchesEnd.{searches_end}
use Rattle.ta_walk.proofs.laws.searches_have_ends.Goals as goal

pub returns : goal.returns
returns g c = searches_end
