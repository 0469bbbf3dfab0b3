use Rattle.ta_moments.proofs.Searching.{are_a_search}
use Rattle.ta_moments.proofs.laws.moments_are_a_search.Goals as goal

pub returns : goal.returns
returns c = are_a_search
