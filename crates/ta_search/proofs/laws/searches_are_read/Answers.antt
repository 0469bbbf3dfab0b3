use Rattle.ta_search.proofs.SearchItems.{searches_read}
use Rattle.ta_search.proofs.laws.searches_are_read.Goals as goal

pub returns : goal.returns
returns c = searches_read
