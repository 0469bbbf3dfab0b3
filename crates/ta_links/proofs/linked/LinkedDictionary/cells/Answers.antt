use Rattle.ta_links.proofs.Common.{subst, IsKeptInChains}
use Rattle.ta_links.proofs.LinkedFacts.{kept_of}
use Rattle.ta_links.proofs.linked.LinkedDictionary.cells.Goals as goal

pub returns-clause-chains : goal.returns-clause-chains
returns-clause-chains c = subst IsKeptInChains c.self.view_is (kept_of c.self.inside c.self.invariant)
