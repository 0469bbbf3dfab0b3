use Rattle.ta_moment_tree.proofs.ComingFacts.{search_small}
use Rattle.ta_moment_tree.proofs.Sizes.{stay_small}
use Rattle.ta_moment_tree.proofs.room.nodes_stay_small.Goals as goal

pub returns-clause-nodes : goal.returns-clause-nodes
returns-clause-nodes c = stay_small

pub returns-clause-search : goal.returns-clause-search
returns-clause-search c = search_small
