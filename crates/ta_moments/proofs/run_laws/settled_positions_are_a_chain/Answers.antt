use Rattle.ta_moments.proofs.Segments.{sorted_is_chain}
use Rattle.ta_moments.proofs.run_laws.settled_positions_are_a_chain.Goals as goal

pub returns : goal.returns
returns c = sorted_is_chain
