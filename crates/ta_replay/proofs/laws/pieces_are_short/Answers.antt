use Rattle.ta_replay.proofs.PieceLines.{are_short}
use Rattle.ta_replay.proofs.laws.pieces_are_short.Goals as goal

pub returns : goal.returns
returns c = are_short
