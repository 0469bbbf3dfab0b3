use Rattle.ta_replay.proofs.PieceLines.{show}
use Rattle.ta_replay.proofs.laws.pieces_show.Goals as goal

pub returns : goal.returns
returns c = show
