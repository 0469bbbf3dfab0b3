use Rattle.ta_witness.proofs.EndMark.{ends_with_event}
use Rattle.ta_witness.proofs.moment_laws.moment_runs_end_marked.Goals as goal

pub returns : goal.returns
returns c = ends_with_event
