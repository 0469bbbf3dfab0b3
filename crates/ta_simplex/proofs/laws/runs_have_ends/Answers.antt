use Rattle.ta_simplex.proofs.RunEndings.{run_ends}
use Rattle.ta_simplex.proofs.SystemEnds.{end_exists}
use Rattle.ta_simplex.proofs.laws.runs_have_ends.Goals as goal

pub returns : goal.returns
returns c = record { runs = run_ends; systems = λ s no_end no_overflow. run_ends s (λ r. no_end (end_exists s r.0 r.1 r.2 r.3)) no_overflow }
