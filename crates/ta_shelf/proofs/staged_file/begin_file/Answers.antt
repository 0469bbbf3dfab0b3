use Rattle.ta_shelf.proofs.ShellCommon.{[], refl, contains_here}
use Rattle.ta_shelf.proofs.OutputCalls.{changed_one}
use Rattle.ta_shelf.proofs.staged_file.begin_file.Goals as goal

pub returns-in-Ok-clause-begun : goal.returns-in-Ok-clause-begun
returns-in-Ok-clause-begun g c = record {
  log = changed_one _ _ _ _ c.in-Ok.ensures.log (c.in-Ok.ensures.named, c.in-Ok.ensures.empty, record { pieces = []; text = refl; all = refl });
  room = refl;
  cause = c.in-Ok.ensures.cause;
  kept = c.in-Ok.ensures.kept;
}

pub returns-in-Err-Failed-clause-begun : goal.returns-in-Err-Failed-clause-begun
returns-in-Err-Failed-clause-begun g c = record {
  log = changed_one _ _ _ _ c.in-Err-Failed.ensures.log ((contains_here c.args.name.now [], tt), tt);
  room = refl;
  cause = rw c.in-Err-Failed.field-0-is at c.in-Err-Failed.ensures.cause;
  kept = c.in-Err-Failed.ensures.kept;
}

pub returns-in-Err-Memory-clause-refused : goal.returns-in-Err-Memory-clause-refused
returns-in-Err-Memory-clause-refused g c = changed_one _ _ _ _ c.in-Err-Memory.ensures.log ((contains_here c.args.name.now [], tt), tt)
