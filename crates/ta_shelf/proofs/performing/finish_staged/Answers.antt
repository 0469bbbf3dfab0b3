use Rattle.ta_shelf.proofs.ShellCommon.{Ok, Err, refl}
use Rattle.ta_shelf.proofs.performing.finish_staged.Goals as goal

pub returns-in-Ok : goal.returns-in-Ok
returns-in-Ok g c = λ lost first faults staged. record {
  result = Ok tt;
  settled = rw c.as_str.ensures at c.in-Ok.ensures.settled lost first faults staged;
  cause = c.in-Ok.ensures.cause first faults staged;
  told = (refl, refl);
}

pub returns : goal.returns
returns g c = λ lost first faults staged. record {
  result = Err c.in-Err.halt;
  settled = rw c.as_str.ensures at c.in-Err.ensures.settled lost first faults staged;
  cause = c.in-Err.ensures.cause first faults staged;
  told = (c.tell_halt.ensures.number, c.tell_halt.ensures.told);
}
