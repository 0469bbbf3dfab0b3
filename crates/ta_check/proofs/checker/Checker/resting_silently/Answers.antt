use Rattle.ta_check.proofs.Common.{refl, RestSafe, claiming_with}
use Rattle.ta_check.proofs.Accepting.{may_rest}
use Rattle.ta_check.proofs.Pieces.{stands_first}
use Rattle.ta_check.proofs.checker.Checker.resting_silently.Goals as goal

pub returns-clause-stands : goal.returns-clause-stands
returns-clause-stands c =
    let rest = c.args.rest.now in
    let subject = claiming_with RestSafe rest.ending.file c.args.silent.now c.args.line_bytes in
    record {
      may = may_rest rest.ending.file c.args.silent.now c.args.line_bytes rest.come_last;
      going_on = refl;
      stand = stands_first subject c.new.result c.new-2.result
          c.new.ensures.state c.new.ensures.failed (c.new-2.ensures subject);
    }
