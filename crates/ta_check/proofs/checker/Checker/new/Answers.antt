use Rattle.ta_check.proofs.Common.{[], refl, Safe, claiming}
use Rattle.ta_check.proofs.Accepting.{may_be_safe}
use Rattle.ta_check.proofs.Pieces.{stands_first}
use Rattle.ta_check.proofs.checker.Checker.new.Goals as goal

pub returns-clause-stands : goal.returns-clause-stands
returns-clause-stands c =
    let subject = claiming Safe c.args.scoped.now.file c.args.line_bytes in
    record {
      may = may_be_safe c.args.scoped.now.file [] c.args.line_bytes;
      going_on = refl;
      stand = stands_first subject c.new.result c.new-2.result c.new.ensures.state
          c.new.ensures.failed (c.new-2.ensures subject);
    }
