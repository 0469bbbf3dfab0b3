use Rattle.ta_meaning.proofs.Common.{Err, ap, negative_stays}
use Rattle.ta_meaning.proofs.forms.negative.Goals as goal

pub unreachable-requires : goal.unreachable-requires
unreachable-requires c = negative_stays c.args.a.now (c.in-Err-Overflow.ensures.overflow (ap Err c.in-Err-Overflow.field-0-is))
