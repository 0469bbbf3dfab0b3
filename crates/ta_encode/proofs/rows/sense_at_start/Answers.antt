use Rattle.ta_encode.proofs.Common.{sym, ap, bit_off, bit_on, start_sense}
use Rattle.ta_encode.proofs.rows.sense_at_start.Goals as goal

pub returns-then-start_mask-number-ne0 : goal.returns-then-start_mask-number-ne0
returns-then-start_mask-number-ne0 c = ap start_sense (sym (bit_on 8 c.args.start_mask c.args.number c.requires c.if-start_mask-number-ne0.true))

pub returns-else-start_mask-number-ne0 : goal.returns-else-start_mask-number-ne0
returns-else-start_mask-number-ne0 c = ap start_sense (sym (bit_off 8 c.args.start_mask c.args.number c.requires c.if-start_mask-number-ne0.false))
