use Rattle.ta_verdict.proofs.Common.{string_bytes}
use Rattle.ta_base.proofs.Lists.{concat_added}
use Rattle.ta_verdict.proofs.pieces.Pieces.append.Goals as goal

pub returns : goal.returns
returns c = concat_added c.close.new.self.whole.items c.append.new.self.items c.args.other.whole.items _ (string_bytes c.args.other.open)
    c.in_ok-close.ensures.closed c.in_ok-append.ensures.items
