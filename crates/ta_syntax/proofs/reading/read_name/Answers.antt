use Rattle.ta_syntax.proofs.Common.{ap, sym, List, offset_of, Token}
use Rattle.ta_syntax.proofs.reading.read_name.Goals as goal

pub returns : goal.returns
returns c =
    let split = c.in-Some.ensures.cases.0 in (
      record { first = c.in-Some.first.now; split = split; is = rw c.in_ok-name.ensures c.in-Name.is },
      ap (λ (x : List Token). offset_of c.args.end x)
          (sym split),
    )
