use Rattle.ta_syntax.proofs.Common.{ap, sym, List, ℕ, offset_of, Token}
use Rattle.ta_syntax.proofs.reading.read_number.Goals as goal

pub returns : goal.returns
returns c =
    let split = c.in-Some.ensures.cases.0 in (
      record { first = c.in-Some.first.now; split = split; is = rw c.in_ok-text.ensures c.in-Number.is },
      λ (end : ℕ). ap (λ (x : List Token). offset_of end x)
          (sym split),
    )
