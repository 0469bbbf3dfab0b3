use Rattle.ta_links.proofs.Common.{ap, length, List, Cell}
use Rattle.ta_links.proofs.Beginning.{empty_linked}
use Rattle.ta_links.proofs.starting.no_cells.Goals as goal

pub returns-clause-sound : goal.returns-clause-sound
returns-clause-sound c =
    let none = ap (λ (xs : List Cell). length xs) c.new.ensures.items in
    empty_linked c.new.result.items c.in_ok-no_heads.field-0.items c.in_ok-no_heads-2.field-0.items none c.in_ok-no_heads.ensures.empty
    c.in_ok-no_heads-2.ensures.empty
