use Rattle.ta_encode.proofs.Common.{map, take, Row, form_row, Adds}
use Rattle.ta_encode.proofs.draft.Draft.push_rows.Given as goal

abbrev pub invariant-loop-row : goal.invariant-loop-row
invariant-loop-row l = Adds (λ a ms. map (λ (r : Row). form_row a ms r.form) (take l.row-index l.some)) l.fn.self l.self
