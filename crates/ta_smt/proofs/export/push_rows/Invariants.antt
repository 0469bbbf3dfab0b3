use Rattle.ta_smt.proofs.Common.{◌≡◌, ◌++◌, drop, map, string_bytes, lines_text, assert_line, row_claim}
use Rattle.ta_smt.proofs.export.push_rows.Given as goal

abbrev pub invariant-loop-row : goal.invariant-loop-row
invariant-loop-row l = string_bytes l.text ++ lines_text (map assert_line (map row_claim (drop l.row-index l.rows))) ≡ string_bytes l.initial.text
    ++ lines_text (map assert_line (map row_claim l.rows))
