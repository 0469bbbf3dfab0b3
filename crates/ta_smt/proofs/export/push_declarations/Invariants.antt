use Rattle.ta_smt.proofs.Common.{◌≡◌, ◌-◌, ◌++◌, map, string_bytes, range_with_len, lines_text, declare_line}
use Rattle.ta_smt.proofs.export.push_declarations.Given as goal

abbrev pub invariant-loop-number : goal.invariant-loop-number
invariant-loop-number l = string_bytes l.text ++ lines_text (map declare_line (range_with_len l.number-counter (l.unknowns - l.number-counter))) ≡ string_bytes
    l.initial.text ++ lines_text (map declare_line (range_with_len 0 l.unknowns))
