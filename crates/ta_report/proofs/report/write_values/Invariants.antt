use Rattle.ta_report.proofs.Common.{◌≡◌, ◌++◌, drop, values_text}
use Rattle.std.proofs.Common.{string_bytes}
use Rattle.ta_report.proofs.report.write_values.Given as goal

abbrev pub invariant-loop-i : goal.invariant-loop-i
invariant-loop-i l = string_bytes l.text ++ values_text (drop l.i l.names) (drop l.i l.values) ≡ string_bytes l.initial.text ++ values_text l.names l.values
