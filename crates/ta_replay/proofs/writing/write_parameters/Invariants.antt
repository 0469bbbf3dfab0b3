use Rattle.ta_replay.proofs.Common.{◌≡◌, ◌++◌, drop, string_bytes, parameter_slots, value_lines, lines_text}
use Rattle.ta_replay.proofs.writing.write_parameters.Given as goal

abbrev pub invariant-loop-i : goal.invariant-loop-i
invariant-loop-i l = string_bytes l.text ++ lines_text (value_lines (drop l.i (parameter_slots l.fn.automaton)) (drop l.i l.values)) ≡ string_bytes
    l.initial.text ++ lines_text (value_lines (parameter_slots l.fn.automaton) l.values)
