use Rattle.ta_replay.proofs.Common.{◌≡◌, ◌++◌, drop, string_bytes, start_slots, value_lines, lines_text}
use Rattle.ta_replay.proofs.writing.write_counts.Given as goal

abbrev pub invariant-loop-i : goal.invariant-loop-i
invariant-loop-i l = string_bytes l.text ++ lines_text (value_lines (drop l.i (start_slots l.fn.automaton)) (drop l.i l.counts)) ≡ string_bytes l.initial.text
    ++ lines_text (value_lines (start_slots l.fn.automaton) l.counts)
