use Rattle.ta_replay.proofs.Common.{◌≡◌, ◌++◌, drop, map, string_bytes, line_of, lines_text}
use Rattle.ta_replay.proofs.writing.write_lines.Given as goal

abbrev pub invariant-loop-line : goal.invariant-loop-line
invariant-loop-line l = string_bytes l.text ++ lines_text (map (line_of l.fn.automaton l.fn.pattern) (drop l.line-index l.lines)) ≡ string_bytes l.initial.text
    ++ lines_text (map (line_of l.fn.automaton l.fn.pattern) l.lines)
