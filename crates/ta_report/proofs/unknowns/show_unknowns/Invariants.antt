use Rattle.ta_report.proofs.Common.{◌≡◌, ◌++◌, drop, each, pattern_unknowns_text}
use Rattle.std.proofs.Common.{string_bytes}
use Rattle.ta_report.proofs.unknowns.show_unknowns.Given as goal

abbrev pub invariant-loop-pattern : goal.invariant-loop-pattern
invariant-loop-pattern l = string_bytes l.text ++ each (pattern_unknowns_text l.automaton)
    (drop l.pattern-index l.patterns) ≡ string_bytes l.initial.text ++ each (pattern_unknowns_text l.automaton) l.patterns
