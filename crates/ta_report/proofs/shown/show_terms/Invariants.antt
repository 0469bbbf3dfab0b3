use Rattle.ta_report.proofs.Common.{◌≡◌, ◌++◌, drop, each, term_text}
use Rattle.std.proofs.Common.{string_bytes}
use Rattle.ta_report.proofs.shown.show_terms.Given as goal

abbrev pub invariant-loop-term : goal.invariant-loop-term
invariant-loop-term l = string_bytes l.text ++ each (term_text l.automaton) (drop l.term-index l.terms) ≡ string_bytes l.initial.text
    ++ each (term_text l.automaton) l.terms
