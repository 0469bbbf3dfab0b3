use Rattle.ta_report.proofs.Common.{◌≡◌, ◌++◌, drop, numbered}
use Rattle.std.proofs.Common.{string_bytes}
use Rattle.ta_report.proofs.shown.show_numbered.Given as goal

abbrev pub invariant-items : goal.invariant-items
invariant-items g l = string_bytes l.text ++ numbered (g.T.Shown.shown l.automaton) l.number-counter (drop l.number-counter l.items) ≡ string_bytes
    l.initial.text ++ numbered (g.T.Shown.shown l.automaton) 0 l.items
