use Rattle.ta_program.proofs.Common.{◌≡◌, drop}
use Rattle.ta_program.specs.Proofs.{are_proved}
use Rattle.ta_program.proofs.proofs_said.are_proved.Given as goal

-- those that are left decide
abbrev pub invariant-loop-number : goal.invariant-loop-number
invariant-loop-number l = are_proved l.numbers l.number (drop l.number l._pattern-items) ≡ are_proved l.numbers 0 l.file.patterns
