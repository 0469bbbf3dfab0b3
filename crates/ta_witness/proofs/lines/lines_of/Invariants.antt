use Rattle.ta_witness.proofs.Common.{take, unknown_value, AddsPieces}
use Rattle.ta_witness.proofs.lines.lines_of.Given as goal

-- the lines of the earlier elements' pieces
abbrev pub invariant-loop-number : goal.invariant-loop-number
invariant-loop-number l = AddsPieces l.scoped.file.automaton l.pattern (unknown_value l.meanings l.values) (take l.number l.elements) l.lines.items
