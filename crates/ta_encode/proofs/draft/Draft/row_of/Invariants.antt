use Rattle.ta_encode.proofs.Common.{line_coefficient, Sparse}
use Rattle.ta_encode.proofs.draft.Draft.row_of.Given as goal

abbrev pub invariant-loop-unknown : goal.invariant-loop-unknown
invariant-loop-unknown l = Sparse (line_coefficient l.automaton l.line.terms.now l.line.less_starts l.line.sense) l.meanings l.unknown l.written.items
