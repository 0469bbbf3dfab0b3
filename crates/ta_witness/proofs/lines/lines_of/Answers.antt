use Rattle.ta_witness.proofs.Common.{[], arith, refl, subst, sym, get_or, slice_get_within, take_all, AllByRecursion, Event, unknown_value, AddsPieces}
use Rattle.ta_witness.proofs.Common.{slice_get-get_or, LineFits}
use Rattle.ta_witness.proofs.Making.{lined_more}
use Rattle.ta_witness.proofs.lines.lines_of.Goals as goal

pub loop-number-preserved : goal.loop-number-preserved
loop-number-preserved c = lined_more c.args.scoped.now.file.automaton c.args.pattern.now (unknown_value c.args.meanings.now c.args.values.now)
    c.args.elements.now c.loop-number.number (Event 0) c.loop-number.lines.items _ c.loop-number-test.true c.loop-number.invariant c.in_ok-push_piece.ensures

pub returns : goal.returns
returns c = subst (λ xs. AddsPieces c.args.scoped.now.file.automaton c.args.pattern.now (unknown_value c.args.meanings.now c.args.values.now) xs
    c.loop-number.lines.items) (take_all c.loop-number.number c.args.elements.now c.loop-number-test.false) c.loop-number.invariant

pub push_piece-requires-clause-known : goal.push_piece-requires-clause-known
push_piece-requires-clause-known c = c.requires.known

pub push_piece-requires-clause-ends : goal.push_piece-requires-clause-ends
push_piece-requires-clause-ends c =
    let element = get_or c.args.elements.now c.loop-number.number (Event 0) in
    c.requires.ends c.loop-number.number element (slice_get-get_or c.args.elements.now c.loop-number.number (Event 0) c.loop-number-test.true)

pub loop-number-init : goal.loop-number-init
loop-number-init c = record {
  pieces = [];
  are = record { count = refl; each = λ k element piece at there. absurd (let b = slice_get_within [] k piece there in omega arith) };
  made = c.new-lines.ensures.items;
  fit = subst (AllByRecursion (LineFits c.args.scoped.now.file.automaton c.args.pattern.now)) (sym c.new-lines.ensures.items) tt;
}
