use Rattle.ta_encode.proofs.Common.{List, map, sym, ap, subst, Row, has_bit, guard_rows, SmallRows, in_sense}
use Rattle.ta_encode.proofs.Adding.{adds_alike}
use Rattle.ta_encode.proofs.Smallness.{fall_rows_small}
use Rattle.ta_encode.proofs.draft.Draft.push_falls.Goals as goal

pub push_guards-requires-clause-small : goal.push_guards-requires-clause-small
push_guards-requires-clause-small c = subst SmallRows (sym c.as_slice.ensures) (fall_rows_small c.args.self.now.automaton.now)

pub returns : goal.returns
returns c =
    let draft = c.args.self.now in
    adds_alike (ap (λ (rs : List Row). map (in_sense c.args.sense) (guard_rows draft.automaton.now draft.meanings.items (has_bit c.args.mask) 0 rs))
    c.as_slice.ensures) c.in_ok-push_guards.ensures
