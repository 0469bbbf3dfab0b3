use Rattle.ta_search.proofs.Common.{refl, sym, ap, ◌∙◌, arith, false≢true, is_among}
use Rattle.ta_search.proofs.HoleLines.{hole_of}
use Rattle.ta_search.proofs.Adding.{adds_is, many_refused}
use Rattle.ta_search.proofs.lines.next_hole.Goals as goal

pub returns-then-are_too_many-clause-refused : goal.returns-then-are_too_many-clause-refused
returns-then-are_too_many-clause-refused c =
    let below = c.if-low-high.false in
    let small = c.if-high-gt-LARGEST_VALUE.false in
    many_refused c.args.holes.now c.args.line.now c.in-Some.name.now c.in-Some.low c.in-Some.high c.args.number c.in-Some.ensures
    (ap (is_among c.args.holes.now) (sym c.as_bytes.ensures.value) ∙ sym c.is_among.ensures ∙ c.if-is_among.false) (omega arith) (omega arith)
    ((c.are_too_many.ensures (hole_of c.in-Some.name.now c.in-Some.low c.in-Some.high) refl refl).0 c.if-are_too_many.true)

pub returns-clause-adds : goal.returns-clause-adds
returns-clause-adds c =
    let below = c.if-low-high.false in
    let small = c.if-high-gt-LARGEST_VALUE.false in
    adds_is c.args.holes.now c.args.line.now c.in-Some.name.now c.from_string.result c.in-Some.low c.in-Some.high c.in-Some.ensures
    (c.from_string.ensures ∙ c.in_ok-from_str.ensures.ok)
    (ap (is_among c.args.holes.now) (sym c.as_bytes.ensures.value) ∙ sym c.is_among.ensures ∙ c.if-is_among.false) (omega arith) (omega arith)
    (λ many. false≢true (sym c.if-are_too_many.false
    ∙ (c.are_too_many.ensures (hole_of c.from_string.result c.in-Some.low c.in-Some.high) refl refl).1 many))
