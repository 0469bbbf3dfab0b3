use Rattle.ta_encode.proofs.Common.{ℕ, List, ap, refl, reverse, subst, take, ◌≡◌, ◌<◌, ◌≤◌, ◌^◌, ◌∙◌, length, arith, length-reverse, length-take-le}
use Rattle.ta_encode.proofs.Common.{IfOk-weaker, Row, Element, AreMarks, IsPart, mark_at}
use Rattle.ta_encode.proofs.Drafts.{meanings_few}
use Rattle.ta_encode.proofs.Marking.{part_kept}
use Rattle.ta_encode.proofs.growing.part_of.Goals as goal

pub invariant_of-draft : goal.invariant_of-draft
invariant_of-draft c =
    let o = c.args.origin.now in
    let e = c.args.encoding in
    let shared = c.shared_length-shared in
    let inside : shared.result < length e.marks.items = omega (arith, c.len.ensures, e.marks.ok.0, c.if-shared-len.true) in
    let here = (c.requires.encoding.holds shared.result inside).drafted.unknowns_are in
    let before = take shared.result e.elements.items in
    let left : shared.result ≤ length e.elements.items = omega (arith, shared.ensures.left, ap length c.as_slice.ensures.value) in
    let few : length c.cut-marks.result.1.items < 2 ^ 32 = omega (
      arith,
      ap length c.cut-marks.ensures.meanings,
      ap length here,
      meanings_few o.task.automaton.now o.task.pattern.now e.start_mask (reverse before),
      length-reverse before,
      length-take-le shared.result e.elements.items left,
      shared.ensures.right,
      c.requires.few,
    ) in
    record { few = few }

pub returns-then-shared-len : goal.returns-then-shared-len
returns-then-shared-len c =
    let o = c.args.origin.now in
    let e = c.args.encoding in
    let shared = c.shared_length-shared in
    let are = subst (λ (s : ℕ). AreMarks o.task.automaton.now o.task.pattern.now s e.elements.items e.meanings.items e.system.rows e.marks.items)
    c.if-was-origin.true c.requires.encoding in
    let inside : shared.result < length e.marks.items = omega (arith, c.len.ensures, e.marks.ok.0, c.if-shared-len.true) in
    let same = subst (λ (xs : List Element). take shared.result xs ≡ take shared.result c.args.elements.now) c.as_slice.ensures.value shared.ensures.same in
    let rows = subst (λ (rs : List Row). c.cut-marks.result.2.items ≡ take (mark_at e.marks.items shared.result).rows rs) c.into_vec.ensures
    c.cut-marks.ensures.rows in
    part_kept o e.elements.items c.args.elements.now e.meanings.items e.system.rows e.marks.items _ are inside shared.ensures.right same refl
    c.cut-marks.ensures.marks c.cut-marks.ensures.meanings rows (c.len-same.ensures ∙ c.cut-marks.result.2.ok.0)

pub returns : goal.returns
returns c =
    IfOk-weaker c.begin.result _ (IsPart c.args.origin.now c.args.elements.now c.args.encoding.system.rows)
    (λ part h. h c.args.elements.now c.args.encoding.system.rows) c.begin.ensures
