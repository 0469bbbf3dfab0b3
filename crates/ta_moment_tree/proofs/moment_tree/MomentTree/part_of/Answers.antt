use Rattle.ta_moment_tree.proofs.Common.{◌≡◌, ℕ, ◌<◌, List, Option, Some, length, reverse, slice_get, take, arith, sym, subst, refl, slice_get_read, Fact}
use Rattle.ta_moment_tree.proofs.Common.{candidate_of, MomentEncoding, NodeMark, NodeIs, AreMarks}
use Rattle.ta_moment_tree.specs.Kept.{KeepsIfSome}
use Rattle.ta_moment_tree.proofs.Parts.{mark_within, marks_cut, node_cut, same_cut}
use Rattle.ta_moment_tree.proofs.moment_tree.MomentTree.part_of.Goals as goal

pub returns-in-Some-clause-part : goal.returns-in-Some-clause-part
returns-in-Some-clause-part c =
    let t = c.args.self.now in
    let a = t.task.automaton.now in
    let p = t.task.pattern.now in
    let silent = t.silent.now in
    let old = c.args.kept in
    let node = c.in-Some.node in
    let kept = subst (λ (o : Option MomentEncoding). KeepsIfSome a p silent old o) c.in-Some.is c.requires.kept in
    let written = old.facts.items in
    let facts = c.args.facts.now in
    let shared = c.shared_length-shared.result in
    let o = candidate_of c.args.start in
    let is = subst (λ (s : ℕ). NodeIs a p silent (candidate_of s) (reverse written) node) c.if-was-start.true kept.is in
    let marks = subst (λ (s : ℕ). AreMarks a p silent (candidate_of s) written (length written) old.marks.items) c.if-was-start.true kept.marks in
    let same = subst (λ (xs : List Fact). take shared xs ≡ take shared facts) c.as_slice.ensures.value c.shared_length-shared.ensures.same in
    let inside : shared < length old.marks.items = omega (arith, c.len.ensures, old.marks.ok.0, c.if-shared-len.true) in
    let mark = c.index-mark.result.now in
    let at : slice_get old.marks.items shared ≡ Some mark = slice_get_read old.marks.items (length old.marks.items) shared mark refl inside c.index-mark.ensures
    in
    let here = marks.each shared mark at in
    record {
      within = c.shared_length-shared.ensures.right;
      is = node_cut a p silent o written facts shared mark node c.cut.result is c.cut.ensures.task (λ newer past. c.cut.ensures.node silent o newer past) here
          same;
      marks = subst (λ (ms : List NodeMark). AreMarks a p silent o facts shared ms) (sym c.truncate.ensures.items)
          (marks_cut a p silent o written facts (length written) shared old.marks.items marks inside same);
      same = same_cut old.system.rows node.draft.rows.items c.cut.result.draft.rows.items mark.rows kept.rows
          (mark_within a p silent o written shared mark node is here) c.cut.ensures.rows;
    }
