use Rattle.ta_walk.proofs.Common.{ℕ, ◌≡◌, ◌+◌, ◌≤◌, [], ◌∷◌, ◌++◌, ◌∙◌, refl, sym, ap, subst, arith, append_assoc, append-nil, IsShared, here, left_at, Cursor}
use Rattle.ta_walk.proofs.Common.{IsSpent, WholeNode, leaf_count, node_count, RoseBy, IsOutOfRangeAt, NodeAt, PartEnds, TreeEnd, beginning}
use Rattle.ta_walk.proofs.LeavesCounted.{leaves_below, leaves_few, leaves_more}
use Rattle.ta_walk.proofs.NodesCounted.{rose_next}
use Rattle.ta_walk.proofs.SearchesMoved.{moved_out_of_range, moved_whole}
use Rattle.ta_walk.proofs.WordSoFar.{WordSoFar, both_stand, word_at_node, word_begins, word_few, word_goes, word_refutes, word_shared, word_spent}
use Rattle.ta_walk.proofs.visiting.visit_stretch.Goals as goal

pub loop-before-init : goal.loop-before-init
loop-before-init g c = record {
  found = [];
  walked = word_begins (g.T.Tree.search c.args.tree.now) c.args.at.now.cursor c.requires.stands.within;
  counted = refl;
  keeps = λ first before has. subst (g.K.Keeper.keeps first c.args.keeper.now) (sym (append-nil before)) has;
  kept = c.requires.kept;
  branch = c.requires.branch;
  begun = omega arith;
}

pub returns-then-can_stop-clause-ends : goal.returns-then-can_stop-clause-ends
returns-then-can_stop-clause-ends g c = λ first before has.
    let s = g.T.Tree.search c.args.tree.now in
    let l = c.loop-before in
    word_spent s (left_at s c.args.at.now.cursor) l.at.cursor l.before l.invariant.found l.invariant.walked

pub solve_next-requires-clause-word : goal.solve_next-requires-clause-word
solve_next-requires-clause-word g c κs within = c.loop-before.invariant.walked.within.word

pub solve_next-requires-clause-few : goal.solve_next-requires-clause-few
solve_next-requires-clause-few g c κs within =
    let s = g.T.Tree.search c.args.tree.now in
    let l = c.loop-before in
    let done : l.before ≤ c.args.nodes = omega arith in
    let room = c.requires.stands.room in
    let few = (word_few s (left_at s c.args.at.now.cursor) l.at.cursor l.before c.requires.stands.most l.invariant.found c.requires.stands.few
    l.invariant.walked).0
    in
    omega arith

pub leaves_with-leaves-requires : goal.leaves_with-leaves-requires
leaves_with-leaves-requires g c =
    let l = c.loop-before in
    leaves_below l.invariant.found l.before l.leaves c.args.nodes l.invariant.counted l.invariant.walked.counted (omega arith) c.requires.limit

pub returns-in-OutOfRange-clause-ends : goal.returns-in-OutOfRange-clause-ends
returns-in-OutOfRange-clause-ends g c = λ first before has.
    let s = g.T.Tree.search c.args.tree.now in
    let l = c.loop-before in
    let begun = left_at s c.args.at.now.cursor in
    let kind = c.in-OutOfRange.kind in
    let within : l.before + 1 ≤ c.args.nodes = omega arith in
    word_at_node s begun l.at.cursor l.before c.args.nodes l.invariant.found (λ w. IsOutOfRangeAt (beginning s begun) w kind) l.invariant.walked
    (moved_out_of_range s s.roots begun (here l.at.cursor) kind (rw c.in-OutOfRange.is at c.in_ok-kind.ensures.solved)) within

pub returns-in-Whole-clause-ends : goal.returns-in-Whole-clause-ends
returns-in-Whole-clause-ends g c = λ first before has.
    let s = g.T.Tree.search c.args.tree.now in
    let l = c.loop-before in
    let begun = left_at s c.args.at.now.cursor in
    let values = c.in-Whole.values in
    let within : l.before + 1 ≤ c.args.nodes = omega arith in
    subst (PartEnds (beginning s begun) c.args.nodes (λ more. g.K.Keeper.keeps first l.keeper (before ++ more))) (sym c.in_ok-end-in-Whole.ensures)
    (word_at_node s begun l.at.cursor l.before c.args.nodes l.invariant.found
    (WholeNode (beginning s begun) l.at.cursor.start l.at.cursor.facts.items values)
    l.invariant.walked
    (record {
      start_is = refl;
      facts_are = refl;
      whole = moved_whole s s.roots begun (here l.at.cursor) values (rw c.in-Whole.is at c.in_ok-kind.ensures.solved);
    }) within)

pub returns-then-not-more-clause-ends : goal.returns-then-not-more-clause-ends
returns-then-not-more-clause-ends g c = λ first before has.
    let s = g.T.Tree.search c.args.tree.now in
    let l = c.loop-before in
    let n = c.in-Inner.node in
    let within : l.before + 1 ≤ c.args.nodes = omega arith in
    let stands : NodeAt s (here l.at.cursor) n = rw c.in-Inner.is at c.in_ok-kind.ensures.solved in
    let ends = rw c.if-not-more.true at c.in_ok-more-in-Inner.ensures in
    record {
      nodes = l.invariant.found ++ n ∷ [];
      is = word_refutes s (left_at s c.args.at.now.cursor) l.at.cursor c.go_on.new.cursor l.before c.args.nodes l.invariant.found n
          l.invariant.walked stands ends
          within;
      counted = c.leaves_with-leaves.ensures ∙ ap (λ (k : ℕ). k + leaf_count (n ∷ [])) l.invariant.counted ∙ sym (leaves_more l.invariant.found n);
      kept = subst (g.K.Keeper.keeps first c.take.new.self) (append_assoc before l.invariant.found (n ∷ []))
          (c.in_ok-take-in-Inner.ensures first (before ++ l.invariant.found) (l.invariant.keeps first before has));
    }

pub returns-then-not-more-clause-small : goal.returns-then-not-more-clause-small
returns-then-not-more-clause-small g c =
    let l = c.loop-before in
    let n = c.in-Inner.node in
    let counted = l.invariant.counted in
    let done = l.invariant.walked.counted in
    let few = leaves_few l.invariant.found in
    let one = leaves_few (n ∷ []) in
    let all = c.leaves_with-leaves.ensures in
    (omega arith, omega arith)

pub give_away-requires : goal.give_away-requires
give_away-requires g c =
    let s = g.T.Tree.search c.args.tree.now in
    let l = c.loop-before in
    let n = c.in-Inner.node in
    let stands : NodeAt s (here l.at.cursor) n = rw c.in-Inner.is at c.in_ok-kind.ensures.solved in
    let goes = rw c.if-not-more.false at c.in_ok-more-in-Inner.ensures in
    let walked = word_goes s (left_at s c.args.at.now.cursor) l.at.cursor c.go_on.new.cursor l.before l.invariant.found n l.invariant.walked stands
    goes in
    (walked.pending, walked.within)

pub returns-in-Some-clause-ends : goal.returns-in-Some-clause-ends
returns-in-Some-clause-ends g c = λ first before has.
    let s = g.T.Tree.search c.args.tree.now in
    let l = c.loop-before in
    let n = c.in-Inner.node in
    let begun = left_at s c.args.at.now.cursor in
    let found = l.invariant.found ++ n ∷ [] in
    let stands : NodeAt s (here l.at.cursor) n = rw c.in-Inner.is at c.in_ok-kind.ensures.solved in
    let goes = rw c.if-not-more.false at c.in_ok-more-in-Inner.ensures in
    let walked = word_goes s begun l.at.cursor c.go_on.new.cursor l.before l.invariant.found n l.invariant.walked stands goes in
    let shared : IsShared s c.go_on.new.cursor c.give_away.new.cursor c.in-Some.later = rw c.in-Some.is at c.in_ok-later-in-Inner.ensures.shared in
    word_shared s begun c.go_on.new.cursor c.give_away.new.cursor c.in-Some.later (l.before + 1) c.leaves_with-leaves.result found
    (λ more. g.K.Keeper.keeps first c.take.new.self (before ++ more)) walked shared
    (c.leaves_with-leaves.ensures ∙ ap (λ (k : ℕ). k + leaf_count (n ∷ [])) l.invariant.counted ∙ sym (leaves_more l.invariant.found n))
    (subst (g.K.Keeper.keeps first c.take.new.self) (append_assoc before l.invariant.found (n ∷ []))
    (c.in_ok-take-in-Inner.ensures first (before ++ l.invariant.found) (l.invariant.keeps first before has)))

pub returns-in-Some-clause-small : goal.returns-in-Some-clause-small
returns-in-Some-clause-small g c =
    let s = g.T.Tree.search c.args.tree.now in
    let l = c.loop-before in
    let n = c.in-Inner.node in
    let begun = left_at s c.args.at.now.cursor in
    let found = l.invariant.found ++ n ∷ [] in
    let stands : NodeAt s (here l.at.cursor) n = rw c.in-Inner.is at c.in_ok-kind.ensures.solved in
    let goes = rw c.if-not-more.false at c.in_ok-more-in-Inner.ensures in
    let walked = word_goes s begun l.at.cursor c.go_on.new.cursor l.before l.invariant.found n l.invariant.walked stands goes in
    let shared : IsShared s c.go_on.new.cursor c.give_away.new.cursor c.in-Some.later = rw c.in-Some.is at c.in_ok-later-in-Inner.ensures.shared in
    let within : l.before + 1 ≤ c.args.nodes = omega arith in
    both_stand s begun c.go_on.new.cursor c.give_away.new.cursor c.in-Some.later (l.before + 1) c.args.nodes c.requires.stands.most c.leaves_with-leaves.result
    found c.requires.stands.few c.requires.stands.room walked shared (omega arith) within
    (c.leaves_with-leaves.ensures ∙ ap (λ (k : ℕ). k + leaf_count (n ∷ [])) l.invariant.counted ∙ sym (leaves_more l.invariant.found n))

pub returns-clause-ends : goal.returns-clause-ends
returns-clause-ends g c = λ first before has.
    let s = g.T.Tree.search c.args.tree.now in
    let l = c.loop-before in
    let all : l.before ≡ c.args.nodes = omega arith in
    let spent = word_spent s (left_at s c.args.at.now.cursor) l.at.cursor l.before l.invariant.found l.invariant.walked in
    subst (λ (k : ℕ). IsSpent (beginning s (left_at s c.args.at.now.cursor)) k k) all spent

pub loop-before-preserved : goal.loop-before-preserved
loop-before-preserved g c =
    let s = g.T.Tree.search c.args.tree.now in
    let l = c.loop-before in
    let n = c.in-Inner.node in
    let begun = left_at s c.args.at.now.cursor in
    let stands : NodeAt s (here l.at.cursor) n = rw c.in-Inner.is at c.in_ok-kind.ensures.solved in
    let goes = rw c.if-not-more.false at c.in_ok-more-in-Inner.ensures in
    let same : c.give_away.new.cursor ≡ c.go_on.new.cursor = rw c.in_default.is at c.in_ok-later-in-Inner.ensures.shared in
    record {
      found = l.invariant.found ++ n ∷ [];
      walked = subst (λ (d : Cursor _). WordSoFar s begun d (l.before + 1) (l.invariant.found ++ n ∷ [])) (sym same)
          (word_goes s begun l.at.cursor c.go_on.new.cursor l.before l.invariant.found n l.invariant.walked stands goes);
      counted = c.leaves_with-leaves.ensures ∙ ap (λ (k : ℕ). k + leaf_count (n ∷ [])) l.invariant.counted ∙ sym (leaves_more l.invariant.found n);
      keeps = λ first before has. subst (g.K.Keeper.keeps first c.take.new.self) (append_assoc before l.invariant.found (n ∷ []))
          (c.in_ok-take-in-Inner.ensures first (before ++ l.invariant.found) (l.invariant.keeps first before has));
      kept = c.in_ok-kind.ensures.kept;
      branch = rw c.in-Inner.is at c.in_ok-kind.ensures.branch;
      begun = rose_next c.args.work.now.begun l.before l.work.begun c.solve_next.new.work.begun l.invariant.begun c.in_ok-kind.ensures.counted;
    }

pub returns-in-OutOfRange-clause-counted : goal.returns-in-OutOfRange-clause-counted
returns-in-OutOfRange-clause-counted g c =
    let l = c.loop-before in
    (omega arith, rose_next c.args.work.now.begun l.before l.work.begun c.solve_next.new.work.begun l.invariant.begun c.in_ok-kind.ensures.counted)

pub returns-in-Whole-clause-counted : goal.returns-in-Whole-clause-counted
returns-in-Whole-clause-counted g c =
    let l = c.loop-before in
    let old = c.args.work.now.begun in
    let new = c.solve_next.new.work.begun in
    let within : l.before + 1 ≤ c.args.nodes = omega arith in
    subst (λ (e : TreeEnd _). (node_count e ≤ c.args.nodes) × RoseBy old (node_count e) new) (sym c.in_ok-end-in-Whole.ensures)
    (within, rose_next old l.before l.work.begun new l.invariant.begun c.in_ok-kind.ensures.counted)

pub returns-then-not-more-clause-counted : goal.returns-then-not-more-clause-counted
returns-then-not-more-clause-counted g c =
    let l = c.loop-before in
    (omega arith, rose_next c.args.work.now.begun l.before l.work.begun c.solve_next.new.work.begun l.invariant.begun c.in_ok-kind.ensures.counted)

pub returns-in-Some-clause-counted : goal.returns-in-Some-clause-counted
returns-in-Some-clause-counted g c =
    let l = c.loop-before in
    rose_next c.args.work.now.begun l.before l.work.begun c.solve_next.new.work.begun l.invariant.begun c.in_ok-kind.ensures.counted

pub returns-in-Some-clause-branch : goal.returns-in-Some-clause-branch
returns-in-Some-clause-branch g c = rw c.in-Inner.is at c.in_ok-kind.ensures.branch

pub returns-in-Some-clause-forks : goal.returns-in-Some-clause-forks
returns-in-Some-clause-forks g c = rw c.in-Some.is at c.in_ok-later-in-Inner.ensures.forks
