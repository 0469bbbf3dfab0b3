-- nodes that are written on
use Rattle.ta_moment_tree.proofs.Common.{◌≡◌, ◌∙◌, ℕ, zero, suc, ◌+◌, ◌<◌, ◌≤◌, List, [], ◌∷◌, ◌++◌, drop, get_or, length, reverse, slice_get, take, Option}
use Rattle.ta_moment_tree.proofs.Common.{Some, refl, sym, ap, subst, arith, inl, inr, length-append, length-map, length-take-le, take-append-drop}
use Rattle.ta_moment_tree.proofs.Common.{take-append-le, take-take, same_Some, slice_get_within, fewer_alike, get_parts, reverse_more, slice_get_left}
use Rattle.ta_moment_tree.proofs.Common.{Automaton, Pattern, IsBehind, SameRows, SystemAt, Bound, Row, System, Asking, Maker, candidate_of, moment_search}
use Rattle.ta_moment_tree.proofs.Common.{start_of, take-length, Fact, Known, IsMark, form_of, known_of, IsNode, Task, MomentEncoding, NodeMark, NodeIs}
use Rattle.ta_moment_tree.proofs.Common.{AreMarks}
use Rattle.ta_moments.specs.Moments.{known}
use Rattle.ta_moment_tree.proofs.Cutting.{rows_front}
use Rattle.ta_moment_tree.proofs.Reversed.{reverse_parts}

-- ---- marks
module _ (a : Automaton) (p : Pattern) (silent : List ℕ) (c : Option ℕ) where
  first_only : (facts : List Fact) (mark : NodeMark) (i : ℕ) (other : NodeMark) → IsMark (known a p silent c []) mark → slice_get (mark ∷ []) i ≡ Some other
      → IsMark (known a p silent c (reverse (take i facts))) other
  first_only facts mark zero other is at = subst (λ (m : NodeMark). IsMark (known a p silent c []) m) (same_Some mark other at) is
  first_only facts mark (suc i) other is at = absurd (cc)

  -- that of the node without facts
  pub marks_first : (facts : List Fact) (mark : NodeMark) (marks : List NodeMark) → marks ≡ mark ∷ [] → IsMark (known a p silent c []) mark
      → AreMarks a p silent c facts 0 marks
  marks_first facts mark marks are is = record {
    marked = ap (λ (ms : List NodeMark). length ms) are;
    each = λ i other at. first_only facts mark i other is (ap (λ (ms : List NodeMark). slice_get ms i) (sym are) ∙ at);
  }

  last_one : (facts : List Fact) (n i k : ℕ) (mark other : NodeMark) → IsMark (known a p silent c (reverse (take (n + 1) facts))) mark → i ≡ n + 1 + k
      → slice_get (mark ∷ []) k ≡ Some other → IsMark (known a p silent c (reverse (take i facts))) other
  last_one facts n i zero mark other is here at =
      let same : n + 1 ≡ i = omega (arith, here) in
      subst (λ (j : ℕ). IsMark (known a p silent c (reverse (take j facts))) other) same
      (subst (λ (m : NodeMark). IsMark (known a p silent c (reverse (take (n + 1) facts))) m) (same_Some mark other at) is)
  last_one facts n i (suc k) mark other is here at = absurd (cc)

  -- with one more
  pub marks_more : (facts : List Fact) (n : ℕ) (mark : NodeMark) (marks more : List NodeMark) → AreMarks a p silent c facts n marks → more ≡ marks ++ mark ∷ []
      → IsMark (known a p silent c (reverse (take (n + 1) facts))) mark → AreMarks a p silent c facts (n + 1) more
  marks_more facts n mark marks more are is here = record {
    marked = (let count = are.marked in omega (arith, ap (λ (ms : List NodeMark). length ms) is, length-append marks (mark ∷ []), count));
    each = λ i other at. elim (get_parts marks (mark ∷ []) i other (ap (λ (ms : List NodeMark). slice_get ms i) (sym is) ∙ at)) [
      | inl old ↦ are.each i other old
      | inr new ↦ last_one facts n i new.0 mark other here (let count = are.marked in let at_end = new.1 in omega (arith, count, at_end)) new.2
    ];
  }

  -- and after some facts that other facts begin with too
  pub marks_cut : (facts others : List Fact) (n shared : ℕ) (marks : List NodeMark) → AreMarks a p silent c facts n marks → shared < length marks
      → take shared facts ≡ take shared others → AreMarks a p silent c others shared (take (shared + 1) marks)
  marks_cut facts others n shared marks are inside same = record {
    marked = length-take-le (shared + 1) marks (omega (arith, inside));
    each = λ i other at.
        let below = slice_get_within (take (shared + 1) marks) i other at in
        let short = length-take-le (shared + 1) marks (omega (arith, inside)) in
        let there = ap (λ (ms : List NodeMark). slice_get ms i) (sym (take-append-drop (shared + 1) marks))
        ∙ slice_get_left (take (shared + 1) marks) (drop (shared + 1) marks) i other at in
        subst (λ (facts : List Fact). IsMark (known a p silent c (reverse facts)) other) (fewer_alike i shared facts others (omega (arith, below, short)) same)
        (are.each i other there);
  }

-- ---- nodes
pub known_of_node : (a : Automaton) (p : Pattern) (silent : List ℕ) (c : Option ℕ) (past : List Fact) (node : MomentEncoding) → NodeIs a p silent c past node
    → known_of node.draft ≡ known a p silent c past
known_of_node a p silent c past node is =
    is.is.draft.known ∙ ap (λ (b : Automaton). known b node.plan.task.pattern.now silent c past) is.automaton
    ∙ ap (λ (q : Pattern). known a q silent c past) is.pattern

pub node_unknowns : (a : Automaton) (p : Pattern) (silent : List ℕ) (c : Option ℕ) (past : List Fact) (node : MomentEncoding) → NodeIs a p silent c past node
    → node.draft.unknowns ≡ (known a p silent c past).unknowns
node_unknowns a p silent c past node is = ap (λ (k : Known). k.unknowns) (known_of_node a p silent c past node is)

-- a mark of a node above has no more rows
pub mark_within : (a : Automaton) (p : Pattern) (silent : List ℕ) (c : Option ℕ) (facts : List Fact) (i : ℕ) (mark : NodeMark) (node : MomentEncoding)
    → NodeIs a p silent c (reverse facts) node → IsMark (known a p silent c (reverse (take i facts))) mark → mark.rows ≤ length node.draft.rows.items
mark_within a p silent c facts i mark node is at =
    let front = rows_front a p silent c (reverse (drop i facts)) (reverse (take i facts)) in
    let whole = ap (λ (past : List Fact). (known a p silent c past).rows) (reverse_parts facts i) ∙ front.is in
    let rows = ap (λ (k : Known). k.rows) (known_of_node a p silent c (reverse facts) node is) in
    let count = at.rows in
    omega (
      arith,
      count,
      length-map node.draft.rows.items (λ (row : Row). form_of row.form),
      ap length rows,
      ap length whole,
      length-append
          (known a p silent c (reverse (take i facts))).rows front.more,
    )

-- a node that is cut is the node of the facts that are left, with which other facts begin too
pub node_cut : (a : Automaton) (p : Pattern) (silent : List ℕ) (c : Option ℕ) (written facts : List Fact) (shared : ℕ) (mark : NodeMark)
    (node cut : MomentEncoding) → NodeIs a p silent c (reverse written) node
    → cut.plan.task ≡ node.plan.task
    → ((newer past : List Fact) → IsNode silent c (newer ++ past) node
    → IsMark (known node.plan.task.automaton.now node.plan.task.pattern.now silent c past) mark → IsNode silent c past cut)
    → IsMark (known a p silent c (reverse (take shared written))) mark → take shared written ≡ take shared facts
    → NodeIs a p silent c (reverse (take shared facts)) cut
node_cut a p silent c written facts shared mark node cut is task cuts at same =
    let past = reverse (take shared written) in
    let there = subst (λ (b : Automaton). IsMark (known b node.plan.task.pattern.now silent c past) mark) (sym is.automaton)
    (subst (λ (q : Pattern). IsMark (known a q silent c past) mark) (sym is.pattern) at) in
    let left = cuts (reverse (drop shared written)) past (subst (λ (facts : List Fact). IsNode silent c facts node) (reverse_parts written shared) is.is) there
    in
    record {
      automaton = ap (λ (k : Task). k.automaton.now) task ∙ is.automaton;
      pattern = ap (λ (k : Task). k.pattern.now) task ∙ is.pattern;
      is = subst (λ (facts : List Fact). IsNode silent c (reverse facts) cut) same left;
    }

-- a node with one more fact is the next one
pub node_next : (a : Automaton) (p : Pattern) (silent : List ℕ) (c : Option ℕ) (facts : List Fact) (i : ℕ) (d : Fact) (node next : MomentEncoding)
    → i < length facts → NodeIs a p silent c (reverse (take i facts)) node
    → next.plan.task ≡ node.plan.task → IsNode silent c (get_or facts i d ∷ reverse (take i facts)) next
    → NodeIs a p silent c (reverse (take (i + 1) facts)) next
node_next a p silent c facts i d node next below is task more = record {
  automaton = ap (λ (k : Task). k.automaton.now) task ∙ is.automaton;
  pattern = ap (λ (k : Task). k.pattern.now) task ∙ is.pattern;
  is = subst (λ (past : List Fact). IsNode silent c past next) (sym (reverse_more facts i d below)) more;
}

-- the mark that an encoding tells is its node's
pub mark_of : (a : Automaton) (p : Pattern) (silent : List ℕ) (c : Option ℕ) (past : List Fact) (node : MomentEncoding) (mark : NodeMark)
    → NodeIs a p silent c past node → IsMark (known node.plan.task.automaton.now node.plan.task.pattern.now silent c past) mark
    → IsMark (known a p silent c past) mark
mark_of a p silent c past node mark is at =
    subst (λ (q : Pattern). IsMark (known a q silent c past) mark) is.pattern
    (subst (λ (b : Automaton). IsMark (known b node.plan.task.pattern.now silent c past) mark) is.automaton at)

-- ---- rows that stay
pub same_nothing : (before rows : List Row) → SameRows before 0 rows
same_nothing before rows = record { within = omega arith; rows_are = refl }

pub same_more : (before rows more : List Row) (same : ℕ) → SameRows before same rows → IsBehind rows more → SameRows before same more
same_more before rows more same stay behind =
    let fits = stay.within in
    record {
      within = omega (arith, fits, ap length behind.is, length-append rows behind.more);
      rows_are = stay.rows_are ∙ sym (ap (take same) behind.is ∙ take-append-le same rows behind.more fits);
    }

-- a system that begins with rows stays as far as these are cut
pub same_cut : (before rows cut : List Row) (same : ℕ) → IsBehind rows before → same ≤ length rows → cut ≡ take same rows → SameRows before same cut
same_cut before rows cut same behind fits is = record {
  within = omega (arith, ap length is, length-take-le same rows fits);
  rows_are = ap (take same) behind.is ∙ take-append-le same rows behind.more fits ∙ sym (ap (take same) is ∙ take-take same same rows (omega arith));
}

pub same_end : (before rows system : List Row) (same : ℕ) → SameRows before same rows → SameRows before (length (take same rows)) system
    → SameRows before same system
same_end before rows system same stay end = subst (λ (n : ℕ). SameRows before n system) (length-take-le same rows stay.within) end

-- ---- the whole node
pub node_whole : (a : Automaton) (p : Pattern) (silent : List ℕ) (c : Option ℕ) (facts : List Fact) (from : ℕ) (node : MomentEncoding) → from ≡ length facts
    → NodeIs a p silent c (reverse (take from facts)) node → NodeIs a p silent c (reverse facts) node
node_whole a p silent c facts from node all is = subst (λ (xs : List Fact). NodeIs a p silent c (reverse xs) node)
    (ap (λ n. take n facts) all ∙ take-length facts) is

forth : (start : ℕ) → start_of (candidate_of start) ≡ start
forth zero = refl
forth (suc e) = refl

-- its system is that of the search
pub system_at : (a : Automaton) (p : Pattern) (asking : Asking) (maker : Maker) (start : ℕ) (past : List Fact) (bounds : List Bound) (node : MomentEncoding)
    (system : System) → NodeIs a p asking.silent (candidate_of start) past node
    → SystemAt (moment_search node.plan.task.automaton.now node.plan.task.pattern.now asking maker)
    (record { start = start_of (candidate_of start); past = past; bounds = bounds }) system
    → SystemAt (moment_search a p asking maker) (record { start = start; past = past; bounds = bounds }) system
system_at a p asking maker start past bounds node system is at =
    subst (λ (n : ℕ). SystemAt (moment_search a p asking maker) (record { start = n; past = past; bounds = bounds }) system) (forth start)
    (subst (λ (q : Pattern). SystemAt (moment_search a q asking maker) (record { start = start_of (candidate_of start); past = past; bounds = bounds }) system)
    is.pattern
    (subst (λ (b : Automaton). SystemAt (moment_search b node.plan.task.pattern.now asking maker)
    (record { start = start_of (candidate_of start); past = past; bounds = bounds }) system) is.automaton at))
