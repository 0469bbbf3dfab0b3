use Rattle.ta_moment_tree.proofs.Common.{ℕ, List, length, reverse, arith, sym, subst, refl, ◌∙◌, SameRows, Row, Fact, candidate_of, NodeIs, moment_maker}
use Rattle.ta_moment_tree.proofs.Common.{asking_of, AreMarks}
use Rattle.ta_moment_tree.specs.Kept.{IsPart}
use Rattle.ta_moment_tree.proofs.Coming.{comes_few}
use Rattle.ta_moment_tree.proofs.Parts.{node_unknowns, node_whole, same_more, system_at}
use Rattle.ta_moment_tree.proofs.moment_tree.MomentTree.written.Goals.{In_ok-node}
use Rattle.ta_moment_tree.proofs.moment_tree.MomentTree.written.Goals as goal

-- the node with all facts, and what stays of the rows before
whole : (c : In_ok-node) → IsPart c.args.self.now.task.automaton.now c.args.self.now.task.pattern.now c.args.self.now.silent.now c.args.start c.args.facts.now
    c.in_ok-node.field-0
whole c = c.in_ok-node.ensures.part

node_is : (c : In_ok-node) → NodeIs c.args.self.now.task.automaton.now c.args.self.now.task.pattern.now c.args.self.now.silent.now (candidate_of c.args.start)
    (reverse c.args.facts.now) c.in_ok-node.field-0.node
node_is c = node_whole c.args.self.now.task.automaton.now c.args.self.now.task.pattern.now c.args.self.now.silent.now (candidate_of c.args.start)
    c.args.facts.now c.in_ok-node.field-0.from c.in_ok-node.field-0.node c.in_ok-node.ensures.from (whole c).is

pub system_from-requires-clause-room : goal.system_from-requires-clause-room
system_from-requires-clause-room c =
    let t = c.args.self.now in
    let a = t.task.automaton.now in
    let p = t.task.pattern.now in
    let w = (goal.at.system_from-requires-clause-room c).In_ok-node in
    let past = reverse c.args.facts.now in
    let few = comes_few a p (asking_of t) (moment_maker a p (asking_of t)) t.task.over c.args.start past c.requires.comes in
    let is = node_unknowns a p t.silent.now (candidate_of c.args.start) past c.in_ok-node.field-0.node (node_is w) in
    omega (arith, few, is)

pub returns-clause-kept : goal.returns-clause-kept
returns-clause-kept c =
    let t = c.args.self.now in
    let a = t.task.automaton.now in
    let p = t.task.pattern.now in
    let w = (goal.at.returns-clause-kept c).In_ok-node in
    let o = candidate_of c.args.start in
    let items = sym c.in_ok-from_slice.ensures.items in
    record {
      is = subst (λ (xs : List Fact). NodeIs a p t.silent.now o (reverse xs) c.in_ok-node.field-0.node) items (node_is w);
      marks = subst (λ (xs : List Fact). AreMarks a p t.silent.now o xs (length xs) c.in_ok-node.field-0.marks.items) items
          (subst (λ (n : ℕ). AreMarks a p t.silent.now o c.args.facts.now n c.in_ok-node.field-0.marks.items) c.in_ok-node.ensures.from (whole w).marks);
      rows = c.in_ok-system.ensures.rows;
    }

pub returns-clause-at : goal.returns-clause-at
returns-clause-at c = record { node = c.in_ok-node.field-0.node; is = refl; of = node_is ((goal.at.returns-clause-at c).In_ok-node) }

pub returns-clause-system : goal.returns-clause-system
returns-clause-system c =
    let t = c.args.self.now in
    let a = t.task.automaton.now in
    let p = t.task.pattern.now in
    let w = (goal.at.returns-clause-system c).In_ok-node in
    let asking = asking_of t in
    let o = candidate_of c.args.start in
    let is = node_is w in
    system_at a p asking (moment_maker a p asking) c.args.start (reverse c.args.facts.now) c.args.bounds.now c.in_ok-node.field-0.node c.in_ok-system.system is
    (c.in_ok-system.ensures.search asking (moment_maker a p asking) o (reverse c.args.facts.now) is.is)

pub system_from-requires-clause-first : goal.system_from-requires-clause-first
system_from-requires-clause-first c = (whole ((goal.at.system_from-requires-clause-first c).In_ok-node)).same

pub returns-clause-same : goal.returns-clause-same
returns-clause-same c =
    let w = (goal.at.returns-clause-same c).In_ok-node in
    let grown = c.in_ok-node.field-0 in
    let rows = c.in_ok-system.system.rows in
    let stay = same_more grown.system.rows grown.node.draft.rows.items rows grown.same (whole w).same c.in_ok-system.ensures.rows in
    subst (λ (rs : List Row). SameRows rs grown.same rows) (c.in_ok-node.ensures.before.0 ∙ c.in_ok-part.ensures.before) stay
