use Rattle.ta_moment_tree.proofs.Common.{◌&&◌, reverse, ap, sym, ◌∙◌, exists_as, asking_of}
use Rattle.ta_moments.specs.Moments.{known}
use Rattle.ta_moment_tree.proofs.Reversed.{open_reversed}
use Rattle.ta_moment_tree.proofs.moment_tree.MomentTree.may_be_asked.Goals as goal

pub returns-then-is_open : goal.returns-then-is_open
returns-then-is_open c candidate =
    let t = c.args.self.now in
    let a = t.task.automaton.now in
    let p = t.task.pattern.now in
    let exists = exists_as a p (asking_of t) (known a p t.silent.now candidate (reverse c.args.facts.now)) c.args.question in
    c.exists.ensures candidate ∙ sym (ap (λ b. b && exists) (open_reversed c.args.facts.now c.args.question ∙ sym c.is_open.ensures ∙ c.if-is_open.true))

pub returns-else-is_open : goal.returns-else-is_open
returns-else-is_open c candidate =
    let t = c.args.self.now in
    let a = t.task.automaton.now in
    let p = t.task.pattern.now in
    let exists = exists_as a p (asking_of t) (known a p t.silent.now candidate (reverse c.args.facts.now)) c.args.question in
    c.if-is_open.false ∙ sym (ap (λ b. b && exists) (open_reversed c.args.facts.now c.args.question ∙ sym c.is_open.ensures ∙ c.if-is_open.false))
