use Rattle.ta_verdict.proofs.rest.Common.{◌∙◌, sym, adds_tree, resting, wanted_same, rest_tree}
use Rattle.ta_verdict.proofs.rest.Drafting.{DraftedAtRest, moments_drafted, words_drafted}
use Rattle.ta_verdict.proofs.rest.judging.next_verdict.Given.{Over}
use Rattle.ta_verdict.proofs.rest.judging.next_verdict.Goals.{After-is_safe, then-budget+in_ok-verdict, else-budget+in_ok-verdict-2}
use Rattle.ta_verdict.proofs.rest.judging.next_verdict.Goals as goal

-- what the verdict by either tree says
said : (g : Over) (c : After-is_safe g) → DraftedAtRest c.args.rest.now (resting c.args.budget c.args.silent.now) c.args.pattern c.if-budget.verdict
    c.in_ok-proof.proof c.if-budget.proof
said g c =
    let rest = c.args.rest.now in
    let budget = c.args.budget in
    elim c.if-budget.branch [
      | then-budget+in_ok-verdict w ↦
          let made = w.in_ok-verdict.ensures in
          rw (w.verdict-is, w.proof-is)
          (moments_drafted rest budget.nodes c.args.silent.now budget.lazy w.if-budget.true c.args.pattern w.in_ok-verdict.verdict
          c.in_ok-proof.proof w.verdict_by_moments.new.keeper made.holds made.fits made.kept)
      | else-budget+in_ok-verdict-2 w ↦
          let made = w.in_ok-verdict-2.ensures in
          rw (w.verdict-is, w.proof-is)
          (words_drafted rest budget.nodes c.args.silent.now budget.lazy w.if-budget.false c.args.pattern w.in_ok-verdict-2.verdict
          c.in_ok-proof.proof w.rest_verdict.new.keeper made.holds made.fits made.kept)
    ]

pub add-requires : goal.add-requires
add-requires g c =
    let file = c.args.rest.now.ending.file in
    wanted_same file (rest_tree file (resting c.args.budget c.args.silent.now)) c.args.pattern c.if-budget.verdict c.in_ok-proof.proof c.if-budget.proof
    c.requires.exists (sym c.is_safe.ensures ∙ c.if-not-is_safe.false) (said g (goal.at.add-requires g c).After-is_safe).drafted
    ∙ c.in_ok-proof.ensures.wanted ∙ c.wanted.ensures

pub returns-clause-adds : goal.returns-clause-adds
returns-clause-adds g c = λ begun p at.
    adds_tree (rest_tree c.args.rest.now.ending.file (resting c.args.budget c.args.silent.now)) c.args.pattern p c.if-budget.verdict
    (g.T.Target.has begun c.args.target.now c.args.place.now) (g.T.Target.has begun c.add.new.self c.add.new.place) c.in_ok-proof.proof c.if-budget.proof
    (sym c.is_safe.ensures ∙ c.if-not-is_safe.false) ((said g (goal.at.returns-clause-adds g c).After-is_safe).drafted p at) c.in_ok-proof.ensures.text
    (c.in_ok-add.ensures.added begun)

pub returns-then-not-is_safe-clause-holds : goal.returns-then-not-is_safe-clause-holds
returns-then-not-is_safe-clause-holds g c = (said g (goal.at.returns-then-not-is_safe-clause-holds g c).After-is_safe).holds

pub returns-clause-holds : goal.returns-clause-holds
returns-clause-holds g c = (said g (goal.at.returns-clause-holds g c).After-is_safe).holds

pub rest_verdict-requires-clause-narrow : goal.rest_verdict-requires-clause-narrow
rest_verdict-requires-clause-narrow g c = λ given lives. c.requires.narrow c.if-budget.false
