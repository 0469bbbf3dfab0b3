use Rattle.ta_walk.proofs.Common.{◌∙◌, ap, option_copied}
use Rattle.ta_moments.specs.Questions.{Parts, question_among}
use Rattle.ta_walk.specs.Values.{values_of}
use Rattle.ta_moment_tree.specs.Parts.{parts_of}
use Rattle.ta_walk.proofs.asked_next.next_question.Goals as goal

pub returns-clause-node : goal.returns-clause-node
returns-clause-node c a p asking node past same =
    c.question_among.ensures
    ∙ ap (λ facts. question_among facts (values_of (option_copied c.args.vertex)) (parts_of c.args.parts.now)) past
    ∙ ap (λ (parts : Parts). question_among node.past (values_of (option_copied c.args.vertex)) parts) same
