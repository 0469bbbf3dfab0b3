use Rattle.ta_syntax.proofs.Answered.{tokens_have_answers, tree_limits, tree_scan}
use Rattle.ta_syntax.proofs.answers.tokens_have_answers.Goals as goal

pub returns : goal.returns
returns c = record { answers = tokens_have_answers; limits = λ l t is. (tree_limits l t is, tree_scan l t is) }
