use Rattle.ta_scope.proofs.ScopeAnswers.{scope_answers}
use Rattle.ta_scope.proofs.answers.scopes_have_answers.Goals as goal

pub returns : goal.returns
returns c = scope_answers
