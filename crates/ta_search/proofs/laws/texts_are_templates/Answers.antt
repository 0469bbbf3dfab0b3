use Rattle.ta_search.proofs.HasAnswers.{text_answers}
use Rattle.ta_search.proofs.laws.texts_are_templates.Goals as goal

pub returns : goal.returns
returns c = text_answers
