use Rattle.ta_replay.proofs.TextAnswers.{text_answers}
use Rattle.ta_replay.proofs.laws.texts_have_answers.Goals as goal

pub returns : goal.returns
returns c = text_answers
