use Rattle.ta_meaning.proofs.MadeFiles.{file_exists}
use Rattle.ta_meaning.proofs.TextAnswers.{texts_have_answers}
use Rattle.ta_meaning.proofs.answers.texts_have_answers.Goals as goal

pub returns : goal.returns
returns c = record { files = file_exists; texts = texts_have_answers }
