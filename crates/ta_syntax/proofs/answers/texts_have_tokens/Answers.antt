use Rattle.ta_syntax.proofs.TextTokens.{texts_have_tokens}
use Rattle.ta_syntax.proofs.answers.texts_have_tokens.Goals as goal

pub returns : goal.returns
returns c = texts_have_tokens
