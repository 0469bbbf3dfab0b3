use Rattle.ta_syntax.proofs.FileSpans.{file_legal}
use Rattle.ta_syntax.proofs.PrintedTokens.{tokens_printed}
use Rattle.ta_syntax.proofs.laws.printed_has_tokens.Goals as goal

pub returns : goal.returns
returns c = record { tokens = tokens_printed; trees = file_legal }
