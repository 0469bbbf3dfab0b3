use Rattle.ta_syntax.proofs.UniqueTokens.{tokens_unique, refused_unique, refused_no_tokens}
use Rattle.ta_syntax.proofs.laws.tokens_are_unique.Goals as goal

pub returns : goal.returns
returns c = record { tokens = tokens_unique; refused = refused_unique; apart = refused_no_tokens }
