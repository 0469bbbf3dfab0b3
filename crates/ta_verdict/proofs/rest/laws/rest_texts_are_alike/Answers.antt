use Rattle.ta_verdict.proofs.rest.TextsAlike.{texts_alike}
use Rattle.ta_verdict.proofs.rest.laws.rest_texts_are_alike.Goals as goal

pub returns : goal.returns
returns c = texts_alike
