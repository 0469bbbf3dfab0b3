use Rattle.ta_search.proofs.VectorsOrdered.{vectors_are_choices}
use Rattle.ta_search.proofs.laws.vectors_are_choices.Goals as goal

pub returns : goal.returns
returns c = vectors_are_choices
