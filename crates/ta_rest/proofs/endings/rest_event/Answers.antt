use Rattle.ta_rest.proofs.Common.{refl, ◌∙◌}
use Rattle.ta_rest.proofs.EndingShapes.{added_of}
use Rattle.ta_rest.proofs.endings.rest_event.Goals as goal

pub returns : goal.returns
returns c = added_of _ (c.from_string.ensures ∙ c.in_ok-from_str.ensures.ok) refl (c.from_vec.ensures ∙ c.new.ensures.items)
