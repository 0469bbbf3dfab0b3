use Rattle.ta_moments.proofs.Segments.{link_leads_on}
use Rattle.ta_moments.proofs.run_laws.links_lead_on.Goals as goal

pub returns : goal.returns
returns c = link_leads_on
