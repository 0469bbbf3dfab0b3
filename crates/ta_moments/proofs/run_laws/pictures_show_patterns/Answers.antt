use Rattle.ta_moments.proofs.Happening.{patterns_shown}
use Rattle.ta_moments.proofs.run_laws.pictures_show_patterns.Goals as goal

pub returns : goal.returns
returns c = patterns_shown
