-- where no row has a positive constant, each end of a visit within a budget that suffices decides, unless a number leaves the range
use Rattle.ta_walk.proofs.Common.{QuestionsMayBeAsked}
use Rattle.ta_walk.proofs.FiniteTrees.{budgets_suffice}
use Rattle.ta_walk.proofs.NodesMade.{refuted_hold}
use Rattle.ta_walk.specs.Deciding.{ConesAreDecided}
use Rattle.ta_walk.specs.declared.moment_end.MomentEnd.TheVariants.{Refuted, Found, Spent, Overflow}

pub cones_decided : QuestionsMayBeAsked → ConesAreDecided
cones_decided may file number p named pure cone budget within enough (Refuted count leaves) ends =
    (refuted_hold file number p named pure budget within ends.nodes count ends.is).1
cones_decided may file number p named pure cone budget within enough (Found count run) ends = (ends.shown.is.is.same_pattern, ends.shown.shows)
cones_decided may file number p named pure cone budget within enough (Spent count) ends = budgets_suffice may file.automaton p cone budget count enough ends
cones_decided may file number p named pure cone budget within enough (Overflow node kind) ends = ends
