use Rattle.ta_meaning.proofs.Common.{drop, kinds_of}
use Rattle.ta_meaning.proofs.UpdateReading.{UpdatesReading}
use Rattle.ta_meaning.proofs.updates.read_updates.Given as goal

abbrev pub invariant-loop-update : goal.invariant-loop-update
invariant-loop-update l = UpdatesReading (kinds_of l.places) l.updates (drop l.update-index l.updates) l.seen.items l.read.items
