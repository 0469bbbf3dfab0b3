use Rattle.ta_revised.proofs.Common.{length, drop, narrow_view}
use Rattle.ta_revised.proofs.SlackFacts.{Adding}
use Rattle.ta_revised.proofs.slack.add_terms.Given as goal

abbrev pub invariant-loop-unknown : goal.invariant-loop-unknown
invariant-loop-unknown l = Adding (length l.initial.sum.cells) l.scale l.rows (narrow_view l.initial.sum) l.terms (drop l.unknown-index l.terms) l.sum
