use Rattle.ta_revised.proofs.ShortFacts.{TermsWritten}
use Rattle.ta_revised.proofs.short_rows.push_terms.Given as goal

abbrev pub invariant-loop-unknown : goal.invariant-loop-unknown
invariant-loop-unknown l = TermsWritten l.initial.all.items l.all.items l.terms l.unknown-index
