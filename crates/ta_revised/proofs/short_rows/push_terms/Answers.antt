use Rattle.ta_revised.proofs.Common.{pos, ℤ, ℕ, List, ◌+◌, subst, sym}
use Rattle.ta_revised.proofs.ShortFacts.{TermsWritten, one_written}
use Rattle.ta_revised.proofs.short_rows.push_terms.Goals as goal

pub loop-unknown-preserved : goal.loop-unknown-preserved
loop-unknown-preserved c =
    subst (λ (ts : List (ℕ × ℤ)). TermsWritten c.args.all.now.items ts c.args.terms.now (c.loop-unknown.unknown-index + 1)) (sym c.in_ok-push.ensures.items)
    (one_written c.args.all.now.items c.loop-unknown.all.items c.args.terms.now c.loop-unknown.unknown-index (0, pos 0) c.loop-unknown-test.true
    c.loop-unknown.invariant)
