use Rattle.std.proofs.Common.{◌≡◌, ◌++◌, drop, string_bytes}
use Rattle.ta_smt.proofs.Written.{terms_text}
use Rattle.ta_smt.proofs.export.push_terms.Given as goal

abbrev pub invariant-loop-term : goal.invariant-loop-term
invariant-loop-term l = string_bytes l.text ++ terms_text l.side l.lead (drop l.term-index l.terms) ≡ string_bytes l.initial.text
    ++ terms_text l.side l.lead l.terms
