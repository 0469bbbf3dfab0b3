use Rattle.std.proofs.Common.{◌≡◌, ◌+◌, ◌≤◌, drop}
use Rattle.ta_smt.proofs.Written.{terms_count}
use Rattle.ta_smt.proofs.export.count_terms.Given as goal

abbrev pub invariant-loop-term : goal.invariant-loop-term
invariant-loop-term l = record {
  counted : l.count + terms_count l.side (drop l.term-index l.terms) ≡ terms_count l.side l.terms;
  few : l.count ≤ l.term-index;
}
