use Rattle.ta_farkas.proofs.Common.{ℕ, ◌<◌, ◌+◌, ◌^◌, drop, get_or, None, IsNormal}
use Rattle.ta_farkas.proofs.Adding.{Added}
use Rattle.ta_farkas.proofs.add_terms.Given as goal

abbrev pub invariant-loop-unknown : goal.invariant-loop-unknown
invariant-loop-unknown l = record {
  low : ℕ;
  normal : IsNormal low (2 ^ 32) (drop l.unknown-index l.terms);
  columns : (j : ℕ) → j < 64
      → Added l.multiplier l.terms (drop l.unknown-index l.terms) (l.first + j) (get_or l.initial.sums j None) (get_or l.sums j None);
}
