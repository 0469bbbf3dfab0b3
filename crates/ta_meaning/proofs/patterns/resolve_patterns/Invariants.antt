use Rattle.ta_meaning.proofs.Common.{◌≡◌, length, map, into_iter_items, into_iter_len, pattern_name, kinds_of}
use Rattle.ta_meaning.proofs.PatternSteps.{PatternsTo}
use Rattle.ta_meaning.proofs.patterns.resolve_patterns.Given as goal

-- the patterns before are resolved, and the rest is left
abbrev pub invariant-loop-pattern : goal.invariant-loop-pattern
invariant-loop-pattern l = record {
  so_far : PatternsTo (kinds_of l.places) l.fn.patterns.items (into_iter_items l.pattern-iterator) (map pattern_name l.resolved.items) l.resolved.items;
  long : into_iter_len l.pattern-iterator ≡ length (into_iter_items l.pattern-iterator);
}
