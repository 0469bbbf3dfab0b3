use Rattle.ta_meaning.proofs.Common.{◌≡◌, length, map, into_iter_items, into_iter_len, name_of, kinds_of}
use Rattle.ta_meaning.proofs.RuleSequence.{RulesReading}
use Rattle.ta_meaning.proofs.rules.resolve_rules.Given as goal

-- the rules before are resolved, and the rest is left
abbrev pub invariant-loop-rule : goal.invariant-loop-rule
invariant-loop-rule l = record {
  so_far : RulesReading l.limits (kinds_of l.places) l.fn.rules.items (into_iter_items l.rule-iterator) (map name_of l.resolved.items) l.guards
      l.resolved.items;
  long : into_iter_len l.rule-iterator ≡ length (into_iter_items l.rule-iterator);
}
