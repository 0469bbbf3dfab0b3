use Rattle.ta_walk.proofs.Common.{◌≡◌, drop, map, option_copied, rule_to_ask}
use Rattle.ta_walk.specs.Values.{values_of}
use Rattle.ta_moment_tree.specs.Parts.{rule_of}
use Rattle.ta_walk.proofs.asked_next.rule_to_ask.Given as goal

abbrev pub invariant-loop-rule : goal.invariant-loop-rule
invariant-loop-rule l =
    rule_to_ask l.facts (values_of (option_copied l.vertex)) (map rule_of l.rules)
    ≡ rule_to_ask l.facts (values_of (option_copied l.vertex)) (map rule_of (drop l.rule-index l.rules))
