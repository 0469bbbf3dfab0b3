use Rattle.ta_words.proofs.Common.{length, not, arith, all_below, has_bit, implies, has_fallen}
use Rattle.ta_words.proofs.Past.{unlocked, locked}
use Rattle.ta_words.proofs.seen.Seen.is_unlocked.Goals as goal

pub returns-then-is_subset : goal.returns-then-is_subset
returns-then-is_subset c = λ start past is.
    unlocked c.args.self (length c.args.automaton.now.rise) (length c.args.automaton.now.fall) c.args.rule.now.rise c.args.rule.now.fall c.from.result
    c.from-then-is_subset.result start past c.is_subset.result c.is_disjoint.result is
    (let h = c.args.automaton.now.shape.limits.rise_limit in omega arith) c.from.ensures c.from-then-is_subset.ensures c.requires.rise_mask c.requires.fall_mask
    c.if-is_subset.true c.is_subset.ensures c.is_disjoint.ensures

pub returns-else-is_subset : goal.returns-else-is_subset
returns-else-is_subset c = λ start past is.
    locked c.args.self (length c.args.automaton.now.rise) c.args.rule.now.rise c.from.result start past c.is_subset.result
    (all_below (length c.args.automaton.now.fall) (λ j. implies (has_bit c.args.rule.now.fall j) (not (has_fallen start past j)))) is
    (let h = c.args.automaton.now.shape.limits.rise_limit in omega arith) c.from.ensures c.requires.rise_mask c.if-is_subset.false c.is_subset.ensures
