use Rattle.ta_words.proofs.Common.{sym, subst, reverse_more, IsSeen}
use Rattle.ta_words.proofs.Past.{none_seen}
use Rattle.ta_words.proofs.seen.Seen.of.Goals as goal

pub loop-element-init : goal.loop-element-init
loop-element-init c = rw c.from.ensures (none_seen c.args.start_mask)

pub loop-element-preserved : goal.loop-element-preserved
loop-element-preserved c =
    subst (IsSeen c.with-seen.result c.args.start_mask) (sym (reverse_more c.args.word.now c.loop-element.element-index _ c.loop-element-test.true))
    (c.with-seen.ensures c.args.start_mask _ c.loop-element.invariant)
