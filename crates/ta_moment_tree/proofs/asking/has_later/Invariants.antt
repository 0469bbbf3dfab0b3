use Rattle.ta_moment_tree.proofs.Common.{◌≡◌, false, slice_get, any_below, comes_after}
use Rattle.ta_moment_tree.proofs.asking.has_later.Given as goal

abbrev pub invariant-loop-other : goal.invariant-loop-other
invariant-loop-other l = any_below l.other (λ f. comes_after (slice_get l.pattern.events f) l.event) ≡ false
