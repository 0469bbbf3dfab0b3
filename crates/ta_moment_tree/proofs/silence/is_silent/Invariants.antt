use Rattle.ta_moment_tree.proofs.Common.{◌≡◌, drop, is_silent}
use Rattle.ta_moment_tree.proofs.silence.is_silent.Given as goal

abbrev pub invariant-loop-quiet : goal.invariant-loop-quiet
invariant-loop-quiet l = is_silent l.silent l.place ≡ is_silent (drop l.quiet-index l.silent) l.place
