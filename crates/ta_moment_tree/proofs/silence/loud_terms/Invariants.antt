use Rattle.ta_moment_tree.proofs.Common.{◌≡◌, take, loud_terms}
use Rattle.ta_moment_tree.proofs.silence.loud_terms.Given as goal

abbrev pub invariant-loop-place : goal.invariant-loop-place
invariant-loop-place l = l.loud.items ≡ loud_terms l.silent (take l.place-index l.terms)
