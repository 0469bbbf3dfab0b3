use Rattle.ta_moment_tree.proofs.Common.{◌≡◌, drop, has_negative}
use Rattle.ta_moment_tree.proofs.form.has_negative.Given as goal

abbrev pub invariant-loop-coefficient : goal.invariant-loop-coefficient
invariant-loop-coefficient l = has_negative l.terms ≡ has_negative (drop l.coefficient-index l.terms)
