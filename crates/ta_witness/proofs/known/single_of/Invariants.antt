use Rattle.ta_witness.proofs.Common.{ℕ, ◌<◌, ◌≡◌, pos, Single, unknown_value}
use Rattle.ta_witness.proofs.known.single_of.Given as goal

-- no earlier rule is it
abbrev pub invariant-loop-rule : goal.invariant-loop-rule
invariant-loop-rule l = (r : ℕ) → r < l.rule → ¬ (unknown_value l.meanings l.values (Single l.element r) ≡ pos 1)
