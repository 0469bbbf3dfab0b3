use Rattle.ta_witness.proofs.Common.{◌≡◌, drop, unknown_value}
use Rattle.ta_witness.proofs.known.value_of.Given as goal

-- no earlier unknown stands for it
abbrev pub invariant-loop-number : goal.invariant-loop-number
invariant-loop-number l = unknown_value (drop l.number l.meanings) (drop l.number l.values) l.meaning ≡ unknown_value l.meanings l.values l.meaning
