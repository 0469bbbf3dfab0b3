use Rattle.ta_replay.proofs.Common.{◌≡◌, ℕ, ◌<◌, map, name_of, name_at}
use Rattle.ta_replay.proofs.names.find_rule.Given as goal

abbrev pub invariant-loop-i : goal.invariant-loop-i
invariant-loop-i l = (k : ℕ) → k < l.i → name_at (map name_of l.rules) k ≡ l.name → ⊥
