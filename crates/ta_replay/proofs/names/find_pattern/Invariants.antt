use Rattle.ta_replay.proofs.Common.{◌≡◌, ℕ, ◌<◌, map, pattern_name, name_at}
use Rattle.ta_replay.proofs.names.find_pattern.Given as goal

abbrev pub invariant-loop-i : goal.invariant-loop-i
invariant-loop-i l = (k : ℕ) → k < l.i → name_at (map pattern_name l.patterns) k ≡ l.name → ⊥
