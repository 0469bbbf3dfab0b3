use Rattle.ta_replay.proofs.Common.{◌≡◌, ℕ, ◌<◌, map, event_name, name_at}
use Rattle.ta_replay.proofs.names.find_event.Given as goal

abbrev pub invariant-loop-i : goal.invariant-loop-i
invariant-loop-i l = (k : ℕ) → k < l.i → name_at (map event_name l.events) k ≡ l.name → ⊥
