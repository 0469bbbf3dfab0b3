-- the node at a cursor: its leaf, and its system
use Rattle.ta_walk.proofs.Common.{ℕ, ◌<◌, ◌≤◌, ◌^◌, ℤ, List, length, arith, AreMultipliers, LeafOf, System, SystemAt, Pending, Search, CheckStays, IsSmall}
use Rattle.ta_walk.proofs.Common.{leaf_stays, check_stays, variables, IsRefuted, LeafAt, LeafOutOfRange}
use Rattle.ta_simplex.proofs.SlotLemmas.{multipliers-wider}

-- the multipliers of a refuted system are those of a list that can be judged
pub judgeable : (s : System) (ts : List (ℕ × ℤ)) → variables s < 2 ^ 32 → IsRefuted s ts → AreMultipliers 0 (2 ^ 32) ts
judgeable s ts few refuted = multipliers-wider 0 (length s.rows) (2 ^ 32) ts (omega arith) refuted.multipliers.leaf.multipliers

-- a leaf whose check stays in range
pub leaf_at : {E : Type 0} (search : Search E) (w : Pending E) (s : System) (ts : List (ℕ × ℤ)) → SystemAt search w s → IsRefuted s ts → CheckStays s ts
    → LeafAt search w ts
leaf_at search w s ts is refuted stays = record {
  refuted = record { system = s; is = is; holds = refuted };
  in_range = leaf_stays search w s ts is stays;
}

-- and one whose check leaves it
pub leaf_out_of_range : {E : Type 0} (search : Search E) (w : Pending E) (s : System) (ts : List (ℕ × ℤ)) → SystemAt search w s → IsRefuted s ts
    → (LeafOf s ts → CheckStays s ts → ⊥) → LeafOutOfRange search w
leaf_out_of_range search w s ts is refuted refused = record {
  multipliers = ts;
  refuted = record { system = s; is = is; holds = refuted };
  leaves = λ stays. refused refuted.multipliers.leaf (check_stays search w s ts is stays);
}

-- a small system has few variables
pub few_variables : {E : Type 0} (w : Pending E) (s : System) → length w.bounds ≤ 1000000000 → IsSmall w.bounds s → variables s < 2 ^ 32
few_variables w s few small = omega arith
