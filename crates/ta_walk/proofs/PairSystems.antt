-- the system of a pair of guards: it is small, and its numbers are determined
use Rattle.ta_walk.proofs.Common.{◌≡◌, ℕ, ◌*◌, ◌<◌, ◌≤◌, ◌^◌, ℤ, pos, List, [], ◌∷◌, ◌++◌, length, arith, length-append, Row, System, Automaton, variables}
use Rattle.ta_walk.proofs.Common.{CheckStays, entry, SameNumbers, stays_same, AreCopies, ImplySystem, resilience_rows}
use Rattle.ta_farkas.proofs.Alike.{entry_alike}
use Rattle.ta_automaton.specs.declared.condition.Comparison.{Comparison}
use Rattle.ta_implied.specs.Copies.{resilience_of}

copies_count : (rs qs : List Row) → AreCopies rs qs → length rs ≡ length qs
copies_count [] [] are = omega arith
copies_count [] (q ∷ qs) are = absurd are
copies_count (r ∷ rs) [] are = absurd are
copies_count (r ∷ rs) (q ∷ qs) are = omega (arith, copies_count rs qs are.1)

-- a comparison has at most two rows
rows_count : (ks : List Comparison) → length (resilience_of ks) ≤ 2 * length ks
rows_count [] = omega arith
rows_count (k ∷ ks) = let most = k.most in omega (arith, length-append k.rows (resilience_of ks), rows_count ks)

-- the system of a pair has few unknowns and few rows
pub record IsFew (s : System) : Type 0 where
  pub unknowns : s.unknowns ≤ 96
  pub rows : length s.rows ≤ 34

pub few_of_pair : (a : Automaton) (before after : ℕ) (s : System) → ImplySystem a before after s → IsFew s
few_of_pair a before after s is =
    let limits = a.shape.limits in
    let few = limits.parameters_limit in
    let some = limits.shared_limit in
    let unknowns = is.unknowns in
    let conditions = a.resilience.limit in
    let count = copies_count (resilience_rows a ++ is.second ∷ is.negation ∷ []) s.rows is.rows in
    record {
      unknowns = omega arith;
      rows = omega (arith, count, length-append (resilience_rows a) (is.second ∷ is.negation ∷ []), rows_count a.resilience.comparisons);
    }

pub few_variables_of_pair : (a : Automaton) (before after : ℕ) (s : System) → ImplySystem a before after s → variables s < 2 ^ 32
few_variables_of_pair a before after s is = let few = few_of_pair a before after s is in let unknowns = few.unknowns in let rows = few.rows in omega arith

-- ---- the check of multipliers over systems of the same numbers
pub check_alike : (s z : System) (ts : List (ℕ × ℤ)) → SameNumbers s z → CheckStays s ts → CheckStays z ts
check_alike s z ts same stays column within =
    stays_same (entry s column) (entry z column) (pos 0) ts (entry_alike s z same column) (stays column (omega arith))
