-- runs that grow at their end
use Rattle.ta_automaton.proofs.Common.{◌≡◌, ℕ, suc, ◌≤◌, List, [], ◌∷◌, length, ap, refl, slice_get, Some, Automaton, Config, Steps}

pub run_length : (a : Automaton) (c : Config) (rules : List ℕ) (later : List Config) → Steps a c rules later → length later ≡ length rules
run_length a c [] [] run = refl
run_length a c [] (d ∷ ds) run = absurd run
run_length a c (r ∷ rs) [] run = absurd run
run_length a c (r ∷ rs) (d ∷ ds) run = ap suc (run_length a d rs ds run.1)

-- a run to a configuration, through good configurations alone
pub record Trail (a : Automaton) (good : Config → Type 0) (first d : Config) : Type 0 where
  pub rules : List ℕ
  pub later : List Config
  pub run : Steps a first rules later
  pub last : slice_get (first ∷ later) (length rules) ≡ Some d
  pub all_good : (j : ℕ) (c : Config) → slice_get (first ∷ later) j ≡ Some c → good c

-- what stays when a run grows
pub record Grows (a : Automaton) (good : Config → Type 0) (first d e : Config) (old : Trail a good first d) (new : Trail a good first e) : Type 0 where
  pub kept : (j : ℕ) (c : Config) → slice_get (first ∷ old.later) j ≡ Some c → slice_get (first ∷ new.later) j ≡ Some c
  pub longer : length old.rules ≤ length new.rules
