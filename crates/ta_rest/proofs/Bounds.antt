-- how many moves come
use Rattle.ta_rest.proofs.Common.{negsuc, number_at}
use Rattle.ta_rest.proofs.FairCommon.{◌≡◌, ◌≢◌, inl, inr, ℕ, ℤ, ◌-◌, ◌≤◌, pos, ◌*ℤ◌, List, [], length, not, arith, ints, ap, ◌∙◌, refl, slice_get, Some}
use Rattle.ta_rest.proofs.FairCommon.{cond-true, eqb_tells, Automaton, Rule, Config, Initial, Run, LoopsAlone, is_move, value_of}
unfoldable use Rattle.ta_rest.proofs.FairCommon.{moves_count}
use Rattle.ta_rest.proofs.Moving.{moves_bounded}
use Rattle.ta_rest.proofs.Prefixes.{weight}

-- a rule between two locations weighs 1
pub weighs : (a : Automaton) (r : ℕ) (rule : Rule) → slice_get a.rules r ≡ Some rule → rule.from ≢ rule.to → weight a (Some r) ≡ 1
weighs a r rule named apart = elim (eqb_tells rule.from rule.to) [
  | inl e ↦ absurd (apart e.1)
  | inr ne ↦ cond-true (is_move (slice_get a.rules r)) 1 0 (ap is_move named ∙ ap not ne.0)
]

-- no run from a configuration has more moves than some number
natural_bound : (a : Automaton) → LoopsAlone a → (c : Config) → Initial a c → (z : ℤ)
    → z ≡ (value_of (number_at c.parameters) a.processes *ℤ pos (length a.locations - 1))
    → (most : ℕ) × ((rules : List ℕ) (later : List Config) → Run a c rules later → moves_count a rules ≤ most)
natural_bound a alone c initial (pos n) e = (n, λ rules later run. let b = moves_bounded a alone c rules later run in omega (arith, ints, e, b))
natural_bound a alone c initial (negsuc n) e = absurd
    (let b = moves_bounded a alone c [] [] (record { initial = initial; steps = tt }) in omega (arith, ints, e, b))

pub few_moves : (a : Automaton) → LoopsAlone a → (c : Config) → Initial a c → (most : ℕ)
    × ((rules : List ℕ) (later : List Config) → Run a c rules later → moves_count a rules ≤ most)
few_moves a alone c initial = natural_bound a alone c initial (value_of (number_at c.parameters) a.processes *ℤ pos (length a.locations - 1)) refl
