-- Masks of locations that grow along some of the rules.
use Rattle.std.specs.Prelude.{ℕ, ◌≡◌, ◌⊎◌, slice_get, Some, IsBitSet}
use Rattle.ta_automaton.specs.declared.rule.Rule.{Rule}
use Rattle.ta_automaton.specs.declared.automaton.Automaton.{Automaton}

-- a rule of a mask, by its number, leads from a location of a mask of locations to a location outside it
pub record LeadsOut (rules mask number : ℕ) (rule : Rule) : Type 0 where
  pub member : IsBitSet rules number
  pub from : IsBitSet mask rule.from
  pub to : ¬ IsBitSet mask rule.to

-- the second mask has one more location, to which a rule leads out of the first mask
pub record AddsLocation (a : Automaton) (rules mask more : ℕ) : Type 0 where
  pub number : ℕ
  pub rule : Rule
  pub named : slice_get a.rules number ≡ Some rule
  pub leads_out : LeadsOut rules mask number rule
  pub kept : (l : ℕ) → IsBitSet mask l → IsBitSet more l
  pub added : (l : ℕ) → IsBitSet more l → IsBitSet mask l ⊎ (l ≡ rule.to)

-- no rule leads out of a mask
abbrev pub IsClosed : Automaton → ℕ → ℕ → Type 0
IsClosed a rules mask = (r : ℕ) (rule : Rule) → slice_get a.rules r ≡ Some rule → ¬ LeadsOut rules mask r rule
