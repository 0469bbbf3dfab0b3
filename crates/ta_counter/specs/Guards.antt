-- When the guards that a mask names pass, and which of them is the first that does not.
use Rattle.std.specs.Prelude.{ℕ, ℤ, ◌+◌, ◌≡◌, ◌⊎◌, List, length, IsBitSet}
use Rattle.ta_linear.specs.declared.row.Row.{Row}
use Rattle.ta_automaton.specs.declared.rule.Rule.{Rule}
use Rattle.ta_automaton.specs.declared.automaton.Automaton.{Automaton}
use Rattle.ta_counter.specs.Checks.{AllPass, StopsAt, RowPasses}

-- each row that a mask names passes
abbrev pub MaskedPass : (ℕ → ℤ) → ℕ → List Row → Type 0
MaskedPass point mask rows = AllPass (λ j row. IsBitSet mask j → RowPasses point row) rows

-- row k, which a mask names, is bad, and each before it that the mask names passes
abbrev pub MaskedStop : (ℕ → ℤ) → ℕ → (Row → Type 0) → List Row → ℕ → Type 0
MaskedStop point mask Bad rows k =
    StopsAt (λ j row. IsBitSet mask j → RowPasses point row) (λ j row. IsBitSet mask j × Bad row) rows k

-- the guard with a number is bad, and each of the rule's before it passes
abbrev pub BadGuard : Automaton → Rule → (ℕ → ℤ) → (ℕ → ℤ) → ((ℕ → ℤ) → Row → Type 0) → ℕ → Type 0
BadGuard a rule now last Bad guard =
    MaskedStop now rule.rise (Bad now) a.rise guard
    ⊎ (MaskedPass now rule.rise a.rise × ((j : ℕ) × (guard ≡ length a.rise + j) × MaskedStop last rule.fall (Bad last) a.fall j))
