-- Quiet rest: no rule must move. A rule must move only if its guards hold whatever the silent places give; silent places model Byzantine
-- senders that may stay silent.
use Rattle.std.specs.Prelude.{Bool, true, not, ℕ, ℤ, pos, ◌==◌, ◌≡◌, ◌≢◌, ◌≤◌, ◌≤ℤ◌, ◌<ℤ◌, ◌⊎◌, List, filter, if◌then◌else◌, slice_get, slice_index, Some}
use Rattle.std.specs.Prelude.{IsBitSet}
use Rattle.std.specs.List.{list_any}
use Rattle.ta_linear.specs.Terms.{coefficient}
use Rattle.ta_linear.specs.Values.{RowHolds, value_of}
use Rattle.ta_linear.specs.declared.row.Row.{Row}
use Rattle.ta_automaton.specs.declared.rule.Rule.{Rule}
use Rattle.ta_automaton.specs.declared.automaton.Automaton.{Automaton}
use Rattle.ta_automaton.specs.declared.pattern.Pattern.{Pattern}
use Rattle.ta_automaton.specs.Runs.{Config, value_at}
use Rattle.ta_rest.specs.Rest.{ComesTo}

-- whether a place is silent
abbrev pub is_silent : List ℕ → ℕ → Bool
is_silent silent place = list_any (λ quiet. quiet == place) silent

-- the values at the places, with 0 at the silent places
abbrev pub without : List ℕ → (ℕ → ℤ) → ℕ → ℤ
without silent point place = if is_silent silent place then pos 0 else point place

-- the terms that are not of silent places
abbrev pub loud_terms : List ℕ → List (ℕ × ℤ) → List (ℕ × ℤ)
loud_terms silent ts = filter (λ t. not (is_silent silent t.0)) ts

-- a row holds even without its terms of silent places
abbrev pub QuietlyHolds : List ℕ → Config → Row → Type 0
QuietlyHolds silent c row = RowHolds (without silent (value_at c)) row

-- all rows that a mask names hold so
abbrev pub MaskedQuietlyHold : List ℕ → ℕ → List Row → Config → Type 0
MaskedQuietlyHold silent mask rows c = (i : ℕ) (row : Row) → slice_get rows i ≡ Some row → IsBitSet mask i → QuietlyHolds silent c row

-- a rule that must move: it leads from one location to another, a process is at its source, and its guards hold whatever the silent places
-- give
pub record MustMove (a : Automaton) (silent : List ℕ) (rule : Rule) (c : Config) : Type 0 where
  pub apart : rule.from ≢ rule.to
  pub some : 1 ≤ slice_index c.counters rule.from
  pub rise : MaskedQuietlyHold silent rule.rise a.rise c
  pub fall : MaskedQuietlyHold silent rule.fall a.fall c

-- at quiet rest: no rule must move
abbrev pub QuietRest : Automaton → List ℕ → Config → Type 0
QuietRest a silent c = (r : ℕ) (rule : Rule) → slice_get a.rules r ≡ Some rule → ¬ MustMove a silent rule c

-- a row that a mask names fails, even without its terms of silent places
pub record OneFails (silent : List ℕ) (mask : ℕ) (rows : List Row) (c : Config) : Type 0 where
  pub number : ℕ
  pub row : Row
  pub named : slice_get rows number ≡ Some row
  pub is_set : IsBitSet mask number
  pub fails : value_of (without silent (value_at c)) row.form <ℤ pos 0

-- why a rule need not move: its source is empty, or one of its guards fails
abbrev pub Stuck : Automaton → List ℕ → Rule → Config → Type 0
Stuck a silent rule c = (slice_index c.counters rule.from ≡ 0) ⊎ (OneFails silent rule.rise a.rise c ⊎ OneFails silent rule.fall a.fall c)

-- the pattern occurs in a run that has come to quiet rest at its end, where the pattern's last event happens if it has events
abbrev pub QuietRestOccurs : Automaton → List ℕ → Pattern → Config → List ℕ → Type 0
QuietRestOccurs a silent = ComesTo (QuietRest a silent) a

-- the pattern occurs in no such run, for any admissible parameters and any number of steps
abbrev pub QuietRestSafe : Automaton → List ℕ → Pattern → Type 0
QuietRestSafe a silent p = (first : Config) (rules : List ℕ) → QuietRestOccurs a silent p first rules → ⊥

-- no row subtracts a silent place
abbrev pub NoneSubtracted : List ℕ → List Row → Type 0
NoneSubtracted silent rows = (i : ℕ) (row : Row) → slice_get rows i ≡ Some row → (place : ℕ) → is_silent silent place ≡ true
    → pos 0 ≤ℤ coefficient row.form.terms place
