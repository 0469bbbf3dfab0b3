-- Infinite runs, weak fairness, and patterns whose last event holds for ever in such a run. Source: Konnov, Lazić, Veith, Widder, POPL 2017
-- (liveness part of ELTL_FT).
use Rattle.std.specs.Prelude.{ℕ, ◌+◌, ◌≡◌, ◌≢◌, ◌≤◌, ◌<◌, List, length, slice_get, slice_index, Option, Some, None, IsBitSet}
use Rattle.ta_automaton.specs.declared.rule.Rule.{Rule}
use Rattle.ta_automaton.specs.declared.automaton.Automaton.{Automaton}
use Rattle.ta_automaton.specs.declared.pattern.Event.{Event}
use Rattle.ta_automaton.specs.declared.pattern.Pattern.{Pattern}
use Rattle.ta_automaton.specs.Runs.{Config, Holds, Initial, Step}
use Rattle.ta_rest.specs.Quiet.{MustMove}

-- from one position to the next: a step of a rule, by its number, or no change
abbrev pub Follows : Automaton → Option ℕ → Config → Config → Type 0
Follows a None before after = after ≡ before
Follows a (Some r) before after = Step a r before after

-- a configuration at each position, the first initial, and the rule that fires there if one does
pub record InfiniteRun (a : Automaton) : Type 0 where
  pub config : ℕ → Config
  pub fired : ℕ → Option ℕ
  pub initial : Initial a (config 0)
  pub follows : (k : ℕ) → Follows a (fired k) (config k) (config (k + 1))

-- weakly fair: there is no rule that from some position on always must move and never fires
abbrev pub Fair : (a : Automaton) → List ℕ → InfiniteRun a → Type 0
Fair a silent run = (r : ℕ) (rule : Rule) → slice_get a.rules r ≡ Some rule → (k : ℕ)
    → ((n : ℕ) → k ≤ n → MustMove a silent rule (run.config n))
    → ((n : ℕ) → k ≤ n → run.fired n ≢ Some r)
    → ⊥

-- from a position on no rule between two locations fires
abbrev pub CalmFrom : (a : Automaton) → InfiniteRun a → ℕ → Type 0
CalmFrom a run n = (k r : ℕ) (rule : Rule) → n ≤ k → run.fired k ≡ Some r → slice_get a.rules r ≡ Some rule → rule.from ≡ rule.to

-- the pattern occurs for ever in a fair run: its events happen as in a finite run, the last event is at or after all others, and from its
-- position on its condition holds at every position
pub record OccursForEver (a : Automaton) (silent : List ℕ) (p : Pattern) (run : InfiniteRun a) : Type 0 where
  pub fair : Fair a silent run
  pub start : Holds p.start (run.config 0)
  pub kept_empty : (l : ℕ) → IsBitSet p.empty l → (k : ℕ) → slice_index (run.config k).counters l ≡ 0
  pub positions : List ℕ
  pub each_has_one : length positions ≡ length p.events
  pub happens : (e : ℕ) (event : Event) (k : ℕ) → slice_get p.events e ≡ Some event → slice_get positions e ≡ Some k → Holds event.condition (run.config k)
  pub in_order : (e f : ℕ) (event : Event) → slice_get p.events e ≡ Some event → IsBitSet event.after f → slice_index positions f ≤ slice_index positions e
  pub behind : (last : ℕ) → last + 1 ≡ length p.events → (e : ℕ) → e < length p.events → slice_index positions e ≤ slice_index positions last
  pub lasts : (last : ℕ) (event : Event) → last + 1 ≡ length p.events → slice_get p.events last ≡ Some event → (n : ℕ) → slice_index positions last ≤ n
      → Holds event.condition (run.config n)

-- the pattern occurs for ever in no fair run, for any admissible parameters
abbrev pub FairlySafe : Automaton → List ℕ → Pattern → Type 0
FairlySafe a silent p = (run : InfiniteRun a) → OccursForEver a silent p run → ⊥
