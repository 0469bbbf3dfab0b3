-- The orders found so far, as a list and as masks.
use Rattle.std.specs.Prelude.{ℕ, ◌+◌, ◌<◌, ◌≡◌, ◌⊎◌, map}
use Rattle.std.specs.List.{AllByRecursion}
use Rattle.ta_automaton.specs.declared.automaton.Automaton.{Automaton}
use Rattle.ta_cert.specs.Certificates.{pair_of}
use Rattle.ta_walk.specs.FoundOrders.{FoundBefore, TryAnswers}
use Rattle.ta_walk.specs.declared.finding.Sought.{Sought}

-- a pair comes before another in the order in which they are tried
abbrev pub ComesFirst : ℕ → ℕ → ℕ × ℕ → Type 0
ComesFirst before after q = (q.1 < after) ⊎ ((q.1 ≡ after) × (q.0 < before))

-- the masks are of the listed pairs, and each of these comes before this one
pub record MasksAgree (before after : ℕ) (s : Sought) : Type 0 where
  pub same : s.orders ≡ map pair_of s.list.items
  pub first : AllByRecursion (ComesFirst before after) (map pair_of s.list.items)

-- a pair was tried
pub record PairTried (a : Automaton) (before after : ℕ) (old new : Sought) : Type 0 where
  pub tried : TryAnswers a old.list.items before after new.list.items
  pub kept : MasksAgree (before + 1) after new

-- this many guards were tried before one
pub record GuardTried (a : Automaton) (count after : ℕ) (old new : Sought) : Type 0 where
  pub found : FoundBefore a old.list.items after count new.list.items
  pub kept : MasksAgree count after new
