-- The orders of guards that the maker finds, pair by pair, by solving the pairs' systems with the least-index rule.
use Rattle.std.specs.Prelude.{ℕ, zero, suc, ℤ, ◌≡◌, ◌⊎◌, List, [], ◌∷◌, ◌++◌, length, map, ◌≤◌}
use Rattle.std.specs.List.{AllByRecursion}
use Rattle.ta_linear.specs.declared.row.System.{System}
use Rattle.ta_automaton.specs.declared.automaton.Automaton.{Automaton}
use Rattle.ta_cert.specs.Certificates.{AreOrders, order_lines, pair_of}
use Rattle.ta_cert.specs.Laws.{AreShort}
use Rattle.ta_cert.specs.declared.line.Order.{Order}
use Rattle.ta_farkas.specs.Columns.{CheckStays}
use Rattle.ta_implied.specs.Implied.{Good, ImplySystem}
use Rattle.ta_implied.specs.Orders.{IsShown, MayJoin}
use Rattle.ta_simplex.specs.Refuted.{IsRefuted}

-- the least-index rule refutes the system of a pair with these multipliers, and all numbers of the pivots and of their check stay in range
pub record RefutedPair (a : Automaton) (before after : ℕ) (ts : List (ℕ × ℤ)) : Type 0 where
  pub system : System
  pub is : ImplySystem a before after system
  pub refuted : IsRefuted system ts
  pub stays : CheckStays system ts

-- a pair is taken after others, with these multipliers: it may join them, and is refuted
pub record IsTaken (a : Automaton) (orders : List Order) (before after : ℕ) (ts : List (ℕ × ℤ)) : Type 0 where
  pub may : MayJoin a (map pair_of orders) (before, after)
  pub refuted : RefutedPair a before after ts

-- one order more
pub record TakesPair (a : Automaton) (orders : List Order) (before after : ℕ) (found : List Order) : Type 0 where
  pub multipliers : List (ℕ × ℤ)
  pub taken : IsTaken a orders before after multipliers
  pub whole : found ≡ orders ++ record { before = before; after = after; multipliers = multipliers } ∷ []

-- no further order: there are no multipliers with which the pair is taken
pub record PassesOverPair (a : Automaton) (orders : List Order) (before after : ℕ) (found : List Order) : Type 0 where
  pub none : (ts : List (ℕ × ℤ)) → ¬ IsTaken a orders before after ts
  pub same : found ≡ orders

-- what is found once a pair was tried after others
abbrev pub TryAnswers : Automaton → List Order → ℕ → ℕ → List Order → Type 0
TryAnswers a orders before after found = TakesPair a orders before after found ⊎ PassesOverPair a orders before after found

-- what is found after others once the first guards, this many, were tried before one guard
abbrev pub FoundBefore : Automaton → List Order → ℕ → ℕ → List Order → Type 0
FoundBefore a orders after zero found = found ≡ orders
FoundBefore a orders after (suc before) found = (next : List Order) × FoundBefore a orders after before next × TryAnswers a next before after found

-- what is found once all guards were tried before each of the first guards, this many
abbrev pub FoundAfter : Automaton → ℕ → List Order → Type 0
FoundAfter a zero found = found ≡ []
FoundAfter a (suc after) found = (next : List Order) × FoundAfter a after next × FoundBefore a next after (length a.rise) found

-- the orders of an automaton that are found
abbrev pub FoundOrders : Automaton → List Order → Type 0
FoundOrders a found = FoundAfter a (length a.rise) found

-- they are unique
abbrev pub FoundOrdersAreDetermined : Type 0
FoundOrdersAreDetermined = (a : Automaton) (os rs : List Order) → FoundOrders a os → FoundOrders a rs → os ≡ rs

-- orders that the checker accepts: each has a leaf whose check stays in range, no chain of them leads back, and their lines can be written, if they
-- may have 8192 bytes
pub record AreSoundOrders (a : Automaton) (os : List Order) : Type 0 where
  pub good : Good a (map pair_of os)
  pub shown : AllByRecursion (λ (o : Order). IsShown a (pair_of o) o.multipliers) os
  pub writable : AreOrders os
  pub short : (limit : ℕ) → 8192 ≤ limit → AreShort limit (order_lines os)

abbrev pub FoundOrdersAreSound : Type 0
FoundOrdersAreSound = (a : Automaton) (os : List Order) → FoundOrders a os → AreSoundOrders a os
