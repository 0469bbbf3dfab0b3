-- Arranged steps: counts of rules, with circulations removed, as accelerated steps that go forward.
use Rattle.std.specs.Prelude.{ℕ, ℤ, pos, ◌<◌, ◌≡◌, ◌≤ℤ◌, ◌-ℤ◌, ◌⊎◌, ◌↔◌, ◌&&◌, Bool, List, [], ◌∷◌, length, map, filter, flat_map, int_lt, slice_get}
use Rattle.std.specs.Prelude.{slice_index_or, Some, IsBitSet}
use Rattle.std.specs.List.{AllByRecursion, range_with_len}
use Rattle.ta_automaton.specs.declared.rule.Rule.{Rule}
use Rattle.ta_automaton.specs.declared.automaton.Automaton.{Automaton}
use Rattle.ta_automaton.specs.Laws.{leads_out_of}
use Rattle.ta_base.specs.Masks.{In}
use Rattle.ta_automaton.specs.Runs.{Walk}
use Rattle.ta_scope.specs.Cycles.{OnCycle, NoCycle}
use Rattle.ta_scope.specs.Order.{IsLocationOrder}

-- the count of a rule
abbrev pub count_at : List ℤ → ℕ → ℤ
count_at counts r = slice_index_or counts r (pos 0)

-- one natural number for each rule
pub record AreRuleCounts (a : Automaton) (counts : List ℤ) : Type 0 where
  pub each_rule : length counts ≡ length a.rules
  pub natural : (r : ℕ) → pos 0 ≤ℤ count_at counts r

-- the mask of the support: the rules with a count above 0
abbrev pub Support : List ℤ → ℕ → Type 0
Support counts rules = (r : ℕ) → IsBitSet rules r ↔ (pos 1 ≤ℤ count_at counts r)

-- the first list of numbers is not after the second in lexicographic order
abbrev pub NotAbove : List ℕ → List ℕ → Type 0
NotAbove [] qs = Unit {0}
NotAbove (r ∷ rs) [] = ⊥
NotAbove (r ∷ rs) (q ∷ qs) = (r < q) ⊎ ((r ≡ q) × NotAbove rs qs)

-- fewer rules; or as many, in a list that is not after the other
abbrev pub NoLater : List ℕ → List ℕ → Type 0
NoLater rs qs = (length rs < length qs) ⊎ ((length rs ≡ length qs) × NotAbove rs qs)

-- the path of a mask's rules with the fewest rules, and among several such paths the least list of numbers
pub record FirstPath (a : Automaton) (rules from : ℕ) (path : List ℕ) (to : ℕ) : Type 0 where
  pub walk : Walk a from path to
  pub members : AllByRecursion (IsBitSet rules) path
  pub first : (other : List ℕ) → Walk a from other to → AllByRecursion (IsBitSet rules) other → NoLater path other

-- the least rule on a cycle of a mask's rules, and the first path from its target back to its source
pub record LeastCycle (a : Automaton) (rules number : ℕ) (back : List ℕ) : Type 0 where
  pub rule : Rule
  pub named : slice_get a.rules number ≡ Some rule
  pub member : IsBitSet rules number
  pub path : FirstPath a rules rule.to back rule.from
  pub least : (q : ℕ) (other : Rule) → q < number → slice_get a.rules q ≡ Some other → IsBitSet rules q → ¬ OnCycle a rules other

-- the least of the counts of some rules
pub record LeastCount (counts : List ℤ) (rules : List ℕ) (amount : ℤ) : Type 0 where
  pub rule : ℕ
  pub member : In rule rules
  pub is : count_at counts rule ≡ amount
  pub least : (r : ℕ) → In r rules → amount ≤ℤ count_at counts r

-- an amount is subtracted from the counts of some rules
pub record SubtractsFrom (rules : List ℕ) (amount : ℤ) (before after : List ℤ) : Type 0 where
  pub each_rule : length after ≡ length before
  pub these : (r : ℕ) → In r rules → count_at after r ≡ (count_at before r -ℤ amount)
  pub others : (r : ℕ) → ¬ In r rules → count_at after r ≡ count_at before r

-- one circulation is taken out: from the counts along the least cycle of the support the least of them is subtracted
pub record TakenOut (a : Automaton) (before after : List ℤ) : Type 0 where
  pub rules : ℕ
  pub support : Support before rules
  pub number : ℕ
  pub back : List ℕ
  pub cycle : LeastCycle a rules number back
  pub amount : ℤ
  pub least : LeastCount before (number ∷ back) amount
  pub subtracted : SubtractsFrom (number ∷ back) amount before after

-- circulations are taken out, one after another
abbrev pub AllTakenOut : Automaton → List ℤ → List (List ℤ) → List ℤ → Type 0
AllTakenOut a counts [] rest = counts ≡ rest
AllTakenOut a counts (next ∷ later) rest = TakenOut a counts next × AllTakenOut a next later rest

-- whether a rule leaves a location and has a count above 0
abbrev pub is_step_from : Automaton → List ℤ → ℕ → ℕ → Bool
is_step_from a counts l r = leads_out_of l (slice_get a.rules r) && int_lt (pos 0) (count_at counts r)

-- the rules with a count above 0, each with its count, by their source in the order of the locations and then by number
abbrev pub steps_along : Automaton → List ℤ → List ℕ → List (ℕ × ℤ)
steps_along a counts order = flat_map (λ l. map (λ r. (r, count_at counts r)) (filter (is_step_from a counts l) (range_with_len 0 (length a.rules)))) order

-- the arranged steps of counts: circulations are taken out until the support has no cycle; the rest is listed in the order
-- of the locations by its support
pub record ArrangedOf (a : Automaton) (counts : List ℤ) (steps : List (ℕ × ℤ)) : Type 0 where
  pub later : List (List ℤ)
  pub rest : List ℤ
  pub taken_out : AllTakenOut a counts later rest
  pub rules : ℕ
  pub support : Support rest rules
  pub no_cycle : NoCycle a rules
  pub order : List ℕ
  pub ordered : IsLocationOrder a rules order
  pub listed : steps ≡ steps_along a rest order
