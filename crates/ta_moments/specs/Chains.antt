-- Executions from counts of firings. Counts say how often each rule fired before a position of an execution; they are sums of acceleration
-- factors (Konnov, Lazić, Veith, Widder, POPL 2017). Pairwise comparable counts are a chain in the order of their sums. Between two
-- neighbours no guard changes that matters, and no rule with an update is on a cycle; so the missing firings can be ordered forward, all
-- firings of a rule in one accelerated transition.
use Rattle.std.specs.Prelude.{ℕ, ℤ, pos, ◌<◌, ◌≤◌, ◌≡◌, ◌+◌, ◌-◌, ◌+ℤ◌, ◌*ℤ◌, ◌≤ℤ◌, ◌⊎◌, false, true, List, [], ◌∷◌, ◌++◌, length, min, replicate, slice_get}
use Rattle.std.specs.Prelude.{slice_index, Some, IsBitSet}
use Rattle.ta_base.specs.Masks.{has_bit, In}
use Rattle.ta_base.specs.Sums.{total}
use Rattle.ta_linear.specs.Values.{RowHolds}
use Rattle.ta_linear.specs.declared.row.Row.{Row}
use Rattle.ta_automaton.specs.Places.{Whole, rule_change, location_place}
use Rattle.ta_automaton.specs.declared.automaton.Automaton.{Automaton}
use Rattle.ta_automaton.specs.declared.pattern.Pattern.{Pattern}
use Rattle.ta_automaton.specs.declared.rule.Rule.{Rule}
use Rattle.ta_automaton.specs.Runs.{Config, value_at, Steps, At, Holds, HoldsAt, InScope, Initial, Occurs}
use Rattle.ta_automaton.specs.declared.pattern.Event.{Event}
use Rattle.ta_moments.specs.Facts.{moving_rules}

-- for each rule a number of firings
abbrev pub Counts : Type 0
Counts = ℕ → ℕ

-- no rule has fewer firings in the second counts
abbrev pub NoneFewer : List ℕ → Counts → Counts → Type 0
NoneFewer rules v w = (r : ℕ) → In r rules → v r ≤ w r

-- one of two counts has no fewer firings than the other
abbrev pub Comparable : List ℕ → Counts → Counts → Type 0
Comparable rules v w = NoneFewer rules v w ⊎ NoneFewer rules w v

-- all firings of some rules
abbrev pub firings_in : List ℕ → Counts → ℕ
firings_in [] v = 0
firings_in (r ∷ rules) v = v r + firings_in rules v

-- of comparable counts, those with no more firings in total have no more of any rule; so pairwise comparable counts, sorted by their sums,
-- are a chain
abbrev pub SettledPositionsAreAChain : Type 0
SettledPositionsAreAChain = (rules : List ℕ) (v w : Counts) → Comparable rules v w → firings_in rules v ≤ firings_in rules w → NoneFewer rules v w

-- the value at a place after counts of the moving rules from a configuration
abbrev pub value_after : Automaton → Pattern → Config → Counts → ℕ → ℤ
value_after a p first v place = value_at first place +ℤ total (λ r. rule_change a (slice_get a.rules r) place *ℤ pos (v r)) (moving_rules a p)

-- one firing leads from counts to others
abbrev pub OneFiring : Automaton → Pattern → Counts → Counts → Type 0
OneFiring a p v w = firings_in (moving_rules a p) (λ r. w r - v r) ≡ 1

-- the firings of accelerated steps: each of a rule, this many times in a row
abbrev pub fired_steps : List (ℕ × ℕ) → List ℕ
fired_steps [] = []
fired_steps (s ∷ steps) = replicate s.1 s.0 ++ fired_steps steps

-- firings that are those of at most this many accelerated steps
pub record InSteps (rules : List ℕ) (most : ℕ) : Type 0 where
  pub steps : List (ℕ × ℕ)
  pub are : rules ≡ fired_steps steps
  pub few : length steps ≤ most

-- counts may follow others: no rule has fewer; the rise guards of the rules that fire between hold at the first; their fall guards hold at
-- the second or, if it is one firing, at the first; the counters at the second are natural
pub record Link (a : Automaton) (p : Pattern) (first : Config) (v w : Counts) : Type 0 where
  pub grows : NoneFewer (moving_rules a p) v w
  pub rise : (r : ℕ) (rule : Rule) → In r (moving_rules a p) → v r < w r → slice_get a.rules r ≡ Some rule
      → (i : ℕ) (row : Row) → slice_get a.rise i ≡ Some row → IsBitSet rule.rise i → RowHolds (value_after a p first v) row
  pub fall : (r : ℕ) (rule : Rule) → In r (moving_rules a p) → v r < w r → slice_get a.rules r ≡ Some rule
      → (j : ℕ) (row : Row) → slice_get a.fall j ≡ Some row → IsBitSet rule.fall j
      → RowHolds (value_after a p first w) row ⊎ (OneFiring a p v w × RowHolds (value_after a p first v) row)
  pub natural : (l : ℕ) → l < length a.locations → has_bit p.empty l ≡ false → pos 0 ≤ℤ value_after a p first w (location_place a l)

-- a configuration of a chain: the locations that are to be empty are empty, and each place has the value after the counts
pub record Stands (a : Automaton) (p : Pattern) (first : Config) (v : Counts) (c : Config) : Type 0 where
  pub whole : Whole a c
  pub empty : (l : ℕ) → has_bit p.empty l ≡ true → slice_index c.counters l ≡ 0
  pub values : (place : ℕ) → value_at c place ≡ value_after a p first v place

-- unit steps lead from a configuration to one with these counts, and keep empty what is to be empty; they are at most as many accelerated
-- steps as firings are missing, and at most as many as there are moving rules
pub record LeadsOn (a : Automaton) (p : Pattern) (first : Config) (v w : Counts) (from : Config) : Type 0 where
  pub rules : List ℕ
  pub few : InSteps rules (min (firings_in (moving_rules a p) (λ r. w r - v r)) (length (moving_rules a p)))
  pub later : List Config
  pub steps : Steps a from rules later
  pub end : Config
  pub reached : At from later (length rules) end
  pub stands : Stands a p first w end
  pub kept_empty : (k : ℕ) (c : Config) → At from later k c → (l : ℕ) → has_bit p.empty l ≡ true → slice_index c.counters l ≡ 0

-- from a configuration with some counts, steps lead to one with counts that may follow
abbrev pub LinksLeadOn : Type 0
LinksLeadOn =
    (a : Automaton) (p : Pattern) → InScope a
    → (first : Config) (v w : Counts) → Link a p first v w
    → (from : Config) → Stands a p first v from
    → LeadsOn a p first v w from

-- each counts may follow those before it
abbrev pub Chain : Automaton → Pattern → Config → Counts → List Counts → Type 0
Chain a p first v [] = Unit {0}
Chain a p first v (w ∷ ws) = Link a p first v w × Chain a p first w ws

-- a run comes through counts in order: each stands at a position, none before an earlier one's
abbrev pub ComesThrough : Automaton → Pattern → Config → List Config → ℕ → List Counts → Type 0
ComesThrough a p first later least [] = Unit {0}
ComesThrough a p first later least (w ∷ ws) =
    (k : ℕ) × (least ≤ k) × ((c : Config) × At first later k c × Stands a p first w c) × ComesThrough a p first later k ws

-- the largest number of accelerated steps through counts, from this many firings on: between neighbours at most as many as firings are
-- missing, and at most as many as there are moving rules
abbrev pub most_steps : List ℕ → ℕ → List Counts → ℕ
most_steps rules low [] = 0
most_steps rules low (w ∷ ws) = min (firings_in rules w - low) (length rules) + most_steps rules (firings_in rules w) ws

-- steps from a configuration through counts, in order
pub record RunsAlong (a : Automaton) (p : Pattern) (first : Config) (ws : List Counts) : Type 0 where
  pub rules : List ℕ
  pub later : List Config
  pub steps : Steps a first rules later
  pub through : ComesThrough a p first later 0 ws
  pub few : InSteps rules (most_steps (moving_rules a p) 0 ws)
  pub kept_empty : (k : ℕ) (c : Config) → At first later k c → (l : ℕ) → has_bit p.empty l ≡ true → slice_index c.counters l ≡ 0

-- a chain of counts from no firing on is a run that comes through all of them
abbrev pub ChainsBecomeRuns : Type 0
ChainsBecomeRuns =
    (a : Automaton) (p : Pattern) → InScope a
    → (first : Config) → Stands a p first (λ r. 0) first
    → (ws : List Counts) → Chain a p first (λ r. 0) ws
    → RunsAlong a p first ws

-- a fall guard's last use by a rule: two of the positions, one firing apart, at the first of which the guard holds; after the second the
-- rule does not fire; no other position lies between
pub record LastUse (a : Automaton) (p : Pattern) (first : Config) (positions : List Counts) (end : Counts) (r : ℕ) (row : Row) : Type 0 where
  pub before : Counts
  pub after : Counts
  pub before_in : In before positions
  pub after_in : In after positions
  pub one : OneFiring a p before after
  pub last : end r ≤ after r
  pub holds : RowHolds (value_after a p first before) row
  pub apart : (u : Counts) → In u positions → NoneFewer (moving_rules a p) u before ⊎ NoneFewer (moving_rules a p) after u

-- a settled picture of a run: pairwise comparable positions, none after the end, with natural counters; each rise guard of a rule that
-- fires before the end holds at a position before which the rule does not fire; each of its fall guards holds at the end, or has a last use
pub record Picture (a : Automaton) (p : Pattern) (first : Config) (positions : List Counts) (end : Counts) : Type 0 where
  pub comparable : (v w : Counts) → In v positions → In w positions → Comparable (moving_rules a p) v w
  pub within : (v : Counts) → In v positions → NoneFewer (moving_rules a p) v end
  pub natural : (v : Counts) → In v positions
      → (l : ℕ) → l < length a.locations → has_bit p.empty l ≡ false → pos 0 ≤ℤ value_after a p first v (location_place a l)
  pub rise : (r : ℕ) (rule : Rule) → In r (moving_rules a p) → 1 ≤ end r → slice_get a.rules r ≡ Some rule
      → (i : ℕ) (row : Row) → slice_get a.rise i ≡ Some row → IsBitSet rule.rise i
      → (u : Counts) × In u positions × (u r ≡ 0) × RowHolds (value_after a p first u) row
  pub fall : (r : ℕ) (rule : Rule) → In r (moving_rules a p) → 1 ≤ end r → slice_get a.rules r ≡ Some rule
      → (j : ℕ) (row : Row) → slice_get a.fall j ≡ Some row → IsBitSet rule.fall j
      → RowHolds (value_after a p first end) row ⊎ LastUse a p first positions end r row

-- counts in the order of their sums
abbrev pub Rising : List ℕ → ℕ → List Counts → Type 0
Rising rules least [] = Unit {0}
Rising rules least (w ∷ ws) = (least ≤ firings_in rules w) × Rising rules (firings_in rules w) ws

-- the largest number of accelerated steps that positions cost: a position that lies this many firings before a later one of the list costs
-- that many, and any other as many as there are moving rules
abbrev pub Cost : List ℕ → List Counts → ℕ → Type 0
Cost rules [] n = Unit {0}
Cost rules (v ∷ vs) n =
    (m : ℕ) × Cost rules vs m
    × ((m + length rules ≤ n) ⊎ ((d : ℕ) × (u : Counts) × In u vs × (firings_in rules u ≡ firings_in rules v + d) × (m + d ≤ n)))

-- a run that comes through all positions of a picture, in the order of their sums
pub record ShowsPicture (a : Automaton) (p : Pattern) (first : Config) (positions : List Counts) : Type 0 where
  pub sorted : List Counts
  pub each : (v : Counts) → In v positions → In v sorted
  pub none_else : (v : Counts) → In v sorted → In v positions
  pub rising : Rising (moving_rules a p) 0 sorted
  pub run : RunsAlong a p first sorted
  pub few : (n : ℕ) → Cost (moving_rules a p) positions n → InSteps run.rules n

-- a settled picture is a run
abbrev pub PicturesBecomeRuns : Type 0
PicturesBecomeRuns =
    (a : Automaton) (p : Pattern) → InScope a
    → (first : Config) → Stands a p first (λ r. 0) first
    → (positions : List Counts) (end : Counts) → Picture a p first positions end
    → ShowsPicture a p first positions

-- at which of the positions of a picture each event happens: its condition holds there, and none of the events that it comes after is later
pub record HappensIn (a : Automaton) (p : Pattern) (first : Config) (positions : List Counts) (happens : ℕ → Counts) : Type 0 where
  pub among : (e : ℕ) → e < length p.events → In (happens e) positions
  pub holds : (e : ℕ) (event : Event) → slice_get p.events e ≡ Some event → HoldsAt (value_after a p first (happens e)) event.condition
  pub in_order : (e f : ℕ) (event : Event) → slice_get p.events e ≡ Some event → f < length p.events → IsBitSet event.after f
      → NoneFewer (moving_rules a p) (happens f) (happens e)

-- the pattern occurs in a run from this configuration, and each event happens where its counts stand
pub record ShowsEvents (a : Automaton) (p : Pattern) (first : Config) (positions : List Counts) (happens : ℕ → Counts) : Type 0 where
  pub rules : List ℕ
  pub few : (n : ℕ) → Cost (moving_rules a p) positions n → InSteps rules n
  pub occurs : Occurs a p first rules
  pub stands : (e k : ℕ) (c : Config) → e < length p.events → slice_get occurs.positions e ≡ Some k → At first occurs.later k c
      → (place : ℕ) → value_at c place ≡ value_after a p first (happens e) place

-- a settled picture from an initial configuration in which the start condition holds, with a position for each event, is a run in which
-- the pattern occurs
abbrev pub PicturesShowPatterns : Type 0
PicturesShowPatterns =
    (a : Automaton) (p : Pattern) → InScope a
    → (first : Config) → Initial a first → Holds p.start first → Stands a p first (λ r. 0) first
    → (positions : List Counts) (end : Counts) → Picture a p first positions end
    → (happens : ℕ → Counts) → HappensIn a p first positions happens
    → ShowsEvents a p first positions happens
