-- Completeness of a node of the tree of questions: natural values of its unknowns that satisfy its rows and leave no question give an
-- execution in which the pattern occurs; at rest, one that reaches quiet rest. Its moments are settled, so their positions are a chain;
-- each guard that a firing rule needs was asked, so the facts say where it holds.
use Rattle.std.specs.Prelude.{map, Option, None, ◌+◌, ◌*◌, ℕ, pos, ◌≡◌, ◌≤ℤ◌, ◌⊎◌, ◌≤◌, List, [], ◌∷◌, length, take, unsigned_abs, ◌<◌, All, IsBitSet, false}
use Rattle.std.specs.Prelude.{true, slice_get, Some}
use Rattle.std.specs.List.{AllByRecursion}
use Rattle.ta_base.specs.Masks.{has_bit, In}
use Rattle.ta_automaton.specs.Runs.{At, Config, Holds, InScope, Initial, Occurs, value_at}
use Rattle.ta_automaton.specs.Places.{location_place}
use Rattle.ta_automaton.specs.declared.condition.Comparison.{Comparison}
use Rattle.ta_automaton.specs.declared.pattern.Event.{Event}
use Rattle.ta_automaton.specs.declared.rule.Rule.{Rule}
use Rattle.ta_linear.specs.declared.row.Row.{Row}
use Rattle.ta_linear.specs.Values.{value_of}
use Rattle.ta_linear.specs.declared.form.Form.{Form}
use Rattle.ta_encode.specs.Unknowns.{start_meanings}
use Rattle.ta_moments.specs.Chains.{InSteps, firings_in, Comparable, Counts, NoneFewer, OneFiring, Stands, value_after}
use Rattle.ta_automaton.specs.declared.automaton.Automaton.{Automaton}
use Rattle.ta_automaton.specs.declared.file.File.{File}
use Rattle.ta_automaton.specs.declared.pattern.Pattern.{Pattern}
use Rattle.ta_encode.specs.Laws.{HasRun, start_values}
use Rattle.ta_moments.specs.Facts.{candidates, is_open, moving_rules, question_of}
use Rattle.ta_moments.specs.declared.fact.Fact.{Fact}
use Rattle.ta_moments.specs.Moments.{known, Vector, Moment, early, late, place_form, form_at, rows_at_start}
use Rattle.ta_moments.specs.Questions.{next_question}
use Rattle.ta_moments.specs.Scaled.{IsCone, scaled_value}
use Rattle.ta_moments.specs.Refutes.{Asking, Node, known_at, of_events, of_rest}
use Rattle.ta_moments.specs.Whole.{AreAnswers, AtMost, Settled, WholeNode, form_value}
use Rattle.ta_rest.specs.Endings.{IsEnding}
use Rattle.ta_rest.specs.Quiet.{QuietRestOccurs}
use Rattle.ta_rest.specs.Rest.{ComeAfterEarlier}

-- the counts that a vector has at natural values
abbrev pub counts_of : List ℕ → Vector → Counts
counts_of values v r = unsigned_abs (form_value values (v r))

-- a vector's forms of the moving rules are natural at natural values
abbrev pub IsNatural : Automaton → Pattern → List ℕ → Vector → Type 0
IsNatural a p values v = (r : ℕ) → In r (moving_rules a p) → pos 0 ≤ℤ form_value values (v r)

-- an initial configuration with the values' parameters and start counts, in which the start condition holds; at each vector places and
-- forms over places have the values that they have after the vector's counts
pub record BeginsAt (a : Automaton) (p : Pattern) (values : List ℕ) : Type 0 where
  pub first : Config
  pub begins : start_values a p first ≡ take (length (start_meanings a p)) values
  pub initial : Initial a first
  pub start : Holds p.start first
  pub stands : Stands a p first (λ r. 0) first
  pub places : (v : Vector) → IsNatural a p values v → (place : ℕ)
      → form_value values (place_form a p v place) ≡ value_after a p first (counts_of values v) place
  pub forms : (v : Vector) → IsNatural a p values v → (f : Form) → form_value values (form_at a p v f) ≡ value_of (value_after a p first (counts_of values v)) f

-- natural values that meet the rows at the start are such a configuration
abbrev pub StartsBecomeConfigurations : Type 0
StartsBecomeConfigurations =
    (a : Automaton) (p : Pattern) (values : List ℕ)
    → length (start_meanings a p) ≤ length values
    → AllByRecursion (λ row. pos 0 ≤ℤ form_value values row) (rows_at_start a p)
    → BeginsAt a p values

-- a moment's vectors are natural, and the early one is not after the late one
pub record IsMoment (a : Automaton) (p : Pattern) (values : List ℕ) (m : Moment) : Type 0 where
  pub early_natural : IsNatural a p values (early m)
  pub late_natural : IsNatural a p values (late m)
  pub in_order : AtMost a p values (early m) (late m)

-- the positions of a moment, as counts
abbrev pub positions_of : List ℕ → Moment → List Counts
positions_of values m = counts_of values (early m) ∷ counts_of values (late m) ∷ []

-- no position of the first moment stands inside the second
abbrev pub StandsApart : Automaton → Pattern → List ℕ → Moment → Moment → Type 0
StandsApart a p values m n =
    (u : Counts) → In u (positions_of values m)
    → NoneFewer (moving_rules a p) u (counts_of values (early n)) ⊎ NoneFewer (moving_rules a p) (counts_of values (late n)) u

-- of two settled moments neither has a position inside the other, and their positions are comparable
abbrev pub SettledMomentsStandApart : Type 0
SettledMomentsStandApart =
    (a : Automaton) (p : Pattern) (values : List ℕ) (m n : Moment) → IsMoment a p values m → IsMoment a p values n → Settled a p values m n
    → StandsApart a p values m n × StandsApart a p values n m
    × ((u w : Counts) → In u (positions_of values m) → In w (positions_of values n) → Comparable (moving_rules a p) u w)

-- a fall guard's last use by a rule, at a moment: one firing, before which the guard holds, and after which the rule does not fire
pub record LastStep (a : Automaton) (p : Pattern) (values : List ℕ) (moments : List Moment) (end : Vector) (r : ℕ) (row : Row) : Type 0 where
  pub moment : Moment
  pub among : In moment moments
  pub one : OneFiring a p (counts_of values (early moment)) (counts_of values (late moment))
  pub last : form_value values (end r) ≤ℤ form_value values (late moment r)
  pub holds : pos 0 ≤ℤ form_value values (form_at a p (early moment) row.form)

-- what the rows of a node and its settled moments say at natural values: the moments are natural, pairwise settled, not after the end, and
-- at most one step long; the counters at them are natural; each rise guard of a rule that fires holds at a moment before which the rule
-- does not fire, and each of its fall guards holds at the end or has a last use; each event has a moment, where its condition holds
pub record SettledMoments (a : Automaton) (p : Pattern) (values : List ℕ) (moments : List Moment) (end : Vector) (happens : ℕ → Moment) : Type 0 where
  pub each : (m : Moment) → In m moments → IsMoment a p values m
  pub end_natural : IsNatural a p values end
  pub within : (m : Moment) → In m moments → AtMost a p values (late m) end
  pub short : (m : Moment) → In m moments
      → firings_in (moving_rules a p) (counts_of values (late m)) ≤ firings_in (moving_rules a p) (counts_of values (early m)) + 1
  pub settled : (m n : Moment) → In m moments → In n moments → (m ≡ n) ⊎ Settled a p values m n
  pub counters : (m : Moment) → In m moments → (l : ℕ) → l < length a.locations → has_bit p.empty l ≡ false
      → (pos 0 ≤ℤ form_value values (place_form a p (early m) (location_place a l)))
      × (pos 0 ≤ℤ form_value values (place_form a p (late m) (location_place a l)))
  pub rise : (r : ℕ) (rule : Rule) → In r (moving_rules a p) → pos 1 ≤ℤ form_value values (end r) → slice_get a.rules r ≡ Some rule
      → (i : ℕ) (row : Row) → slice_get a.rise i ≡ Some row → IsBitSet rule.rise i
      → (m : Moment) × In m moments × (form_value values (early m r) ≡ pos 0) × (pos 0 ≤ℤ form_value values (form_at a p (early m) row.form))
  pub fall : (r : ℕ) (rule : Rule) → In r (moving_rules a p) → pos 1 ≤ℤ form_value values (end r) → slice_get a.rules r ≡ Some rule
      → (j : ℕ) (row : Row) → slice_get a.fall j ≡ Some row → IsBitSet rule.fall j
      → (pos 0 ≤ℤ form_value values (form_at a p end row.form)) ⊎ LastStep a p values moments end r row
  pub among : (e : ℕ) → e < length p.events → In (happens e) moments
  pub holds : (e : ℕ) (event : Event) → slice_get p.events e ≡ Some event
      → All (λ (k : Comparison). All (λ (row : Row). pos 0 ≤ℤ form_value values (form_at a p (early (happens e)) row.form)) k.rows) event.condition.comparisons
  pub in_order : (e f : ℕ) (event : Event) → slice_get p.events e ≡ Some event → f < length p.events → IsBitSet event.after f
      → AtMost a p values (early (happens f)) (early (happens e))

-- a run in which the pattern occurs, with the values' parameters and start counts; where an event happens, each place has the value of its
-- form at the event's vector; it has at most as many accelerated steps as moments times one more than rules
pub record RunOfMoments (a : Automaton) (p : Pattern) (values : List ℕ) (moments : List Moment) (happens : ℕ → Moment) : Type 0 where
  pub first : Config
  pub rules : List ℕ
  pub few : InSteps rules (length moments * (length a.rules + 1))
  pub begins : start_values a p first ≡ take (length (start_meanings a p)) values
  pub occurs : Occurs a p first rules
  pub values_there : (e k : ℕ) (c : Config) → e < length p.events → slice_get occurs.positions e ≡ Some k → At first occurs.later k c
      → (place : ℕ) → value_at c place ≡ form_value values (place_form a p (early (happens e)) place)

-- natural values that meet the rows at the start, with settled moments, are a run in which the pattern occurs
abbrev pub SettledMomentsBecomeRuns : Type 0
SettledMomentsBecomeRuns =
    (a : Automaton) (p : Pattern) → InScope a
    → (values : List ℕ) → length (start_meanings a p) ≤ length values
    → AllByRecursion (λ row. pos 0 ≤ℤ form_value values row) (rows_at_start a p)
    → (moments : List Moment) (end : Vector) (happens : ℕ → Moment) → SettledMoments a p values moments end happens
    → RunOfMoments a p values moments happens

-- natural values of a whole node are a run in which the pattern occurs, with the values' parameters and start counts
abbrev pub WholeNodesBecomeRuns : Type 0
WholeNodesBecomeRuns =
    (a : Automaton) (p : Pattern) → ComeAfterEarlier p → InScope a
    → (asking : Asking) (node : Node) (values : List ℕ) → WholeNode a p asking node values
    → HasRun a p values

-- the same for a pattern of a file
abbrev pub WholeNodesOfFilesBecomeRuns : Type 0
WholeNodesOfFilesBecomeRuns =
    (file : File) (n : ℕ) (p : Pattern) → slice_get file.patterns n ≡ Some p
    → InScope file.automaton
    → (asking : Asking) (node : Node) (values : List ℕ) → WholeNode file.automaton p asking node values
    → HasRun file.automaton p values

-- a vertex of a node's rows, as numbers over a common denominator, that leaves no question of guards or orders
pub record SettledVertex (a : Automaton) (p : Pattern) (candidate : Option ℕ) (past : List Fact) (scale : ℕ) (numbers : List ℕ) : Type 0 where
  pub candidate_is : In candidate (candidates p)
  pub answered : AreAnswers a p of_events candidate past
  pub some : 1 ≤ scale
  pub count : length numbers ≡ (known a p [] candidate past).unknowns
  pub met : AllByRecursion (λ f. pos 0 ≤ℤ scaled_value scale numbers f) (known a p [] candidate past).rows
  pub no_question : next_question a p of_events (record { candidate = candidate; past = past; bounds = [] })
      (Some (record { denominator = pos scale; numbers = map pos numbers })) ≡ None

-- if no condition has a positive constant and there is no fall guard, such a vertex times its denominator is a run, so no unknown is split
abbrev pub VerticesOfConesBecomeRuns : Type 0
VerticesOfConesBecomeRuns =
    (a : Automaton) (p : Pattern) → ComeAfterEarlier p → InScope a → IsCone a p
    → (candidate : Option ℕ) (past : List Fact) (scale : ℕ) (numbers : List ℕ) → SettledVertex a p candidate past scale numbers
    → HasRun a p numbers

-- each question is asked once
abbrev pub AskedOnce : List Fact → Type 0
AskedOnce [] = Unit {0}
AskedOnce (fact ∷ past) = (is_open past (question_of fact) ≡ true) × AskedOnce past

-- a run of at most this many accelerated steps
pub record HasShortRun (a : Automaton) (p : Pattern) (values : List ℕ) (most : ℕ) : Type 0 where
  pub run : HasRun a p values
  pub few : InSteps run.rules most

-- if each question was asked once, the run has at most (events + guards) * (rules + 1) accelerated steps
abbrev pub WholeNodesHaveShortRuns : Type 0
WholeNodesHaveShortRuns =
    (a : Automaton) (p : Pattern) → ComeAfterEarlier p → InScope a
    → (asking : Asking) (node : Node) (values : List ℕ) → WholeNode a p asking node values → AskedOnce node.past
    → HasShortRun a p values ((length p.events + (length a.rise + length a.fall)) * (length a.rules + 1))

-- a run that comes to quiet rest where the last event of a pattern happens, with the parameters and start counts of an assignment of the
-- pattern's ending, and at most this many accelerated steps
pub record HasQuietRun (a : Automaton) (p ending : Pattern) (silent : List ℕ) (values : List ℕ) (most : ℕ) : Type 0 where
  pub first : Config
  pub rules : List ℕ
  pub begins : start_values a ending first ≡ take (length (start_meanings a ending)) values
  pub occurs : QuietRestOccurs a silent p first rules
  pub few : InSteps rules most

-- at rest, natural values of a whole node of a pattern's ending are a run in which the pattern occurs and which comes to quiet rest where
-- the pattern's last event happens
abbrev pub WholeNodesComeToRest : Type 0
WholeNodesComeToRest =
    (a : Automaton) (p ending : Pattern) → IsEnding p ending → ComeAfterEarlier p → InScope a
    → (silent : List ℕ) (node : Node) (values : List ℕ) → WholeNode a ending (of_rest silent) node values
    → HasQuietRun a p ending silent values (length (known_at a ending (of_rest silent) node).moments * (length a.rules + 1))
