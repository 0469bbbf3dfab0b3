-- Nodes whose vertices give integer values: if no row has a positive constant, a rational solution times its common denominator is a
-- solution in natural numbers.
use Rattle.std.specs.Prelude.{ℕ, ℤ, pos, ◌≡◌, ◌+ℤ◌, ◌*ℤ◌, ◌≤ℤ◌, ◌≤◌, ◌↔◌, All, List, [], length, map, slice_get, None, Option, Some}
use Rattle.std.specs.List.{AllByRecursion, range_with_len}
use Rattle.ta_base.specs.Sums.{total}
use Rattle.ta_linear.specs.Values.{Solves}
use Rattle.ta_linear.specs.declared.row.Row.{Row}
use Rattle.ta_linear.specs.declared.row.System.{System}
use Rattle.ta_automaton.specs.Runs.{number_at}
use Rattle.ta_automaton.specs.declared.automaton.Automaton.{Automaton}
use Rattle.ta_automaton.specs.declared.condition.Comparison.{Comparison}
use Rattle.ta_automaton.specs.declared.condition.Condition.{Condition}
use Rattle.ta_automaton.specs.declared.pattern.Event.{Event}
use Rattle.ta_automaton.specs.declared.pattern.Pattern.{Pattern}
use Rattle.ta_moments.specs.Code.{NodeSystem}
use Rattle.ta_moments.specs.Facts.{Fact}
use Rattle.ta_moments.specs.Forms.{UnknownForm}
use Rattle.ta_moments.specs.Moments.{known}
use Rattle.ta_moments.specs.Questions.{next_question}
use Rattle.ta_moments.specs.Refutes.{Asking, Node, known_at, node_rows, of_events}
use Rattle.ta_moments.specs.Whole.{AreAnswers, NothingLeft, form_value}

-- no row of a condition has a positive constant
abbrev pub NonePositive : Condition → Type 0
NonePositive condition = All (λ (k : Comparison). All (λ (row : Row). row.form.constant ≤ℤ pos 0) k.rows) condition.comparisons

-- no fall guard, and no positive constant in the resilience condition, the start condition, the events and the rise guards; the number of
-- processes has no constant
pub record IsCone (a : Automaton) (p : Pattern) : Type 0 where
  pub no_fall : a.fall ≡ []
  pub processes : a.processes.constant ≡ pos 0
  pub resilience : NonePositive a.resilience
  pub start : NonePositive p.start
  pub events : (e : ℕ) (event : Event) → slice_get p.events e ≡ Some event → NonePositive event.condition
  pub rise : (i : ℕ) (row : Row) → slice_get a.rise i ≡ Some row → row.form.constant ≤ℤ pos 0

-- then no row of a node without bounds has a positive constant, if only guards and orders are asked about
abbrev pub ConesHaveNoPositiveConstants : Type 0
ConesHaveNoPositiveConstants =
    (a : Automaton) (p : Pattern) → IsCone a p
    → (candidate : Option ℕ) (past : List Fact) → AreAnswers a p of_events candidate past
    → AllByRecursion (λ (f : UnknownForm). f.constant ≤ℤ pos 0) (known a p [] candidate past).rows

-- a form's value times a scale, where the unknowns' values times the scale are these numbers
abbrev pub scaled_value : ℕ → List ℕ → UnknownForm → ℤ
scaled_value scale numbers f = (f.constant *ℤ pos scale) +ℤ total (λ u. f.coefficient u *ℤ number_at numbers u) (range_with_len 0 (length numbers))

-- so values that meet the rows of such a node still meet them after multiplication by a scale that makes them integers
abbrev pub ScaledValuesMeetCones : Type 0
ScaledValuesMeetCones =
    (a : Automaton) (p : Pattern) → IsCone a p
    → (candidate : Option ℕ) (past : List Fact) → AreAnswers a p of_events candidate past
    → (scale : ℕ) (numbers : List ℕ) → 1 ≤ scale
    → AllByRecursion (λ f. pos 0 ≤ℤ scaled_value scale numbers f) (known a p [] candidate past).rows
    → AllByRecursion (λ f. pos 0 ≤ℤ form_value numbers f) (known a p [] candidate past).rows

-- and if no question is to be asked at a vertex of such a node, none is left at the vertex times its denominator
abbrev pub ScaledQuestionsLeaveNothing : Type 0
ScaledQuestionsLeaveNothing =
    (a : Automaton) (p : Pattern) → IsCone a p
    → (candidate : Option ℕ) (past : List Fact) → AreAnswers a p of_events candidate past
    → (scale : ℕ) (numbers : List ℕ)
    → next_question a p of_events (record { candidate = candidate; past = past; bounds = [] })
    (Some (record { denominator = pos scale; numbers = map pos numbers })) ≡ None
    → NothingLeft a p of_events (record { candidate = candidate; past = past; bounds = [] }) numbers

-- the code's system of such a node has no positive constant either
abbrev pub SystemsOfConesHaveNoPositiveConstants : Type 0
SystemsOfConesHaveNoPositiveConstants =
    (a : Automaton) (p : Pattern) → IsCone a p
    → (candidate : Option ℕ) (past : List Fact) → AreAnswers a p of_events candidate past
    → (system : System) → NodeSystem a p of_events (record { candidate = candidate; past = past; bounds = [] }) system
    → All (λ (row : Row). row.form.constant ≤ℤ pos 0) system.rows

-- numbers solve the system of a node exactly if there are as many as the node's unknowns, and they meet its rows
abbrev pub SolutionsMeetNodes : Type 0
SolutionsMeetNodes =
    (a : Automaton) (p : Pattern) (asking : Asking) (node : Node) (system : System) → NodeSystem a p asking node system → (values : List ℕ)
    → Solves system values ↔ ((length values ≡ (known_at a p asking node).unknowns)
    × AllByRecursion (λ row. pos 0 ≤ℤ form_value values row) (node_rows a p asking node))
