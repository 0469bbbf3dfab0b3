-- Whole nodes of the tree of questions: natural values of a node's unknowns that satisfy its rows and leave no question. A solution of a
-- node's rows need not be a run: a guard that a firing rule needs may not have been asked, or two moments may be incomparable. Where no
-- question is left, the moments are a chain, and each guard that is needed holds in time.
use Rattle.std.specs.Prelude.{ℕ, ℤ, pos, ◌+◌, ◌<◌, ◌≡◌, ◌⊎◌, ◌+ℤ◌, ◌*ℤ◌, ◌≤ℤ◌, ◌<ℤ◌, true, List, [], ◌∷◌, length, slice_get, Option, Some, None}
use Rattle.std.specs.List.{AllByRecursion, range_with_len}
use Rattle.ta_base.specs.Masks.{In}
use Rattle.ta_base.specs.Sums.{total}
use Rattle.ta_linear.specs.declared.row.Row.{Row}
use Rattle.ta_automaton.specs.Places.{location_place}
use Rattle.ta_automaton.specs.Runs.{number_at}
use Rattle.ta_automaton.specs.declared.automaton.Automaton.{Automaton}
use Rattle.ta_automaton.specs.declared.pattern.Pattern.{Pattern}
use Rattle.ta_automaton.specs.declared.rule.Rule.{Rule}
use Rattle.ta_moments.specs.Forms.{UnknownForm, number_form, plus_form, terms_form}
use Rattle.ta_moments.specs.Facts.{OfGuard, OfOrder, OfStuck, Fact, question_of, is_open, candidates, has_guard, moving_rules, needing, may_be_stuck}
use Rattle.ta_moments.specs.Moments.{Vector, Moment, Point, Pair, early, late, place_form, guards, loud_terms, end_vector, known}
use Rattle.ta_moments.specs.Questions.{natural_values, next_question}
use Rattle.ta_moments.specs.Refutes.{Asking, Node, Exists, answers, known_at, node_rows}

-- a form's value, where the unknowns have natural values
unfoldable pub form_value : List ℕ → UnknownForm → ℤ
form_value values f = f.constant +ℤ total (λ u. f.coefficient u *ℤ number_at values u) (range_with_len 0 (length values))

-- no moving rule fired more often before the first position than before the second
abbrev pub AtMost : Automaton → Pattern → List ℕ → Vector → Vector → Type 0
AtMost a p values v w = (r : ℕ) → In r (moving_rules a p) → form_value values (v r) ≤ℤ form_value values (w r)

-- both moments are the same step
abbrev pub SameStep : Automaton → Pattern → List ℕ → Moment → Moment → Type 0
SameStep a p values (Pair v w) (Pair x y) = AtMost a p values v x × AtMost a p values x v × AtMost a p values w y × AtMost a p values y w
SameStep a p values (Point v) y = ⊥
SameStep a p values (Pair v w) (Point y) = ⊥

-- one moment is not after the other, or both are the same step
abbrev pub Settled : Automaton → Pattern → List ℕ → Moment → Moment → Type 0
Settled a p values x y = AtMost a p values (late x) (early y) ⊎ (AtMost a p values (late y) (early x) ⊎ SameStep a p values x y)

-- a guard's form at a vector, without the terms of silent places
abbrev pub quiet_form : Automaton → Pattern → List ℕ → Vector → Row → UnknownForm
quiet_form a p silent v row = plus_form (number_form row.form.constant) (terms_form (place_form a p v) (loud_terms silent row.form.terms))

-- the end of a node's runs
abbrev pub end_of : Automaton → Pattern → Node → Vector
end_of a p node = end_vector a p node.candidate

-- no question is left at natural values: each guard that a firing rule needs was asked; each two moments were asked or are settled; at
-- rest, of each rule that might fire at the end it was asked what keeps it from firing
pub record NothingLeft (a : Automaton) (p : Pattern) (asking : Asking) (node : Node) (values : List ℕ) : Type 0 where
  pub guards_asked : (g : ℕ) → g < length a.rise + length a.fall → is_open node.past (OfGuard g) ≡ true
      → (r : ℕ) → In r (needing a p g) → form_value values (end_of a p node r) ≤ℤ pos 0
  pub orders_settled : (x y : ℕ) (m n : Moment) → x < y → slice_get (known_at a p asking node).moments x ≡ Some m
      → slice_get (known_at a p asking node).moments y ≡ Some n → is_open node.past (OfOrder x y) ≡ true → Settled a p values m n
  pub none_enabled : asking.rest ≡ true
      → (r : ℕ) (rule : Rule) → slice_get a.rules r ≡ Some rule → may_be_stuck p (Some rule) ≡ true → is_open node.past (OfStuck r) ≡ true
      → pos 0 <ℤ form_value values (place_form a p (end_of a p node) (location_place a rule.from))
      → ((g : ℕ) (row : Row) → slice_get (guards a) g ≡ Some row → has_guard a g (Some rule) ≡ true
      → pos 0 ≤ℤ form_value values (quiet_form a p asking.silent (end_of a p node) row))
      → ⊥

-- each fact answers a question that existed when it was asked; the newest fact is the first
abbrev pub AreAnswers : Automaton → Pattern → Asking → Option ℕ → List Fact → Type 0
AreAnswers a p asking candidate [] = Unit {0}
AreAnswers a p asking candidate (fact ∷ past) =
    Exists a p asking (known a p asking.silent candidate past) (question_of fact)
    × In fact (answers a (known a p asking.silent candidate past) (question_of fact))
    × AreAnswers a p asking candidate past

-- natural values are a run's: they meet the rows of a node of the tree of questions, and no question is left
pub record WholeNode (a : Automaton) (p : Pattern) (asking : Asking) (node : Node) (values : List ℕ) : Type 0 where
  pub candidate_is : In node.candidate (candidates p)
  pub answered : AreAnswers a p asking node.candidate node.past
  pub count : length values ≡ (known_at a p asking node).unknowns
  pub met : AllByRecursion (λ row. pos 0 ≤ℤ form_value values row) (node_rows a p asking node)
  pub nothing_left : NothingLeft a p asking node values

-- where no question is to be asked at natural values, none is left
abbrev pub NoQuestionLeavesNothing : Type 0
NoQuestionLeavesNothing =
    (a : Automaton) (p : Pattern) (asking : Asking) (node : Node) (values : List ℕ)
    → next_question a p asking node (natural_values values) ≡ None
    → NothingLeft a p asking node values
