-- What the parts of the resolver answer: values that mean their part of the tree and keep the limits of a file.
use Rattle.ta_base.specs.declared.limits.Limits.{Limits}
use Rattle.std.specs.Prelude.{ℕ, ◌+◌, ◌≤◌, List, length, take, drop, map}
use Rattle.std.specs.List.{AllByRecursion}
use Rattle.ta_linear.specs.declared.form.Form.{Form}
use Rattle.ta_linear.specs.declared.row.Row.{Row}
use Rattle.ta_syntax.specs.Grammar.{Terms, PlainComparison, PlainRule, PlainPattern}
use Rattle.ta_automaton.specs.declared.condition.Comparison.{Comparison}
use Rattle.ta_automaton.specs.declared.condition.Condition.{Condition}
use Rattle.ta_automaton.specs.declared.rule.Rule.{Rule}
use Rattle.ta_automaton.specs.declared.pattern.Pattern.{Pattern}
use Rattle.ta_base.specs.Lists.{Distinct, Pairwise}
use Rattle.ta_automaton.specs.Forms.{FormOver, RowOver, ConditionOver, RiseRow, FallRow}
use Rattle.ta_automaton.specs.Shape.{RuleWithin, name_of}
use Rattle.ta_automaton.specs.Patterns.{PatternsShape}
use Rattle.ta_meaning.specs.Names.{Names, all_names}
use Rattle.ta_meaning.specs.Linear.{RowOf, MeansForm, MeansComparison, MeansCondition}
use Rattle.ta_meaning.specs.Guards.{Guards}
use Rattle.ta_meaning.specs.Meaning.{MeansRule, MeansPattern, guards_of}
use Rattle.ta_meaning.specs.Faults.{Scope}
use Rattle.ta_meaning.specs.declared.places.Places.{Places}

-- the names of places by their kinds
abbrev pub kinds_of : Places → Names
kinds_of places = record {
  parameters = take places.parameters places.names;
  shared = take places.shared (drop places.parameters places.names);
  locations = drop (places.parameters + places.shared) places.names;
}

-- where the first places may occur
abbrev pub first_places : List (List ℕ) → ℕ → Scope
first_places names allowed = record { places = names; allowed = take allowed names }

-- a form that a sum over some names means
pub record ResolvedForm (names : List (List ℕ)) (sum : Terms) (form : Form) : Type 0 where
  pub means : MeansForm names sum form
  pub over : FormOver (length names) form

-- the rows that a comparison over some names means
pub record ResolvedComparison (names : List (List ℕ)) (c : PlainComparison) (comparison : Comparison) : Type 0 where
  pub means : MeansComparison names c comparison
  pub over : AllByRecursion (RowOver (length names)) comparison.rows

-- a condition that comparisons over some names mean
pub record ResolvedCondition (names : List (List ℕ)) (cs : List PlainComparison) (condition : Condition) : Type 0 where
  pub means : MeansCondition names cs condition
  pub over : ConditionOver (length names) condition

-- the rows of guards, which are threshold guards and distinct
pub record ResolvedGuards (l : Limits) (ns : Names) (guards : Guards) (rise fall : List Row) : Type 0 where
  pub rise_of : Pairwise RowOf guards.rise rise
  pub fall_of : Pairwise RowOf guards.fall fall
  pub rise_limit : length rise ≤ l.rises
  pub fall_limit : length fall ≤ l.falls
  pub rise_rows : AllByRecursion (RiseRow (length ns.parameters) (length ns.shared)) rise
  pub fall_rows : AllByRecursion (FallRow (length ns.parameters) (length ns.shared)) fall
  pub rise_distinct : Distinct rise
  pub fall_distinct : Distinct fall

-- rules with their guards
pub record ResolvedRules (l : Limits) (ns : Names) (plain : List PlainRule) (rise fall : List Row) (rules : List Rule) : Type 0 where
  pub guards : ResolvedGuards l ns (guards_of ns plain) rise fall
  pub means : Pairwise (MeansRule ns (guards_of ns plain)) plain rules
  pub within : AllByRecursion (RuleWithin (length ns.shared) (length ns.locations) (length rise) (length fall)) rules
  pub distinct : Distinct (map name_of rules)

-- patterns
pub record ResolvedPatterns (ns : Names) (plain : List PlainPattern) (patterns : List Pattern) : Type 0 where
  pub means : Pairwise (MeansPattern ns) plain patterns
  pub shape : PatternsShape (length (all_names ns)) (length ns.locations) patterns
