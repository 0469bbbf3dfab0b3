-- What the types of a rule, an automaton and a file keep: what they refer to exists, and lists are within their limits.
use Rattle.std.specs.Prelude.{ℕ, ℤ, pos, ◌<◌, ◌≤◌, ◌^◌, ◌≤ℤ◌, ◌++◌, List, length, map}
use Rattle.std.proofs.Props.{props}
use Rattle.std.specs.List.{AllByRecursion, AllByRecursion-prop}
use Rattle.ta_base.specs.declared.limits.TheConstants.{LARGEST_NUMBER}
use Rattle.ta_linear.specs.declared.form.Form.{Form}
use Rattle.ta_linear.specs.declared.row.Row.{Row}
use Rattle.ta_automaton.specs.declared.condition.Condition.{Condition}
use Rattle.ta_automaton.specs.declared.rule.Rule.{Rule}
use Rattle.ta_base.specs.Lists.{Distinct, Distinct-prop, Rises, Rises-prop}
use Rattle.ta_automaton.specs.Names.{Name, Name-prop}
use Rattle.ta_automaton.specs.Forms.{FormOver, FormOver-prop, ConditionOver, ConditionOver-prop, RiseRow, RiseRow-prop, FallRow, FallRow-prop}

-- an update of an existing shared variable, by 1 to 1,000,000,000
pub record Update (shared : ℕ) (update : ℕ × ℤ) : Type 0 where
  pub exists : update.0 < shared
  pub least : pos 1 ≤ℤ update.1
  pub most : update.1 ≤ℤ pos LARGEST_NUMBER

Update-prop : (shared : ℕ) (update : ℕ × ℤ) → IsProp (Update shared update)
Update-prop shared update = hlevel props

-- the shared variable of an update
abbrev pub variable_of : (ℕ × ℤ) → ℕ
variable_of update = update.0

-- a rule between existing locations, whose masks name existing guards and whose updates are of distinct variables
pub record RuleWithin (shared locations rise fall : ℕ) (rule : Rule) : Type 0 where
  pub name : Name rule.name
  pub from : rule.from < locations
  pub to : rule.to < locations
  pub rise_mask : rule.rise < 2 ^ rise
  pub fall_mask : rule.fall < 2 ^ fall
  pub updates_limit : length rule.updates ≤ 16
  pub updates : AllByRecursion (Update shared) rule.updates
  pub variables_distinct : Distinct (map variable_of rule.updates)

RuleWithin-prop : (shared locations rise fall : ℕ) (rule : Rule) → IsProp (RuleWithin shared locations rise fall rule)
RuleWithin-prop shared locations rise fall rule =
    hlevel (props, Name-prop rule.name, AllByRecursion-prop (Update shared) (Update-prop shared) rule.updates, Distinct-prop (map variable_of rule.updates))

-- the name of a rule
abbrev pub name_of : Rule → List ℕ
name_of rule = rule.name

-- the limits of the lists
pub record WithinLimits (parameters shared locations : List (List ℕ)) (rise fall : List Row) (rules : List Rule) : Type 0 where
  pub parameters_limit : length parameters ≤ 32
  pub shared_limit : length shared ≤ 64
  pub locations_limit : length locations ≤ 128
  pub rise_limit : length rise ≤ 64
  pub fall_limit : length fall ≤ 16
  pub rules_limit : length rules ≤ 1024

-- an automaton of an automaton file
pub record AutomatonShape (name : List ℕ) (parameters shared locations : List (List ℕ)) (initial : List ℕ) (processes : Form) (resilience : Condition)
    (rise fall : List Row) (rules : List Rule) : Type 0 where
  pub limits : WithinLimits parameters shared locations rise fall rules
  pub name_legal : Name name
  pub names_legal : AllByRecursion Name (parameters ++ shared ++ locations)
  pub names_distinct : Distinct (parameters ++ shared ++ locations)
  pub some_initial : 1 ≤ length initial
  pub initial_rises : Rises 0 (length locations) initial
  pub processes_over : FormOver (length parameters) processes
  pub resilience_over : ConditionOver (length parameters) resilience
  pub rise_rows : AllByRecursion (RiseRow (length parameters) (length shared)) rise
  pub rise_distinct : Distinct rise
  pub fall_rows : AllByRecursion (FallRow (length parameters) (length shared)) fall
  pub fall_distinct : Distinct fall
  pub rules_within : AllByRecursion (RuleWithin (length shared) (length locations) (length rise) (length fall)) rules
  pub rules_distinct : Distinct (map name_of rules)

pub AutomatonShape-prop : (name : List ℕ) (parameters shared locations : List (List ℕ)) (initial : List ℕ) (processes : Form) (resilience : Condition)
    (rise fall : List Row) (rules : List Rule) → IsProp (AutomatonShape name parameters shared locations initial processes resilience rise fall rules)
AutomatonShape-prop name parameters shared locations initial processes resilience rise fall rules =
    hlevel (
      props,
      Name-prop name,
      AllByRecursion-prop Name Name-prop (parameters ++ shared ++ locations),
      Distinct-prop (parameters ++ shared ++ locations),
      Rises-prop 0 (length locations) initial,
      FormOver-prop (length parameters) processes,
      ConditionOver-prop (length parameters) resilience,
      AllByRecursion-prop (RiseRow (length parameters) (length shared)) (RiseRow-prop (length parameters) (length shared)) rise,
      Distinct-prop rise,
      AllByRecursion-prop (FallRow (length parameters) (length shared)) (FallRow-prop (length parameters) (length shared)) fall,
      Distinct-prop fall,
      AllByRecursion-prop (RuleWithin (length shared) (length locations) (length rise) (length fall))
          (RuleWithin-prop (length shared) (length locations) (length rise) (length fall)) rules,
      Distinct-prop (map name_of rules),
    )
