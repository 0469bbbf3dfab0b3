-- Rules while they are read, one after another.
use Rattle.ta_base.specs.declared.limits.Limits.{Limits}
use Rattle.std.specs.Prelude.{ℕ, ◌≡◌, List, ◌∷◌, [], ◌++◌, length}
use Rattle.std.specs.List.{AllByRecursion}
use Rattle.ta_syntax.specs.Grammar.{PlainRule}
use Rattle.ta_syntax.specs.PlainTrees.{plain_rule}
use Rattle.ta_syntax.specs.declared.tree.TreeRule.{TreeRule}
use Rattle.ta_automaton.specs.Shape.{RuleWithin}
use Rattle.ta_automaton.specs.declared.rule.Rule.{Rule}
use Rattle.ta_meaning.specs.Names.{Names, guard_names}
use Rattle.ta_meaning.specs.Guards.{with_guards, rows_of}
use Rattle.ta_meaning.specs.Meaning.{MeansRule}
use Rattle.ta_meaning.specs.Inside.Numbering.{guards_so_far, GuardsKept, AmongGuards}
use Rattle.ta_meaning.specs.declared.guards.GuardList.{GuardList}
use Rattle.ta_meaning.specs.declared.rules.RuleParts.{RuleParts}

-- a rule that is meant, each row of whose guards is among the guards so far
pub record RuleSoFar (ns : Names) (guards : GuardList) (r : PlainRule) (rule : Rule) : Type 0 where
  pub means : MeansRule ns (guards_so_far ns guards) r rule
  pub among : AllByRecursion (AmongGuards (length ns.parameters) (guards_so_far ns guards)) (rows_of (guard_names ns) r.guards)
  pub within : RuleWithin (length ns.shared) (length ns.locations) (length guards.rise.items) (length guards.fall.items) rule

-- one more rule: its name is declared, and its guards are among those afterwards
pub record RuleRead (l : Limits) (ns : Names) (names : List (List ℕ)) (before : GuardList) (r : TreeRule) (names_after : List (List ℕ)) (after : GuardList)
    (rule : Rule) :
    Type 0 where
  pub declared : names_after ≡ names ++ r.name.name ∷ []
  pub kept : GuardsKept l ns after
  pub guards : guards_so_far ns after ≡ with_guards (length ns.parameters) (guards_so_far ns before) (rows_of (guard_names ns) (plain_rule r).guards)
  pub so_far : RuleSoFar ns after (plain_rule r) rule

-- the rule with the name of a tree's rule and these parts
abbrev pub rule_of : TreeRule → RuleParts → Rule
rule_of r parts = record {
  name = r.name.name;
  from = parts.from;
  to = parts.to;
  rise = parts.masks.rise;
  fall = parts.masks.fall;
  updates = parts.updates;
}
