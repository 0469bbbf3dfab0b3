-- What a question at a node may be about: what the parts in the code stand for.
use Rattle.std.specs.Prelude.{[], ◌∷◌, map}
use Rattle.ta_moments.specs.Questions.{GuardAtEnd as KnownGuard, Parts, RuleAtEnd as KnownRule}
use Rattle.ta_moment_tree.specs.Forms.{all_forms, form_of, vector_of}
use Rattle.ta_moment_tree.specs.Moments.{moments_of}
use Rattle.ta_moment_tree.specs.declared.moment_parts.GuardAtEnd.{GuardAtEnd}
use Rattle.ta_moment_tree.specs.declared.moment_parts.NodeParts.{NodeParts}
use Rattle.ta_moment_tree.specs.declared.moment_parts.RuleAtEnd.{RuleAtEnd}

-- what a guard at the end says
abbrev pub guard_of : GuardAtEnd → KnownGuard
guard_of guard = record { number = guard.number; needing = guard.needing; rows = form_of guard.row ∷ [] }

-- what a rule at the end says
abbrev pub rule_of : RuleAtEnd → KnownRule
rule_of rule = record { number = rule.number; sources = form_of rule.source ∷ []; rows = all_forms rule.rows }

-- what parts say
abbrev pub parts_of : NodeParts → Parts
parts_of parts = record {
  moving = parts.moving.now;
  end = vector_of parts.end.now;
  guards = map guard_of parts.guards;
  moments = moments_of parts.moments.now;
  rules = map rule_of parts.rules;
}
