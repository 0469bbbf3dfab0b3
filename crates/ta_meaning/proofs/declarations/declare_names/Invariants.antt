use Rattle.ta_meaning.proofs.Common.{drop}
use Rattle.ta_meaning.proofs.DeclaredSteps.{DeclaredTo}
use Rattle.ta_meaning.proofs.declarations.declare_names.Given as goal

-- the names before are declared, and the rest is left
abbrev pub invariant-loop-name : goal.invariant-loop-name
invariant-loop-name l = DeclaredTo l.initial.names l.spelled l.names (drop l.name-index l.spelled)
