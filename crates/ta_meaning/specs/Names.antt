-- The names of an automaton file's places.
use Rattle.std.specs.Prelude.{ℕ, List, ◌++◌, map}
use Rattle.ta_syntax.specs.Grammar.{PlainLocation, PlainTree}
use Rattle.ta_syntax.specs.PlainTrees.{plain_tree}
use Rattle.ta_syntax.specs.declared.tree.Tree.{Tree}

-- the names of the places, by their kinds
pub record Names : Type 0 where
  pub parameters : List (List ℕ)
  pub shared : List (List ℕ)
  pub locations : List (List ℕ)

-- the names of the places that a guard may speak of: parameters, then shared variables
abbrev pub guard_names : Names → List (List ℕ)
guard_names ns = ns.parameters ++ ns.shared

-- the names of all places, in order: parameters, shared variables, locations
abbrev pub all_names : Names → List (List ℕ)
all_names ns = ns.parameters ++ ns.shared ++ ns.locations

abbrev pub location_name : PlainLocation → List ℕ
location_name l = l.name

abbrev pub plain_names : PlainTree → Names
plain_names t = record { parameters = t.parameters; shared = t.shared; locations = map location_name t.locations }

abbrev pub names_of : Tree → Names
names_of t = plain_names (plain_tree t)
