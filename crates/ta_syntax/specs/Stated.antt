-- The offsets that a tree states for its tokens.
use Rattle.std.specs.Prelude.{ℕ, ◌≡◌, Bool, true, false, List, [], ◌∷◌, ◌++◌, Option, Some, None}
use Rattle.std.specs.List.{AllByRecursion}
use Rattle.ta_syntax.specs.Grammar.{listed, led, ended, each}
use Rattle.ta_syntax.specs.declared.tokens.Mark.{Mark}
use Rattle.ta_syntax.specs.declared.tokens.Mark.TheVariants as mark
use Rattle.ta_syntax.specs.declared.placed.Token.{Token}
use Rattle.ta_syntax.specs.declared.sums.Sign.{Sign}
use Rattle.ta_syntax.specs.declared.sums.Sign.TheVariants as sign
use Rattle.ta_syntax.specs.declared.names.Spelled.{Spelled}
use Rattle.ta_syntax.specs.declared.names.Digits.{Digits}
use Rattle.ta_syntax.specs.declared.sums.TreeSum.{TreeSum}
use Rattle.ta_syntax.specs.declared.sums.TreeTerm.{TreeTerm}
use Rattle.ta_syntax.specs.declared.sums.TreeFactor.{TreeFactor}
use Rattle.ta_syntax.specs.declared.sums.TreeFactor.TheOpen.{TreeFactor-F, TreeSum-F, TreeTerm-F, Named, Nested}
use Rattle.ta_syntax.specs.declared.sums.TreeFactor.TheFolds.{fold-TreeSum, fold-TreeTerm, fold-TreeFactor}
use Rattle.ta_syntax.specs.declared.tree.TreeComparison.{TreeComparison}
use Rattle.ta_syntax.specs.declared.tree.TreeLocation.{TreeLocation}
use Rattle.ta_syntax.specs.declared.tree.TreeUpdate.{TreeUpdate}
use Rattle.ta_syntax.specs.declared.tree.TreeRule.{TreeRule}
use Rattle.ta_syntax.specs.declared.tree.TreeEvent.{TreeEvent}
use Rattle.ta_syntax.specs.declared.tree.TreePattern.{TreePattern}
use Rattle.ta_syntax.specs.declared.tree.Tree.{Tree}

-- what is stated of one token
abbrev pub Offsets : Type 0
Offsets = List ℕ

-- nothing is stated of a sign or a keyword
abbrev pub unplaced : Mark → Offsets
unplaced m = []

-- one more offset for the first token
abbrev pub at_first : ℕ → List Offsets → List Offsets
at_first a [] = []
at_first a (x ∷ xs) = (a ∷ x) ∷ xs

-- what a sum makes of the terms after the first, each with its sign before it
abbrev pub more_of : {B : Type 0} → (Sign → B) → List (Sign × List B) → List B
more_of signed [] = []
more_of signed (t ∷ ts) = signed t.0 ∷ (t.1 ++ more_of signed ts)

-- the sign before the first term: none if it is plus
abbrev pub leading : {B : Type 0} → (Sign → B) → Sign → List B
leading signed sign.Plus = []
leading signed sign.Minus = signed sign.Minus ∷ []

-- what a sum makes of its signs and terms
abbrev pub signed_sum : {B : Type 0} → (Sign → B) → List (Sign × List B) → List B
signed_sum signed [] = []
signed_sum signed (t ∷ ts) = leading signed t.0 ++ (t.1 ++ more_of signed ts)

-- nothing is stated of a sign before a term
abbrev pub unplaced_sign : Sign → Offsets
unplaced_sign s = []

-- what is stated of a factor, given what is of its parts
abbrev pub factor_stated : TreeFactor-F (List Offsets) (List Offsets) (List Offsets) → List Offsets
factor_stated (Named n) = (n.at ∷ []) ∷ []
factor_stated (Nested s) = [] ∷ (s ++ [] ∷ [])

-- what is stated of a number and a factor
abbrev pub parts_stated : Option Digits → Option (List Offsets) → List Offsets
parts_stated (Some d) None = (d.at ∷ []) ∷ []
parts_stated (Some d) (Some f) = (d.at ∷ []) ∷ [] ∷ f
parts_stated None (Some f) = f
parts_stated None None = []

-- the offset of a term is that of its first token, which comes after its sign
abbrev pub term_layer_stated : TreeTerm-F (List Offsets) (List Offsets) (List Offsets) → List Offsets
term_layer_stated t = at_first t.at (parts_stated t.factor t.body)

-- what is stated of a sum, given what is of its terms
abbrev pub sum_layer_stated : TreeSum-F (List Offsets) (List Offsets) (List Offsets) → List Offsets
sum_layer_stated s = signed_sum unplaced_sign s.terms.items

-- the offsets that a sum states
abbrev pub sum_stated : TreeSum → List Offsets
sum_stated = fold-TreeSum (List Offsets) (List Offsets) (List Offsets) factor_stated sum_layer_stated term_layer_stated

-- the offsets that a term states
abbrev pub sum_term_stated : TreeTerm → List Offsets
sum_term_stated = fold-TreeTerm (List Offsets) (List Offsets) (List Offsets) factor_stated sum_layer_stated term_layer_stated

-- the offsets that a factor states
abbrev pub sum_factor_stated : TreeFactor → List Offsets
sum_factor_stated = fold-TreeFactor (List Offsets) (List Offsets) (List Offsets) factor_stated sum_layer_stated term_layer_stated

-- the offset of a name
abbrev pub name_stated : Spelled → List Offsets
name_stated n = (n.at ∷ []) ∷ []

-- nothing is stated of the word `initial`
abbrev pub initial_stated : Bool → List Offsets
initial_stated true = [] ∷ []
initial_stated false = []

-- the offset of a location's name
abbrev pub location_stated : TreeLocation → List Offsets
location_stated l = (l.name.at ∷ []) ∷ initial_stated l.initial

-- the offset of a comparison is that of its first token, a minus included
abbrev pub comparison_stated : TreeComparison → List Offsets
comparison_stated c = at_first c.at (sum_stated c.left ++ [] ∷ sum_stated c.right)

-- the offsets of the variable and of the amount
abbrev pub update_stated : TreeUpdate → List Offsets
update_stated u = (u.name.at ∷ []) ∷ [] ∷ (u.amount.at ∷ []) ∷ []

-- the offsets of the three names, of the guards and of the updates
abbrev pub rule_stated : TreeRule → List Offsets
rule_stated r =
    [] ∷ (r.name.at ∷ []) ∷ [] ∷ (r.from.at ∷ []) ∷ [] ∷ (r.to.at ∷ [])
    ∷ (led unplaced mark.When comparison_stated r.guards ++ (led unplaced mark.Do update_stated r.updates ++ [] ∷ []))

-- the offsets of the names and of the condition
abbrev pub event_stated : TreeEvent → List Offsets
event_stated e = [] ∷ (e.name.at ∷ []) ∷ (led unplaced mark.After name_stated e.after ++ [] ∷ (listed unplaced comparison_stated e.condition ++ [] ∷ []))

-- the offsets of the name, of the conditions and of the events
abbrev pub pattern_stated : TreePattern → List Offsets
pattern_stated p = [] ∷ (p.name.at ∷ []) ∷ [] ∷
    (ended unplaced mark.Start comparison_stated p.start ++ (ended unplaced mark.Empty name_stated p.empty ++ (each event_stated p.events ++ [] ∷ [])))

-- the offsets that a whole tree states: the keyword `locations`, the first token of the sum of `processes`, and those of all parts
abbrev pub tree_stated : Tree → List Offsets
tree_stated t =
    [] ∷ (t.name.at ∷ []) ∷ []
    ∷ [] ∷ (listed unplaced name_stated t.parameters ++ []
    ∷ [] ∷ (listed unplaced name_stated t.shared ++ []
    ∷ (t.locations_at ∷ []) ∷ (listed unplaced location_stated t.locations ++ []
    ∷ [] ∷ (at_first t.processes_at (sum_stated t.processes) ++ []
    ∷ [] ∷ (listed unplaced comparison_stated t.resilience ++ []
    ∷ (each rule_stated t.rules ++ each pattern_stated t.patterns))))))

-- each stated offset is that of its token
abbrev pub IsPlaced : List Offsets → List Token → Type 0
IsPlaced [] [] = Unit {0}
IsPlaced [] (t ∷ ts) = ⊥
IsPlaced (x ∷ xs) [] = ⊥
IsPlaced (x ∷ xs) (t ∷ ts) = AllByRecursion (λ a. a ≡ t.at) x × IsPlaced xs ts
