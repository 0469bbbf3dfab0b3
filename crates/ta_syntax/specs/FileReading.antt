-- What the readers of a file and of its head answer.
use Rattle.std.specs.Prelude.{ℕ, ◌≡◌, ◌≤◌, ◌⊎◌, List, [], ◌∷◌, ◌++◌, Ok, length}
use Rattle.ta_base.specs.declared.limits.Limits.{Limits}
use Rattle.ta_syntax.specs.Grammar.{file_kinds, sum_kinds, listed, each, IsSum}
use Rattle.ta_syntax.specs.Limits.{at_start, StaysWithin}
use Rattle.ta_syntax.specs.PlainSums.{plain_sum, sum_depth}
use Rattle.ta_syntax.specs.PlainTrees.{plain_tree}
use Rattle.ta_syntax.specs.Inside.RuleBodies.{spell_name, spell_location, spell_comparison, rule_body, rule_body_stated, pattern_body, pattern_body_stated}
use Rattle.ta_syntax.specs.Stated.{Offsets, IsPlaced, at_first, unplaced, sum_stated, name_stated, location_stated, comparison_stated, tree_stated}
use Rattle.ta_syntax.specs.Faults.{kinds}
use Rattle.ta_syntax.specs.FileGrammar as grammar
use Rattle.ta_syntax.specs.Productions.{Production, both, parse}
use Rattle.ta_syntax.specs.Reading.{Halts, Step, Took, with_mark}
use Rattle.ta_syntax.specs.declared.tokens.Kind.{Kind}
use Rattle.ta_syntax.specs.declared.tokens.Kind.TheVariants as kind
use Rattle.ta_syntax.specs.declared.tokens.Mark.TheVariants as mark
use Rattle.ta_syntax.specs.declared.placed.Token.{Token}
use Rattle.ta_syntax.specs.declared.sums.TreeSum.{TreeSum}
use Rattle.ta_syntax.specs.declared.tree.TreeLocation.{TreeLocation}
use Rattle.ta_syntax.specs.declared.tree.Tree.{Tree}
use Rattle.ta_syntax.specs.declared.file.Body.{Body}
use Rattle.ta_syntax.specs.declared.file.Head.{Head}
use Rattle.ta_syntax.specs.declared.file.Names.{Names}
use Rattle.ta_syntax.specs.declared.file.Places.{Places}
use Rattle.ta_syntax.specs.declared.fault.FileFault.{FileFault}
use Rattle.ta_syntax.specs.declared.fault.FileFault.TheVariants as fault

-- the tokens of the locations' clause, and their offsets
abbrev pub locations_kinds : List TreeLocation → List Kind
locations_kinds ls = kind.Fixed mark.Locations ∷ (listed kind.Fixed spell_location ls ++ kind.Fixed mark.Semicolon ∷ [])

abbrev pub locations_stated : ℕ → List TreeLocation → List Offsets
locations_stated at ls = (at ∷ []) ∷ (listed unplaced location_stated ls ++ [] ∷ [])

-- the tokens of the number of processes, and their offsets
abbrev pub processes_kinds : TreeSum → List Kind
processes_kinds s = kind.Fixed mark.Processes ∷ (sum_kinds (plain_sum s) ++ kind.Fixed mark.Semicolon ∷ [])

abbrev pub processes_stated : ℕ → TreeSum → List Offsets
processes_stated at s = [] ∷ (at_first at (sum_stated s) ++ [] ∷ [])

-- the number of processes was read
pub record TookProcesses (at : ℕ) (s : TreeSum) (tokens rest : List Token) : Type 0 where
  pub is : IsSum (plain_sum s)
  pub shallow : sum_depth (plain_sum s) ≤ 32
  pub took : Took grammar.processes (processes_kinds s) (processes_stated at s) tokens rest

-- the part of the head behind the names: the locations and the number of processes
abbrev pub places : Limits → Production
places l = both (grammar.locations l) grammar.processes

-- the tokens of the names with which a file begins, and their offsets
abbrev pub names_kinds : Names → List Kind
names_kinds n =
    kind.Fixed mark.Automaton ∷ kind.Name n.name.name ∷ kind.Fixed mark.Semicolon
    ∷ ((kind.Fixed mark.Parameters ∷ (listed kind.Fixed spell_name n.parameters ++ kind.Fixed mark.Semicolon ∷ []))
    ++ (kind.Fixed mark.Shared ∷ (listed kind.Fixed spell_name n.shared ++ kind.Fixed mark.Semicolon ∷ [])))

abbrev pub names_stated : Names → List Offsets
names_stated n =
    [] ∷ (n.name.at ∷ []) ∷ [] ∷ (([] ∷ (listed unplaced name_stated n.parameters ++ [] ∷ [])) ++ ([] ∷ (listed unplaced name_stated n.shared ++ [] ∷ [])))

-- the names were read, and to parse the head is to parse the rest of it on what is left
pub record TookNames (l : Limits) (n : Names) (tokens rest : List Token) : Type 0 where
  pub parameters : length n.parameters ≤ l.parameters
  pub shared : length n.shared ≤ l.shared
  pub took : Step (grammar.head l) tokens rest (places l) (names_kinds n) (names_stated n)

-- the tokens of the locations and of the number of processes, and their offsets
abbrev pub places_kinds : Places → List Kind
places_kinds p = locations_kinds p.locations ++ processes_kinds p.processes

abbrev pub places_stated : Places → List Offsets
places_stated p = locations_stated p.locations_at p.locations ++ processes_stated p.processes_at p.processes

-- the locations and the number of processes were read
pub record TookPlaces (l : Limits) (p : Places) (tokens rest : List Token) : Type 0 where
  pub some : 1 ≤ length p.locations
  pub locations : length p.locations ≤ l.locations
  pub is : IsSum (plain_sum p.processes)
  pub shallow : sum_depth (plain_sum p.processes) ≤ 32
  pub took : Took (places l) (places_kinds p) (places_stated p) tokens rest

-- the head of a file was read
pub record TookHead (l : Limits) (h : Head) (tokens rest : List Token) : Type 0 where
  pub parameters : length h.names.parameters ≤ l.parameters
  pub shared : length h.names.shared ≤ l.shared
  pub some : 1 ≤ length h.places.locations
  pub locations : length h.places.locations ≤ l.locations
  pub is : IsSum (plain_sum h.places.processes)
  pub shallow : sum_depth (plain_sum h.places.processes) ≤ 32
  pub took : Took (grammar.head l) (names_kinds h.names ++ places_kinds h.places) (names_stated h.names ++ places_stated h.places) tokens rest

-- a file behind its head
abbrev pub body : Limits → Production
body l = both (grammar.declared_list mark.Resilience 16 grammar.comparison)
    (both (grammar.blocks l.rules mark.Rule grammar.rule) (grammar.blocks l.patterns mark.Pattern (grammar.pattern l)))

-- its tokens, and their offsets
abbrev pub body_kinds : Body → List Kind
body_kinds b = (kind.Fixed mark.Resilience ∷ (listed kind.Fixed spell_comparison b.resilience ++ kind.Fixed mark.Semicolon ∷ []))
    ++ (each (with_mark (kind.Fixed mark.Rule) rule_body) b.rules ++ each (with_mark (kind.Fixed mark.Pattern) pattern_body) b.patterns)

abbrev pub body_stated : Body → List Offsets
body_stated b = ([] ∷ (listed unplaced comparison_stated b.resilience ++ [] ∷ []))
    ++ (each (with_mark [] rule_body_stated) b.rules ++ each (with_mark [] pattern_body_stated) b.patterns)

-- a file was read behind its head, and no token is left
pub record TookBody (l : Limits) (b : Body) (tokens : List Token) : Type 0 where
  pub resilience : length b.resilience ≤ 16
  pub rules : length b.rules ≤ l.rules
  pub patterns : length b.patterns ≤ l.patterns
  pub took : Took (body l) (body_kinds b) (body_stated b) tokens []

-- the parser stops behind the head with this fault, or a token is left, and the fault is at that token
abbrev pub IsBodyFault : Limits → ℕ → List Token → FileFault → Type 0
IsBodyFault l end tokens e = Halts (body l) end tokens e
    ⊎ ((t : Token) × (bad : List Token) × (parse (body l) tokens ≡ Ok (t ∷ bad)) × (e ≡ fault.Syntax t.at))

-- the tokens are those of the tree, at the offsets that it states, and stay within the limits
pub record IsSpelled (l : Limits) (t : Tree) (tokens : List Token) : Type 0 where
  pub spelled : kinds tokens ≡ file_kinds (plain_tree t)
  pub placed : IsPlaced (tree_stated t) tokens
  pub within : StaysWithin l at_start (kinds tokens)
