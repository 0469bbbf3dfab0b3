-- The grammar of automaton files: trees without offsets, and the tokens of each tree, by one equation for each production.
use Rattle.std.specs.Prelude.{ℕ, ◌≡◌, Bool, true, false, List, [], ◌∷◌, ◌++◌}
use Rattle.std.specs.List.{AllByRecursion}
use Rattle.ta_syntax.specs.Kinds.{IsNameText, IsDigits}
use Rattle.ta_syntax.specs.declared.tokens.Kind.{Kind}
use Rattle.ta_syntax.specs.declared.tokens.Kind.TheVariants as kind
use Rattle.ta_syntax.specs.declared.tokens.Mark.{Mark}
use Rattle.ta_syntax.specs.declared.tokens.Mark.TheVariants as mark
use Rattle.ta_syntax.specs.declared.tokens.Relation.{Relation}
use Rattle.ta_syntax.specs.declared.tokens.Relation.TheVariants as relation
use Rattle.ta_syntax.specs.declared.sums.Sign.{Sign}
use Rattle.ta_syntax.specs.declared.sums.Sign.TheVariants as sign

-- sums, terms and factors
mutual
  -- terms, each with its sign
  pub data Terms : Type 0 where
    done : Terms
    term : Sign → Term → Terms → Terms

  -- a number, a number times a factor, or a factor; a blank is no term of the grammar
  pub data Term : Type 0 where
    number : List ℕ → Term
    times : List ℕ → Factor → Term
    alone : Factor → Term
    blank : Term

  -- a name, or a sum in parentheses
  pub data Factor : Type 0 where
    named : List ℕ → Factor
    nested : Terms → Factor

-- two sums and the sign between them
pub record PlainComparison : Type 0 where
  pub left : Terms
  pub relation : Relation
  pub right : Terms

-- a location, and whether it is marked as initial
pub record PlainLocation : Type 0 where
  pub name : List ℕ
  pub initial : Bool

-- a shared variable and the digits of what is added to it
pub record PlainUpdate : Type 0 where
  pub name : List ℕ
  pub amount : List ℕ

-- a rule: its name, its two locations, its guards and its updates
pub record PlainRule : Type 0 where
  pub name : List ℕ
  pub from : List ℕ
  pub to : List ℕ
  pub guards : List PlainComparison
  pub updates : List PlainUpdate

-- an event: its name, the events that it comes after, and its condition
pub record PlainEvent : Type 0 where
  pub name : List ℕ
  pub after : List (List ℕ)
  pub condition : List PlainComparison

-- a pattern: its name, its start condition, the locations that stay empty, and its events
pub record PlainPattern : Type 0 where
  pub name : List ℕ
  pub start : List PlainComparison
  pub empty : List (List ℕ)
  pub events : List PlainEvent

-- an automaton file; an absent part is an empty list
pub record PlainTree : Type 0 where
  pub name : List ℕ
  pub parameters : List (List ℕ)
  pub shared : List (List ℕ)
  pub locations : List PlainLocation
  pub processes : Terms
  pub resilience : List PlainComparison
  pub rules : List PlainRule
  pub patterns : List PlainPattern

-- the sign before a term
abbrev pub sign_kind : Sign → Kind
sign_kind sign.Plus = kind.Fixed mark.Plus
sign_kind sign.Minus = kind.Fixed mark.Minus

-- Relation = "<" | "<=" | "==" | ">=" | ">"
abbrev pub relation_kind : Relation → Kind
relation_kind relation.Less = kind.Fixed mark.Less
relation_kind relation.AtMost = kind.Fixed mark.AtMost
relation_kind relation.Equal = kind.Fixed mark.Equal
relation_kind relation.AtLeast = kind.Fixed mark.AtLeast
relation_kind relation.More = kind.Fixed mark.More

-- the tokens of sums, terms and factors
abbrev mutual
  -- Sum = [ "-" ] Term { ( "+" | "-" ) Term }
  pub sum_kinds : Terms → List Kind
  sum_kinds done = []
  sum_kinds (term sign.Plus t ts) = term_kinds t ++ more_kinds ts
  sum_kinds (term sign.Minus t ts) = kind.Fixed mark.Minus ∷ (term_kinds t ++ more_kinds ts)

  -- the terms after the first
  pub more_kinds : Terms → List Kind
  more_kinds done = []
  more_kinds (term s t ts) = sign_kind s ∷ (term_kinds t ++ more_kinds ts)

  -- Term = Number [ "*" Factor ] | Factor
  pub term_kinds : Term → List Kind
  term_kinds (number d) = kind.Number d ∷ []
  term_kinds (times d f) = kind.Number d ∷ kind.Fixed mark.Star ∷ factor_kinds f
  term_kinds (alone f) = factor_kinds f
  term_kinds blank = []

  -- Factor = Name | "(" Sum ")"
  pub factor_kinds : Factor → List Kind
  factor_kinds (named n) = kind.Name n ∷ []
  factor_kinds (nested ts) = kind.Fixed mark.Open ∷ (sum_kinds ts ++ kind.Fixed mark.Close ∷ [])

-- The tokens of lists: signs and keywords are made by the first argument, and those of an item by the second.

-- the items after the first: { "," Item }
abbrev pub further : {A B : Type 0} → (Mark → B) → (A → List B) → List A → List B
further fixed item [] = []
further fixed item (x ∷ xs) = fixed mark.Comma ∷ (item x ++ further fixed item xs)

-- Item { "," Item }, or nothing
abbrev pub listed : {A B : Type 0} → (Mark → B) → (A → List B) → List A → List B
listed fixed item [] = []
listed fixed item (x ∷ xs) = item x ++ further fixed item xs

-- [ keyword Item { "," Item } ]
abbrev pub led : {A B : Type 0} → (Mark → B) → Mark → (A → List B) → List A → List B
led fixed m item [] = []
led fixed m item (x ∷ xs) = fixed m ∷ listed fixed item (x ∷ xs)

-- [ keyword Item { "," Item } ";" ]
abbrev pub ended : {A B : Type 0} → (Mark → B) → Mark → (A → List B) → List A → List B
ended fixed m item [] = []
ended fixed m item (x ∷ xs) = fixed m ∷ (listed fixed item (x ∷ xs) ++ fixed mark.Semicolon ∷ [])

-- { Item }
abbrev pub each : {A B : Type 0} → (A → List B) → List A → List B
each item [] = []
each item (x ∷ xs) = item x ++ each item xs

-- a name in a list of names
abbrev pub name_kinds : List ℕ → List Kind
name_kinds n = kind.Name n ∷ []

-- Location = Name [ "initial" ]
abbrev pub initial_kinds : Bool → List Kind
initial_kinds true = kind.Fixed mark.Initial ∷ []
initial_kinds false = []

-- Location = Name [ "initial" ]
abbrev pub location_kinds : PlainLocation → List Kind
location_kinds l = kind.Name l.name ∷ initial_kinds l.initial

-- Comparison = Sum Relation Sum
abbrev pub comparison_kinds : PlainComparison → List Kind
comparison_kinds c = sum_kinds c.left ++ relation_kind c.relation ∷ sum_kinds c.right

-- Update = Name "+=" Number
abbrev pub update_kinds : PlainUpdate → List Kind
update_kinds u = kind.Name u.name ∷ kind.Fixed mark.PlusEquals ∷ kind.Number u.amount ∷ []

-- Rule = "rule" Name ":" Name "->" Name [ "when" Condition ] [ "do" Update { "," Update } ] ";"
abbrev pub rule_kinds : PlainRule → List Kind
rule_kinds r =
    kind.Fixed mark.Rule ∷ kind.Name r.name ∷ kind.Fixed mark.Colon ∷ kind.Name r.from ∷ kind.Fixed mark.Arrow ∷ kind.Name r.to
    ∷ (led kind.Fixed mark.When comparison_kinds r.guards ++ (led kind.Fixed mark.Do update_kinds r.updates ++ kind.Fixed mark.Semicolon ∷ []))

-- Event = "event" Name [ "after" Names ] ":" Condition ";"
abbrev pub event_kinds : PlainEvent → List Kind
event_kinds e =
    kind.Fixed mark.Event ∷ kind.Name e.name ∷ (led kind.Fixed mark.After name_kinds e.after ++ kind.Fixed mark.Colon
    ∷ (listed kind.Fixed comparison_kinds e.condition ++ kind.Fixed mark.Semicolon ∷ []))

-- Pattern = "pattern" Name "{" [ "start" Condition ";" ] [ "empty" Names ";" ] { Event } "}"
abbrev pub pattern_kinds : PlainPattern → List Kind
pattern_kinds p =
    kind.Fixed mark.Pattern ∷ kind.Name p.name ∷ kind.Fixed mark.OpenBrace ∷ (ended kind.Fixed mark.Start comparison_kinds p.start
    ++ (ended kind.Fixed mark.Empty name_kinds p.empty ++ (each event_kinds p.events ++ kind.Fixed mark.CloseBrace ∷ [])))

-- File = "automaton" Name ";" "parameters" [ Names ] ";" "shared" [ Names ] ";" "locations" Location { "," Location } ";"
--        "processes" Sum ";" "resilience" [ Condition ] ";" { Rule } { Pattern }
abbrev pub file_kinds : PlainTree → List Kind
file_kinds t =
    kind.Fixed mark.Automaton ∷ kind.Name t.name ∷ kind.Fixed mark.Semicolon
    ∷ kind.Fixed mark.Parameters ∷ (listed kind.Fixed name_kinds t.parameters ++ kind.Fixed mark.Semicolon
    ∷ kind.Fixed mark.Shared ∷ (listed kind.Fixed name_kinds t.shared ++ kind.Fixed mark.Semicolon
    ∷ kind.Fixed mark.Locations ∷ (listed kind.Fixed location_kinds t.locations ++ kind.Fixed mark.Semicolon
    ∷ kind.Fixed mark.Processes ∷ (sum_kinds t.processes ++ kind.Fixed mark.Semicolon
    ∷ kind.Fixed mark.Resilience ∷ (listed kind.Fixed comparison_kinds t.resilience ++ kind.Fixed mark.Semicolon
    ∷ (each rule_kinds t.rules ++ each pattern_kinds t.patterns))))))

-- sums, terms and factors of the grammar
abbrev mutual
  -- a sum has at least one term, no term is blank, names are legal and numbers are digits
  pub IsSum : Terms → Type 0
  IsSum done = ⊥
  IsSum (term s t ts) = IsTerm t × AreTerms ts

  -- the terms after the first: there may be none
  pub AreTerms : Terms → Type 0
  AreTerms done = Unit {0}
  AreTerms (term s t ts) = IsTerm t × AreTerms ts

  -- a term of the grammar
  pub IsTerm : Term → Type 0
  IsTerm (number d) = IsDigits d
  IsTerm (times d f) = IsDigits d × IsFactor f
  IsTerm (alone f) = IsFactor f
  IsTerm blank = ⊥

  -- a factor of the grammar
  pub IsFactor : Factor → Type 0
  IsFactor (named n) = IsNameText n
  IsFactor (nested ts) = IsSum ts

-- at least one
abbrev pub IsSome : {A : Type 0} → List A → Type 0
IsSome [] = ⊥
IsSome (x ∷ xs) = Unit {0}

-- both sums are of the grammar
pub record IsComparison (c : PlainComparison) : Type 0 where
  pub left : IsSum c.left
  pub right : IsSum c.right

-- the name is legal, and the amount is digits
pub record IsUpdate (u : PlainUpdate) : Type 0 where
  pub name : IsNameText u.name
  pub amount : IsDigits u.amount

-- the names are legal, and the guards and updates are of the grammar
pub record IsRule (r : PlainRule) : Type 0 where
  pub name : IsNameText r.name
  pub from : IsNameText r.from
  pub to : IsNameText r.to
  pub guards : AllByRecursion IsComparison r.guards
  pub updates : AllByRecursion IsUpdate r.updates

-- the names are legal, and there is at least one comparison
pub record IsEvent (e : PlainEvent) : Type 0 where
  pub name : IsNameText e.name
  pub after : AllByRecursion IsNameText e.after
  pub some : IsSome e.condition
  pub condition : AllByRecursion IsComparison e.condition

-- the names are legal, and the conditions and events are of the grammar
pub record IsPattern (p : PlainPattern) : Type 0 where
  pub name : IsNameText p.name
  pub start : AllByRecursion IsComparison p.start
  pub empty : AllByRecursion IsNameText p.empty
  pub events : AllByRecursion IsEvent p.events

-- a tree of the grammar
pub record IsTree (t : PlainTree) : Type 0 where
  pub name : IsNameText t.name
  pub parameters : AllByRecursion IsNameText t.parameters
  pub shared : AllByRecursion IsNameText t.shared
  pub some : IsSome t.locations
  pub locations : AllByRecursion (λ l. IsNameText l.name) t.locations
  pub processes : IsSum t.processes
  pub resilience : AllByRecursion IsComparison t.resilience
  pub rules : AllByRecursion IsRule t.rules
  pub patterns : AllByRecursion IsPattern t.patterns

-- the token lists of automaton files
abbrev pub FileText : List Kind → Type 0
FileText ks = (t : PlainTree) × IsTree t × (file_kinds t ≡ ks)
