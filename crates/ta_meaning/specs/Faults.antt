-- The errors of an automaton file's meaning, in the order in which a reader comes to them. Each list has the errors of a part of the tree.
-- An error of a whole term, sum or comparison counts only if its tokens and inner terms have none; of two errors of one token only the one
-- with the lower code counts. So the offsets of a list increase, and its first error is the first error of the file. `l` is the row of limits,
-- by which guards are too many.
use Rattle.ta_base.specs.declared.limits.Limits.{Limits}
use Rattle.std.specs.Prelude.{ℕ, ◌≡◌, ◌⊎◌, Bool, false, ◌||◌, not, ltb, List, [], ◌∷◌, ◌++◌, length, map, Option, Some, None, Result, Ok, Err, if◌then◌else◌}
use Rattle.ta_base.specs.declared.limits.TheConstants.{LARGEST_NUMBER}
use Rattle.ta_syntax.specs.Grammar.{Terms, Term, Factor, done, term, named, nested}
use Rattle.ta_syntax.specs.PlainSums.{plain_sum, term_of}
use Rattle.ta_syntax.specs.PlainTrees.{plain_comparison}
use Rattle.ta_syntax.specs.declared.names.Spelled.{Spelled}
use Rattle.ta_syntax.specs.declared.names.Digits.{Digits}
use Rattle.ta_syntax.specs.declared.sums.Sign.{Sign}
use Rattle.ta_syntax.specs.declared.sums.TreeSum.{TreeSum}
use Rattle.ta_syntax.specs.declared.sums.TreeFactor.TheOpen.{TreeFactor-F, TreeSum-F, TreeTerm-F, Named, Nested}
use Rattle.ta_syntax.specs.declared.sums.TreeFactor.TheFolds.{fold-TreeSum}
use Rattle.ta_syntax.specs.declared.tree.TreeComparison.{TreeComparison}
use Rattle.ta_syntax.specs.declared.tree.TreeLocation.{TreeLocation}
use Rattle.ta_syntax.specs.declared.tree.TreeUpdate.{TreeUpdate}
use Rattle.ta_syntax.specs.declared.tree.TreeRule.{TreeRule}
use Rattle.ta_syntax.specs.declared.tree.TreeEvent.{TreeEvent}
use Rattle.ta_syntax.specs.declared.tree.TreePattern.{TreePattern}
use Rattle.ta_syntax.specs.declared.tree.Tree.{Tree}
use Rattle.ta_syntax.specs.declared.fault.FileFault.{FileFault}
use Rattle.ta_syntax.specs.declared.fault.FileFault.TheVariants as fault
use Rattle.ta_meaning.specs.Sums.{number_of, has_name, term_coefficient, term_constant}
use Rattle.ta_meaning.specs.Linear.{Linear, linear_sum, comparison_rows, is_large_linear, any_large}
use Rattle.ta_meaning.specs.Names.{Names, guard_names, all_names, names_of}
use Rattle.ta_meaning.specs.Guards.{Guards, no_guards, with_guards, is_no_threshold, is_one_more}

-- a single error, if a test holds
abbrev pub where_ : Bool → FileFault → List FileFault
where_ test f = if test then f ∷ [] else []

-- these errors, or if there are none those that come after
abbrev pub else_ : List FileFault → List FileFault → List FileFault
else_ [] later = later
else_ (f ∷ fs) later = f ∷ fs

-- the first of the errors
abbrev pub First : List FileFault → FileFault → Type 0
First faults e = (rest : List FileFault) × (faults ≡ e ∷ rest)

-- the first of the errors, or out of memory
abbrev pub FirstOrMemory : List FileFault → FileFault → Type 0
FirstOrMemory faults e = (e ≡ fault.Memory) ⊎ First faults e

-- the answer of a function that takes no memory: Ok with a right value exactly if there are no errors, otherwise the first of them
abbrev pub Judges : {X : Type 0} → List FileFault → (X → Type 0) → Result X FileFault → Type 0
Judges faults IsRight (Ok x) = (faults ≡ []) × IsRight x
Judges faults IsRight (Err e) = First faults e

-- the answer of a function that takes memory: the same, or out of memory
abbrev pub Answers : {X : Type 0} → List FileFault → (X → Type 0) → Result X FileFault → Type 0
Answers faults IsRight (Ok x) = (faults ≡ []) × IsRight x
Answers faults IsRight (Err e) = FirstOrMemory faults e

-- ---- names

abbrev pub is_long : Spelled → Bool
is_long n = ltb 64 (length n.name)

-- a declared name: F3 if it was declared before in its set, otherwise F6 if it is too long
abbrev pub declared_faults : List (List ℕ) → Spelled → List FileFault
declared_faults before n = else_ (where_ (has_name before n.name) (fault.Duplicate n.at)) (where_ (is_long n) (fault.TooLarge n.at))

-- names declared one after another
abbrev pub declarations_faults : List (List ℕ) → List Spelled → List FileFault
declarations_faults before [] = []
declarations_faults before (n ∷ ns) = declared_faults before n ++ declarations_faults (before ++ n.name ∷ []) ns

-- a used name: F4 if it is not declared, F5 if it is of a kind that may not occur there
abbrev pub used_faults : List (List ℕ) → List (List ℕ) → Spelled → List FileFault
used_faults declared allowed n =
    else_ (where_ (not (has_name declared n.name)) (fault.Unknown n.at)) (where_ (not (has_name allowed n.name)) (fault.WrongKind n.at))

-- names listed one after another: F3 for a name that was listed before
abbrev pub listed_faults : List (List ℕ) → List (List ℕ) → List (List ℕ) → List Spelled → List FileFault
listed_faults declared allowed before [] = []
listed_faults declared allowed before (n ∷ ns) =
    else_ (where_ (has_name before n.name) (fault.Duplicate n.at)) (used_faults declared allowed n)
    ++ listed_faults declared allowed (before ++ n.name ∷ []) ns

-- F6 for a number
abbrev pub digits_faults : Digits → List FileFault
digits_faults d = where_ (ltb LARGEST_NUMBER (number_of d.text)) (fault.TooLarge d.at)

-- ---- sums and comparisons

-- the names of all places, and those of them that may occur somewhere
pub record Scope : Type 0 where
  pub places : List (List ℕ)
  pub allowed : List (List ℕ)

-- a part of a sum, with its errors
pub record WithFaults (X : Type 0) : Type 0 where
  pub plain : X
  pub faults : List FileFault

abbrev pub judged_terms : List (Sign × WithFaults Term) → WithFaults Terms
judged_terms [] = record { plain = done; faults = [] }
judged_terms (t ∷ ts) = record { plain = term t.0 t.1.plain (judged_terms ts).plain; faults = t.1.faults ++ (judged_terms ts).faults }

abbrev pub factor_judged : Scope → TreeFactor-F (WithFaults Factor) (WithFaults Terms) (WithFaults Term) → WithFaults Factor
factor_judged s (Named n) = record { plain = named n.name; faults = used_faults s.places s.allowed n }
factor_judged s (Nested t) = record { plain = nested t.plain; faults = t.faults }

abbrev pub sum_judged : Scope → TreeSum-F (WithFaults Factor) (WithFaults Terms) (WithFaults Term) → WithFaults Terms
sum_judged s t = judged_terms t.terms.items

abbrev pub plain_part : Option (WithFaults Factor) → Option Factor
plain_part None = None
plain_part (Some f) = Some f.plain

abbrev pub number_faults : Option Digits → List FileFault
number_faults None = []
number_faults (Some d) = digits_faults d

abbrev pub part_faults : Option (WithFaults Factor) → List FileFault
part_faults None = []
part_faults (Some f) = f.faults

-- the numbers of a term
abbrev pub linear_term : List (List ℕ) → Term → Linear
linear_term names t = record { constant = term_constant t; coefficients = map (λ x. term_coefficient x t) names }

-- F6 for a term whose tokens and inner terms have no error
abbrev pub term_judged : Scope → TreeTerm-F (WithFaults Factor) (WithFaults Terms) (WithFaults Term) → WithFaults Term
term_judged s t = record {
  plain = term_of t.factor (plain_part t.body);
  faults = else_ (number_faults t.factor ++ part_faults t.body)
      (where_ (is_large_linear (linear_term s.allowed (term_of t.factor (plain_part t.body)))) (fault.TooLarge t.at));
}

abbrev pub judged_sum : Scope → TreeSum → WithFaults Terms
judged_sum s = fold-TreeSum (WithFaults Factor) (WithFaults Terms) (WithFaults Term) (factor_judged s) (sum_judged s) (term_judged s)

-- the errors of a sum's terms
abbrev pub sum_faults : Scope → TreeSum → List FileFault
sum_faults s t = (judged_sum s t).faults

-- F6 for a comparison whose terms have no error
abbrev pub comparison_faults : Scope → TreeComparison → List FileFault
comparison_faults s c =
    else_ (sum_faults s c.left ++ sum_faults s c.right) (where_ (any_large (comparison_rows s.allowed (plain_comparison c))) (fault.TooLarge c.at))

abbrev pub condition_faults : Scope → List TreeComparison → List FileFault
condition_faults s [] = []
condition_faults s (c ∷ cs) = comparison_faults s c ++ condition_faults s cs

-- ---- guards

-- a guard after others: F6, otherwise F9, otherwise F7
abbrev pub guard_faults : Limits → ℕ → Scope → Guards → TreeComparison → List FileFault
guard_faults l parameters s g c =
    else_ (comparison_faults s c)
    (else_ (where_ (is_no_threshold parameters (comparison_rows s.allowed (plain_comparison c))) (fault.NotThreshold c.at))
    (where_ (is_one_more l parameters g (comparison_rows s.allowed (plain_comparison c))) (fault.TooMany c.at)))

-- a guard with an error does not count for later ones
abbrev pub counted : List FileFault → Guards → Guards → Guards
counted [] before after = after
counted (f ∷ fs) before after = before

-- the guards with one more
abbrev pub guards_then : Limits → ℕ → Scope → Guards → TreeComparison → Guards
guards_then l parameters s g c =
    counted (guard_faults l parameters s g c) g (with_guards parameters g (comparison_rows s.allowed (plain_comparison c)))

-- guards one after another
abbrev pub guards_faults : Limits → ℕ → Scope → Guards → List TreeComparison → List FileFault
guards_faults l parameters s g [] = []
guards_faults l parameters s g (c ∷ cs) = guard_faults l parameters s g c ++ guards_faults l parameters s (guards_then l parameters s g c) cs

-- the guards with those of a rule
abbrev pub guards_with : Limits → ℕ → Scope → Guards → List TreeComparison → Guards
guards_with l parameters s g [] = g
guards_with l parameters s g (c ∷ cs) = guards_with l parameters s (guards_then l parameters s g c) cs

-- ---- the file

abbrev pub in_parameters : Names → Scope
in_parameters ns = record { places = all_names ns; allowed = ns.parameters }

abbrev pub in_guards : Names → Scope
in_guards ns = record { places = all_names ns; allowed = guard_names ns }

abbrev pub in_conditions : Names → Scope
in_conditions ns = record { places = all_names ns; allowed = all_names ns }

-- updates: F3 for a variable that was updated before in the rule
abbrev pub updates_faults : Names → List (List ℕ) → List TreeUpdate → List FileFault
updates_faults ns before [] = []
updates_faults ns before (u ∷ us) =
    else_ (where_ (has_name before u.name.name) (fault.Duplicate u.name.at)) (used_faults (all_names ns) ns.shared u.name)
    ++ (digits_faults u.amount ++ updates_faults ns (before ++ u.name.name ∷ []) us)

abbrev pub rule_faults : Limits → Names → List (List ℕ) → Guards → TreeRule → List FileFault
rule_faults l ns before g r =
    declared_faults before r.name
    ++ (used_faults (all_names ns) ns.locations r.from
    ++ (used_faults (all_names ns) ns.locations r.to
    ++ (guards_faults l (length ns.parameters) (in_guards ns) g r.guards
    ++ updates_faults ns [] r.updates)))

-- rules one after another
abbrev pub rules_faults : Limits → Names → List (List ℕ) → Guards → List TreeRule → List FileFault
rules_faults l ns before g [] = []
rules_faults l ns before g (r ∷ rs) =
    rule_faults l ns before g r ++ rules_faults l ns (before ++ r.name.name ∷ []) (guards_with l (length ns.parameters) (in_guards ns) g r.guards) rs

-- an event comes after events declared before it
abbrev pub event_faults : Names → List (List ℕ) → TreeEvent → List FileFault
event_faults ns before e =
    declared_faults before e.name ++ (listed_faults before before [] e.after ++ condition_faults (in_conditions ns) e.condition)

abbrev pub events_faults : Names → List (List ℕ) → List TreeEvent → List FileFault
events_faults ns before [] = []
events_faults ns before (e ∷ es) = event_faults ns before e ++ events_faults ns (before ++ e.name.name ∷ []) es

abbrev pub pattern_faults : Names → List (List ℕ) → TreePattern → List FileFault
pattern_faults ns before p =
    declared_faults before p.name
    ++ (condition_faults (in_conditions ns) p.start
    ++ (listed_faults (all_names ns) ns.locations [] p.empty
    ++ events_faults ns [] p.events))

abbrev pub patterns_faults : Names → List (List ℕ) → List TreePattern → List FileFault
patterns_faults ns before [] = []
patterns_faults ns before (p ∷ ps) = pattern_faults ns before p ++ patterns_faults ns (before ++ p.name.name ∷ []) ps

abbrev pub location_spelled : TreeLocation → Spelled
location_spelled l = l.name

abbrev pub any_initial : List TreeLocation → Bool
any_initial [] = false
any_initial (l ∷ ls) = l.initial || any_initial ls

-- F6 for the sum of `processes` if none of its terms has an error
abbrev pub processes_faults : Names → Tree → List FileFault
processes_faults ns t =
    else_ (sum_faults (in_parameters ns) t.processes)
    (where_ (is_large_linear (linear_sum ns.parameters (plain_sum t.processes))) (fault.TooLarge t.processes_at))

-- the text before the sum of `processes`: F12 if no location is initial
abbrev pub names_faults : Names → Tree → List FileFault
names_faults ns t =
    where_ (is_long t.name) (fault.TooLarge t.name.at)
    ++ (declarations_faults [] t.parameters
    ++ (declarations_faults ns.parameters t.shared
    ++ (where_ (not (any_initial t.locations)) (fault.NoInitial t.locations_at)
    ++ declarations_faults (guard_names ns) (map location_spelled t.locations))))

-- the errors of a tree's meaning, in the order of the text
abbrev pub meaning_faults : Limits → Tree → List FileFault
meaning_faults l t =
    names_faults (names_of t) t
    ++ (processes_faults (names_of t) t
    ++ (condition_faults (in_parameters (names_of t)) t.resilience
    ++ (rules_faults l (names_of t) [] no_guards t.rules
    ++ patterns_faults (names_of t) [] t.patterns)))
