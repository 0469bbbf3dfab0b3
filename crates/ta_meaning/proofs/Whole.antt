-- The errors of a tree from those of its parts
use Rattle.ta_meaning.proofs.Common.{Limits, ℕ, ◌+◌, ◌≡◌, List, [], ◌++◌, append_assoc, take, map, length, length-append, Result, refl, sym, ap, subst, ◌∙◌}
use Rattle.ta_meaning.proofs.Common.{Vec, Form, Row, plain_sum, plain_comparison, plain_location, plain_rule, plain_pattern, plain_tree, Tree, FileFault}
use Rattle.ta_meaning.proofs.Common.{Condition, Pattern, Rule, Places, Automaton, PatternsShape, MeansAutomaton, initial_from, Names, guard_names, all_names}
use Rattle.ta_meaning.proofs.Common.{names_of, linear_sum, is_large_linear, no_guards, where_, else_, sum_faults, condition_faults, processes_faults}
use Rattle.ta_meaning.proofs.Common.{in_parameters, rules_faults, patterns_faults, names_faults, meaning_faults, Scope, FirstOrMemory, Answers, kinds_of}
use Rattle.ta_meaning.proofs.Common.{first_places, ResolvedForm, ResolvedCondition, ResolvedRules, ResolvedPatterns, empty_both}
use Rattle.ta_meaning.specs.declared.rules.Rules.{Rules}
use Rattle.ta_meaning.specs.Inside.TreeHead.{head_faults, HeadClean}
use Rattle.ta_meaning.proofs.Answering.{append-left-first, append-right-first}
use Rattle.ta_meaning.proofs.PlaceNames.{in_parameters_are}
use Rattle.ta_syntax.specs.declared.fault.FileFault.TheVariants as fault

-- the errors of the sum of `processes` where parameters alone may stand
abbrev pub processes_in : Scope → Tree → List FileFault
processes_in s t = else_ (sum_faults s t.processes) (where_ (is_large_linear (linear_sum s.allowed (plain_sum t.processes))) (fault.TooLarge t.processes_at))

pub processes-answer : (places : Places) (t : Tree) (r : Result Form FileFault) → kinds_of places ≡ names_of t
    → Answers (processes_in (first_places places.names places.parameters) t) (ResolvedForm (take places.parameters places.names) (plain_sum t.processes)) r
    → Answers (processes_faults (names_of t) t) (ResolvedForm (names_of t).parameters (plain_sum t.processes)) r
processes-answer places t r k h =
    let here : Answers (processes_faults (kinds_of places) t) (ResolvedForm (kinds_of places).parameters (plain_sum t.processes)) r =
    subst (λ (s : Scope). Answers (processes_in s t) (ResolvedForm s.allowed (plain_sum t.processes)) r) (sym (in_parameters_are places)) h in
    subst (λ (ns : Names). Answers (processes_faults ns t) (ResolvedForm ns.parameters (plain_sum t.processes)) r) k here

pub resilience-answer : (places : Places) (t : Tree) (r : Result Condition FileFault) → kinds_of places ≡ names_of t
    → Answers (condition_faults (first_places places.names places.parameters) t.resilience)
    (ResolvedCondition (take places.parameters places.names) (map plain_comparison t.resilience)) r
    → Answers (condition_faults (in_parameters (names_of t)) t.resilience) (ResolvedCondition (names_of t).parameters (map plain_comparison t.resilience)) r
resilience-answer places t r k h =
    let here : Answers (condition_faults (in_parameters (kinds_of places)) t.resilience)
    (ResolvedCondition (kinds_of places).parameters (map plain_comparison t.resilience)) r =
    subst (λ (s : Scope). Answers (condition_faults s t.resilience) (ResolvedCondition s.allowed (map plain_comparison t.resilience)) r)
    (sym (in_parameters_are places)) h in
    subst (λ (ns : Names). Answers (condition_faults (in_parameters ns) t.resilience) (ResolvedCondition ns.parameters (map plain_comparison t.resilience)) r) k
    here

pub rules-answer : (l : Limits) (places : Places) (t : Tree) (r : Result Rules FileFault) → kinds_of places ≡ names_of t
    → Answers (rules_faults l (kinds_of places) [] no_guards t.rules)
    (λ (r : Rules). ResolvedRules l (kinds_of places) (map plain_rule t.rules) r.rise.items r.fall.items r.rules.items) r
    → Answers (rules_faults l (names_of t) [] no_guards t.rules)
    (λ (r : Rules). ResolvedRules l (names_of t) (map plain_rule t.rules) r.rise.items r.fall.items r.rules.items) r
rules-answer l places t r k h = subst
    (λ (ns : Names). Answers (rules_faults l ns [] no_guards t.rules)
    (λ (r : Rules). ResolvedRules l ns (map plain_rule t.rules) r.rise.items r.fall.items r.rules.items) r) k h

pub patterns-answer : (places : Places) (t : Tree) (r : Result (Vec Pattern) FileFault) → kinds_of places ≡ names_of t
    → Answers (patterns_faults (kinds_of places) [] t.patterns)
    (λ (ps : Vec Pattern). ResolvedPatterns (kinds_of places) (map plain_pattern t.patterns) ps.items) r
    → Answers (patterns_faults (names_of t) [] t.patterns) (λ (ps : Vec Pattern). ResolvedPatterns (names_of t) (map plain_pattern t.patterns) ps.items) r
patterns-answer places t r k h = subst
    (λ (ns : Names). Answers (patterns_faults ns [] t.patterns) (λ (ps : Vec Pattern). ResolvedPatterns ns (map plain_pattern t.patterns) ps.items) r) k h

-- ---- the first error of a part is the first of the tree, where the parts before it have none

pub at-names : (l : Limits) (t : Tree) (e : FileFault) → FirstOrMemory (names_faults (names_of t) t) e → FirstOrMemory (meaning_faults l t) e
at-names l t e h = append-left-first _ _ e h

-- the errors of the head stand together
in_parts : (l : Limits) (t : Tree) → meaning_faults l t
    ≡ names_faults (names_of t) t ++ (head_faults t ++ (rules_faults l (names_of t) [] no_guards t.rules ++ patterns_faults (names_of t) [] t.patterns))
in_parts l t = ap (λ (fs : List FileFault). names_faults (names_of t) t ++ fs) (sym (append_assoc (processes_faults (names_of t) t) _ _))

pub at-head : (l : Limits) (t : Tree) (e : FileFault) → names_faults (names_of t) t ≡ [] → FirstOrMemory (head_faults t) e
    → FirstOrMemory (meaning_faults l t) e
at-head l t e names h = rw (in_parts l t) (append-right-first (names_faults (names_of t) t) _ e names (append-left-first _ _ e h))

pub at-rules : (l : Limits) (t : Tree) (e : FileFault) → HeadClean t → FirstOrMemory (rules_faults l (names_of t) [] no_guards t.rules) e
    → FirstOrMemory (meaning_faults l t) e
at-rules l t e clean h = rw (in_parts l t)
    (append-right-first (names_faults (names_of t) t) _ e clean.names (append-right-first (head_faults t) _ e clean.head (append-left-first _ _ e h)))

pub at-patterns : (l : Limits) (t : Tree) (e : FileFault) → HeadClean t → rules_faults l (names_of t) [] no_guards t.rules ≡ []
    → FirstOrMemory (patterns_faults (names_of t) [] t.patterns) e → FirstOrMemory (meaning_faults l t) e
at-patterns l t e clean rules h = rw (in_parts l t)
    (append-right-first (names_faults (names_of t) t) _ e clean.names
    (append-right-first (head_faults t) _ e clean.head (append-right-first (rules_faults l (names_of t) [] no_guards t.rules) _ e rules h)))

pub all-clean : (l : Limits) (t : Tree) → HeadClean t → rules_faults l (names_of t) [] no_guards t.rules ≡ [] → patterns_faults (names_of t) [] t.patterns ≡ []
    → meaning_faults l t ≡ []
all-clean l t clean rules patterns = in_parts l t
    ∙ empty_both (names_faults (names_of t) t) _ clean.names
    (empty_both (head_faults t) _ clean.head (empty_both (rules_faults l (names_of t) [] no_guards t.rules) _ rules patterns))

-- ---- the tree's file

-- the places that a pattern's shape counts are those of the automaton
pub patterns_shape-of :
    (t : Tree) (parameters shared locations : List (List ℕ)) (patterns patterns' : List Pattern)
    → parameters ≡ (names_of t).parameters → shared ≡ (names_of t).shared → locations ≡ (names_of t).locations
    → ResolvedPatterns (names_of t) (map plain_pattern t.patterns) patterns → patterns' ≡ patterns
    → PatternsShape (length parameters + length shared + length locations) (length locations) patterns'
patterns_shape-of t parameters shared locations patterns patterns' p s places_are resolved same =
    let ns = names_of t in
    let count : length (all_names ns) ≡ length parameters + length shared + length locations =
    length-append (guard_names ns) ns.locations
    ∙ (ap (λ (n : ℕ). n + length ns.locations) (length-append ns.parameters ns.shared)
    ∙ rw (p, s, places_are) refl) in
    rw (same, sym count, places_are) resolved.shape

-- an automaton of the parts that a tree resolves to
pub means_automaton :
    (l : Limits) (t : Tree) (a : Automaton) (rise fall : List Row) (rules : List Rule)
    → a.name ≡ t.name.name → a.parameters ≡ (names_of t).parameters → a.shared ≡ (names_of t).shared → a.locations ≡ (names_of t).locations
    → a.initial ≡ initial_from 0 (map plain_location t.locations) → a.rise ≡ rise → a.fall ≡ fall → a.rules ≡ rules
    → ResolvedForm (names_of t).parameters (plain_sum t.processes) a.processes
    → ResolvedCondition (names_of t).parameters (map plain_comparison t.resilience) a.resilience
    → ResolvedRules l (names_of t) (map plain_rule t.rules) rise fall rules
    → MeansAutomaton (plain_tree t) a
means_automaton l t a rise fall rules n p s places_are i r f u form condition all = record {
  name = n;
  parameters = p;
  shared = s;
  locations = places_are;
  initial = i;
  processes = form.means;
  resilience = condition.means;
  rise = rw r all.guards.rise_of;
  fall = rw f all.guards.fall_of;
  rules = rw u all.means;
}
