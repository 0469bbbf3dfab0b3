-- Trees without an error of meaning, by a test of the tree without its offsets. Sums have neither parentheses nor products.
use Rattle.ta_maker.proofs.Common.{◌≡◌, ◌∙◌, ℕ, Bool, true, false, ◌&&◌, ◌||◌, if◌then◌else◌, List, [], ◌∷◌, ◌++◌, length, map, refl, sym, ap, subst, Option}
use Rattle.ta_maker.proofs.Common.{Some, None, ltb, not, Term, Terms, and_parts, narrow, Guards, comparison_rows, linear_sum, plain_names, PlainComparison}
use Rattle.ta_maker.proofs.Common.{PlainRule, PlainTree, number, plain_sum, plain_comparison, plain_location, plain_name, plain_pattern, plain_rule, plain_tree}
use Rattle.ta_maker.proofs.Common.{FileFault, Tree}
use Rattle.ta_base.specs.declared.limits.TheConstants.{LARGEST_NUMBER}
use Rattle.ta_meaning.specs.Faults.{Scope, WithFaults, any_initial, comparison_faults, condition_faults, counted, declarations_faults}
use Rattle.ta_meaning.specs.Faults.{declared_faults, digits_faults, else_, event_faults, events_faults, factor_judged, guard_faults, guards_faults}
use Rattle.ta_meaning.specs.Faults.{guards_then, guards_with, in_conditions, in_guards, in_parameters, is_long, judged_sum, judged_terms, linear_term}
use Rattle.ta_meaning.specs.Faults.{listed_faults, location_spelled, meaning_faults, names_faults, pattern_faults, patterns_faults, processes_faults}
use Rattle.ta_meaning.specs.Faults.{rule_faults, rules_faults, sum_faults, sum_judged, term_judged, updates_faults, used_faults, where_}
use Rattle.ta_meaning.specs.Guards.{is_no_threshold, is_one_more, no_guards, with_guards}
use Rattle.ta_meaning.specs.Linear.{any_large, is_large_linear}
use Rattle.ta_meaning.specs.Names.{Names, all_names, guard_names, location_name, names_of}
use Rattle.ta_meaning.specs.Sums.{has_name, number_of}
use Rattle.ta_syntax.proofs.PrintSteps.{plain_sum_out}
use Rattle.ta_syntax.specs.Grammar.{Factor, PlainEvent, PlainLocation, PlainPattern, PlainUpdate, alone, blank}
use Rattle.ta_syntax.specs.Grammar.{done, named, nested, term, times}
use Rattle.ta_syntax.specs.PlainSums.{factor_layer, plain_factor, plain_term, plain_terms, sum_layer, term_layer}
use Rattle.ta_syntax.specs.PlainTrees.{plain_event, plain_update}
use Rattle.ta_syntax.specs.declared.names.Digits.{Digits}
use Rattle.ta_syntax.specs.declared.names.Spelled.{Spelled}
use Rattle.ta_syntax.specs.declared.sums.Sign.{Sign}
use Rattle.ta_syntax.specs.declared.sums.TreeFactor.{TreeFactor}
use Rattle.ta_syntax.specs.declared.sums.TreeFactor.TheFolds.{fold-TreeFactor, fold-TreeTerm, fold_out-TreeFactor, fold_out-TreeSum}
use Rattle.ta_syntax.specs.declared.sums.TreeFactor.TheFolds.{fold_out-TreeTerm, map-TreeFactor, map-TreeTerm}
use Rattle.ta_syntax.specs.declared.sums.TreeFactor.TheOpen.{Named, Nested, TreeFactor-F, TreeTerm-F}
use Rattle.ta_syntax.specs.declared.sums.TreeFactor.TheViews.{out-TreeFactor, out-TreeSum, out-TreeTerm}
use Rattle.ta_syntax.specs.declared.sums.TreeSum.{TreeSum}
use Rattle.ta_syntax.specs.declared.sums.TreeTerm.{TreeTerm}
use Rattle.ta_syntax.specs.declared.tree.TreeComparison.{TreeComparison}
use Rattle.ta_syntax.specs.declared.tree.TreeEvent.{TreeEvent}
use Rattle.ta_syntax.specs.declared.tree.TreeLocation.{TreeLocation}
use Rattle.ta_syntax.specs.declared.tree.TreePattern.{TreePattern}
use Rattle.ta_syntax.specs.declared.tree.TreeRule.{TreeRule}
use Rattle.ta_syntax.specs.declared.tree.TreeUpdate.{TreeUpdate}
use Rattle.ta_syntax.specs.declared.fault.FileFault.TheVariants as fault

-- ---- the test
abbrev fine_name : List (List ℕ) → List ℕ → Bool
fine_name before n = not (has_name before n) && not (ltb 64 (length n))

abbrev fine_names : List (List ℕ) → List (List ℕ) → Bool
fine_names before [] = true
fine_names before (n ∷ ns) = fine_name before n && fine_names (before ++ n ∷ []) ns

abbrev fine_use : List (List ℕ) → List (List ℕ) → List ℕ → Bool
fine_use declared allowed n = has_name declared n && has_name allowed n

abbrev fine_number : List ℕ → Bool
fine_number d = not (ltb LARGEST_NUMBER (number_of d))

abbrev fine_linear : Scope → Term → Bool
fine_linear s t = not (is_large_linear (linear_term s.allowed t))

abbrev fine_term : Scope → Term → Bool
fine_term s (number d) = fine_number d && fine_linear s (number d)
fine_term s (alone (named n)) = fine_use s.places s.allowed n && fine_linear s (alone (named n))
fine_term s (alone (nested ts)) = false
fine_term s (times d f) = false
fine_term s blank = false

abbrev fine_terms : Scope → Terms → Bool
fine_terms s done = true
fine_terms s (term sign t ts) = fine_term s t && fine_terms s ts

abbrev fine_comparison : Scope → PlainComparison → Bool
fine_comparison s c = (fine_terms s c.left && fine_terms s c.right) && not (any_large (comparison_rows s.allowed c))

abbrev fine_condition : Scope → List PlainComparison → Bool
fine_condition s [] = true
fine_condition s (c ∷ cs) = fine_comparison s c && fine_condition s cs

abbrev fine_guard : ℕ → Scope → Guards → PlainComparison → Bool
fine_guard p s g c = fine_comparison s c && (not (is_no_threshold p (comparison_rows s.allowed c)) && not (is_one_more narrow p g
    (comparison_rows s.allowed c)))

abbrev fine_guards : ℕ → Scope → Guards → List PlainComparison → Bool
fine_guards p s g [] = true
fine_guards p s g (c ∷ cs) = fine_guard p s g c && fine_guards p s (with_guards p g (comparison_rows s.allowed c)) cs

abbrev guards_past : ℕ → Scope → Guards → List PlainComparison → Guards
guards_past p s g [] = g
guards_past p s g (c ∷ cs) = guards_past p s (with_guards p g (comparison_rows s.allowed c)) cs

abbrev fine_updates : Names → List (List ℕ) → List PlainUpdate → Bool
fine_updates ns before [] = true
fine_updates ns before (u ∷ us) =
    (not (has_name before u.name) && fine_use (all_names ns) ns.shared u.name) && (fine_number u.amount && fine_updates ns (before ++ u.name ∷ []) us)

abbrev fine_rule : Names → List (List ℕ) → Guards → PlainRule → Bool
fine_rule ns before g r =
    fine_name before r.name
    && (fine_use (all_names ns) ns.locations r.from
    && (fine_use (all_names ns) ns.locations r.to
    && (fine_guards (length ns.parameters) (in_guards ns) g r.guards && fine_updates ns [] r.updates)))

abbrev fine_rules : Names → List (List ℕ) → Guards → List PlainRule → Bool
fine_rules ns before g [] = true
fine_rules ns before g (r ∷ rs) =
    fine_rule ns before g r && fine_rules ns (before ++ r.name ∷ []) (guards_past (length ns.parameters) (in_guards ns) g r.guards) rs

abbrev is_none : List (List ℕ) → Bool
is_none [] = true
is_none (n ∷ ns) = false

abbrev fine_event : Names → List (List ℕ) → PlainEvent → Bool
fine_event ns before e = fine_name before e.name && (is_none e.after && fine_condition (in_conditions ns) e.condition)

abbrev fine_events : Names → List (List ℕ) → List PlainEvent → Bool
fine_events ns before [] = true
fine_events ns before (e ∷ es) = fine_event ns before e && fine_events ns (before ++ e.name ∷ []) es

abbrev fine_pattern : Names → List (List ℕ) → PlainPattern → Bool
fine_pattern ns before p =
    fine_name before p.name && (fine_condition (in_conditions ns) p.start && (is_none p.empty && fine_events ns [] p.events))

abbrev fine_patterns : Names → List (List ℕ) → List PlainPattern → Bool
fine_patterns ns before [] = true
fine_patterns ns before (p ∷ ps) = fine_pattern ns before p && fine_patterns ns (before ++ p.name ∷ []) ps

abbrev some_initial : List PlainLocation → Bool
some_initial [] = false
some_initial (l ∷ ls) = if l.initial then true else some_initial ls

abbrev fine_heads : Names → PlainTree → Bool
fine_heads ns t =
    not (ltb 64 (length t.name))
    && (fine_names [] t.parameters && (fine_names ns.parameters t.shared && (some_initial t.locations && fine_names (guard_names ns) ns.locations)))

abbrev fine_processes : Names → PlainTree → Bool
fine_processes ns t = fine_terms (in_parameters ns) t.processes && not (is_large_linear (linear_sum ns.parameters t.processes))

-- no error of meaning is in the tree
abbrev pub fine_tree : PlainTree → Bool
fine_tree t =
    fine_heads (plain_names t) t
    && (fine_processes (plain_names t) t
    && (fine_condition (in_parameters (plain_names t)) t.resilience
    && (fine_rules (plain_names t) [] no_guards t.rules && fine_patterns (plain_names t) [] t.patterns)))

-- ---- no errors of parts
one_none : (a : Bool) (f : FileFault) → not a ≡ true → where_ a f ≡ []
one_none false f e = refl
one_none true f e = absurd (cc)

two_none : (a b : Bool) (f g : FileFault) → (not a && not b) ≡ true → else_ (where_ a f) (where_ b g) ≡ []
two_none false false f g e = refl
two_none false true f g e = absurd (cc)
two_none true b f g e = absurd (cc)

known_none : (a b : Bool) (f g : FileFault) → (a && b) ≡ true → else_ (where_ (not a) f) (where_ (not b) g) ≡ []
known_none true true f g e = refl
known_none true false f g e = absurd (cc)
known_none false b f g e = absurd (cc)

name_none : (before : List (List ℕ)) (n : Spelled) → fine_name before n.name ≡ true → declared_faults before n ≡ []
name_none before n e = two_none (has_name before n.name) (ltb 64 (length n.name)) (fault.Duplicate n.at) (fault.TooLarge n.at) e

use_none : (declared allowed : List (List ℕ)) (n : Spelled) → fine_use declared allowed n.name ≡ true → used_faults declared allowed n ≡ []
use_none declared allowed n e = known_none (has_name declared n.name) (has_name allowed n.name) (fault.Unknown n.at) (fault.WrongKind n.at) e

number_none : (d : Digits) → fine_number d.text ≡ true → digits_faults d ≡ []
number_none d e = one_none (ltb LARGEST_NUMBER (number_of d.text)) (fault.TooLarge d.at) e

names_none : (before : List (List ℕ)) (ns : List Spelled) → fine_names before (map plain_name ns) ≡ true → declarations_faults before ns ≡ []
names_none before [] e = refl
names_none before (n ∷ ns) e =
    let two = and_parts (fine_name before n.name) (fine_names (before ++ n.name ∷ []) (map plain_name ns)) e in
    λ i. name_none before n two.0 i ++ names_none (before ++ n.name ∷ []) ns two.1 i

-- ---- sums
abbrev judged_factor : Scope → TreeFactor → WithFaults Factor
judged_factor s = fold-TreeFactor (WithFaults Factor) (WithFaults Terms) (WithFaults Term) (factor_judged s) (sum_judged s) (term_judged s)

abbrev judged_term : Scope → TreeTerm → WithFaults Term
judged_term s = fold-TreeTerm (WithFaults Factor) (WithFaults Terms) (WithFaults Term) (factor_judged s) (sum_judged s) (term_judged s)

-- a factor that is a name
record FineFactor (s : Scope) (f : TreeFactor) : Type 0 where
  none : (judged_factor s f).faults ≡ []
  plain : (judged_factor s f).plain ≡ plain_factor f
  small : fine_linear s (alone (plain_factor f)) ≡ true

abbrev plain_layer : TreeFactor-F TreeFactor TreeSum TreeTerm → Factor
plain_layer x = factor_layer (map-TreeFactor TreeFactor TreeSum TreeTerm Factor Terms Term plain_factor plain_sum plain_term x)

abbrev judged_layer : Scope → TreeFactor-F TreeFactor TreeSum TreeTerm → WithFaults Factor
judged_layer s x = factor_judged s
    (map-TreeFactor TreeFactor TreeSum TreeTerm (WithFaults Factor) (WithFaults Terms) (WithFaults Term) (judged_factor s) (judged_sum s) (judged_term s) x)

by_factor : (s : Scope) (f : TreeFactor) (x : TreeFactor-F TreeFactor TreeSum TreeTerm) → plain_factor f ≡ plain_layer x → judged_factor s f ≡ judged_layer s x
    → fine_term s (alone (plain_factor f)) ≡ true → FineFactor s f
by_factor s f (Named n) plain judged fine =
    let known : fine_term s (alone (named n.name)) ≡ true = subst (λ (y : Factor). fine_term s (alone y) ≡ true) plain fine in
    let two = and_parts (fine_use s.places s.allowed n.name) (fine_linear s (alone (named n.name))) known in
    record {
      none = ap (λ (j : WithFaults Factor). j.faults) judged ∙ use_none s.places s.allowed n two.0;
      plain = ap (λ (j : WithFaults Factor). j.plain) judged ∙ sym plain;
      small = subst (λ (y : Factor). fine_linear s (alone y) ≡ true) (sym plain) two.1;
    }
by_factor s f (Nested t) plain judged fine =
    let known : false ≡ true = subst (λ (y : Factor). fine_term s (alone y) ≡ true) plain fine in absurd (cc)

factor_none : (s : Scope) (f : TreeFactor) → fine_term s (alone (plain_factor f)) ≡ true → FineFactor s f
factor_none s f fine = by_factor s f (out-TreeFactor f) (fold_out-TreeFactor Factor Terms Term factor_layer sum_layer term_layer f)
    (fold_out-TreeFactor (WithFaults Factor) (WithFaults Terms) (WithFaults Term) (factor_judged s) (sum_judged s) (term_judged s) f) fine

abbrev parts : ℕ → Option Digits → Option TreeFactor → TreeTerm-F TreeFactor TreeSum TreeTerm
parts at d b = record { at = at; factor = d; body = b }

abbrev plain_parts : TreeTerm-F TreeFactor TreeSum TreeTerm → Term
plain_parts x = term_layer (map-TreeTerm TreeFactor TreeSum TreeTerm Factor Terms Term plain_factor plain_sum plain_term x)

abbrev judged_parts : Scope → TreeTerm-F TreeFactor TreeSum TreeTerm → WithFaults Term
judged_parts s x = term_judged s
    (map-TreeTerm TreeFactor TreeSum TreeTerm (WithFaults Factor) (WithFaults Terms) (WithFaults Term) (judged_factor s) (judged_sum s) (judged_term s) x)

by_term : (s : Scope) (at : ℕ) (d : Option Digits) (b : Option TreeFactor) → fine_term s (plain_parts (parts at d b)) ≡ true
    → (judged_parts s (parts at d b)).faults ≡ []
by_term s at None None fine = absurd (cc)
by_term s at (Some d) None fine =
    let two = and_parts (fine_number d.text) (fine_linear s (number d.text)) fine in
    λ i. else_ (number_none d two.0 i ++ []) (one_none (is_large_linear (linear_term s.allowed (number d.text))) (fault.TooLarge at) two.1 i)
by_term s at None (Some f) fine =
    let h = factor_none s f fine in
    ap (λ (faults : List FileFault). else_ faults (where_ (is_large_linear (linear_term s.allowed (alone (judged_factor s f).plain))) (fault.TooLarge at)))
    h.none
    ∙ ap (λ (y : Factor). where_ (is_large_linear (linear_term s.allowed (alone y))) (fault.TooLarge at)) h.plain
    ∙ one_none (is_large_linear (linear_term s.allowed (alone (plain_factor f)))) (fault.TooLarge at) h.small
by_term s at (Some d) (Some f) fine = absurd (cc)

term_none : (s : Scope) (t : TreeTerm) → fine_term s (plain_term t) ≡ true → (judged_term s t).faults ≡ []
term_none s t fine =
    let x = out-TreeTerm t in
    let plain : plain_term t ≡ plain_parts (parts x.at x.factor x.body) = fold_out-TreeTerm Factor Terms Term factor_layer sum_layer term_layer t in
    let judged : judged_term s t ≡ judged_parts s (parts x.at x.factor x.body) = fold_out-TreeTerm (WithFaults Factor) (WithFaults Terms) (WithFaults Term)
    (factor_judged s) (sum_judged s) (term_judged s) t in
    ap (λ (j : WithFaults Term). j.faults) judged ∙ by_term s x.at x.factor x.body (subst (λ (y : Term). fine_term s y ≡ true) plain fine)

items_none : (s : Scope) (xs : List (Sign × TreeTerm)) → fine_terms s (plain_terms xs) ≡ true
    → (judged_terms (map (λ x. (x.0, judged_term s x.1)) xs)).faults ≡ []
items_none s [] fine = refl
items_none s (x ∷ xs) fine =
    let two = and_parts (fine_term s (plain_term x.1)) (fine_terms s (plain_terms xs)) fine in
    λ i. term_none s x.1 two.0 i ++ items_none s xs two.1 i

sum_none : (s : Scope) (t : TreeSum) → fine_terms s (plain_sum t) ≡ true → sum_faults s t ≡ []
sum_none s t fine =
    ap (λ (j : WithFaults Terms). j.faults)
    (fold_out-TreeSum (WithFaults Factor) (WithFaults Terms) (WithFaults Term) (factor_judged s) (sum_judged s) (term_judged s) t)
    ∙ items_none s (out-TreeSum t).terms.items (subst (λ (ts : Terms). fine_terms s ts ≡ true) (plain_sum_out t) fine)

-- ---- comparisons and guards
comparison_none : (s : Scope) (c : TreeComparison) → fine_comparison s (plain_comparison c) ≡ true → comparison_faults s c ≡ []
comparison_none s c fine =
    let two = and_parts (fine_terms s (plain_sum c.left) && fine_terms s (plain_sum c.right)) (not (any_large (comparison_rows s.allowed (plain_comparison c))))
    fine in
    let sums = and_parts (fine_terms s (plain_sum c.left)) (fine_terms s (plain_sum c.right)) two.0 in
    λ i. else_ (sum_none s c.left sums.0 i ++ sum_none s c.right sums.1 i)
    (one_none (any_large (comparison_rows s.allowed (plain_comparison c))) (fault.TooLarge c.at) two.1 i)

condition_none : (s : Scope) (cs : List TreeComparison) → fine_condition s (map plain_comparison cs) ≡ true → condition_faults s cs ≡ []
condition_none s [] fine = refl
condition_none s (c ∷ cs) fine =
    let two = and_parts (fine_comparison s (plain_comparison c)) (fine_condition s (map plain_comparison cs)) fine in
    λ i. comparison_none s c two.0 i ++ condition_none s cs two.1 i

guard_none : (p : ℕ) (s : Scope) (g : Guards) (c : TreeComparison) → fine_guard p s g (plain_comparison c) ≡ true → guard_faults narrow p s g c ≡ []
guard_none p s g c fine =
    let rows = comparison_rows s.allowed (plain_comparison c) in
    let two = and_parts (fine_comparison s (plain_comparison c)) (not (is_no_threshold p rows) && not (is_one_more narrow p g rows)) fine in
    λ i. else_ (comparison_none s c two.0 i) (two_none (is_no_threshold p rows) (is_one_more narrow p g rows) (fault.NotThreshold c.at)
    (fault.TooMany c.at) two.1 i)

then_fine : (p : ℕ) (s : Scope) (g : Guards) (c : TreeComparison) → fine_guard p s g (plain_comparison c) ≡ true
    → guards_then narrow p s g c ≡ with_guards p g (comparison_rows s.allowed (plain_comparison c))
then_fine p s g c fine = ap (λ (faults : List FileFault). counted faults g (with_guards p g (comparison_rows s.allowed (plain_comparison c))))
    (guard_none p s g c fine)

guards_none : (p : ℕ) (s : Scope) (g : Guards) (cs : List TreeComparison) → fine_guards p s g (map plain_comparison cs) ≡ true
    → guards_faults narrow p s g cs ≡ []
guards_none p s g [] fine = refl
guards_none p s g (c ∷ cs) fine =
    let next = with_guards p g (comparison_rows s.allowed (plain_comparison c)) in
    let two = and_parts (fine_guard p s g (plain_comparison c)) (fine_guards p s next (map plain_comparison cs)) fine in
    let later : guards_faults narrow p s (guards_then narrow p s g c) cs ≡ [] = ap (λ (h : Guards). guards_faults narrow p s h cs) (then_fine p s g c two.0)
    ∙ guards_none p s next cs two.1 in
    λ i. guard_none p s g c two.0 i ++ later i

with_fine : (p : ℕ) (s : Scope) (g : Guards) (cs : List TreeComparison) → fine_guards p s g (map plain_comparison cs) ≡ true
    → guards_with narrow p s g cs ≡ guards_past p s g (map plain_comparison cs)
with_fine p s g [] fine = refl
with_fine p s g (c ∷ cs) fine =
    let next = with_guards p g (comparison_rows s.allowed (plain_comparison c)) in
    let two = and_parts (fine_guard p s g (plain_comparison c)) (fine_guards p s next (map plain_comparison cs)) fine in
    ap (λ (h : Guards). guards_with narrow p s h cs) (then_fine p s g c two.0) ∙ with_fine p s next cs two.1

-- ---- rules
updates_none : (ns : Names) (before : List (List ℕ)) (us : List TreeUpdate) → fine_updates ns before (map plain_update us) ≡ true
    → updates_faults ns before us ≡ []
updates_none ns before [] fine = refl
updates_none ns before (u ∷ us) fine =
    let n = u.name.name in
    let rest = fine_updates ns (before ++ n ∷ []) (map plain_update us) in
    let two = and_parts (not (has_name before n) && fine_use (all_names ns) ns.shared n) (fine_number u.amount.text && rest) fine in
    let name = and_parts (not (has_name before n)) (fine_use (all_names ns) ns.shared n) two.0 in
    let more = and_parts (fine_number u.amount.text) rest two.1 in
    λ i. else_ (one_none (has_name before n) (fault.Duplicate u.name.at) name.0 i) (use_none (all_names ns) ns.shared u.name name.1 i)
    ++ (number_none u.amount more.0 i ++ updates_none ns (before ++ n ∷ []) us more.1 i)

abbrev guards_fine : Names → Guards → TreeRule → Bool
guards_fine ns g r = fine_guards (length ns.parameters) (in_guards ns) g (map plain_comparison r.guards)

-- the errors of a rule, and the guards past it
record FineRule (ns : Names) (before : List (List ℕ)) (g : Guards) (r : TreeRule) : Type 0 where
  none : rule_faults narrow ns before g r ≡ []
  past : guards_with narrow (length ns.parameters) (in_guards ns) g r.guards ≡ guards_past (length ns.parameters) (in_guards ns) g
      (map plain_comparison r.guards)

rule_none : (ns : Names) (before : List (List ℕ)) (g : Guards) (r : TreeRule) → fine_rule ns before g (plain_rule r) ≡ true → FineRule ns before g r
rule_none ns before g r fine =
    let from = fine_use (all_names ns) ns.locations r.from.name in
    let to = fine_use (all_names ns) ns.locations r.to.name in
    let updates = fine_updates ns [] (map plain_update r.updates) in
    let a = and_parts (fine_name before r.name.name) (from && (to && (guards_fine ns g r && updates))) fine in
    let b = and_parts from (to && (guards_fine ns g r && updates)) a.1 in
    let c = and_parts to (guards_fine ns g r && updates) b.1 in
    let d = and_parts (guards_fine ns g r) updates c.1 in
    record {
      none = λ i. name_none before r.name a.0 i
          ++ (use_none (all_names ns) ns.locations r.from b.0 i
          ++ (use_none (all_names ns) ns.locations r.to c.0 i
          ++ (guards_none (length ns.parameters) (in_guards ns) g r.guards d.0 i ++ updates_none ns [] r.updates d.1 i)));
      past = with_fine (length ns.parameters) (in_guards ns) g r.guards d.0;
    }

rules_none : (ns : Names) (before : List (List ℕ)) (g : Guards) (rs : List TreeRule) → fine_rules ns before g (map plain_rule rs) ≡ true
    → rules_faults narrow ns before g rs ≡ []
rules_none ns before g [] fine = refl
rules_none ns before g (r ∷ rs) fine =
    let past = guards_past (length ns.parameters) (in_guards ns) g (map plain_comparison r.guards) in
    let two = and_parts (fine_rule ns before g (plain_rule r)) (fine_rules ns (before ++ r.name.name ∷ []) past (map plain_rule rs)) fine in
    let h = rule_none ns before g r two.0 in
    let later : rules_faults narrow ns (before ++ r.name.name ∷ []) (guards_with narrow (length ns.parameters) (in_guards ns) g r.guards) rs ≡ []
    = ap (λ (gs : Guards). rules_faults narrow ns (before ++ r.name.name ∷ []) gs rs) h.past ∙ rules_none ns (before ++ r.name.name ∷ []) past rs two.1 in
    λ i. h.none i ++ later i

-- ---- patterns
nothing_listed : (ns : List Spelled) → is_none (map plain_name ns) ≡ true → ns ≡ []
nothing_listed [] e = refl
nothing_listed (n ∷ ns) e = absurd (cc)

event_none : (ns : Names) (before : List (List ℕ)) (e : TreeEvent) → fine_event ns before (plain_event e) ≡ true → event_faults ns before e ≡ []
event_none ns before e fine =
    let condition = fine_condition (in_conditions ns) (map plain_comparison e.condition) in
    let a = and_parts (fine_name before e.name.name) (is_none (map plain_name e.after) && condition) fine in
    let b = and_parts (is_none (map plain_name e.after)) condition a.1 in
    λ i. name_none before e.name a.0 i
    ++ (listed_faults before before [] (nothing_listed e.after b.0 i) ++ condition_none (in_conditions ns) e.condition b.1 i)

events_none : (ns : Names) (before : List (List ℕ)) (es : List TreeEvent) → fine_events ns before (map plain_event es) ≡ true → events_faults ns before es ≡ []
events_none ns before [] fine = refl
events_none ns before (e ∷ es) fine =
    let two = and_parts (fine_event ns before (plain_event e)) (fine_events ns (before ++ e.name.name ∷ []) (map plain_event es)) fine in
    λ i. event_none ns before e two.0 i ++ events_none ns (before ++ e.name.name ∷ []) es two.1 i

pattern_none : (ns : Names) (before : List (List ℕ)) (p : TreePattern) → fine_pattern ns before (plain_pattern p) ≡ true → pattern_faults ns before p ≡ []
pattern_none ns before p fine =
    let start = fine_condition (in_conditions ns) (map plain_comparison p.start) in
    let events = fine_events ns [] (map plain_event p.events) in
    let a = and_parts (fine_name before p.name.name) (start && (is_none (map plain_name p.empty) && events)) fine in
    let b = and_parts start (is_none (map plain_name p.empty) && events) a.1 in
    let c = and_parts (is_none (map plain_name p.empty)) events b.1 in
    λ i. name_none before p.name a.0 i
    ++ (condition_none (in_conditions ns) p.start b.0 i
    ++ (listed_faults (all_names ns) ns.locations [] (nothing_listed p.empty c.0 i) ++ events_none ns [] p.events c.1 i))

patterns_none : (ns : Names) (before : List (List ℕ)) (ps : List TreePattern) → fine_patterns ns before (map plain_pattern ps) ≡ true
    → patterns_faults ns before ps ≡ []
patterns_none ns before [] fine = refl
patterns_none ns before (p ∷ ps) fine =
    let two = and_parts (fine_pattern ns before (plain_pattern p)) (fine_patterns ns (before ++ p.name.name ∷ []) (map plain_pattern ps)) fine in
    λ i. pattern_none ns before p two.0 i ++ patterns_none ns (before ++ p.name.name ∷ []) ps two.1 i

-- ---- trees
here_or_later : (a b c : Bool) → (b ≡ true → c ≡ true) → (if a then true else b) ≡ true → (a || c) ≡ true
here_or_later true b c later e = refl
here_or_later false b c later e = later e

initial_there : (ls : List TreeLocation) → some_initial (map plain_location ls) ≡ true → any_initial ls ≡ true
initial_there [] e = e
initial_there (l ∷ ls) e = here_or_later l.initial (some_initial (map plain_location ls)) (any_initial ls) (initial_there ls) e

not_missing : (a : Bool) (f : FileFault) → a ≡ true → where_ (not a) f ≡ []
not_missing true f e = refl
not_missing false f e = absurd (cc)

located : (ls : List TreeLocation) → map plain_name (map location_spelled ls) ≡ map location_name (map plain_location ls)
located [] = refl
located (l ∷ ls) = ap (λ (ns : List (List ℕ)). l.name.name ∷ ns) (located ls)

heads_none : (t : Tree) → fine_heads (names_of t) (plain_tree t) ≡ true → names_faults (names_of t) t ≡ []
heads_none t fine =
    let ns = names_of t in
    let parameters = fine_names [] (map plain_name t.parameters) in
    let shared = fine_names ns.parameters (map plain_name t.shared) in
    let initial = some_initial (map plain_location t.locations) in
    let locations = fine_names (guard_names ns) ns.locations in
    let a = and_parts (not (ltb 64 (length t.name.name))) (parameters && (shared && (initial && locations))) fine in
    let b = and_parts parameters (shared && (initial && locations)) a.1 in
    let c = and_parts shared (initial && locations) b.1 in
    let d = and_parts initial locations c.1 in
    let places : fine_names (guard_names ns) (map plain_name (map location_spelled t.locations)) ≡ true
    = subst (λ (names : List (List ℕ)). fine_names (guard_names ns) names ≡ true) (sym (located t.locations)) d.1 in
    λ i. one_none (is_long t.name) (fault.TooLarge t.name.at) a.0 i
    ++ (names_none [] t.parameters b.0 i
    ++ (names_none ns.parameters t.shared c.0 i
    ++ (not_missing (any_initial t.locations) (fault.NoInitial t.locations_at) (initial_there t.locations d.0) i
    ++ names_none (guard_names ns) (map location_spelled t.locations) places i)))

processes_none : (t : Tree) → fine_processes (names_of t) (plain_tree t) ≡ true → processes_faults (names_of t) t ≡ []
processes_none t fine =
    let ns = names_of t in
    let large = is_large_linear (linear_sum ns.parameters (plain_sum t.processes)) in
    let two = and_parts (fine_terms (in_parameters ns) (plain_sum t.processes)) (not large) fine in
    λ i. else_ (sum_none (in_parameters ns) t.processes two.0 i) (one_none large (fault.TooLarge t.processes_at) two.1 i)

-- a tree that passes the test has no error of meaning
pub no_faults : (t : Tree) → fine_tree (plain_tree t) ≡ true → meaning_faults narrow t ≡ []
no_faults t fine =
    let ns = names_of t in
    let resilience = fine_condition (in_parameters ns) (map plain_comparison t.resilience) in
    let rules = fine_rules ns [] no_guards (map plain_rule t.rules) in
    let patterns = fine_patterns ns [] (map plain_pattern t.patterns) in
    let a = and_parts (fine_heads ns (plain_tree t)) (fine_processes ns (plain_tree t) && (resilience && (rules && patterns))) fine in
    let b = and_parts (fine_processes ns (plain_tree t)) (resilience && (rules && patterns)) a.1 in
    let c = and_parts resilience (rules && patterns) b.1 in
    let d = and_parts rules patterns c.1 in
    λ i. heads_none t a.0 i
    ++ (processes_none t b.0 i
    ++ (condition_none (in_parameters ns) t.resilience c.0 i ++ (rules_none ns [] no_guards t.rules d.0 i ++ patterns_none ns [] t.patterns d.1 i)))
