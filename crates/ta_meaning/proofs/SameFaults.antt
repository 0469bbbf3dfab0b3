-- Trees that are the same but for where their sums' lists lie in memory have the same errors.
use Rattle.ta_meaning.proofs.Common.{Limits, ◌≡◌, ℕ, List, [], ◌∷◌, ◌++◌, length, map, refl, ap, ◌∙◌, Terms, plain_tree, TreeSum, TreeComparison, TreeRule}
use Rattle.ta_meaning.proofs.Common.{TreeEvent, TreePattern, Tree, FileFault, Names, guard_names, all_names, names_of, plain_names, Pairwise, comparison_rows}
use Rattle.ta_meaning.proofs.Common.{any_large, is_large_linear, linear_sum, Guards, no_guards, with_guards, is_no_threshold, is_one_more, Scope, WithFaults}
use Rattle.ta_meaning.proofs.Common.{where_, else_, is_long, declared_faults, declarations_faults, used_faults, listed_faults, sum_faults, comparison_faults}
use Rattle.ta_meaning.proofs.Common.{condition_faults, guard_faults, guards_faults, guards_with, in_parameters, in_guards, in_conditions, updates_faults}
use Rattle.ta_meaning.proofs.Common.{rule_faults, rules_faults, event_faults, events_faults, pattern_faults, patterns_faults, location_spelled, any_initial}
use Rattle.ta_meaning.proofs.Common.{processes_faults, names_faults, meaning_faults, counted, guards_then, not}
use Rattle.ta_meaning.proofs.OneSum.{SameSum, same_sum-plain, same_sum-judged}
use Rattle.ta_meaning.proofs.OnePart.{SameComparison, same_comparison-plain, SameRule, SameEvent, SamePattern, SameParts}
use Rattle.ta_syntax.specs.declared.fault.FileFault.TheVariants as fault

-- ---- sums and comparisons

sum-faults : (sc : Scope) (s r : TreeSum) → SameSum s r → sum_faults sc s ≡ sum_faults sc r
sum-faults sc s r h = ap (λ (j : WithFaults Terms). j.faults) (same_sum-judged sc s r h)

comparison-faults : (sc : Scope) (a b : TreeComparison) → SameComparison a b → comparison_faults sc a ≡ comparison_faults sc b
comparison-faults sc a b h = λ i. else_ (sum-faults sc a.left b.left h.left i ++ sum-faults sc a.right b.right h.right i)
    (where_ (any_large (comparison_rows sc.allowed (same_comparison-plain a b h i))) (fault.TooLarge (h.at i)))

condition-faults : (sc : Scope) (cs ds : List TreeComparison) → Pairwise SameComparison cs ds → condition_faults sc cs ≡ condition_faults sc ds
condition-faults sc [] [] h = refl
condition-faults sc [] (d ∷ ds) h = absurd h
condition-faults sc (c ∷ cs) [] h = absurd h
condition-faults sc (c ∷ cs) (d ∷ ds) h = λ i. comparison-faults sc c d h.0 i ++ condition-faults sc cs ds h.1 i

-- ---- guards

guard-faults : (l : Limits) (p : ℕ) (sc : Scope) (g : Guards) (a b : TreeComparison) → SameComparison a b → guard_faults l p sc g a ≡ guard_faults l p sc g b
guard-faults l p sc g a b h =
    λ i. else_ (comparison-faults sc a b h i)
    (else_ (where_ (is_no_threshold p (comparison_rows sc.allowed (same_comparison-plain a b h i))) (fault.NotThreshold (h.at i)))
    (where_ (is_one_more l p g (comparison_rows sc.allowed (same_comparison-plain a b h i))) (fault.TooMany (h.at i))))

guards-then : (l : Limits) (p : ℕ) (sc : Scope) (g : Guards) (a b : TreeComparison) → SameComparison a b → guards_then l p sc g a ≡ guards_then l p sc g b
guards-then l p sc g a b h = λ i. counted (guard-faults l p sc g a b h i) g (with_guards p g (comparison_rows sc.allowed (same_comparison-plain a b h i)))

guards-faults : (l : Limits) (p : ℕ) (sc : Scope) (g : Guards) (cs ds : List TreeComparison) → Pairwise SameComparison cs ds
    → guards_faults l p sc g cs ≡ guards_faults l p sc g ds
guards-faults l p sc g [] [] h = refl
guards-faults l p sc g [] (d ∷ ds) h = absurd h
guards-faults l p sc g (c ∷ cs) [] h = absurd h
guards-faults l p sc g (c ∷ cs) (d ∷ ds) h = λ i. guard-faults l p sc g c d h.0 i ++ guards-faults l p sc (guards-then l p sc g c d h.0 i) cs ds h.1 i

guards-with : (l : Limits) (p : ℕ) (sc : Scope) (g : Guards) (cs ds : List TreeComparison) → Pairwise SameComparison cs ds
    → guards_with l p sc g cs ≡ guards_with l p sc g ds
guards-with l p sc g [] [] h = refl
guards-with l p sc g [] (d ∷ ds) h = absurd h
guards-with l p sc g (c ∷ cs) [] h = absurd h
guards-with l p sc g (c ∷ cs) (d ∷ ds) h = λ i. guards-with l p sc (guards-then l p sc g c d h.0 i) cs ds h.1 i

-- ---- rules

rule-faults : (l : Limits) (ns : Names) (before : List (List ℕ)) (g : Guards) (a b : TreeRule) → SameRule a b
    → rule_faults l ns before g a ≡ rule_faults l ns before g b
rule-faults l ns before g a b h =
    λ i. declared_faults before (h.name i)
    ++ (used_faults (all_names ns) ns.locations (h.from i)
    ++ (used_faults (all_names ns) ns.locations (h.to i)
    ++ (guards-faults l (length ns.parameters) (in_guards ns) g a.guards b.guards h.guards i ++ updates_faults ns [] (h.updates i))))

rules-faults : (l : Limits) (ns : Names) (before : List (List ℕ)) (g : Guards) (rs qs : List TreeRule) → Pairwise SameRule rs qs
    → rules_faults l ns before g rs ≡ rules_faults l ns before g qs
rules-faults l ns before g [] [] h = refl
rules-faults l ns before g [] (q ∷ qs) h = absurd h
rules-faults l ns before g (r ∷ rs) [] h = absurd h
rules-faults l ns before g (r ∷ rs) (q ∷ qs) h =
    λ i. rule-faults l ns before g r q h.0 i
    ++ rules-faults l ns (before ++ (h.0.name i).name ∷ []) (guards-with l (length ns.parameters) (in_guards ns) g r.guards q.guards h.0.guards i) rs qs h.1 i

-- ---- patterns

event-faults : (ns : Names) (before : List (List ℕ)) (a b : TreeEvent) → SameEvent a b → event_faults ns before a ≡ event_faults ns before b
event-faults ns before a b h = λ i. declared_faults before (h.name i)
    ++ (listed_faults before before [] (h.after i) ++ condition-faults (in_conditions ns) a.condition b.condition h.condition i)

events-faults : (ns : Names) (before : List (List ℕ)) (es fs : List TreeEvent) → Pairwise SameEvent es fs
    → events_faults ns before es ≡ events_faults ns before fs
events-faults ns before [] [] h = refl
events-faults ns before [] (f ∷ fs) h = absurd h
events-faults ns before (e ∷ es) [] h = absurd h
events-faults ns before (e ∷ es) (f ∷ fs) h = λ i. event-faults ns before e f h.0 i ++ events-faults ns (before ++ (h.0.name i).name ∷ []) es fs h.1 i

pattern-faults : (ns : Names) (before : List (List ℕ)) (a b : TreePattern) → SamePattern a b → pattern_faults ns before a ≡ pattern_faults ns before b
pattern-faults ns before a b h =
    λ i. declared_faults before (h.name i)
    ++ (condition-faults (in_conditions ns) a.start b.start h.start i
    ++ (listed_faults (all_names ns) ns.locations [] (h.empty i) ++ events-faults ns [] a.events b.events h.events i))

patterns-faults : (ns : Names) (before : List (List ℕ)) (ps qs : List TreePattern) → Pairwise SamePattern ps qs
    → patterns_faults ns before ps ≡ patterns_faults ns before qs
patterns-faults ns before [] [] h = refl
patterns-faults ns before [] (q ∷ qs) h = absurd h
patterns-faults ns before (p ∷ ps) [] h = absurd h
patterns-faults ns before (p ∷ ps) (q ∷ qs) h = λ i. pattern-faults ns before p q h.0 i ++ patterns-faults ns (before ++ (h.0.name i).name ∷ []) ps qs h.1 i

-- ---- trees

names-faults : (ns : Names) (t u : Tree) → SameParts t u → names_faults ns t ≡ names_faults ns u
names-faults ns t u h =
    λ i. where_ (is_long (h.name i)) (fault.TooLarge (h.name i).at)
    ++ (declarations_faults [] (h.parameters i)
    ++ (declarations_faults ns.parameters (h.shared i)
    ++ (where_ (not (any_initial (h.locations i))) (fault.NoInitial (h.locations_at i))
    ++ declarations_faults (guard_names ns) (map location_spelled (h.locations i)))))

processes-faults : (ns : Names) (t u : Tree) → SameParts t u → processes_faults ns t ≡ processes_faults ns u
processes-faults ns t u h =
    λ i. else_ (sum-faults (in_parameters ns) t.processes u.processes h.processes i)
    (where_ (is_large_linear (linear_sum ns.parameters (same_sum-plain t.processes u.processes h.processes i))) (fault.TooLarge (h.processes_at i)))

abbrev meaning-by : Limits → Names → Tree → List FileFault
meaning-by l ns t = names_faults ns t ++
    (processes_faults ns t ++ (condition_faults (in_parameters ns) t.resilience
    ++ (rules_faults l ns [] no_guards t.rules ++ patterns_faults ns [] t.patterns)))

meaning-same : (l : Limits) (ns : Names) (t u : Tree) → SameParts t u → meaning-by l ns t ≡ meaning-by l ns u
meaning-same l ns t u h =
    λ i. names-faults ns t u h i
    ++ (processes-faults ns t u h i
    ++ (condition-faults (in_parameters ns) t.resilience u.resilience h.resilience i
    ++ (rules-faults l ns [] no_guards t.rules u.rules h.rules i ++ patterns-faults ns [] t.patterns u.patterns h.patterns i)))

pub meaning-faults : (l : Limits) (t u : Tree) → plain_tree t ≡ plain_tree u → SameParts t u → meaning_faults l t ≡ meaning_faults l u
meaning-faults l t u e h = meaning-same l (names_of t) t u h ∙ ap (λ (ns : Names). meaning-by l ns u) (ap plain_names e)
