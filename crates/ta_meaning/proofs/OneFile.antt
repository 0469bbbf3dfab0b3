-- A tree means at most one file.
use Rattle.ta_meaning.proofs.Common.{◌≡◌, inl, inr, ℕ, ℤ, pos, ◌^◌, List, [], ◌∷◌, ◌++◌, sym, ap, ◌∙◌, refl, subst, mask-one, distinct_at, distinct_left}
use Rattle.ta_meaning.proofs.Common.{distinct_right, Form, normal_unique, PlainEvent, PlainTree, Distinct, Event, Automaton, File, number_of, Names}
use Rattle.ta_meaning.proofs.Common.{guard_names, all_names, plain_names, Linear, FormOf, RowOf, linear_sum, comparison_rows, MeansComparison, MeansCondition}
use Rattle.ta_meaning.proofs.Common.{Guards, MeansUpdates, MeansRule, MeansAutomaton, MeansEvent, MeansEvents, MeansPattern, MeansTree, guards_of}
use Rattle.ta_meaning.proofs.EqualParts.{form-equal, row-equal, comparison-equal, condition-equal, rule-equal, event-equal, pattern-equal, automaton-equal}
use Rattle.ta_meaning.proofs.EqualParts.{file-equal}
use Rattle.ta_base.proofs.Pairwise.{pairwise-one}

-- ---- lists

-- each thing has at most one other in a relation
abbrev pub AtMostOne : {A B : Type 0} → (A → B → Type 0) → Type 0
AtMostOne {A} {B} R = (a : A) (x y : B) → R a x → R a y → x ≡ y

-- ---- forms, rows and conditions
pub form-one : (linear : Linear) (a b : Form) → FormOf linear a → FormOf linear b → a ≡ b
form-one linear a b p q =
    form-equal a b (p.constant ∙ sym q.constant)
    (normal_unique 0 (2 ^ 32) a.terms b.terms a.normal b.normal (λ i. p.coefficients i ∙ sym (q.coefficients i)))

pub row-one : AtMostOne RowOf
row-one linear a b p q = row-equal a b (form-one linear a.form b.form p q)

pub comparison-one : (names : List (List ℕ)) → AtMostOne (MeansComparison names)
comparison-one names c a b p q = comparison-equal a b (pairwise-one RowOf row-one (comparison_rows names c) a.rows b.rows p.rows q.rows)

pub condition-one : (names : List (List ℕ)) → AtMostOne (MeansCondition names)
condition-one names cs a b p q = condition-equal a b (pairwise-one (MeansComparison names) (comparison-one names) cs a.comparisons b.comparisons p q)

-- ---- rules
pub updates-one : (shared : List (List ℕ)) → Distinct shared → AtMostOne (MeansUpdates shared)
updates-one shared d [] a b p q = p ∙ sym q
updates-one shared d (u ∷ us) a b (inl p) (inl q) = updates-one shared d us a b p.2 q.2
updates-one shared d (u ∷ us) a b (inl p) (inr q) = absurd (q.0 p.0)
updates-one shared d (u ∷ us) a b (inr p) (inl q) = absurd (p.0 q.0)
updates-one shared d (u ∷ us) a b (inr p) (inr q) =
    let x : p.1.0 ≡ q.1.0 = distinct_at shared p.1.0 q.1.0 u.name d p.1.2 q.1.2 in
    let rest : p.1.1 ≡ q.1.1 = updates-one shared d us p.1.1 q.1.1 p.1.4 q.1.4 in
    p.1.3
    ∙ ap (λ (z : ℕ). (z, pos (number_of u.amount)) ∷ p.1.1) x
    ∙ ap (λ (z : List (ℕ × ℤ)). (q.1.0, pos (number_of u.amount)) ∷ z) rest
    ∙ sym q.1.3

pub rule-one : (ns : Names) (guards : Guards) → Distinct ns.shared → Distinct ns.locations → AtMostOne (MeansRule ns guards)
rule-one ns guards shared locations r a b p q = rule-equal a b (record {
  name = p.name ∙ sym q.name;
  from = distinct_at ns.locations a.from b.from r.from locations p.from q.from;
  to = distinct_at ns.locations a.to b.to r.to locations p.to q.to;
  rise = mask-one _ a.rise b.rise p.rise q.rise;
  fall = mask-one _ a.fall b.fall p.fall q.fall;
  updates = updates-one ns.shared shared r.updates a.updates b.updates p.updates q.updates;
})

-- ---- patterns
pub event-one : (ns : Names) (before : List (List ℕ)) → AtMostOne (MeansEvent ns before)
event-one ns before e a b p q =
    event-equal a b (p.name ∙ sym q.name) (mask-one _ a.after b.after p.after.bits q.after.bits)
    (condition-one (all_names ns) e.condition a.condition b.condition p.condition q.condition)

pub events-one : (ns : Names) (before : List (List ℕ)) (es : List PlainEvent) (a b : List Event) → MeansEvents ns before es a → MeansEvents ns before es b
    → a ≡ b
events-one ns before [] [] [] p q = refl
events-one ns before [] [] (y ∷ b) p q = absurd q
events-one ns before [] (x ∷ a) b p q = absurd p
events-one ns before (e ∷ es) [] b p q = absurd p
events-one ns before (e ∷ es) (x ∷ a) [] p q = absurd q
events-one ns before (e ∷ es) (x ∷ a) (y ∷ b) p q =
    let first : x ≡ y = event-one ns before e x y p.0 q.0 in
    let rest : a ≡ b = events-one ns (before ++ e.name ∷ []) es a b p.1 q.1 in
    cc

pub pattern-one : (ns : Names) → AtMostOne (MeansPattern ns)
pattern-one ns t a b p q =
    pattern-equal a b (p.name ∙ sym q.name) (condition-one (all_names ns) t.start a.start b.start p.start q.start)
    (mask-one _ a.empty b.empty p.empty.bits q.empty.bits) (events-one ns [] t.events a.events b.events p.events q.events)

-- ---- automata and files

-- the names of a tree that means an automaton are distinct
pub names-apart : (t : PlainTree) (a : Automaton) → MeansAutomaton t a → Distinct (all_names (plain_names t))
names-apart t a m =
    subst (λ (zs : List (List ℕ)). Distinct (zs ++ (plain_names t).shared ++ (plain_names t).locations)) m.parameters
    (subst (λ (zs : List (List ℕ)). Distinct (a.parameters ++ zs ++ (plain_names t).locations)) m.shared
    (subst (λ (zs : List (List ℕ)). Distinct (a.parameters ++ a.shared ++ zs)) m.locations a.shape.names_distinct))

pub automaton-one : AtMostOne MeansAutomaton
automaton-one t a b p q =
    let ns = plain_names t in
    let guards = guards_of ns t.rules in
    let apart : Distinct (all_names ns) = names-apart t a p in
    let shared : Distinct ns.shared = distinct_right ns.parameters ns.shared (distinct_left (guard_names ns) ns.locations apart) in
    let locations : Distinct ns.locations = distinct_right (guard_names ns) ns.locations apart in
    automaton-equal a b (record {
      name = p.name ∙ sym q.name;
      parameters = p.parameters ∙ sym q.parameters;
      shared = p.shared ∙ sym q.shared;
      locations = p.locations ∙ sym q.locations;
      initial = p.initial ∙ sym q.initial;
      processes = form-one (linear_sum t.parameters t.processes) a.processes b.processes p.processes.numbers q.processes.numbers;
      resilience = condition-one t.parameters t.resilience a.resilience b.resilience p.resilience q.resilience;
      rise = pairwise-one RowOf row-one guards.rise a.rise b.rise p.rise q.rise;
      fall = pairwise-one RowOf row-one guards.fall a.fall b.fall p.fall q.fall;
      rules = pairwise-one (MeansRule ns guards) (rule-one ns guards shared locations) t.rules a.rules b.rules p.rules q.rules;
    })

-- a tree means at most one file
pub one_file : (t : PlainTree) (f g : File) → MeansTree t f → MeansTree t g → f ≡ g
one_file t f g p q =
    file-equal f g (automaton-one t f.automaton g.automaton p.automaton q.automaton)
    (pairwise-one (MeansPattern (plain_names t)) (pattern-one (plain_names t)) t.patterns f.patterns g.patterns p.patterns q.patterns)
