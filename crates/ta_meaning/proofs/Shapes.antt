-- What an automaton's type keeps, of the parts that a tree resolves to
use Rattle.ta_meaning.proofs.Common.{Limits, paired_length, ℕ, ◌+◌, ◌≤◌, ◌<◌, ◌≡◌, true, false, ◌||◌, if◌then◌else◌, List, [], ◌∷◌, length, map, arith}
use Rattle.ta_meaning.proofs.Common.{length-map, PlainLocation, plain_location, TreeLocation, Rises, initial_from, plain_sum, plain_comparison, plain_rule}
use Rattle.ta_meaning.proofs.Common.{Tree, Form, Row, Condition, Rule, AutomatonShape, names_of, location_name, ResolvedForm, ResolvedCondition, ResolvedRules}
use Rattle.ta_meaning.proofs.Common.{any_initial, names_faults, rises-wider}
use Rattle.ta_meaning.proofs.Declared.{name-legal, names-legal, names-distinct, some_initial}

-- the numbers of the marked locations rise
pub initial-rises : (k high : ℕ) (ls : List PlainLocation) → k + length ls ≤ high → Rises k high (initial_from k ls)
initial-rises k high [] h = tt
initial-rises k high (location ∷ ls) h =
    let below : k < high = omega arith in
    let later : Rises (k + 1) high (initial_from (k + 1) ls) = initial-rises (k + 1) high ls (omega arith) in
    elim location.initial as (λ b. Rises k high (if b then k ∷ initial_from (k + 1) ls else initial_from (k + 1) ls))
    [ true ↦ (omega arith, below, later) | false ↦ rises-wider (k + 1) high k high (initial_from (k + 1) ls) (omega arith) (omega arith) later ]

-- where a location is marked, some number is listed
pub some-initial : (k : ℕ) (ls : List TreeLocation) → any_initial ls ≡ true → 1 ≤ length (initial_from k (map plain_location ls))
some-initial k [] h = cc
some-initial k (location ∷ ls) h =
    elim location.initial as (λ b. (b || any_initial ls) ≡ true
    → 1 ≤ length (if b then k ∷ initial_from (k + 1) (map plain_location ls) else initial_from (k + 1) (map plain_location ls)))
    [ true ↦ (λ e. omega arith) | false ↦ (λ e. some-initial (k + 1) ls e) ] h

-- the parts of an automaton that a tree resolves to keep what its type keeps
pub automaton_shape :
    (l : Limits) (t : Tree) (processes : Form) (resilience : Condition) (rise fall : List Row) (rules : List Rule)
    → names_faults (names_of t) t ≡ []
    → ResolvedForm (names_of t).parameters (plain_sum t.processes) processes
    → ResolvedCondition (names_of t).parameters (map plain_comparison t.resilience) resilience
    → ResolvedRules l (names_of t) (map plain_rule t.rules) rise fall rules
    → AutomatonShape t.name.name (names_of t).parameters (names_of t).shared (names_of t).locations (initial_from 0 (map plain_location t.locations)) processes
    resilience rise fall rules
automaton_shape l t processes resilience rise fall rules none p r rs = record {
  limits = record {
    parameters_limit = rw length-map t.few_parameters;
    shared_limit = rw length-map t.few_shared;
    locations_limit = rw (length-map, length-map) t.few_locations;
    rise_limit = omega (arith, rs.guards.rise_limit, l.few_rises);
    fall_limit = omega (arith, rs.guards.fall_limit, l.few_falls);
    rules_limit = rw (paired_length _ _ _ rs.means, length-map) t.few_rules;
  };
  name_legal = name-legal t none;
  names_legal = names-legal t none;
  names_distinct = names-distinct t none;
  some_initial = some-initial 0 t.locations (some_initial t none);
  initial_rises = initial-rises 0 _ (map plain_location t.locations) (rw (length-map (map plain_location t.locations) location_name) (omega arith));
  processes_over = p.over;
  resilience_over = r.over;
  rise_rows = rs.guards.rise_rows;
  rise_distinct = rs.guards.rise_distinct;
  fall_rows = rs.guards.fall_rows;
  fall_distinct = rs.guards.fall_distinct;
  rules_within = rs.within;
  rules_distinct = rs.distinct;
}

-- the same of an automaton's fields, given what they are
pub automaton_shape-along :
    (l : Limits) (t : Tree) (name : List ℕ) (parameters shared locations : List (List ℕ)) (initial : List ℕ) (processes : Form) (resilience : Condition)
    (rise fall rise' fall' : List Row) (rules rules' : List Rule)
    → name ≡ t.name.name → parameters ≡ (names_of t).parameters → shared ≡ (names_of t).shared → locations ≡ (names_of t).locations
    → initial ≡ initial_from 0 (map plain_location t.locations) → rise' ≡ rise → fall' ≡ fall → rules' ≡ rules
    → names_faults (names_of t) t ≡ []
    → ResolvedForm (names_of t).parameters (plain_sum t.processes) processes
    → ResolvedCondition (names_of t).parameters (map plain_comparison t.resilience) resilience
    → ResolvedRules l (names_of t) (map plain_rule t.rules) rise fall rules
    → AutomatonShape name parameters shared locations initial processes resilience rise' fall' rules'
automaton_shape-along l t name parameters shared locations initial processes resilience rise fall rise' fall' rules rules' n p s location i r f u none form
    condition all
    =
    rw (n, p, s, location, i, r, f, u) (automaton_shape l t processes resilience rise fall rules none form condition all)
