-- A tree without errors of meaning means a file.
use Rattle.ta_meaning.proofs.Common.{Limits, ◌≡◌, ◌≤◌, [], ◌++◌, map, length, refl, arith, length-map, distinct_right, plain_sum, plain_location, plain_tree}
use Rattle.ta_meaning.proofs.Common.{Tree, Automaton, File, names_of, no_guards, linear_sum, is_large_linear, initial_from, MeansAutomaton, MeansTree, where_}
use Rattle.ta_meaning.proofs.Common.{sum_faults, condition_faults, in_parameters, processes_faults, names_faults, rules_faults, patterns_faults, meaning_faults}
use Rattle.ta_meaning.proofs.Common.{empty_left, empty_right, paired_length, List, Row, Rule, Guards, RowOf, ResolvedRules, guards_of, plain_rule}
use Rattle.ta_meaning.proofs.Answering.{not-where, none-else-left, none-else-right}
use Rattle.ta_meaning.proofs.Declared.{names-distinct}
use Rattle.ta_meaning.proofs.DeclaredTrees.{lengths}
use Rattle.ta_meaning.proofs.Shapes.{automaton_shape}
use Rattle.ta_meaning.proofs.Whole.{patterns_shape-of, means_automaton}
use Rattle.ta_meaning.proofs.MadeForms.{sum_exists, condition_exists}
use Rattle.ta_meaning.proofs.MadePatterns.{FineNames, patterns_exist}
use Rattle.ta_meaning.proofs.MadeRules.{rules_exist}
use Rattle.ta_syntax.specs.declared.fault.FileFault.TheVariants as fault

fine_names : (t : Tree) → names_faults (names_of t) t ≡ [] → FineNames (names_of t)
fine_names t none =
    let ns = names_of t in
    let distinct = names-distinct t none in
    record {
      distinct = distinct;
      locations_distinct = distinct_right (ns.parameters ++ ns.shared) ns.locations distinct;
      parameters = rw length-map t.few_parameters;
      shared = rw length-map t.few_shared;
      locations = rw (length-map, length-map) t.few_locations;
      all = omega (arith, lengths t, t.few_parameters, t.few_shared, t.few_locations);
    }

-- the rules that the rules of a tree without errors of meaning mean, with their guards
made_rules : (l : Limits) (t : Tree) → meaning_faults l t ≡ []
    → (rise fall : List Row) × (rules : List Rule) × ResolvedRules l (names_of t) (map plain_rule t.rules) rise fall rules
made_rules l t none =
    let ns = names_of t in
    let names = names_faults ns t in
    let sum = processes_faults ns t in
    let holds = condition_faults (in_parameters ns) t.resilience in
    let rules = rules_faults l ns [] no_guards t.rules in
    let patterns = patterns_faults ns [] t.patterns in
    let after_sum = empty_right sum (holds ++ (rules ++ patterns)) (empty_right names (sum ++ (holds ++ (rules ++ patterns))) none) in
    rules_exist l ns (fine_names t (empty_left names (sum ++ (holds ++ (rules ++ patterns))) none)) t.rules
    (empty_left rules patterns (empty_right holds (rules ++ patterns) after_sum))

-- how many guards there are without errors of meaning
pub record FewGuards (l : Limits) (guards : Guards) : Type 0 where
  pub rise : length guards.rise ≤ l.rises
  pub fall : length guards.fall ≤ l.falls

pub few_guards : (l : Limits) (t : Tree) → meaning_faults l t ≡ [] → FewGuards l (guards_of (names_of t) (map plain_rule t.rules))
few_guards l t none =
    let guards = guards_of (names_of t) (map plain_rule t.rules) in
    let rs = made_rules l t none in
    let rises = paired_length RowOf guards.rise rs.0 rs.3.guards.rise_of in
    let falls = paired_length RowOf guards.fall rs.1 rs.3.guards.fall_of in
    record { rise = omega (arith, rises, rs.3.guards.rise_limit); fall = omega (arith, falls, rs.3.guards.fall_limit) }

pub file_exists : (l : Limits) (t : Tree) → meaning_faults l t ≡ [] → (file : File) × MeansTree (plain_tree t) file
file_exists l t none =
    let ns = names_of t in
    let names = names_faults ns t in
    let sum = processes_faults ns t in
    let holds = condition_faults (in_parameters ns) t.resilience in
    let rules = rules_faults l ns [] no_guards t.rules in
    let patterns = patterns_faults ns [] t.patterns in
    let no_names = empty_left names (sum ++ (holds ++ (rules ++ patterns))) none in
    let after_names = empty_right names (sum ++ (holds ++ (rules ++ patterns))) none in
    let no_sum = empty_left sum (holds ++ (rules ++ patterns)) after_names in
    let after_sum = empty_right sum (holds ++ (rules ++ patterns)) after_names in
    let after_holds = empty_right holds (rules ++ patterns) after_sum in
    let fine = fine_names t no_names in
    let few : length ns.parameters ≤ 224 = omega (arith, fine.parameters) in
    let large = where_ (is_large_linear (linear_sum ns.parameters (plain_sum t.processes))) (fault.TooLarge t.processes_at) in
    let terms = sum_faults (in_parameters ns) t.processes in
    let p = sum_exists (in_parameters ns) t.processes few (none-else-left terms large no_sum)
    (not-where (is_large_linear (linear_sum ns.parameters (plain_sum t.processes))) (fault.TooLarge t.processes_at) (none-else-right terms large no_sum)) in
    let r = condition_exists (in_parameters ns) t.resilience few t.few_resilience (empty_left holds (rules ++ patterns) after_sum) in
    let rs = made_rules l t none in
    let ps = patterns_exist ns fine t.patterns t.few_patterns (empty_right rules patterns after_holds) in
    let automaton : Automaton = record {
      name = t.name.name;
      parameters = ns.parameters;
      shared = ns.shared;
      locations = ns.locations;
      initial = initial_from 0 (map plain_location t.locations);
      processes = p.0;
      resilience = r.0;
      rise = rs.0;
      fall = rs.1;
      rules = rs.2;
      shape = automaton_shape l t p.0 r.0 rs.0 rs.1 rs.2 no_names p.1 r.1 rs.3;
    } in
    let means : MeansAutomaton (plain_tree t) automaton = means_automaton l t automaton rs.0 rs.1 rs.2 refl refl refl refl refl refl refl refl p.1 r.1 rs.3 in (
      record { automaton = automaton; patterns = ps.0; shape = patterns_shape-of t ns.parameters ns.shared ns.locations ps.0 ps.0 refl refl refl ps.1 refl },
      record { automaton = means; patterns = ps.1.means },
    )
