use Rattle.ta_maker.proofs.Common.{◌≡◌, ◌∙◌, sym, ap, length, arith, length-map, codes, lone, name, plain_comparison, plain_location, plain_name, plain_pattern}
use Rattle.ta_maker.proofs.Common.{plain_rule, plain_sum, numbered}
use Rattle.ta_maker.proofs.Counting.{few_rules}
use Rattle.ta_maker.proofs.Naming.{is_lone, name_n, shallow_lone}
use Rattle.ta_base.proofs.Ranges.{few_counted}
use Rattle.ta_maker.proofs.family.family.Goals as goal

pub spelled-requires : goal.spelled-requires
spelled-requires c = name_n

pub invariant_of-result : goal.invariant_of-result
invariant_of-result c =
    let head = c.in_ok-head.head in
    let is = c.in_ok-head.ensures in
    let parameters : length head.parameters ≡ 1 = sym (length-map head.parameters plain_name) ∙ ap length is.parameters in
    let locations : length head.locations ≡ 2 = sym (length-map head.locations plain_location) ∙ ap length is.locations in
    let resilience : length c.in_ok-resilience.resilience ≡ 1 = sym (length-map c.in_ok-resilience.resilience plain_comparison)
    ∙ ap length c.in_ok-resilience.ensures in
    let patterns : length c.in_ok-patterns.patterns ≡ 1 = sym (length-map c.in_ok-patterns.patterns plain_pattern) ∙ ap length c.in_ok-patterns.ensures in
    let named = c.in_ok-spelled.field-0 in
    record {
      few_parameters = omega (arith, parameters);
      few_shared = few_counted plain_name (numbered (codes "x")) head.shared c.args.k 64 (let b = c.requires.high in omega arith) is.shared;
      some_locations = omega (arith, locations);
      few_locations = omega (arith, locations);
      is_processes = is_lone _ _ named.name c.in_ok-processes.ensures c.name_term.ensures named.legal;
      shallow_processes = shallow_lone _ _ named.name c.in_ok-processes.ensures c.name_term.ensures;
      few_resilience = omega (arith, resilience);
      few_rules = omega (arith, few_rules plain_rule c.in_ok-rules.rules c.args.k c.requires.high c.in_ok-rules.ensures);
      few_patterns = omega (arith, patterns);
    }

-- a tree is its parts
pub returns : goal.returns
returns c =
    let is = c.in_ok-head.ensures in
    let processes : plain_sum c.in_ok-processes.processes ≡ lone (name (codes "n")) = c.in_ok-processes.ensures
    ∙ ap lone (c.name_term.ensures ∙ ap name c.in_ok-spelled.ensures) in
    λ i. record {
      name = is.name i;
      parameters = is.parameters i;
      shared = is.shared i;
      locations = is.locations i;
      processes = processes i;
      resilience = c.in_ok-resilience.ensures i;
      rules = c.in_ok-rules.ensures i;
      patterns = c.in_ok-patterns.ensures i;
    }
