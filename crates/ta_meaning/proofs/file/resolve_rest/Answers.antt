use Rattle.ta_meaning.proofs.Common.{Ok, Err, refl, err_is}
use Rattle.ta_meaning.proofs.Whole.{rules-answer, patterns-answer, at-rules, at-patterns, all-clean, patterns_shape-of, means_automaton}
use Rattle.ta_meaning.proofs.Shapes.{automaton_shape-along}
use Rattle.ta_meaning.proofs.file.resolve_rest.Goals as goal

pub returns-in_err-rules : goal.returns-in_err-rules
returns-in_err-rules c =
    let all = rules-answer c.args.limits.now c.args.places.now c.args.tree (Err c.in_err-rules.field-0.0) c.requires.places
    (rw c.into_vec.ensures at c.in_err-rules.ensures) in
    rw (err_is c.from_residual.result _ c.from_residual.ensures.1) (at-rules c.args.limits.now c.args.tree c.in_err-rules.field-0.0 c.requires.clean all)

pub returns-in_err-patterns : goal.returns-in_err-patterns
returns-in_err-patterns c =
    let all = rules-answer c.args.limits.now c.args.places.now c.args.tree (Ok c.in_ok-rules.rules) c.requires.places
    (rw c.into_vec.ensures at c.in_ok-rules.ensures) in
    let patterns = patterns-answer c.args.places.now c.args.tree (Err c.in_err-patterns.field-0.0) c.requires.places
    (rw c.into_vec-2.ensures at c.in_err-patterns.ensures) in
    rw (err_is c.from_residual-in_err-patterns.result _ c.from_residual-in_err-patterns.ensures.1)
    (at-patterns c.args.limits.now c.args.tree c.in_err-patterns.field-0.0 c.requires.clean all.0 patterns)

pub invariant_of-automaton : goal.invariant_of-automaton
invariant_of-automaton c =
    let all = rules-answer c.args.limits.now c.args.places.now c.args.tree (Ok c.in_ok-rules.rules) c.requires.places
    (rw c.into_vec.ensures at c.in_ok-rules.ensures) in
    let declared = c.in_ok-names.ensures in
    record {
      shape = automaton_shape-along c.args.limits.now c.args.tree _ _ _ _ _ c.args.head.processes c.args.head.resilience c.in_ok-rules.rules.rise.items
          c.in_ok-rules.rules.fall.items _ _ c.in_ok-rules.rules.rules.items _
          refl declared.parameters declared.shared declared.locations declared.initial c.from_vec.ensures c.from_vec-2.ensures c.from_vec-3.ensures
          c.requires.clean.names c.requires.head.processes c.requires.head.resilience all.1;
    }

pub invariant_of-result : goal.invariant_of-result
invariant_of-result c =
    let patterns = patterns-answer c.args.places.now c.args.tree (Ok c.in_ok-patterns.patterns) c.requires.places
    (rw c.into_vec-2.ensures at c.in_ok-patterns.ensures) in
    let declared = c.in_ok-names.ensures in
    record {
      shape = patterns_shape-of c.args.tree _ _ _ c.in_ok-patterns.patterns.items c.from_vec-4.result declared.parameters declared.shared
          declared.locations patterns.1 c.from_vec-4.ensures;
    }

pub returns : goal.returns
returns c =
    let all = rules-answer c.args.limits.now c.args.places.now c.args.tree (Ok c.in_ok-rules.rules) c.requires.places
    (rw c.into_vec.ensures at c.in_ok-rules.ensures) in
    let patterns = patterns-answer c.args.places.now c.args.tree (Ok c.in_ok-patterns.patterns) c.requires.places
    (rw c.into_vec-2.ensures at c.in_ok-patterns.ensures) in
    let declared = c.in_ok-names.ensures in
    let automaton = means_automaton c.args.limits.now c.args.tree _ c.in_ok-rules.rules.rise.items c.in_ok-rules.rules.fall.items
    c.in_ok-rules.rules.rules.items
    refl declared.parameters declared.shared declared.locations declared.initial c.from_vec.ensures c.from_vec-2.ensures c.from_vec-3.ensures
    c.requires.head.processes c.requires.head.resilience all.1 in (
      all-clean c.args.limits.now c.args.tree c.requires.clean all.0 patterns.0,
      record
          { automaton = automaton; patterns = rw c.from_vec-4.ensures patterns.1.means },
    )
