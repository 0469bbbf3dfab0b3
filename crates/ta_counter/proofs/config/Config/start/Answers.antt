use Rattle.ta_counter.proofs.Common.{ℤ, List, length, arith, err_is, Automaton, StartsAt, Filling}
use Rattle.ta_counter.proofs.Filling.{fill_end}
use Rattle.ta_counter.proofs.Starting.{starts_initial, starts_of, no_start}
use Rattle.ta_counter.proofs.config.Config.start.Goals as goal

whole : (a : Automaton) (parameters counts values : List ℤ) → Filling a parameters counts values (length a.initial) → StartsAt a parameters counts values
whole a parameters counts values f = fill_end a parameters counts values (length a.initial) f (omega arith)

pub returns-in_err-check_start-clause-no_start : goal.returns-in_err-check_start-clause-no_start
returns-in_err-check_start-clause-no_start c =
    rw (err_is c.from_residual.result _ c.from_residual.ensures.1)
    (no_start c.args.automaton.now c.args.parameters.now c.args.counts.now _ c.requires.parameters c.requires.counts c.requires.parameters_natural
    c.requires.counts_natural c.in_err-check_start.ensures)

pub returns-clause-initial : goal.returns-clause-initial
returns-clause-initial c =
    starts_initial c.args.automaton.now c.args.parameters.now c.args.counts.now c.start_values.result.items c.requires.counts c.requires.parameters_natural
    c.start_values.ensures.natural (whole c.args.automaton.now c.args.parameters.now c.args.counts.now c.start_values.result.items c.start_values.ensures)
    c.in_ok-check_start.ensures

pub returns-clause-is_of : goal.returns-clause-is_of
returns-clause-is_of c =
    starts_of c.args.automaton.now c.args.parameters.now c.args.counts.now c.start_values.result.items c.requires.counts
    (whole c.args.automaton.now c.args.parameters.now c.args.counts.now c.start_values.result.items c.start_values.ensures) c.in_ok-check_start.ensures

pub returns-clause-answer : goal.returns-clause-answer
returns-clause-answer c = (
  whole c.args.automaton.now c.args.parameters.now c.args.counts.now c.start_values.result.items c.start_values.ensures,
  c.in_ok-check_start.ensures,
)
