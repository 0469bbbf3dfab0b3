use Rattle.ta_automaton.proofs.Examples.{first_unsafe}
use Rattle.ta_automaton.proofs.RunLaws.{counters_add_up, parameters_stay, shared_never_falls, rise_guards_stay_true, fall_guards_stay_false}
use Rattle.ta_automaton.proofs.RunLaws.{counters_by_firings, shared_by_firings}
use Rattle.ta_automaton.proofs.law.laws.Goals as goal

pub returns-clause-counters_add_up : goal.returns-clause-counters_add_up
returns-clause-counters_add_up c = counters_add_up

pub returns-clause-parameters_stay : goal.returns-clause-parameters_stay
returns-clause-parameters_stay c = parameters_stay

pub returns-clause-shared_never_falls : goal.returns-clause-shared_never_falls
returns-clause-shared_never_falls c = shared_never_falls

pub returns-clause-rise_guards_stay_true : goal.returns-clause-rise_guards_stay_true
returns-clause-rise_guards_stay_true c = rise_guards_stay_true

pub returns-clause-fall_guards_stay_false : goal.returns-clause-fall_guards_stay_false
returns-clause-fall_guards_stay_false c = fall_guards_stay_false

pub returns-clause-counters_by_firings : goal.returns-clause-counters_by_firings
returns-clause-counters_by_firings c = counters_by_firings

pub returns-clause-shared_by_firings : goal.returns-clause-shared_by_firings
returns-clause-shared_by_firings c = shared_by_firings

pub returns-clause-some_unsafe : goal.returns-clause-some_unsafe
returns-clause-some_unsafe c = first_unsafe
