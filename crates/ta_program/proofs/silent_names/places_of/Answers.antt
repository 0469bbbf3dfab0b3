use Rattle.ta_program.proofs.SilentPlaces.{silent_refused}
use Rattle.ta_program.proofs.silent_names.places_of.Goals as goal

pub returns-in-Err-clause-refusal : goal.returns-in-Err-clause-refusal
returns-in-Err-clause-refusal c = silent_refused c.args.name.now c.args.automaton.now c.args.names.now c.in-Err.fault c.refused.result c.in-Err.ensures.is
    c.refused.ensures
