use Rattle.ta_program.proofs.Common.{[], refl, subst, option_map, Answer, Automaton, AreSilent, NamesHinder, grew_found, grew_none, rest_proved_meaning}
use Rattle.ta_program.proofs.Common.{ends_of}
use Rattle.ta_program.specs.Inside.Found.{SilentRefused}
use Rattle.ta_program.specs.RestSeen.{rest_check_seen}
use Rattle.ta_program.proofs.SilentPlaces.{names_cause, names_refused}
use Rattle.ta_program.proofs.rest_check.judge_quietly.Goals as goal

pub returns-in-Ok-clause-says : goal.returns-in-Ok-clause-says
returns-in-Ok-clause-says g c = λ file ends.
    let asked = rest_check_seen c.args.asked.now in
    let names = asked.silent in
    let are = subst (λ (a : Automaton). AreSilent a names c.in-Ok.places) ends.automaton c.in-Ok.ensures.silent in
    let says = rw c.as_slice.ensures at (c.judge_rest.ensures.says file ends) in
    grew_found (AreSilent file.automaton names) (NamesHinder asked.file file.automaton names) []
    (rest_proved_meaning asked file (ends_of c.args.rest.now)) (g.S.Shelf.files c.args.shelf.now) c.in-Ok.places
    c.judge_rest.result _ _ are (λ w. refl) says

pub returns-in-Err-clause-says : goal.returns-in-Err-clause-says
returns-in-Err-clause-says g c = λ file ends.
    let asked = rest_check_seen c.args.asked.now in
    let name = asked.file in
    let names = asked.silent in
    let refused = subst (λ (a : Automaton). SilentRefused name a names c.in-Err.refusal) ends.automaton c.in-Err.ensures.refusal in
    grew_none _ _ _ _ (names_refused name file.automaton names [] (rest_proved_meaning asked file (ends_of c.args.rest.now))
    (g.S.Shelf.files c.args.shelf.now) c.in-Err.refusal refused)

pub returns-in-Err-clause-cause : goal.returns-in-Err-clause-cause
returns-in-Err-clause-cause g c = names_cause Answer c.args.asked.now.file.now c.args.rest.now.ending.file.automaton
    (option_map (λ w. w.now) c.args.asked.now.silent)
    c.in-Err.refusal _ c.in-Err.ensures.refusal
