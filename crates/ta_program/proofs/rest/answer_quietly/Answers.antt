use Rattle.ta_program.proofs.Common.{◌≡◌, ◌∙◌, [], ap, None, refl, rules, subst, sym, option_map, Answer, Automaton, AreSilent, NamesHinder, Refusal, Result}
use Rattle.ta_program.proofs.Common.{Says, finds_then, may_put, rest_picked, rest_quietly, result_seen, resting, ends_of}
use Rattle.ta_program.specs.RestSeen.{rest_seen}
use Rattle.ta_program.proofs.Certifying.{none_staged, unread_seen, unread_staged}
use Rattle.ta_program.specs.Inside.Found.{SilentRefused}
use Rattle.ta_program.proofs.SilentPlaces.{names_cause, names_refused, none_silent}
use Rattle.ta_program.proofs.rest.answer_quietly.Goals as goal

pub answer_picked-requires : goal.answer_picked-requires
answer_picked-requires g c = (
  search rules,
  (
    λ words.
        let names = option_map (λ w. w.now) c.args.asked.now.silent.names in
        let none : names ≡ None = ap (option_map (λ w. w.now)) (c.args.asked.now.silent.quiet words) in
        c.as_slice.ensures ∙ none_silent c.args.rest.now.ending.file.automaton names c.in-Ok.places none c.in-Ok.ensures.silent,
    c.requires.narrow,
  ),
)

pub returns-in-Ok-clause-says : goal.returns-in-Ok-clause-says
returns-in-Ok-clause-says g c = λ files file ends.
    let asked = rest_seen c.args.asked.now in
    let names = asked.silent in
    let are = subst (λ (a : Automaton). AreSilent a names c.in-Ok.places) ends.automaton c.in-Ok.ensures.silent in
    let so = rw c.as_slice.ensures at (c.answer_picked.ensures.says files file ends) in
    record {
      lost = so.lost;
      says = finds_then (AreSilent file.automaton names) (NamesHinder asked.verify.file file.automaton names) (may_put asked.verify.out)
          (λ places. rest_picked asked file (ends_of c.args.rest.now) (resting asked.verify.budget places)) files c.in-Ok.places
          (result_seen g.S.Shelf.stage_bytes so.lost c.answer_picked.result) _ are (λ w. refl) so.says;
    }

pub returns-in-Err-clause-says : goal.returns-in-Err-clause-says
returns-in-Err-clause-says g c = λ files file ends.
    let asked = rest_seen c.args.asked.now in
    let names = asked.silent in
    let refused = subst (λ (a : Automaton). SilentRefused asked.verify.file a names c.in-Err.refusal) ends.automaton c.in-Err.ensures.refusal in
    let cause = names_cause Answer asked.verify.file c.args.rest.now.ending.file.automaton names c.in-Err.refusal 0 c.in-Err.ensures.refusal in
    record {
      lost = [];
      says = subst (λ (seen : Result Answer Refusal). Says (rest_quietly asked file (ends_of c.args.rest.now)) files seen [])
          (sym (unread_seen Answer g.S.Shelf.stage_bytes [] c.in-Err.refusal 0 0 cause))
          (names_refused asked.verify.file file.automaton names (may_put asked.verify.out)
          (λ places. rest_picked asked file (ends_of c.args.rest.now) (resting asked.verify.budget places)) files c.in-Err.refusal refused);
    }

pub returns-in-Err-clause-staged : goal.returns-in-Err-clause-staged
returns-in-Err-clause-staged g c =
    none_staged _ _ (unread_staged Answer _ g.S.Shelf.stage_name g.S.Shelf.stage_bytes c.in-Err.refusal _ _
    (names_cause Answer c.args.asked.now.file.now c.args.rest.now.ending.file.automaton (option_map (λ w. w.now) c.args.asked.now.silent.names)
    c.in-Err.refusal (g.S.Shelf.faults c.args.shelf.now) c.in-Err.ensures.refusal))
