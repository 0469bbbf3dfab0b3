use Rattle.ta_encode.proofs.Common.{[], ◌∷◌, ap, in_sense}
use Rattle.ta_encode.proofs.Adding.{adds_alike, counter_plain}
use Rattle.ta_encode.proofs.draft.Draft.push_counter.Goals as goal

pub returns : goal.returns
returns c = λ l e.
    let draft = c.args.self.now in
    adds_alike (ap (λ k. in_sense c.args.sense k ∷ []) (counter_plain draft.automaton.now draft.meanings.items l c.args.place e)) c.in_ok-push_line.ensures
