use Rattle.ta_encode.proofs.Common.{List, length, refl, Meaning}
use Rattle.ta_encode.proofs.Adding.{adds_one}
use Rattle.ta_encode.proofs.draft.Draft.push_row.Goals as goal

pub returns : goal.returns
returns c = λ line is.
    let draft = c.args.self.now in
    let ms : List Meaning = draft.meanings.items in
    record {
      automaton = refl {a = draft.automaton.now};
      unknowns = refl {a = ms};
      rows = adds_one (length ms) draft.rows.items c.push.new.self.items (line draft.automaton.now ms) c.args.row is c.requires c.in_ok-push.ensures.items;
    }
