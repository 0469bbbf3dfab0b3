use Rattle.ta_encode.proofs.Common.{◌∷◌, [], ◌++◌, List, refl, length, arith, ap, ◌∙◌, Mark}
use Rattle.ta_encode.proofs.Marking.{marks_first}
use Rattle.ta_encode.proofs.growing.begin.Goals as goal

pub returns : goal.returns
returns c = λ elements before.
    let o = c.args.origin.now in
    let draft = c.in_ok-draft.draft in
    let here = c.in_ok-draft.ensures in
    let mark = c.mark_of.result in
    let items = c.in_ok-push.ensures.items in
    let empty = c.new-marks.ensures.items in
    record {
      within = omega arith;
      marked = ap (λ (xs : List Mark). length xs) (items ∙ ap (λ (xs : List Mark). xs ++ mark ∷ []) empty);
      marks = marks_first o.task.automaton.now o.task.pattern.now o.start_mask elements draft.meanings.items draft.rows.items c.new-marks.result.items
          c.push.new.self.items mark empty items c.mark_of.ensures.unknowns c.mark_of.ensures.rows here.is;
      drafted = here;
      same = omega arith;
      rows_are = refl;
    }
