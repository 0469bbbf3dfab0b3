use Rattle.ta_encode.proofs.Common.{ℕ, ◌++◌, List, length, refl, reverse, sym, ap, ◌∙◌, subst, Element, ended_rows, BoundsWithin, AreMarks, word_rows, Meaning}
use Rattle.ta_encode.proofs.Common.{meanings}
use Rattle.ta_encode.proofs.Adding.{behind_join}
use Rattle.ta_encode.proofs.Ended.{with_end}
use Rattle.ta_encode.proofs.Marking.{marks_on}
use Rattle.ta_encode.proofs.growing.finish.Goals as goal

pub encoded-requires : goal.encoded-requires
encoded-requires c =
    let rows = with_end c.args.origin.now (reverse c.args.elements.now) c.args.end c.in_ok-push_from.ensures.drafted c.in_ok-push_end.ensures in
    record {
      bounds = subst (λ (n : ℕ). BoundsWithin n c.args.bounds.now) (sym (ap length rows.0)) c.requires.bounds;
      written = record
          { lines = _; are = rows.1 };
    }

pub returns-clause-encoding : goal.returns-clause-encoding
returns-clause-encoding c =
    let o = c.args.origin.now in
    let a = o.task.automaton.now in
    let p = o.task.pattern.now in
    let draft = c.push_from.new.draft in
    let rows = c.in_ok-system.field-0.system.rows in
    let marks = c.push_from.new.marks.items in
    let told = c.in_ok-system.ensures in
    let behind = behind_join draft.rows.items c.push_end.new.self.rows.items rows c.in_ok-push_end.ensures.rows.behind told.behind in
    let are = marks_on a p o.start_mask c.args.elements.now draft.meanings.items draft.rows.items rows marks behind c.in_ok-push_from.ensures.marks in
    subst (λ (xs : List Element). AreMarks a p o.start_mask xs c.into_vec.result.items rows marks) (sym c.in_ok-from_slice.ensures.items)
    (subst (λ (ms : List Meaning). AreMarks a p o.start_mask c.args.elements.now ms rows marks)
    (sym (c.into_vec.ensures ∙ told.meanings_are ∙ c.in_ok-push_end.ensures.unknowns)) are)

pub returns-clause-system : goal.returns-clause-system
returns-clause-system c =
    let o = c.args.origin.now in
    let a = o.task.automaton.now in
    let past = reverse c.args.elements.now in
    let rows = with_end o past c.args.end c.in_ok-push_from.ensures.drafted c.in_ok-push_end.ensures in
    let told = c.in_ok-system.ensures in
    record {
      unknowns = told.count ∙ ap length rows.0;
      rows = told.rows_are (word_rows a o.task.pattern.now o.start_mask past ++ ended_rows a (meanings a o.task.pattern.now o.start_mask past) c.args.end)
          rows.1;
    }

pub returns-clause-same : goal.returns-clause-same
returns-clause-same c =
    let told = c.in_ok-system.ensures in
    let after = c.push_from.new.draft.rows.items in
    let rows = c.in_ok-system.field-0.system.rows in (
      refl,
      behind_join c.args.part.draft.rows.items after rows c.in_ok-push_from.ensures.rows
          (behind_join after c.push_end.new.self.rows.items rows c.in_ok-push_end.ensures.rows.behind told.behind),
    )
