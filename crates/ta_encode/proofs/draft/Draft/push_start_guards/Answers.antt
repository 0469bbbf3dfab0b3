use Rattle.ta_encode.proofs.Common.{take, [], ◌∷◌, ◌++◌, ap, sym, ◌∙◌, subst, each_get_or, Row, has_bit, form_row, start_guard_rows, in_sense, start_sense}
use Rattle.ta_encode.proofs.Common.{SmallForm, SmallRows}
use Rattle.ta_encode.proofs.Smallness.{fall_rows_small}
use Rattle.ta_encode.proofs.Adding.{adds_more, start_more}
use Rattle.ta_encode.proofs.draft.Draft.push_start_guards.Goals as goal

pub push_form-requires : goal.push_form-requires
push_form-requires c =
    let each = subst SmallRows (sym c.as_slice-guard-items.ensures) (fall_rows_small c.args.self.now.automaton.now) in
    record {
      small = subst (λ (r : Row). SmallForm r.form) (sym c.guard-item.is)
          (each_get_or (λ (r : Row). SmallForm r.form) c.as_slice-guard-items.result.now c.loop-number.number c.guard-item.result each c.loop-number-test.true);
    }

pub loop-number-preserved : goal.loop-number-preserved
loop-number-preserved c =
    let a = c.args.self.now.automaton.now in
    let ms = c.args.self.now.meanings.items in
    let items = c.as_slice-guard-items.result.now in
    let i = c.loop-number.number in
    let g = c.guard-item.result in
    let start = c.args.start_mask in
    let done = start_guard_rows a ms start 0 (take i items) in
    adds_more
    (ap (λ s. done ++ in_sense s (form_row a ms g.form) ∷ []) c.sense_at_start.ensures
    ∙ ap (λ (r : Row). done ++ in_sense (start_sense (has_bit start i)) (form_row a ms r.form) ∷ []) c.guard-item.is
    ∙ start_more a ms start items i g c.loop-number-test.true)
    c.loop-number.invariant c.in_ok-push_form.ensures
