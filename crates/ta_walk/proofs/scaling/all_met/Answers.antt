use Rattle.ta_walk.proofs.Common.{◌≡◌, ◌∙◌, ◌++◌, Bool, Some, ap, sym, list_all, IfOk-weaker, is_known_natural, known_value, forms_of, bound_forms}
use Rattle.std.proofs.Common.{◌&&◌}
use Rattle.std.proofs.lemmas.List.Folds.{list_all-append}
use Rattle.ta_moments.specs.Forms.{UnknownForm}
use Rattle.ta_walk.specs.Values.{values_of}
use Rattle.ta_walk.proofs.scaling.all_met.Goals as goal

pub returns-then-rows_met : goal.returns-then-rows_met
returns-then-rows_met c =
    let test : UnknownForm → Bool = λ f. is_known_natural (known_value (values_of (Some c.args.vertex.now)) f) in
    let rows = forms_of c.args.rows.now in
    let bounds = bound_forms c.args.bounds.now in
    IfOk-weaker c.bounds_met.result _ (λ met. met ≡ list_all test (rows ++ bounds))
    (λ met is. is ∙ sym (list_all-append test rows bounds ∙ ap (λ b. b && list_all test bounds) (sym c.rows_met.ensures ∙ c.if-rows_met.true)))
    c.bounds_met.ensures

pub returns-else-rows_met : goal.returns-else-rows_met
returns-else-rows_met c =
    let test : UnknownForm → Bool = λ f. is_known_natural (known_value (values_of (Some c.args.vertex.now)) f) in
    let rows = forms_of c.args.rows.now in
    let bounds = bound_forms c.args.bounds.now in
    sym (list_all-append test rows bounds ∙ ap (λ b. b && list_all test bounds) (sym c.rows_met.ensures ∙ c.if-rows_met.false))
