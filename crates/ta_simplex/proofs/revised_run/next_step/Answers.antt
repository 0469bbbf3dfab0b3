use Rattle.ta_simplex.proofs.Common.{◌≡◌, Option, length, set, subst, Tableau, AreAfter, narrow_view, LeavingIs, IsRowOf, revised_laws}
use Rattle.std.specs.Prelude.{IfSome}
use Rattle.ta_revised.specs.declared.narrow_rows.NarrowRow.{NarrowRow}
use Rattle.ta_simplex.proofs.RevisedSteps.{leaving_row, next_under_way, refuted_end, stuck_at, vertex_end}
use Rattle.ta_simplex.proofs.revised_run.next_step.Goals as goal

pub returns-in_default-2 : goal.returns-in_default-2
returns-in_default-2 c =
    let s = c.args.system.now in
    let d = c.args.dictionary in
    let w = c.requires.under_way in
    let none = subst (LeavingIs c.in-Some.scale s d) c.in_default-2.is c.in_ok-variable.ensures in
    record {
      ended = vertex_end revised_laws s d c.in-Some.scale c.in_ok-values.values w c.in-Some.ensures.scale none c.in_ok-values.ensures;
      under_way = w;
      holds = record { scale = c.in-Some.scale; values = none.values; is = c.in-Some.ensures.scale; are = none.are; none = none.least };
    }

pub revised_multipliers-requires-clause-stuck : goal.revised_multipliers-requires-clause-stuck
revised_multipliers-requires-clause-stuck c =
    let s = c.args.system.now in
    let d = c.args.dictionary in
    let w = c.requires.under_way in
    let leaving = subst (LeavingIs c.in-Some.scale s d) c.in-Some-2.is c.in_ok-variable.ensures in
    let P : Option NarrowRow → Type 0 = λ o. IfSome o (λ x. IsRowOf c.in-Some.scale s d c.in-Some-2.variable (narrow_view x)) in (
      w.tableau,
      (leaving_row revised_laws s d c.in-Some.scale c.in-Some-2.variable w c.in-Some.ensures.scale leaving).row,
      stuck_at revised_laws s d c.in-Some.scale c.in-Some-2.variable (narrow_view c.in-Some-3.chosen) w c.in-Some.ensures.scale leaving
          (subst P c.in-Some-3.is c.in_ok-chosen.ensures.value)
          c.in_default-entering.ensures.none,
    )

pub returns-in_default-entering : goal.returns-in_default-entering
returns-in_default-entering c =
    let s = c.args.system.now in
    let d = c.args.dictionary in
    let w = c.requires.under_way in
    let leaving = subst (LeavingIs c.in-Some.scale s d) c.in-Some-2.is c.in_ok-variable.ensures in
    let r = narrow_view c.in-Some-3.chosen in
    let P : Option NarrowRow → Type 0 = λ o. IfSome o (λ x. IsRowOf c.in-Some.scale s d c.in-Some-2.variable (narrow_view x)) in
    let is_row = subst P c.in-Some-3.is c.in_ok-chosen.ensures.value in
    let row = (leaving_row revised_laws s d c.in-Some.scale c.in-Some-2.variable w c.in-Some.ensures.scale leaving).row in
    let stuck = stuck_at revised_laws s d c.in-Some.scale c.in-Some-2.variable r w c.in-Some.ensures.scale leaving is_row c.in_default-entering.ensures.none in
    record {
      ended = refuted_end s d r row c.in_ok-multipliers.multipliers w stuck (c.in_ok-multipliers.ensures w.tableau row stuck);
      under_way = w;
      holds = tt;
    }

pub returns-in-Some-4 : goal.returns-in-Some-4
returns-in-Some-4 c =
    let s = c.args.system.now in
    let d = c.args.dictionary in
    let w = c.requires.under_way in
    let leaving = subst (LeavingIs c.in-Some.scale s d) c.in-Some-2.is c.in_ok-variable.ensures in
    let r = narrow_view c.in-Some-3.chosen in
    let P : Option NarrowRow → Type 0 = λ o. IfSome o (λ x. IsRowOf c.in-Some.scale s d c.in-Some-2.variable (narrow_view x)) in
    let is_row = subst P c.in-Some-3.is c.in_ok-chosen.ensures.value in
    let C : Option Tableau → Type 0 = λ o. IfSome o (λ x. x.non_basic ≡ set d.non_basic c.in-Some-entering.column r.basic) in
    let A : Option Tableau → Type 0 = λ o. IfSome o (λ x. AreAfter (length d.non_basic) c.in-Some-entering.column r d.rows x.rows) in
    next_under_way revised_laws s d c.in-Some-4.next c.in-Some.scale c.in-Some-2.variable r c.in-Some-entering.column w c.in-Some.ensures.scale
    c.in-Some.ensures.small leaving is_row c.in-Some-entering.ensures.found
    (subst C c.in-Some-4.is c.in_ok-next.ensures.non_basic) (subst A c.in-Some-4.is c.in_ok-next.ensures.rows)
