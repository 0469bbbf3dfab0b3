use Rattle.ta_report.proofs.Common.{ℕ, Bool, ◌++◌, ◌∷◌, [], map, ap, sym, ◌∙◌, append_assoc, slice_get, filter, range_with_len, is_moving, fired_name}
use Rattle.ta_base.proofs.Ranges.{passed_none, passed_one}
use Rattle.ta_report.proofs.unknowns.push_fired.Goals.{then-is_moving+in_ok-fired_name+in_ok-push, else-is_moving}
use Rattle.ta_report.proofs.unknowns.push_fired.Goals as goal

pub loop-rule-preserved : goal.loop-rule-preserved
loop-rule-preserved c =
    let r = c.loop-rule.rule in
    let f = fired_name c.args.automaton.now c.args.event.now in
    let before = c.args.names.now.items in
    let test : ℕ → Bool = λ k. is_moving c.args.pattern.now (slice_get c.args.automaton.now.rules k) in
    let done = map f (filter test (range_with_len 0 r)) in
    elim c.if-is_moving.branch [
      | then-is_moving+in_ok-fired_name+in_ok-push w ↦
          ap (λ v. v.items) w.names-is ∙ w.in_ok-push.ensures.items ∙ ap (λ n. c.loop-rule.names.items ++ n ∷ []) w.in_ok-fired_name.ensures
          ∙ ap (λ ns. ns ++ f r ∷ []) c.loop-rule.invariant ∙ append_assoc before done (f r ∷ [])
          ∙ ap (λ ns. before ++ ns) (passed_one f test r (sym c.is_moving.ensures ∙ w.if-is_moving.true))
      | else-is_moving w ↦
          ap (λ v. v.items) w.names-is ∙ c.loop-rule.invariant
          ∙ ap (λ ns. before ++ ns) (passed_none f test r (sym c.is_moving.ensures ∙ w.if-is_moving.false))
    ]
