use Rattle.ta_moment_tree.proofs.Common.{ℕ, Bool, List, ◌≡◌, ◌∙◌, ◌+◌, ◌++◌, ◌∷◌, [], arith, ap, sym, length, slice_get, range_with_len, filter, flat_map}
use Rattle.ta_moment_tree.proofs.Common.{map-append, has_guard, UnknownForm, guards, quiet_at, all_forms, form_of, vector_of}
use Rattle.ta_moment_tree.proofs.Lists.{flat_kept, flat_left}
use Rattle.ta_moment_tree.proofs.ends.rows_at_end.Goals.{then-has_guard+in_ok-row+in_ok-push, else-has_guard}
use Rattle.ta_moment_tree.proofs.ends.rows_at_end.Goals as goal

pub loop-guard-preserved : goal.loop-guard-preserved
loop-guard-preserved c =
    let t = c.args.plan.now.task in
    let g = c.loop-guard.guard in
    let test : ℕ → Bool = λ k. has_guard t.automaton.now k (slice_get t.automaton.now.rules c.args.rule) in
    let rows : ℕ → List UnknownForm = λ k. quiet_at t.automaton.now t.pattern.now c.args.silent.now (vector_of c.args.end.now)
    (slice_get (guards t.automaton.now) k) in
    elim c.if-has_guard.branch [
      | then-has_guard+in_ok-row+in_ok-push w ↦
          ap (λ v. all_forms v.items) w.rows-is ∙ ap all_forms w.in_ok-push.ensures.items ∙ map-append form_of c.loop-guard.rows.items _
          ∙ ap (λ (fs : List UnknownForm). fs ++ form_of w.in_ok-row.row ∷ []) c.loop-guard.invariant
          ∙ ap (λ (fs : List UnknownForm). flat_map rows (filter test (range_with_len 0 g)) ++ fs) w.in_ok-row.ensures
          ∙ flat_kept rows test g (sym c.has_guard.ensures ∙ w.if-has_guard.true)
      | else-has_guard w ↦ ap (λ v. all_forms v.items) w.rows-is ∙ c.loop-guard.invariant
          ∙ flat_left rows test g (sym c.has_guard.ensures ∙ w.if-has_guard.false)
    ]

pub returns : goal.returns
returns c =
    let t = c.args.plan.now.task in
    let test : ℕ → Bool = λ k. has_guard t.automaton.now k (slice_get t.automaton.now.rules c.args.rule) in
    let rows : ℕ → List UnknownForm = λ k. quiet_at t.automaton.now t.pattern.now c.args.silent.now (vector_of c.args.end.now)
    (slice_get (guards t.automaton.now) k) in
    let high = c.loop-guard.auto.guard-end in
    let low = c.loop-guard-test.false in
    let count = c.guard_count-guard-end.ensures.both in
    let all : c.loop-guard.guard ≡ length t.automaton.now.rise + length t.automaton.now.fall = omega arith in
    c.loop-guard.invariant ∙ ap (λ n. flat_map rows (filter test (range_with_len 0 n))) all
