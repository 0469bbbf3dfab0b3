use Rattle.ta_report.proofs.Common.{ℕ, Bool, List, ◌≡◌, ◌++◌, ◌∷◌, ◌<◌, [], length, map, not, take, get_or, ap, sym, subst, ◌∙◌, arith, append_assoc, filter}
use Rattle.ta_report.proofs.Common.{has_bit, start_name}
use Rattle.ta_base.specs.Lists.{Rises}
use Rattle.ta_base.proofs.Lists.{item_none, item_one}
use Rattle.ta_base.proofs.Ranges.{rises_at}
use Rattle.ta_report.proofs.unknowns.push_starts.Goals.{then-not-contains+in_ok-start_name+in_ok-push, else-not-contains}
use Rattle.ta_report.proofs.unknowns.push_starts.Goals as goal

pub contains-requires : goal.contains-requires
contains-requires c =
    let a = c.args.automaton.now in
    let items = c.as_slice-location-items.result.now in
    let i = c.loop-location.location-index in
    let within : get_or items i 0 < length a.locations = rises_at 0 (length a.locations) items i 0 (subst (Rises 0 (length a.locations))
    (sym c.as_slice-location-items.ensures) a.shape.initial_rises) c.loop-location-test.true in
    omega (arith, a.shape.limits.locations_limit)

pub loop-location-preserved : goal.loop-location-preserved
loop-location-preserved c =
    let a = c.args.automaton.now in
    let items : c.as_slice-location-items.result.now ≡ a.initial = c.as_slice-location-items.ensures in
    let i = c.loop-location.location-index in
    let l = get_or a.initial i 0 in
    let read : get_or c.as_slice-location-items.result.now i 0 ≡ l = ap (λ (ls : List ℕ). get_or ls i 0) items in
    let less : i < length a.initial = subst (λ (ls : List ℕ). i < length ls) items c.loop-location-test.true in
    let f = start_name a in
    let before = c.args.names.now.items in
    let test : ℕ → Bool = λ k. not (has_bit c.args.pattern.now.empty k) in
    let done = map f (filter test (take i a.initial)) in
    let bit : not c.contains.result ≡ test l = ap not (c.contains.ensures.bit ∙ ap (has_bit c.args.pattern.now.empty) read) in
    elim c.if-not-contains.branch [
      | then-not-contains+in_ok-start_name+in_ok-push w ↦
          ap (λ v. v.items) w.names-is ∙ w.in_ok-push.ensures.items ∙ ap (λ n. c.loop-location.names.items ++ n ∷ []) (w.in_ok-start_name.ensures ∙ ap f read)
          ∙ ap (λ ns. ns ++ f l ∷ []) c.loop-location.invariant ∙ append_assoc before done (f l ∷ [])
          ∙ ap (λ ns. before ++ ns) (item_one f test a.initial i 0 less (sym bit ∙ ap not w.if-not-contains.true))
      | else-not-contains w ↦
          ap (λ v. v.items) w.names-is ∙ c.loop-location.invariant
          ∙ ap (λ ns. before ++ ns) (item_none f test a.initial i 0 less (sym bit ∙ ap not w.if-not-contains.false))
    ]
