use Rattle.ta_encode.proofs.Common.{◌≡◌, ℕ, Bool, ◌+◌, not, arith, ◌<◌, ap, sym, subst, length, has_bit, bit_off, bit_on, passed_none, passed_one}
use Rattle.ta_encode.proofs.Common.{location_place, Automaton, LinearRow, counter_row, Adds, in_sense}
use Rattle.ta_encode.proofs.Adding.{adds_alike, adds_more}
use Rattle.ta_encode.proofs.draft.Draft.push_each_counter.Goals.{then-empty-location-eq0+in_ok-push_counter, else-empty-location-eq0}
use Rattle.ta_encode.proofs.draft.Draft.push_each_counter.Goals as goal

pub loop-location-preserved : goal.loop-location-preserved
loop-location-preserved c =
    let before = c.args.self.now in
    let a = before.automaton.now in
    let ms = before.meanings.items in
    let l = c.loop-location.location in
    let test : ℕ → Bool = λ k. not (has_bit c.args.empty k) in
    let line_of : ℕ → LinearRow = λ k. in_sense c.args.sense (counter_row a ms k) in
    let within : l < 128 = (let few = a.shape.limits.locations_limit in let same = ap length c.as_slice-location-end.ensures in
    let b = c.loop-location-test.true in omega arith) in
    elim c.if-empty-location-eq0.branch [
      | then-empty-location-eq0+in_ok-push_counter w ↦
          subst (Adds _ before) (sym w.self-is)
          (adds_more (passed_one line_of test l (ap not (bit_off 128 c.args.empty l within w.if-empty-location-eq0.true))) c.loop-location.invariant
          (w.in_ok-push_counter.ensures l
          (subst (λ (b : Automaton). w.first_location.result + l ≡ location_place b l) (sym c.loop-location.invariant.automaton)
          (ap (λ n. n + l) w.first_location.ensures))))
      | else-empty-location-eq0 w ↦
          subst (Adds _ before) (sym w.self-is)
          (adds_alike (passed_none line_of test l (ap not (bit_on 128 c.args.empty l within w.if-empty-location-eq0.false))) c.loop-location.invariant)
    ]
