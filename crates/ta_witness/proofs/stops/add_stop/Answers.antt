use Rattle.ta_witness.proofs.Common.{Places}
use Rattle.ta_moments.proofs.Common.{List, ℤ, subst}
use Rattle.ta_witness.specs.declared.stop.Stop.{Stop}
use Rattle.ta_witness.proofs.Placing.{inserted}
use Rattle.ta_witness.proofs.stops.add_stop.Goals as goal

pub returns : goal.returns
returns c =
    let k = c.place_of-place.result in
    let places = subst (λ (zs : List ℤ). Places k zs c.as_slice.result.now) c.as_slice-2.ensures.value c.place_of-place.ensures in
    inserted c.args.stops.now.items c.insert.new.self.items c.args.stop k c.in_ok-insert.ensures.items
    (subst (λ (ss : List Stop). Places k c.args.stop.counts.items ss) c.as_slice.ensures.value places)
