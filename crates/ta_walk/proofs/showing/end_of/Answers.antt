use Rattle.ta_walk.proofs.Common.{refl, subst}
use Rattle.ta_witness.specs.Given.{MomentRunFault}
use Rattle.ta_walk.proofs.showing.end_of.Goals as goal

pub returns-in-Ok-clause-ends : goal.returns-in-Ok-clause-ends
returns-in-Ok-clause-ends c =
    let e = c.in-Ok.ensures in
    (refl, record { of = e.run; fits = e.fits; shows = e.shows; stays = e.stays; short = e.short })

pub returns-in-Err-Overflow-clause-ends : goal.returns-in-Err-Overflow-clause-ends
returns-in-Err-Overflow-clause-ends c = (
  refl,
  refl,
  subst (MomentRunFault c.args.scoped.now.file c.args.number c.args.node.now c.args.values.now) c.in-Err-Overflow.field-0-is
      c.in-Err-Overflow.ensures.fault,
)
