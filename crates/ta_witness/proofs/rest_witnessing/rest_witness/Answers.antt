use Rattle.ta_witness.proofs.RestCommon.{arith, slice_get_within}
use Rattle.ta_witness.proofs.Giving.{own_given}
use Rattle.ta_witness.proofs.Resting.{solutions_solve}
use Rattle.ta_witness.proofs.rest_witnessing.rest_witness.Goals as goal

pub witness-requires-clause-solution : goal.witness-requires-clause-solution
witness-requires-clause-solution c = solutions_solve c.args.rest.now.ending.file c.args.solution.now c.requires.solution

pub own_run-requires : goal.own_run-requires
own_run-requires c =
    let file = c.args.rest.now.ending.file in
    let fits = c.in_ok-run.ensures.fits in
    let within = slice_get_within file.patterns c.in_ok-run.run'.pattern fits.pattern fits.named in
    omega (arith, file.shape.limit)

pub returns-clause-run : goal.returns-clause-run
returns-clause-run c = λ file ends.
    let rest = c.args.rest.now in
    let e = c.in_ok-run.ensures in
    own_given file rest.ending.file rest.added ends c.args.solution.now c.in_ok-run.run' c.own_run.result
    (record {
      scope = rest.ending.in_scope;
      last = rest.come_last;
      solved = c.requires.solution;
      witness = e.witness;
      fits = e.fits;
      shows = e.shows;
      stays = e.stays;
      short = e.short;
    })
    c.own_run.ensures.is

pub returns-clause-fits : goal.returns-clause-fits
returns-clause-fits c = c.own_run.ensures.fits c.args.rest.now.ending.file c.in_ok-run.ensures.fits
