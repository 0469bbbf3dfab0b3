use Rattle.ta_meaning.proofs.Common.{Ok, Err, refl, err_is, slice_range, slice_range-end}
use Rattle.ta_meaning.proofs.PlaceScopes.{listed_along}
use Rattle.ta_meaning.proofs.patterns.after_mask.Goals as goal

pub returns-in_err-mask : goal.returns-in_err-mask
returns-in_err-mask c =
    let names = c.args.earlier.now in
    rw (err_is c.from_residual.result _ c.from_residual.ensures.1)
    (listed_along names names (slice_range names 0 c.len.result) names c.args.listed.now (Err c.in_err-mask.field-0.0) refl
    (slice_range-end names 0 c.len.result c.len.ensures) c.in_err-mask.ensures)

pub returns : goal.returns
returns c =
    let names = c.args.earlier.now in
    listed_along names names (slice_range names 0 c.len.result) names c.args.listed.now (Ok c.in_ok-mask.mask) refl
    (slice_range-end names 0 c.len.result c.len.ensures) c.in_ok-mask.ensures
