use Rattle.ta_syntax.proofs.Common.{arith, refl, sym, ◌<◌, ◌-◌, length, false-eqb, eqb-true, err_is, nil_from_length}
use Rattle.ta_syntax.proofs.Scans.{scan_goes_on, scan_ends, scan_stops}
use Rattle.ta_syntax.proofs.scanner.scan.Goals as goal

pub returns-then-is_empty : goal.returns-then-is_empty
returns-then-is_empty c = scan_ends c.args.bytes.now c.tokens.rest.now c.skip_gap-start.result.now c.tokens.tokens.items c.tokens.invariant
    c.skip_gap-start.ensures.skips (nil_from_length c.skip_gap-start.result.now (eqb-true (length c.skip_gap-start.result.now) 0 (sym c.if-is_empty.ensures)))

pub returns-in_err-kind : goal.returns-in_err-kind
returns-in_err-kind c =
    let start = c.skip_gap-start.result.now in
    let some : 0 < length start = omega (arith, false-eqb (length start) 0 c.if-is_empty.ensures) in
    rw (err_is c.from_residual.result _ c.from_residual.ensures.1)
    (scan_stops c.args.bytes.now c.tokens.rest.now start c.tokens.tokens.items (length c.args.bytes.now - length start) c.in_err-kind.field-0.0
    c.tokens.invariant c.skip_gap-start.ensures.skips c.skip_gap-start.ensures.ends some refl c.in_err-kind.ensures)

pub tokens-preserved : goal.tokens-preserved
tokens-preserved c =
    let start = c.skip_gap-start.result.now in
    let some : 0 < length start = omega (arith, false-eqb (length start) 0 c.if-is_empty.ensures) in
    rw c.in_ok-push.ensures.items (scan_goes_on c.args.bytes.now c.tokens.rest.now start c.in_ok-kind.after.now c.tokens.tokens.items _ c.tokens.invariant
    c.skip_gap-start.ensures.skips some refl c.in_ok-kind.ensures)
