use Rattle.ta_smt.proofs.Common.{ℕ, ◌-◌, ◌≡◌, ◌++◌, ap, map, arith, string_bytes, range_with_len, lines_text, declare_line}
use Rattle.ta_smt.proofs.Written.{declared, line_written, lines_written}
use Rattle.ta_smt.proofs.export.push_declarations.Goals as goal

pub loop-number-init : goal.loop-number-init
loop-number-init c =
    let e : c.args.unknowns - 0 ≡ c.args.unknowns = omega arith in
    ap (λ (n : ℕ). string_bytes c.args.text.now ++ lines_text (map declare_line (range_with_len 0 n))) e

pub loop-number-preserved : goal.loop-number-preserved
loop-number-preserved c =
    line_written declare_line c.loop-number.number-counter c.args.unknowns (string_bytes c.loop-number.text) (string_bytes c.write.new.self) _ _
    c.loop-number-test.true (declared c.loop-number.number-counter) c.in_ok-write.ensures.bytes c.loop-number.invariant

pub returns : goal.returns
returns c = lines_written declare_line c.loop-number.number-counter c.args.unknowns (string_bytes c.loop-number.text) _ (omega arith) c.loop-number.invariant
