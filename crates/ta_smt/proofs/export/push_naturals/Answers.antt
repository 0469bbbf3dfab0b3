use Rattle.ta_smt.proofs.Common.{ℕ, ◌-◌, ◌≡◌, ◌++◌, ◌∙◌, List, ap, map, arith, string_bytes, range_with_len, lines_text}
use Rattle.ta_smt.proofs.Written.{claimed, line_written, lines_written, maps_once, natural_line}
use Rattle.ta_smt.proofs.export.push_naturals.Goals as goal

pub loop-number-init : goal.loop-number-init
loop-number-init c =
    let e : c.args.unknowns - 0 ≡ c.args.unknowns = omega arith in
    ap (λ (n : ℕ). string_bytes c.args.text.now ++ lines_text (map natural_line (range_with_len 0 n))) e

pub loop-number-preserved : goal.loop-number-preserved
loop-number-preserved c =
    line_written natural_line c.loop-number.number-counter c.args.unknowns (string_bytes c.loop-number.text) (string_bytes c.write.new.self) _ _
    c.loop-number-test.true (claimed c.loop-number.number-counter) c.in_ok-write.ensures.bytes c.loop-number.invariant

pub returns : goal.returns
returns c =
    lines_written natural_line c.loop-number.number-counter c.args.unknowns (string_bytes c.loop-number.text) _ (omega arith) c.loop-number.invariant
    ∙ ap (λ (ls : List (List ℕ)). string_bytes c.args.text.now ++ lines_text ls) (maps_once 0 c.args.unknowns)
