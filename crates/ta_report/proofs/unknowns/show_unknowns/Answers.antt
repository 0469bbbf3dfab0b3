use Rattle.ta_report.proofs.Common.{◌+◌, ◌++◌, ap, drop, piece_written, each, pattern_unknowns_text}
use Rattle.std.proofs.Common.{string_bytes}
use Rattle.ta_base.proofs.Lists.{next_item}
use Rattle.ta_report.proofs.unknowns.show_unknowns.Goals as goal

pub loop-pattern-preserved : goal.loop-pattern-preserved
loop-pattern-preserved c =
    let f = pattern_unknowns_text c.args.automaton.now in
    let ps = c.args.patterns.now in
    let i = c.loop-pattern.pattern-index in
    piece_written (string_bytes c.loop-pattern.text) (string_bytes c.show_of_pattern.new.text) (f c.pattern-item.result) (each f (drop i ps)) (each f
    (drop (i + 1) ps)) (string_bytes c.args.text.now ++ each f ps)
    c.in_ok-show_of_pattern.ensures (ap (each f) (next_item ps i c.pattern-item.result c.loop-pattern-test.true c.pattern-item.is)) c.loop-pattern.invariant
