use Rattle.std.proofs.Common.{arith, string_bytes}
use Rattle.ta_replay.proofs.PrintedLines.{end_written}
use Rattle.ta_replay.proofs.writing.write_lines.Goals as goal

pub returns : goal.returns
returns c = end_written c.args.automaton.now c.args.pattern.now c.args.lines.now c.loop-line.line-index (string_bytes c.args.text.now)
    (string_bytes c.loop-line.text) (string_bytes c.push_str.new.self) (omega arith) c.in_ok-push_str.ensures.bytes c.loop-line.invariant
