use Rattle.ta_replay.proofs.Common.{◌<◌, length, ◌++◌, sym, subst, arith, string_bytes, parameter_slot, parameter_slots, value_lines, lines_text}
use Rattle.ta_replay.proofs.PrintedLines.{item_written}
use Rattle.ta_replay.proofs.writing.write_parameters.Goals as goal

pub loop-i-preserved : goal.loop-i-preserved
loop-i-preserved c =
    let i = c.loop-i.i in
    let a = c.args.automaton.now in
    let within : i < length c.as_slice-names.result.now = subst (λ xs. i < length xs) (sym c.as_slice-names.ensures) (let h = c.requires in omega arith) in
    item_written parameter_slot a.parameters c.as_slice-names.result.now i c.index-names-i.result c.args.values.now c.as_str-name.result.now
    (string_bytes c.args.text.now ++ lines_text (value_lines (parameter_slots a) c.args.values.now)) (string_bytes c.loop-i.text)
    (string_bytes c.write.new.self) c.as_slice-names.ensures within c.index-names-i.is c.as_str-name.ensures c.loop-i-test.true c.in_ok-write.ensures.bytes
    c.loop-i.invariant
