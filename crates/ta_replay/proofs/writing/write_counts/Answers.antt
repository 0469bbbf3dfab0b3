use Rattle.ta_replay.proofs.Common.{◌<◌, length, get_or, ◌++◌, sym, subst, arith, string_bytes, get_or_default, rises_at, start_slot, start_slots, value_lines}
use Rattle.ta_replay.proofs.Common.{lines_text}
use Rattle.ta_replay.proofs.PrintedLines.{item_written}
use Rattle.ta_replay.proofs.writing.write_counts.Goals as goal

pub location_name-name-requires : goal.location_name-name-requires
location_name-name-requires c =
    let a = c.args.automaton.now in
    let i = c.loop-i.i in
    let within : i < length a.initial = (let h = c.requires in omega arith) in
    rw c.as_slice-initial.ensures (rises_at 0 (length a.locations) a.initial i 0 a.shape.initial_rises within)

pub loop-i-preserved : goal.loop-i-preserved
loop-i-preserved c =
    let i = c.loop-i.i in
    let a = c.args.automaton.now in
    let items = c.as_slice-initial.result.now in
    let x = get_or items i 0 in
    let within : i < length items = subst (λ xs. i < length xs) (sym c.as_slice-initial.ensures) (let h = c.requires in omega arith) in
    item_written (start_slot a) a.initial items i x c.args.counts.now c.location_name-name.result.now
    (string_bytes c.args.text.now ++ lines_text (value_lines (start_slots a) c.args.counts.now)) (string_bytes c.loop-i.text)
    (string_bytes c.write.new.self) c.as_slice-initial.ensures within (get_or_default items i 0 x within) c.location_name-name.ensures c.loop-i-test.true
    c.in_ok-write.ensures.bytes c.loop-i.invariant
