use Rattle.ta_program.proofs.Common.{ℕ, List, [], ◌≡◌, ◌++◌, ◌∙◌, ap, append-nil, codes, count_line, count_text, counts_of, drop, get_or, most_events, refl}
use Rattle.ta_program.proofs.Common.{string_bytes, sym}
use Rattle.ta_base.specs.declared.limits.TheConstants.{MOST_EVENTS}
use Rattle.ta_program.proofs.Counting.{line_written}
use Rattle.ta_program.proofs.count.push_counts.Goals as goal

pub returns : goal.returns
returns c =
    let file = c.args.file.now in
    let l = c.args.limits.now in
    let counts = counts_of l file in
    let count : ℕ → List ℕ × ℕ × ℕ = λ k. get_or counts k ([], 0, 0) in
    let t0 = string_bytes c.args.text.now in
    let t1 = string_bytes c.push_length.new.text in
    let t2 = string_bytes c.push_length-2.new.text in
    let t3 = string_bytes c.push_length-3.new.text in
    let t4 = string_bytes c.push_length-4.new.text in
    let t5 = string_bytes c.push_length-5.new.text in
    let t6 = string_bytes c.push_length-6.new.text in
    let t7 = string_bytes c.push_length-7.new.text in
    let t8 = string_bytes c.push_line.new.text in
    let all = t0 ++ count_text l file in
    let events = c.most_events-events.ensures ∙ ap most_events c.as_slice.ensures in
    let last : t8 ≡ t7 ++ count_line (count 7) = c.in_ok-push_line.ensures ∙ ap (λ (n : ℕ). t7 ++ count_line (codes "events", n, MOST_EVENTS)) events in
    sym (append-nil t8)
    ∙ line_written t7 t8 (count 7) (drop 8 counts) all last
    (line_written t6 t7 (count 6) (drop 7 counts) all c.in_ok-push_length-7.ensures
    (line_written t5 t6 (count 5) (drop 6 counts) all c.in_ok-push_length-6.ensures
    (line_written t4 t5 (count 4) (drop 5 counts) all c.in_ok-push_length-5.ensures
    (line_written t3 t4 (count 3) (drop 4 counts) all c.in_ok-push_length-4.ensures
    (line_written t2 t3 (count 2) (drop 3 counts) all c.in_ok-push_length-3.ensures
    (line_written t1 t2 (count 1) (drop 2 counts) all c.in_ok-push_length-2.ensures
    (line_written t0 t1 (count 0) (drop 1 counts) all c.in_ok-push_length.ensures refl)))))))
