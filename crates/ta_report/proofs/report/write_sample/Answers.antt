use Rattle.ta_report.proofs.Common.{rules, ◌≡◌, ◌∙◌, ◌++◌, ℕ, ap, sym, append_assoc, codes, decimal, string_bytes, ReportKind, overflow_text, place_text}
use Rattle.ta_report.proofs.Common.{spent_text, values_text}
use Rattle.ta_report.proofs.report.write_sample.Goals as goal

-- what is written where no sample is known
spent_said : (nodes : ℕ) → codes "parameters: unknown, " ++ (decimal nodes ++ codes " nodes spent\n") ≡ codes "parameters: " ++ (spent_text nodes ++ codes "\n")
spent_said nodes = ap (λ rest. codes "parameters: unknown, " ++ rest) (sym (append_assoc (decimal nodes) (codes " nodes spent") (codes "\n")))

overflow_said : (node : ℕ) (kind : ReportKind) → codes "parameters: unknown, outside 128 bits at node "
    ++ (decimal node ++ (codes ", " ++ (place_text kind ++ codes "\n"))) ≡ codes "parameters: " ++ (overflow_text node kind ++ codes "\n")
overflow_said node kind = ap (λ rest. codes "parameters: unknown, outside 128 bits at node " ++ rest)
    (sym (append_assoc (decimal node) (codes ", " ++ place_text kind) (codes "\n")))

pub returns-in_ok-push_str-in-Sample-2 : goal.returns-in_ok-push_str-in-Sample-2
returns-in_ok-push_str-in-Sample-2 c =
    let old = string_bytes c.args.text.now in
    let values = values_text c.args.file.now.automaton.parameters c.in-Sample.values in
    let same : values_text c.as_slice.result.now c.as_slice-in-Sample.result.now ≡ values = search rules in
    let first = c.in_ok-push_str-in-Sample.ensures.bytes in
    rw c.in-Sample.is (c.in_ok-push_str-in-Sample-2.ensures.bytes
    ∙ ap (λ bytes. bytes ++ codes "\n")
    (c.in_ok-write_values-in-Sample.ensures ∙ ap (λ bytes. string_bytes c.push_str.new.self ++ bytes) same ∙ ap (λ bytes. bytes ++ values) first)
    ∙ append_assoc (old ++ codes "parameters: sample") values (codes "\n") ∙ append_assoc old (codes "parameters: sample") (values ++ codes "\n"))

pub returns-in_ok-push_str-in-Empty : goal.returns-in_ok-push_str-in-Empty
returns-in_ok-push_str-in-Empty c = rw c.in-Empty.is c.in_ok-push_str-in-Empty.ensures.bytes

pub returns-in_ok-write-in-Spent : goal.returns-in_ok-write-in-Spent
returns-in_ok-write-in-Spent c =
    let old = string_bytes c.args.text.now in
    let written : string_bytes c.write.new.self ≡ old ++ (codes "parameters: unknown, " ++ (decimal c.in-Spent.count ++ codes " nodes spent\n")) =
    c.in_ok-write-in-Spent.ensures.bytes in
    rw c.in-Spent.is (written ∙ ap (λ rest. old ++ rest) (spent_said c.in-Spent.count))

pub returns-in_ok-write-in-Overflow : goal.returns-in_ok-write-in-Overflow
returns-in_ok-write-in-Overflow c =
    let old = string_bytes c.args.text.now in
    let written : string_bytes c.write-in-Overflow.new.self ≡ old
    ++ (codes "parameters: unknown, outside 128 bits at node "
    ++ (decimal c.in-Overflow.node ++ (codes ", " ++ (place_text c.in-Overflow.kind ++ codes "\n")))) = c.in_ok-write-in-Overflow.ensures.bytes in
    rw c.in-Overflow.is (written ∙ ap (λ rest. old ++ rest) (overflow_said c.in-Overflow.node c.in-Overflow.kind))
