use Rattle.std.proofs.Common.{◌≤◌, ◌^◌, ◌++◌, ◌∙◌, ap, codes, rules, string_bytes}
use Rattle.ta_smt.proofs.Solutions.{denotes_solutions}
use Rattle.ta_smt.proofs.Written.{rows_text, system_written}
use Rattle.ta_smt.proofs.export.smt_text.Goals as goal

pub returns-clause-text : goal.returns-clause-text
returns-clause-text c =
    c.from_string.ensures
    ∙ system_written c.args.system.now
    (string_bytes c.push_str.new.self) (string_bytes c.push_declarations.new.text) (string_bytes c.push_naturals.new.text) (string_bytes c.push_rows.new.text)
    (string_bytes c.push_str-2.new.self)
    (c.in_ok-push_str.ensures.bytes ∙ ap (λ xs. xs ++ codes "(set-logic QF_LIA)\n") c.new-text.ensures.bytes)
    c.in_ok-push_declarations.ensures
    c.in_ok-push_naturals.ensures
    (c.in_ok-push_rows.ensures ∙ ap (λ rs. string_bytes c.push_naturals.new.text ++ rows_text rs) c.as_slice.ensures)
    c.in_ok-push_str-2.ensures.bytes

pub returns-clause-denotes : goal.returns-clause-denotes
returns-clause-denotes c =
    let few : c.args.system.now.unknowns ≤ 2 ^ 32 = search rules in
    denotes_solutions c.args.system.now c.from_string.result few (returns-clause-text c)
