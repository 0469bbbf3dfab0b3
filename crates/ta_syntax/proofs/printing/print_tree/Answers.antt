use Rattle.ta_syntax.proofs.Common.{ℕ, List, [], ◌∷◌, ◌++◌, map, ap, subst, ◌∙◌, string_bytes, sum_kinds, listed, each, comparison_kinds, rule_kinds}
use Rattle.ta_syntax.proofs.Common.{pattern_kinds, plain_sum, plain_comparison, plain_rule, plain_pattern, plain_tree, printed, Prints, head_kinds}
use Rattle.ta_syntax.proofs.PrintSteps.{prints_then, each_of, declared_of, declared_then, head_parts}
use Rattle.ta_syntax.specs.declared.tokens.Kind.TheVariants as kind
use Rattle.ta_syntax.specs.declared.tokens.Mark.TheVariants as mark
use Rattle.ta_syntax.proofs.printing.print_tree.Goals as goal

pub returns : goal.returns
returns c =
    let whole : Prints (string_bytes c.new-text.result) (string_bytes c.print_each-2.new.text)
    ((head_kinds (plain_tree c.args.tree.now)) ++
    ((kind.Fixed mark.Processes ∷ []) ++
    ((sum_kinds (plain_sum c.args.tree.now.processes))
    ++ ((kind.Fixed mark.Semicolon ∷ []) ++
    (kind.Fixed mark.Resilience ∷ ((listed kind.Fixed comparison_kinds (map plain_comparison c.args.tree.now.resilience))
    ++ kind.Fixed mark.Semicolon ∷ ((each rule_kinds (map plain_rule c.args.tree.now.rules))
    ++ (each pattern_kinds (map plain_pattern c.args.tree.now.patterns))))))))) =
    (prints_then (string_bytes c.new-text.result) (string_bytes c.print_head.new.text) (string_bytes c.print_each-2.new.text)
    (head_kinds (plain_tree c.args.tree.now))
    ((kind.Fixed mark.Processes ∷ []) ++
    ((sum_kinds (plain_sum c.args.tree.now.processes))
    ++ ((kind.Fixed mark.Semicolon ∷ []) ++
    (kind.Fixed mark.Resilience ∷ ((listed kind.Fixed comparison_kinds (map plain_comparison c.args.tree.now.resilience))
    ++ kind.Fixed mark.Semicolon ∷ ((each rule_kinds (map plain_rule c.args.tree.now.rules))
    ++ (each pattern_kinds (map plain_pattern c.args.tree.now.patterns)))))))) c.in_ok-print_head.ensures
    (prints_then (string_bytes c.print_head.new.text) (string_bytes c.put_mark.new.text) (string_bytes c.print_each-2.new.text)
    (kind.Fixed mark.Processes ∷ [])
    ((sum_kinds (plain_sum c.args.tree.now.processes))
    ++ ((kind.Fixed mark.Semicolon ∷ []) ++
    (kind.Fixed mark.Resilience ∷ ((listed kind.Fixed comparison_kinds (map plain_comparison c.args.tree.now.resilience))
    ++ kind.Fixed mark.Semicolon ∷ ((each rule_kinds (map plain_rule c.args.tree.now.rules))
    ++ (each pattern_kinds (map plain_pattern c.args.tree.now.patterns))))))) c.in_ok-put_mark.ensures
    (prints_then (string_bytes c.put_mark.new.text) (string_bytes c.print_sum.new.text) (string_bytes c.print_each-2.new.text)
    (sum_kinds (plain_sum c.args.tree.now.processes))
    ((kind.Fixed mark.Semicolon ∷ []) ++
    (kind.Fixed mark.Resilience ∷ ((listed kind.Fixed comparison_kinds (map plain_comparison c.args.tree.now.resilience))
    ++ kind.Fixed mark.Semicolon ∷ ((each rule_kinds (map plain_rule c.args.tree.now.rules))
    ++ (each pattern_kinds (map plain_pattern c.args.tree.now.patterns)))))) c.in_ok-print_sum.ensures
    (prints_then (string_bytes c.print_sum.new.text) (string_bytes c.put_mark-2.new.text) (string_bytes c.print_each-2.new.text)
    (kind.Fixed mark.Semicolon ∷ [])
    (kind.Fixed mark.Resilience ∷ ((listed kind.Fixed comparison_kinds (map plain_comparison c.args.tree.now.resilience))
    ++ kind.Fixed mark.Semicolon ∷ ((each rule_kinds (map plain_rule c.args.tree.now.rules))
    ++ (each pattern_kinds (map plain_pattern c.args.tree.now.patterns))))) c.in_ok-put_mark-2.ensures
    (declared_then (string_bytes c.put_mark-2.new.text) (string_bytes c.print_declared.new.text) (string_bytes c.print_each-2.new.text)
    (kind.Fixed mark.Resilience) (listed kind.Fixed comparison_kinds (map plain_comparison c.args.tree.now.resilience))
    ((each rule_kinds (map plain_rule c.args.tree.now.rules)) ++ (each pattern_kinds (map plain_pattern c.args.tree.now.patterns)))
    (declared_of (string_bytes c.put_mark-2.new.text) (string_bytes c.print_declared.new.text) mark.Resilience plain_comparison comparison_kinds
    c.as_slice.result.now c.args.tree.now.resilience c.as_slice.ensures c.in_ok-print_declared.ensures)
    (prints_then (string_bytes c.print_declared.new.text) (string_bytes c.print_each.new.text) (string_bytes c.print_each-2.new.text)
    (each rule_kinds (map plain_rule c.args.tree.now.rules)) (each pattern_kinds (map plain_pattern c.args.tree.now.patterns))
    (each_of (string_bytes c.print_declared.new.text) (string_bytes c.print_each.new.text) plain_rule rule_kinds c.as_slice-2.result.now
    c.args.tree.now.rules c.as_slice-2.ensures c.in_ok-print_each.ensures)
    (each_of (string_bytes c.print_each.new.text) (string_bytes c.print_each-2.new.text) plain_pattern pattern_kinds c.as_slice-3.result.now
    c.args.tree.now.patterns c.as_slice-3.ensures c.in_ok-print_each-2.ensures))))))) in
    let from_nothing = subst (λ (a : List ℕ). Prints a (string_bytes c.print_each-2.new.text)
    ((head_kinds (plain_tree c.args.tree.now)) ++
    ((kind.Fixed mark.Processes ∷ []) ++
    ((sum_kinds (plain_sum c.args.tree.now.processes))
    ++ ((kind.Fixed mark.Semicolon ∷ []) ++
    (kind.Fixed mark.Resilience ∷ ((listed kind.Fixed comparison_kinds (map plain_comparison c.args.tree.now.resilience))
    ++ kind.Fixed mark.Semicolon ∷ ((each rule_kinds (map plain_rule c.args.tree.now.rules))
    ++ (each pattern_kinds (map plain_pattern c.args.tree.now.patterns)))))))))) c.new-text.ensures.bytes whole in
    c.from_string.ensures ∙ from_nothing ∙ ap printed
    (head_parts (plain_tree c.args.tree.now)
    ((kind.Fixed mark.Processes ∷ []) ++
    ((sum_kinds (plain_sum c.args.tree.now.processes))
    ++ ((kind.Fixed mark.Semicolon ∷ []) ++
    (kind.Fixed mark.Resilience ∷ ((listed kind.Fixed comparison_kinds (map plain_comparison c.args.tree.now.resilience))
    ++ kind.Fixed mark.Semicolon ∷ ((each rule_kinds (map plain_rule c.args.tree.now.rules))
    ++ (each pattern_kinds (map plain_pattern c.args.tree.now.patterns)))))))))
