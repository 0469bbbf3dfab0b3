use Rattle.ta_syntax.proofs.Common.{[], ◌∷◌, ◌++◌, string_bytes, if_ok_then, sum_kinds, relation_kind, plain_sum, Prints}
use Rattle.ta_syntax.proofs.PrintSteps.{prints_then}
use Rattle.ta_syntax.proofs.printing.TreeComparisonPrinted.print.Goals as goal

pub returns : goal.returns
returns c = if_ok_then c.print_sum-2.result
    (λ (p : Prints (string_bytes c.put_relation.new.text) (string_bytes c.print_sum-2.new.text) (sum_kinds (plain_sum c.args.self.now.right))).
    (prints_then (string_bytes c.args.text.now) (string_bytes c.print_sum.new.text) (string_bytes c.print_sum-2.new.text)
    (sum_kinds (plain_sum c.args.self.now.left)) ((relation_kind c.args.self.now.relation ∷ []) ++ (sum_kinds (plain_sum c.args.self.now.right)))
    c.in_ok-print_sum.ensures (prints_then (string_bytes c.print_sum.new.text) (string_bytes c.put_relation.new.text) (string_bytes c.print_sum-2.new.text)
    (relation_kind c.args.self.now.relation ∷ []) (sum_kinds (plain_sum c.args.self.now.right)) c.in_ok-put_relation.ensures p))) c.print_sum-2.ensures
