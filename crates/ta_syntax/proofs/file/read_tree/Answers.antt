use Rattle.ta_syntax.proofs.Common.{subst, length, List, err_is, FileText, at_start, IsStopped, IsSpelled, Token}
use Rattle.ta_syntax.proofs.LegalTrees.{tree_read, scan_fault, file_fault}
use Rattle.ta_syntax.proofs.NoFault.{no_fault, tree_alone}
use Rattle.ta_syntax.proofs.file.read_tree.Goals as goal

pub returns-in_err-tokens : goal.returns-in_err-tokens
returns-in_err-tokens c =
    let f = scan_fault c.args.limits.now c.args.bytes.now c.in_err-tokens.field-0.0 c.in_err-tokens.ensures in
    rw (err_is c.from_residual.result _ c.from_residual.ensures.1)
    (record { exact = f; alone = tt; only = λ t text within. no_fault c.args.limits.now c.args.bytes.now t c.in_err-tokens.field-0.0 text within f })

pub returns-in_err-tree : goal.returns-in_err-tree
returns-in_err-tree c =
    let f = (file_fault c.args.limits.now c.args.bytes.now c.in_ok-tokens.tokens.items c.in_err-tree.field-0.0 c.in_ok-tokens.ensures
    (subst (λ (z : List Token). IsStopped c.args.limits.now FileText at_start (length c.args.bytes.now) z c.in_err-tree.field-0.0) c.as_slice.ensures.value
    c.in_err-tree.ensures)) in
    rw (err_is c.from_residual-in_err-tree.result _ c.from_residual-in_err-tree.ensures.1)
    (record { exact = f; alone = tt; only = λ t text within. no_fault c.args.limits.now c.args.bytes.now t c.in_err-tree.field-0.0 text within f })

pub returns : goal.returns
returns c =
    let t = tree_read c.args.limits.now c.args.bytes.now c.in_ok-tokens.tokens.items c.in_ok-tree.tree c.in_ok-tokens.ensures
    (subst (λ (z : List Token). IsSpelled c.args.limits.now c.in_ok-tree.tree z) c.as_slice.ensures.value c.in_ok-tree.ensures) in
    record { exact = t; alone = λ u text. tree_alone c.args.limits.now c.args.bytes.now c.in_ok-tree.tree u t text; only = λ u text within. tt }
