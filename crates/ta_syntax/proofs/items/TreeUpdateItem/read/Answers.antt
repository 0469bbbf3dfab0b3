use Rattle.ta_syntax.proofs.Common.{err_is, a_mark, a_name, a_number, update, both}
use Rattle.ta_syntax.proofs.Steps.{then, past, take_name, take_mark, take_number, name_stops, mark_stops, number_stops, halts_by, halts_in, stops_first}
use Rattle.ta_syntax.specs.declared.tokens.Mark.TheVariants as mark
use Rattle.ta_syntax.specs.declared.fault.FileFault.TheVariants as fault
use Rattle.ta_syntax.proofs.items.TreeUpdateItem.read.Goals as goal

pub returns-in_err-name : goal.returns-in_err-name
returns-in_err-name c = rw (err_is c.from_residual.result _ c.from_residual.ensures.1)
    (stops_first a_name (both (a_mark mark.PlusEquals) a_number) c.args.end c.args.tokens.now c.in_err-name.field-0.0
    (name_stops c.args.end c.args.tokens.now c.in_err-name.field-0.0 c.in_err-name.ensures))

pub returns-in_err-after_mark : goal.returns-in_err-after_mark
returns-in_err-after_mark c =
    let name = take_name c.in_ok-name.name.name c.args.end c.in_ok-name.name.at c.in_ok-name.ensures.0 c.in_ok-name.ensures.1 in
    rw (err_is c.from_residual-in_err-after_mark.result _ c.from_residual-in_err-after_mark.ensures.1)
    (halts_in update (a_mark mark.PlusEquals) a_number c.args.end c.in_err-after_mark.field-0.0 (past name)
    (mark_stops mark.PlusEquals c.args.end c.in_ok-name.after_name.now c.in_err-after_mark.field-0.0 c.in_err-after_mark.ensures))

pub returns-in_default : goal.returns-in_default
returns-in_default c =
    let none = rw c.in_default.is at c.in_ok-amount.ensures in
    let name = take_name c.in_ok-name.name.name c.args.end c.in_ok-name.name.at c.in_ok-name.ensures.0 c.in_ok-name.ensures.1 in
    halts_by update a_number c.args.end (fault.Syntax c.first_offset.result) (then (past name) (past (take_mark mark.PlusEquals c.in_ok-after_mark.ensures)))
    (number_stops c.args.end c.first_offset.result c.in_ok-after_mark.after_mark.now none c.first_offset.ensures)

pub returns : goal.returns
returns c =
    let a = rw c.in-Some.is at c.in_ok-amount.ensures in
    let name = take_name c.in_ok-name.name.name c.args.end c.in_ok-name.name.at c.in_ok-name.ensures.0 c.in_ok-name.ensures.1 in
    then (then (past name) (past (take_mark mark.PlusEquals c.in_ok-after_mark.ensures)))
    (take_number c.in-Some.amount.text c.args.end c.in-Some.amount.at a.0 (a.1 c.args.end))
