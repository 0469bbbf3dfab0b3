use Rattle.ta_syntax.proofs.Common.{◌<◌, length, false-eqb, arith, [], ◌∷◌, ◌++◌, string_bytes, if_ok_then, listed, Prints}
use Rattle.ta_syntax.proofs.PrintSteps.{prints_then, ended_some}
use Rattle.ta_syntax.specs.declared.tokens.Kind.TheVariants as kind
use Rattle.ta_syntax.specs.declared.tokens.Mark.TheVariants as mark
use Rattle.ta_syntax.proofs.printing.print_ended.Goals as goal

pub returns : goal.returns
returns g c =
    let some : 0 < length c.args.items.now = omega (arith, false-eqb (length c.args.items.now) 0 c.if-is_empty.ensures) in
    if_ok_then c.put_mark-2.result (λ (p : Prints (string_bytes c.print_listed.new.text) (string_bytes c.put_mark-2.new.text) (kind.Fixed mark.Semicolon ∷ [])).
    ended_some (string_bytes c.args.text.now) (string_bytes c.put_mark-2.new.text) c.args.mark g.T.Printed.spelled c.args.items.now some
    (prints_then (string_bytes c.args.text.now) (string_bytes c.put_mark.new.text) (string_bytes c.put_mark-2.new.text) (kind.Fixed c.args.mark ∷ [])
    ((listed kind.Fixed g.T.Printed.spelled c.args.items.now) ++ (kind.Fixed mark.Semicolon ∷ [])) c.in_ok-put_mark.ensures
    (prints_then (string_bytes c.put_mark.new.text) (string_bytes c.print_listed.new.text) (string_bytes c.put_mark-2.new.text)
    (listed kind.Fixed g.T.Printed.spelled c.args.items.now) (kind.Fixed mark.Semicolon ∷ []) c.in_ok-print_listed.ensures p))) c.put_mark-2.ensures
