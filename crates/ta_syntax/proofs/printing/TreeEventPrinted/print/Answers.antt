use Rattle.ta_syntax.proofs.Common.{[], ◌∷◌, ◌++◌, map, string_bytes, if_ok_then, listed, led, name_kinds, comparison_kinds, plain_name, plain_comparison}
use Rattle.ta_syntax.proofs.Common.{Prints}
use Rattle.ta_syntax.proofs.PrintSteps.{prints_then, listed_of, led_of}
use Rattle.ta_syntax.specs.declared.tokens.Kind.TheVariants as kind
use Rattle.ta_syntax.specs.declared.tokens.Mark.TheVariants as mark
use Rattle.ta_syntax.proofs.printing.TreeEventPrinted.print.Goals as goal

pub returns : goal.returns
returns c = if_ok_then c.put_mark-3.result
    (λ (p : Prints (string_bytes c.print_listed.new.text) (string_bytes c.put_mark-3.new.text) (kind.Fixed mark.Semicolon ∷ [])).
    (prints_then (string_bytes c.args.text.now) (string_bytes c.put_mark.new.text) (string_bytes c.put_mark-3.new.text) (kind.Fixed mark.Event ∷ [])
    ((kind.Name c.args.self.now.name.name ∷ []) ++
    ((led kind.Fixed mark.After name_kinds (map plain_name c.args.self.now.after))
    ++ ((kind.Fixed mark.Colon ∷ []) ++
    ((listed kind.Fixed comparison_kinds (map plain_comparison c.args.self.now.condition)) ++ (kind.Fixed mark.Semicolon ∷ []))))) c.in_ok-put_mark.ensures
    (prints_then (string_bytes c.put_mark.new.text) (string_bytes c.put_name.new.text) (string_bytes c.put_mark-3.new.text)
    (kind.Name c.args.self.now.name.name ∷ [])
    ((led kind.Fixed mark.After name_kinds (map plain_name c.args.self.now.after))
    ++ ((kind.Fixed mark.Colon ∷ []) ++
    ((listed kind.Fixed comparison_kinds (map plain_comparison c.args.self.now.condition)) ++ (kind.Fixed mark.Semicolon ∷ [])))) c.in_ok-put_name.ensures
    (prints_then (string_bytes c.put_name.new.text) (string_bytes c.print_led.new.text) (string_bytes c.put_mark-3.new.text)
    (led kind.Fixed mark.After name_kinds (map plain_name c.args.self.now.after))
    ((kind.Fixed mark.Colon ∷ []) ++
    ((listed kind.Fixed comparison_kinds (map plain_comparison c.args.self.now.condition)) ++ (kind.Fixed mark.Semicolon ∷ [])))
    (led_of (string_bytes c.put_name.new.text) (string_bytes c.print_led.new.text) mark.After plain_name name_kinds c.as_slice.result.now c.args.self.now.after
    c.as_slice.ensures c.in_ok-print_led.ensures)
    (prints_then (string_bytes c.print_led.new.text) (string_bytes c.put_mark-2.new.text) (string_bytes c.put_mark-3.new.text) (kind.Fixed mark.Colon ∷ [])
    ((listed kind.Fixed comparison_kinds (map plain_comparison c.args.self.now.condition)) ++ (kind.Fixed mark.Semicolon ∷ [])) c.in_ok-put_mark-2.ensures
    (prints_then (string_bytes c.put_mark-2.new.text) (string_bytes c.print_listed.new.text) (string_bytes c.put_mark-3.new.text)
    (listed kind.Fixed comparison_kinds (map plain_comparison c.args.self.now.condition)) (kind.Fixed mark.Semicolon ∷ [])
    (listed_of (string_bytes c.put_mark-2.new.text) (string_bytes c.print_listed.new.text) plain_comparison comparison_kinds c.as_slice-2.result.now
    c.args.self.now.condition c.as_slice-2.ensures c.in_ok-print_listed.ensures) p)))))) c.put_mark-3.ensures
