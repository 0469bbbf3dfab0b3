use Rattle.ta_syntax.proofs.Common.{[], ◌∷◌, ◌++◌, map, string_bytes, if_ok_then, led, comparison_kinds, update_kinds, plain_comparison, plain_update, Prints}
use Rattle.ta_syntax.proofs.PrintSteps.{prints_then, led_of}
use Rattle.ta_syntax.specs.declared.tokens.Kind.TheVariants as kind
use Rattle.ta_syntax.specs.declared.tokens.Mark.TheVariants as mark
use Rattle.ta_syntax.proofs.printing.TreeRulePrinted.print.Goals as goal

pub returns : goal.returns
returns c = if_ok_then c.put_mark-4.result
    (λ (p : Prints (string_bytes c.print_led-2.new.text) (string_bytes c.put_mark-4.new.text) (kind.Fixed mark.Semicolon ∷ [])).
    (prints_then (string_bytes c.args.text.now) (string_bytes c.put_mark.new.text) (string_bytes c.put_mark-4.new.text) (kind.Fixed mark.Rule ∷ [])
    ((kind.Name c.args.self.now.name.name ∷ []) ++
    ((kind.Fixed mark.Colon ∷ []) ++
    ((kind.Name c.args.self.now.from.name ∷ []) ++
    ((kind.Fixed mark.Arrow ∷ []) ++
    ((kind.Name c.args.self.now.to.name ∷ []) ++
    ((led kind.Fixed mark.When comparison_kinds (map plain_comparison c.args.self.now.guards))
    ++ ((led kind.Fixed mark.Do update_kinds (map plain_update c.args.self.now.updates)) ++ (kind.Fixed mark.Semicolon ∷ [])))))))) c.in_ok-put_mark.ensures
    (prints_then (string_bytes c.put_mark.new.text) (string_bytes c.put_name.new.text) (string_bytes c.put_mark-4.new.text)
    (kind.Name c.args.self.now.name.name ∷ [])
    ((kind.Fixed mark.Colon ∷ []) ++
    ((kind.Name c.args.self.now.from.name ∷ []) ++
    ((kind.Fixed mark.Arrow ∷ []) ++
    ((kind.Name c.args.self.now.to.name ∷ []) ++
    ((led kind.Fixed mark.When comparison_kinds (map plain_comparison c.args.self.now.guards))
    ++ ((led kind.Fixed mark.Do update_kinds (map plain_update c.args.self.now.updates)) ++ (kind.Fixed mark.Semicolon ∷ []))))))) c.in_ok-put_name.ensures
    (prints_then (string_bytes c.put_name.new.text) (string_bytes c.put_mark-2.new.text) (string_bytes c.put_mark-4.new.text) (kind.Fixed mark.Colon ∷ [])
    ((kind.Name c.args.self.now.from.name ∷ []) ++
    ((kind.Fixed mark.Arrow ∷ []) ++
    ((kind.Name c.args.self.now.to.name ∷ []) ++
    ((led kind.Fixed mark.When comparison_kinds (map plain_comparison c.args.self.now.guards))
    ++ ((led kind.Fixed mark.Do update_kinds (map plain_update c.args.self.now.updates)) ++ (kind.Fixed mark.Semicolon ∷ [])))))) c.in_ok-put_mark-2.ensures
    (prints_then (string_bytes c.put_mark-2.new.text) (string_bytes c.put_name-2.new.text) (string_bytes c.put_mark-4.new.text)
    (kind.Name c.args.self.now.from.name ∷ [])
    ((kind.Fixed mark.Arrow ∷ []) ++
    ((kind.Name c.args.self.now.to.name ∷ []) ++
    ((led kind.Fixed mark.When comparison_kinds (map plain_comparison c.args.self.now.guards))
    ++ ((led kind.Fixed mark.Do update_kinds (map plain_update c.args.self.now.updates)) ++ (kind.Fixed mark.Semicolon ∷ []))))) c.in_ok-put_name-2.ensures
    (prints_then (string_bytes c.put_name-2.new.text) (string_bytes c.put_mark-3.new.text) (string_bytes c.put_mark-4.new.text) (kind.Fixed mark.Arrow ∷ [])
    ((kind.Name c.args.self.now.to.name ∷ []) ++
    ((led kind.Fixed mark.When comparison_kinds (map plain_comparison c.args.self.now.guards))
    ++ ((led kind.Fixed mark.Do update_kinds (map plain_update c.args.self.now.updates)) ++ (kind.Fixed mark.Semicolon ∷ [])))) c.in_ok-put_mark-3.ensures
    (prints_then (string_bytes c.put_mark-3.new.text) (string_bytes c.put_name-3.new.text) (string_bytes c.put_mark-4.new.text)
    (kind.Name c.args.self.now.to.name ∷ [])
    ((led kind.Fixed mark.When comparison_kinds (map plain_comparison c.args.self.now.guards))
    ++ ((led kind.Fixed mark.Do update_kinds (map plain_update c.args.self.now.updates)) ++ (kind.Fixed mark.Semicolon ∷ []))) c.in_ok-put_name-3.ensures
    (prints_then (string_bytes c.put_name-3.new.text) (string_bytes c.print_led.new.text) (string_bytes c.put_mark-4.new.text)
    (led kind.Fixed mark.When comparison_kinds (map plain_comparison c.args.self.now.guards))
    ((led kind.Fixed mark.Do update_kinds (map plain_update c.args.self.now.updates)) ++ (kind.Fixed mark.Semicolon ∷ []))
    (led_of (string_bytes c.put_name-3.new.text) (string_bytes c.print_led.new.text) mark.When plain_comparison comparison_kinds c.as_slice.result.now
    c.args.self.now.guards c.as_slice.ensures c.in_ok-print_led.ensures)
    (prints_then (string_bytes c.print_led.new.text) (string_bytes c.print_led-2.new.text) (string_bytes c.put_mark-4.new.text)
    (led kind.Fixed mark.Do update_kinds (map plain_update c.args.self.now.updates)) (kind.Fixed mark.Semicolon ∷ [])
    (led_of (string_bytes c.print_led.new.text) (string_bytes c.print_led-2.new.text) mark.Do plain_update update_kinds c.as_slice-2.result.now
    c.args.self.now.updates c.as_slice-2.ensures c.in_ok-print_led-2.ensures) p))))))))) c.put_mark-4.ensures
