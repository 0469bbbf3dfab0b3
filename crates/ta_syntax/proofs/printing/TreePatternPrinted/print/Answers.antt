use Rattle.ta_syntax.proofs.Common.{[], ◌∷◌, ◌++◌, map, string_bytes, if_ok_then, ended, each, name_kinds, comparison_kinds, event_kinds, plain_name}
use Rattle.ta_syntax.proofs.Common.{plain_comparison, plain_event, Prints}
use Rattle.ta_syntax.proofs.PrintSteps.{prints_then, ended_of, each_of}
use Rattle.ta_syntax.specs.declared.tokens.Kind.TheVariants as kind
use Rattle.ta_syntax.specs.declared.tokens.Mark.TheVariants as mark
use Rattle.ta_syntax.proofs.printing.TreePatternPrinted.print.Goals as goal

pub returns : goal.returns
returns c = if_ok_then c.put_mark-3.result
    (λ (p : Prints (string_bytes c.print_each.new.text) (string_bytes c.put_mark-3.new.text) (kind.Fixed mark.CloseBrace ∷ [])).
    (prints_then (string_bytes c.args.text.now) (string_bytes c.put_mark.new.text) (string_bytes c.put_mark-3.new.text) (kind.Fixed mark.Pattern ∷ [])
    ((kind.Name c.args.self.now.name.name ∷ []) ++
    ((kind.Fixed mark.OpenBrace ∷ []) ++
    ((ended kind.Fixed mark.Start comparison_kinds (map plain_comparison c.args.self.now.start))
    ++ ((ended kind.Fixed mark.Empty name_kinds (map plain_name c.args.self.now.empty))
    ++ ((each event_kinds (map plain_event c.args.self.now.events)) ++ (kind.Fixed mark.CloseBrace ∷ [])))))) c.in_ok-put_mark.ensures
    (prints_then (string_bytes c.put_mark.new.text) (string_bytes c.put_name.new.text) (string_bytes c.put_mark-3.new.text)
    (kind.Name c.args.self.now.name.name ∷ [])
    ((kind.Fixed mark.OpenBrace ∷ []) ++
    ((ended kind.Fixed mark.Start comparison_kinds (map plain_comparison c.args.self.now.start))
    ++ ((ended kind.Fixed mark.Empty name_kinds (map plain_name c.args.self.now.empty))
    ++ ((each event_kinds (map plain_event c.args.self.now.events)) ++ (kind.Fixed mark.CloseBrace ∷ []))))) c.in_ok-put_name.ensures
    (prints_then (string_bytes c.put_name.new.text) (string_bytes c.put_mark-2.new.text) (string_bytes c.put_mark-3.new.text) (kind.Fixed mark.OpenBrace ∷ [])
    ((ended kind.Fixed mark.Start comparison_kinds (map plain_comparison c.args.self.now.start))
    ++ ((ended kind.Fixed mark.Empty name_kinds (map plain_name c.args.self.now.empty))
    ++ ((each event_kinds (map plain_event c.args.self.now.events)) ++ (kind.Fixed mark.CloseBrace ∷ [])))) c.in_ok-put_mark-2.ensures
    (prints_then (string_bytes c.put_mark-2.new.text) (string_bytes c.print_ended.new.text) (string_bytes c.put_mark-3.new.text)
    (ended kind.Fixed mark.Start comparison_kinds (map plain_comparison c.args.self.now.start))
    ((ended kind.Fixed mark.Empty name_kinds (map plain_name c.args.self.now.empty))
    ++ ((each event_kinds (map plain_event c.args.self.now.events)) ++ (kind.Fixed mark.CloseBrace ∷ [])))
    (ended_of (string_bytes c.put_mark-2.new.text) (string_bytes c.print_ended.new.text) mark.Start plain_comparison comparison_kinds c.as_slice.result.now
    c.args.self.now.start c.as_slice.ensures c.in_ok-print_ended.ensures)
    (prints_then (string_bytes c.print_ended.new.text) (string_bytes c.print_ended-2.new.text) (string_bytes c.put_mark-3.new.text)
    (ended kind.Fixed mark.Empty name_kinds (map plain_name c.args.self.now.empty))
    ((each event_kinds (map plain_event c.args.self.now.events)) ++ (kind.Fixed mark.CloseBrace ∷ []))
    (ended_of (string_bytes c.print_ended.new.text) (string_bytes c.print_ended-2.new.text) mark.Empty plain_name name_kinds c.as_slice-2.result.now
    c.args.self.now.empty c.as_slice-2.ensures c.in_ok-print_ended-2.ensures)
    (prints_then (string_bytes c.print_ended-2.new.text) (string_bytes c.print_each.new.text) (string_bytes c.put_mark-3.new.text)
    (each event_kinds (map plain_event c.args.self.now.events)) (kind.Fixed mark.CloseBrace ∷ [])
    (each_of (string_bytes c.print_ended-2.new.text) (string_bytes c.print_each.new.text) plain_event event_kinds c.as_slice-3.result.now c.args.self.now.events
    c.as_slice-3.ensures c.in_ok-print_each.ensures) p))))))) c.put_mark-3.ensures
