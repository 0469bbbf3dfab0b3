use Rattle.ta_syntax.proofs.Common.{[], ◌∷◌, ◌++◌, map, string_bytes, if_ok_then, listed, name_kinds, location_kinds, plain_name, plain_location, Prints}
use Rattle.ta_syntax.proofs.PrintSteps.{prints_then, declared_of, declared_then}
use Rattle.ta_syntax.specs.declared.tokens.Kind.TheVariants as kind
use Rattle.ta_syntax.specs.declared.tokens.Mark.TheVariants as mark
use Rattle.ta_syntax.proofs.printing.print_head.Goals as goal

pub returns : goal.returns
returns c = if_ok_then c.print_declared-3.result
    (λ (p : Prints (string_bytes c.print_declared-2.new.text) (string_bytes c.print_declared-3.new.text)
    (kind.Fixed mark.Locations ∷ (listed kind.Fixed (λ l. location_kinds (plain_location l)) c.as_slice-3.result.now ++ kind.Fixed mark.Semicolon ∷ []))).
    (prints_then (string_bytes c.args.text.now) (string_bytes c.put_mark.new.text) (string_bytes c.print_declared-3.new.text) (kind.Fixed mark.Automaton ∷ [])
    ((kind.Name c.args.tree.now.name.name ∷ []) ++
    ((kind.Fixed mark.Semicolon ∷ []) ++
    (kind.Fixed mark.Parameters ∷ ((listed kind.Fixed name_kinds (map plain_name c.args.tree.now.parameters))
    ++ kind.Fixed mark.Semicolon ∷ (kind.Fixed mark.Shared ∷
    ((listed kind.Fixed name_kinds (map plain_name c.args.tree.now.shared))
    ++ kind.Fixed mark.Semicolon ∷ (kind.Fixed mark.Locations ∷
    ((listed kind.Fixed location_kinds (map plain_location c.args.tree.now.locations)) ++ kind.Fixed mark.Semicolon ∷ [])))))))) c.in_ok-put_mark.ensures
    (prints_then (string_bytes c.put_mark.new.text) (string_bytes c.put_name.new.text) (string_bytes c.print_declared-3.new.text)
    (kind.Name c.args.tree.now.name.name ∷ [])
    ((kind.Fixed mark.Semicolon ∷ []) ++
    (kind.Fixed mark.Parameters ∷ ((listed kind.Fixed name_kinds (map plain_name c.args.tree.now.parameters))
    ++ kind.Fixed mark.Semicolon ∷ (kind.Fixed mark.Shared ∷
    ((listed kind.Fixed name_kinds (map plain_name c.args.tree.now.shared))
    ++ kind.Fixed mark.Semicolon ∷ (kind.Fixed mark.Locations ∷
    ((listed kind.Fixed location_kinds (map plain_location c.args.tree.now.locations)) ++ kind.Fixed mark.Semicolon ∷ []))))))) c.in_ok-put_name.ensures
    (prints_then (string_bytes c.put_name.new.text) (string_bytes c.put_mark-2.new.text) (string_bytes c.print_declared-3.new.text)
    (kind.Fixed mark.Semicolon ∷ [])
    (kind.Fixed mark.Parameters ∷ ((listed kind.Fixed name_kinds (map plain_name c.args.tree.now.parameters))
    ++ kind.Fixed mark.Semicolon ∷ (kind.Fixed mark.Shared ∷
    ((listed kind.Fixed name_kinds (map plain_name c.args.tree.now.shared))
    ++ kind.Fixed mark.Semicolon ∷ (kind.Fixed mark.Locations ∷
    ((listed kind.Fixed location_kinds (map plain_location c.args.tree.now.locations)) ++ kind.Fixed mark.Semicolon ∷ [])))))) c.in_ok-put_mark-2.ensures
    (declared_then (string_bytes c.put_mark-2.new.text) (string_bytes c.print_declared.new.text) (string_bytes c.print_declared-3.new.text)
    (kind.Fixed mark.Parameters) (listed kind.Fixed name_kinds (map plain_name c.args.tree.now.parameters))
    (kind.Fixed mark.Shared ∷ ((listed kind.Fixed name_kinds (map plain_name c.args.tree.now.shared))
    ++ kind.Fixed mark.Semicolon ∷ (kind.Fixed mark.Locations ∷
    ((listed kind.Fixed location_kinds (map plain_location c.args.tree.now.locations)) ++ kind.Fixed mark.Semicolon ∷ []))))
    (declared_of (string_bytes c.put_mark-2.new.text) (string_bytes c.print_declared.new.text) mark.Parameters plain_name name_kinds c.as_slice.result.now
    c.args.tree.now.parameters c.as_slice.ensures c.in_ok-print_declared.ensures)
    (declared_then (string_bytes c.print_declared.new.text) (string_bytes c.print_declared-2.new.text) (string_bytes c.print_declared-3.new.text)
    (kind.Fixed mark.Shared) (listed kind.Fixed name_kinds (map plain_name c.args.tree.now.shared))
    (kind.Fixed mark.Locations ∷ ((listed kind.Fixed location_kinds (map plain_location c.args.tree.now.locations)) ++ kind.Fixed mark.Semicolon ∷ []))
    (declared_of (string_bytes c.print_declared.new.text) (string_bytes c.print_declared-2.new.text) mark.Shared plain_name name_kinds c.as_slice-2.result.now
    c.args.tree.now.shared c.as_slice-2.ensures c.in_ok-print_declared-2.ensures)
    (declared_of (string_bytes c.print_declared-2.new.text) (string_bytes c.print_declared-3.new.text) mark.Locations plain_location location_kinds
    c.as_slice-3.result.now c.args.tree.now.locations c.as_slice-3.ensures p))))))) c.print_declared-3.ensures
