use Rattle.ta_smt.proofs.Common.{◌≡◌, [], ◌∷◌, ◌++◌, ◌∙◌, ap, sym, codes, append_assoc, string_bytes, Left, Right, term_text, summed_term, summands}
use Rattle.ta_base.proofs.Lists.{whole_more}
use Rattle.ta_smt.proofs.export.push_row.Goals as goal

pub returns : goal.returns
returns c =
    let left = term_text (summed_term (summands Left c.args.row.now.form)) in
    let right = term_text (summed_term (summands Right c.args.row.now.form)) in
    let t0 = string_bytes c.args.text.now in
    let t1 = string_bytes c.push_str.new.self in
    let t2 = string_bytes c.push_side.new.text in
    let t3 = string_bytes c.push_str-2.new.self in
    let t4 = string_bytes c.push_side-2.new.text in
    let last : string_bytes c.push_str-3.new.self ≡ t4 ++ codes "))\n" = c.in_ok-push_str-3.ensures.bytes in
    let line = append_assoc left (codes " " ++ (right ++ codes "))")) (10 ∷ [])
    ∙ ap (λ xs. left ++ (codes " " ++ xs)) (append_assoc right (codes "))") (10 ∷ [])) in
    let written : string_bytes c.push_str-3.new.self ≡ t0 ++ ((codes "(assert (>= " ++ (left ++ (codes " " ++ (right ++ codes "))")))) ++ (10 ∷ [])) =
    last
    ∙ whole_more t4 t3 right (codes "))\n") c.in_ok-push_side-2.ensures
    ∙ whole_more t3 t2 (codes " ") (right ++ codes "))\n") c.in_ok-push_str-2.ensures.bytes
    ∙ whole_more t2 t1 left (codes " " ++ (right ++ codes "))\n")) c.in_ok-push_side.ensures
    ∙ whole_more t1 t0 (codes "(assert (>= ") (left ++ (codes " " ++ (right ++ codes "))\n"))) c.in_ok-push_str.ensures.bytes
    ∙ ap (λ xs. t0 ++ (codes "(assert (>= " ++ xs)) (sym line) in
    written
