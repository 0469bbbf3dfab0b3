use Rattle.ta_report.proofs.Common.{List, ℕ, ◌≡◌, ◌++◌, ◌∙◌, ap, subst, codes, name_text, unknown_names}
use Rattle.std.proofs.Common.{string_bytes}
use Rattle.std.specs.Prelude.{OnOk}
use Rattle.ta_report.specs.Show.{listed}
use Rattle.ta_report.proofs.unknowns.show_of_pattern.Goals as goal

pub returns : goal.returns
returns c =
    let a = c.args.automaton.now in
    let p = c.args.pattern.now in
    let word : c.as_str-2.result.now ≡ codes "unknowns of " ++ (p.name ++ codes " ") = c.as_str-2.ensures.value ∙ c.in_ok-word.ensures.ok
    ∙ ap (λ n. codes "unknowns of " ++ (n ++ codes " ")) c.as_str.ensures in
    let names = ap (listed c.as_str-2.result.now name_text) c.in_ok-names.ensures in
    let text = names ∙ ap (λ w. listed w name_text (unknown_names a p)) word in
    subst (λ (t : List ℕ). OnOk c.show_listed.result (string_bytes c.show_listed.new.text ≡ string_bytes c.args.text.now ++ t)) text c.show_listed.ensures
