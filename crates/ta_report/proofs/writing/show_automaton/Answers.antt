use Rattle.ta_report.proofs.Common.{List, ℕ, ◌≡◌, ◌++◌, ◌∷◌, [], ◌∙◌, ap, codes, condition_text, location_text, name_text, row_text, rule_text, sum_text}
use Rattle.std.proofs.Common.{string_bytes}
use Rattle.ta_report.specs.Show.{listed}
use Rattle.ta_report.proofs.Showing.{behind}
use Rattle.ta_report.proofs.writing.show_automaton.Goals as goal

pub returns : goal.returns
returns c =
    let a = c.args.automaton.now in
    let t0 = string_bytes c.args.text.now in
    let t1 = string_bytes c.write.new.self in
    let t2 = string_bytes c.show_listed.new.text in
    let t3 = string_bytes c.show_listed-2.new.text in
    let t4 = string_bytes c.show_listed-3.new.text in
    let t5 = string_bytes c.show_listed-4.new.text in
    let t6 = string_bytes c.show_sum.new.text in
    let t7 = string_bytes c.push_str.new.self in
    let t8 = string_bytes c.show_condition.new.text in
    let t9 = string_bytes c.show_listed-5.new.text in
    let t10 = string_bytes c.show_listed-6.new.text in
    let t11 = string_bytes c.show_listed-7.new.text in
    let x0 : List ℕ = codes "automaton " ++ (a.name ++ (10 ∷ [])) in
    let x1 : List ℕ = listed (codes "parameters ") name_text a.parameters in
    let x2 : List ℕ = listed (codes "shared ") name_text a.shared in
    let x3 : List ℕ = listed (codes "locations ") name_text a.locations in
    let x4 : List ℕ = listed (codes "initial ") (location_text a) a.initial in
    let x5 : List ℕ = sum_text a a.processes in
    let x6 : List ℕ = codes "processes" ++ (10 ∷ []) in
    let x7 : List ℕ = condition_text (codes "resilience ") a a.resilience in
    let x8 : List ℕ = listed (codes "rise ") (row_text a) a.rise in
    let x9 : List ℕ = listed (codes "fall ") (row_text a) a.fall in
    let x10 : List ℕ = listed (codes "rules ") (rule_text a) a.rules in
    let y9 : List ℕ = x9 ++ x10 in
    let y8 : List ℕ = x8 ++ y9 in
    let y7 : List ℕ = x7 ++ y8 in
    let y6 : List ℕ = x6 ++ y7 in
    let y5 : List ℕ = x5 ++ y6 in
    let y4 : List ℕ = x4 ++ y5 in
    let y3 : List ℕ = x3 ++ y4 in
    let y2 : List ℕ = x2 ++ y3 in
    let y1 : List ℕ = x1 ++ y2 in
    let head : t1 ≡ t0 ++ x0 = c.in_ok-write.ensures.bytes ∙ ap (λ n. t0 ++ (codes "automaton " ++ (n ++ (10 ∷ [])))) c.as_str.ensures in
    behind t0 t1 t11 x0 y1 head
    (behind t1 t2 t11 x1 y2 c.in_ok-show_listed.ensures
    (behind t2 t3 t11 x2 y3 c.in_ok-show_listed-2.ensures
    (behind t3 t4 t11 x3 y4 c.in_ok-show_listed-3.ensures
    (behind t4 t5 t11 x4 y5 c.in_ok-show_listed-4.ensures
    (behind t5 t6 t11 x5 y6 c.in_ok-show_sum.ensures
    (behind t6 t7 t11 x6 y7 c.in_ok-push_str.ensures.bytes
    (behind t7 t8 t11 x7 y8 c.in_ok-show_condition.ensures
    (behind t8 t9 t11 x8 y9 c.in_ok-show_listed-5.ensures
    (behind t9 t10 t11 x9 x10 c.in_ok-show_listed-6.ensures c.in_ok-show_listed-7.ensures)))))))))
