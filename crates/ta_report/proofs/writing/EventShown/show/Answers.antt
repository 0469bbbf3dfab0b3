use Rattle.ta_report.proofs.Common.{List, ℕ, ◌≡◌, ◌++◌, ◌∷◌, [], ◌∙◌, ap, codes, condition_text, mask_text}
use Rattle.std.proofs.Common.{string_bytes}
use Rattle.ta_report.proofs.Showing.{behind}
use Rattle.ta_report.proofs.writing.EventShown.show.Goals as goal

pub returns : goal.returns
returns c =
    let a = c.args.automaton.now in
    let e = c.args.self.now in
    let t0 = string_bytes c.args.text.now in
    let t1 = string_bytes c.write.new.self in
    let t2 = string_bytes c.show_mask.new.text in
    let t3 = string_bytes c.push_str.new.self in
    let t4 = string_bytes c.show_condition.new.text in
    let end : List ℕ = condition_text (codes "holds ") a e.condition in
    let line : List ℕ = (10 ∷ []) ++ end in
    let head : t1 ≡ t0 ++ (e.name ++ codes " after") = c.in_ok-write.ensures.bytes ∙ ap (λ n. t0 ++ (n ++ codes " after")) c.as_str.ensures in
    let first : t2 ≡ t1 ++ mask_text e.after = c.in_ok-show_mask.ensures ∙ ap (λ m. t1 ++ mask_text m) c.from.ensures in
    behind t0 t1 t4 (e.name ++ codes " after") (mask_text e.after ++ line) head
    (behind t1 t2 t4 (mask_text e.after) line first
    (behind t2 t3 t4 (10 ∷ []) end c.in_ok-push_str.ensures.bytes c.in_ok-show_condition.ensures))
