use Rattle.ta_report.proofs.Common.{List, ℕ, ◌≡◌, ◌++◌, ◌∷◌, [], ◌∙◌, ap, codes, mask_text, update_text}
use Rattle.std.proofs.Common.{string_bytes}
use Rattle.ta_report.specs.Show.{listed, way_text}
use Rattle.ta_report.proofs.Showing.{behind}
use Rattle.ta_report.proofs.writing.RuleShown.show.Goals as goal

pub returns : goal.returns
returns c =
    let a = c.args.automaton.now in
    let r = c.args.self.now in
    let t0 = string_bytes c.args.text.now in
    let t1 = string_bytes c.show_way.new.text in
    let t2 = string_bytes c.show_mask.new.text in
    let t3 = string_bytes c.push_str.new.self in
    let t4 = string_bytes c.show_mask-2.new.text in
    let t5 = string_bytes c.push_str-2.new.self in
    let t6 = string_bytes c.show_listed.new.text in
    let end : List ℕ = listed (codes "updates ") (update_text a) r.updates in
    let line : List ℕ = (10 ∷ []) ++ end in
    let fall : List ℕ = mask_text r.fall ++ line in
    let between : List ℕ = codes ", fall" ++ fall in
    let first : t2 ≡ t1 ++ mask_text r.rise = c.in_ok-show_mask.ensures ∙ ap (λ m. t1 ++ mask_text m) c.from.ensures in
    let second : t4 ≡ t3 ++ mask_text r.fall = c.in_ok-show_mask-2.ensures ∙ ap (λ m. t3 ++ mask_text m) c.from-2.ensures in
    behind t0 t1 t6 (way_text a r) (mask_text r.rise ++ between) c.in_ok-show_way.ensures
    (behind t1 t2 t6 (mask_text r.rise) between first
    (behind t2 t3 t6 (codes ", fall") fall c.in_ok-push_str.ensures.bytes
    (behind t3 t4 t6 (mask_text r.fall) line second
    (behind t4 t5 t6 (10 ∷ []) end c.in_ok-push_str-2.ensures.bytes c.in_ok-show_listed.ensures))))
