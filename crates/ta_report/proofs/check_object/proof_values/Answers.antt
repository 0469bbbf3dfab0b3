use Rattle.ta_report.proofs.Common.{◌≡◌, ◌∙◌, ◌<◌, ◌+◌, ℕ, List, Pattern, get_or, sym, ap, arith, length, array, view, view-Array, word_told, told_data}
use Rattle.ta_report.proofs.CheckSayings.{proofs_list, proofs_listed, proofs_count, proof_at}
use Rattle.ta_report.proofs.JsonItems.{pushed, all_pushed}
use Rattle.ta_report.proofs.check_object.proof_values.Goals as goal

pub loop-number-preserved : goal.loop-number-preserved
loop-number-preserved c =
    let l = c.loop-number in
    let rest = c.args.rest in
    let numbers = c.args.numbers.now in
    let ps = c.args.file.now.patterns in
    let p = c.pattern-item.result in
    let are = c.as_slice-pattern-items.ensures in
    let count = ap (λ (qs : List Pattern). length qs) are in
    let test = c.loop-number-test.true in
    let within : l.number < length ps = omega (arith, count, test) in
    let counted = proofs_count rest numbers 0 ps in
    let d = view c.in_ok-told_value.field-0 in
    let word : c.word_told-word.result.now ≡ word_told rest numbers l.number = c.word_told-word.ensures in
    let is : d ≡ told_data p.name (word_told rest numbers l.number) = c.in_ok-told_value.ensures
    ∙ ap (λ (n : List ℕ). told_data n c.word_told-word.result.now) c.as_str.ensures ∙ ap (told_data p.name) word in
    let zero_more : 0 + l.number ≡ l.number = omega arith in
    let item = c.pattern-item.is ∙ ap (λ (qs : List Pattern). get_or qs l.number p) are in
    let here = ap (λ (n : ℕ). told_data p.name (word_told rest numbers n)) (sym zero_more) ∙ proof_at rest numbers 0 ps l.number d p within item in
    pushed (proofs_list rest numbers 0 ps) l.number l.items.items c.push.new.self.items c.in_ok-told_value.field-0 d l.invariant c.in_ok-push.ensures.items
    (omega (arith, counted, within)) (is ∙ here)

pub returns : goal.returns
returns c =
    let l = c.loop-number in
    let ps = c.args.file.now.patterns in
    let counted = proofs_count c.args.rest c.args.numbers.now 0 ps in
    let count = ap (λ (qs : List Pattern). length qs) c.as_slice-pattern-items.ensures in
    view-Array l.items
    ∙ ap array (all_pushed (proofs_list c.args.rest c.args.numbers.now 0 ps) l.number l.items.items l.invariant
    (omega (arith, counted, count, c.loop-number-test.false))
    ∙ proofs_listed c.args.rest c.args.numbers.now 0 ps)
