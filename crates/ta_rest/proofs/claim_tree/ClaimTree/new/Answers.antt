use Rattle.ta_words.proofs.Tasks.{of_task}
use Rattle.ta_encode.specs.Marks.{IsEncoding}
use Rattle.ta_encode.specs.declared.growing.Encoding.{Encoding}
use Rattle.ta_rest.proofs.ClaimCommon.{◌≡◌, ◌↔◌, search_for}
use Rattle.ta_rest.proofs.claim_tree.ClaimTree.new.Goals as goal

pub returns-clause-search : goal.returns-clause-search
returns-clause-search c =
    let t = c.of-task.result in
    let pairs = c.args.orders.now in
    of_task c.args.file.now c.args.number t (λ a p. search_for c.args.claim t.automaton.now t.pattern.now pairs ≡ search_for c.args.claim a p pairs)
    c.of-task.ensures.automaton c.of-task.ensures.pattern
    (let same : search_for c.args.claim t.automaton.now t.pattern.now pairs ≡ search_for c.args.claim t.automaton.now t.pattern.now pairs = cc in same)

pub returns-clause-kept : goal.returns-clause-kept
returns-clause-kept c =
    let t = c.of-task.result in
    of_task c.args.file.now c.args.number t (λ a p. (kept : Encoding) → IsEncoding t.automaton.now t.pattern.now kept ↔ IsEncoding a p kept)
    c.of-task.ensures.automaton c.of-task.ensures.pattern (λ kept. (λ is. is, λ is. is))
