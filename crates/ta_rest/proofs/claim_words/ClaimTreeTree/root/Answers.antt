use Rattle.ta_rest.proofs.ClaimCommon.{◌<◌, ◌^◌, List, length, arith, ap, ◌∙◌, slice_get, lit<, Element, Pending, shifted}
use Rattle.ta_rest.proofs.ClaimWords.{claim_roots}
use Rattle.ta_rest.proofs.PatternWords.{start_at, start_none}
use Rattle.ta_rest.proofs.claim_words.ClaimTreeTree.root.Goals as goal

pub returns-then-number-as_slice : goal.returns-then-number-as_slice
returns-then-number-as_slice c =
    let t = c.args.self.now in
    let a = t.task.automaton.now in
    let test = rw c.as_slice.ensures at c.if-number-as_slice.true in
    let shift = shifted (length a.fall) t.task.narrow.fall in
    let below : c.args.number < 2 ^ length a.fall = omega arith in
    let large : 64 < 2 ^ 31 = lit< tt in
    record {
      is = ap (λ (ws : List (Pending Element)). slice_get ws c.args.number) (claim_roots t.claim a t.task.pattern.now t.orders.now)
          ∙ start_at a c.args.number below;
      small = omega arith;
    }

pub returns-else-number-as_slice : goal.returns-else-number-as_slice
returns-else-number-as_slice c =
    let t = c.args.self.now in
    let a = t.task.automaton.now in
    let test = rw c.as_slice.ensures at c.if-number-as_slice.false in
    let shift = shifted (length a.fall) t.task.narrow.fall in
    ap (λ (ws : List (Pending Element)). slice_get ws c.args.number) (claim_roots t.claim a t.task.pattern.now t.orders.now)
    ∙ start_none a c.args.number (omega arith)
