use Rattle.ta_links.proofs.Common.{arith, length, List, Option, ℕ, ap, None, ◌∷◌, [], length-append}
use Rattle.ta_links.proofs.Beginning.{heads_pushed}
use Rattle.ta_links.proofs.starting.no_heads.Goals as goal

pub loop-line-preserved : goal.loop-line-preserved
loop-line-preserved c =
    let items = c.in_ok-push.ensures.items in
    let long = ap (λ (hs : List (Option ℕ)). length hs) items in
    let l = length-append c.loop-line.heads.items (None ∷ []) in
    record {
      empty = heads_pushed c.loop-line.heads.items c.push.new.self.items items c.loop-line.invariant.empty;
      long = omega arith;
    }
