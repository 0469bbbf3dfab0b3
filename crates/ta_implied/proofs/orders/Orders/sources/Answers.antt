use Rattle.ta_implied.proofs.Common.{ℕ, ◌≡◌, ◌↔◌, ◌⊎◌, ◌<◌, ◌^◌, true, subst, has_bit, IsBeforeSome}
use Rattle.ta_implied.proofs.Gathering.{first_searched, more_searched, all_searched}
use Rattle.ta_implied.proofs.orders.Orders.sources.Goals as goal

pub loop-found-init : goal.loop-found-init
loop-found-init c = first_searched c.args.self.now c.args.guard c.mask-found.result c.mask-found.ensures

pub returns-then-more-found : goal.returns-then-more-found
returns-then-more-found c =
    let found = c.loop-found.found in
    let same : c.with_sources-more.result ≡ found = c.if-more-found.true in
    let fits : found < 2 ^ 64 = subst (λ n. n < 2 ^ 64) same c.with_sources-more.type_inv in
    let members = subst (λ n. (j : ℕ) → (has_bit n j ≡ true) ↔ ((has_bit found j ≡ true) ⊎ IsBeforeSome c.args.self.now found 64 j)) same
    c.with_sources-more.ensures.members in
    all_searched c.args.self.now c.args.guard found fits c.loop-found.invariant members

pub loop-found-preserved : goal.loop-found-preserved
loop-found-preserved c =
    more_searched c.args.self.now c.args.guard c.loop-found.found c.with_sources-more.result c.loop-found.invariant c.with_sources-more.ensures.members
