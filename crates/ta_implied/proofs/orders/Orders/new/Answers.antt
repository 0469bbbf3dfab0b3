use Rattle.ta_implied.proofs.Common.{◌<◌, ◌^◌, lit<, sym, subst, HasNoCircle}
use Rattle.ta_base.proofs.Each.{each_copies}
use Rattle.ta_implied.proofs.Chains.{nothing_leads}
use Rattle.ta_implied.proofs.Pairs.{no_pairs}
use Rattle.ta_implied.proofs.orders.Orders.new.Goals as goal

pub invariant_of-result : goal.invariant_of-result
invariant_of-result c = record {
  fit = each_copies (λ m. m < 2 ^ 64) 64 0 (lit< tt);
  no_circle = subst HasNoCircle (sym (no_pairs 0 64)) (λ more guard. nothing_leads more guard guard);
}

pub returns : goal.returns
returns c = no_pairs 0 64
