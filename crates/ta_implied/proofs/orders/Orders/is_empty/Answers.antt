use Rattle.ta_implied.proofs.Common.{◌≡◌, ◌∙◌, [], sym, ap, replicate, Decides-eqb, pairs_from}
use Rattle.std.proofs.lemmas.Slice.Eq.{slice_eq-Decides}
use Rattle.ta_implied.proofs.Pairs.{all_empty, no_pairs}
use Rattle.ta_implied.proofs.orders.Orders.is_empty.Goals as goal

pub returns : goal.returns
returns c =
    let masks = c.self.inside.masks in
    let same = slice_eq-Decides Decides-eqb masks (replicate 64 0) c.eq.result c.eq.ensures in
    let none : pairs_from 0 (replicate 64 0) ≡ [] = no_pairs 0 64 in (
      (λ t. sym c.self.view_is ∙ ap (pairs_from 0) (same.0 t) ∙ none),
      (λ e. same.1 (all_empty masks c.self.invariant.fit c.self.told (c.self.view_is ∙ e))),
    )
