use Rattle.ta_search.proofs.Common.{◌∙◌, ◌++◌, [], ◌∷◌, ap, sym, map, take, take_all, take_more, arith, items_of, view-Array, Tried, tried_data}
use Rattle.serde_json.specs.Data.{array}
use Rattle.ta_search.proofs.SearchItems.{one_item_more, tries_listed}
use Rattle.ta_search.proofs.object.tries_value.Goals as goal

pub vectors-preserved : goal.vectors-preserved
vectors-preserved c =
    let hs = c.args.holes.now in
    let xs = c.args.tried.now in
    let i = c.vectors.next-index in
    let x = c.next-item.result in
    let front = take i xs in
    let more = take_more xs i x c.vectors-test.true ∙ ap (λ (y : Tried). front ++ y ∷ []) (sym c.next-item.is) in
    record {
      so_far = one_item_more hs front x c.vectors.items.items c.push.new.self.items c.in_ok-tried_value.field-0 c.vectors.invariant.so_far
          c.in_ok-push.ensures.items c.in_ok-tried_value.ensures ∙ ap (map (tried_data hs)) (sym more);
    }

pub returns : goal.returns
returns c =
    let hs = c.args.holes.now in
    let xs = c.args.tried.now in
    let all = take_all c.vectors.next-index xs (omega (arith, c.vectors-test.false)) in
    view-Array c.vectors.items ∙ ap array (ap items_of (c.vectors.invariant.so_far ∙ ap (map (tried_data hs)) all) ∙ tries_listed hs xs)
