use Rattle.ta_search.proofs.Common.{◌∙◌, ◌++◌, ℕ, List, [], ◌∷◌, ap, sym, take, take_more, Tried, tried_text, tried_texts}
use Rattle.ta_search.proofs.SearchTexts.{one_text_more}
use Rattle.ta_search.proofs.printing.search_text.Goals as goal

pub vectors-preserved : goal.vectors-preserved
vectors-preserved c =
    let hs = c.as_slice-holes.result.now in
    let xs = c.as_slice-tried.result.now in
    let i = c.vectors.next-index in
    let x = c.next-item.result in
    let front = take i xs in
    let more = take_more xs i x c.vectors-test.true ∙ ap (λ (y : Tried). front ++ y ∷ []) (sym c.next-item.is) in
    record {
      so_far = c.in_ok-write_tried.ensures ∙ ap (λ (text : List ℕ). text ++ tried_text hs x) c.vectors.invariant.so_far ∙ sym (one_text_more hs front x)
          ∙ ap (tried_texts hs) (sym more);
    }
