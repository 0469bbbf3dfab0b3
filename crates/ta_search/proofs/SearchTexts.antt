-- the text of a search as it is written
use Rattle.ta_search.proofs.Common.{◌≡◌, ◌∙◌, ℕ, List, [], ◌∷◌, ◌++◌, sym, ap, append_assoc, append-nil, Tried, Hole, tried_text, tried_texts}

pub one_text_more : (hs : List Hole) (xs : List Tried) (x : Tried) → tried_texts hs (xs ++ x ∷ []) ≡ tried_texts hs xs ++ tried_text hs x
one_text_more hs [] x = append-nil (tried_text hs x)
one_text_more hs (y ∷ ys) x = ap (λ (text : List ℕ). tried_text hs y ++ text) (one_text_more hs ys x)
    ∙ sym (append_assoc (tried_text hs y) (tried_texts hs ys) (tried_text hs x))
