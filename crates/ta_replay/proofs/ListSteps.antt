-- Lists, item by item.
use Rattle.ta_replay.proofs.Common.{ℕ, ◌≡◌, List, [], ◌∷◌, ◌++◌, refl, sym, ap, ◌∙◌, append_assoc, lines_text}

-- the text of lines, one part after the other
pub lines_text-append : (ls ms : List (List ℕ)) → lines_text (ls ++ ms) ≡ lines_text ls ++ lines_text ms
lines_text-append [] ms = refl
lines_text-append (l ∷ ls) ms = ap (λ xs. l ++ (10 ∷ xs)) (lines_text-append ls ms) ∙ sym (append_assoc l (10 ∷ lines_text ls) (lines_text ms))

-- one line more
pub read_more : (bytes rest line behind : List ℕ) (ls : List (List ℕ)) → bytes ≡ lines_text ls ++ rest → rest ≡ line ++ (10 ∷ behind)
    → bytes ≡ lines_text (ls ++ line ∷ []) ++ behind
read_more bytes rest line behind ls e next =
    e ∙ ap (λ xs. lines_text ls ++ xs) (next ∙ sym (append_assoc line (10 ∷ []) behind)) ∙ sym (append_assoc (lines_text ls) (line ++ (10 ∷ [])) behind)
    ∙ ap (λ xs. xs ++ behind) (sym (lines_text-append ls (line ∷ [])))

-- lines behind lines
pub read_both : (bytes rest behind : List ℕ) (ls ms : List (List ℕ)) → bytes ≡ lines_text ls ++ rest → rest ≡ lines_text ms ++ behind
    → bytes ≡ lines_text (ls ++ ms) ++ behind
read_both bytes rest behind ls ms e f = e ∙ ap (λ xs. lines_text ls ++ xs) f ∙ sym (append_assoc (lines_text ls) (lines_text ms) behind)
    ∙ ap (λ xs. xs ++ behind) (sym (lines_text-append ls ms))
