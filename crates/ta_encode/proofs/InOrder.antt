-- words in order: a word is the reverse of its past
use Rattle.ta_encode.proofs.Common.{◌≡◌, ℕ, List, [], ◌∷◌, ◌++◌, take, drop, reverse, sym, ap, ◌∙◌, refl, subst, append_assoc, reverse-append, take-append-drop}
use Rattle.ta_encode.proofs.Common.{Automaton, Pattern, Element, LegalWord, word_rows, AllHold}
use Rattle.ta_encode.proofs.Safety.{extend, prefix_rows, prefix_legal}

extend_is : (past future : List Element) → extend past future ≡ reverse future ++ past
extend_is past [] = refl
extend_is past (e ∷ future) = extend_is (e ∷ past) future ∙ sym (append_assoc (reverse future) (e ∷ []) past)
    ∙ ap (λ (x : List Element). x ++ past) (sym (reverse-append (e ∷ []) future))

pub cut_at : (word : List Element) (k : ℕ) → extend (reverse (take k word)) (drop k word) ≡ reverse word
cut_at word k = extend_is (reverse (take k word)) (drop k word) ∙ sym (reverse-append (take k word) (drop k word)) ∙ ap reverse (take-append-drop k word)

-- values that solve a word's rows solve those of each prefix
pub prefix_solved : (a : Automaton) (p : Pattern) (start : ℕ) (word : List Element) (vs : List ℕ) → AllHold vs (word_rows a p start (reverse word)) → (k : ℕ)
    → AllHold vs (word_rows a p start (reverse (take k word)))
prefix_solved a p start word vs h k = prefix_rows a p start (reverse (take k word)) (drop k word) vs
    (subst (λ (q : List Element). AllHold vs (word_rows a p start q)) (sym (cut_at word k)) h)

-- each prefix of a legal word is legal
pub prefix_is_legal : (a : Automaton) (p : Pattern) (start : ℕ) (word : List Element) → LegalWord a p start (reverse word) → (k : ℕ)
    → LegalWord a p start (reverse (take k word))
prefix_is_legal a p start word h k = prefix_legal a p [] start (reverse (take k word)) (drop k word) (subst (LegalWord a p start) (sym (cut_at word k)) h)
