-- Elements that make a word, one by one.
use Rattle.ta_smt.proofs.Common.{◌≡◌, ◌<◌, ◌≤◌, ℕ, ◌+◌, Bool, false, List, [], ◌∷◌, length, reverse, take, slice_get, get_or, Some, arith, inl, inr, sym, ap}
use Rattle.ta_smt.proofs.Common.{subst, ◌∙◌, ◌↔◌, IsTrue, cases_order, false≢true, take-take, slice_get-get_or, front_get, take_next, Pattern, In, Element}
use Rattle.ta_smt.proofs.Common.{LegalWord, children, FirstStranger, Automaton}
use Rattle.ta_encode.proofs.InOrder.{prefix_is_legal}
use Rattle.std.proofs.lemmas.List.{length-take-le, reverse-append}

-- a legal word so far
pub record Spells (a : Automaton) (p : Pattern) (start : ℕ) (elements : List Element) (i : ℕ) (word : List Element) : Type 0 where
  pub so_far : word ≡ take i elements
  pub legal : LegalWord a p start (reverse word)

stranger : (a : Automaton) (p : Pattern) (start : ℕ) (elements word : List Element) (i : ℕ) (element : Element) → Spells a p start elements i word
    → slice_get elements i ≡ Some element → ¬ In element (children a p [] start (reverse word)) → FirstStranger a p start elements i
stranger a p start elements word i element spells at none = record {
  legal = subst (λ w. LegalWord a p start (reverse w)) spells.so_far spells.legal;
  element = element;
  at = at;
  stranger = λ child. none (subst (λ w. In element (children a p [] start (reverse w))) (sym spells.so_far) child);
}

-- a legal word has no stranger
pub no_stranger : (a : Automaton) (p : Pattern) (start : ℕ) (elements : List Element) (k : ℕ) → LegalWord a p start (reverse elements)
    → FirstStranger a p start elements k → ⊥
no_stranger a p start elements k legal first =
    let more = prefix_is_legal a p start elements legal (k + 1) in
    let split : reverse (take (k + 1) elements) ≡ first.element ∷ reverse (take k elements) = ap reverse (take_next elements k first.element first.at)
    ∙ reverse-append (take k elements) (first.element ∷ []) in
    first.stranger (subst (LegalWord a p start) split more).0

-- the first one is at one place
no_earlier : (a : Automaton) (p : Pattern) (start : ℕ) (elements : List Element) (j k : ℕ) → FirstStranger a p start elements j
    → FirstStranger a p start elements k → j < k → ⊥
no_earlier a p start elements j k first later less =
    no_stranger a p start (take k elements) j later.legal (record {
      legal = subst (λ es. LegalWord a p start (reverse es)) (sym (take-take j k elements (omega arith))) first.legal;
      element = first.element;
      at = front_get elements k j first.element less first.at;
      stranger = subst (λ es. ¬ In first.element (children a p [] start (reverse es))) (sym (take-take j k elements (omega arith))) first.stranger;
    })

pub stranger_once : (a : Automaton) (p : Pattern) (start : ℕ) (elements : List Element) (j k : ℕ) → FirstStranger a p start elements j
    → FirstStranger a p start elements k → j ≡ k
stranger_once a p start elements j k first other = elim (cases_order j k) [
  | inl same ↦ same
  | inr apart ↦ elim apart [
    | inl less ↦ absurd (no_earlier a p start elements j k first other less)
    | inr more ↦ absurd
        (no_earlier a p start elements k j other first more)
  ]
]

-- as many elements as were taken
pub spelled_length : (a : Automaton) (p : Pattern) (start : ℕ) (elements : List Element) (i : ℕ) (word : List Element) → i ≤ length elements
    → Spells a p start elements i word → length word ≡ i
spelled_length a p start elements i word within spells = ap length spells.so_far ∙ length-take-le i elements within

pub stranger_found : (a : Automaton) (p : Pattern) (start : ℕ) (elements word : List Element) (i : ℕ) (d : Element) (r : Bool)
    → Spells a p start elements i word → i < length elements → IsTrue r ↔ In (get_or elements i d) (children a p [] start (reverse word)) → r ≡ false
    → FirstStranger a p start elements i
stranger_found a p start elements word i d r spells within told is =
    stranger a p start elements word i (get_or elements i d) spells (slice_get-get_or elements i d within) (λ child. false≢true (sym is ∙ told.1 child))
