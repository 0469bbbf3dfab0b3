-- The first element that does not make a schema with those before it.
use Rattle.std.specs.Prelude.{ℕ, ◌≡◌, List, [], reverse, take, slice_get, Some}
use Rattle.ta_automaton.specs.declared.automaton.Automaton.{Automaton}
use Rattle.ta_automaton.specs.declared.pattern.Pattern.{Pattern}
use Rattle.ta_base.specs.Masks.{In}
use Rattle.ta_words.specs.declared.element.Element.{Element}
use Rattle.ta_words.specs.Words.{LegalWord, children}

-- element k is not a child of those before it, which make a legal schema
pub record FirstStranger (a : Automaton) (p : Pattern) (start : ℕ) (elements : List Element) (k : ℕ) : Type 0 where
  pub legal : LegalWord a p start (reverse (take k elements))
  pub element : Element
  pub at : slice_get elements k ≡ Some element
  pub stranger : ¬ In element (children a p [] start (reverse (take k elements)))
