-- A sum of the program with its offsets as plain data, without the addresses of its lists.
use Rattle.std.specs.Prelude.{ℕ, List, [], ◌∷◌, ◌++◌, Option, Some, None}
use Rattle.ta_syntax.specs.Grammar.{Terms, Term, Factor, done, term, number, times, alone, blank, named, nested}
use Rattle.ta_syntax.specs.declared.sums.Sign.{Sign}
use Rattle.ta_syntax.specs.declared.names.Digits.{Digits}
use Rattle.ta_syntax.specs.declared.names.Spelled.{Spelled}
use Rattle.ta_syntax.specs.declared.sums.TreeSum.{TreeSum}
use Rattle.ta_syntax.specs.declared.sums.TreeFactor.TheOpen.{TreeFactor-F, TreeSum-F, TreeTerm-F, Named, Nested}
use Rattle.ta_syntax.specs.declared.sums.TreeFactor.TheFolds.{fold-TreeSum}

mutual
  -- terms with their signs
  pub data SeenTerms : Type 0 where
    seen_none : SeenTerms
    seen_more : Sign → SeenTerm → SeenTerms → SeenTerms

  -- a term with the offset of its first token: a number, a factor or their product
  pub data SeenTerm : Type 0 where
    seen_number : ℕ → Digits → SeenTerm
    seen_times : ℕ → Digits → SeenFactor → SeenTerm
    seen_alone : ℕ → SeenFactor → SeenTerm
    seen_blank : ℕ → SeenTerm

  -- a name, or a sum in parentheses
  pub data SeenFactor : Type 0 where
    seen_named : Spelled → SeenFactor
    seen_nested : SeenTerms → SeenFactor

-- ---- a sum of the program as such data

abbrev pub seen_list : List (Sign × SeenTerm) → SeenTerms
seen_list [] = seen_none
seen_list (t ∷ ts) = seen_more t.0 t.1 (seen_list ts)

abbrev pub seen_parts : ℕ → Option Digits → Option SeenFactor → SeenTerm
seen_parts at (Some d) None = seen_number at d
seen_parts at (Some d) (Some f) = seen_times at d f
seen_parts at None (Some f) = seen_alone at f
seen_parts at None None = seen_blank at

abbrev pub factor_seen : TreeFactor-F SeenFactor SeenTerms SeenTerm → SeenFactor
factor_seen (Named n) = seen_named n
factor_seen (Nested s) = seen_nested s

abbrev pub sum_seen : TreeSum-F SeenFactor SeenTerms SeenTerm → SeenTerms
sum_seen s = seen_list s.terms.items

abbrev pub term_seen : TreeTerm-F SeenFactor SeenTerms SeenTerm → SeenTerm
term_seen t = seen_parts t.at t.factor t.body

abbrev pub seen_sum : TreeSum → SeenTerms
seen_sum = fold-TreeSum SeenFactor SeenTerms SeenTerm factor_seen sum_seen term_seen

-- ---- without offsets

abbrev mutual
  pub plain_of_terms : SeenTerms → Terms
  plain_of_terms seen_none = done
  plain_of_terms (seen_more s t ts) = term s (plain_of_term t) (plain_of_terms ts)

  pub plain_of_term : SeenTerm → Term
  plain_of_term (seen_number at d) = number d.text
  plain_of_term (seen_times at d f) = times d.text (plain_of_factor f)
  plain_of_term (seen_alone at f) = alone (plain_of_factor f)
  plain_of_term (seen_blank at) = blank

  pub plain_of_factor : SeenFactor → Factor
  plain_of_factor (seen_named n) = named n.name
  plain_of_factor (seen_nested ts) = nested (plain_of_terms ts)

-- ---- the names, the numbers and the terms of a sum, those in parentheses too

abbrev mutual
  pub names_of_terms : SeenTerms → List Spelled
  names_of_terms seen_none = []
  names_of_terms (seen_more s t ts) = names_of_term t ++ names_of_terms ts

  pub names_of_term : SeenTerm → List Spelled
  names_of_term (seen_number at d) = []
  names_of_term (seen_times at d f) = names_of_factor f
  names_of_term (seen_alone at f) = names_of_factor f
  names_of_term (seen_blank at) = []

  pub names_of_factor : SeenFactor → List Spelled
  names_of_factor (seen_named n) = n ∷ []
  names_of_factor (seen_nested ts) = names_of_terms ts

abbrev mutual
  pub numbers_of_terms : SeenTerms → List Digits
  numbers_of_terms seen_none = []
  numbers_of_terms (seen_more s t ts) = numbers_of_term t ++ numbers_of_terms ts

  pub numbers_of_term : SeenTerm → List Digits
  numbers_of_term (seen_number at d) = d ∷ []
  numbers_of_term (seen_times at d f) = d ∷ numbers_of_factor f
  numbers_of_term (seen_alone at f) = numbers_of_factor f
  numbers_of_term (seen_blank at) = []

  pub numbers_of_factor : SeenFactor → List Digits
  numbers_of_factor (seen_named n) = []
  numbers_of_factor (seen_nested ts) = numbers_of_terms ts

-- a term without offsets, and that of its first token
pub record PlacedTerm : Type 0 where
  pub at : ℕ
  pub term : Term

abbrev pub placed : ℕ → Term → PlacedTerm
placed at t = record { at = at; term = t }

abbrev mutual
  pub terms_of_terms : SeenTerms → List PlacedTerm
  terms_of_terms seen_none = []
  terms_of_terms (seen_more s t ts) = terms_of_term t ++ terms_of_terms ts

  pub terms_of_term : SeenTerm → List PlacedTerm
  terms_of_term (seen_number at d) = placed at (number d.text) ∷ []
  terms_of_term (seen_times at d f) = placed at (times d.text (plain_of_factor f)) ∷ terms_of_factor f
  terms_of_term (seen_alone at f) = placed at (alone (plain_of_factor f)) ∷ terms_of_factor f
  terms_of_term (seen_blank at) = placed at blank ∷ []

  pub terms_of_factor : SeenFactor → List PlacedTerm
  terms_of_factor (seen_named n) = []
  terms_of_factor (seen_nested ts) = terms_of_terms ts
