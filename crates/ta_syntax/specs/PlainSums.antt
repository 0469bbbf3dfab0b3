-- A sum of the program without the offsets of its parts.
use Rattle.std.specs.Prelude.{ℕ, suc, max, List, [], ◌∷◌, Option, Some, None}
use Rattle.std.proofs.Props.{props}
use Rattle.ta_syntax.specs.Kinds.{IsNameText-prop, IsDigits-prop}
use Rattle.ta_syntax.specs.Grammar.{Terms, Term, Factor, done, term, number, times, alone, blank, named, nested, IsSum, AreTerms, IsTerm, IsFactor}
use Rattle.ta_syntax.specs.declared.sums.Sign.{Sign}
use Rattle.ta_syntax.specs.declared.names.Digits.{Digits}
use Rattle.ta_syntax.specs.declared.sums.TreeSum.{TreeSum}
use Rattle.ta_syntax.specs.declared.sums.TreeTerm.{TreeTerm}
use Rattle.ta_syntax.specs.declared.sums.TreeFactor.{TreeFactor}
use Rattle.ta_syntax.specs.declared.sums.TreeFactor.TheOpen.{TreeFactor-F, TreeSum-F, TreeTerm-F, Named, Nested}
use Rattle.ta_syntax.specs.declared.sums.TreeFactor.TheFolds.{fold-TreeSum, fold-TreeTerm, fold-TreeFactor}

-- terms with their signs
abbrev pub terms_of : List (Sign × Term) → Terms
terms_of [] = done
terms_of (t ∷ ts) = term t.0 t.1 (terms_of ts)

-- a number, a factor, or both; neither is the blank term
abbrev pub term_of : Option Digits → Option Factor → Term
term_of (Some d) None = number d.text
term_of (Some d) (Some f) = times d.text f
term_of None (Some f) = alone f
term_of None None = blank

-- a factor of parts that are plain already
abbrev pub factor_layer : TreeFactor-F Factor Terms Term → Factor
factor_layer (Named n) = named n.name
factor_layer (Nested s) = nested s

-- a sum of parts that are plain already
abbrev pub sum_layer : TreeSum-F Factor Terms Term → Terms
sum_layer s = terms_of s.terms.items

-- a term of parts that are plain already
abbrev pub term_layer : TreeTerm-F Factor Terms Term → Term
term_layer t = term_of t.factor t.body

-- a sum without offsets
abbrev pub plain_sum : TreeSum → Terms
plain_sum = fold-TreeSum Factor Terms Term factor_layer sum_layer term_layer

-- a term without offsets
abbrev pub plain_term : TreeTerm → Term
plain_term = fold-TreeTerm Factor Terms Term factor_layer sum_layer term_layer

-- a factor without offsets
abbrev pub plain_factor : TreeFactor → Factor
plain_factor = fold-TreeFactor Factor Terms Term factor_layer sum_layer term_layer

-- the signs and terms of a list
abbrev pub plain_terms : List (Sign × TreeTerm) → Terms
plain_terms [] = done
plain_terms (t ∷ ts) = term t.0 (plain_term t.1) (plain_terms ts)

-- how deep sums, terms and factors are
abbrev mutual
  -- how many parentheses are open at once, at most
  pub sum_depth : Terms → ℕ
  sum_depth done = 0
  sum_depth (term s t ts) = max (term_depth t) (sum_depth ts)

  -- the same of a term
  pub term_depth : Term → ℕ
  term_depth (number d) = 0
  term_depth (times d f) = factor_depth f
  term_depth (alone f) = factor_depth f
  term_depth blank = 0

  -- the same of a factor: a sum in parentheses opens one
  pub factor_depth : Factor → ℕ
  factor_depth (named n) = 0
  factor_depth (nested ts) = suc (sum_depth ts)

-- a proof that parts are of the grammar is unique
mutual
  pub IsSum-prop : (ts : Terms) → IsProp (IsSum ts)
  IsSum-prop done = hlevel props
  IsSum-prop (term s t ts) = hlevel (props, IsTerm-prop t, AreTerms-prop ts)

  pub AreTerms-prop : (ts : Terms) → IsProp (AreTerms ts)
  AreTerms-prop done = hlevel props
  AreTerms-prop (term s t ts) = hlevel (props, IsTerm-prop t, AreTerms-prop ts)

  pub IsTerm-prop : (t : Term) → IsProp (IsTerm t)
  IsTerm-prop (number d) = IsDigits-prop d
  IsTerm-prop (times d f) = hlevel (props, IsDigits-prop d, IsFactor-prop f)
  IsTerm-prop (alone f) = IsFactor-prop f
  IsTerm-prop blank = hlevel props

  pub IsFactor-prop : (f : Factor) → IsProp (IsFactor f)
  IsFactor-prop (named n) = IsNameText-prop n
  IsFactor-prop (nested ts) = IsSum-prop ts
