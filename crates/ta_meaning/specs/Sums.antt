-- What a sum of an automaton file means: a constant, and a coefficient for each name.
use Rattle.std.specs.Prelude.{ℕ, ℤ, pos, ◌+ℤ◌, ◌-ℤ◌, ◌*ℤ◌, Bool, true, ◌&&◌, List, if◌then◌else◌}
use Rattle.std.specs.List.{list_any}
use Rattle.std.specs.Str.{bytes_eq}
use Rattle.std.specs.Str.Parse.{digits_value}
use Rattle.ta_syntax.specs.Grammar.{Terms, Term, Factor, done, term, number, times, alone, blank, named, nested}
use Rattle.ta_syntax.specs.declared.sums.Sign.{Sign}
use Rattle.ta_syntax.specs.declared.sums.Sign.TheVariants as sign

-- the number that digits write, zeros in front included
abbrev pub number_of : List ℕ → ℕ
number_of digits = digits_value 10 digits

-- whether a name is among names
abbrev pub has_name : List (List ℕ) → List ℕ → Bool
has_name names n = list_any (λ m. bytes_eq m n) names

abbrev pub signed : Sign → ℤ → ℤ
signed sign.Plus z = z
signed sign.Minus z = pos 0 -ℤ z

abbrev mutual
  -- the coefficient of a name in a sum
  pub sum_coefficient : List ℕ → Terms → ℤ
  sum_coefficient x done = pos 0
  sum_coefficient x (term s t ts) = signed s (term_coefficient x t) +ℤ sum_coefficient x ts

  pub term_coefficient : List ℕ → Term → ℤ
  term_coefficient x (number d) = pos 0
  term_coefficient x (times d f) = pos (number_of d) *ℤ factor_coefficient x f
  term_coefficient x (alone f) = factor_coefficient x f
  term_coefficient x blank = pos 0

  pub factor_coefficient : List ℕ → Factor → ℤ
  factor_coefficient x (named n) = if bytes_eq n x then pos 1 else pos 0
  factor_coefficient x (nested ts) = sum_coefficient x ts

abbrev mutual
  -- the constant of a sum: its part without names
  pub sum_constant : Terms → ℤ
  sum_constant done = pos 0
  sum_constant (term s t ts) = signed s (term_constant t) +ℤ sum_constant ts

  pub term_constant : Term → ℤ
  term_constant (number d) = pos (number_of d)
  term_constant (times d f) = pos (number_of d) *ℤ factor_constant f
  term_constant (alone f) = factor_constant f
  term_constant blank = pos 0

  pub factor_constant : Factor → ℤ
  factor_constant (named n) = pos 0
  factor_constant (nested ts) = sum_constant ts

abbrev mutual
  -- whether each name that a sum uses is among names
  pub sum_uses : List (List ℕ) → Terms → Bool
  sum_uses names done = true
  sum_uses names (term s t ts) = term_uses names t && sum_uses names ts

  pub term_uses : List (List ℕ) → Term → Bool
  term_uses names (number d) = true
  term_uses names (times d f) = factor_uses names f
  term_uses names (alone f) = factor_uses names f
  term_uses names blank = true

  pub factor_uses : List (List ℕ) → Factor → Bool
  factor_uses names (named n) = has_name names n
  factor_uses names (nested ts) = sum_uses names ts
