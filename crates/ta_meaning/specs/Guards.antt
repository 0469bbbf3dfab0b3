-- Which comparisons are threshold guards, and how guards are numbered. Source: Konnov, Lazić, Veith, Widder, POPL 2017 (threshold guards,
-- here also with sums of shared variables). `l` is the row of limits.
use Rattle.ta_base.specs.declared.limits.Limits.{Limits}
use Rattle.std.specs.Prelude.{ℕ, ℤ, pos, negsuc, ◌≡◌, ◌↔◌, Bool, true, false, ◌&&◌, not, ltb, List, [], ◌∷◌, ◌++◌, length, drop, flat_map, slice_get, Some}
use Rattle.std.specs.Prelude.{IsBitSet, IsTrue, if◌then◌else◌}
use Rattle.std.specs.Ordering.{int_eq}
use Rattle.std.specs.List.{list_any}
use lib.Pointwise.{pointwise}
use Rattle.ta_syntax.specs.Grammar.{PlainComparison, PlainRule}
use Rattle.ta_meaning.specs.Linear.{Linear, comparison_rows}

-- the same constant and the same coefficients
abbrev pub same_row : Linear → Linear → Bool
same_row a b = int_eq a.constant b.constant && pointwise int_eq a.coefficients b.coefficients

abbrev pub has_row : List Linear → Linear → Bool
has_row rows r = list_any (λ q. same_row q r) rows

abbrev pub is_negative : ℤ → Bool
is_negative (pos n) = false
is_negative (negsuc n) = true

abbrev pub is_positive : ℤ → Bool
is_positive (pos n) = ltb 0 n
is_positive (negsuc n) = false

-- a fall guard, if it is a threshold guard: a shared variable (these come after the parameters) has a negative coefficient
abbrev pub falls : ℕ → Linear → Bool
falls parameters r = list_any is_negative (drop parameters r.coefficients)

-- the distinct guards, by first appearance
pub record Guards : Type 0 where
  pub rise : List Linear
  pub fall : List Linear

abbrev pub no_guards : Guards
no_guards = record { rise = []; fall = [] }

abbrev pub with_row : List Linear → Linear → List Linear
with_row rows r = if has_row rows r then rows else rows ++ r ∷ []

-- the guards with one more row
abbrev pub with_guard : ℕ → Guards → Linear → Guards
with_guard parameters g r =
    if falls parameters r
    then record { rise = g.rise; fall = with_row g.fall r } else record { rise = with_row g.rise r; fall = g.fall }

abbrev pub with_guards : ℕ → Guards → List Linear → Guards
with_guards parameters g [] = g
with_guards parameters g (r ∷ rows) = with_guards parameters (with_guard parameters g r) rows

-- the normal rows of comparisons, in order
abbrev pub rows_of : List (List ℕ) → List PlainComparison → List Linear
rows_of names cs = flat_map (comparison_rows names) cs

-- the guards of rules, in the order of the text, after others
abbrev pub guards_after : ℕ → List (List ℕ) → Guards → List PlainRule → Guards
guards_after parameters names g [] = g
guards_after parameters names g (r ∷ rules) = guards_after parameters names (with_guards parameters g (rows_of names r.guards)) rules

-- not a threshold guard: not exactly one row, or shared variables with coefficients of both signs
abbrev pub is_no_threshold : ℕ → List Linear → Bool
is_no_threshold parameters [] = true
is_no_threshold parameters (r ∷ []) = falls parameters r && list_any is_positive (drop parameters r.coefficients)
is_no_threshold parameters (r ∷ q ∷ rows) = true

-- a row that is none of the guards of its kind, of which there are as many already as the limits allow
abbrev pub is_past_limit : Limits → ℕ → Guards → Linear → Bool
is_past_limit l parameters g r =
    if falls parameters r
    then not (has_row g.fall r) && not (ltb (length g.fall) l.falls)
    else not (has_row g.rise r) && not (ltb (length g.rise) l.rises)

-- a threshold guard in excess of as many rise guards or fall guards as the limits allow
abbrev pub is_one_more : Limits → ℕ → Guards → List Linear → Bool
is_one_more l parameters g [] = false
is_one_more l parameters g (r ∷ rows) = not (is_no_threshold parameters (r ∷ rows)) && is_past_limit l parameters g r

-- the mask names the guards that are among rows
abbrev pub NamesGuards : List Linear → List Linear → ℕ → Type 0
NamesGuards guards rows mask = (i : ℕ) → IsBitSet mask i ↔ ((guard : Linear) × (slice_get guards i ≡ Some guard) × IsTrue (has_row rows guard))
