-- Rules and guards while they are read: the guards so far, and what a comparison and a rule add to them.
use Rattle.ta_base.specs.declared.limits.Limits.{Limits}
use Rattle.std.specs.Prelude.{ℕ, ℤ, ◌<◌, ◌≤◌, ◌≡◌, ◌⊎◌, ◌↔◌, ◌&&◌, ◌||◌, Bool, true, false, nat_le, List, [], ◌∷◌, ◌++◌, length, map, slice_get, Some, Result}
use Rattle.std.specs.Prelude.{Ok, Err, IsBitSet, IsTrue, if◌then◌else◌}
use Rattle.std.specs.List.{AllByRecursion, range_with_len}
use Rattle.ta_linear.specs.Terms.{coefficient}
use Rattle.ta_linear.specs.declared.row.Row.{Row}
use Rattle.ta_syntax.specs.Grammar.{PlainComparison}
use Rattle.ta_syntax.specs.declared.fault.FileFault.{FileFault}
use Rattle.ta_syntax.specs.declared.fault.FileFault.TheVariants as fault
use Rattle.ta_base.specs.Lists.{Distinct}
use Rattle.ta_automaton.specs.Forms.{RiseRow, FallRow}
use Rattle.ta_meaning.specs.Names.{Names, guard_names}
use Rattle.ta_meaning.specs.Linear.{Linear, comparison_rows, UsesNames}
use Rattle.ta_meaning.specs.Guards.{Guards, is_negative, is_positive, falls, has_row, with_guard, with_guards, rows_of, NamesGuards}
use Rattle.ta_meaning.specs.declared.thresholds.Guard.{Guard}
use Rattle.ta_meaning.specs.declared.thresholds.Guard.TheVariants as guard
use Rattle.ta_meaning.specs.declared.guards.GuardList.{GuardList}
use Rattle.ta_meaning.specs.declared.guards.GuardNumber.{GuardNumber}
use Rattle.ta_meaning.specs.declared.guards.GuardNumber.TheVariants as number
use Rattle.ta_meaning.specs.declared.guards.GuardMasks.{GuardMasks}

-- ---- one row

-- some term of a variable from a number on has a coefficient that passes
abbrev pub any_shared : (ℤ → Bool) → ℕ → List (ℕ × ℤ) → Bool
any_shared test parameters [] = false
any_shared test parameters (t ∷ ts) = (nat_le parameters t.0 && test t.1) || any_shared test parameters ts

-- two rows, or shared variables with coefficients of both signs
abbrev pub is_no_guard : ℕ → List Row → Bool
is_no_guard parameters [] = true
is_no_guard parameters (r ∷ []) = any_shared is_negative parameters r.form.terms && any_shared is_positive parameters r.form.terms
is_no_guard parameters (r ∷ q ∷ rows) = true

-- the only row, by the signs of its shared variables' coefficients
abbrev pub GuardOf : ℕ → List Row → Guard → Type 0
GuardOf parameters rows (guard.Rise row) = (rows ≡ row ∷ []) × (any_shared is_negative parameters row.form.terms ≡ false)
GuardOf parameters rows (guard.Fall row) =
    (rows ≡ row ∷ []) × (any_shared is_negative parameters row.form.terms ≡ true) × (any_shared is_positive parameters row.form.terms ≡ false)

-- the same constant and the same terms
pub record HasSameTerms (left right : Row) : Type 0 where
  pub constant : left.form.constant ≡ right.form.constant
  pub terms : left.form.terms ≡ right.form.terms

-- a row at a number is the same as another
pub record SameAt (rows : List Row) (row : Row) (number : ℕ) : Type 0 where
  pub other : Row
  pub named : slice_get rows number ≡ Some other
  pub same : HasSameTerms other row

-- some row is the same as another
abbrev pub Has : List Row → Row → Type 0
Has rows row = (number : ℕ) × SameAt rows row number

-- the number of a row among rows, or as the next one; too many, if it is none of them and they are as many as the limit
abbrev pub RowAnswers : List Row → Row → ℕ → ℕ → List Row → Result ℕ FileFault → Type 0
RowAnswers rows row limit at after (Ok number) =
    ((after ≡ rows) × SameAt rows row number)
    ⊎ ((after ≡ rows ++ row ∷ []) × (number ≡ length rows) × (length rows < limit) × ¬ Has rows row)
RowAnswers rows row limit at after (Err e) = (e ≡ fault.Memory) ⊎ ((e ≡ fault.TooMany at) × (limit ≤ length rows) × ¬ Has rows row)

-- ---- the guards so far

-- a row's numbers over the first places
abbrev pub linear_of : ℕ → Row → Linear
linear_of places row = record { constant = row.form.constant; coefficients = map (coefficient row.form.terms) (range_with_len 0 places) }

-- the numbers of the guards so far
abbrev pub guards_so_far : Names → GuardList → Guards
guards_so_far ns guards = record {
  rise = map (linear_of (length (guard_names ns))) guards.rise.items;
  fall = map (linear_of (length (guard_names ns))) guards.fall.items;
}

-- threshold guards within the limits, no two of them with the same numbers
pub record GuardsKept (l : Limits) (ns : Names) (guards : GuardList) : Type 0 where
  pub rise_limit : length guards.rise.items ≤ l.rises
  pub fall_limit : length guards.fall.items ≤ l.falls
  pub rise_rows : AllByRecursion (RiseRow (length ns.parameters) (length ns.shared)) guards.rise.items
  pub fall_rows : AllByRecursion (FallRow (length ns.parameters) (length ns.shared)) guards.fall.items
  pub rise_distinct : Distinct (guards_so_far ns guards).rise
  pub fall_distinct : Distinct (guards_so_far ns guards).fall
  pub rise_kind : AllByRecursion (λ (r : Linear). falls (length ns.parameters) r ≡ false) (guards_so_far ns guards).rise
  pub fall_kind : AllByRecursion (λ (r : Linear). falls (length ns.parameters) r ≡ true) (guards_so_far ns guards).fall

-- the number of a row among the guards of its kind
abbrev pub IsGuardNumber : ℕ → Guards → Linear → GuardNumber → Type 0
IsGuardNumber parameters g row (number.Rise n) = (falls parameters row ≡ false) × (slice_get g.rise n ≡ Some row)
IsGuardNumber parameters g row (number.Fall n) = (falls parameters row ≡ true) × (slice_get g.fall n ≡ Some row)

-- a comparison of one row, which is among the guards afterwards
pub record GuardNumbered (l : Limits) (ns : Names) (before : GuardList) (c : PlainComparison) (after : GuardList) (n : GuardNumber) : Type 0 where
  pub row : Linear
  pub one_row : comparison_rows (guard_names ns) c ≡ row ∷ []
  pub known : UsesNames (guard_names ns) c
  pub kept : GuardsKept l ns after
  pub guards : guards_so_far ns after ≡ with_guard (length ns.parameters) (guards_so_far ns before) row
  pub numbered : IsGuardNumber (length ns.parameters) (guards_so_far ns after) row n

-- a row is among the guards of its kind
abbrev pub AmongGuards : ℕ → Guards → Linear → Type 0
AmongGuards parameters g row = IsTrue (if falls parameters row then has_row g.fall row else has_row g.rise row)

-- comparisons, whose rows are among the guards afterwards, and their masks
pub record GuardsNumbered (l : Limits) (ns : Names) (before : GuardList) (cs : List PlainComparison) (after : GuardList) (masks : GuardMasks) : Type 0 where
  pub kept : GuardsKept l ns after
  pub guards : guards_so_far ns after ≡ with_guards (length ns.parameters) (guards_so_far ns before) (rows_of (guard_names ns) cs)
  pub known : AllByRecursion (UsesNames (guard_names ns)) cs
  pub rise : NamesGuards (guards_so_far ns after).rise (rows_of (guard_names ns) cs) masks.rise
  pub fall : NamesGuards (guards_so_far ns after).fall (rows_of (guard_names ns) cs) masks.fall
  pub among : AllByRecursion (AmongGuards (length ns.parameters) (guards_so_far ns after)) (rows_of (guard_names ns) cs)

-- ---- masks

-- a mask with one more bit
abbrev pub WithBit : ℕ → ℕ → ℕ → Type 0
WithBit mask n more = (i : ℕ) → IsBitSet more i ↔ (IsBitSet mask i ⊎ (i ≡ n))

-- a number that has a bit in its mask
abbrev pub NumberFits : GuardNumber → Type 0
NumberFits (number.Rise n) = n < 64
NumberFits (number.Fall n) = n < 16

-- masks with one more guard
abbrev pub WithNumber : GuardMasks → GuardNumber → GuardMasks → Type 0
WithNumber masks (number.Rise n) more = WithBit masks.rise n more.rise × (more.fall ≡ masks.fall)
WithNumber masks (number.Fall n) more = (more.rise ≡ masks.rise) × WithBit masks.fall n more.fall
