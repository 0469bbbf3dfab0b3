-- Forms, rows (linear constraints), conditions and threshold guards over the first places of a configuration, with the limits that the
-- types keep. Source of threshold guards: Konnov, Lazić, Veith, Widder, POPL 2017.
use Rattle.std.specs.Prelude.{ℕ, ℤ, pos, ◌+◌, ◌<◌, ◌≤◌, ◌≤ℤ◌, unsigned_abs}
use Rattle.std.proofs.Props.{props}
use Rattle.std.specs.List.{AllByRecursion, AllByRecursion-prop}
use Rattle.ta_base.specs.declared.limits.TheConstants.{LARGEST_NUMBER}
use Rattle.ta_linear.specs.Terms.{IsNormal, IsNormal-prop}
use Rattle.ta_linear.specs.declared.form.Form.{Form}
use Rattle.ta_linear.specs.declared.row.Row.{Row}
use Rattle.ta_automaton.specs.declared.condition.Comparison.{Comparison}
use Rattle.ta_automaton.specs.declared.condition.Condition.{Condition}

-- no constant and no coefficient is above 1,000,000,000 in absolute value
pub record Small (form : Form) : Type 0 where
  pub constant : unsigned_abs form.constant ≤ LARGEST_NUMBER
  pub coefficients : AllByRecursion (λ (t : ℕ × ℤ). unsigned_abs t.1 ≤ LARGEST_NUMBER) form.terms

Small-prop : (form : Form) → IsProp (Small form)
Small-prop form = hlevel (props, AllByRecursion-prop (λ (t : ℕ × ℤ). unsigned_abs t.1 ≤ LARGEST_NUMBER) (λ t. hlevel props) form.terms)

-- a small form over the first places
pub record FormOver (places : ℕ) (form : Form) : Type 0 where
  pub below : IsNormal 0 places form.terms
  pub small : Small form

pub FormOver-prop : (places : ℕ) (form : Form) → IsProp (FormOver places form)
FormOver-prop places form = hlevel (props, IsNormal-prop 0 places form.terms, Small-prop form)

-- the form of a row is a small form over the first places
abbrev pub RowOver : ℕ → Row → Type 0
RowOver places row = FormOver places row.form

-- each row of each comparison is over the first places
abbrev pub ConditionOver : ℕ → Condition → Type 0
ConditionOver places condition = AllByRecursion (λ (k : Comparison). AllByRecursion (RowOver places) k.rows) condition.comparisons

pub ConditionOver-prop : (places : ℕ) (condition : Condition) → IsProp (ConditionOver places condition)
ConditionOver-prop places condition =
    AllByRecursion-prop (λ (k : Comparison). AllByRecursion (RowOver places) k.rows)
    (λ k. AllByRecursion-prop (RowOver places) (λ r. FormOver-prop places r.form) k.rows) condition.comparisons

-- a rise guard: over parameters and shared variables, with no negative coefficient of a shared variable
pub record RiseRow (parameters shared : ℕ) (row : Row) : Type 0 where
  pub over : RowOver (parameters + shared) row
  pub rises : AllByRecursion (λ (t : ℕ × ℤ). parameters ≤ t.0 → pos 0 ≤ℤ t.1) row.form.terms

pub RiseRow-prop : (parameters shared : ℕ) (row : Row) → IsProp (RiseRow parameters shared row)
RiseRow-prop parameters shared row =
    hlevel (
      props,
      FormOver-prop (parameters + shared) row.form,
      AllByRecursion-prop (λ (t : ℕ × ℤ). parameters ≤ t.0 → pos 0 ≤ℤ t.1) (λ t. hlevel props)
          row.form.terms,
    )

-- a fall guard: over parameters and shared variables, with some shared variable and no positive coefficient of one
pub record FallRow (parameters shared : ℕ) (row : Row) : Type 0 where
  pub over : RowOver (parameters + shared) row
  pub falls : AllByRecursion (λ (t : ℕ × ℤ). parameters ≤ t.0 → t.1 ≤ℤ pos 0) row.form.terms
  pub some_shared : AllByRecursion (λ (t : ℕ × ℤ). t.0 < parameters) row.form.terms → ⊥

pub FallRow-prop : (parameters shared : ℕ) (row : Row) → IsProp (FallRow parameters shared row)
FallRow-prop parameters shared row =
    hlevel (
      props,
      FormOver-prop (parameters + shared) row.form,
      AllByRecursion-prop (λ (t : ℕ × ℤ). parameters ≤ t.0 → t.1 ≤ℤ pos 0) (λ t. hlevel props)
          row.form.terms,
    )
