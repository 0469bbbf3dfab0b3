-- What reading the text of values answers.
use Rattle.std.specs.Prelude.{ℕ, ℤ, ◌+◌, ◌≡◌, ◌⊎◌, List, ◌∷◌, ◌++◌}
use Rattle.std.specs.Fmt.{signed_decimal}
use Rattle.ta_counter.specs.Values.{Value}
use Rattle.ta_smt.specs.declared.fault.AdmitFault.{AdmitFault}
use Rattle.ta_smt.specs.declared.fault.AdmitFault.TheVariants as fault
use Rattle.ta_smt.specs.Values.{FirstBadLine, IsNoNumber, IsUnfinished}

-- the first line is a value
pub record NextValue (bytes : List ℕ) (value : ℤ) (behind : List ℕ) : Type 0 where
  pub number : Value value
  pub read : bytes ≡ signed_decimal value ++ (10 ∷ behind)

-- why the first line is not a value, after this many lines
abbrev pub ValueFault : List ℕ → ℕ → AdmitFault → Type 0
ValueFault bytes before (fault.Line n) = (n ≡ before + 1) × (IsUnfinished bytes ⊎ IsNoNumber bytes)
ValueFault bytes before _ = ⊥

-- why a text is not one of values; "out of memory" is always allowed
abbrev pub LineFault : List ℕ → AdmitFault → Type 0
LineFault bytes (fault.Line n) = FirstBadLine bytes n
LineFault bytes fault.Memory = Unit {0}
LineFault bytes _ = ⊥
