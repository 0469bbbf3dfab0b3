-- The script of a system: what its text denotes are the solutions of the system.
use Rattle.std.specs.Prelude.{ℕ, ℤ, suc, pos, negsuc, ◌≡◌, ◌==◌, ◌↔◌, if◌then◌else◌, List, [], ◌∷◌, ◌++◌, map, flat_map}
use Rattle.ta_linear.specs.declared.form.Form.{Form}
use Rattle.ta_linear.specs.declared.row.Row.{Row}
use Rattle.ta_linear.specs.declared.row.System.{System}
use Rattle.ta_linear.specs.Values.{Solves}
use Rattle.std.specs.List.{range_with_len}
use Rattle.ta_smt.specs.declared.side.Side.{Side}
use Rattle.ta_smt.specs.declared.side.Side.TheVariants.{Left, Right}
use Rattle.ta_smt.specs.Denotes.{Denotes}
use Rattle.ta_smt.specs.Script.{AtLeast, Script, Summand, Numeral, Unknown, Product, Term, Lone, Sum, script_text}

-- what of a number stands on a side of `>=`: a positive one left, a negative one right with its sign turned
abbrev pub part : Side → ℤ → ℕ
part Left (pos n) = n
part Left (negsuc n) = 0
part Right (pos n) = 0
part Right (negsuc n) = suc n

-- this many times an unknown: nothing where it is 0, the unknown alone where it is 1
abbrev pub multiple : ℕ → ℕ → List Summand
multiple factor number = if factor == 0 then [] else (if factor == 1 then Unknown number ∷ [] else Product factor number ∷ [])

-- a constant: nothing where it is 0
abbrev pub constant : ℕ → List Summand
constant value = if value == 0 then [] else Numeral value ∷ []

-- a term on a side
abbrev pub on_side : Side → (ℕ × ℤ) → List Summand
on_side side t = multiple (part side t.1) t.0

-- the summands of a form on a side: its terms in order, the constant last
abbrev pub summands : Side → Form → List Summand
summands side form = flat_map (on_side side) form.terms ++ constant (part side form.constant)

-- a sum of summands: `0` for none, a single one stands alone
abbrev pub summed_term : List Summand → Term
summed_term [] = Lone (Numeral 0)
summed_term (s ∷ []) = Lone s
summed_term (s ∷ t ∷ ss) = Sum (s ∷ t ∷ ss)

-- the row's form is at least 0
abbrev pub row_claim : Row → AtLeast
row_claim row = record { left = summed_term (summands Left row.form); right = summed_term (summands Right row.form) }

-- an unknown is at least 0
abbrev pub natural_claim : ℕ → AtLeast
natural_claim number = record { left = Lone (Unknown number); right = Lone (Numeral 0) }

-- each unknown is at least 0, and each row holds
abbrev pub script_of : System → Script
script_of system = record { unknowns = system.unknowns; asserted = map natural_claim (range_with_len 0 system.unknowns) ++ map row_claim system.rows }

-- the text of a system
abbrev pub system_text : System → List ℕ
system_text system = script_text (script_of system)

-- integers that are natural and solve a system
pub record IsNaturalSolution (system : System) (values : List ℤ) : Type 0 where
  pub naturals : List ℕ
  pub are : values ≡ map pos naturals
  pub solve : Solves system naturals

-- the text denotes exactly the natural solutions of the system, among all lists of integers
abbrev pub DenotesSolutions : System → List ℕ → Type 0
DenotesSolutions system text = (values : List ℤ) → Denotes text values ↔ IsNaturalSolution system values
