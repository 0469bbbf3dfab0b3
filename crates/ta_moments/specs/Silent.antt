-- Names that are to be silent in a file: which places they are, or why they may not be silent.
use Rattle.std.specs.Prelude.{ℕ, ℤ, ◌+◌, ◌==◌, ◌≡◌, ◌&&◌, Bool, is_some, List, length, Option, Some, None, Result, Ok, Err, if◌then◌else◌}
use Rattle.std.specs.List.{filter_map, find, list_any, position, slice_split}
use Rattle.std.specs.Option.{option_and_then, option_map, option_or}
use Rattle.std.specs.Str.{bytes_eq}
use Rattle.ta_linear.specs.declared.row.Row.{Row}
use Rattle.ta_automaton.specs.declared.automaton.Automaton.{Automaton}
use Rattle.ta_moments.specs.Forms.{below_zero}
use Rattle.ta_rest.specs.Quiet.{is_silent, NoneSubtracted}
use Rattle.ta_moments.specs.declared.fault.SilentFault.{SilentFault}
use Rattle.ta_moments.specs.declared.fault.SilentFault.TheVariants as fault

-- the names of a text, with a comma between
abbrev pub names_in : List ℕ → List (List ℕ)
names_in text = slice_split (λ c. c == 44) text

-- the number of the first of some names that equals this one
abbrev pub number_among : List ℕ → List (List ℕ) → Option ℕ
number_among name names = position (λ other. bytes_eq other name) names

-- the place of the parameter or shared variable of a name
abbrev pub place_named : Automaton → List ℕ → Option ℕ
place_named a name = option_or (number_among name a.parameters) (option_map (λ number. length a.parameters + number) (number_among name a.shared))

-- why a name may not be silent: it is a location's, or not a name of the file
abbrev pub fault_of_name : Automaton → List ℕ → Option SilentFault
fault_of_name a name =
    if is_some (place_named a name) then None
    else Some (if is_some (number_among name a.locations) then fault.WrongKind else fault.Unknown)

-- the error of the first name that may not be silent
abbrev pub first_fault : Automaton → List (List ℕ) → Option SilentFault
first_fault a names = option_and_then (fault_of_name a) (find (λ name. is_some (fault_of_name a name)) names)

-- the places of names, in order
abbrev pub places_named : Automaton → List (List ℕ) → List ℕ
places_named a names = filter_map (place_named a) names

-- whether a row subtracts a silent place
abbrev pub subtracts : List ℕ → Row → Bool
subtracts silent row = list_any (λ (term : ℕ × ℤ). is_silent silent term.0 && below_zero term.1) row.form.terms

-- the first guard that subtracts one, rise guards first
abbrev pub guard_that_subtracts : Automaton → List ℕ → Option ℕ
guard_that_subtracts a silent = option_or (position (subtracts silent) a.rise)
    (option_map (λ number. length a.rise + number) (position (subtracts silent) a.fall))

-- places that may be silent, or the guard that forbids it
abbrev pub unless_subtracted : List ℕ → Option ℕ → Result (List ℕ) SilentFault
unless_subtracted places None = Ok places
unless_subtracted places (Some guard) = Err (fault.Subtracted guard)

-- places that may be silent, unless a name may not
abbrev pub unless_faulty : Automaton → List ℕ → Option SilentFault → Result (List ℕ) SilentFault
unless_faulty a places None = unless_subtracted places (guard_that_subtracts a places)
unless_faulty a places (Some fault) = Err fault

-- the silent places of a text of names, or its first error: of the names in order, then of the guards
abbrev pub silent_in : Automaton → List ℕ → Result (List ℕ) SilentFault
silent_in a text = unless_faulty a (places_named a (names_in text)) (first_fault a (names_in text))

-- the answer is that, unless memory ran out
abbrev pub IsSilentIn : Automaton → List ℕ → Result (List ℕ) SilentFault → Type 0
IsSilentIn a text (Ok places) = silent_in a text ≡ Ok places
IsSilentIn a text (Err fault.Memory) = Unit {0}
IsSilentIn a text (Err f) = silent_in a text ≡ Err f

-- no guard subtracts a silent place
pub record MayBeSilent (a : Automaton) (places : List ℕ) : Type 0 where
  pub rise : NoneSubtracted places a.rise
  pub fall : NoneSubtracted places a.fall
