-- what comes to rest in no run where names are silent, does so in none where none is
use Rattle.ta_program.proofs.Common.{◌≡◌, ℕ, List, Option, None, Some, Ok, slice_get, Automaton, File, Pattern, RestSafe, RestSafeBut, LoopsAlone}
use Rattle.std.proofs.Common.{◌+◌, length, refl, subst}
use Rattle.std.specs.List.{position}
use Rattle.std.specs.Option.{option_map, option_or}
use Rattle.ta_base.specs.declared.limits.Limits.{Limits}
use Rattle.ta_meaning.specs.Reading.{Legal}
use Rattle.ta_rest.proofs.QuietResting.{stronger}
use Rattle.ta_moments.proofs.NoneNegative.{none_subtracted}
use Rattle.ta_moments.specs.Silent.{first_fault, guard_that_subtracts, names_in, places_named, subtracts, unless_faulty, unless_subtracted}
use Rattle.ta_moments.specs.declared.fault.SilentFault.{SilentFault}
use Rattle.ta_program.proofs.FairAtRest.{fair_at_rest}
use Rattle.ta_program.specs.Understood.{NeverRests}

both_none : (rise fall : Option ℕ) (n : ℕ) → option_or rise (option_map (λ (number : ℕ). n + number) fall) ≡ None → (rise ≡ None) × (fall ≡ None)
both_none (Some k) fall n e = absurd (cc)
both_none None (Some k) n e = absurd (cc)
both_none None None n e = (refl, refl)

places_are : (places given : List ℕ) (guard : Option ℕ) → unless_subtracted places guard ≡ Ok given → (guard ≡ None) × (places ≡ given)
places_are places given (Some guard) is = absurd (cc)
places_are places given None is = (refl, cc)

not_faulty : (a : Automaton) (places given : List ℕ) (fault : Option SilentFault) → unless_faulty a places fault ≡ Ok given
    → (guard_that_subtracts a places ≡ None) × (places ≡ given)
not_faulty a places given (Some fault) is = absurd (cc)
not_faulty a places given None is = places_are places given (guard_that_subtracts a places) is

rest_safe_of : (names : Option (List ℕ)) (a : Automaton) (p : Pattern) → RestSafeBut names a p → RestSafe a p
rest_safe_of None a p safe = safe
rest_safe_of (Some names) a p safe =
    let given = not_faulty a (places_named a (names_in names)) safe.0 (first_fault a (names_in names)) safe.1 in
    let none : guard_that_subtracts a safe.0 ≡ None = subst (λ (places : List ℕ). guard_that_subtracts a places ≡ None) given.1 given.0 in
    let both = both_none (position (subtracts safe.0) a.rise) (position (subtracts safe.0) a.fall) (length a.rise) none in
    stronger a safe.0 p (none_subtracted safe.0 a.rise both.0) (none_subtracted safe.0 a.fall both.1) safe.2

pub never_rests : (l : Limits) (bytes : List ℕ) (file : File) → Legal l bytes file → LoopsAlone file.automaton → (k : ℕ) (p : Pattern)
    → slice_get file.patterns k ≡ Some p
    → (names : Option (List ℕ)) → RestSafeBut names file.automaton p → NeverRests file.automaton p
never_rests l bytes file legal loops k p named names safe =
    let rests = rest_safe_of names file.automaton p safe in
    (rests, fair_at_rest l bytes file legal loops k p named rests)
