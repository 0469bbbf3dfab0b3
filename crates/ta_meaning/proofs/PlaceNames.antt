-- the names of places by their kinds, against the list of all
use Rattle.ta_meaning.proofs.Common.{◌≡◌, ℕ, ◌+◌, ◌-◌, List, ◌++◌, length, take, drop, arith, sym, ap, ◌∙◌, length-take-le, length-drop, take-append-drop}
use Rattle.ta_meaning.proofs.Common.{take-add, guard_names, all_names, in_parameters, in_guards, kinds_of, first_places, Places}

-- the names that a guard may speak of are the first ones
pub guard_names_are : (places : Places) → guard_names (kinds_of places) ≡ take (places.parameters + places.shared) places.names
guard_names_are places = sym (take-add places.parameters places.shared places.names)

-- the names of all places are all names
pub all_names_are : (places : Places) → all_names (kinds_of places) ≡ places.names
all_names_are places =
    ap (λ (xs : List (List ℕ)). xs ++ drop (places.parameters + places.shared) places.names) (guard_names_are places)
    ∙ take-append-drop (places.parameters + places.shared) places.names

pub in_parameters_are : (places : Places) → in_parameters (kinds_of places) ≡ first_places places.names places.parameters
in_parameters_are places = ap (λ (ns : List (List ℕ)). record { places = ns; allowed = take places.parameters places.names }) (all_names_are places)

pub in_guards_are : (places : Places) → in_guards (kinds_of places) ≡ first_places places.names (places.parameters + places.shared)
in_guards_are places =
    ap (λ (ns : List (List ℕ)). record { places = ns; allowed = guard_names (kinds_of places) }) (all_names_are places)
    ∙ ap (λ (ns : List (List ℕ)). record { places = places.names; allowed = ns }) (guard_names_are places)

-- how many there are of each kind
pub parameters_count : (places : Places) → length (kinds_of places).parameters ≡ places.parameters
parameters_count places = let h = places.within in length-take-le places.parameters places.names (omega arith)

pub locations_count : (places : Places) → length (kinds_of places).locations ≡ length places.names - (places.parameters + places.shared)
locations_count places = length-drop (places.parameters + places.shared) places.names
