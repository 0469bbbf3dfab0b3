-- Names that are declared one after another without an error: they are distinct and legal.
use Rattle.ta_meaning.proofs.Common.{◌≡◌, ℕ, true, false, not, ◌||◌, List, [], ◌∷◌, ◌++◌, length, map, refl, sym, ap, subst, ◌∙◌, append_assoc, bytes_eq}
use Rattle.ta_meaning.proofs.Common.{list_any, AllByRecursion, ltb-false, false≢true, not-false, or_parts, append-nil, bytes_eq-Decides, distinct_push_apart}
use Rattle.ta_meaning.proofs.Common.{each_append, plain_name, plain_location, Spelled, TreeLocation, Tree, Distinct, Name, has_name, guard_names, all_names}
use Rattle.ta_meaning.proofs.Common.{location_name, names_of, where_, is_long, declared_faults, declarations_faults, location_spelled, any_initial}
use Rattle.ta_meaning.proofs.Common.{names_faults, empty_left, empty_right}
use Rattle.ta_meaning.proofs.Answering.{not-where, none-else-left, none-else-right}
use Rattle.ta_syntax.specs.declared.fault.FileFault.TheVariants as fault

-- ---- names among names

-- a name that is not among names differs from each of them
pub has_name-apart : (names : List (List ℕ)) (n : List ℕ) → has_name names n ≡ false → AllByRecursion (λ m. m ≡ n → ⊥) names
has_name-apart [] n e = tt
has_name-apart (m ∷ names) n e =
    let parts = or_parts (bytes_eq m n) (has_name names n) e in
    ((λ same. false≢true (sym parts.0 ∙ (bytes_eq-Decides m n).1 same)), has_name-apart names n parts.1)

-- ---- one name

-- a name that is declared without an error is not among those before it
pub declared-new : (before : List (List ℕ)) (n : Spelled) → declared_faults before n ≡ [] → has_name before n.name ≡ false
declared-new before n none = not-where (has_name before n.name) (fault.Duplicate n.at) (none-else-left _ _ none)

-- a name that is not too long is legal
pub short_name : (n : Spelled) → is_long n ≡ false → Name n.name
short_name n short = record { spelled = n.legal; limit = ltb-false 64 (length n.name) short }

-- a name that is declared without an error is legal
pub declared-legal : (before : List (List ℕ)) (n : Spelled) → declared_faults before n ≡ [] → Name n.name
declared-legal before n none = short_name n
    (not-where (is_long n) (fault.TooLarge n.at) (none-else-right (where_ (has_name before n.name) (fault.Duplicate n.at)) _ none))

-- names with a name that is declared without an error are distinct
pub declared-distinct : (before : List (List ℕ)) (n : Spelled) → Distinct before → declared_faults before n ≡ [] → Distinct (before ++ n.name ∷ [])
declared-distinct before n d none = distinct_push_apart before n.name d (has_name-apart before n.name (declared-new before n none))

-- ---- names one after another
pub declarations-distinct : (before : List (List ℕ)) (ns : List Spelled) → Distinct before → declarations_faults before ns ≡ []
    → Distinct (before ++ map plain_name ns)
declarations-distinct before [] d none = subst Distinct (sym (append-nil before)) d
declarations-distinct before (n ∷ ns) d none =
    let here : declared_faults before n ≡ [] = empty_left (declared_faults before n) _ none in
    let later : declarations_faults (before ++ n.name ∷ []) ns ≡ [] = empty_right (declared_faults before n) _ none in
    subst Distinct (append_assoc before (n.name ∷ []) (map plain_name ns))
    (declarations-distinct (before ++ n.name ∷ []) ns (declared-distinct before n d here) later)

pub declarations-legal : (before : List (List ℕ)) (ns : List Spelled) → declarations_faults before ns ≡ [] → AllByRecursion Name (map plain_name ns)
declarations-legal before [] none = tt
declarations-legal before (n ∷ ns) none =
    let here : declared_faults before n ≡ [] = empty_left (declared_faults before n) _ none in
    let later : declarations_faults (before ++ n.name ∷ []) ns ≡ [] = empty_right (declared_faults before n) _ none in
    (declared-legal before n here, declarations-legal (before ++ n.name ∷ []) ns later)

-- ---- the names of a tree

-- the names of locations, with their offsets or without
pub location_names : (ls : List TreeLocation) → map plain_name (map location_spelled ls) ≡ map location_name (map plain_location ls)
location_names [] = refl
location_names (l ∷ ls) = ap (λ names. l.name.name ∷ names) (location_names ls)

-- what each part of the names says where there is no error
pub record NamesDeclared (t : Tree) : Type 0 where
  pub name : is_long t.name ≡ false
  pub parameters : declarations_faults [] t.parameters ≡ []
  pub shared : declarations_faults (names_of t).parameters t.shared ≡ []
  pub initial : any_initial t.locations ≡ true
  pub locations : declarations_faults (guard_names (names_of t)) (map location_spelled t.locations) ≡ []

-- the test of each location
pub any_initial_is : (ls : List TreeLocation) → list_any (λ (l : TreeLocation). l.initial) ls ≡ any_initial ls
any_initial_is [] = refl
any_initial_is (l ∷ ls) = ap (λ b. l.initial || b) (any_initial_is ls)

pub names_declared : (t : Tree) → names_faults (names_of t) t ≡ [] → NamesDeclared t
names_declared t none =
    let after_name = empty_right (where_ (is_long t.name) (fault.TooLarge t.name.at)) _ none in
    let after_parameters = empty_right (declarations_faults [] t.parameters) _ after_name in
    let after_shared = empty_right (declarations_faults (names_of t).parameters t.shared) _ after_parameters in
    record {
      name = not-where (is_long t.name) (fault.TooLarge t.name.at) (empty_left _ _ none);
      parameters = empty_left _ _ after_name;
      shared = empty_left _ _ after_parameters;
      initial = not-false (any_initial t.locations) (not-where (not (any_initial t.locations)) (fault.NoInitial t.locations_at) (empty_left _ _ after_shared));
      locations = empty_right (where_ (not (any_initial t.locations)) (fault.NoInitial t.locations_at)) _ after_shared;
    }

-- the names of a tree whose names have no error are distinct
pub names-distinct : (t : Tree) → names_faults (names_of t) t ≡ [] → Distinct (all_names (names_of t))
names-distinct t none =
    let d = names_declared t none in
    let ns = names_of t in
    let parameters : Distinct ns.parameters = declarations-distinct [] t.parameters tt d.parameters in
    let guards : Distinct (guard_names ns) = declarations-distinct ns.parameters t.shared parameters d.shared in
    subst (λ names. Distinct (guard_names ns ++ names)) (location_names t.locations)
    (declarations-distinct (guard_names ns) (map location_spelled t.locations) guards d.locations)

-- they are legal
pub names-legal : (t : Tree) → names_faults (names_of t) t ≡ [] → AllByRecursion Name (all_names (names_of t))
names-legal t none =
    let d = names_declared t none in
    let ns = names_of t in
    let locations : AllByRecursion Name ns.locations = subst (AllByRecursion Name) (location_names t.locations)
    (declarations-legal (guard_names ns) (map location_spelled t.locations) d.locations) in
    each_append Name (guard_names ns) ns.locations
    (each_append Name ns.parameters ns.shared (declarations-legal [] t.parameters d.parameters) (declarations-legal ns.parameters t.shared d.shared))
    locations

-- the automaton's name is legal
pub name-legal : (t : Tree) → names_faults (names_of t) t ≡ [] → Name t.name.name
name-legal t none = short_name t.name (names_declared t none).name

-- some location is initial
pub some_initial : (t : Tree) → names_faults (names_of t) t ≡ [] → any_initial t.locations ≡ true
some_initial t none = (names_declared t none).initial
