-- names among names, and the numbers of used names
use Rattle.ta_meaning.proofs.Common.{◌≡◌, inl, inr, ℕ, zero, suc, ◌+◌, ◌-◌, ◌<◌, List, [], ◌∷◌, length, take, drop, get_or, true, false, not, slice_get, Some}
use Rattle.ta_meaning.proofs.Common.{Contains, arith, sym, ap, ◌∙◌, refl, subst, bytes_eq, bytes_eq-Decides, slice_get-get_or, get_or_from_slice_get}
use Rattle.ta_meaning.proofs.Common.{false≢true, or_cases, or_left, or_right, false_from_ne_true, not_from_true, take-length, Contains-append_right}
use Rattle.ta_meaning.proofs.Common.{AllByRecursion, distinct_at, distinct_drop, distinct_take, get_of_drop, Spelled, FileFault, Distinct, all_names, has_name}
use Rattle.ta_meaning.proofs.Common.{First, where_, used_faults, kinds_of, names_at, variable_faults, IsNewVariable, Places, get_front}
use Rattle.ta_meaning.proofs.ListedNames.{has_name-at, has_name-where}
use Rattle.ta_meaning.proofs.Answering.{where-false, where-leads, else-none, else-left-leads, else-right-leads}
use Rattle.ta_meaning.proofs.PlaceNames.{all_names_are, locations_count}
use Rattle.ta_syntax.specs.declared.fault.FileFault.TheVariants as fault

-- ---- names among names
pub shared_distinct : (places : Places) → Distinct (kinds_of places).shared
shared_distinct places = distinct_take places.shared (drop places.parameters places.names) (distinct_drop places.parameters places.names places.distinct)

-- a shared variable is a place
shared_place : (places : Places) (n : List ℕ) → has_name (kinds_of places).shared n ≡ true → has_name (all_names (kinds_of places)) n ≡ true
shared_place places n t =
    let w = has_name-where (kinds_of places).shared n t in
    subst (λ (names : List (List ℕ)). has_name names n ≡ true) (sym (all_names_are places))
    (has_name-at places.names n (places.parameters + w.0)
    (get_of_drop places.parameters places.names w.0 n ((get_front (drop places.parameters places.names) places.shared w.0 n w.1).1)))

pub shared_used : (places : Places) (n : Spelled) → has_name (kinds_of places).shared n.name ≡ true
    → used_faults (all_names (kinds_of places)) (kinds_of places).shared n ≡ []
shared_used places n t =
    else-none (where_ (not (has_name (all_names (kinds_of places)) n.name)) (fault.Unknown n.at))
    (where_ (not (has_name (kinds_of places).shared n.name)) (fault.WrongKind n.at))
    (where-false (not (has_name (all_names (kinds_of places)) n.name)) (fault.Unknown n.at)
    (not_from_true (has_name (all_names (kinds_of places)) n.name) (shared_place places n.name t)))
    (where-false (not (has_name (kinds_of places).shared n.name)) (fault.WrongKind n.at) (not_from_true (has_name (kinds_of places).shared n.name) t))

-- ---- variables seen

-- a name seen is that of a number seen
pub name_seen : (names : List (List ℕ)) (seen : List ℕ) (n : List ℕ) → AllByRecursion (λ x. x < length names) seen → has_name (names_at names seen) n ≡ true
    → (x : ℕ) × Contains seen x × (slice_get names x ≡ Some n)
name_seen names [] n known t = absurd (false≢true t)
name_seen names (x ∷ seen) n known t = elim (or_cases (bytes_eq (get_or names x []) n) (has_name (names_at names seen) n) t) [
  | inl e ↦ (x, (0, omega arith, refl), slice_get-get_or names x [] known.0 ∙ ap Some ((bytes_eq-Decides (get_or names x []) n).0 e))
  | inr e ↦ (let w = name_seen names seen n known.1 e in (w.0, Contains-append_right (x ∷ []) seen w.0 w.1, w.2))
]

pub number_seen : (names : List (List ℕ)) (seen : List ℕ) (x : ℕ) (n : List ℕ) → Contains seen x → slice_get names x ≡ Some n
    → has_name (names_at names seen) n ≡ true
number_seen names [] x n c e = let b = c.1 in absurd (omega arith)
number_seen names (y ∷ seen) x n (zero, b, q) e =
    or_left (bytes_eq (get_or names y []) n) (has_name (names_at names seen) n)
    ((bytes_eq-Decides (get_or names y []) n).1 (ap (λ z. get_or names z []) q ∙ get_or_from_slice_get names x n [] e))
number_seen names (y ∷ seen) x n (suc k, b, q) e =
    or_right (bytes_eq (get_or names y []) n) (has_name (names_at names seen) n) (number_seen names seen x n (k, omega arith, q) e)

no_first : (places : Places) (seen : List ℕ) (n : Spelled) (e : FileFault) {rest : List FileFault}
    → AllByRecursion (λ x. x < length (kinds_of places).shared) seen → has_name (names_at (kinds_of places).shared seen) n.name ≡ true
    → used_faults (all_names (kinds_of places)) (kinds_of places).shared n ≡ e ∷ rest → ⊥
no_first places seen n e known t h =
    let w = name_seen (kinds_of places).shared seen n.name known t in
    let none = shared_used places n (has_name-at (kinds_of places).shared n.name w.0 w.2) in
    cc

pub variable_first : (places : Places) (seen : List ℕ) (n : Spelled) (e : FileFault) → AllByRecursion (λ x. x < length (kinds_of places).shared) seen
    → First (used_faults (all_names (kinds_of places)) (kinds_of places).shared n) e
    → First (variable_faults (kinds_of places) (names_at (kinds_of places).shared seen) n) e
variable_first places seen n e known h =
    let ns = kinds_of places in
    let before = names_at ns.shared seen in
    let none : has_name before n.name ≡ false = false_from_ne_true (has_name before n.name) (λ t. no_first places seen n e known t h.1) in
    else-right-leads (where_ (has_name before n.name) (fault.Duplicate n.at)) (used_faults (all_names ns) ns.shared n) e
    (where-false (has_name before n.name) (fault.Duplicate n.at) none) h

pub variable_again : (places : Places) (seen : List ℕ) (n : Spelled) (x : ℕ) → Contains seen x → slice_get (kinds_of places).shared x ≡ Some n.name
    → First (variable_faults (kinds_of places) (names_at (kinds_of places).shared seen) n) (fault.Duplicate n.at)
variable_again places seen n x c e =
    let ns = kinds_of places in
    let before = names_at ns.shared seen in
    else-left-leads (where_ (has_name before n.name) (fault.Duplicate n.at)) (used_faults (all_names ns) ns.shared n) (fault.Duplicate n.at)
    (where-leads (has_name before n.name) (fault.Duplicate n.at) (number_seen ns.shared seen x n.name c e))

pub variable_new : (places : Places) (seen : List ℕ) (n : Spelled) (x : ℕ) → AllByRecursion (λ y. y < length (kinds_of places).shared) seen
    → (Contains seen x → ⊥) → used_faults (all_names (kinds_of places)) (kinds_of places).shared n ≡ [] → slice_get (kinds_of places).shared x ≡ Some n.name
    → (variable_faults (kinds_of places) (names_at (kinds_of places).shared seen) n ≡ []) × IsNewVariable (kinds_of places).shared seen n.name x
variable_new places seen n x known new used named =
    let ns = kinds_of places in
    let before = names_at ns.shared seen in
    let none : has_name before n.name ≡ false = false_from_ne_true (has_name before n.name) (λ t.
    let w = name_seen ns.shared seen n.name known t in
    new (subst (λ y. Contains seen y) (distinct_at ns.shared w.0 x n.name (shared_distinct places) w.2 named) w.1)) in (
      else-none (where_ (has_name before n.name) (fault.Duplicate n.at)) (used_faults (all_names ns) ns.shared n)
          (where-false (has_name before n.name) (fault.Duplicate n.at) none) used,
      record { named = named; new = new },
    )

-- ---- numbers in a part of the names
pub shared_part_is : (places : Places) → take ((places.parameters + places.shared) - places.parameters) (drop places.parameters places.names) ≡
    (kinds_of places).shared
shared_part_is places = ap (λ k. take k (drop places.parameters places.names))
    (let e : (places.parameters + places.shared) - places.parameters ≡ places.shared = omega arith in e)

pub locations_part_is : (places : Places) (count : ℕ) → count ≡ length places.names
    → take (count - (places.parameters + places.shared)) (drop (places.parameters + places.shared) places.names) ≡ (kinds_of places).locations
locations_part_is places count e =
    let first = places.parameters + places.shared in
    ap (λ k. take k (drop first places.names)) (ap (λ n. n - first) e ∙ sym (locations_count places)) ∙ take-length (drop first places.names)

pub used_in : (places : Places) (part kind : List (List ℕ)) (n : Spelled) → part ≡ kind
    → used_faults places.names part n ≡ used_faults (all_names (kinds_of places)) kind n
used_in places part kind n e =
    ap (λ (names : List (List ℕ)). used_faults names part n) (sym (all_names_are places))
    ∙ ap (λ (names : List (List ℕ)). used_faults (all_names (kinds_of places)) names n) e
