-- updates one after another, and the move of processes
use Rattle.ta_base.proofs.Totals.{total-set}
use Rattle.ta_counter.proofs.Common.{◌≡◌, ◌≢◌, inl, inr, ℕ, zero, suc, ◌+◌, ◌<◌, ◌≤◌, ℤ, pos, ◌+ℤ◌, ◌-ℤ◌, ◌*ℤ◌, ◌≤ℤ◌, List, [], ◌∷◌, ◌++◌, length, map, take}
use Rattle.ta_counter.proofs.Common.{set, eqb, cond, arith, sym, ap, ◌∙◌, refl, subst, get_or, slice_get, Some, length-drop, ints, eqb_tells, get_or-set_same}
use Rattle.ta_counter.proofs.Common.{get_or-set_other, length-set, take_more, take_all, drop-set-add, get_or_from_slice_get, slice_get_within, *ℤ-zero}
use Rattle.ta_counter.proofs.Common.{AllByRecursion, each_at, each_set, mul-ge-zero, PassedTo, all_passed, none_passed, one_passed, InRange, coefficient}
use Rattle.ta_counter.proofs.Common.{point_of, Rule, Automaton, Distinct, Update, RuleWithin, variable_of, location_place, shared_change, place_cases}
use Rattle.ta_counter.proofs.Common.{shared_change-parameter, shared_change-shared, shared_change-location, Value, places_of, counters_of, sum_of, Grows}
use Rattle.ta_counter.proofs.Common.{AllGrow, UpdateOutOfRange, shifted, each_get_or}
use Rattle.ta_counter.proofs.Starting.{counter_at}

-- the rule's parts exist in the automaton
abbrev pub Within : Automaton → Rule → Type 0
Within a rule = RuleWithin (length a.shared) (length a.locations) (length a.rise) (length a.fall) rule

coefficient-push : (xs : List (ℕ × ℤ)) (t : ℕ × ℤ) (y : ℕ) → coefficient (xs ++ t ∷ []) y ≡ (coefficient xs y +ℤ cond (eqb t.0 y) t.1 (pos 0))
coefficient-push [] t y = omega (arith, ints)
coefficient-push (x ∷ xs) t y = omega (arith, ints, coefficient-push xs t y)

coefficient-next : (ts : List (ℕ × ℤ)) (i : ℕ) (t : ℕ × ℤ) (y : ℕ) → slice_get ts i ≡ Some t
    → coefficient (take (i + 1) ts) y ≡ (coefficient (take i ts) y +ℤ cond (eqb t.0 y) t.1 (pos 0))
coefficient-next ts i t y at =
    ap (λ xs. coefficient xs y) (take_more ts i t (slice_get_within ts i t at))
    ∙ ap (λ u. coefficient (take i ts ++ u ∷ []) y) (get_or_from_slice_get ts i t t at)
    ∙ coefficient-push (take i ts) t y

other_variable : (x : ℕ) (ts : List (ℕ × ℤ)) (i : ℕ) (t : ℕ × ℤ) → AllByRecursion (λ y. x ≡ y → ⊥) (map variable_of ts) → slice_get ts i ≡ Some t → x ≡ t.0 → ⊥
other_variable x [] i t h at e = absurd (cc)
other_variable x (u ∷ ts) zero t h at e = h.0 (let same : u ≡ t = cc in e ∙ sym (ap variable_of same))
other_variable x (u ∷ ts) (suc i) t h at e = other_variable x ts i t h.1 at e

coefficient-before : (ts : List (ℕ × ℤ)) (i : ℕ) (t : ℕ × ℤ) → Distinct (map variable_of ts) → slice_get ts i ≡ Some t → coefficient (take i ts) t.0 ≡ pos 0
coefficient-before [] i t h at = absurd (cc)
coefficient-before (u ∷ ts) zero t h at = refl
coefficient-before (u ∷ ts) (suc i) t h at =
    elim (eqb_tells u.0 t.0) [
      | inl same ↦ absurd (other_variable u.0 ts i t h.0 at same.1)
      | inr ne ↦ rw ne.0 (omega (arith, ints, coefficient-before ts i t h.1 at))
    ]

-- the first i updates are added
pub record Updating (a : Automaton) (rule : Rule) (times : ℤ) (old values : List ℤ) (i : ℕ) : Type 0 where
  pub passed : PassedTo (λ j update. Grows a old times update) rule.updates i
  pub places : length values ≡ places_of a
  pub natural : AllByRecursion Value values
  pub parameters : (x : ℕ) → x < length a.parameters → point_of values x ≡ point_of old x
  pub shared : (x : ℕ) → x < length a.shared → point_of values (length a.parameters + x) ≡
      (point_of old (length a.parameters + x) +ℤ (times *ℤ coefficient (take i rule.updates) x))
  pub locations : (l : ℕ) → point_of values (location_place a l) ≡ point_of old (location_place a l)

pub update_start : (a : Automaton) (rule : Rule) (times : ℤ) (old : List ℤ) → length old ≡ places_of a → AllByRecursion Value old
    → Updating a rule times old old 0
update_start a rule times old places natural = record {
  passed = none_passed (λ j update. Grows a old times update) rule.updates;
  places = places;
  natural = natural;
  parameters = λ x b. refl;
  shared = λ x b. omega (arith, ints, *ℤ-zero times);
  locations = λ l. refl;
}

update_within : (a : Automaton) (rule : Rule) (i : ℕ) (u : ℕ × ℤ) → Within a rule → slice_get rule.updates i ≡ Some u → Update (length a.shared) u
update_within a rule i u w at = each_at (Update (length a.shared)) rule.updates i u w.updates at

-- before update i its variable has its old value
untouched : (a : Automaton) (rule : Rule) (times : ℤ) (old values : List ℤ) (i : ℕ) (u : ℕ × ℤ) → Within a rule → Updating a rule times old values i
    → slice_get rule.updates i ≡ Some u → point_of values (length a.parameters + u.0) ≡ point_of old (length a.parameters + u.0)
untouched a rule times old values i u w h at =
    let none = ap (λ z. times *ℤ z) (coefficient-before rule.updates i u w.variables_distinct at) in
    omega (arith, ints, h.shared u.0 (update_within a rule i u w at).exists, none, *ℤ-zero times)

pub update_place : (a : Automaton) (rule : Rule) (i : ℕ) (u : ℕ × ℤ) → Within a rule → slice_get rule.updates i ≡ Some u → u.0 < length a.shared
update_place a rule i u w at = (update_within a rule i u w at).exists

pub update_next : (a : Automaton) (rule : Rule) (times : ℤ) (old values : List ℤ) (i place : ℕ) (u : ℕ × ℤ) (v : ℤ) → Within a rule → pos 0 ≤ℤ times
    → Updating a rule times old values i → slice_get rule.updates i ≡ Some u → place ≡ length a.parameters + u.0 → InRange (times *ℤ u.1)
    → InRange (get_or values place (pos 0) +ℤ (times *ℤ u.1)) → v ≡ (get_or values place (pos 0) +ℤ (times *ℤ u.1))
    → Updating a rule times old (set values place v) (i + 1)
update_next a rule times old values i place u v w more h at here product sum is =
    let update = update_within a rule i u w at in
    let exists = update.exists in
    let within : place < length values = omega (arith, h.places) in
    let was : get_or values place (pos 0) ≡ point_of old (length a.parameters + u.0) = ap (point_of values) here
    ∙ untouched a rule times old values i u w h at in
    let grows : Grows a old times u = record { product = product; sum = subst (λ z. InRange (z +ℤ (times *ℤ u.1))) was sum } in
    let natural : pos 0 ≤ℤ get_or values place (pos 0) = (each_get_or Value values place (pos 0) h.natural within).natural in
    let positive : pos 0 ≤ℤ (times *ℤ u.1) = mul-ge-zero times u.1 more (omega (arith, ints, update.least)) in
    record {
      passed = one_passed (λ j update. Grows a old times update) rule.updates i u at grows h.passed;
      places = length-set values place v ∙ h.places;
      natural = each_set Value values place v h.natural (record { natural = omega (arith, ints); fits = subst InRange (sym is) sum });
      parameters = λ x b. get_or-set_other values place x v (pos 0) (λ e. omega arith) ∙ h.parameters x b;
      shared = λ x b. elim (eqb_tells u.0 x) [
        | inl same ↦ (
            let there : length a.parameters + x ≡ place = let s = same.1 in omega arith in
            let new : point_of (set values place v) (length a.parameters + x) ≡ v = ap (point_of (set values place v)) there
            ∙ get_or-set_same values place v (pos 0) within in
            let before : coefficient (take i rule.updates) x ≡ pos 0 = subst (λ y. coefficient (take i rule.updates) y ≡ pos 0) same.1
            (coefficient-before rule.updates i u w.variables_distinct at) in
            let next : coefficient (take (i + 1) rule.updates) x ≡ (coefficient (take i rule.updates) x +ℤ u.1) = coefficient-next rule.updates i u x at
            ∙ rw same.0 refl in
            let whole : coefficient (take (i + 1) rule.updates) x ≡ u.1 = omega (arith, ints) in
            let old_is : point_of old (length a.parameters + u.0) ≡ point_of old (length a.parameters + x) = ap (λ y. point_of old (length a.parameters + y))
            same.1 in
            omega (arith, ints, new, is, was, old_is, ap (λ z. times *ℤ z) whole))
        | inr other ↦ (
            let apart : length a.parameters + x ≢ place = λ e. other.1 (omega arith) in
            let new = get_or-set_other values place (length a.parameters + x) v (pos 0) apart in
            let next : coefficient (take (i + 1) rule.updates) x ≡ (coefficient (take i rule.updates) x +ℤ pos 0) = coefficient-next rule.updates i u x at
            ∙ rw other.0 refl in
            let whole : coefficient (take (i + 1) rule.updates) x ≡ coefficient (take i rule.updates) x = omega (arith, ints) in
            omega (arith, ints, new, h.shared x b, ap (λ z. times *ℤ z) whole))
      ];
      locations = λ l. get_or-set_other values place (location_place a l) v (pos 0) (λ e. omega arith) ∙ h.locations l;
    }

pub update_leaves : (a : Automaton) (rule : Rule) (times : ℤ) (old values : List ℤ) (i place : ℕ) (u : ℕ × ℤ) → Within a rule
    → Updating a rule times old values i → slice_get rule.updates i ≡ Some u → place ≡ length a.parameters + u.0
    → ¬ (InRange (times *ℤ u.1) × InRange (get_or values place (pos 0) +ℤ (times *ℤ u.1))) → UpdateOutOfRange a rule times old place
update_leaves a rule times old values i place u w h at here leaves =
    let was : get_or values place (pos 0) ≡ point_of old (length a.parameters + u.0) = ap (point_of values) here
    ∙ untouched a rule times old values i u w h at in
    record {
      number = i;
      first = record {
        item = u;
        at = at;
        before = h.passed;
        bad = λ (g : Grows a old times u). leaves (g.product, subst (λ z. InRange (z +ℤ (times *ℤ u.1))) (sym was) g.sum);
      };
      place_is = here;
    }

pub update_all : (a : Automaton) (rule : Rule) (times : ℤ) (old values : List ℤ) (i : ℕ) → Updating a rule times old values i → length rule.updates ≤ i
    → AllGrow a rule times old
update_all a rule times old values i h past = all_passed (λ j update. Grows a old times update) rule.updates i past h.passed

pub update_end : (a : Automaton) (rule : Rule) (times : ℤ) (old values : List ℤ) (i : ℕ) → Updating a rule times old values i → length rule.updates ≤ i
    → (place : ℕ) → point_of values place ≡ shifted a rule times old place
update_end a rule times old values i h past place = elim (place_cases a place) [
  | inl b ↦ omega (arith, ints, h.parameters place b, ap (λ z. times *ℤ z) (shared_change-parameter a rule place b), *ℤ-zero times)
  | inr (inl x) ↦ (
      let v = ap (point_of values) x.2 in
      let o = ap (point_of old) x.2 in
      let all = ap (λ (ts : List (ℕ × ℤ)). coefficient ts x.0) (take_all i rule.updates past) in
      let c : shared_change a rule place ≡ coefficient (take i rule.updates) x.0 = ap (shared_change a rule) x.2 ∙ shared_change-shared a rule x.0 x.1
      ∙ sym all in
      omega (arith, ints, v, o, h.shared x.0 x.1, ap (λ z. times *ℤ z) c))
  | inr (inr x) ↦ (
      let v = ap (point_of values) x.1 in
      let o = ap (point_of old) x.1 in
      let c : shared_change a rule place ≡ pos 0 = ap (shared_change a rule) x.1 ∙ shared_change-location a rule x.0 in
      omega (arith, ints, v, o, h.locations x.0, ap (λ z. times *ℤ z) c, *ℤ-zero times))
]

-- the values where k processes left one location for another
abbrev pub moved_values : Automaton → ℕ → ℕ → ℤ → List ℤ → List ℤ
moved_values a from to k values =
    set (set values (location_place a from) (point_of values (location_place a from) -ℤ k)) (location_place a to) (point_of values (location_place a to) +ℤ k)

counters-set : (a : Automaton) (values : List ℤ) (l : ℕ) (v : ℤ) → counters_of a (set values (location_place a l) v) ≡ set (counters_of a values) l v
counters-set a values l v = drop-set-add (length a.parameters + length a.shared) values l v

pub counters-set-sum : (a : Automaton) (values : List ℤ) (l : ℕ) (v : ℤ) → length values ≡ places_of a → l < length a.locations
    → sum_of (counters_of a (set values (location_place a l) v)) ≡ ((sum_of (counters_of a values) +ℤ v) -ℤ point_of values (location_place a l))
counters-set-sum a values l v places b =
    let within : l < length (counters_of a values) = omega (arith, length-drop (length a.parameters + length a.shared) values) in
    ap sum_of (counters-set a values l v) ∙ total-set (λ z. z) (counters_of a values) l v (pos 0) within
    ∙ ap (λ z. (sum_of (counters_of a values) +ℤ v) -ℤ z) (counter_at a values l)
