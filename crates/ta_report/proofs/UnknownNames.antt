-- Each unknown of a node without facts has its name.
use Rattle.ta_report.proofs.Common.{ℕ, zero, suc, ◌+◌, ◌<◌, ◌≡◌, ◌∙◌, List, [], ◌∷◌, ◌++◌, length, map, slice_get, Some, Bool, cond, ap, sym, refl, subst}
use Rattle.ta_report.proofs.Common.{arith, inl, inr, append_assoc, flat_map, range_with_len, length-map, eqb_tells, same_Some, In, Automaton, Event, Pattern}
use Rattle.ta_report.proofs.Common.{fired_name, fired_names, start_name, unknown_names}
use Rattle.std.proofs.Common.{◌*◌}
use Rattle.std.proofs.lemmas.List.{length-append}
use Rattle.std.proofs.lemmas.List.FromFn.{length-map-range_with_len}
use Rattle.std.proofs.lemmas.Option.{none-some, slice_get_within}
use Rattle.ta_base.specs.Lists.{Pairwise}
use Rattle.ta_base.proofs.Lists.{get_map, slice_get_before, slice_get_right}
use Rattle.ta_encode.specs.Unknowns.{start_locations}
use Rattle.ta_encode.specs.declared.meaning.Meaning.{Meaning}
use Rattle.ta_encode.specs.declared.meaning.Meaning.TheVariants.{Parameter, Start, Count, Single}
use Rattle.ta_moments.specs.Facts.{moving_rules}
use Rattle.ta_moments.specs.Forms.{unknown_form}
use Rattle.ta_moments.specs.Moments.{Vector, nothing_fired}
use Rattle.ta_report.specs.Named.{FiredNamed, UnknownsAreNamed}
unfoldable use Rattle.ta_encode.specs.Unknowns.{start_meanings}
unfoldable use Rattle.ta_moments.specs.Moments.{fresh}

-- ---- the start
-- the name of what an unknown at the start stands for
abbrev IsNamed : Automaton → Meaning → List ℕ → Type 0
IsNamed a (Parameter i) name = slice_get a.parameters i ≡ Some name
IsNamed a (Start l) name = start_name a l ≡ name
IsNamed a (Count k r) name = ⊥
IsNamed a (Single k r) name = ⊥

parameters_named : (a : Automaton) (front back : List (List ℕ)) → a.parameters ≡ front ++ back
    → Pairwise (IsNamed a) (map Parameter (range_with_len (length front) (length back))) back
parameters_named a front [] is = tt
parameters_named a front (name ∷ back) is =
    let here : slice_get a.parameters (length front) ≡ Some name = ap (λ ns. slice_get ns (length front)) is
    ∙ slice_get_right front (name ∷ back) (length front) 0 (omega arith) in
    let long : length (front ++ name ∷ []) ≡ length front + 1 = length-append front (name ∷ []) in
    let next = parameters_named a (front ++ name ∷ []) back (is ∙ sym (append_assoc front (name ∷ []) back)) in
    (here, subst (λ n. Pairwise (IsNamed a) (map Parameter (range_with_len n (length back))) back) long next)

starts_named : (a : Automaton) (ls : List ℕ) → Pairwise (IsNamed a) (map Start ls) (map (start_name a) ls)
starts_named a [] = tt
starts_named a (l ∷ ls) = (refl, starts_named a ls)

both : {A B : Type 0} (R : A → B → Type 0) (xs more : List A) (bs others : List B) → Pairwise R xs bs → Pairwise R more others
    → Pairwise R (xs ++ more) (bs ++ others)
both R [] more [] others h g = g
both R (a ∷ xs) more (b ∷ bs) others h g = (h.0, both R xs more bs others h.1 g)
both R [] more (b ∷ bs) others h g = absurd h
both R (a ∷ xs) more [] others h g = absurd h

beside : {A B : Type 0} (R : A → B → Type 0) (xs : List A) (bs rest : List B) → Pairwise R xs bs → (u : ℕ) (a : A) → slice_get xs u ≡ Some a
    → (b : B) × (slice_get (bs ++ rest) u ≡ Some b) × R a b
beside R [] bs rest h u a is = absurd (none-some _ is)
beside R (y ∷ xs) [] rest h u a is = absurd h
beside R (y ∷ xs) (b ∷ bs) rest h zero a is = (b, refl, subst (λ x. R x b) (same_Some _ _ is) h.0)
beside R (y ∷ xs) (b ∷ bs) rest h (suc u) a is = beside R xs bs rest h.1 u a is

start_named : (a : Automaton) (p : Pattern) → Pairwise (IsNamed a) (start_meanings a p) (a.parameters ++ map (start_name a) (start_locations a p))
unfolding start_meanings
start_named a p = both (IsNamed a) (map Parameter (range_with_len 0 (length a.parameters))) (map Start (start_locations a p)) a.parameters (map
    (start_name a) (start_locations a p)) (parameters_named a [] a.parameters refl) (starts_named a (start_locations a p))

start_count : (a : Automaton) (p : Pattern) → length (a.parameters ++ map (start_name a) (start_locations a p)) ≡ length (start_meanings a p)
unfolding start_meanings
start_count a p =
    let ls = start_locations a p in
    let left = length-append a.parameters (map (start_name a) ls) in
    let right = length-append (map Parameter (range_with_len 0 (length a.parameters))) (map Start ls) in
    omega (arith, left, right, length-map ls (start_name a), length-map ls Start, length-map-range_with_len Parameter 0 (length a.parameters))

-- ---- events
fired_count : (a : Automaton) (p : Pattern) (events : List Event) → length (flat_map (fired_names a p) events) ≡ length events * length (moving_rules a p)
fired_count a p [] = omega arith
fired_count a p (event ∷ events) =
    let front = fired_names a p event in
    let back = flat_map (fired_names a p) events in
    let more : length (front ++ back) ≡ length front + length back = length-append front back in
    omega (arith, more, length-map (moving_rules a p) (fired_name a event), fired_count a p events)

-- in the list of all events' names those of an event stand behind those of the events before it
fired_at : (a : Automaton) (p : Pattern) (events : List Event) (e : ℕ) (event : Event) → slice_get events e ≡ Some event → (j : ℕ) (name : List ℕ)
    → slice_get (fired_names a p event) j ≡ Some name → (place : ℕ) → place ≡ e * length (moving_rules a p) + j
    → slice_get (flat_map (fired_names a p) events) place ≡ Some name
fired_at a p [] e event is j name named place at = absurd (none-some _ is)
fired_at a p (x ∷ events) zero event is j name named place at =
    let front = fired_names a p x in
    let back = flat_map (fired_names a p) events in
    let here : slice_get (fired_names a p x) j ≡ Some name = ap (λ ev. slice_get (fired_names a p ev) j) (same_Some _ _ is) ∙ named in
    let less : j < length front = slice_get_within front j name here in
    let here_is : place ≡ j = omega (arith, at) in
    ap (slice_get (front ++ back)) here_is ∙ slice_get_before front back j less ∙ here
fired_at a p (x ∷ events) (suc e) event is j name named place at =
    let front = fired_names a p x in
    let back = flat_map (fired_names a p) events in
    let m = length (moving_rules a p) in
    slice_get_right front back place (e * m + j) (omega (arith, at, length-map (moving_rules a p) (fired_name a x)))
    ∙ fired_at a p events e event is j name named (e * m + j) refl

-- the unknown of a rule among fresh ones
fresh_at : (n : ℕ) (rules : List ℕ) (other : Vector) (r : ℕ) → In r rules
    → (j : ℕ) × (slice_get rules j ≡ Some r) × (fresh n rules other r ≡ unknown_form (n + j))
unfolding fresh
fresh_at n [] other r there = absurd there
fresh_at n (q ∷ qs) other r there = elim (eqb_tells q r) [
  | inl same ↦ (0, ap Some same.1, ap (λ (b : Bool). cond b (unknown_form n) (fresh (n + 1) qs other r)) same.0 ∙ ap unknown_form (omega arith))
  | inr ne ↦
      let later = fresh_at (n + 1) qs other r (elim there [ inl here ↦ absurd (ne.1 (sym here)) | inr behind ↦ behind ]) in
      (suc later.0, later.1, ap (λ (b : Bool). cond b (unknown_form n) (fresh (n + 1) qs other r)) ne.0 ∙ later.2 ∙ ap unknown_form (omega arith))
]

-- ---- all names
names_are : (a : Automaton) (p : Pattern) → unknown_names a p ≡ (a.parameters ++ map (start_name a) (start_locations a p)) ++ flat_map
    (fired_names a p) p.events
names_are a p = sym (append_assoc a.parameters (map (start_name a) (start_locations a p)) (flat_map (fired_names a p) p.events))

fired_named : (a : Automaton) (p : Pattern) (e : ℕ) (event : Event) (r : ℕ) → slice_get p.events e ≡ Some event → In r (moving_rules a p)
    → FiredNamed a p e event r
fired_named a p e event r is moving =
    let start = a.parameters ++ map (start_name a) (start_locations a p) in
    let names = flat_map (fired_names a p) p.events in
    let m = length (moving_rules a p) in
    let first = length (start_meanings a p) + e * m in
    let found = fresh_at first (moving_rules a p) nothing_fired r moving in
    let j = found.0 in
    record {
      unknown = first + j;
      counts = found.2;
      named =
          ap (λ ns. slice_get ns (first + j)) (names_are a p)
          ∙ slice_get_right start names (first + j) (e * m + j) (omega (arith, start_count a p))
          ∙ fired_at a p p.events e event is j (fired_name a event r) (get_map (fired_name a event) (moving_rules a p) j r found.1) (e * m + j) refl;
    }

pub unknowns_named : UnknownsAreNamed
unknowns_named a p =
    let start = a.parameters ++ map (start_name a) (start_locations a p) in
    let names = flat_map (fired_names a p) p.events in
    let at_start : (u : ℕ) (m : Meaning) → slice_get (start_meanings a p) u ≡ Some m
    → (name : List ℕ) × (slice_get (unknown_names a p) u ≡ Some name) × IsNamed a m name =
    (λ u m is.
    let found = beside (IsNamed a) (start_meanings a p) start names (start_named a p) u m is in
    (found.0, ap (λ ns. slice_get ns u) (names_are a p) ∙ found.1, found.2)) in
    record {
      count = ap length (names_are a p) ∙ length-append start names ∙ ap (λ n. n + length names) (start_count a p)
          ∙ ap (λ n. length (start_meanings a p) + n) (fired_count a p p.events);
      parameters = λ u i is. let found = at_start u (Parameter i) is in found.1 ∙ sym found.2;
      starts = λ u l is. let found = at_start u (Start l) is in found.1 ∙ ap Some (sym found.2);
      fired = fired_named a p;
    }
