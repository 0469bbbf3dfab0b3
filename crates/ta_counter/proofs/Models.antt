-- the model's configuration with given values
use Rattle.ta_counter.proofs.Common.{◌≡◌, ℕ, zero, suc, ◌+◌, ◌<◌, ℤ, pos, List, [], ◌∷◌, length, map, take, drop, sum, arith, sym, ap, ◌∙◌, refl, get_or}
use Rattle.ta_counter.proofs.Common.{length-drop, unsigned_abs, fun_ext, ints, length-map, length-take-le, AllByRecursion, abs_natural, pieces, same_numbers}
use Rattle.ta_counter.proofs.Common.{point_of, Automaton, Config, value_at, total, location_place, Whole, fits_whole, value_at-parameter, value_at-shared}
use Rattle.ta_counter.proofs.Common.{value_at-location, Value, places_of, naturals, model_of, sum_of}
use Rattle.std.proofs.lemmas.List.Sums.{sum_by-cons}
use Rattle.ta_base.proofs.Lists.{map_three}

pub naturals_at : (values : List ℤ) → AllByRecursion Value values → (i : ℕ) → pos (get_or (map unsigned_abs values) i 0) ≡ get_or values i (pos 0)
naturals_at [] h i = refl
naturals_at (z ∷ zs) h zero = abs_natural z (h.0).natural
naturals_at (z ∷ zs) h (suc i) = naturals_at zs h.1 i

-- the value at a place is that of the list
pub model_at : (a : Automaton) (v : List ℤ) → AllByRecursion Value v → (i : ℕ) → value_at (model_of a v) i ≡ point_of v i
model_at a v h i =
    let p = length a.parameters in
    let s = length a.shared in
    ap (λ (ns : List ℕ). pos (get_or ns i 0)) (map_three unsigned_abs (take p v) (take s (drop p v)) (drop (p + s) v) ∙ ap naturals (pieces p s v))
    ∙ naturals_at v h i

pub model_point : (a : Automaton) (v : List ℤ) → AllByRecursion Value v → value_at (model_of a v) ≡ point_of v
model_point a v h = fun_ext (model_at a v h)

pub model_whole : (a : Automaton) (v : List ℤ) → length v ≡ places_of a → Whole a (model_of a v)
model_whole a v same =
    let p = length a.parameters in
    let s = length a.shared in
    record {
      parameters = length-map (take p v) unsigned_abs ∙ length-take-le p v (omega arith);
      shared = length-map (take s (drop p v)) unsigned_abs ∙ length-take-le s (drop p v) (omega (arith, length-drop p v));
      counters = length-map (drop (p + s) v) unsigned_abs ∙ omega (arith, length-drop (p + s) v);
    }

same_parts : (p q s t k l : List ℕ) → p ≡ q → s ≡ t → k ≡ l
    → ◌≡◌ {A = Config} (record { parameters = p; shared = s; counters = k }) (record { parameters = q; shared = t; counters = l })
same_parts p q s t k l e f g = rw (e, f, g) refl

-- configurations with a value for each place that agree at each place are the same
pub same_model : (a : Automaton) (c d : Config) → Whole a c → Whole a d → ((i : ℕ) → value_at c i ≡ value_at d i) → c ≡ d
same_model a c d w x h =
    let f = fits_whole a c w in
    let g = fits_whole a d x in
    same_parts c.parameters d.parameters c.shared d.shared c.counters d.counters
    (same_numbers c.parameters d.parameters (w.parameters ∙ sym x.parameters) (λ i b.
    let l : i < length a.parameters = omega (arith, w.parameters) in
    sym (value_at-parameter a c i f l) ∙ h i ∙ value_at-parameter a d i g l))
    (same_numbers c.shared d.shared (w.shared ∙ sym x.shared) (λ i b.
    let l : i < length a.shared = omega (arith, w.shared) in
    sym (value_at-shared a c i f l) ∙ h (length a.parameters + i) ∙ value_at-shared a d i g l))
    (same_numbers c.counters d.counters (w.counters ∙ sym x.counters)
    (λ i b. sym (value_at-location a c i f) ∙ h (location_place a i) ∙ value_at-location a d i g))

pub sum_naturals : (xs : List ℤ) → AllByRecursion Value xs → pos (sum (naturals xs)) ≡ sum_of xs
unfolding total
sum_naturals [] h = refl
sum_naturals (z ∷ zs) h =
    omega (arith, ints, abs_natural z (h.0).natural, sum_naturals zs h.1, sum_by-cons (λ n. n) (unsigned_abs z) (naturals zs))
