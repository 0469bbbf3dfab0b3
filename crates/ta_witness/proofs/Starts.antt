-- the parameters and start counts of a solution's run are those of the configuration that it begins with
use Rattle.ta_witness.proofs.Common.{◌≡◌, inl, inr, ℕ, ◌+◌, ℤ, pos, List, [], ◌∷◌, ◌++◌, map, length, take, drop, eqb, cond, true, false, not, Some, slice_get}
use Rattle.ta_witness.proofs.Common.{arith, refl, sym, ap, ◌∙◌, subst, unsigned_abs, slice_index, cases_Bool, not_from_false, nat_tests, eqb_tells, length-map}
use Rattle.ta_witness.proofs.Common.{natural_at, naturals_back, In-filter, in_at, map_from, Automaton, Pattern, has_bit, range_with_len, In, Config, Element}
use Rattle.ta_witness.proofs.Common.{Meaning, Parameter, Start, meanings, start_locations, start_meanings, start_values, same_meaning, unknown_value}
use Rattle.ta_witness.proofs.Common.{map-append, drop_at, take-map, map_same, length-range_with_len}
use Rattle.ta_witness.proofs.Lookups.{OtherElement, newer, skip, lacks_map}

-- unknowns that aren't of an element have their values at the start
at_start : (a : Automaton) (p : Pattern) (start : ℕ) (past : List Element) (vs : List ℤ) (m : Meaning) → ((n : ℕ) → OtherElement n m)
    → unknown_value (meanings a p start past) vs m ≡ unknown_value (start_meanings a p) vs m
unfolding meanings
at_start a p start [] vs m h = refl
at_start a p start (x ∷ past) vs m h = newer a p start x past vs m (h (length past)) ∙ at_start a p start past vs m h

front_values : (ms : List Meaning) (vs : List ℤ) (m : Meaning) → unknown_value ms vs m ≡ unknown_value ms (take (length ms) vs) m
unfolding unknown_value
front_values [] vs m = refl
front_values (n ∷ ms) [] m = refl
front_values (n ∷ ms) (v ∷ vs) m = ap (λ z. cond (same_meaning n m) v z) (front_values ms vs m)

value_at_start : (a : Automaton) (p : Pattern) (start : ℕ) (past : List Element) (vs sv : List ℕ) (m : Meaning) → ((n : ℕ) → OtherElement n m)
    → sv ≡ take (length (start_meanings a p)) vs → unknown_value (meanings a p start past) (map pos vs) m ≡ unknown_value (start_meanings a p) (map pos sv) m
value_at_start a p start past vs sv m h e =
    at_start a p start past (map pos vs) m h
    ∙ front_values (start_meanings a p) (map pos vs) m
    ∙ ap (λ (ws : List ℤ). unknown_value (start_meanings a p) ws m) (take-map pos (length (start_meanings a p)) vs ∙ ap (map pos) (sym e))

parameters_found : (low : ℕ) (xs ys : List ℕ) (more : List Meaning)
    → map (λ i. unknown_value (map Parameter (range_with_len low (length xs)) ++ more) (map pos (xs ++ ys)) (Parameter i)) (range_with_len low (length xs)) ≡
    map pos xs
unfolding unknown_value
parameters_found low [] ys more = refl
parameters_found low (x ∷ xs) ys more =
    let rest : ℕ → ℤ = λ i. unknown_value (map Parameter (range_with_len (low + 1) (length xs)) ++ more) (map pos (xs ++ ys)) (Parameter i) in
    let head : cond (eqb low low) (pos x) (rest low) ≡ pos x = (let s : eqb low low ≡ true = grind (arith, nat_tests) in rw s refl) in
    let tail = map_from (λ i. cond (eqb low i) (pos x) (rest i)) rest (low + 1) (length xs)
    (λ i b. (let s : eqb low i ≡ false = grind (arith, nat_tests) in rw s refl)) ∙ parameters_found (low + 1) xs ys more in
    cc

-- the run's parameters
pub parameters_are : (a : Automaton) (p : Pattern) (start : ℕ) (past : List Element) (vs : List ℕ) (first : Config)
    → length first.parameters ≡ length a.parameters → start_values a p first ≡ take (length (start_meanings a p)) vs
    → map unsigned_abs (map (λ i. unknown_value (meanings a p start past) (map pos vs) (Parameter i)) (range_with_len 0 (length a.parameters))) ≡
    first.parameters
unfolding start_meanings
parameters_are a p start past vs first count begins =
    let n = length a.parameters in
    let cs = map (slice_index first.counters) (start_locations a p) in
    let each : (i : ℕ) → unknown_value (meanings a p start past) (map pos vs) (Parameter i) ≡ unknown_value
    (map Parameter (range_with_len 0 n) ++ map Start (start_locations a p)) (map pos (first.parameters ++ cs)) (Parameter i) =
    (λ i. value_at_start a p start past vs (start_values a p first) (Parameter i) (λ k. tt) begins) in
    ap (λ (zs : List ℤ). map unsigned_abs zs) (map_same _ _ (range_with_len 0 n) each
    ∙ subst (λ (k : ℕ). map (λ i. unknown_value (map Parameter (range_with_len 0 k) ++ map Start (start_locations a p)) (map pos (first.parameters ++ cs))
    (Parameter i)) (range_with_len 0 k) ≡ map pos first.parameters) count (parameters_found 0 first.parameters cs (map Start (start_locations a p))))
    ∙ naturals_back first.parameters

start_in : (f : ℕ → ℕ) (ls : List ℕ) (l : ℕ) → In l ls → unknown_value (map Start ls) (map pos (map f ls)) (Start l) ≡ pos (f l)
unfolding unknown_value
start_in f [] l i = absurd i
start_in f (k ∷ ls) l i = elim (eqb_tells k l) [
  | inl s ↦ rw s.0 (ap (λ (x : ℕ). pos (f x)) s.1)
  | inr ne ↦ rw ne.0 (start_in f ls l (elim i [ inl e ↦ absurd (ne.1 (sym e)) | inr j ↦ j ]))
]

start_zero : (f : ℕ → ℕ) (ls : List ℕ) (l : ℕ) → f l ≡ 0 → unknown_value (map Start ls) (map pos (map f ls)) (Start l) ≡ pos 0
unfolding unknown_value
start_zero f [] l e = refl
start_zero f (k ∷ ls) l e = elim (eqb_tells k l) [
  | inl s ↦ rw s.0 (ap (λ (x : ℕ). pos (f x)) s.1 ∙ ap pos e)
  | inr ne ↦ rw ne.0 (start_zero f ls l e)
]

start_value : (a : Automaton) (p : Pattern) (start : ℕ) (past : List Element) (vs : List ℕ) (first : Config) → length first.parameters ≡ length a.parameters
    → start_values a p first ≡ take (length (start_meanings a p)) vs → (l : ℕ)
    → unknown_value (meanings a p start past) (map pos vs) (Start l) ≡ unknown_value (map Start (start_locations a p))
    (map pos (map (slice_index first.counters) (start_locations a p))) (Start l)
unfolding start_meanings
start_value a p start past vs first count begins l =
    let n = length a.parameters in
    let cs = map (slice_index first.counters) (start_locations a p) in
    let ps = map Parameter (range_with_len 0 n) in
    let size : length (map pos first.parameters) ≡ length ps = length-map first.parameters pos ∙ count
    ∙ sym (length-map (range_with_len 0 n) Parameter ∙ length-range_with_len 0 n) in
    value_at_start a p start past vs (start_values a p first) (Start l) (λ k. tt) begins
    ∙ skip ps (map Start (start_locations a p)) (map pos (first.parameters ++ cs)) (Start l) (lacks_map (Start l) Parameter (range_with_len 0 n) (λ i. refl))
    ∙ ap (λ (ws : List ℤ). unknown_value (map Start (start_locations a p)) ws (Start l))
    (ap (drop (length ps)) (map-append pos first.parameters cs) ∙ drop_at (map pos first.parameters) (map pos cs) (length ps) size)

-- the run's start counts
start_count : (a : Automaton) (p : Pattern) (start : ℕ) (past : List Element) (vs : List ℕ) (first : Config) → length first.parameters ≡ length a.parameters
    → start_values a p first ≡ take (length (start_meanings a p)) vs → ((l : ℕ) → has_bit p.empty l ≡ true → slice_index first.counters l ≡ 0) → (l : ℕ)
    → In l a.initial → unknown_value (meanings a p start past) (map pos vs) (Start l) ≡ pos (slice_index first.counters l)
start_count a p start past vs first count begins empty l i =
    start_value a p start past vs first count begins l
    ∙ elim (cases_Bool (has_bit p.empty l)) [
      | inl e ↦ start_zero (slice_index first.counters) (start_locations a p) l (empty l e) ∙ ap pos (sym (empty l e))
      | inr e ↦ start_in (slice_index first.counters) (start_locations a p) l
          (In-filter (λ k. not (has_bit p.empty k)) l a.initial (not_from_false (has_bit p.empty l) e) i)
    ]

pub counts_are : (a : Automaton) (p : Pattern) (start : ℕ) (past : List Element) (vs : List ℕ) (first : Config) → length first.parameters ≡ length a.parameters
    → start_values a p first ≡ take (length (start_meanings a p)) vs → ((l : ℕ) → has_bit p.empty l ≡ true → slice_index first.counters l ≡ 0) → (j l : ℕ)
    → slice_get a.initial j ≡ Some l → slice_index first.counters l ≡ slice_index
    (map unsigned_abs (map (λ k. unknown_value (meanings a p start past) (map pos vs) (Start k)) a.initial)) j
counts_are a p start past vs first count begins empty j l at =
    sym (natural_at (λ k. unknown_value (meanings a p start past) (map pos vs) (Start k)) a.initial j l (slice_index first.counters l) at
    (start_count a p start past vs first count begins empty l (in_at a.initial j l at)))
