-- the configuration that values begin at, and what forms are worth there
use Rattle.ta_moments.proofs.Common.{◌≡◌, inl, inr, ℕ, ◌≤◌, ℤ, pos, negsuc, ◌*ℤ◌, ◌≤ℤ◌, List, [], ◌∷◌, ◌++◌, map, length, slice_get, arith, ap, ◌∙◌, refl, ints}
use Rattle.ta_moments.proofs.Common.{In, AllByRecursion, total, total-zero, terms_value, Automaton, Pattern, LinearRow, change_of, rule_change, moving_rules}
use Rattle.ta_moments.proofs.Common.{AllHold, condition_rows, processes_row, opposite, start_meanings, place_coefficient, UnknownForm, form_of_row, number_form}
use Rattle.ta_moments.proofs.Common.{times_form, sum_form, terms_form, Vector, start_form, place_form, form_at, rows_at_start, unsigned_abs, value_after}
use Rattle.ta_moments.proofs.Common.{counts_of, IsNatural, BeginsAt}
use Rattle.ta_encode.proofs.Begin.{first_of, first_values, first_initial, FirstRows, begin_at}
use Rattle.ta_encode.proofs.Starts.{first_starts}
use Rattle.ta_encode.proofs.Moments.{AllHold-left}
use Rattle.ta_encode.proofs.Values.{AllHold-right, condition_back}
use Rattle.ta_moments.proofs.Values.{valued}
use Rattle.ta_moments.specs.Whole.{form_value}
use Rattle.ta_moments.proofs.Worth.{worth, worth-number, worth-plus, worth-times, worth-row}

rows_met : (vs : List ℕ) (rows : List LinearRow) → AllByRecursion (λ row. pos 0 ≤ℤ form_value vs row) (map form_of_row rows) → AllHold vs rows
rows_met vs [] h = tt
rows_met vs (r ∷ rs) h = (
  (let x : pos 0 ≤ℤ form_value vs (form_of_row r) = h.0 in omega (arith, ints, x, valued vs (form_of_row r), worth-row vs r)),
  rows_met
      vs rs h.1,
)

pub natural_is : (z : ℤ) → pos 0 ≤ℤ z → pos (unsigned_abs z) ≡ z
natural_is (pos n) h = refl
natural_is (negsuc n) h = absurd (omega (arith, ints, h))

sum_worth : (vs : List ℕ) (f : ℕ → ℤ) (v : Vector) (rs : List ℕ) → ((r : ℕ) → In r rs → pos 0 ≤ℤ form_value vs (v r))
    → worth vs (sum_form (λ r. times_form (f r) (v r)) rs) ≡ total (λ r. f r *ℤ pos (counts_of vs v r)) rs
unfolding sum_form total
sum_worth vs f v [] h = worth-number vs (pos 0)
sum_worth vs f v (r ∷ rs) h =
    let one = worth-times vs (f r) (v r) in
    let same : pos (counts_of vs v r) ≡ worth vs (v r) = natural_is (form_value vs (v r)) (h r (inl refl)) ∙ valued vs (v r) in
    omega (
      arith,
      ints,
      one,
      ap (λ z. f r *ℤ z) same,
      sum_worth vs f v rs (λ q i. h q (inr i)),
      worth-plus vs (times_form (f r) (v r))
          (sum_form (λ q. times_form (f q) (v q)) rs),
    )

place_worth : (a : Automaton) (p : Pattern) (vs : List ℕ) (v : Vector) → IsNatural a p vs v → (i : ℕ)
    → worth vs (place_form a p v i) ≡ value_after a p (first_of a p vs) (counts_of vs v) i
place_worth a p vs v h i =
    let row : LinearRow = record { constant = pos 0; coefficients = map (λ m. place_coefficient a m i) (start_meanings a p) } in
    let start = worth-row vs row in
    let gains = sum_form (λ r. times_form (rule_change a (slice_get a.rules r) i) (v r)) (moving_rules a p) in
    omega (arith, ints, worth-plus vs (start_form a p i) gains, start, first_values a p vs i, sum_worth vs (change_of a i) v (moving_rules a p) h)

pub terms_worth : (vs : List ℕ) (point : ℕ → UnknownForm) (at : ℕ → ℤ) → ((i : ℕ) → worth vs (point i) ≡ at i) → (ts : List (ℕ × ℤ))
    → worth vs (terms_form point ts) ≡ terms_value at ts
unfolding terms_form
terms_worth vs point at h [] = worth-number vs (pos 0)
terms_worth vs point at h (t ∷ ts) =
    omega (
      arith,
      ints,
      worth-plus vs (times_form t.1 (point t.0)) (terms_form point ts),
      worth-times vs t.1 (point t.0),
      ap (λ z. t.1 *ℤ z) (h t.0),
      terms_worth vs point at h ts,
    )

pub starts : (a : Automaton) (p : Pattern) (values : List ℕ) → length (start_meanings a p) ≤ length values
    → AllByRecursion (λ row. pos 0 ≤ℤ form_value values row) (rows_at_start a p) → BeginsAt a p values
starts a p vs enough met =
    let ms = start_meanings a p in
    let one = condition_rows a ms a.resilience.comparisons in
    let two = processes_row a ms ∷ opposite (processes_row a ms) ∷ [] in
    let three = condition_rows a ms p.start.comparisons in
    let all = rows_met vs (one ++ (two ++ three)) met in
    let rest = AllHold-right vs one (two ++ three) all in
    let h : FirstRows a p vs = record
    { resilience = AllHold-left vs one (two ++ three) all; processes = AllHold-left vs two three rest; start = AllHold-right vs two three rest } in
    let c = first_of a p vs in
    let initial = first_initial a p vs h in
    record {
      first = c;
      begins = first_starts a p vs enough;
      initial = initial;
      start = condition_back a ms vs c (first_values a p vs) p.start.comparisons h.start;
      stands = record {
        whole = record { parameters = initial.admissible.count; shared = initial.shared_count; counters = initial.locations_count };
        empty = (begin_at a p 0 vs).trail.all_good 0 c refl;
        values = λ i. omega (arith, ints, total-zero (λ r. change_of a i r *ℤ pos 0) (moving_rules a p) (λ r. omega (arith, ints)));
      };
      places = λ v n i. valued vs (place_form a p v i) ∙ place_worth a p vs v n i;
      forms = λ v n f. valued vs (form_at a p v f) ∙
          (omega (
            arith,
            ints,
            worth-plus vs (number_form f.constant) (terms_form (place_form a p v) f.terms),
            worth-number vs f.constant,
            terms_worth vs
                (place_form a p v) (value_after a p c (counts_of vs v)) (place_worth a p vs v n) f.terms,
          ));
    }
