-- the node without facts: its first rows, and its vectors
use Rattle.ta_moment_tree.proofs.Common.{◌≡◌, ◌∙◌, inl, inr, ℕ, ℤ, pos, ◌+◌, ◌*◌, ◌<◌, ◌≤◌, List, [], ◌∷◌, ◌++◌, map, filter, length, slice_get, Some, None}
use Rattle.ta_moment_tree.proofs.Common.{Option, Bool, not, arith, ints, sym, ap, subst, refl, range_with_len, AllByRecursion, In, AreRowsOf, IsRowOf}
use Rattle.ta_moment_tree.proofs.Common.{Automaton, Pattern, Row, LinearRow, numbers_rise, rises_filter, Meaning, mul-le-mul, flat_map, filter_shorter}
use Rattle.ta_moment_tree.proofs.Common.{plus_form, vector_more, after_vector, before_vector, first_vector, guard_at, place_form, quiet_at, loud_terms}
use Rattle.ta_moment_tree.proofs.Common.{length-map, length-range_with_len, Point, rows_of_event, rows_of_after, rows_of_end, start_few, Rises, has_guard}
use Rattle.ta_moment_tree.proofs.Common.{is_moving, moving_rules, needing, sparing, UnknownForm, form_of_row, number_form, unknown_form, minus_form, Vector}
use Rattle.ta_moment_tree.proofs.Common.{end_vector, event_vector, nothing_fired, rows_at_start, unknowns_at_first, candidates, VectorSpeaks, speak_fresh}
use Rattle.ta_moment_tree.proofs.Common.{speak_number, event_less, eqb_tells, Moment, moment_of, moments_of, SmallBy, SmallVector, form_of, forms_of, vector_of}
use Rattle.ta_encode.specs.System.{open_rows}
use Rattle.ta_encode.specs.Unknowns.{start_meanings}
use Rattle.ta_moment_tree.specs.Plan.{IsPlan}
use Rattle.ta_moment_tree.specs.declared.plan.Plan.{Plan}
use Rattle.ta_moments.specs.Forms.{terms_form}
use Rattle.ta_moments.proofs.Speaking.{speak_minus, speak_plus}
use Rattle.ta_moments.specs.Moments.{step_vector}
unfoldable use Rattle.ta_moments.specs.Moments.{known}
unfoldable use Rattle.ta_encode.specs.Unknowns.{meanings}
use Rattle.ta_moment_tree.proofs.Starts.{moving_few}
use Rattle.ta_base.proofs.Ranges.{each_below}
unfoldable use Rattle.ta_moments.specs.Moments.{fresh}
use Rattle.ta_moments.proofs.Speaking.{times_less}
use Rattle.ta_moment_tree.specs.declared.moment.Moment.{Moment as Kept}
use Rattle.ta_moment_tree.proofs.Forms.{form_same, small_minus, small_plus, small_more, small_number, small_unknown}
use Rattle.ta_moment_tree.proofs.Lists.{mapped_more}

row_form : (l : LinearRow) (r : Row) → IsRowOf l r → form_of r.form ≡ form_of_row l
row_form l r h = form_same (form_of r.form) (form_of_row l) h.constant h.coefficients

written_forms : (ls : List LinearRow) (rows : List Row) → AreRowsOf ls rows → forms_of rows ≡ map form_of_row ls
written_forms [] [] h = refl
written_forms [] (r ∷ rows) h = absurd h
written_forms (l ∷ ls) [] h = absurd h
written_forms (l ∷ ls) (r ∷ rows) h = ap (λ f. f ∷ forms_of rows) (row_form l r h.0) ∙ ap (λ fs. form_of_row l ∷ fs) (written_forms ls rows h.1)

-- the forms at the start
pub start_forms : (a : Automaton) (p : Pattern) (rows : List Row) → AreRowsOf (open_rows a p) rows → forms_of rows ≡ rows_at_start a p
start_forms a p rows h = written_forms (open_rows a p) rows h

-- ---- lists of rules
pub moving_within : (a : Automaton) (p : Pattern) → Rises 0 (length a.rules) (moving_rules a p)
moving_within a p =
    let n = length a.rules in
    let here : 0 + n ≡ n = omega arith in
    rises_filter (λ r. is_moving p (slice_get a.rules r)) 0 n (range_with_len 0 n) (subst (λ m. Rises 0 m (range_with_len 0 n)) here (numbers_rise 0 n))

pub moving_below : (a : Automaton) (p : Pattern) → AllByRecursion (λ r. r < length a.rules) (moving_rules a p)
moving_below a p = each_below 0 (length a.rules) (moving_rules a p) (moving_within a p)

-- ---- vectors
pub fresh_small_at : (n k : ℕ) (qs : List ℕ) (other : Vector) → 1 ≤ n → SmallVector n other → (r : ℕ) → SmallBy n (fresh k qs other r)
unfolding fresh
fresh_small_at n k [] other least h r = h.each r
fresh_small_at n k (q ∷ qs) other least h r = elim (eqb_tells q r) [
  | inl same ↦ rw same.0 (small_more 1 n (unknown_form k) least (small_unknown k))
  | inr ne ↦ rw ne.0 (fresh_small_at n (k + 1) qs other least h r)
]

pub fresh_small : (n k : ℕ) (qs : List ℕ) (other : Vector) → 1 ≤ n → SmallVector n other → SmallVector n (fresh k qs other)
fresh_small n k qs other least h = record { each = fresh_small_at n k qs other least h }

pub nothing_small : (n : ℕ) → SmallVector n nothing_fired
nothing_small n = record { each = λ r. small_number n (pos 0) (omega (arith, ints)) }

pub event_small : (a : Automaton) (p : Pattern) (e : ℕ) → SmallVector 1 (event_vector a p e)
event_small a p e = fresh_small 1 (length (start_meanings a p) + e * length (moving_rules a p)) (moving_rules a p) nothing_fired (omega arith) (nothing_small 1)

pub end_small : (a : Automaton) (p : Pattern) (c : Option ℕ) → SmallVector 1 (end_vector a p c)
end_small a p None = nothing_small 1
end_small a p (Some e) = event_small a p e

pub vector_more_small : (m n : ℕ) (v : Vector) → m ≤ n → SmallVector m v → SmallVector n v
vector_more_small m n v le h = record { each = λ r. small_more m n (v r) le (h.each r) }

pub event_speaks : (a : Automaton) (p : Pattern) (e : ℕ) → e < length p.events → VectorSpeaks (unknowns_at_first a p) (event_vector a p e)
event_speaks a p e less =
    let ms = moving_rules a p in
    let base = length (start_meanings a p) in
    let n = unknowns_at_first a p in
    speak_fresh (base + e * length ms) ms nothing_fired n (let q = times_less e (length p.events) (length ms) less in omega arith) (λ r. speak_number n (pos 0))

pub end_speaks : (a : Automaton) (p : Pattern) (c : Option ℕ) → In c (candidates p) → VectorSpeaks (unknowns_at_first a p) (end_vector a p c)
end_speaks a p None i = λ r. speak_number (unknowns_at_first a p) (pos 0)
end_speaks a p (Some e) i = event_speaks a p e (event_less p e i)

-- what an event's unknowns need of room, in a plan
pub record EventRoom (e : ℕ) (moving : List ℕ) (starts : List Meaning) : Type 0 where
  pub most : e * length moving ≤ 8192
  pub few : length starts ≤ 160
  pub rules : length moving ≤ 1024

pub event_room : (plan : Plan) → IsPlan plan → (e : ℕ) (moving : List ℕ) (starts : List Meaning) → e < 8 → moving ≡ plan.moving.items
    → starts ≡ plan.starts → EventRoom e moving starts
event_room plan is e moving starts less same begun =
    let a = plan.task.automaton.now in
    let p = plan.task.pattern.now in
    let few : length moving ≤ 1024 = omega (arith, moving_few a p, ap length (same ∙ is.moving)) in
    let most : e * length moving ≤ 8 * 1024 = mul-le-mul (let within : e ≤ 8 = omega arith in within) few in
    record {
      most = omega arith;
      few = omega
          (arith, start_few a p, ap length (begun ∙ is.starts), a.shape.limits.parameters_limit, a.shape.limits.locations_limit);
      rules = few;
    }

pub moving_below_of : (a : Automaton) (p : Pattern) (rules : List ℕ) (n : ℕ) → rules ≡ moving_rules a p → n ≡ length a.rules → AllByRecursion (λ r. r < n) rules
moving_below_of a p rules n e same = subst (λ (m : ℕ). AllByRecursion (λ r. r < m) rules) (sym same)
    (subst (λ (rs : List ℕ). AllByRecursion (λ r. r < length a.rules) rs) (sym e) (moving_below a p))

pub event_is : (a : Automaton) (p : Pattern) (e first : ℕ) (rules : List ℕ) (v : Vector) → rules ≡ moving_rules a p
    → first ≡ length (start_meanings a p) + e * length (moving_rules a p) → v ≡ fresh first rules (λ r. minus_form (vector_of [] r) (vector_of [] r))
    → v ≡ event_vector a p e
event_is a p e first rules v is at h = h ∙ ap (λ k. fresh k rules (λ r. minus_form (vector_of [] r) (vector_of [] r))) at
    ∙ ap (λ qs. fresh (length (start_meanings a p) + e * length (moving_rules a p)) qs nothing_fired) is

-- one more moment
pub moments_more : (moments : List Kept) (moment : Kept) (begun : List Moment) (is : Moment) → moments_of moments ≡ begun → moment_of moment ≡ is
    → moments_of (moments ++ moment ∷ []) ≡ begun ++ is ∷ []
moments_more moments moment begun is e h = mapped_more moment_of moments moment begun is e h

pub count_room : (a : Automaton) (p : Pattern) (e m starts : ℕ) → m ≡ length (moving_rules a p) → starts ≡ length (start_meanings a p) → e ≤ 8 → (e * m ≤ 8192)
    × (starts ≤ 160)
count_room a p e m starts same begun events =
    let few : m ≤ 1024 = (let most = moving_few a p in omega arith) in
    let most : e * m ≤ 8 * 1024 = mul-le-mul events few in
    (omega arith, (let s = start_few a p in let parameters = a.shape.limits.parameters_limit in let locations = a.shape.limits.locations_limit in omega arith))

pub moments_count : (moments : List Kept) (g : ℕ → Moment) (n : ℕ) → moments_of moments ≡ map g (range_with_len 0 n) → length moments ≡ n
moments_count moments g n e = sym (length-map moments moment_of) ∙ ap length e ∙ length-map (range_with_len 0 n) g ∙ length-range_with_len 0 n

-- what is known without facts
pub first_known : (a : Automaton) (p : Pattern) (silent : List ℕ) (c : Option ℕ) (u : ℕ) (ms : List Moment) (rows : List UnknownForm)
    → u ≡ unknowns_at_first a p → ms ≡ map (λ e. Point (event_vector a p e)) (range_with_len 0 (length p.events))
    → rows ≡ rows_at_start a p ++ (flat_map (rows_of_event a p) (range_with_len 0 (length p.events))
    ++ (flat_map (rows_of_after a p) (range_with_len 0 (length p.events)) ++ rows_of_end a p c))
    → record { unknowns = u; moments = ms; rows = rows } ≡ known a p silent c []
unfolding known
first_known a p silent c u ms rows e g h = λ i. record { unknowns = e i; moments = g i; rows = h i }

-- ---- rules that are chosen among the moving ones
chosen_few : (a : Automaton) (p : Pattern) (test : ℕ → Bool) (rules : List ℕ) → rules ≡ filter test (moving_rules a p) → length rules ≤ 1024
chosen_few a p test rules e = let most = moving_few a p in omega (arith, ap length e, filter_shorter test (moving_rules a p))

chosen_below : (a : Automaton) (p : Pattern) (test : ℕ → Bool) (rules : List ℕ) (n : ℕ) → rules ≡ filter test (moving_rules a p) → n ≡ length a.rules
    → AllByRecursion (λ r. r < n) rules
chosen_below a p test rules n e same =
    subst (λ (m : ℕ). AllByRecursion (λ r. r < m) rules) (sym same)
    (subst (λ (rs : List ℕ). AllByRecursion (λ r. r < length a.rules) rs) (sym e)
    (each_below 0 (length a.rules) (filter test (moving_rules a p)) (rises_filter test 0 (length a.rules) (moving_rules a p) (moving_within a p))))

pub sparing_few : (a : Automaton) (p : Pattern) (g : ℕ) (rules : List ℕ) → rules ≡ sparing a p g → length rules ≤ 1024
sparing_few a p g rules e = chosen_few a p (λ r. not (has_guard a g (slice_get a.rules r))) rules e

pub sparing_below : (a : Automaton) (p : Pattern) (g : ℕ) (rules : List ℕ) (n : ℕ) → rules ≡ sparing a p g → n ≡ length a.rules
    → AllByRecursion (λ r. r < n) rules
sparing_below a p g rules n e same = chosen_below a p (λ r. not (has_guard a g (slice_get a.rules r))) rules n e same

pub needing_few : (a : Automaton) (p : Pattern) (g : ℕ) (rules : List ℕ) → rules ≡ needing a p g → length rules ≤ 1024
needing_few a p g rules e = chosen_few a p (λ r. has_guard a g (slice_get a.rules r)) rules e

pub needing_below : (a : Automaton) (p : Pattern) (g : ℕ) (rules : List ℕ) (n : ℕ) → rules ≡ needing a p g → n ≡ length a.rules
    → AllByRecursion (λ r. r < n) rules
needing_below a p g rules n e same = chosen_below a p (λ r. has_guard a g (slice_get a.rules r)) rules n e same

-- the vector of a first use
pub first_is : (a : Automaton) (p : Pattern) (unknowns g : ℕ) (rules : List ℕ) (v : Vector) → rules ≡ sparing a p g
    → v ≡ fresh unknowns rules (λ r. minus_form (vector_of [] r) (vector_of [] r)) → v ≡ first_vector a p unknowns g
first_is a p unknowns g rules v is h = h ∙ ap (λ qs. fresh unknowns qs nothing_fired) is

pub first_small : (a : Automaton) (p : Pattern) (unknowns g : ℕ) → SmallVector 1 (first_vector a p unknowns g)
first_small a p unknowns g = fresh_small 1 unknowns (sparing a p g) nothing_fired (omega arith) (nothing_small 1)

-- with no silent places
all_loud : (ts : List (ℕ × ℤ)) → loud_terms [] ts ≡ ts
all_loud [] = refl
all_loud (t ∷ ts) = ap (λ us. t ∷ us) (all_loud ts)

pub quiet_none : (a : Automaton) (p : Pattern) (v : Vector) (o : Option Row) → quiet_at a p [] v o ≡ guard_at a p v o
quiet_none a p v None = refl
quiet_none a p v (Some row) = ap (λ ts. plus_form (number_form row.form.constant) (terms_form (place_form a p v) ts) ∷ []) (all_loud row.form.terms)

-- the difference of small vectors
pub less_small : (v w : Vector) → SmallVector 1 v → SmallVector 1 w → SmallVector 2 (λ r. minus_form (v r) (w r))
less_small v w h k = record { each = λ r. small_minus 1 1 (v r) (w r) (h.each r) (k.each r) }

-- ---- the vectors of a last use
pub more_small : (v w : Vector) → SmallVector 2 v → SmallVector 1 w → SmallVector 3 (λ r. plus_form (v r) (w r))
more_small v w h k = record { each = λ r. small_plus 2 1 (v r) (w r) (h.each r) (k.each r) }

pub step_small : (a : Automaton) (p : Pattern) (u g : ℕ) → SmallVector 1 (step_vector a p u g)
step_small a p u g = fresh_small 1 (u + length (sparing a p g)) (needing a p g) nothing_fired (omega arith) (nothing_small 1)

pub before_small : (a : Automaton) (p : Pattern) (end : Vector) (u g : ℕ) → SmallVector 1 end → SmallVector 2 (before_vector a p end u g)
before_small a p end u g h = fresh_small 2 u (sparing a p g) (λ r. minus_form (end r) (step_vector a p u g r)) (omega arith)
    (less_small end (step_vector a p u g) h (step_small a p u g))

pub after_small : (a : Automaton) (p : Pattern) (end : Vector) (u g : ℕ) → SmallVector 1 end → SmallVector 3 (after_vector a p end u g)
after_small a p end u g h = more_small (before_vector a p end u g) (step_vector a p u g) (before_small a p end u g h) (step_small a p u g)

pub step_is : (a : Automaton) (p : Pattern) (u g : ℕ) (others chosen : List ℕ) (v : Vector) → others ≡ sparing a p g → chosen ≡ needing a p g
    → v ≡ fresh (u + length others) chosen nothing_fired → v ≡ step_vector a p u g
step_is a p u g others chosen v o n h = h ∙ ap (λ rs. fresh (u + length rs) chosen nothing_fired) o
    ∙ ap (λ rs. fresh (u + length (sparing a p g)) rs nothing_fired) n

pub before_is : (a : Automaton) (p : Pattern) (end : Vector) (u g : ℕ) (others : List ℕ) (step v : Vector) → others ≡ sparing a p g → step ≡ step_vector a p u g
    → v ≡ fresh u others (λ r. minus_form (end r) (step r)) → v ≡ before_vector a p end u g
before_is a p end u g others step v o s h = h ∙ ap (λ rs. fresh u rs (λ r. minus_form (end r) (step r))) o
    ∙ ap (λ (w : Vector). fresh u (sparing a p g) (λ r. minus_form (end r) (w r))) s

pub after_is : (a : Automaton) (p : Pattern) (end : Vector) (u g : ℕ) (before step v : Vector) → before ≡ before_vector a p end u g → step ≡ step_vector a p u g
    → v ≡ (λ r. plus_form (before r) (step r)) → v ≡ after_vector a p end u g
after_is a p end u g before step v b s h = h ∙ ap (λ (w : Vector). (λ (r : ℕ). plus_form (w r) (step r))) b
    ∙ ap (λ (w : Vector). (λ (r : ℕ). plus_form (before_vector a p end u g r) (w r))) s

pub after_speaks : (a : Automaton) (p : Pattern) (end : Vector) (u g : ℕ) → VectorSpeaks u end
    → VectorSpeaks (u + length (sparing a p g) + length (needing a p g)) (after_vector a p end u g)
after_speaks a p end u g h =
    let ss = sparing a p g in
    let ns = needing a p g in
    let n = u + length ss + length ns in
    let step = step_vector a p u g in
    let steps : VectorSpeaks n step = speak_fresh (u + length ss) ns nothing_fired n (omega arith) (λ r. speak_number n (pos 0)) in
    let ends : VectorSpeaks n end = vector_more u n end (omega arith) h in
    let before = before_vector a p end u g in
    let one : VectorSpeaks n before = speak_fresh u ss (λ r. minus_form (end r) (step r)) n (omega arith)
    (λ r. speak_minus n (end r) (step r) (ends r) (steps r)) in
    λ r. speak_plus n (before r) (step r) (one r) (steps r)
