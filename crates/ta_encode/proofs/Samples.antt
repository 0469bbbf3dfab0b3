-- the sample system is what stands at the start of a pattern that asks for nothing
use Rattle.ta_encode.proofs.Common.{◌≡◌, inl, inr, ℕ, ℤ, ◌+◌, ◌≤◌, List, [], ◌∷◌, ◌++◌, map, length, arith, sym, ap, ◌∙◌, refl, subst, length-append, get_or}
use Rattle.ta_encode.proofs.Common.{slice_index, false≢true, ints, length-map, has_none, none_kept_empty, each_index, Automaton, Pattern, In, range_with_len}
use Rattle.ta_encode.proofs.Common.{Config, Initial, Fits, resilience_holds, Node, Meaning, Parameter, Start, start_locations, start_meanings, AllHold, High}
use Rattle.ta_encode.proofs.Common.{LinearRow, Low, bound_row, condition_rows, opposite, processes_row, RefutedInOrder, IsLeaf, LeafTest, HasStart}
use Rattle.ta_encode.proofs.Common.{SamplesStart, StartsAreSampled, sample_meanings, sample_rows, sample_search, sampled, Pending, bound_at, bounded}
use Rattle.ta_encode.proofs.Common.{bounded_rows, Adds, AreWritten, Draft, append-nil, length-range_with_len, Element, MayAsk, true}
use Rattle.ta_encode.proofs.Adding.{adds_behind, adds_both, nothing_written}
use Rattle.ta_encode.proofs.Asking.{complete_asks_none, only_asks}
use Rattle.ta_encode.proofs.Begin.{FirstRows, first_initial, first_of}
use Rattle.ta_encode.proofs.Drafts.{start_few}
use Rattle.ta_encode.proofs.Moments.{AllHold-append, AllHold-left, condition_holds, opposite_value}
use Rattle.ta_encode.proofs.RowSums.{leaf_contradicts}
use Rattle.ta_encode.proofs.Safety.{bounds_more, sides}
use Rattle.ta_encode.proofs.Start.{StartsEmpty, parameter_values, processes_value, start_counts, start_moment}
use Rattle.ta_encode.proofs.Starts.{parameter_picks}
use Rattle.ta_encode.proofs.Values.{AllHold-right}
use Rattle.ta_cert.specs.declared.line.Node.TheVariants as node

abbrev plain : Pattern
plain = record { name = []; start = record { comparisons = []; limit = omega arith }; empty = 0; events = [] }

plain_locations : (a : Automaton) → start_locations a plain ≡ a.initial
plain_locations a = none_kept_empty a.initial

plain_meanings : (a : Automaton) → start_meanings a plain ≡ sample_meanings a
unfolding start_meanings sample_meanings
plain_meanings a = ap (λ (ls : List ℕ). map Parameter (range_with_len 0 (length a.parameters)) ++ map Start ls) (plain_locations a)

pub sample_few : (a : Automaton) → length (sample_meanings a) ≤ 160
sample_few a = omega (
  arith,
  ap (λ (ms : List Meaning). length ms) (plain_meanings a),
  start_few a plain,
  a.shape.limits.parameters_limit,
  a.shape.limits.locations_limit,
)

-- the rows over some unknowns
abbrev rows_over : Automaton → List Meaning → List LinearRow
rows_over a ms = condition_rows a ms a.resilience.comparisons ++ (processes_row a ms ∷ opposite (processes_row a ms) ∷ [])

plain_rows : (a : Automaton) → rows_over a (start_meanings a plain) ≡ sample_rows a
unfolding sample_rows
plain_rows a = ap (rows_over a) (plain_meanings a)

pub sample_count : (a : Automaton) → length (sample_meanings a) ≡ length a.parameters + length a.initial
unfolding sample_meanings
sample_count a =
    let nums = range_with_len 0 (length a.parameters) in
    omega (
      arith,
      length-append (map Parameter nums) (map Start a.initial),
      length-map nums Parameter,
      length-map a.initial Start,
      length-range_with_len 0
          (length a.parameters),
    )

pub samples_start : SamplesStart
samples_start a vs s =
    let ms = start_meanings a plain in
    let rows = subst (AllHold vs) (sym (plain_rows a)) (AllHold-left vs (sample_rows a) [] s.rows_hold) in
    let resilience = condition_rows a ms a.resilience.comparisons in
    let processes = processes_row a ms ∷ opposite (processes_row a ms) ∷ [] in
    let first : FirstRows a plain vs = record
    { resilience = AllHold-left vs resilience processes rows; processes = AllHold-right vs resilience processes rows; start = tt } in
    record { first = first_of a plain vs; initial = first_initial a plain vs first; are = parameter_picks a plain vs (omega (arith, s.count, sample_count a)) }

none_empty : (c : Config) → StartsEmpty plain c
none_empty c l h = absurd (false≢true (sym (has_none l) ∙ h))

-- the values of an initial configuration
start_sample : (a : Automaton) (c : Config) → Initial a c → parameter_values a c ++ start_counts a plain c ≡ c.parameters
    ++ map (slice_index c.counters) a.initial
start_sample a c start =
    let parameters : parameter_values a c ≡ c.parameters = subst (λ (n : ℕ). map (λ j. get_or c.parameters j 0) (range_with_len 0 n) ≡ c.parameters)
    start.admissible.count (each_index c.parameters) in
    ap (λ (ps : List ℕ). ps ++ start_counts a plain c) parameters ∙ ap (λ (ls : List ℕ). c.parameters ++ map (slice_index c.counters) ls) (plain_locations a)

pub starts_sampled : StartsAreSampled
starts_sampled a c start =
    let fits : Fits a c = record { parameters = start.admissible.count; shared = start.shared_count } in
    let empty = none_empty c in
    let moment = start_moment a plain c fits start empty in
    let ms = start_meanings a plain in
    let vs = parameter_values a c ++ start_counts a plain c in
    let value = processes_value a plain c fits start empty [] in
    let v = vs ++ [] in
    let pair : AllHold v (processes_row a ms ∷ opposite (processes_row a ms) ∷ []) =
    (omega (arith, ints, value), (omega (arith, ints, value, opposite_value v (processes_row a ms)), tt)) in
    let resilience = condition_holds a ms vs c moment [] a.resilience.comparisons (resilience_holds a c start.admissible.count start.admissible.resilience) in
    let rows = AllHold-append v (condition_rows a ms a.resilience.comparisons) (processes_row a ms ∷ opposite (processes_row a ms) ∷ []) resilience pair in
    let values : v ≡ c.parameters ++ map (slice_index c.counters) a.initial = append-nil vs ∙ start_sample a c start in
    record {
      count = ap (λ (xs : List ℕ). length xs) (sym (start_sample a c start)) ∙ moment.count ∙ ap (λ (us : List Meaning). length us) (plain_meanings a);
      rows_hold = subst (λ (xs : List ℕ). AllHold xs (bounded_rows (sample_search a) (sampled []))) values
          (subst (λ (ls : List LinearRow). AllHold v (ls ++ [])) (plain_rows a) (subst (AllHold v) (sym (append-nil (rows_over a ms))) rows));
    }

-- the rows of code
pub sample_written : (a : Automaton) {zeroth first second : Draft} → zeroth.automaton.now ≡ a → zeroth.meanings.items ≡ sample_meanings a
    → zeroth.rows.items ≡ []
    → Adds (λ b ms. condition_rows b ms a.resilience.comparisons) zeroth first
    → Adds (λ b ms. processes_row b ms ∷ opposite (processes_row b ms) ∷ []) first second
    → (second.meanings.items ≡ sample_meanings a) × AreWritten (sample_rows a) (length second.meanings.items) second.rows.items
unfolding sample_rows
sample_written a {zeroth = zeroth} same e none one two = adds_behind a (sample_meanings a) [] same e
    (nothing_written (length zeroth.meanings.items) zeroth.rows.items none) (adds_both one two)

-- where nodes refute words of the search for a sample, no natural values solve one of them
pub none_solved : (a : Automaton) (test : LeafTest Element) → ((w : Pending Element) (ts : List (ℕ × ℤ)) → test w ts → IsLeaf (sample_search a) w ts)
    → (ws : List (Pending Element)) (nodes : List Node) → RefutedInOrder (sample_search a) test ws nodes → (w : Pending Element) → In w ws → (vs : List ℕ)
    → AllHold vs (bounded_rows (sample_search a) w) → ⊥
none_solved a test leaf ws [] h w i vs holds = subst (In w) h i
none_solved a test leaf [] (n ∷ nodes) h w i vs holds = h
none_solved a test leaf (v ∷ ws) (node.Leaf ts ∷ nodes) h w (inl same) vs holds =
    leaf_contradicts (bounded_rows (sample_search a) v) ts vs (leaf v ts h.0)
    (subst (λ (x : Pending Element). AllHold vs (bounded_rows (sample_search a) x)) same holds)
none_solved a test leaf (v ∷ ws) (node.Leaf ts ∷ nodes) h w (inr i) vs holds = none_solved a test leaf ws nodes h.1 w i vs holds
none_solved a test leaf (v ∷ ws) (node.Split unknown floor ∷ nodes) h w (inl same) vs holds =
    let low = bounded v (bound_at unknown floor Low) in
    let high = bounded v (bound_at unknown floor High) in
    let here = subst (λ (x : Pending Element). AllHold vs (bounded_rows (sample_search a) x)) same holds in
    let rows = AllHold-left vs (sample_rows a) (map bound_row v.bounds) here in
    let bounds = AllHold-right vs (sample_rows a) (map bound_row v.bounds) here in
    elim (sides unknown floor vs) [
      | inl g ↦ none_solved a test leaf (low ∷ high ∷ ws) nodes h.1 low (inl refl) vs
          (AllHold-append vs (sample_rows a) (map bound_row low.bounds) rows (bounds_more v.bounds (bound_at unknown floor Low) vs bounds g))
      | inr g ↦ none_solved a test leaf (low ∷ high ∷ ws) nodes h.1 high (inr (inl refl)) vs
          (AllHold-append vs (sample_rows a) (map bound_row high.bounds) rows (bounds_more v.bounds (bound_at unknown floor High) vs bounds g))
    ]
none_solved a test leaf (v ∷ ws) (node.Split unknown floor ∷ nodes) h w (inr i) vs holds =
    none_solved a test leaf (bounded v (bound_at unknown floor Low) ∷ bounded v (bound_at unknown floor High) ∷ ws) nodes h.1 w (inr (inr i)) vs holds
none_solved a test leaf (v ∷ ws) (n ∷ nodes) h w i vs holds = absurd (false≢true h.0)

-- where nodes refute the sample system, no parameters have an initial configuration
pub none_starts : (a : Automaton) (test : LeafTest Element) → ((w : Pending Element) (ts : List (ℕ × ℤ)) → test w ts → IsLeaf (sample_search a) w ts)
    → (nodes : List Node) → RefutedInOrder (sample_search a) test (sample_search a).roots nodes → (parameters : List ℕ) → ¬ HasStart a parameters
none_starts a test leaf nodes h parameters start =
    none_solved a test leaf (sample_search a).roots nodes h (sampled []) (inl refl) (start.first.parameters ++ map (slice_index start.first.counters) a.initial)
    (starts_sampled a start.first start.initial).rows_hold
