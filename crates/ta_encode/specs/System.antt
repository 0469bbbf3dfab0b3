-- The constraint system of a schema: its rows, in order, and its solutions. A schema is given as its past: its elements, the newest first.
-- Source: Konnov, Lazić, Veith, Widder, POPL 2017 (encoding of contexts and schemas).
use Rattle.std.specs.Prelude.{ℕ, zero, suc, ℤ, pos, negsuc, ◌+◌, ◌≡◌, ◌==◌, ◌+ℤ◌, ◌-ℤ◌, ◌*ℤ◌, ◌≤ℤ◌, Bool, cond, not, List, [], ◌∷◌, ◌++◌, length, map, filter}
use Rattle.std.specs.Prelude.{flat_map, slice_get, Option, Some, None}
use Rattle.ta_linear.specs.Values.{terms_value}
use Rattle.ta_linear.specs.declared.form.Form.{Form}
use Rattle.ta_linear.specs.declared.row.Row.{Row}
use Rattle.ta_automaton.specs.declared.condition.Comparison.{Comparison}
use Rattle.ta_automaton.specs.declared.automaton.Automaton.{Automaton}
use Rattle.ta_automaton.specs.declared.pattern.Event.{Event as PatternEvent}
use Rattle.ta_automaton.specs.declared.pattern.Pattern.{Pattern}
use Rattle.ta_base.specs.Masks.{has_bit}
use Rattle.std.specs.List.{range_with_len}
use Rattle.ta_automaton.specs.Places.{location_place}
use Rattle.ta_words.specs.declared.element.Element.{Element}
use Rattle.ta_words.specs.declared.element.Element.TheVariants.{Event, Rise, Fall}
use Rattle.ta_words.specs.Words.{allowed_rules, has_fallen}
use Rattle.ta_encode.specs.Unknowns.{Meaning, Parameter, Start, Count, Single, meanings, counts_after, start_meanings, place_coefficient}
pub use Rattle.ta_encode.specs.declared.meaning.Bound.{Bound}
pub use Rattle.ta_encode.specs.declared.meaning.Side.{Side}
pub use Rattle.ta_encode.specs.declared.meaning.Side.TheVariants.{Low, High}

-- the row `constant + sum of coefficient times unknown >= 0`: the coefficients of the first unknowns; the others' are 0
pub record LinearRow : Type 0 where
  pub constant : ℤ
  pub coefficients : List ℤ

-- `-row >= 0`
abbrev pub opposite : LinearRow → LinearRow
opposite row = record { constant = pos 0 -ℤ row.constant; coefficients = map (λ c. pos 0 -ℤ c) row.coefficients }

-- the negation of `row >= 0` over the integers: `-row - 1 >= 0`
abbrev pub negated : LinearRow → LinearRow
negated row = record { constant = (pos 0 -ℤ row.constant) -ℤ pos 1; coefficients = map (λ c. pos 0 -ℤ c) row.coefficients }

-- a form over places, at the moment whose unknowns so far are given
abbrev pub form_row : Automaton → List Meaning → Form → LinearRow
form_row a ms f = record { constant = f.constant; coefficients = map (λ m. terms_value (place_coefficient a m) f.terms) ms }

-- a location's counter at a moment
abbrev pub counter_row : Automaton → List Meaning → ℕ → LinearRow
counter_row a ms l = record { constant = pos 0; coefficients = map (λ m. place_coefficient a m (location_place a l)) ms }

-- the counters of the locations that are not kept empty, in order
abbrev pub counter_rows : Automaton → Pattern → List Meaning → List LinearRow
counter_rows a p ms = map (counter_row a ms) (filter (λ l. not (has_bit p.empty l)) (range_with_len 0 (length a.locations)))

-- the rows of a condition's comparisons at a moment
abbrev pub condition_rows : Automaton → List Meaning → List Comparison → List LinearRow
condition_rows a ms ks = flat_map (λ (k : Comparison). map (λ (r : Row). form_row a ms r.form) k.rows) ks

-- the rows at a moment of the guards whose numbers pass; the first guard has number k
abbrev pub guard_rows : Automaton → List Meaning → (ℕ → Bool) → ℕ → List Row → List LinearRow
guard_rows a ms test k [] = []
guard_rows a ms test k (r ∷ rs) = cond (test k) (form_row a ms r.form ∷ guard_rows a ms test (k + 1) rs) (guard_rows a ms test (k + 1) rs)

-- each fall guard at the start, negated if it is in the start set; the first guard has number k
abbrev pub start_guard_rows : Automaton → List Meaning → ℕ → ℕ → List Row → List LinearRow
start_guard_rows a ms start k [] = []
start_guard_rows a ms start k (r ∷ rs) = cond (has_bit start k) (negated (form_row a ms r.form)) (form_row a ms r.form) ∷ start_guard_rows a ms start (k + 1) rs

-- 1 for a start count
abbrev pub start_coefficient : Meaning → ℤ
start_coefficient (Parameter i) = pos 0
start_coefficient (Start l) = pos 1
start_coefficient (Count k r) = pos 0
start_coefficient (Single k r) = pos 0

-- the number of processes minus the start counts
abbrev pub processes_row : Automaton → List Meaning → LinearRow
processes_row a ms = record {
  constant = a.processes.constant;
  coefficients = map
      (λ m. terms_value (place_coefficient a m) a.processes.terms -ℤ start_coefficient m) ms;
}

-- the Singles of a Fall minus 1, where `before` are the unknowns before them
abbrev pub singles_row : List Meaning → List ℕ → LinearRow
singles_row before rules = record { constant = negsuc 0; coefficients = map (λ m. pos 0) before ++ map (λ r. pos 1) rules }

-- the rows of an event's condition at a moment
abbrev pub event_rows : Automaton → List Meaning → Option PatternEvent → List LinearRow
event_rows a ms None = []
event_rows a ms (Some event) = condition_rows a ms event.condition.comparisons

-- the rows at the start but for those of the fall guards: resilience, the number of processes, the start condition
abbrev pub open_rows : Automaton → Pattern → List LinearRow
open_rows a p =
    condition_rows a (start_meanings a p) a.resilience.comparisons
    ++ ((processes_row a (start_meanings a p) ∷ opposite (processes_row a (start_meanings a p)) ∷ [])
    ++ condition_rows a (start_meanings a p) p.start.comparisons)

-- the rows at the start: resilience, the number of processes, the start condition, the fall guards
unfoldable pub start_rows : Automaton → Pattern → ℕ → List LinearRow
start_rows a p start =
    condition_rows a (start_meanings a p) a.resilience.comparisons
    ++ ((processes_row a (start_meanings a p) ∷ opposite (processes_row a (start_meanings a p)) ∷ [])
    ++ (condition_rows a (start_meanings a p) p.start.comparisons
    ++ start_guard_rows a (start_meanings a p) start 0 a.fall))

-- the rows at a moment of the fall guards that are neither in the start set nor in a Fall of a schema
abbrev pub standing_rows : Automaton → ℕ → List Element → List Meaning → List LinearRow
standing_rows a start past ms = guard_rows a ms (λ j. not (has_fallen start past j)) 0 a.fall

-- the rows of a Rise after a schema; `end` are the unknowns up to its Counts
unfoldable pub rise_rows : Automaton → Pattern → ℕ → List Element → List Meaning → ℕ → List LinearRow
rise_rows a p start past end i = counter_rows a p end ++ (guard_rows a end (λ k. k == i) 0 a.rise ++ standing_rows a start past end)

-- the rows of an Event after a schema; `end` are the unknowns up to its Counts
unfoldable pub happening_rows : Automaton → Pattern → ℕ → List Element → List Meaning → ℕ → List LinearRow
happening_rows a p start past end e = counter_rows a p end ++ (event_rows a end (slice_get p.events e) ++ standing_rows a start past end)

-- the rows of a Fall after a schema; `before` are the unknowns up to its Counts, `end` those up to its Singles
unfoldable pub fall_rows : Automaton → Pattern → ℕ → List Element → List Meaning → List Meaning → ℕ → List LinearRow
fall_rows a p start past before end mask =
    counter_rows a p before
    ++ (guard_rows a before (has_bit mask) 0 a.fall
    ++ ((singles_row before (allowed_rules a p start past) ∷ opposite (singles_row before (allowed_rules a p start past)) ∷ [])
    ++ (counter_rows a p end
    ++ (map negated (guard_rows a end (has_bit mask) 0 a.fall)
    ++ standing_rows a start (Fall mask ∷ past) end))))

-- the rows of a schema, in order: those of each prefix come first
unfoldable pub word_rows : Automaton → Pattern → ℕ → List Element → List LinearRow
word_rows a p start [] = start_rows a p start
word_rows a p start (Event e ∷ past) = word_rows a p start past ++ happening_rows a p start past (meanings a p start (Event e ∷ past)) e
word_rows a p start (Rise i ∷ past) = word_rows a p start past ++ rise_rows a p start past (meanings a p start (Rise i ∷ past)) i
word_rows a p start (Fall mask ∷ past) = word_rows a p start past
    ++ fall_rows a p start past (meanings a p start past ++ counts_after a p start past) (meanings a p start (Fall mask ∷ past)) mask

-- one coefficient, after zeros
abbrev pub only_at : ℕ → ℤ → List ℤ
only_at zero z = z ∷ []
only_at (suc n) z = pos 0 ∷ only_at n z

-- Low: `floor - unknown`; High: `unknown - floor - 1`
abbrev pub side_row : ℕ → ℤ → Side → LinearRow
side_row unknown floor Low = record { constant = floor; coefficients = only_at unknown (negsuc 0) }
side_row unknown floor High = record { constant = (pos 0 -ℤ floor) -ℤ pos 1; coefficients = only_at unknown (pos 1) }

-- the row of a bound
abbrev pub bound_row : Bound → LinearRow
bound_row b = side_row b.unknown b.floor b.side

-- the rows of a schema with bounds
abbrev pub system_rows : Automaton → Pattern → ℕ → List Element → List Bound → List LinearRow
system_rows a p start past bounds = word_rows a p start past ++ map bound_row bounds

-- the sum of the coefficients times the values
unfoldable pub sum_of_products : List ℤ → List ℕ → ℤ
sum_of_products [] vs = pos 0
sum_of_products (c ∷ cs) [] = pos 0
sum_of_products (c ∷ cs) (v ∷ vs) = (c *ℤ pos v) +ℤ sum_of_products cs vs

-- a row's value where the unknowns have these values
abbrev pub row_value : List ℕ → LinearRow → ℤ
row_value vs row = row.constant +ℤ sum_of_products row.coefficients vs

-- each row is at least 0
abbrev pub AllHold : List ℕ → List LinearRow → Type 0
AllHold vs [] = Unit {0}
AllHold vs (row ∷ rows) = (pos 0 ≤ℤ row_value vs row) × AllHold vs rows

-- a solution: one natural value for each unknown, at which each row holds
pub record SolvesWord (a : Automaton) (p : Pattern) (start : ℕ) (past : List Element) (bounds : List Bound) (vs : List ℕ) : Type 0 where
  pub count : length vs ≡ length (meanings a p start past)
  pub rows_hold : AllHold vs (system_rows a p start past bounds)
