-- a file with one rule from A to B, whose pattern, that some process is in B, occurs
use Rattle.ta_automaton.proofs.Common.{◌≡◌, ℕ, zero, suc, ◌+◌, ℤ, pos, negsuc, [], ◌∷◌, eqb, cond, arith, refl, sym, subst, ◌≤◌, slice_get, get_or, Some, All}
use Rattle.ta_automaton.proofs.Common.{Contains, IsBitSet, ints, nat_tests, no_bit, letters_apart, IsTerm, RowHolds, Form, Row, Comparison, Condition, Rule}
use Rattle.ta_automaton.proofs.Common.{Automaton, Event, Pattern, FormOver, Config, Initial, Move, Occurs, HoldsAt, HappensAt, number_at, value_at, SomeUnsafe}
use Rattle.ta_automaton.proofs.Common.{All-cons, All-nil}
use Rattle.ta_automaton.proofs.ShortNames.{letter_name}

one_term : (x : ℕ) → IsTerm (x, pos 1)
one_term x = record { not_zero = λ e. absurd (omega (arith, ints)); in_range = omega arith }

-- the number of a parameter n, and one less than it
abbrev whole : Form
whole = record { constant = pos 0; terms = (0, pos 1) ∷ []; constant_fits = omega arith; normal = (omega arith, one_term 0, omega arith) }

abbrev one_less : Form
one_less = record { constant = negsuc 0; terms = (0, pos 1) ∷ []; constant_fits = omega arith; normal = (omega arith, one_term 0, omega arith) }

-- one less than the number of processes in the second location
abbrev second : Form
second = record { constant = negsuc 0; terms = (2, pos 1) ∷ []; constant_fits = omega arith; normal = (omega arith, one_term 2, omega arith) }

-- a condition of one row
abbrev one_row : Form → Condition
one_row form = record { comparisons = record { rows = record { form = form } ∷ []; some = omega arith; most = omega arith } ∷ []; limit = omega arith }

whole_over : FormOver 1 whole
whole_over = record { below = (omega arith, one_term 0, omega arith); small = record { constant = omega arith; coefficients = (omega arith, tt) } }

less_over : FormOver 1 one_less
less_over = record { below = (omega arith, one_term 0, omega arith); small = record { constant = omega arith; coefficients = (omega arith, tt) } }

abbrev move : Rule
move = record { name = 114 ∷ []; from = 0; to = 1; rise = 0; fall = 0; updates = [] }

-- automaton f; parameters n; shared; locations A initial, B; processes n; resilience n >= 1; rule r: A -> B;
abbrev first : Automaton
first = record {
  name = 102 ∷ [];
  parameters = (110 ∷ []) ∷ [];
  shared = [];
  locations = (65 ∷ []) ∷ (66 ∷ []) ∷ [];
  initial = 0 ∷ [];
  processes = whole;
  resilience = one_row one_less;
  rise = [];
  fall = [];
  rules = move ∷ [];
  shape = record {
    limits = record {
      parameters_limit = omega arith;
      shared_limit = omega arith;
      locations_limit = omega arith;
      rise_limit = omega arith;
      fall_limit = omega
          arith;
      rules_limit = omega arith;
    };
    name_legal = letter_name 102 refl;
    names_legal = (letter_name 110 refl, (letter_name 65 refl, (letter_name 66 refl, tt)));
    names_distinct = ((letters_apart 110 65 refl, (letters_apart 110 66 refl, tt)), ((letters_apart 65 66 refl, tt), (tt, tt)));
    some_initial = omega arith;
    initial_rises = (omega arith, omega arith, tt);
    processes_over = whole_over;
    resilience_over = ((less_over, tt), tt);
    rise_rows = tt;
    rise_distinct = tt;
    fall_rows = tt;
    fall_distinct = tt;
    rules_within = (
      record {
        name = letter_name 114 refl;
        from = omega arith;
        to = omega arith;
        rise_mask = omega arith;
        fall_mask = omega arith;
        updates_limit
            = omega arith;
        updates = tt;
        variables_distinct = tt;
      },
      tt,
    );
    rules_distinct = (tt, tt);
  };
}

-- pattern p { event e: B >= 1; }
abbrev reached : Pattern
reached = record {
  name = 112 ∷ [];
  start = record { comparisons = []; limit = omega arith };
  empty = 0;
  events = record
      { name = 101 ∷ []; after = 0; condition = one_row second } ∷ [];
}

-- one process in A, then in B
abbrev at_first : Config
at_first = record { parameters = 1 ∷ []; shared = []; counters = 1 ∷ 0 ∷ [] }

abbrev at_last : Config
at_last = record { parameters = 1 ∷ []; shared = []; counters = 0 ∷ 1 ∷ [] }

abbrev row_of : Form → Row
row_of form = record { form = form }

abbrev comparison : Form → Comparison
comparison form = record { rows = row_of form ∷ []; some = omega arith; most = omega arith }

one_holds : (point : ℕ → ℤ) (form : Form) → RowHolds point (row_of form) → HoldsAt point (one_row form)
one_holds point form h = All-cons (λ (k : Comparison). All (RowHolds point) k.rows) (comparison form) []
    (All-cons (RowHolds point) (row_of form) [] h (All-nil (RowHolds point))) (All-nil (λ (k : Comparison). All (RowHolds point) k.rows))

starts : Initial first at_first
starts = record {
  admissible = record { count = refl; resilience = one_holds (number_at (1 ∷ [])) one_less (omega (arith, ints)) };
  shared_count = refl;
  locations_count = refl;
  others_empty = others;
  processes = refl;
  shared_zero = λ x. refl;
} where
  others : (l : ℕ) → ¬ Contains first.initial l → get_or at_first.counters l 0 ≡ 0
  others zero h = absurd (h (0, omega arith, refl))
  others (suc zero) h = refl
  others (suc (suc l)) h = refl

moves : Move first move at_first at_last
moves = record {
  rise = λ i row e b. absurd (no_bit i b);
  fall = λ i row e b. absurd (no_bit i b);
  some = omega arith;
  moved = goes;
  counters_count = refl;
  added = λ x. refl;
  shared_count = refl;
  parameters = refl;
} where
  goes : (l : ℕ) → get_or at_last.counters l 0 + cond (eqb l 0) 1 0 ≡ get_or at_first.counters l 0 + cond (eqb l 1) 1 0
  goes zero = refl
  goes (suc zero) = refl
  goes (suc (suc l)) = grind (arith, nat_tests)

occurs : Occurs first reached at_first (0 ∷ [])
occurs = record {
  later = at_last ∷ [];
  run = record { initial = starts; steps = (record { rule = move; named = refl; move = moves }, tt) };
  start = All-nil (λ (k : Comparison). All (RowHolds (value_at at_first)) k.rows);
  kept_empty = λ l b. absurd (no_bit l b);
  positions = 1 ∷ [];
  each_has_one = refl;
  happens = happens;
  in_order = λ e f event at b. order e f event at b;
} where
  happens : (e : ℕ) (event : Event) (k : ℕ) → slice_get reached.events e ≡ Some event → slice_get (1 ∷ []) e ≡ Some k
      → HappensAt at_first (at_last ∷ []) event k
  happens zero event k named at =
      let same : record { name = 101 ∷ []; after = 0; condition = one_row second } ≡ event = cc in
      let one : 1 ≡ k = cc in
      subst (λ (w : Event). HappensAt at_first (at_last ∷ []) w k) same
      (subst (λ (n : ℕ). HappensAt at_first (at_last ∷ []) (record { name = 101 ∷ []; after = 0; condition = one_row second }) n) one
      (at_last, refl, one_holds (value_at at_last) second (omega (arith, ints))))
  happens (suc e) event k named at = absurd (cc)

  order : (e f : ℕ) (event : Event) → slice_get reached.events e ≡ Some event → IsBitSet event.after f → get_or (1 ∷ []) f 0 ≤ get_or (1 ∷ []) e 0
  order zero f event named b = absurd (let same : 0 ≡ event.after = cc in no_bit f (subst (λ (n : ℕ). IsBitSet n f) (sym same) b))
  order (suc e) f event named b = absurd (cc)

-- some pattern isn't safe
pub first_unsafe : SomeUnsafe
first_unsafe = (first, reached, λ safe. safe at_first (0 ∷ []) occurs)
