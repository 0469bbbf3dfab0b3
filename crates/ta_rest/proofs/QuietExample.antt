-- an automaton whose one rule has a guard of a silent place alone: nobody may stay at rest, and all may at quiet rest
use Rattle.ta_rest.proofs.Common.{◌≡◌, ◌≤◌, ◌≤ℤ◌, ℕ, ℤ, zero, suc, pos, [], ◌∷◌, List, length, All, IsBitSet, arith, ints, refl, sym, ap, subst, slice_get}
use Rattle.ta_rest.proofs.Common.{get_or, Some, same_Some, slice_get-get_or, bit_set, no_bit, Comparison, Condition, value_at-location, Automaton, Event}
use Rattle.ta_rest.proofs.Common.{Pattern, Rule, true, cond, eqb, eqb_tells, cond-true, cond-false, inl, inr, Config, Initial, Occurs, Row, RowHolds, Whole}
use Rattle.ta_rest.proofs.Common.{MaskedHold, value_at, ComesTo, AtRest, RestOccurs, NoneSubtracted, QuietAlone, QuietRest, MustMove, coefficient, negsuc}
use Rattle.ta_rest.proofs.Common.{number_at, fire, fire_step}
use Rattle.std.specs.Prelude.{Contains}
use Rattle.std.proofs.lemmas.List.Elements.{All-cons, All-nil}
use Rattle.ta_base.proofs.Lists.{letters_apart}
unfoldable use Rattle.ta_base.specs.Masks.{has_bit}
use Rattle.ta_linear.specs.Terms.{IsTerm}
use Rattle.ta_linear.specs.declared.form.Form.{Form}
use Rattle.ta_automaton.specs.Forms.{FormOver}
use Rattle.ta_automaton.specs.Runs.{HappensAt, HoldsAt}
use Rattle.ta_automaton.proofs.Fire.{fits_whole}
use Rattle.ta_automaton.proofs.Moves.{value_at-parameter}
use Rattle.ta_automaton.proofs.RunLaws.{parameters_stay}
use Rattle.ta_automaton.proofs.ShortNames.{letter_name}
use Rattle.ta_rest.proofs.Resting.{whole_at}

one_term : (x : ℕ) → IsTerm (x, pos 1)
one_term x = record { not_zero = λ e. absurd (omega (arith, ints)); in_range = omega arith }

-- the number of a parameter n, one less than it, and one less than the number of processes in the first location
abbrev whole : Form
whole = record { constant = pos 0; terms = (0, pos 1) ∷ []; constant_fits = omega arith; normal = (omega arith, one_term 0, omega arith) }

abbrev one_less : Form
one_less = record { constant = negsuc 0; terms = (0, pos 1) ∷ []; constant_fits = omega arith; normal = (omega arith, one_term 0, omega arith) }

abbrev in_first : Form
in_first = record { constant = negsuc 0; terms = (1, pos 1) ∷ []; constant_fits = omega arith; normal = (omega arith, one_term 1, omega arith) }

abbrev row_of : Form → Row
row_of form = record { form = form }

abbrev comparison : Form → Comparison
comparison form = record { rows = row_of form ∷ []; some = omega arith; most = omega arith }

-- a condition of one row
abbrev one_row : Form → Condition
one_row form = record { comparisons = comparison form ∷ []; limit = omega arith }

one_holds : (point : ℕ → ℤ) (form : Form) → RowHolds point (row_of form) → HoldsAt point (one_row form)
one_holds point form h = All-cons (λ (k : Comparison). All (RowHolds point) k.rows) (comparison form) []
    (All-cons (RowHolds point) (row_of form) [] h (All-nil (RowHolds point))) (All-nil (λ (k : Comparison). All (RowHolds point) k.rows))

whole_over : FormOver 1 whole
whole_over = record { below = (omega arith, one_term 0, omega arith); small = record { constant = omega arith; coefficients = (omega arith, tt) } }

less_over : FormOver 1 one_less
less_over = record { below = (omega arith, one_term 0, omega arith); small = record { constant = omega arith; coefficients = (omega arith, tt) } }

abbrev move : Rule
move = record { name = 114 ∷ []; from = 0; to = 1; rise = 1; fall = 0; updates = [] }

-- automaton f; parameters n; locations A initial, B; processes n; resilience n >= 1; rule r: A -> B when n >= 1;
abbrev guarded : Automaton
guarded = record {
  name = 102 ∷ [];
  parameters = (110 ∷ []) ∷ [];
  shared = [];
  locations = (65 ∷ []) ∷ (66 ∷ []) ∷ [];
  initial = 0 ∷ [];
  processes = whole;
  resilience = one_row one_less;
  rise = row_of one_less ∷ [];
  fall = [];
  rules = move ∷ [];
  shape = record {
    limits = record {
      parameters_limit = omega arith;
      shared_limit = omega arith;
      locations_limit = omega arith;
      rise_limit = omega arith;
      fall_limit = omega
          arith;
      rules_limit = omega arith;
    };
    name_legal = letter_name 102 refl;
    names_legal = (letter_name 110 refl, (letter_name 65 refl, (letter_name 66 refl, tt)));
    names_distinct = ((letters_apart 110 65 refl, (letters_apart 110 66 refl, tt)), ((letters_apart 65 66 refl, tt), (tt, tt)));
    some_initial = omega arith;
    initial_rises = (omega arith, omega arith, tt);
    processes_over = whole_over;
    resilience_over = ((less_over, tt), tt);
    rise_rows = (record { over = less_over; rises = (λ le. omega (arith, ints), tt) }, tt);
    rise_distinct = (tt, tt);
    fall_rows = tt;
    fall_distinct = tt;
    rules_within = (
      record {
        name = letter_name 114 refl;
        from = omega arith;
        to = omega arith;
        rise_mask = omega arith;
        fall_mask = omega arith;
        updates_limit
            = omega arith;
        updates = tt;
        variables_distinct = tt;
      },
      tt,
    );
    rules_distinct = (tt, tt);
  };
}

abbrev stays : Event
stays = record { name = 101 ∷ []; after = 0; condition = one_row in_first }

-- pattern p { event e: A >= 1; }
abbrev left_behind : Pattern
left_behind = record { name = 112 ∷ []; start = record { comparisons = []; limit = omega arith }; empty = 0; events = stays ∷ [] }

-- one process in A
abbrev at_first : Config
at_first = record { parameters = 1 ∷ []; shared = []; counters = 1 ∷ 0 ∷ [] }

starts : Initial guarded at_first
starts = record {
  admissible = record { count = refl; resilience = one_holds (number_at (1 ∷ [])) one_less (omega (arith, ints)) };
  shared_count = refl;
  locations_count = refl;
  others_empty = others;
  processes = refl;
  shared_zero = λ x. refl;
} where
  others : (l : ℕ) → ¬ Contains guarded.initial l → get_or at_first.counters l 0 ≡ 0
  others zero h = absurd (h (0, omega arith, refl))
  others (suc zero) h = refl
  others (suc (suc l)) h = refl

occurs : Occurs guarded left_behind at_first []
occurs = record {
  later = [];
  run = record { initial = starts; steps = tt };
  start = All-nil (λ (k : Comparison). All (RowHolds (value_at at_first)) k.rows);
  kept_empty = λ l b. absurd (no_bit l b);
  positions = 0 ∷ [];
  each_has_one = refl;
  happens = happens;
  in_order = λ e f event at b. order e f event at b;
} where
  happens : (e : ℕ) (event : Event) (k : ℕ) → slice_get left_behind.events e ≡ Some event → slice_get (0 ∷ []) e ≡ Some k → HappensAt at_first [] event k
  happens zero event k named at =
      let same : stays ≡ event = same_Some stays event named in
      let one : 0 ≡ k = same_Some 0 k at in
      subst (λ (w : Event). HappensAt at_first [] w k) same
      (subst (λ (n : ℕ). HappensAt at_first [] stays n) one (at_first, refl, one_holds (value_at at_first) in_first (omega (arith, ints))))
  happens (suc e) event k named at = absurd (cc)

  order : (e f : ℕ) (event : Event) → slice_get left_behind.events e ≡ Some event → IsBitSet event.after f → get_or (0 ∷ []) f 0 ≤ get_or (0 ∷ []) e 0
  order zero f event named b = absurd (let same : 0 ≡ event.after = cc in no_bit f (subst (λ (n : ℕ). IsBitSet n f) (sym same) b))
  order (suc e) f event named b = absurd (cc)

-- without n the guard fails
first_bit : has_bit 1 0 ≡ true
unfolding has_bit
first_bit = refl

quiet_start : QuietRest guarded (0 ∷ []) at_first
quiet_start zero rule named must =
    let same : move ≡ rule = same_Some move rule named in
    let mine : MustMove guarded (0 ∷ []) move at_first = subst (λ (q : Rule). MustMove guarded (0 ∷ []) q at_first) (sym same) must in
    let holds = mine.rise 0 (row_of one_less) refl (bit_set 1 0 first_bit) in
    absurd (omega (arith, ints, holds))
quiet_start (suc r) rule named must = absurd (cc)

comes : ComesTo (QuietRest guarded (0 ∷ [])) guarded left_behind at_first []
unfolding occurs
comes = record {
  occurs = occurs;
  at_end = λ last is. ends last;
  rests = λ c at. subst (QuietRest guarded (0 ∷ [])) (same_Some at_first c at) quiet_start;
} where
  ends : (last : ℕ) → get_or {A = ℕ} (0 ∷ []) last 0 ≡ 0
  ends zero = refl
  ends (suc last) = refl

risen : (c : Config) → RowHolds (value_at c) (row_of one_less) → (i : ℕ) (row : Row) → slice_get guarded.rise i ≡ Some row → RowHolds (value_at c) row
risen c guard zero row at = subst (RowHolds (value_at c)) (same_Some (row_of one_less) row at) guard
risen c guard (suc i) row at = absurd (cc)

-- whoever is in A can move on
nobody_rests : (first : Config) (rules : List ℕ) → RestOccurs guarded left_behind first rules → ⊥
nobody_rests first rules o =
    let was = o.occurs in
    let place = slice_get-get_or was.positions 0 0 (let count = was.each_has_one in omega arith) in
    let h = was.happens 0 stays (get_or was.positions 0 0) refl place in
    let c = h.0 in
    let end : get_or was.positions 0 0 ≡ length rules = o.at_end 0 refl in
    let at : slice_get (first ∷ was.later) (length rules) ≡ Some c = subst (λ k. slice_get (first ∷ was.later) k ≡ Some c) end h.1 in
    let begin : Whole guarded first = record
    { parameters = was.run.initial.admissible.count; shared = was.run.initial.shared_count; counters = was.run.initial.locations_count } in
    let w : Whole guarded c = whole_at guarded first rules was.later begin was.run.steps (length rules) c at in
    let same = parameters_stay guarded first rules was.later was.run (length rules) c at in
    moves_on c first w same (h.2 0 (comparison in_first) (omega arith) 0 (row_of in_first) (omega arith))
    (was.run.initial.admissible.resilience 0 (comparison one_less) (omega arith) 0 (row_of one_less) (omega arith)) (o.rests c at)
  where
    moves_on : (c first : Config) → Whole guarded c → c.parameters ≡ first.parameters → RowHolds (value_at c) (row_of in_first)
        → RowHolds (number_at first.parameters) (row_of one_less) → AtRest guarded c → ⊥
    moves_on c first w same someone enough rests =
        let fits = fits_whole guarded c w in
        let here = value_at-location guarded c 0 fits in
        let n = value_at-parameter guarded c 0 fits (omega arith) in
        let kept : number_at c.parameters 0 ≡ number_at first.parameters 0 = ap (λ (ps : List ℕ). number_at ps 0) same in
        let some : 1 ≤ get_or c.counters 0 0 = omega (arith, ints, here, someone) in
        let guard : RowHolds (value_at c) (row_of one_less) = omega (arith, ints, n, kept, enough) in
        let rise : MaskedHold 1 guarded.rise c = (λ i row at bit. risen c guard i row at) in
        let fall : MaskedHold 0 guarded.fall c = (λ i row at bit. absurd (no_bit i bit)) in
        let step = fire_step guarded 0 move c refl w rise fall some in
        let is : step.rule ≡ move = same_Some step.rule move (sym step.named) in
        let loop : 0 ≡ 1 = subst (λ (q : Rule). q.from ≡ q.to) is (rests 0 (fire guarded move c) step) in
        absurd (omega (arith, loop))

added : NoneSubtracted (0 ∷ []) guarded.rise
added zero row at name among = subst (λ (q : Row). pos 0 ≤ℤ coefficient q.form.terms name) (same_Some (row_of one_less) row at) (elim (eqb_tells 0 name) [
  | inl e ↦ (let one : cond (eqb 0 name) (pos 1) (pos 0) ≡ pos 1 = cond-true (eqb 0 name) (pos 1) (pos 0) e.0 in omega (arith, ints, one))
  | inr e ↦ (let none : cond (eqb 0 name) (pos 1) (pos 0) ≡ pos 0 = cond-false (eqb 0 name) (pos 1) (pos 0) e.0 in omega (arith, ints, none))
])
added (suc i) row at name among = absurd (cc)

pub quiet_alone : QuietAlone
quiet_alone = record {
  automaton = guarded;
  silent = 0 ∷ [];
  pattern = left_behind;
  rise = added;
  fall = λ i row at name among. absurd (cc);
  safe = nobody_rests;
  not_quiet = λ safe. safe at_first [] comes;
}
