-- where the events of a picture happen in its run: an event stands at the first position whose sum is no less than its own
use Rattle.ta_moments.proofs.Common.{◌≡◌, inl, inr, ℕ, ◌<◌, ◌≤◌, ℤ, pos, ◌≤ℤ◌, List, [], ◌∷◌, map, length, get_or, slice_get-get_or, slice_get_within}
use Rattle.ta_moments.proofs.Common.{slice_get, same_Some, Some, Bool, true, false, cond, cases_Bool, cases_lt, arith, sym, ap, ◌∙◌, refl, subst, ints, All, In}
use Rattle.ta_moments.proofs.Common.{bit_true, range_with_len, length-map, length-range_with_len, terms_value-same, Automaton, Pattern, Comparison, Config, Row}
use Rattle.ta_moments.proofs.Common.{RowHolds, value_of, value_at, At, Holds, Initial, moving_rules, nat_lt, get_or_past, InScope, Counts, firings_in}
use Rattle.ta_moments.proofs.Common.{value_after, ComesThrough, Picture, Rising, HappensIn}
use Rattle.ta_base.proofs.Naturals.{below_by, beyond_by}
use Rattle.ta_base.proofs.Ranges.{at_index}
use Rattle.ta_moments.specs.Chains.{Stands, ShowsEvents}
use Rattle.ta_moments.proofs.Segments.{sum_grows, sorted_is_chain}
use Rattle.ta_moments.proofs.Pictures.{rising_in, picture_runs, value_same}

abbrev pub position : (a : Automaton) (p : Pattern) (first : Config) (later : List Config) (least : ℕ) (ws : List Counts)
    → ComesThrough a p first later least ws → ℕ → ℕ
position a p first later least [] t n = least
position a p first later least (w ∷ ws) t n = cond (nat_lt (firings_in (moving_rules a p) w) n) (position a p first later t.0 ws t.3 n) t.0

one_of : (least x y : ℕ) (b : Bool) → least ≤ x → least ≤ y → least ≤ cond b x y
one_of least x y true le more = le
one_of least x y false le more = more

position_least : (a : Automaton) (p : Pattern) (first : Config) (later : List Config) (least : ℕ) (ws : List Counts) (t : ComesThrough a p first later least ws)
    (n : ℕ) → least ≤ position a p first later least ws t n
position_least a p first later least [] t n = omega arith
position_least a p first later least (w ∷ ws) t n =
    let le : least ≤ t.0 = t.1 in
    let x = position a p first later t.0 ws t.3 n in
    let rest : t.0 ≤ x = position_least a p first later t.0 ws t.3 n in
    one_of least x t.0 (nat_lt (firings_in (moving_rules a p) w) n) (omega (arith, le, rest)) le

position_grows : (a : Automaton) (p : Pattern) (first : Config) (later : List Config) (least : ℕ) (ws : List Counts) (t : ComesThrough a p first later least ws)
    (n m : ℕ) → n ≤ m → position a p first later least ws t n ≤ position a p first later least ws t m
position_grows a p first later least [] t n m le = omega arith
position_grows a p first later least (w ∷ ws) t n m le =
    let s = firings_in (moving_rules a p) w in
    let x = position a p first later t.0 ws t.3 n in
    let y = position a p first later t.0 ws t.3 m in
    elim (cases_Bool (nat_lt s n)) [
      | inl less ↦ elim (cases_Bool (nat_lt s m)) [
        | inl e ↦ (
            let one : cond (nat_lt s n) x t.0 ≡ x = ap (λ b. cond b x t.0) less in
            let two : cond (nat_lt s m) y t.0 ≡ y = ap (λ b. cond b y t.0) e in
            subst (λ (k : ℕ). k ≤ cond (nat_lt s m) y t.0) (sym one) (subst (λ (k : ℕ). x ≤ k) (sym two) (position_grows a p first later t.0 ws t.3 n m le)))
        | inr e ↦ (
            let low = below_by s n (nat_lt s n) refl less in
            let high = beyond_by s m (nat_lt s m) refl e in
            absurd (omega (arith, low, high, le)))
      ]
      | inr more ↦ (
          let one : cond (nat_lt s n) x t.0 ≡ t.0 = ap (λ b. cond b x t.0) more in
          subst (λ (k : ℕ). k ≤ cond (nat_lt s m) y t.0) (sym one) (one_of t.0 y t.0 (nat_lt s m) (position_least a p first later t.0 ws t.3 m) (omega arith)))
    ]

pub record Found (a : Automaton) (p : Pattern) (first : Config) (later : List Config) (ws : List Counts) (n k : ℕ) : Type 0 where
  pub counts : Counts
  pub among : In counts ws
  pub sum : firings_in (moving_rules a p) counts ≡ n
  pub config : Config
  pub there : At first later k config
  pub stands : Stands a p first counts config

found : (a : Automaton) (p : Pattern) (first : Config) (later : List Config) (least low : ℕ) (ws : List Counts) (t : ComesThrough a p first later least ws)
    → Rising (moving_rules a p) low ws → (v : Counts) → In v ws
    → Found a p first later ws (firings_in (moving_rules a p) v) (position a p first later least ws t (firings_in (moving_rules a p) v))
found a p first later least low [] t rising v i = absurd i
found a p first later least low (w ∷ ws) t rising v i =
    let rs = moving_rules a p in
    let s = firings_in rs w in
    let n = firings_in rs v in
    let x = position a p first later t.0 ws t.3 n in
    elim (cases_Bool (nat_lt s n)) [
      | inl less ↦ (
          let low = below_by s n (nat_lt s n) refl less in
          let one : cond (nat_lt s n) x t.0 ≡ x = ap (λ b. cond b x t.0) less in
          elim i [
            | inl e ↦ absurd (let same : n ≡ s = ap (firings_in rs) e in omega (arith, low, same))
            | inr j ↦ (
                let f = found a p first later t.0 s ws t.3 rising.1 v j in
                record {
                  counts = f.counts;
                  among = inr f.among;
                  sum = f.sum;
                  config = f.config;
                  there = subst (λ (k : ℕ). At first later k f.config) (sym one)
                      f.there;
                  stands = f.stands;
                })
          ])
      | inr more ↦ (
          let high = beyond_by s n (nat_lt s n) refl more in
          let one : cond (nat_lt s n) x t.0 ≡ t.0 = ap (λ b. cond b x t.0) more in
          let up : s ≤ n = elim i [ inl e ↦ (let same : n ≡ s = ap (firings_in rs) e in omega (arith, same)) | inr j ↦ rising_in rs s ws rising.1 v j ] in
          record {
            counts = w;
            among = inl refl;
            sum = omega (arith, up, high);
            config = t.2.0;
            there = subst (λ (k : ℕ). At first later k t.2.0) (sym one)
                t.2.1;
            stands = t.2.2;
          })
    ]

rows_same : (f g : ℕ → ℤ) → ((i : ℕ) → f i ≡ g i) → (rows : List Row) → All (RowHolds f) rows → All (RowHolds g) rows
rows_same f g h rows all k d b = let was : pos 0 ≤ℤ value_of f (get_or rows k d).form = all k d b in omega
    (arith, ints, was, terms_value-same (get_or rows k d).form.terms f g h)

pub comparisons_same : (f g : ℕ → ℤ) → ((i : ℕ) → f i ≡ g i) → (ks : List Comparison) → All (λ (k : Comparison). All (RowHolds f) k.rows) ks
    → All (λ (k : Comparison). All (RowHolds g) k.rows) ks
comparisons_same f g h ks all j d b = rows_same f g h (get_or ks j d).rows (all j d b)

pub patterns_shown : (a : Automaton) (p : Pattern) → InScope a → (first : Config) → Initial a first → Holds p.start first → Stands a p first (λ r. 0) first
    → (positions : List Counts) (end : Counts) → Picture a p first positions end → (happens : ℕ → Counts) → HappensIn a p first positions happens
    → ShowsEvents a p first positions happens
patterns_shown a p scope first initial start s positions end pic happens h =
    let rs = moving_rules a p in
    let w = picture_runs a p scope first s positions end pic in
    let t = w.run.through in
    let n = length p.events in
    let sum : ℕ → ℕ = λ e. firings_in rs (happens e) in
    let place : ℕ → ℕ = λ e. position a p first w.run.later 0 w.sorted t (sum e) in
    let places = map place (range_with_len 0 n) in
    let many : length places ≡ n = length-map (range_with_len 0 n) place ∙ length-range_with_len 0 n in
    let where_event : (e : ℕ) → e < n → (k : ℕ) → slice_get places e ≡ Some k → (c : Config) × At first w.run.later k c
    × ((i : ℕ) → value_at c i ≡ value_after a p first (happens e) i) = (λ e b k here.
    let mine = h.among e b in
    let f = found a p first w.run.later 0 0 w.sorted t w.rising (happens e) (w.each (happens e) mine) in
    let inside : e < length places = omega (arith, many, b) in
    let spot : Some k ≡ Some (place e) = sym here ∙ slice_get-get_or places e 0 inside ∙ ap Some (at_index place n e b) in
    let same : k ≡ place e = cc in
    let other = w.none_else f.counts f.among in
    let less = sorted_is_chain rs (happens e) f.counts (pic.comparable (happens e) f.counts mine other) (omega (arith, f.sum)) in
    let more = sorted_is_chain rs f.counts (happens e) (pic.comparable f.counts (happens e) other mine) (omega (arith, f.sum)) in (
      f.config,
      subst (λ (x : ℕ). At first w.run.later x f.config) (sym same) f.there,
      λ i. f.stands.values i
          ∙ sym (value_same a p first (happens e) f.counts less more i),
    )) in
    record {
      rules = w.run.rules;
      few = w.few;
      occurs = record {
        later = w.run.later;
        run = record { initial = initial; steps = w.run.steps };
        start = start;
        kept_empty = λ l set k d b. w.run.kept_empty k (get_or (first ∷ w.run.later) k d) (slice_get-get_or (first ∷ w.run.later) k d b) l
            (bit_true p.empty l set);
        positions = places;
        each_has_one = many;
        happens = λ e event k at here.
            let w = where_event e (slice_get_within p.events e event at) k here in
            (w.0, w.1, comparisons_same (value_after a p first (happens e)) (value_at w.0) (λ i. sym (w.2 i)) event.condition.comparisons (h.holds e event at));
        in_order = λ e f event at set.
            let b : e < n = slice_get_within p.events e event at in
            elim (cases_lt f n) [
              | inl c ↦ (
                  let up = position_grows a p first w.run.later 0 w.sorted t (sum f) (sum e)
                  (sum_grows rs (happens f) (happens e) (h.in_order e f event at c set)) in
                  omega (arith, at_index place n e b, at_index place n f c, up))
              | inr c ↦ (let none : get_or places f 0 ≡ 0 = get_or_past places f 0 (omega (arith, many, c)) in omega (arith, none))
            ];
      };
      stands = λ e k c b here there i.
          let w = where_event e b k here in
          let same : w.0 ≡ c = same_Some w.0 c (sym w.1 ∙ there) in
          subst (λ (x : Config). value_at x i ≡ value_after a p first (happens e) i) same (w.2 i);
    }
