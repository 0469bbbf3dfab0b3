-- positions that are settled two by two, in the order of their sums, are a chain
--
-- Counts that are comparable two by two are sorted by the sums of their firings: then no rule has more firings in an earlier one.
-- Between neighbours of the chain no other position lies, which is what makes the firings between them possible (`link`). A rule
-- that fires there needs a rise guard: the guard's first use is not behind the beginning, for at the first use the rule had not
-- fired yet; so the guard holds there and stays true. It needs a fall guard: the guard holds at the end, and so everywhere before;
-- or its last use is behind, and it held up to there; or the last use is the one firing between these two neighbours.
use Rattle.ta_moments.proofs.Common.{◌+◌, length, ◌≡◌, ◌⊎◌, inl, inr, ℕ, ◌-◌, ◌<◌, ◌≤◌, ℤ, pos, ◌+ℤ◌, ◌*ℤ◌, ◌≤ℤ◌, List, [], ◌∷◌, slice_get, Some, arith, sym}
use Rattle.ta_moments.proofs.Common.{ap, ◌∙◌, refl, subst, ints, In, total, Automaton, Pattern, Config, Row, RowHolds, value_of, value_at, change_of}
use Rattle.ta_moments.proofs.Common.{moving_rules, Later, stays_true, cases_lt, after, InScope, Cost, Counts, NoneFewer, firings_in, most_steps, value_after}
use Rattle.ta_moments.proofs.Common.{OneFiring, Link, Chain, Picture, Rising}
use Rattle.ta_automaton.proofs.Onward.{later_after}
use Rattle.ta_automaton.proofs.Thresholds.{fall_back, falls as falls_rows}
use Rattle.ta_moments.specs.Chains.{Stands, LastUse}
use Rattle.ta_moments.specs.Chains.{ShowsPicture}
use Rattle.ta_moments.proofs.Segments.{firings, in_firings, total_firings, total_between, each_moving, sorted_is_chain, chain_runs}

-- ---- sorting by the sum
pub rising_in : (rs : List ℕ) (low : ℕ) (ws : List Counts) → Rising rs low ws → (u : Counts) → In u ws → low ≤ firings_in rs u
rising_in rs low [] h u i = absurd i
rising_in rs low (w ∷ ws) h u (inl e) = subst (λ (x : Counts). low ≤ firings_in rs x) (sym e) h.0
rising_in rs low (w ∷ ws) h u (inr i) = omega (arith, h.0, rising_in rs (firings_in rs w) ws h.1 u i)

record Inserted (rs : List ℕ) (low : ℕ) (v : Counts) (ws : List Counts) : Type 0 where
  pub result : List Counts
  pub rising : Rising rs low result
  pub has : (u : Counts) → In u (v ∷ ws) → In u result
  pub only : (u : Counts) → In u result → In u (v ∷ ws)
  pub few : most_steps rs low result ≤ most_steps rs low ws + length rs
  pub near : (u : Counts) (d : ℕ) → In u ws → firings_in rs u ≡ firings_in rs v + d → most_steps rs low result ≤ most_steps rs low ws + d

insert : (rs : List ℕ) (low : ℕ) (v : Counts) (ws : List Counts) → Rising rs low ws → low ≤ firings_in rs v → Inserted rs low v ws
insert rs low v [] h le = record { result = v ∷ []; rising = (le, tt); has = λ u i. i; only = λ u i. i; few = omega arith; near = λ u d i e. absurd i }
insert rs low v (w ∷ ws) h le = elim (cases_lt (firings_in rs w) (firings_in rs v)) [
  | inl less ↦ (
      let r = insert rs (firings_in rs w) v ws h.1 (omega arith) in
      record {
        result = w ∷ r.result;
        rising = (h.0, r.rising);
        has = λ u i. elim i [ inl e ↦ inr (r.has u (inl e)) | inr j ↦ elim j [ inl e ↦ inl e | inr k ↦ inr (r.has u (inr k)) ] ];
        only = λ u i. elim i [ inl e ↦ inr (inl e) | inr j ↦ elim (r.only u j) [ inl e ↦ inl e | inr k ↦ inr (inr k) ] ];
        few = (let more = r.few in omega (arith, more));
        near = λ u d i e. elim i [
          | inl same ↦ absurd (let f : firings_in rs u ≡ firings_in rs w = ap (firings_in rs) same in omega (arith, f, e, less))
          | inr j ↦ omega (arith, r.near u d j e)
        ];
      })
  | inr more ↦ record {
    result = v ∷ w ∷ ws;
    rising = (le, (omega arith, h.1));
    has = λ u i. i;
    only = λ u i. i;
    few = omega (arith, more, le);
    near = λ u d i e. (let up = rising_in rs (firings_in rs w) (w ∷ ws) (omega arith, h.1) u i in omega (arith, more, le, up, e));
  }
]

record Sorted (rs : List ℕ) (xs : List Counts) : Type 0 where
  pub result : List Counts
  pub rising : Rising rs 0 result
  pub has : (u : Counts) → In u xs → In u result
  pub only : (u : Counts) → In u result → In u xs
  pub cost : (n : ℕ) → Cost rs xs n → most_steps rs 0 result ≤ n

sort : (rs : List ℕ) (xs : List Counts) → Sorted rs xs
sort rs [] = record { result = []; rising = tt; has = λ u i. i; only = λ u i. i; cost = λ n c. omega arith }
sort rs (x ∷ xs) =
    let s = sort rs xs in
    let r = insert rs 0 x s.result s.rising (omega arith) in
    record {
      result = r.result;
      rising = r.rising;
      has = λ u i. elim i [ inl e ↦ r.has u (inl e) | inr j ↦ r.has u (inr (s.has u j)) ];
      only = λ u i. elim (r.only u i) [ inl e ↦ inl e | inr j ↦ inr (s.only u j) ];
      cost = λ n c.
          let rest : most_steps rs 0 s.result ≤ c.0 = s.cost c.0 c.1 in
          elim c.2 [
            | inl far ↦ (let more = r.few in omega (arith, more, rest, far))
            | inr close ↦ (
                let more = r.near close.1 close.0 (s.has close.1 close.2) close.3 in
                let end : c.0 + close.0 ≤ n = close.4 in
                omega (arith, more, rest, end))
          ];
    }

-- ---- values at counts of which none is fewer
later_value : (a : Automaton) (p : Pattern) (first : Config) (v w : Counts) → NoneFewer (moving_rules a p) v w
    → Later a (value_after a p first v) (value_after a p first w)
later_value a p first v w le =
    let n : ℕ → ℕ = λ r. w r - v r in
    let rs = moving_rules a p in
    let os = firings n rs in
    let f = value_after a p first v in
    let l = later_after a f os (each_moving a p os (λ o i. (in_firings n rs o i).0)) in
    let same : (i : ℕ) → after a f os i ≡ value_after a p first w i =
    (λ i. omega (arith, ints, total_firings (change_of a i) n rs, total_between a i v w rs le)) in
    record {
      parameters = λ i b. omega (arith, ints, same i, l.parameters i b);
      shared = λ i low high. omega (arith, ints, same i, l.shared i low high);
    }

rise_stays : (a : Automaton) (p : Pattern) (first : Config) (v w : Counts) → NoneFewer (moving_rules a p) v w → (i : ℕ) (row : Row)
    → slice_get a.rise i ≡ Some row → RowHolds (value_after a p first v) row → RowHolds (value_after a p first w) row
rise_stays a p first v w le i row at h = stays_true a (value_after a p first v) (value_after a p first w) (later_value a p first v w le) i row at h

pub fall_before : (a : Automaton) (p : Pattern) (first : Config) (v w : Counts) → NoneFewer (moving_rules a p) v w → (j : ℕ) (row : Row)
    → slice_get a.fall j ≡ Some row → RowHolds (value_after a p first w) row → RowHolds (value_after a p first v) row
fall_before a p first v w le j row at h =
    let was : pos 0 ≤ℤ value_of (value_after a p first w) row.form = h in
    omega (arith, ints, fall_back a (value_after a p first v) (value_after a p first w) (later_value a p first v w le) row.form.terms (falls_rows a j row at))

pub firings_same : (rs : List ℕ) (m n : ℕ → ℕ) → ((r : ℕ) → In r rs → m r ≡ n r) → firings_in rs m ≡ firings_in rs n
firings_same [] m n h = refl
firings_same (r ∷ rs) m n h = omega (arith, h r (inl refl), firings_same rs m n (λ q i. h q (inr i)))

total_same : (f : ℕ → ℤ) (v w : Counts) (rs : List ℕ) → NoneFewer rs v w → NoneFewer rs w v
    → total (λ r. f r *ℤ pos (v r)) rs ≡ total (λ r. f r *ℤ pos (w r)) rs
unfolding total
total_same f v w [] le more = refl
total_same f v w (r ∷ rs) le more =
    let same : v r ≡ w r = omega (arith, le r (inl refl), more r (inl refl)) in
    omega (arith, ints, ap (λ (n : ℕ). f r *ℤ pos n) same, total_same f v w rs (λ q i. le q (inr i)) (λ q i. more q (inr i)))

pub value_same : (a : Automaton) (p : Pattern) (first : Config) (v w : Counts) → NoneFewer (moving_rules a p) v w → NoneFewer (moving_rules a p) w v → (i : ℕ)
    → value_after a p first v i ≡ value_after a p first w i
value_same a p first v w le more i = ap (λ z. value_at first i +ℤ z) (total_same (change_of a i) v w (moving_rules a p) le more)

none_fewer_than : (rs : List ℕ) (u v w : Counts) → NoneFewer rs u v → NoneFewer rs v w → NoneFewer rs u w
none_fewer_than rs u v w h k r i = omega (arith, h r i, k r i)

-- ---- one link
-- one of the positions, or no firing
abbrev pub Starts : List Counts → Counts → Type 0
Starts positions v = In v positions ⊎ ((r : ℕ) → v r ≡ 0)

-- neighbours: every position is at most the one or at least the other
abbrev pub Neighbours : List ℕ → List Counts → Counts → Counts → Type 0
Neighbours rs positions v w = (u : Counts) → In u positions → NoneFewer rs u v ⊎ NoneFewer rs w u

last_use : (a : Automaton) (p : Pattern) (first : Config) (positions : List Counts) (end v w : Counts) → Starts positions v → In w positions
    → NoneFewer (moving_rules a p) w end → Neighbours (moving_rules a p) positions v w → (r : ℕ) → In r (moving_rules a p) → v r < w r
    → (j : ℕ) (row : Row) → slice_get a.fall j ≡ Some row → LastUse a p first positions end r row → RowHolds (value_after a p first w) row
    ⊎ (OneFiring a p v w × RowHolds (value_after a p first v) row)
last_use a p first positions end v w starts there within near r i less j row at lu =
    elim (lu.apart w there) [
      | inl early ↦ inl (fall_before a p first w lu.before early j row at lu.holds)
      | inr late ↦ elim (near lu.after lu.after_in) [
        | inl gone ↦ absurd (omega (arith, gone r i, within r i, lu.last))
        | inr there_too ↦ elim (near lu.before lu.before_in) [
          | inr after_w ↦ inl (fall_before a p first w lu.before after_w j row at lu.holds)
          | inl before_v ↦ (
              let low : NoneFewer (moving_rules a p) v lu.before = below_before starts in
              inr (
                firings_same (moving_rules a p) (λ q. w q - v q) (λ q. lu.after q - lu.before q)
                    (λ q k. omega (arith, low q k, before_v q k, late q k, there_too q k)) ∙ lu.one,
                fall_before a p first v lu.before low j row at lu.holds,
              ))
        ]
      ]
    ]
  where
    below_before : Starts positions v → NoneFewer (moving_rules a p) v lu.before
    below_before (inr none) = λ q k. omega (arith, none q)
    below_before (inl here) = elim (lu.apart v here) [ inl x ↦ x | inr gone ↦ absurd (omega (arith, gone r i, within r i, lu.last)) ]

link : (a : Automaton) (p : Pattern) (first : Config) (positions : List Counts) (end v w : Counts) → Picture a p first positions end → Starts positions v
    → In w positions → NoneFewer (moving_rules a p) v w → Neighbours (moving_rules a p) positions v w → Link a p first v w
link a p first positions end v w pic starts there le near = record {
  grows = le;
  rise = λ r rule i less named k row at set.
      let lu = pic.rise r rule i (omega (arith, pic.within w there r i)) named k row at set in
      elim (near lu.0 lu.1) [
        | inl early ↦ rise_stays a p first lu.0 v early k row at lu.3
        | inr late ↦ absurd (omega (arith, late r i, lu.2))
      ];
  fall = λ r rule i less named j row at set.
      elim (pic.fall r rule i (omega (arith, pic.within w there r i)) named j row at set) [
        | inl stands ↦ inl (fall_before a p first w end (pic.within w there) j row at stands)
        | inr lu ↦ last_use a p first positions end v w starts there (pic.within w there) near r i less j row at lu
      ];
  natural = pic.natural w there;
}

pub links : (a : Automaton) (p : Pattern) (first : Config) (positions : List Counts) (end : Counts) → Picture a p first positions end → (v : Counts)
    → Starts positions v → (ws : List Counts) → Rising (moving_rules a p) (firings_in (moving_rules a p) v) ws → ((u : Counts) → In u ws → In u positions)
    → ((u : Counts) → In u positions → NoneFewer (moving_rules a p) u v ⊎ In u ws) → ((u : Counts) → In u ws → NoneFewer (moving_rules a p) v u)
    → Chain a p first v ws
links a p first positions end pic v starts [] rising only rest up = tt
links a p first positions end pic v starts (w ∷ ws) rising only rest up =
    let rs = moving_rules a p in
    let there = only w (inl refl) in
    let le = up w (inl refl) in
    let higher : (u : Counts) → In u ws → NoneFewer rs w u =
    (λ u i. sorted_is_chain rs w u (pic.comparable w u there (only u (inr i))) (rising_in rs (firings_in rs w) ws rising.1 u i)) in
    let itself : (u : Counts) → u ≡ w → NoneFewer rs w u
    × NoneFewer rs u w = (λ u e. subst (λ (x : Counts). NoneFewer rs w x × NoneFewer rs x w) (sym e) ((λ r i. omega arith), (λ r i. omega arith))) in (
      link a p first positions end v w pic starts there le
          (λ u i. elim (rest u i) [ inl x ↦ inl x | inr k ↦ elim k [ inl e ↦ inr (itself u e).0 | inr m ↦ inr (higher u m) ] ]),
      links a p first positions end pic w (inl there) ws rising.1 (λ u i. only u (inr i))
          (λ u i. elim (rest u i) [ inl x ↦ inl (none_fewer_than rs u v w x le) | inr k ↦ elim k [ inl e ↦ inl (itself u e).1 | inr m ↦ inr m ] ]) higher,
    )

pub picture_runs : (a : Automaton) (p : Pattern) → InScope a → (first : Config) → Stands a p first (λ r. 0) first → (positions : List Counts) (end : Counts)
    → Picture a p first positions end → ShowsPicture a p first positions
picture_runs a p scope first s positions end pic =
    let rs = moving_rules a p in
    let t = sort rs positions in
    let zero_sum : (xs : List ℕ) → firings_in xs (λ r. 0) ≡ 0 = nothing in
    let chain = links a p first positions end pic (λ r. 0) (inr (λ r. refl)) t.result (subst (λ (n : ℕ). Rising rs n t.result) (sym (zero_sum rs)) t.rising)
    t.only (λ u i. inr (t.has u i)) (λ u i r k. omega arith) in
    let run = chain_runs a p scope first s t.result chain in
    record {
      sorted = t.result;
      each = t.has;
      none_else = t.only;
      rising = t.rising;
      run = run;
      few = λ n c.
          (let few = run.few in record { steps = few.steps; are = few.are; few = omega (arith, few.few, t.cost n c) });
    }
  where
    nothing : (xs : List ℕ) → firings_in xs (λ r. 0) ≡ 0
    nothing [] = refl
    nothing (x ∷ xs) = omega (arith, nothing xs)
