-- the unknowns' rows where a run begins, and those of a longer system
use Rattle.ta_simplex.proofs.Common.{◌≡◌, inl, inr, ℕ, zero, suc, ◌+◌, ◌-◌, ◌^◌, ◌<◌, ◌≤◌, List, [], ◌++◌, length, map, get_or, drop, arith, refl, sym, ap, ◌∙◌}
use Rattle.ta_simplex.proofs.Common.{subst, ℤ, pos, replicate, range_with_len, cases_lt, cases_eq, length-map, length-append, length-range_with_len, get_or-map}
use Rattle.ta_simplex.proofs.Common.{get_or_append_left, get_or-append_right, System, Row, Tableau, TableauRow, no_row, row_of, basic_of, non_basic_of}
use Rattle.ta_simplex.proofs.Common.{slack_tableau, variables, IsAssignment, DictionaryOf, KeptPivot, kept_at, chosen_row, carried, StayInRange, RowsMergeBelow}
use Rattle.ta_simplex.proofs.Common.{raised, widened, extended, MakesPivot, BeginsSystem, Follows, tableau_after, unsigned_abs, IsBound, unique_row, unit_row}
use Rattle.ta_simplex.proofs.Common.{RevisedLaws, AreModestRows, IsModest, IsModestRow, grown, IsRevised, IsUnderWay, RunsModestly}
use Rattle.std.proofs.lemmas.List.Elements.{All-append, All-replicate}
use Rattle.std.proofs.lemmas.List.FromFn.{get_or-range_with_len, get_or-map-range_with_len}
use Rattle.ta_revised.specs.Bounds.{AreBounded}
use Rattle.ta_dense.specs.Inside.Padded.{zero_filled}
use Rattle.ta_dense.specs.Valid.{IsDictionaryRow}
use Rattle.ta_revised.specs.Revised.{first_rows, unit_rows}
use Rattle.ta_revised.proofs.UnitRow.{unit_filled, length_unit_rows}
use Rattle.ta_simplex.proofs.RunLemmas.{reached_dictionary}
use Rattle.ta_simplex.proofs.RunSteps.{follows_dictionary}
use Rattle.ta_simplex.proofs.FollowLemmas.{follows_none, follows_reached}
use Rattle.ta_simplex.proofs.Extended.{with_more, OfSize, AreNewRows, raised_at, old_column, old_row, new_row, row_total}
use Rattle.ta_simplex.proofs.Prefixes.{reached_after, size_reached, counts_reached, added, added_rows, after_more, made_more, new_carried, new_rows_are}
use Rattle.ta_simplex.proofs.Prefixes.{extended_is}
use Rattle.ta_simplex.proofs.Prefixes.{follows_extended}

-- where every slack is basic
pub under_way_first : RevisedLaws → (s : System) → AreModestRows s.rows → IsUnderWay s (first_rows s.unknowns)
under_way_first laws s modest = record {
  modest = modest;
  tableau = slack_tableau s;
  runs = record { pivots = []; follows = follows_none (slack_tableau s) (slack_tableau s) [] refl; modest = λ j h. absurd (omega arith) };
  revised = laws.slacks s;
}

-- the sizes of a tableau that a run reached
run_size : (s : System) (t : Tableau) → RunsModestly s t → OfSize s.unknowns (length s.rows) t
run_size s t r = size_reached s (length r.pivots) t (follows_reached (slack_tableau s) r.pivots (length r.pivots) t r.follows)

-- what the rows of a longer system ask
pub record MayGrow (d : Tableau) (unknowns : ℕ) : Type 0 where
  pub more : length d.non_basic ≤ unknowns
  pub count : length d.rows ≡ length d.non_basic
  pub room : (j : ℕ) → j < length d.non_basic → get_or d.non_basic j 0 + (unknowns - length d.non_basic) < 2 ^ 32

pub may_grow : (s l : System) (d : Tableau) → BeginsSystem s l → IsUnderWay s d → variables l < 2 ^ 32 → MayGrow d l.unknowns
may_grow s l d b w room =
    let size = run_size s w.tableau w.runs in
    let same = w.revised.non_basic in
    let columns : length d.non_basic ≡ s.unknowns = ap (λ (us : List ℕ). length us) same ∙ size.columns in
    let all = ap (λ (rs : List Row). length rs) b.rows ∙ length-append s.rows (drop (length s.rows) l.rows) in
    let more = b.unknowns in
    record {
      more = omega arith;
      count = w.revised.count ∙ sym columns;
      room = λ j h.
          let below = size.non_basic_below j (subst (λ (us : List ℕ). j < length us) same h) in
          let at : get_or d.non_basic j 0 ≡ get_or w.tableau.non_basic j 0 = ap (λ (us : List ℕ). get_or us j 0) same in
          omega arith;
    }

-- zeros behind the cells
bounded_more : (b e : ℕ) (xs : List ℤ) → AreBounded b xs → AreBounded b (xs ++ replicate e (pos 0))
bounded_more b e xs a = All-append (λ (z : ℤ). unsigned_abs z ≤ b) xs (replicate e (pos 0)) a
    (All-replicate (λ (z : ℤ). unsigned_abs z ≤ b) e (pos 0) (omega arith))

bound_widened : (b n e : ℕ) (r : TableauRow) → IsBound b r → IsBound b (widened n e r)
bound_widened b n e r a = record { denominator = a.denominator; constant = a.constant; cells = bounded_more b e r.cells a.cells }

-- a basic unknown of the tableau with more is one of the tableau
record IsOld (n e : ℕ) (t : Tableau) (rows : List TableauRow) (i : ℕ) : Type 0 where
  pub below : i < length t.rows
  pub unknown : basic_of t i < n
  pub is : row_of (with_more n e t rows) i ≡ widened n e (row_of t i)

is_old : (n e : ℕ) (t : Tableau) (rows : List TableauRow) (i : ℕ) → AreNewRows (n + e) rows → i < length (with_more n e t rows).rows
    → basic_of (with_more n e t rows) i < n + e → IsOld n e t rows i
is_old n e t rows i new h below =
    let total = row_total n e t rows in
    elim (cases_lt i (length t.rows)) [
      | inl before ↦
          let is = old_row n e t rows i before in
          let named : basic_of (with_more n e t rows) i ≡ raised n e (basic_of t i) = ap (λ (r : TableauRow). r.basic) is in
          record {
            below = before;
            unknown = elim (raised_at n e (basic_of t i)) [ inl x ↦ x.0 | inr x ↦ (let p = x.0 in let q = x.1 in absurd (omega arith)) ];
            is = is;
          }
      | inr behind ↦
          let named : basic_of (with_more n e t rows) i ≡ (get_or rows (i - length t.rows) no_row).basic = ap (λ (r : TableauRow). r.basic)
          (new_row n e t rows i behind) in
          let low = new (i - length t.rows) (omega arith) in
          absurd (omega arith)
    ]

modest_more : (n e : ℕ) (t : Tableau) (rows : List TableauRow) → AreNewRows (n + e) rows → IsModest n t → IsModest (n + e) (with_more n e t rows)
modest_more n e t rows new m = record {
  scale = m.scale;
  positive = m.positive;
  few = m.few;
  multiple = λ i h below. (let o = is_old n e t rows i new h below in rw o.is (m.multiple i o.below o.unknown));
  small = λ i h below. (let o = is_old n e t rows i new h below in
      subst (IsBound (2 ^ 31)) (sym o.is) (bound_widened (2 ^ 31) n e (row_of t i) (m.small i o.below o.unknown)));
}

bounded_front : (b : ℕ) (xs ys : List ℤ) → AreBounded b (xs ++ ys) → AreBounded b xs
bounded_front b xs ys a i d h =
    let long = length-append xs ys in
    subst (λ (z : ℤ). unsigned_abs z ≤ b) (get_or_append_left xs ys d i h) (a i d (omega arith))

-- the chosen row of a kept pivot is bounded as the row that it was
chosen_bounded : (b n columns : ℕ) (t : Tableau) (k : KeptPivot) → MakesPivot t k → IsBound b (row_of t k.row) → IsBound b (chosen_row columns k)
chosen_bounded b n columns t k makes a = record {
  denominator = subst (λ (z : ℤ). unsigned_abs z ≤ b) makes.denominator a.denominator;
  constant = subst (λ (z : ℤ). unsigned_abs z ≤ b) makes.constant a.constant;
  cells = bounded_more b (columns - length k.cells) k.cells (bounded_front b k.cells (replicate (length t.non_basic - length k.cells) (pos 0))
      (subst (AreBounded b) makes.cells a.cells));
}

module _ (laws : RevisedLaws) (s l : System) (b : BeginsSystem s l) (ks : List KeptPivot) (t : Tableau) (f : Follows (slack_tableau s) ks (length ks) t)
    (modest : (j : ℕ) → j < length ks → IsModest s.unknowns (tableau_after (slack_tableau s) ks j)) (old : AreModestRows s.rows) (all : AreModestRows l.rows)
  where
    abbrev Old : ℕ → Tableau
    Old j = tableau_after (slack_tableau s) ks j

    abbrev New : ℕ → Tableau
    New j = tableau_after (slack_tableau l) ks j

    abbrev Rows : ℕ → List TableauRow
    Rows j = carried l.unknowns ks j (added_rows s l)

    new_is : (j : ℕ) → j ≤ length ks → New j ≡ with_more s.unknowns (added s l) (Old j) (Rows j)
    new_is j h = after_more s l b ks (length ks) f.made j h

    modest_new : (j : ℕ) → j < length ks → IsModest l.unknowns (New j)
    modest_new j h =
        let unknowns = b.unknowns in
        let sum : s.unknowns + added s l ≡ l.unknowns = omega arith in
        let low = new_carried s l ks j in
        subst (IsModest l.unknowns) (sym (new_is j (omega arith)))
        (subst (λ (c : ℕ). IsModest c (with_more s.unknowns (added s l) (Old j) (Rows j))) sum
        (modest_more s.unknowns (added s l) (Old j) (Rows j) (λ i inside. (let a = low i inside in omega arith)) (modest j h)))

    -- the rows merge in the next pivot, if they did so in those before
    merge_next : (j : ℕ) → j < length ks → StayInRange l.unknowns ks j (added_rows s l)
        → RowsMergeBelow (kept_at ks j).column (chosen_row l.unknowns (kept_at ks j)) (Rows j) (length (added_rows s l))
    merge_next j h stay i below inside =
        let k = kept_at ks j in
        let made = made_more s l b ks (length ks) f.made j (omega arith) stay in
        let dictionary = reached_dictionary l j (New j) (reached_after (slack_tableau l) ks j made j (omega arith)) in
        let before = reached_dictionary s j (Old j) (reached_after (slack_tableau s) ks (length ks) f.made j (omega arith)) in
        let makes = f.made j h in
        let chosen = chosen_bounded (2 ^ 62) s.unknowns l.unknowns (Old j) k makes
        (laws.bounded s (Old j) before (modest j h) old k.row makes.leaves.below) in
        let at = length (Old j).rows + i in
        let total = row_total s.unknowns (added s l) (Old j) (Rows j) in
        let is = new_is j (omega arith) in
        let there : at < length (New j).rows = subst (λ (x : Tableau). at < length x.rows) (sym is) (omega arith) in
        let bounded = laws.bounded l (New j) dictionary (modest_new j h) all at there in
        let row : row_of (New j) at ≡ get_or (Rows j) i no_row = ap (λ (x : Tableau). row_of x at) is
        ∙ new_row s.unknowns (added s l) (Old j) (Rows j) at (omega arith) ∙ ap (λ (m : ℕ). get_or (Rows j) m no_row) (omega arith) in
        laws.merge k.column (chosen_row l.unknowns k) (get_or (Rows j) i no_row) chosen (subst (IsBound (2 ^ 62)) row bounded)

    stay_upto : (j : ℕ) → j ≤ length ks → StayInRange l.unknowns ks j (added_rows s l)
    stay_upto zero h i below = absurd (omega arith)
    stay_upto (suc j) h i below =
        elim (cases_eq i j) [
          | inl same ↦ subst (λ (m : ℕ). RowsMergeBelow (kept_at ks m).column (chosen_row l.unknowns (kept_at ks m)) (Rows m) (length (added_rows s l)))
              (sym same)
              (merge_next j (omega arith) (stay_upto j (omega arith)))
          | inr apart ↦ stay_upto j (omega arith) i (omega arith)
        ]

    run_extended : RunsModestly l (extended t ks l)
    run_extended =
        let c = counts_reached s (length ks) t (follows_reached (slack_tableau s) ks (length ks) t f) in
        record {
          pivots = ks;
          follows = follows_extended s l b ks t f
              (subst (λ (rows : List TableauRow). StayInRange l.unknowns ks (length ks) rows) (sym (new_rows_are s l t c.1))
              (stay_upto (length ks) (omega arith)));
          modest = modest_new;
        }

-- the rows of the unknowns where there are e more, over these non-basic variables
abbrev more_rows : ℕ → ℕ → List ℕ → Tableau → Tableau
more_rows n e us d = record { non_basic = us; rows = map (zero_filled e) d.rows ++ unit_rows (n + e) n e }

old_unknown : (n e : ℕ) (us : List ℕ) (d : Tableau) (u : ℕ) → length d.rows ≡ n → u < n → row_of (more_rows n e us d) u ≡ zero_filled e (row_of d u)
old_unknown n e us d u count h =
    let l = length-map d.rows (zero_filled e) in
    get_or_append_left (map (zero_filled e) d.rows) (unit_rows (n + e) n e) no_row u (omega arith)
    ∙ get_or-map (zero_filled e) d.rows u no_row no_row (omega arith)

new_unknown : (n e : ℕ) (us : List ℕ) (d : Tableau) (u : ℕ) → length d.rows ≡ n → n ≤ u → u < n + e → row_of (more_rows n e us d) u ≡ unit_row (n + e) u u
new_unknown n e us d u count low h =
    get_or-append_right (map (zero_filled e) d.rows) (unit_rows (n + e) n e) n u no_row (length-map d.rows (zero_filled e) ∙ count) low
    ∙ get_or-map-range_with_len (λ (v : ℕ). unit_row (n + e) v v) n e (u - n) u no_row (omega arith) (omega arith)

module _ (laws : RevisedLaws) (s l : System) (t d : Tableau) (e : ℕ) (sum : s.unknowns + e ≡ l.unknowns) (rows : List TableauRow) (r : IsRevised s t d)
    (size : OfSize s.unknowns (length s.rows) t) (dictionary : DictionaryOf l (with_more s.unknowns e t rows)) where
  abbrev n : ℕ
  n = s.unknowns

  abbrev T : Tableau
  T = with_more n e t rows

  columns : length T.non_basic ≡ n + e
  columns = length-append (map (raised n e) t.non_basic) (range_with_len n e)
      ∙ (let a = length-map t.non_basic (raised n e) in let c = length-range_with_len n e in let k = size.columns in omega arith)

  -- the column of an unknown
  unit : (u j : ℕ) → j < n + e → non_basic_of T j ≡ u → IsDictionaryRow (IsAssignment l) T.non_basic (unit_row (n + e) u j)
  unit u j h is = subst (λ (c : ℕ). IsDictionaryRow (IsAssignment l) T.non_basic (unit_row c u j)) columns
      (laws.units l T.non_basic u j (let c = columns in omega arith) is)

  old_true : (u : ℕ) → u < n → IsDictionaryRow (IsAssignment l) T.non_basic (zero_filled e (row_of d u))
  old_true u h =
      let same : raised n e u ≡ u = elim (raised_at n e u) [ inl x ↦ x.1 | inr x ↦ (let p = x.0 in absurd (omega arith)) ] in
      elim (r.dictionary.basis.cover u (omega arith)) [
        | inl b ↦
            let i = b.0 in
            let is = laws.rows.unknown s t d i r b.1 (subst (λ (v : ℕ). v < s.unknowns) (sym b.2) h) ∙ ap (row_of d) b.2 in
            let there = dictionary.rows i (let k = row_total n e t rows in let w = b.1 in omega arith) in
            let wide : row_of T i ≡ zero_filled e (row_of d u) = old_row n e t rows i b.1
            ∙ ap (λ (v : ℕ). record {
              basic = v;
              denominator = (row_of t i).denominator;
              constant = (row_of t i).constant;
              cells = (row_of t i).cells ++ replicate e (pos 0);
            }) (ap (raised n e) b.2 ∙ same ∙ sym b.2) ∙ ap (zero_filled e) is in
            subst (IsDictionaryRow (IsAssignment l) T.non_basic) wide there
        | inr c ↦
            let j = c.0 in
            let k = size.columns in
            let within = c.1 in
            let is : row_of d u ≡ unit_row (length t.non_basic) u j = unique_row (IsAssignment s) (variables s) t (row_of d u)
            (unit_row (length t.non_basic) u j)
            r.dictionary (r.rows u h) (laws.units s t.non_basic u j c.1 c.2) (r.named u h) in
            let left : n + e - length t.non_basic ≡ e = omega arith in
            let filled : unit_row (n + e) u j ≡ zero_filled e (row_of d u) = unit_filled (length t.non_basic) (n + e) u j c.1 (omega arith)
            ∙ ap (λ (x : ℕ). zero_filled x (unit_row (length t.non_basic) u j)) left ∙ ap (zero_filled e) (sym is) in
            subst (IsDictionaryRow (IsAssignment l) T.non_basic) filled
            (unit u j (omega arith) (old_column n e t rows j c.1 ∙ ap (raised n e) c.2 ∙ same))
      ]

  new_true : (u : ℕ) → n ≤ u → u < n + e → IsDictionaryRow (IsAssignment l) T.non_basic (unit_row (n + e) u u)
  new_true u low h =
      unit u u h
      (get_or-append_right (map (raised n e) t.non_basic) (range_with_len n e) n u 0 (length-map t.non_basic (raised n e) ∙ size.columns) low
      ∙ get_or-range_with_len n e (u - n) 0 (omega arith) ∙ omega arith)

  more_true : (u : ℕ) → u < n + e → (IsDictionaryRow (IsAssignment l) T.non_basic (row_of (more_rows n e T.non_basic d) u))
      × (basic_of (more_rows n e T.non_basic d) u ≡ u)
  more_true u h =
      elim (cases_lt u n) [
        | inl before ↦
            let is = old_unknown n e T.non_basic d u r.count before in
            (subst (IsDictionaryRow (IsAssignment l) T.non_basic) (sym is) (old_true u before), ap (λ (x : TableauRow). x.basic) is ∙ r.named u before)
        | inr behind ↦
            let is = new_unknown n e T.non_basic d u r.count behind h in
            (subst (IsDictionaryRow (IsAssignment l) T.non_basic) (sym is) (new_true u behind h), ap (λ (x : TableauRow). x.basic) is)
      ]

  more_revised : IsRevised l T (more_rows n e T.non_basic d)
  more_revised = record {
    dictionary = dictionary;
    non_basic = refl;
    count = length-append (map (zero_filled e) d.rows) (unit_rows (n + e) n e)
        ∙ (let a = length-map d.rows (zero_filled e) in let c = length_unit_rows (n + e) n e in let k = r.count in omega arith);
    rows = λ u h. (more_true u (omega arith)).0;
    named = λ u h. (more_true u (omega arith)).1;
  }

-- the grown rows are these
grown_same : (n e : ℕ) (us : List ℕ) (t d : Tableau) (unknowns : ℕ) → n + e ≡ unknowns → length t.non_basic ≡ n → d.non_basic ≡ t.non_basic →
    us ≡ map (raised n e) t.non_basic ++ range_with_len n e → more_rows n e us d ≡ grown d unknowns
grown_same n e us t d unknowns sum columns same named =
    let old : length d.non_basic ≡ n = ap (λ (vs : List ℕ). length vs) same ∙ columns in
    let left : unknowns - n ≡ e = omega arith in
    ap (λ (vs : List ℕ). more_rows n e vs d) (named ∙ ap (λ (vs : List ℕ). map (raised n e) vs ++ range_with_len n e) (sym same))
    ∙ ap (λ (c : ℕ). record {
      non_basic = map (raised n e) d.non_basic ++ range_with_len n e;
      rows = map (zero_filled e) d.rows ++ unit_rows c n e;
    }) sum
    ∙ ap (λ (k : ℕ). record {
      non_basic = map (raised n k) d.non_basic ++ range_with_len n k;
      rows = map (zero_filled k) d.rows ++ unit_rows unknowns n k;
    }) (sym left)
    ∙ ap (λ (m : ℕ). record {
      non_basic = map (raised m (unknowns - m)) d.non_basic ++ range_with_len m (unknowns - m);
      rows = map (zero_filled (unknowns - m)) d.rows ++ unit_rows unknowns m (unknowns - m);
    }) (sym old)

-- the rows of a longer system, whose new rows are modest
pub under_way_grown : RevisedLaws → (s l : System) (d : Tableau) → BeginsSystem s l → IsUnderWay s d → AreModestRows (drop (length s.rows) l.rows)
    → IsUnderWay l (grown d l.unknowns)
under_way_grown laws s l d b w modest =
    let all : AreModestRows l.rows = subst AreModestRows (sym b.rows) (All-append IsModestRow s.rows (drop (length s.rows) l.rows) w.modest modest) in
    let t = w.tableau in
    let ks = w.runs.pivots in
    let runs = run_extended laws s l b ks t w.runs.follows w.runs.modest w.modest all in
    let unknowns = b.unknowns in
    let size = run_size s t w.runs in
    let e = added s l in
    let sum : s.unknowns + added s l ≡ l.unknowns = omega arith in
    let rows = carried l.unknowns ks (length ks) (added_rows s l) in
    let is = extended_is s l ks t size.columns size.rows in
    let dictionary = follows_dictionary l runs.pivots (length runs.pivots) (extended t ks l) runs.follows in
    let revised = more_revised laws s l t d e sum rows w.revised size (subst (DictionaryOf l) is dictionary) in
    let T = with_more s.unknowns e t rows in
    record {
      modest = all;
      tableau = extended t ks l;
      runs = runs;
      revised = subst (λ (x : Tableau). IsRevised l x (grown d l.unknowns)) (sym is)
          (subst (IsRevised l T) (grown_same s.unknowns e T.non_basic t d l.unknowns sum size.columns w.revised.non_basic refl) revised);
    }
