-- the pivots of a system are the first pivots of a longer one
use Rattle.ta_simplex.proofs.Common.{◌≡◌, inl, inr, ℕ, zero, suc, ◌+◌, ◌-◌, ◌<◌, ◌≤◌, List, [], ◌∷◌, ◌++◌, length, map, get_or, drop, arith, refl, sym, ap, ◌∙◌}
use Rattle.ta_simplex.proofs.Common.{subst, ℤ, pos, replicate, range_with_len, map-append, length-range_with_len, range_split, length-carried}
use Rattle.ta_simplex.proofs.Common.{length-slack_rows, coefficient, IsNormal, AllBelow, Row, System, coefficient-above, TableauRow, Tableau, no_row, merged}
use Rattle.ta_simplex.proofs.Common.{pivoted, coefficients, slack_row_of, slack_rows, slack_tableau, MergesInRange, FirstRefused, KeptPivot, kept_at}
use Rattle.ta_simplex.proofs.Common.{chosen_row, after_pivot, carried, StayInRange, widened, raised, extended, new_rows, FirstLeaving, record_same}
use Rattle.ta_simplex.proofs.Common.{slack_tableau-is, row_count, column_count, merged_basic, Reached, OverflowsAt, IsCount, tableau_after, MakesPivot, Follows}
use Rattle.ta_simplex.proofs.Common.{BeginsSystem}
use Rattle.ta_simplex.proofs.RunLemmas.{reached_dictionary}
use Rattle.ta_simplex.proofs.Extended.{with_more, OfSize, AreNewRows, raised_at, pivoted_more, leaves_more, enters_more, makes_more, overflows_more}

-- the run that makes these pivots
pub reached_after : (start : Tableau) (ks : List KeptPivot) (count : ℕ) → ((j : ℕ) → j < count → MakesPivot (tableau_after start ks j) (kept_at ks j)) → (j : ℕ)
    → j ≤ count → Reached start j (tableau_after start ks j)
reached_after start ks count made zero h = refl
reached_after start ks count made (suc j) h =
    let k = kept_at ks j in
    let m = made j (omega arith) in (
      tableau_after start ks j,
      reached_after start ks count made j (omega arith),
      record
          { row = k.row; column = k.column; leaves = m.leaves; enters = m.enters; in_range = m.in_range; next = refl },
    )

raised_range : (n e a k : ℕ) → a + k ≤ n → map (raised n e) (range_with_len a k) ≡ range_with_len a k
raised_range n e a zero h = refl
raised_range n e a (suc k) h =
    let first : raised n e a ≡ a = elim (raised_at n e a) [ inl x ↦ x.1 | inr x ↦ (let y = x.0 in absurd (omega arith)) ] in
    let rest = raised_range n e (a + 1) k (omega arith) in
    cc

beyond_zeros : (n : ℕ) (ts : List (ℕ × ℤ)) → IsNormal 0 n ts → (a e : ℕ) → n ≤ a → map (coefficient ts) (range_with_len a e) ≡ replicate e (pos 0)
beyond_zeros n ts normal a zero h = refl
beyond_zeros n ts normal a (suc e) h =
    let first = coefficient-above 0 n ts a normal h in
    let rest = beyond_zeros n ts normal (a + 1) e (omega arith) in
    cc

coefficients_more : (n e : ℕ) (ts : List (ℕ × ℤ)) → IsNormal 0 n ts → coefficients (n + e) ts ≡ coefficients n ts ++ replicate e (pos 0)
coefficients_more n e ts normal =
    let z : 0 + n ≡ n = omega arith in
    ap (map (coefficient ts)) (range_split 0 n e) ∙ map-append (coefficient ts) (range_with_len 0 n) (range_with_len (0 + n) e)
    ∙ ap (λ (xs : List ℤ). coefficients n ts ++ xs) (beyond_zeros n ts normal (0 + n) e (omega arith))

-- the old rows, each solved for its slack
slack_rows_widened : (n e v : ℕ) (rs : List Row) → AllBelow n rs → n ≤ v → slack_rows (n + e) (v + e) rs ≡ map (widened n e) (slack_rows n v rs)
slack_rows_widened n e v [] all h = refl
slack_rows_widened n e v (r ∷ rs) all h =
    let basic : v + e ≡ raised n e v = elim (raised_at n e v) [ inl x ↦ (let y = x.0 in absurd (omega arith)) | inr x ↦ sym x.1 ] in
    let first : slack_row_of (n + e) (v + e) r ≡ widened n e (slack_row_of n v r) = record_same (slack_row_of (n + e) (v + e) r)
    (widened n e (slack_row_of n v r)) basic refl refl (coefficients_more n e r.form.terms all.0) in
    let next : suc (v + e) ≡ suc v + e = omega arith in
    let rest = ap (λ (x : ℕ). slack_rows (n + e) x rs) next ∙ slack_rows_widened n e (suc v) rs all.1 (omega arith) in
    ap (λ (x : TableauRow). x ∷ slack_rows (n + e) (suc (v + e)) rs) first ∙ ap (λ (xs : List TableauRow). widened n e (slack_row_of n v r) ∷ xs) rest

slack_rows-append : (n v : ℕ) (rs qs : List Row) → slack_rows n v (rs ++ qs) ≡ slack_rows n v rs ++ slack_rows n (v + length rs) qs
slack_rows-append n v [] qs = ap (λ (x : ℕ). slack_rows n x qs) (omega arith)
slack_rows-append n v (r ∷ rs) qs =
    ap (λ (xs : List TableauRow). slack_row_of n v r ∷ xs)
    (slack_rows-append n (suc v) rs qs ∙ ap (λ (x : ℕ). slack_rows n (suc v) rs ++ slack_rows n x qs) (omega arith))

slack_basic : (n v : ℕ) (rs : List Row) (i : ℕ) → i < length rs → (get_or (slack_rows n v rs) i no_row).basic ≡ v + i
slack_basic n v [] i h = absurd (omega arith)
slack_basic n v (r ∷ rs) zero h = omega arith
slack_basic n v (r ∷ rs) (suc i) h = slack_basic n (suc v) rs i (omega arith) ∙ omega arith

-- the new rows of a longer system
abbrev pub added_rows : System → System → List TableauRow
added_rows s l = slack_rows l.unknowns (l.unknowns + length s.rows) (drop (length s.rows) l.rows)

abbrev pub added : System → System → ℕ
added s l = l.unknowns - s.unknowns

-- the longer system begins with the tableau of the shorter, and more
pub start_more : (s l : System) → BeginsSystem s l → slack_tableau l ≡ with_more s.unknowns (added s l) (slack_tableau s) (added_rows s l)
unfolding slack_tableau
start_more s l b =
    let n = s.unknowns in
    let e = added s l in
    let sum : n + e ≡ l.unknowns = omega arith in
    let z : 0 + n ≡ n = omega arith in
    let columns : map (raised n e) (range_with_len 0 n) ++ range_with_len n e ≡ range_with_len 0 l.unknowns =
    ap (λ (xs : List ℕ). xs ++ range_with_len n e) (raised_range n e 0 n (omega arith)) ∙ ap (λ (x : ℕ). range_with_len 0 n ++ range_with_len x e) (sym z)
    ∙ sym (range_split 0 n e) ∙ ap (range_with_len 0) sum in
    let old : slack_rows l.unknowns l.unknowns s.rows ≡ map (widened n e) (slack_rows n n s.rows) = ap (λ (x : ℕ). slack_rows x x s.rows) (sym sum)
    ∙ slack_rows_widened n e n s.rows s.within (omega arith) in
    let rows : map (widened n e) (slack_rows n n s.rows) ++ added_rows s l ≡ slack_rows l.unknowns l.unknowns l.rows =
    ap (λ (xs : List TableauRow). xs ++ added_rows s l) (sym old) ∙ sym (slack_rows-append l.unknowns l.unknowns s.rows (drop (length s.rows) l.rows))
    ∙ ap (slack_rows l.unknowns l.unknowns) (sym b.rows) in
    sym (slack_tableau-is l (map (raised n e) (range_with_len 0 n) ++ range_with_len n e) (map (widened n e) (slack_rows n n s.rows) ++ added_rows s l) columns
    rows)

-- the size of what the rule reaches
counts_slack : (s : System) → (length (slack_tableau s).non_basic ≡ s.unknowns) × (length (slack_tableau s).rows ≡ length s.rows)
unfolding slack_tableau
counts_slack s = (length-range_with_len 0 s.unknowns, length-slack_rows s.unknowns s.unknowns s.rows)

pub counts_reached : (s : System) (k : ℕ) (t : Tableau) → Reached (slack_tableau s) k t → (length t.non_basic ≡ s.unknowns) × (length t.rows ≡ length s.rows)
counts_reached s zero t e =
    let c = counts_slack s in
    (ap (λ (u : Tableau). length u.non_basic) e ∙ c.0, ap (λ (u : Tableau). length u.rows) e ∙ c.1)
counts_reached s (suc k) t r =
    let step = r.2 in
    let c = counts_reached s k r.0 r.1 in (
      ap (λ (u : Tableau). length u.non_basic) step.next ∙ column_count r.0 step.row step.column ∙ c.0,
      ap (λ (u : Tableau). length u.rows) step.next
          ∙ row_count r.0 step.row step.column ∙ c.1,
    )

pub size_reached : (s : System) (k : ℕ) (t : Tableau) → Reached (slack_tableau s) k t → OfSize s.unknowns (length s.rows) t
size_reached s k t r =
    let c = counts_reached s k t r in
    let d = reached_dictionary s k t r in
    record {
      columns = c.0;
      rows = c.1;
      long = λ i h. (d.rows i h).long ∙ c.0;
      basic_below = d.basis.basic_below;
      non_basic_below = d.basis.non_basic_below;
    }

basic_map : (column : ℕ) (chosen : TableauRow) (rows : List TableauRow) (i : ℕ)
    → (get_or (map (merged column chosen) rows) i no_row).basic ≡ (get_or rows i no_row).basic
basic_map column chosen [] i = refl
basic_map column chosen (r ∷ rows) zero = merged_basic column chosen r
basic_map column chosen (r ∷ rows) (suc i) = basic_map column chosen rows i

basic_carried : (columns : ℕ) (ks : List KeptPivot) (j : ℕ) (rows : List TableauRow) (i : ℕ)
    → (get_or (carried columns ks j rows) i no_row).basic ≡ (get_or rows i no_row).basic
basic_carried columns ks zero rows i = refl
basic_carried columns ks (suc j) rows i = basic_map (kept_at ks j).column (chosen_row columns (kept_at ks j)) (carried columns ks j rows) i
    ∙ basic_carried columns ks j rows i

pub new_carried : (s l : System) (ks : List KeptPivot) (j : ℕ) → AreNewRows (l.unknowns + length s.rows) (carried l.unknowns ks j (added_rows s l))
new_carried s l ks j i h =
    let low = l.unknowns + length s.rows in
    let c = length-carried l.unknowns j ks (added_rows s l) in
    let n = length-slack_rows l.unknowns low (drop (length s.rows) l.rows) in
    let b = basic_carried l.unknowns ks j (added_rows s l) i in
    let v = slack_basic l.unknowns low (drop (length s.rows) l.rows) i (omega arith) in
    omega arith

-- after each of the pivots the longer system has the tableau of the shorter, and more
pub after_more : (s l : System) → BeginsSystem s l → (ks : List KeptPivot) (count : ℕ)
    → ((j : ℕ) → j < count → MakesPivot (tableau_after (slack_tableau s) ks j) (kept_at ks j)) → (j : ℕ) → j ≤ count →
    tableau_after (slack_tableau l) ks j ≡ with_more s.unknowns (added s l) (tableau_after (slack_tableau s) ks j) (carried l.unknowns ks j (added_rows s l))
after_more s l b ks count made zero h = start_more s l b
after_more s l b ks count made (suc j) h =
    let k = kept_at ks j in
    let t = tableau_after (slack_tableau s) ks j in
    let rows = carried l.unknowns ks j (added_rows s l) in
    let n = s.unknowns in
    let e = added s l in
    let sum : n + e ≡ l.unknowns = omega arith in
    let size = size_reached s j t (reached_after (slack_tableau s) ks count made j (omega arith)) in
    ap (λ (x : Tableau). pivoted x k.row k.column) (after_more s l b ks count made j (omega arith))
    ∙ pivoted_more n (length s.rows) e t rows k size (made j (omega arith))
    ∙ ap (λ (c : ℕ). with_more n e (pivoted t k.row k.column) (after_pivot c k rows)) sum

-- and where no new row leaves the range, the rule makes them for the longer system
pub made_more : (s l : System) → BeginsSystem s l → (ks : List KeptPivot) (count : ℕ)
    → ((j : ℕ) → j < count → MakesPivot (tableau_after (slack_tableau s) ks j) (kept_at ks j)) →
    (upto : ℕ) → upto ≤ count → StayInRange l.unknowns ks upto (added_rows s l) → (j : ℕ) → j < upto
    → MakesPivot (tableau_after (slack_tableau l) ks j) (kept_at ks j)
made_more s l b ks count made upto within stay j h =
    let k = kept_at ks j in
    let t = tableau_after (slack_tableau s) ks j in
    let rows = carried l.unknowns ks j (added_rows s l) in
    let n = s.unknowns in
    let e = added s l in
    let sum : n + e ≡ l.unknowns = omega arith in
    let size = size_reached s j t (reached_after (slack_tableau s) ks count made j (omega arith)) in
    let long = length-carried l.unknowns j ks (added_rows s l) in
    subst (λ (x : Tableau). MakesPivot x k) (sym (after_more s l b ks count made j (omega arith)))
    (makes_more n (length s.rows) e t rows k size
    (subst (λ (c : ℕ). AreNewRows (c + length s.rows) rows) (sym sum) (new_carried s l ks j))
    (made j (omega arith))
    (λ i below inside. subst (λ (c : ℕ). MergesInRange k.column (chosen_row c k) (get_or rows i no_row)) (sym sum) (stay j h i (omega arith) inside)))

-- the extended tableau and its new rows, where the counts are those of a shorter system
pub new_rows_are : (s l : System) (t : Tableau) → length t.rows ≡ length s.rows → new_rows t l ≡ added_rows s l
new_rows_are s l t h = ap (λ (m : ℕ). slack_rows l.unknowns (l.unknowns + m) (drop m l.rows)) h

pub extended_is : (s l : System) (ks : List KeptPivot) (t : Tableau) → length t.non_basic ≡ s.unknowns → length t.rows ≡ length s.rows →
    extended t ks l ≡ with_more s.unknowns (added s l) t (carried l.unknowns ks (length ks) (added_rows s l))
extended_is s l ks t columns rows =
    ap (λ (n : ℕ). with_more n (l.unknowns - n) t (carried l.unknowns ks (length ks) (new_rows t l))) columns
    ∙ ap (λ (added : List TableauRow). with_more s.unknowns (l.unknowns - s.unknowns) t (carried l.unknowns ks (length ks) added)) (new_rows_are s l t rows)

-- a shorter system's pivots lead from the longer system's slacks to the extended tableau
pub follows_extended : (s l : System) → BeginsSystem s l → (ks : List KeptPivot) (t : Tableau) → Follows (slack_tableau s) ks (length ks) t →
    StayInRange l.unknowns ks (length ks) (new_rows t l) → Follows (slack_tableau l) ks (length ks) (extended t ks l)
follows_extended s l b ks t f stay =
    let r = subst (λ (x : Tableau). Reached (slack_tableau s) (length ks) x) (sym f.last)
    (reached_after (slack_tableau s) ks (length ks) f.made (length ks) (omega arith)) in
    let c = counts_reached s (length ks) t r in
    let stay' = subst (λ (rows : List TableauRow). StayInRange l.unknowns ks (length ks) rows) (new_rows_are s l t c.1) stay in
    record {
      within = omega arith;
      made = made_more s l b ks (length ks) f.made (length ks) (omega arith) stay';
      last =
          extended_is s l ks t c.0 c.1
          ∙ ap (λ (x : Tableau). with_more s.unknowns (added s l) x (carried l.unknowns ks (length ks) (added_rows s l))) f.last
          ∙ sym (after_more s l b ks (length ks) f.made (length ks) (omega arith));
    }

-- where a new row leaves the range in one of them, it is there that solving the longer system ends
pub overflow_extended : (s l : System) → BeginsSystem s l → (ks : List KeptPivot) (t : Tableau) → Follows (slack_tableau s) ks (length ks) t →
    (pivot row count : ℕ) → FirstLeaving t ks l pivot row → IsCount (suc pivot) count → OverflowsAt (slack_tableau l) count
overflow_extended s l b ks t f pivot row count first counted =
    let r = subst (λ (x : Tableau). Reached (slack_tableau s) (length ks) x) (sym f.last)
    (reached_after (slack_tableau s) ks (length ks) f.made (length ks) (omega arith)) in
    let c = counts_reached s (length ks) t r in
    let here = first.below in
    let new = new_rows_are s l t c.1 in
    let before = subst (λ (rows : List TableauRow). StayInRange l.unknowns ks pivot rows) new first.before in
    let k = kept_at ks pivot in
    let u = tableau_after (slack_tableau s) ks pivot in
    let n = s.unknowns in
    let e = added s l in
    let sum : n + e ≡ l.unknowns = omega arith in
    let rows = carried l.unknowns ks pivot (added_rows s l) in
    let made = made_more s l b ks (length ks) f.made pivot (omega arith) before in
    let size = size_reached s pivot u (reached_after (slack_tableau s) ks (length ks) f.made pivot (omega arith)) in
    let makes = f.made pivot here in
    let is = after_more s l b ks (length ks) f.made pivot (omega arith) in
    let new_are = subst (λ (c : ℕ). AreNewRows (c + length s.rows) rows) (sym sum) (new_carried s l ks pivot) in
    let refused : FirstRefused k.column (chosen_row (n + e) k) rows first.new =
    subst (λ (c : ℕ). FirstRefused k.column (chosen_row c k) rows first.new) (sym sum)
    (subst (λ (added : List TableauRow). FirstRefused k.column (chosen_row l.unknowns k) (carried l.unknowns ks pivot added) first.new) new first.refused)
    in
    record {
      steps = pivot;
      counted = counted;
      tableau = with_more n e u rows;
      reached = subst (λ (x : Tableau). Reached (slack_tableau l) pivot x) is (reached_after (slack_tableau l) ks pivot made pivot (omega arith));
      row = k.row;
      column = k.column;
      leaves = leaves_more n (length s.rows) e u rows k.row size new_are makes.leaves;
      enters = enters_more n (length s.rows) e u rows k.row k.column size makes.leaves.below makes.enters;
      at = length u.rows + first.new;
      overflow = overflows_more n (length s.rows) e u rows k first.new size makes refused;
    }
