use Rattle.ta_dense.proofs.Common.{◌≡◌, inl, inr, ℕ, suc, ◌+◌, ◌-◌, ◌<◌, List, ◌∷◌, ◌++◌, length, map, get_or, arith, sym, ap, ◌∙◌, subst, cases_order}
use Rattle.ta_dense.proofs.Common.{map-append, length-append, length-map, set_at, get_or_at, get_or_append_left, get_or-append_right, TableauRow, merged}
use Rattle.ta_dense.proofs.Common.{turned, no_row, pivoted_rows, IsProper, MergesInRange, RowsMergeBelow, FirstRefused, OthersMergeBelow, FirstOtherRefused}
use Rattle.ta_dense.proofs.Common.{row_view, views, DenseRow}

-- rows that are cut at one of them
pub record Cut (rows : List TableauRow) (row : ℕ) (before : List TableauRow) (chosen : TableauRow) (after : List TableauRow) : Type 0 where
  pub whole : rows ≡ before ++ chosen ∷ after
  pub long : length before ≡ row

pub cut_by : {A : Type 0} (view : A → TableauRow) (old before after : List A) (chosen : A) (row : ℕ) → old ≡ before ++ chosen ∷ after → length before ≡ row
    → Cut (map view old) row (map view before) (view chosen) (map view after)
cut_by view old before after chosen row e l = record { whole = ap (map view) e ∙ map-append view before (chosen ∷ after); long = length-map before view ∙ l }

pub cut_of : (old before after : List DenseRow) (chosen : DenseRow) (row : ℕ) → old ≡ before ++ chosen ∷ after → length before ≡ row
    → Cut (views old) row (views before) (row_view chosen) (views after)
cut_of = cut_by row_view

pub at_row : (rows before after : List TableauRow) (chosen : TableauRow) (row : ℕ) → Cut rows row before chosen after → get_or rows row no_row ≡ chosen
at_row rows before after chosen row c = rw c.whole (get_or_at before chosen after no_row row c.long)

at_before : (rows before after : List TableauRow) (chosen : TableauRow) (row i : ℕ) → Cut rows row before chosen after → i < row
    → get_or rows i no_row ≡ get_or before i no_row
at_before rows before after chosen row i c h = let l = c.long in rw c.whole (get_or_append_left before (chosen ∷ after) no_row i (omega arith))

at_after : (rows before after : List TableauRow) (chosen : TableauRow) (row i : ℕ) → Cut rows row before chosen after
    → get_or rows (row + 1 + i) no_row ≡ get_or after i no_row
at_after rows before after chosen row i c =
    let l = c.long in
    let e : row + 1 + i - row ≡ suc i = omega arith in
    rw c.whole (get_or-append_right before (chosen ∷ after) row (row + 1 + i) no_row l (omega arith) ∙ ap (λ (k : ℕ). get_or (chosen ∷ after) k no_row) e)

length_cut : (rows before after : List TableauRow) (chosen : TableauRow) (row : ℕ) → Cut rows row before chosen after → length rows ≡ row + 1 + length after
length_cut rows before after chosen row c = let l = c.long in let k = length-append before (chosen ∷ after) in ap length c.whole ∙ omega arith

pub pivoted_cut : (rows before after new_before new_after : List TableauRow) (chosen new : TableauRow) (row column entering : ℕ)
    → Cut rows row before chosen after →
    new_before ≡ map (merged column chosen) before → new ≡ turned entering column chosen → new_after ≡ map (merged column chosen) after →
    new_before ++ new ∷ new_after ≡ pivoted_rows rows row column entering
pivoted_cut rows before after new_before new_after chosen new row column entering c e f g =
    let a = at_row rows before after chosen row c in
    let m = length-map before (merged column chosen) in
    rw (e, f, g, a, c.whole, map-append)
    (sym (set_at (map (merged column chosen) before) (merged column chosen chosen) (map (merged column chosen) after) (turned entering column chosen) row
    (omega arith)))

pub refused_before : (rows before after : List TableauRow) (chosen : TableauRow) (row column k : ℕ) → Cut rows row before chosen after
    → FirstRefused column chosen before k → FirstOtherRefused row column (get_or rows row no_row) rows k
refused_before rows before after chosen row column k c f =
    let n = length_cut rows before after chosen row c in
    rw (at_row rows before after chosen row c) record {
      below = omega arith;
      apart = λ e. (absurd (omega arith));
      refused = rw (at_before rows before after chosen row k c (omega arith)) f.refused;
      first = λ i less inside apart. rw (at_before rows before after chosen row i c (omega arith)) (f.first i less (omega arith));
    }

others_before : (rows before after : List TableauRow) (chosen : TableauRow) (row column k : ℕ) → Cut rows row before chosen after
    → RowsMergeBelow column chosen before (length before) → RowsMergeBelow column chosen after k →
    OthersMergeBelow row column chosen rows (row + 1 + k)
others_before rows before after chosen row column k c b a i less inside apart =
    let n = length_cut rows before after chosen row c in
    elim (cases_order i row) [
      | inl same ↦ absurd (apart same)
      | inr other ↦ elim other [
        | inl smaller ↦ rw (at_before rows before after chosen row i c smaller) (b i (omega arith) (omega arith))
        | inr larger ↦
            let j = i - (row + 1) in
            let e : row + 1 + (i - (row + 1)) ≡ i = omega arith in
            subst (λ (x : ℕ). MergesInRange column chosen (get_or rows x no_row)) e
            (rw (at_after rows before after chosen row (i - (row + 1)) c) (a (i - (row + 1)) (omega arith) (omega arith)))
      ]
    ]

pub refused_after : (rows before after : List TableauRow) (chosen : TableauRow) (row column k : ℕ) → Cut rows row before chosen after
    → RowsMergeBelow column chosen before (length before) → FirstRefused column chosen after k →
    FirstOtherRefused row column (get_or rows row no_row) rows (row + 1 + k)
refused_after rows before after chosen row column k c b f =
    let n = length_cut rows before after chosen row c in
    rw (at_row rows before after chosen row c) record {
      below = omega arith;
      apart = λ e. (absurd (omega arith));
      refused = rw (at_after rows before after chosen row k c) f.refused;
      first = others_before rows before after chosen row column k c b f.first;
    }

pub all_others : (rows before after : List TableauRow) (chosen : TableauRow) (row column n : ℕ) → Cut rows row before chosen after → n ≡ length rows
    → RowsMergeBelow column chosen before (length before) → RowsMergeBelow column chosen after (length after) →
    OthersMergeBelow row column (get_or rows row no_row) rows n
all_others rows before after chosen row column n c e b a =
    let k = length_cut rows before after chosen row c in
    let f : row + 1 + length after ≡ n = omega arith in
    rw (at_row rows before after chosen row c)
    (subst (OthersMergeBelow row column chosen rows) f (others_before rows before after chosen row column (length after) c b a))

pub proper_after : (rows before after : List TableauRow) (chosen : TableauRow) (row n : ℕ) → Cut rows row before chosen after
    → ((i : ℕ) → i < length rows → IsProper n (get_or rows i no_row)) → (i : ℕ) → i < length after → IsProper n (get_or after i no_row)
proper_after rows before after chosen row n c p i h =
    let k = length_cut rows before after chosen row c in
    subst (IsProper n) (at_after rows before after chosen row i c) (p (row + 1 + i) (omega arith))

pub proper_rest : (rows before after : List TableauRow) (chosen : TableauRow) (row : ℕ) → Cut rows row before chosen after
    → ((i : ℕ) → i < length rows → IsProper (length (get_or rows row no_row).cells) (get_or rows i no_row)) →
    (i : ℕ) → i < length after → IsProper (length chosen.cells) (get_or after i no_row)
proper_rest rows before after chosen row c p =
    proper_after rows before after chosen row (length chosen.cells) c
    (subst (λ (r : TableauRow). (i : ℕ) → i < length rows → IsProper (length r.cells) (get_or rows i no_row)) (at_row rows before after chosen row c) p)

pub proper_first : (rows before after : List TableauRow) (chosen : TableauRow) (row : ℕ) → Cut rows row before chosen after
    → ((i : ℕ) → i < length rows → IsProper (length (get_or rows row no_row).cells) (get_or rows i no_row)) →
    (i : ℕ) → i < length before → IsProper (length chosen.cells) (get_or before i no_row)
proper_first rows before after chosen row c p i h =
    let k = length_cut rows before after chosen row c in
    let l = c.long in
    let all = subst (λ (r : TableauRow). (j : ℕ) → j < length rows → IsProper (length r.cells) (get_or rows j no_row)) (at_row rows before after chosen row c) p
    in
    subst (IsProper (length chosen.cells)) (at_before rows before after chosen row i c (omega arith)) (all i (omega arith))

pub merge_below_views : (column : ℕ) (chosen : TableauRow) (rows : List DenseRow) → RowsMergeBelow column chosen (views rows) (length rows)
    → RowsMergeBelow column chosen (views rows) (length (views rows))
merge_below_views column chosen rows h = subst (RowsMergeBelow column chosen (views rows)) (sym (length-map rows row_view)) h
