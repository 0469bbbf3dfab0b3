-- Rows that are carried through a kept pivot
use Rattle.ta_links.proofs.Common.{◌≡◌, ◌≢◌, inl, inr, ℕ, ℤ, pos, ◌+◌, ◌-◌, ◌<◌, ◌≤◌, ◌<ℤ◌, List, ◌++◌, length, replicate, get_or, arith, sym, ap, ◌∙◌, refl}
use Rattle.ta_links.proofs.Common.{subst, cases_lt, ext_get_or, length-append, length-replicate, length-map, get_or-map, get_or-map-range_with_len, get_or_past}
use Rattle.ta_links.proofs.Common.{get_or_append_left, get_or-append_right, get_or-replicate, length-map-range_with_len, IsNormal, coefficient}
use Rattle.ta_links.proofs.Common.{coefficient-above, TableauRow, merged, no_row, coefficients, KeptPivot, IsKept, chosen_row, after_pivot, MergesInRange, Cell}
use Rattle.ta_links.proofs.Common.{RowHead, LinkedCells, value_in, row_values, AreSound, table_row, row_in, MergedBelow, RefusedFirst, rows_from, IsRoom}
use Rattle.ta_links.proofs.Common.{IsEmpty, HasChosenNumbers, OthersSame, RowsCarried, CarryRefused}
use Rattle.ta_links.proofs.LinkedFacts.{row_value_at}
use Rattle.ta_links.proofs.RowMerging.{numbers_long}
use Rattle.ta_links.proofs.AllMerging.{row_same_in, not_spared_by}

-- a kept row's numbers
pub coefficients_at : (n : ℕ) (ts : List (ℕ × ℤ)) (c : ℕ) → IsNormal 0 n ts → coefficient ts c ≡ get_or (coefficients n ts) c (pos 0)
coefficients_at n ts c normal =
    let l = length-map-range_with_len (coefficient ts) 0 n in
    elim (cases_lt c n) [
      | inl b ↦ sym (get_or-map-range_with_len (coefficient ts) 0 n c c (pos 0) b (omega arith))
      | inr h ↦ coefficient-above 0 n ts c normal h ∙ sym (get_or_past (coefficients n ts) c (pos 0) (omega arith))
    ]

pub length-rows_from : (hs : List RowHead) (l : LinkedCells) (n first count : ℕ) → length (rows_from hs l n first count) ≡ count
length-rows_from hs l n first count = length-map-range_with_len (row_in hs l n) first count

pub rows_from_at : (hs : List RowHead) (l : LinkedCells) (n first count i : ℕ) → i < count
    → get_or (rows_from hs l n first count) i no_row ≡ row_in hs l n (first + i)
rows_from_at hs l n first count i b = get_or-map-range_with_len (row_in hs l n) first count i (first + i) no_row b refl

-- the chosen row of a kept pivot
pub chosen_cells : (columns last : ℕ) (cells : List Cell) (ks : List ℤ) → length ks ≤ columns → ((c : ℕ) → value_in cells last c ≡ get_or ks c (pos 0))
    → row_values cells columns last ≡ ks ++ replicate (columns - length ks) (pos 0)
chosen_cells columns last cells ks few numbers =
    let zeros = replicate (columns - length ks) (pos 0) in
    let l1 = numbers_long cells columns last in
    let l2 = length-append ks zeros in
    let l3 = length-replicate (columns - length ks) (pos 0) in
    ext_get_or (pos 0) (row_values cells columns last) (ks ++ zeros) (omega arith) (λ j b.
    row_value_at cells columns last j (omega arith) ∙ numbers j ∙ sym (elim (cases_lt j (length ks)) [
      | inl low ↦ get_or_append_left ks zeros (pos 0) j low
      | inr high ↦ get_or-append_right ks zeros (length ks) j (pos 0) refl high
          ∙ get_or-replicate (columns - length ks) (j - length ks) (pos 0) (pos 0) (omega arith) ∙ sym (get_or_past ks j (pos 0) high)
    ]))

pub chosen_is : (columns last : ℕ) (k : KeptPivot) (hs : List RowHead) (l : LinkedCells) → length k.cells ≤ columns → HasChosenNumbers last k hs l
    → row_in hs l columns last ≡ chosen_row columns k
chosen_is columns last k hs l few p =
    ap (table_row l.cells.items columns last) p.head ∙ ap
    (λ (zs : List ℤ). record { basic = 0; denominator = k.denominator; constant = k.constant; cells = zs })
    (chosen_cells columns last l.cells.items k.cells few p.numbers)

pub placed_positive : (columns last : ℕ) (k : KeptPivot) (hs : List RowHead) (l : LinkedCells) → IsKept columns k → HasChosenNumbers last k hs l
    → pos 0 <ℤ value_in l.cells.items last k.column
placed_positive columns last k hs l kept p = subst (λ (z : ℤ). pos 0 <ℤ z) (sym (p.numbers k.column)) kept.positive

-- a row that is carried, before
row_before : (columns first count : ℕ) (hs hs1 : List RowHead) (l l1 : LinkedCells) (i : ℕ) → i < count → OthersSame (first + count) hs l hs1 l1
    → row_in hs1 l1 columns (first + i) ≡ get_or (rows_from hs l columns first count) i no_row
row_before columns first count hs hs1 l l1 i b o =
    let ne : first + i ≢ first + count = λ e. omega arith in
    row_same_in hs hs1 l l1 columns (first + i) (λ c. o.numbers (first + i) c ne) (o.heads_same (first + i) ne)
    ∙ sym (rows_from_at hs l columns first count i b)

carried_within : (columns first count : ℕ) (k : KeptPivot) (hs hs1 : List RowHead) (l l1 : LinkedCells) (i : ℕ) → i < count → length k.cells ≤ columns
    → HasChosenNumbers (first + count) k hs1 l1 → OthersSame (first + count) hs l hs1 l1 →
    MergesInRange k.column (row_in hs1 l1 columns (first + count)) (row_in hs1 l1 columns (first + i))
    → MergesInRange k.column (chosen_row columns k) (get_or (rows_from hs l columns first count) i no_row)
carried_within columns first count k hs hs1 l l1 i b few p o m =
    subst (λ (r : TableauRow). MergesInRange k.column r (get_or (rows_from hs l columns first count) i no_row))
    (chosen_is columns (first + count) k hs1 l1 few p)
    (subst (λ (r : TableauRow). MergesInRange k.column (row_in hs1 l1 columns (first + count)) r) (row_before columns first count hs hs1 l l1 i b o) m)

-- the last row was emptied
pub record Cleared (last : ℕ) (l : LinkedCells) (new : LinkedCells) : Type 0 where
  pub sound : AreSound new
  pub rows : length new.row_heads.items ≡ length l.row_heads.items
  pub columns : length new.column_heads.items ≡ length l.column_heads.items
  pub empty : IsEmpty last new
  pub others : (i c : ℕ) → i ≢ last → value_in new.cells.items i c ≡ value_in l.cells.items i c

-- what the calls that carry rows through a pivot come to
pub carried_done : (columns first count : ℕ) (k : KeptPivot) (hs hs1 hs2 : List RowHead) (l l1 l2 l3 : LinkedCells) → IsKept columns k
    → IsRoom columns (first + count) hs1 l1 → HasChosenNumbers (first + count) k hs1 l1 → OthersSame (first + count) hs l hs1 l1 →
    MergedBelow first columns (first + count) k.column hs1 l1 (length hs1) hs2 l2 → Cleared (first + count) l2 l3
    → RowsCarried columns first count k hs l hs2 l3
carried_done columns first count k hs hs1 hs2 l l1 l2 l3 kept room p o m x =
    let old = rows_from hs l columns first count in
    let new = rows_from hs2 l3 columns first count in
    let ln = length-rows_from hs2 l3 columns first count in
    let lo = length-rows_from hs l columns first count in
    let lm = length-map old (merged k.column (chosen_row columns k)) in
    let long = room.long in
    let few = kept.long in
    record {
      room = record {
        sound = x.sound;
        rows = x.rows ∙ m.row_heads ∙ room.rows ∙ sym m.long;
        columns_are = x.columns ∙ m.column_heads ∙ room.columns_are;
        proper = m.proper;
        long = m.long ∙ room.long;
      };
      empty = x.empty;
      kept = record {
        numbers = λ i c b. x.others i c (λ e. omega arith) ∙ m.rest i c (inr (inl b)) ∙ o.numbers i c (λ e. omega arith);
        heads_same = λ i b. m.rest_heads i (inr (inl b)) ∙ o.heads_same i (λ e. omega arith);
      };
      rows = ext_get_or no_row new (after_pivot columns k old) (omega arith) (λ i b.
          let below : i < count = omega arith in
          let ne : first + i ≢ first + count = λ e. omega arith in
          let from : first ≤ first + i = omega arith in
          rows_from_at hs2 l3 columns first count i below ∙ row_same_in hs2 hs2 l2 l3 columns (first + i) (λ c. x.others (first + i) c ne) refl
          ∙ m.done (first + i) (omega arith) (not_spared_by first (first + count) (first + i) from ne)
          ∙ ap (λ (r : TableauRow). merged k.column r (row_in hs1 l1 columns (first + i))) (chosen_is columns (first + count) k hs1 l1 few p)
          ∙ ap (merged k.column (chosen_row columns k)) (row_before columns first count hs hs1 l l1 i below o)
          ∙ sym (get_or-map (merged k.column (chosen_row columns k)) old i no_row no_row (omega arith)));
      within = λ i b inside.
          let ne : first + i ≢ first + count = λ e. omega arith in
          let from : first ≤ first + i = omega arith in
          carried_within columns first count k hs hs1 l l1 i b few p o
          (m.within (first + i) (omega arith) (not_spared_by first (first + count) (first + i) from ne));
    }

pub carry_refused : (columns first count at : ℕ) (k : KeptPivot) (hs hs1 : List RowHead) (l l1 : LinkedCells) → IsKept columns k
    → IsRoom columns (first + count) hs1 l1 → HasChosenNumbers (first + count) k hs1 l1 → OthersSame (first + count) hs l hs1 l1 →
    RefusedFirst first columns (first + count) k.column hs1 l1 (length hs1) at → CarryRefused columns first count k hs l at
carry_refused columns first count at k hs hs1 l l1 kept room p o r =
    let few = kept.long in
    let lo = length-rows_from hs l columns first count in
    let low : first ≤ at = elim (cases_lt at first) [ inl b ↦ absurd (r.refused.apart (inl b)) | inr h ↦ h ] in
    let other : at ≢ first + count = λ e. r.refused.apart (inr e) in
    let i = at - first in
    let below : at - first < count = omega arith in
    let same : first + (at - first) ≡ at = omega arith in
    let there : row_in hs1 l1 columns at ≡ get_or (rows_from hs l columns first count) (at - first) no_row = ap (row_in hs1 l1 columns) (sym same)
    ∙ row_before columns first count hs hs1 l l1 (at - first) below o in
    record {
      low = low;
      refused = record {
        below = omega arith;
        refused = subst (λ (t : TableauRow). ¬ (MergesInRange k.column t (get_or (rows_from hs l columns first count) (at - first) no_row)))
            (chosen_is columns (first + count) k hs1 l1 few p)
            (subst (λ (t : TableauRow). ¬ (MergesInRange k.column (row_in hs1 l1 columns (first + count)) t)) there r.refused.refused);
        first = λ j b inside.
            let ne : first + j ≢ first + count = λ e. omega arith in
            let from : first ≤ first + j = omega arith in
            carried_within columns first count k hs hs1 l l1 j (omega arith) few p o
            (r.before (first + j) (omega arith) (not_spared_by first (first + count) (first + j) from ne));
      };
    }
