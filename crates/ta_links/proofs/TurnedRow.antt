-- The chosen row after a pivot
use Rattle.ta_links.proofs.Common.{◌≡◌, ◌≢◌, inl, inr, ℕ, ℤ, pos, negsuc, neg_ℤ, ◌+◌, ◌<ℤ◌, ◌<◌, ◌≤◌, List, length, map, set, get_or, arith, sym, ap, ◌∙◌}
use Rattle.ta_links.proofs.Common.{subst, int_div, ext_get_or, length-set, length-map, get_or-map, get_or-set_same, get_or-set_other, div-one}
use Rattle.ta_links.proofs.Common.{minus_one_negates, negated, unsigned_abs-neg, InRange, turned, IsProper, record_same, IsProper-turned, Cell, RowHead}
use Rattle.ta_links.proofs.Common.{LinkedCells, value_in, row_values, filled_places, AreSound, table_row, no_head, IsProperHead, AreProperHeads, merged_cell}
use Rattle.ta_links.proofs.Common.{MergesAt, RowTurned, cases_eq}
use Rattle.ta_links.proofs.LinkedFacts.{row_value_at}
use Rattle.ta_links.proofs.MergeSteps.{merged_here, merged_elsewhere}
use Rattle.ta_links.proofs.RowMerging.{numbers_long, value_fits, table_proper}
use Rattle.std.proofs.Math.IntN.{zero-*ℤ}

pub turns_within : (l : LinkedCells) (row column : ℕ) → AreSound l → (j : ℕ)
    → MergesAt (negsuc 0) (pos 0) column (value_in l.cells.items row) (value_in l.cells.items row) j
turns_within l row column sound j ne =
    let z = value_in l.cells.items row j in
    let fits = value_fits l.cells.items l.row_heads.items l.column_heads.items l.free_head row j sound in
    let neg : InRange (neg_ℤ z) = rw (unsigned_abs-neg z) fits in
    record {
      left = subst InRange (sym (minus_one_negates z)) neg;
      right = subst InRange (sym (zero-*ℤ z)) (omega arith);
      difference = subst InRange (sym (negated z)) neg;
    }

pub turned_cells : (cells new : List Cell) (n row column : ℕ) (den : ℤ) → column < n
    → ((j : ℕ) → j < n → value_in new row j ≡ int_div (merged_cell (negsuc 0) (pos 0) column den (value_in cells row) (value_in cells row) j) (pos 1)) →
    row_values new n row ≡ set (map neg_ℤ (row_values cells n row)) column den
turned_cells cells new n row column den inside values =
    let xs = row_values cells n row in
    let f = value_in cells row in
    let ln = numbers_long new n row in
    let lx = numbers_long cells n row in
    let lm = length-map xs neg_ℤ in
    let ls = length-set (map neg_ℤ xs) column den in
    ext_get_or (pos 0) (row_values new n row) (set (map neg_ℤ xs) column den) (omega arith) (λ j b.
    let below : j < n = omega arith in
    let is = row_value_at new n row j below ∙ values j below ∙ div-one (merged_cell (negsuc 0) (pos 0) column den f f j) in
    elim (cases_eq j column) [
      | inl e ↦ is ∙ merged_here (negsuc 0) (pos 0) column den f f j e
          ∙ sym (ap (λ (k : ℕ). get_or (set (map neg_ℤ xs) column den) k (pos 0)) e ∙ get_or-set_same (map neg_ℤ xs) column den (pos 0) (omega arith))
      | inr ne ↦ is ∙ merged_elsewhere (negsuc 0) (pos 0) column den f f j ne ∙ negated (f j)
          ∙ sym (get_or-set_other (map neg_ℤ xs) column j den (pos 0) ne ∙ get_or-map neg_ℤ xs j (pos 0) (pos 0) (omega arith)
          ∙ ap neg_ℤ (row_value_at cells n row j below))
    ])

pub turn_done : (n row column entering : ℕ) (hs hs' : List RowHead) (old new : LinkedCells) (head nh : RowHead) (c : ℤ) → AreSound old → AreProperHeads hs
    → row < length hs → column < n → pos 0 <ℤ value_in old.cells.items row column → head ≡ get_or hs row no_head →
    c ≡ value_in old.cells.items row column →
    ((j : ℕ) → j < n → value_in new.cells.items row j ≡ int_div
    (merged_cell (negsuc 0) (pos 0) column head.denominator (value_in old.cells.items row) (value_in old.cells.items row) j) (pos 1)) →
    hs' ≡ set hs row nh → nh ≡ record { basic = entering; denominator = c; constant = neg_ℤ head.constant } → AreSound new
    → length new.row_heads.items ≡ length old.row_heads.items → length new.column_heads.items ≡ length old.column_heads.items →
    ((r k : ℕ) → r ≢ row → value_in new.cells.items r k ≡ value_in old.cells.items r k)
    → length new.cells.items ≤ length old.cells.items + filled_places n (value_in old.cells.items row) (value_in new.cells.items row)
    → RowTurned n row column entering hs old hs' new
turn_done n row column entering hs hs' old new head nh c sound proper inside_row inside positive eh ec values set_ is sound' rl cl others held =
    let cells = old.cells.items in
    let here : get_or hs' row no_head ≡ nh = ap (λ (xs : List RowHead). get_or xs row no_head) set_ ∙ get_or-set_same hs row nh no_head inside_row in
    let elsewhere : (i : ℕ) → i ≢ row → get_or hs' i no_head ≡ get_or hs i no_head = λ i ne. ap (λ (xs : List RowHead). get_or xs i no_head) set_
    ∙ get_or-set_other hs row i nh no_head ne in
    let long = ap (λ (xs : List RowHead). length xs) set_ ∙ length-set hs row nh in
    let hp : IsProperHead head = subst IsProperHead (sym eh) (proper row inside_row) in
    let T = table_row cells n row head in
    let cell = row_value_at cells n row column inside in
    let first : table_row new.cells.items n row nh ≡ turned entering column T =
    record_same (table_row new.cells.items n row nh) (turned entering column T) (ap (λ (h : RowHead). h.basic) is)
    (ap (λ (h : RowHead). h.denominator) is ∙ ec ∙ sym cell) (ap (λ (h : RowHead). h.constant) is)
    (turned_cells cells new.cells.items n row column head.denominator inside values) in
    let tp = IsProper-turned n column entering T inside (subst (λ (z : ℤ). pos 0 <ℤ z) (sym cell) positive)
    (table_proper cells old.row_heads.items old.column_heads.items old.free_head n row head sound hp) in
    let np = subst (IsProper n) (sym first) tp in
    let nhp : IsProperHead nh = record { positive = np.positive; denominator = np.denominator; constant = np.constant } in
    record {
      sound = sound';
      row_heads = rl;
      column_heads = cl;
      long = long;
      proper = λ i below. elim (cases_eq i row) [
        | inl e ↦ subst IsProperHead (sym (ap (λ (k : ℕ). get_or hs' k no_head) e ∙ here)) nhp
        | inr ne ↦ subst IsProperHead (sym (elsewhere i ne)) (proper i (omega arith))
      ];
      others = others;
      other_heads = elsewhere;
      row_turned = ap (table_row new.cells.items n row) here ∙ first ∙ ap (λ (h : RowHead). turned entering column (table_row cells n row h)) eh;
      held = held;
    }
