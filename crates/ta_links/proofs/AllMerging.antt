-- Rows that are merged one after another
use Rattle.ta_links.proofs.Common.{◌≡◌, ◌≢◌, ◌⊎◌, inl, inr, ℕ, zero, suc, ℤ, pos, ◌+◌, ◌-◌, ◌<◌, ◌≤◌, List, [], ◌∷◌, length, map, drop, drop_of_length-le}
use Rattle.ta_links.proofs.Common.{get_or, arith, sym, ap, ◌∙◌, refl, subst, range_with_len, TableauRow, merged, MergesInRange, merged-zero, Cell, RowHead}
use Rattle.ta_links.proofs.Common.{LinkedCells, value_in, row_values, fills, filled_places, filled_rows, AreSound, table_row, no_head, AreProperHeads, row_in}
use Rattle.ta_links.proofs.Common.{RowMerged, IsSpared, RowStepped, MergeRefused, MergedBelow, RefusedFirst, IsNormal, coefficient, coefficient-below}
use Rattle.ta_links.proofs.Common.{IsNormal-le, coefficient-other, drop_more, cases_eq}
use Rattle.ta_links.proofs.LinkedFacts.{row_value_at}
use Rattle.ta_links.proofs.ColumnSteps.{filled_same, fills_same}

pub values_same : (cells new : List Cell) (n r : ℕ) → ((c : ℕ) → value_in new r c ≡ value_in cells r c) → row_values new n r ≡ row_values cells n r
values_same cells new n r same = go (range_with_len 0 n) where
  go : (xs : List ℕ) → map (value_in new r) xs ≡ map (value_in cells r) xs
  go [] = refl
  go (x ∷ xs) = ap (λ (z : ℤ). z ∷ map (value_in new r) xs) (same x) ∙ ap (λ (zs : List ℤ). value_in cells r x ∷ zs) (go xs)

pub row_same_in : (hs hs' : List RowHead) (old new : LinkedCells) (n r : ℕ) → ((c : ℕ) → value_in new.cells.items r c ≡ value_in old.cells.items r c)
    → get_or hs' r no_head ≡ get_or hs r no_head → row_in hs' new n r ≡ row_in hs old n r
row_same_in hs hs' old new n r same e =
    ap (table_row new.cells.items n r) e ∙ ap
    (λ (zs : List ℤ). record {
      basic = (get_or hs r no_head).basic;
      denominator = (get_or hs r no_head).denominator;
      constant =
          (get_or hs r no_head).constant;
      cells = zs;
    }) (values_same old.cells.items new.cells.items n r same)

pub filled_none : (n : ℕ) (f g : ℕ → ℤ) → ((j : ℕ) → g j ≡ f j) → filled_places n f g ≡ 0
filled_none zero f g same = refl
filled_none (suc n) f g same = let a = filled_none n f g same in let b = fills_same (f n) (g n) (sym (same n)) in omega arith

-- nothing is done
pub step_none : (first columns row at column : ℕ) (hs : List RowHead) (old : LinkedCells) → AreSound old → AreProperHeads hs → column < columns
    → IsSpared first row at ⊎ (value_in old.cells.items at column ≡ pos 0) → RowStepped first columns row at column hs old hs old
step_none first columns row at column hs old sound proper inside why = record {
  sound = sound;
  row_heads = refl;
  column_heads = refl;
  long = refl;
  proper = proper;
  others = λ r c w. refl;
  other_heads = λ i w. refl;
  row_merged = λ ne. elim why [
    | inl e ↦ absurd (ne e)
    | inr z ↦ sym (merged-zero column (row_in hs old columns row) (row_in hs old columns at) (row_value_at old.cells.items columns at column inside ∙ z))
  ];
  within = λ ne. elim why [
    | inl e ↦ absurd (ne e)
    | inr z ↦ λ apart. absurd (apart (row_value_at old.cells.items columns at column inside ∙ z))
  ];
  held = omega arith;
}

pub step_merged : (first columns row at column : ℕ) (hs hs' : List RowHead) (old new : LinkedCells) → ¬ (IsSpared first row at)
    → RowMerged columns row at column hs old hs' new → RowStepped first columns row at column hs old hs' new
step_merged first columns row at column hs hs' old new ne m = record {
  sound = m.sound;
  row_heads = m.row_heads;
  column_heads = m.column_heads;
  long = m.long;
  proper = m.proper;
  others = λ r c w. m.others r c (elim w [ inl a ↦ a | inr e ↦ λ same. ne (subst (IsSpared first row) same e) ]);
  other_heads = λ i w. m.other_heads i (elim w [ inl a ↦ a | inr e ↦ λ same. ne (subst (IsSpared first row) same e) ]);
  row_merged = λ _. m.row_merged;
  within = λ _. m.within;
  held = m.held;
}

pub filled_rows_same : (n columns : ℕ) (f g h : ℕ → ℕ → ℤ) → ((i j : ℕ) → i < n → h i j ≡ g i j) → filled_rows n columns f h ≡ filled_rows n columns f g
filled_rows_same zero columns f g h same = refl
filled_rows_same (suc n) columns f g h same =
    let rest = filled_rows_same n columns f g h (λ i j b. same i j (omega arith)) in
    let last = filled_same columns (f n) (g n) (h n) (λ j b. same n j (omega arith)) in
    omega arith

pub filled_from : (n : ℕ) (f f' g : ℕ → ℤ) → ((j : ℕ) → f j ≡ f' j) → filled_places n f g ≡ filled_places n f' g
filled_from zero f f' g same = refl
filled_from (suc n) f f' g same = let a = filled_from n f f' g same in let b = ap (λ (z : ℤ). fills z (g n)) (same n) in omega arith

-- a row that wasn't reached is as it was
pub unreached : (first columns row column : ℕ) (hs : List RowHead) (old : LinkedCells) (place : ℕ) (hs1 : List RowHead) (now : LinkedCells)
    → MergedBelow first columns row column hs old place hs1 now → (i : ℕ) → (place ≤ i) ⊎ IsSpared first row i
    → row_in hs1 now columns i ≡ row_in hs old columns i
unreached first columns row column hs old place hs1 now m i w = row_same_in hs hs1 old now columns i (λ c. m.rest i c w) (m.rest_heads i w)

pub refused_here : (first columns row column : ℕ) (hs : List RowHead) (old : LinkedCells) (place rows : ℕ) (hs1 : List RowHead) (now : LinkedCells)
    → place < rows → MergedBelow first columns row column hs old place hs1 now → MergeRefused first columns row place column hs1 now
    → RefusedFirst first columns row column hs old rows place
refused_here first columns row column hs old place rows hs1 now inside m s = record {
  inside = inside;
  refused = record {
    apart = s.apart;
    refused = subst (λ (t : TableauRow). ¬ (MergesInRange column t (row_in hs old columns place)))
        (unreached first columns row column hs old place hs1 now m row (inr (inr refl)))
        (subst (λ (t : TableauRow). ¬ (MergesInRange column (row_in hs1 now columns row) t))
        (unreached first columns row column hs old place hs1 now m place (inl (omega arith))) s.refused);
  };
  before = m.within;
}

pub merged_more : (first columns row column : ℕ) (hs : List RowHead) (old : LinkedCells) (place : ℕ) (hs1 : List RowHead) (now : LinkedCells)
    (hs2 : List RowHead) (new : LinkedCells) → MergedBelow first columns row column hs old place hs1 now
    → RowStepped first columns row place column hs1 now hs2 new →
    MergedBelow first columns row column hs old (place + 1) hs2 new
merged_more first columns row column hs old place hs1 now hs2 new m s =
    let chosen = unreached first columns row column hs old place hs1 now m row (inr (inr refl)) in
    let here = unreached first columns row column hs old place hs1 now m place (inl (omega arith)) in
    let apart : (i : ℕ) → (place + 1 ≤ i) ⊎ IsSpared first row i → (i ≢ place)
    ⊎ IsSpared first row i = λ i w. elim w [ inl b ↦ inl (λ e. omega arith) | inr e ↦ inr e ] in
    let before : (i : ℕ) → (place + 1 ≤ i) ⊎ IsSpared first row i → (place ≤ i)
    ⊎ IsSpared first row i = λ i w. elim w [ inl b ↦ inl (omega arith) | inr e ↦ inr e ] in
    record {
      sound = s.sound;
      row_heads = s.row_heads ∙ m.row_heads;
      column_heads = s.column_heads ∙ m.column_heads;
      long = s.long ∙ m.long;
      proper = s.proper;
      rest = λ i c w. s.others i c (apart i w) ∙ m.rest i c (before i w);
      rest_heads = λ i w. s.other_heads i (apart i w) ∙ m.rest_heads i (before i w);
      done = λ i b ne. elim (cases_eq i place) [
        | inl e ↦ subst (λ (k : ℕ). row_in hs2 new columns k ≡ merged column (row_in hs old columns row) (row_in hs old columns k)) (sym e)
            (s.row_merged (λ same. ne (subst (IsSpared first row) (sym e) same))
            ∙ ap (λ (t : TableauRow). merged column t (row_in hs1 now columns place)) chosen ∙ ap (merged column (row_in hs old columns row)) here)
        | inr apart_ ↦ row_same_in hs1 hs2 now new columns i (λ c. s.others i c (inl apart_)) (s.other_heads i (inl apart_)) ∙ m.done i (omega arith) ne
      ];
      within = λ i b ne. elim (cases_eq i place) [
        | inl e ↦ subst (λ (k : ℕ). MergesInRange column (row_in hs old columns row) (row_in hs old columns k)) (sym e)
            (subst (λ (t : TableauRow). MergesInRange column t (row_in hs old columns place)) chosen
            (subst (λ (t : TableauRow). MergesInRange column (row_in hs1 now columns row) t) here
            (s.within (λ same. ne (subst (IsSpared first row) (sym e) same)))))
        | inr apart_ ↦ m.within i (omega arith) ne
      ];
      held =
          let more : place + 1 ≡ suc place = omega arith in
          let rows_ = filled_rows_same place columns (value_in old.cells.items) (value_in now.cells.items) (value_in new.cells.items)
          (λ i j b. s.others i j (inl (λ e. omega arith))) in
          let from = filled_from columns (value_in now.cells.items place) (value_in old.cells.items place) (value_in new.cells.items place)
          (λ j. m.rest place j (inl (omega arith))) in
          subst (λ (k : ℕ). length new.cells.items ≤ length old.cells.items + filled_rows k columns (value_in old.cells.items) (value_in new.cells.items))
          (sym more) (omega arith);
    }

-- rows without a cell in the column are passed
pub merged_skip : (first columns row column : ℕ) (hs : List RowHead) (old : LinkedCells) (place more : ℕ) (hs1 : List RowHead) (now : LinkedCells)
    → column < columns → MergedBelow first columns row column hs old place hs1 now
    → ((i : ℕ) → place ≤ i → i < place + more → value_in old.cells.items i column ≡ pos 0) →
    MergedBelow first columns row column hs old (place + more) hs1 now
merged_skip first columns row column hs old place zero hs1 now inside m none = subst (λ (k : ℕ). MergedBelow first columns row column hs old k hs1 now)
    (omega arith) m
merged_skip first columns row column hs old place (suc more) hs1 now inside m none =
    let here : value_in now.cells.items place column ≡ pos 0 = m.rest place column (inl (omega arith)) ∙ none place (omega arith) (omega arith) in
    let step = merged_more first columns row column hs old place hs1 now hs1 now m
    (step_none first columns row place column hs1 now m.sound m.proper inside (inr here)) in
    let e : (place + 1) + more ≡ place + suc more = omega arith in
    subst (λ (k : ℕ). MergedBelow first columns row column hs old k hs1 now) e
    (merged_skip first columns row column hs old (place + 1) more hs1 now inside step (λ i low high. none i (omega arith) (omega arith)))

-- the rows of a list of the column's cells were merged as far as an index
pub record Meeting (first columns row column : ℕ) (hs : List RowHead) (old : LinkedCells) (met : List (ℕ × ℤ)) (index : ℕ) (hs' : List RowHead)
    (now : LinkedCells) : Type 0 where
  pub place : ℕ
  pub below : MergedBelow first columns row column hs old place hs' now
  pub todo : IsNormal place (length hs) (drop index met)
  pub numbers : (i : ℕ) → place ≤ i → value_in old.cells.items i column ≡ coefficient (drop index met) i

-- the rows before the next one of the list are passed
pub record AtNext (first columns row column : ℕ) (hs : List RowHead) (old : LinkedCells) (met : List (ℕ × ℤ)) (index at : ℕ) (hs' : List RowHead)
    (now : LinkedCells) : Type 0 where
  pub below : MergedBelow first columns row column hs old at hs' now
  pub inside : at < length hs
  pub todo : IsNormal (at + 1) (length hs) (drop (index + 1) met)
  pub numbers : (i : ℕ) → at + 1 ≤ i → value_in old.cells.items i column ≡ coefficient (drop (index + 1) met) i

pub next_met : (first columns row column : ℕ) (hs : List RowHead) (old : LinkedCells) (met : List (ℕ × ℤ)) (index : ℕ) (d : ℕ × ℤ) (hs1 : List RowHead)
    (now : LinkedCells) → column < columns → Meeting first columns row column hs old met index hs1 now → index < length met →
    AtNext first columns row column hs old met index (get_or met index d).0 hs1 now
next_met first columns row column hs old met index d hs1 now column_inside m h =
    let t = get_or met index d in
    let rest = drop (index + 1) met in
    let n = length hs in
    let split = drop_more met index d h in
    let todo : IsNormal m.place n (t ∷ rest) = subst (IsNormal m.place n) split m.todo in
    let low : m.place ≤ t.0 = todo.0 in
    let high = IsNormal-le (t.0 + 1) n rest todo.2 in
    let own : IsNormal t.0 n (t ∷ rest) = (omega arith, todo.1, todo.2) in
    let none : (i : ℕ) → m.place ≤ i → i < m.place + (t.0 - m.place) → value_in old.cells.items i column ≡ pos 0 =
    λ i from to. m.numbers i from ∙ ap (λ (xs : List (ℕ × ℤ)). coefficient xs i) split ∙ coefficient-below t.0 n (t ∷ rest) i own (omega arith) in
    let skipped = merged_skip first columns row column hs old m.place (t.0 - m.place) hs1 now column_inside m.below none in
    let e : m.place + (t.0 - m.place) ≡ t.0 = omega arith in
    record {
      below = subst (λ (k : ℕ). MergedBelow first columns row column hs old k hs1 now) e skipped;
      inside = omega arith;
      todo = todo.2;
      numbers = λ i from. m.numbers i (omega arith) ∙ ap (λ (xs : List (ℕ × ℤ)). coefficient xs i) split ∙ coefficient-other t rest i (λ same. omega arith);
    }

pub met_more : (first columns row column : ℕ) (hs : List RowHead) (old : LinkedCells) (met : List (ℕ × ℤ)) (index at : ℕ) (hs1 : List RowHead)
    (now : LinkedCells) (hs2 : List RowHead) (new : LinkedCells) → AtNext first columns row column hs old met index at hs1 now
    → RowStepped first columns row at column hs1 now hs2 new →
    Meeting first columns row column hs old met (index + 1) hs2 new
met_more first columns row column hs old met index at hs1 now hs2 new a s = record {
  place = at + 1;
  below = merged_more first columns row column hs old at hs1 now hs2 new a.below s;
  todo = a.todo;
  numbers = a.numbers;
}

pub met_all : (first columns row column : ℕ) (hs : List RowHead) (old : LinkedCells) (met : List (ℕ × ℤ)) (index : ℕ) (hs1 : List RowHead) (now : LinkedCells)
    → column < columns → Meeting first columns row column hs old met index hs1 now → length met ≤ index →
    MergedBelow first columns row column hs old (length hs) hs1 now
met_all first columns row column hs old met index hs1 now column_inside m h =
    let none : drop index met ≡ [] = drop_of_length-le met h in
    let high : m.place ≤ length hs = IsNormal-le m.place (length hs) (drop index met) m.todo in
    let e : m.place + (length hs - m.place) ≡ length hs = omega arith in
    subst (λ (k : ℕ). MergedBelow first columns row column hs old k hs1 now) e
    (merged_skip first columns row column hs old m.place (length hs - m.place) hs1 now column_inside m.below
    (λ i from to. m.numbers i from ∙ ap (λ (xs : List (ℕ × ℤ)). coefficient xs i) none))

pub not_spared_by : (first row at : ℕ) → first ≤ at → at ≢ row → ¬ (IsSpared first row at)
not_spared_by first row at high ne s = elim s [ inl low ↦ omega arith | inr e ↦ ne e ]
