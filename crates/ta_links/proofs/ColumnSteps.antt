-- A row that is written over, column by column
use Rattle.ta_links.proofs.Common.{◌≡◌, ◌≢◌, inl, inr, ℕ, zero, suc, ℤ, pos, negsuc, ◌+◌, ◌<◌, ◌≤◌, List, [], ◌∷◌, length, drop, get_or, drop_of_length-le}
use Rattle.ta_links.proofs.Common.{arith, sym, ap, ◌∙◌, refl, subst, Option, None, cases_lt, IsNormal, coefficient, coefficient-below, IsNormal-le}
use Rattle.ta_links.proofs.Common.{coefficient-other, coefficient-first, LinkedCells, along_rows, value_in, written, fills, filled_places, AreSound, MayBefore}
use Rattle.ta_links.proofs.Common.{drop_more, cases_eq}
use Rattle.ta_links.proofs.Writing.{written_here, written_elsewhere}

pub fills_same : (a b : ℤ) → a ≡ b → fills a b ≡ 0
fills_same (pos zero) (pos zero) e = refl
fills_same (pos zero) (pos (suc n)) e = absurd (cc)
fills_same (pos zero) (negsuc n) e = absurd (cc)
fills_same (pos (suc m)) b e = refl
fills_same (negsuc m) b e = refl

pub filled_same : (n : ℕ) (f g h : ℕ → ℤ) → ((j : ℕ) → j < n → h j ≡ g j) → filled_places n f h ≡ filled_places n f g
filled_same zero f g h same = refl
filled_same (suc n) f g h same =
    let rest = filled_same n f g h (λ j b. same j (omega arith)) in
    let last = ap (fills (f n)) (same n (omega arith)) in
    omega arith

-- one number of a row is written that was as before
pub filled_step : (n : ℕ) (f g h : ℕ → ℤ) (c : ℕ) → c < n → g c ≡ f c → ((j : ℕ) → j ≢ c → h j ≡ g j)
    → filled_places n f h ≡ filled_places n f g + fills (f c) (h c)
filled_step zero f g h c inside here rest = absurd (omega arith)
filled_step (suc n) f g h c inside here rest = elim (cases_eq c n) [
  | inl e ↦
      let below = filled_same n f g h (λ j b. rest j (omega arith)) in
      let old : fills (f n) (g n) ≡ 0 = fills_same (f n) (g n) (ap f (sym e) ∙ sym here ∙ ap g e) in
      let new : fills (f n) (h n) ≡ fills (f c) (h c) = ap (λ (k : ℕ). fills (f k) (h k)) (sym e) in
      omega arith
  | inr ne ↦
      let below = filled_step n f g h c (omega arith) here rest in
      let last = ap (fills (f n)) (rest n (λ e. ne (sym e))) in
      omega arith
]

-- a row was written over as far as an index of a list
pub record Overwritten (old : LinkedCells) (row : ℕ) (list form : List (ℕ × ℤ)) (index : ℕ) (left : Option ℕ) (now : LinkedCells) : Type 0 where
  pub low : ℕ
  pub todo : IsNormal low (length old.column_heads.items) (drop index list)
  pub sound : AreSound now
  pub rows : length now.row_heads.items ≡ length old.row_heads.items
  pub columns : length now.column_heads.items ≡ length old.column_heads.items
  pub start : MayBefore along_rows now.cells.items row low left
  pub others : (r c : ℕ) → r ≢ row → value_in now.cells.items r c ≡ value_in old.cells.items r c
  pub done : (c : ℕ) → c < low → coefficient list c ≢ pos 0 → value_in now.cells.items row c ≡ coefficient form c
  pub kept : (c : ℕ) → (c < low → coefficient list c ≡ pos 0) → value_in now.cells.items row c ≡ value_in old.cells.items row c
  pub same : (c : ℕ) → low ≤ c → coefficient list c ≡ coefficient (drop index list) c
  pub fresh : old.free_head ≡ None → ((c : ℕ) → value_in old.cells.items row c ≡ pos 0) → now.free_head ≡ None
  pub held : length now.cells.items ≤ length old.cells.items + filled_places (length old.column_heads.items) (value_in old.cells.items row)
      (value_in now.cells.items row)

pub overwriting : (old : LinkedCells) (row : ℕ) (list form : List (ℕ × ℤ)) → AreSound old → IsNormal 0 (length old.column_heads.items) list
    → Overwritten old row list form 0 None old
overwriting old row list form sound normal = record {
  low = 0;
  todo = normal;
  sound = sound;
  rows = refl;
  columns = refl;
  start = λ h e. absurd (cc);
  others = λ r c ne. refl;
  done = λ c b ne. absurd (omega arith);
  kept = λ c h. refl;
  same = λ c b. refl;
  fresh = λ e empty. e;
  held = omega arith;
}

-- the next column is one of the row's
pub next_column : (old : LinkedCells) (row : ℕ) (list form : List (ℕ × ℤ)) (index : ℕ) (left : Option ℕ) (now : LinkedCells) (d : ℕ × ℤ)
    → Overwritten old row list form index left now → index < length list →
    ((get_or list index d).0 < length now.column_heads.items) × MayBefore along_rows now.cells.items row (get_or list index d).0 left
next_column old row list form index left now d w h =
    let t = get_or list index d in
    let todo : IsNormal w.low (length old.column_heads.items) (t ∷ drop (index + 1) list) = subst (IsNormal w.low (length old.column_heads.items))
    (drop_more list index d h) w.todo in
    let high = IsNormal-le (t.0 + 1) (length old.column_heads.items) (drop (index + 1) list) todo.2 in
    let low = todo.0 in
    (omega arith, λ k e. let b = w.start k e in let under = b.low in record { live = b.live; here = b.here; low = omega arith })

-- after it was written
pub record PutOver (now : LinkedCells) (row column : ℕ) (value : ℤ) (left : Option ℕ) (new : LinkedCells) : Type 0 where
  pub sound : AreSound new
  pub rows : length new.row_heads.items ≡ length now.row_heads.items
  pub columns : length new.column_heads.items ≡ length now.column_heads.items
  pub values : (r c : ℕ) → value_in new.cells.items r c ≡ written (value_in now.cells.items) row column value r c
  pub before : MayBefore along_rows new.cells.items row column left
  pub fresh : now.free_head ≡ None → value_in now.cells.items row column ≡ pos 0 → new.free_head ≡ None
  pub held : length new.cells.items ≤ length now.cells.items + fills (value_in now.cells.items row column) value

pub overwritten_more : (old : LinkedCells) (row : ℕ) (list form : List (ℕ × ℤ)) (index : ℕ) (left : Option ℕ) (now : LinkedCells) (d : ℕ × ℤ) (value : ℤ)
    (left' : Option ℕ) (new : LinkedCells) → Overwritten old row list form index left now → index < length list →
    value ≡ coefficient form (get_or list index d).0 → PutOver now row (get_or list index d).0 value left' new
    → Overwritten old row list form (index + 1) left' new
overwritten_more old row list form index left now d value left' new w h is p =
    let t = get_or list index d in
    let rest = drop (index + 1) list in
    let n = length old.column_heads.items in
    let split = drop_more list index d h in
    let todo : IsNormal w.low n (t ∷ rest) = subst (IsNormal w.low n) split w.todo in
    let low = todo.0 in
    let high = IsNormal-le (t.0 + 1) n rest todo.2 in
    let f = value_in now.cells.items in
    let listed : (c : ℕ) → w.low ≤ c → coefficient list c ≡ coefficient (t ∷ rest) c = λ c b. w.same c b ∙ ap (λ (xs : List (ℕ × ℤ)). coefficient xs c) split in
    let own : coefficient list t.0 ≢ pos 0 = λ e. todo.1.not_zero (sym (coefficient-first n t rest todo.2) ∙ sym (listed t.0 low) ∙ e) in
    let here : value_in new.cells.items row t.0 ≡ value = p.values row t.0 ∙ written_here f row t.0 value row t.0 refl refl in
    let elsewhere : (c : ℕ) → c ≢ t.0 → value_in new.cells.items row c ≡ f row c = λ c ne. p.values row c
    ∙ written_elsewhere f row t.0 value row c (inr (λ e. ne (sym e))) in
    let was : f row t.0 ≡ value_in old.cells.items row t.0 = w.kept t.0 (λ b. absurd (omega arith)) in
    record {
      low = t.0 + 1;
      todo = todo.2;
      sound = p.sound;
      rows = p.rows ∙ w.rows;
      columns = p.columns ∙ w.columns;
      start = λ k e. let b = p.before k e in let under = b.low in record { live = b.live; here = b.here; low = omega arith };
      others = λ r c ne. p.values r c ∙ written_elsewhere f row t.0 value r c (inl (λ e. ne (sym e))) ∙ w.others r c ne;
      done = λ c b ne. elim (cases_eq c t.0) [
        | inl e ↦ ap (value_in new.cells.items row) e ∙ here ∙ is ∙ ap (coefficient form) (sym e)
        | inr apart ↦ elim (cases_lt c w.low) [
          | inl under ↦ elsewhere c apart ∙ w.done c under ne
          | inr over ↦ absurd (ne (listed c over ∙ coefficient-below t.0 n (t ∷ rest) c (omega arith, todo.1, todo.2) (omega arith)))
        ]
      ];
      kept = λ c cond.
          let apart : c ≢ t.0 = λ e. own (ap (coefficient list) (sym e) ∙ cond (omega arith)) in
          elsewhere c apart ∙ w.kept c (λ b. cond (omega arith));
      same = λ c b. listed c (omega arith) ∙ coefficient-other t rest c (λ e. omega arith);
      fresh = λ e empty. p.fresh (w.fresh e empty) (was ∙ empty t.0);
      held =
          let step = filled_step n (value_in old.cells.items row) (f row) (value_in new.cells.items row) t.0 (omega arith) was (λ j ne. elsewhere j ne) in
          let one : fills (f row t.0) value ≡ fills (value_in old.cells.items row t.0) (value_in new.cells.items row t.0) = ap (λ (z : ℤ). fills z value) was
          ∙ ap (fills (value_in old.cells.items row t.0)) (sym here) in
          omega arith;
    }

pub record OverDone (old : LinkedCells) (row : ℕ) (list form : List (ℕ × ℤ)) (now : LinkedCells) : Type 0 where
  pub listed : (c : ℕ) → coefficient list c ≢ pos 0 → value_in now.cells.items row c ≡ coefficient form c
  pub rest : (c : ℕ) → coefficient list c ≡ pos 0 → value_in now.cells.items row c ≡ value_in old.cells.items row c

pub overwritten_all : (old : LinkedCells) (row : ℕ) (list form : List (ℕ × ℤ)) (index : ℕ) (left : Option ℕ) (now : LinkedCells)
    → Overwritten old row list form index left now → length list ≤ index → OverDone old row list form now
overwritten_all old row list form index left now w end =
    let none : drop index list ≡ [] = drop_of_length-le list end in
    record {
      listed = λ c ne. elim (cases_lt c w.low) [
        | inl under ↦ w.done c under ne
        | inr over ↦ absurd (ne (w.same c over ∙ ap (λ (xs : List (ℕ × ℤ)). coefficient xs c) none))
      ];
      rest = λ c e. w.kept c (λ b. e);
    }
