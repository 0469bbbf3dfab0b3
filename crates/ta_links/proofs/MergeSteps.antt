-- A row that is merged place by place
use Rattle.ta_links.proofs.Common.{◌≡◌, ◌≢◌, inl, inr, ℕ, suc, ℤ, pos, ◌+◌, ◌*ℤ◌, ◌-ℤ◌, ◌<ℤ◌, ◌<◌, ◌≤◌, List, length, arith, sym, ap, ◌∙◌, refl, subst, Option}
use Rattle.ta_links.proofs.Common.{Some, None, IfSome, IfNone, unsigned_abs, int_div, eqb_tells, pos_out, in_range-div, InRange, CombinesInRange, Cell}
use Rattle.ta_links.proofs.Common.{LinkedCells, along_rows, value_in, fills, filled_places, AreSound, MayBefore, merged_cell, MergesAt, gcd_below, gcd_of}
use Rattle.ta_links.proofs.Common.{cases_eq}
use Rattle.std.specs.Option.{SomeIff}
use Rattle.ta_links.proofs.Writing.{written_here, written_elsewhere}
use Rattle.ta_links.proofs.ColumnSteps.{PutOver, filled_step}

pub quotient_fits : (z d : ℤ) → pos 0 <ℤ d → InRange z → InRange (int_div z d)
quotient_fits z d positive h = let out = pos_out d positive in subst (λ (e : ℤ). InRange (int_div z e)) (sym out.1) (in_range-div z (suc out.0) h)

pub merged_here : (p q : ℤ) (column : ℕ) (turned : ℤ) (f g : ℕ → ℤ) (j : ℕ) → j ≡ column → merged_cell p q column turned f g j ≡ turned
merged_here p q column turned f g j e = elim (eqb_tells j column) [ inl a ↦ rw a.0 refl | inr ne ↦ absurd (ne.1 e) ]

pub merged_elsewhere : (p q : ℤ) (column : ℕ) (turned : ℤ) (f g : ℕ → ℤ) (j : ℕ) → j ≢ column → merged_cell p q column turned f g j ≡ (p *ℤ f j -ℤ q *ℤ g j)
merged_elsewhere p q column turned f g j ne = elim (eqb_tells j column) [ inl a ↦ absurd (ne a.1) | inr a ↦ rw a.0 refl ]

pub merged_same : (p q : ℤ) (column : ℕ) (turned : ℤ) (f g f' g' : ℕ → ℤ) (j : ℕ) → f j ≡ f' j → g j ≡ g' j
    → merged_cell p q column turned f g j ≡ merged_cell p q column turned f' g' j
merged_same p q column turned f g f' g' j e h = elim (cases_eq j column) [
  | inl a ↦ merged_here p q column turned f g j a ∙ sym (merged_here p q column turned f' g' j a)
  | inr ne ↦ merged_elsewhere p q column turned f g j ne ∙ ap (λ (z : ℤ). p *ℤ z -ℤ q *ℤ g j) e ∙ ap (λ (z : ℤ). p *ℤ f' j -ℤ q *ℤ z) h
      ∙ sym (merged_elsewhere p q column turned f' g' j ne)
]

pub merges_same : (p q : ℤ) (column : ℕ) (f g f' g' : ℕ → ℤ) (j : ℕ) → f j ≡ f' j → g j ≡ g' j → MergesAt p q column f g j → MergesAt p q column f' g' j
merges_same p q column f g f' g' j e h m ne = subst (λ (z : ℤ). CombinesInRange p z q (g' j)) e (subst (λ (z : ℤ). CombinesInRange p (f j) q z) h (m ne))

-- what stands before a place stands before the next one
pub may_before_next : (cells : List Cell) (row place : ℕ) (o : Option ℕ) → MayBefore along_rows cells row place o → MayBefore along_rows cells row (place + 1) o
may_before_next cells row place o m h e = let b = m h e in let under = b.low in record { live = b.live; here = b.here; low = omega arith }

-- a row was merged as far as a place
pub record Rewritten (old : LinkedCells) (columns row at : ℕ) (p q : ℤ) (column : ℕ) (turned divisor : ℤ) (place : ℕ) (left chosen : Option ℕ)
    (now : LinkedCells) : Type 0 where
  pub sound : AreSound now
  pub rows : length now.row_heads.items ≡ length old.row_heads.items
  pub same_columns : length now.column_heads.items ≡ length old.column_heads.items
  pub start : MayBefore along_rows now.cells.items at place left
  pub front : MayBefore along_rows now.cells.items row place chosen
  pub others : (r c : ℕ) → r ≢ at → value_in now.cells.items r c ≡ value_in old.cells.items r c
  pub done : (j : ℕ) → j < place → value_in now.cells.items at j ≡ int_div
      (merged_cell p q column turned (value_in old.cells.items at) (value_in old.cells.items row) j) divisor
  pub rest : (j : ℕ) → place ≤ j → value_in now.cells.items at j ≡ value_in old.cells.items at j
  pub held : length now.cells.items ≤ length old.cells.items + filled_places columns (value_in old.cells.items at) (value_in now.cells.items at)

-- the chosen row's number at the next place is as before, also if it is the row that is written
pub chosen_kept : (old : LinkedCells) (columns row at : ℕ) (p q : ℤ) (column : ℕ) (turned divisor : ℤ) (place : ℕ) (left chosen : Option ℕ) (now : LinkedCells)
    → Rewritten old columns row at p q column turned divisor place left chosen now →
    value_in now.cells.items row place ≡ value_in old.cells.items row place
chosen_kept old columns row at p q column turned divisor place left chosen now w = elim (cases_eq row at) [
  | inl e ↦ ap (λ (r : ℕ). value_in now.cells.items r place) e ∙ w.rest place (omega arith) ∙ ap (λ (r : ℕ). value_in old.cells.items r place) (sym e)
  | inr ne ↦ w.others row place ne
]

pub rewritten_more : (old : LinkedCells) (columns row at : ℕ) (p q : ℤ) (column : ℕ) (turned divisor : ℤ) (place : ℕ) (left chosen : Option ℕ)
    (now : LinkedCells) (cell : ℤ) (left' chosen' : Option ℕ) (new : LinkedCells) → Rewritten old columns row at p q column turned divisor place left chosen now
    → place < columns →
    cell ≡ merged_cell p q column turned (value_in now.cells.items at) (value_in now.cells.items row) place
    → PutOver now at place (int_div cell divisor) left' new → MayBefore along_rows new.cells.items row place chosen'
    → Rewritten old columns row at p q column turned divisor (place + 1) left' chosen' new
rewritten_more old columns row at p q column turned divisor place left chosen now cell left' chosen' new w inside is o front =
    let f = value_in now.cells.items in
    let v = int_div cell divisor in
    let was = w.rest place (omega arith) in
    let kept = chosen_kept old columns row at p q column turned divisor place left chosen now w in
    let here : value_in new.cells.items at place ≡ v = o.values at place ∙ written_here f at place v at place refl refl in
    let elsewhere : (c : ℕ) → c ≢ place → value_in new.cells.items at c ≡ f at c = λ c ne. o.values at c
    ∙ written_elsewhere f at place v at c (inr (λ e. ne (sym e))) in
    let target : cell ≡ merged_cell p q column turned (value_in old.cells.items at) (value_in old.cells.items row) place = is
    ∙ merged_same p q column turned (f at) (f row) (value_in old.cells.items at) (value_in old.cells.items row) place was kept in
    record {
      sound = o.sound;
      rows = o.rows ∙ w.rows;
      same_columns = o.columns ∙ w.same_columns;
      start = may_before_next new.cells.items at place left' o.before;
      front = may_before_next new.cells.items row place chosen' front;
      others = λ r c ne. o.values r c ∙ written_elsewhere f at place v r c (inl (λ e. ne (sym e))) ∙ w.others r c ne;
      done = λ j b. elim (cases_eq j place) [
        | inl e ↦ ap (value_in new.cells.items at) e ∙ here ∙ ap (λ (z : ℤ). int_div z divisor) target
            ∙ ap (λ (k : ℕ). int_div (merged_cell p q column turned (value_in old.cells.items at) (value_in old.cells.items row) k) divisor) (sym e)
        | inr ne ↦ elsewhere j ne ∙ w.done j (omega arith)
      ];
      rest = λ j b. elsewhere j (λ e. omega arith) ∙ w.rest j (omega arith);
      held =
          let step = filled_step columns (value_in old.cells.items at) (f at) (value_in new.cells.items at) place inside was (λ j ne. elsewhere j ne) in
          let one : fills (f at place) v ≡ fills (value_in old.cells.items at place) (value_in new.cells.items at place) = ap (λ (z : ℤ). fills z v) was
          ∙ ap (fills (value_in old.cells.items at place)) (sym here) in
          omega arith;
    }

-- what is told of a merged number
pub record Told (o : Option ℤ) (p q : ℤ) (column : ℕ) (turned : ℤ) (f g : ℕ → ℤ) (j : ℕ) : Type 0 where
  pub value : IfSome o (λ z. z ≡ merged_cell p q column turned f g j)
  pub fits : IfSome o InRange
  pub within : IfSome o (λ _. MergesAt p q column f g j)
  pub refused : IfNone o (¬ (MergesAt p q column f g j))

pub merged_told : (o : Option ℤ) (p q : ℤ) (column : ℕ) (turned : ℤ) (f g : ℕ → ℤ) (j : ℕ) (n m : ℤ) → n ≡ f j → m ≡ g j → j ≢ column
    → SomeIff o (CombinesInRange p n q m) (p *ℤ n -ℤ q *ℤ m) → Told o p q column turned f g j
merged_told None p q column turned f g j n m e h ne s = record {
  value = tt;
  fits = tt;
  within = tt;
  refused = λ all. s (subst (λ (z : ℤ). CombinesInRange p z q m) (sym e) (subst (λ (z : ℤ). CombinesInRange p (f j) q z) (sym h) (all ne)));
}
merged_told (Some x) p q column turned f g j n m e h ne s = record {
  value = s.1 ∙ ap (λ (z : ℤ). p *ℤ z -ℤ q *ℤ m) e ∙ ap (λ (z : ℤ). p *ℤ f j -ℤ q *ℤ z) h ∙ sym (merged_elsewhere p q column turned f g j ne);
  fits = subst InRange (sym s.1) s.0.difference;
  within = λ apart. subst (λ (z : ℤ). CombinesInRange p z q (g j)) e (subst (λ (z : ℤ). CombinesInRange p n q z) h s.0);
  refused = tt;
}

pub gcd_more : (first : ℕ) (f : ℕ → ℤ) (n d : ℕ) (x : ℤ) (r : ℕ) → d ≡ gcd_below first f n → x ≡ f n → r ≡ gcd_of d (unsigned_abs x)
    → r ≡ gcd_below first f (n + 1)
gcd_more first f n d x r e h is =
    let more : suc n ≡ n + 1 = omega arith in
    is ∙ ap (λ (k : ℕ). gcd_of k (unsigned_abs x)) e ∙ ap (λ (z : ℤ). gcd_of (gcd_below first f n) (unsigned_abs z)) h ∙ ap (gcd_below first f) more
