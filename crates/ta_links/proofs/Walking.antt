-- What a walk along a line comes to next
use Rattle.ta_links.proofs.Common.{◌≡◌, ◌≢◌, inl, inr, ℕ, pos, List, arith, sym, ◌∙◌, refl, Option, Some, None, IfSome, IfNone, Cell, Way, Rows, Columns}
use Rattle.ta_links.proofs.Common.{cell_at, IsLive, line_at, place_at, IsChained, direction, following, line_value_at, IsOn, MayBeOn, IsNext, NoneLeft}
use Rattle.ta_links.proofs.Common.{LinkedCells, AreSound, heads_of}
use Rattle.ta_links.proofs.Cells.{value_none, value_found}

-- the number at a place without a live cell, and with one
number_none : (way : Way) (cells : List Cell) (line place : ℕ)
    → ((k : ℕ) → IsLive cells k → line_at (direction way) cells k ≡ line → place_at (direction way) cells k ≢ place)
    → line_value_at way cells line place ≡ pos 0
number_none Rows cells line place none = value_none cells line place none
number_none Columns cells line place none = value_none cells place line (λ k live e f. none k live f e)

number_found : (way : Way) (cells : List Cell) (line : ℕ) (j : ℕ)
    → ((i k : ℕ) → IsLive cells i → IsLive cells k → (cell_at cells i).row ≡ (cell_at cells k).row → (cell_at cells i).column ≡ (cell_at cells k).column
    → i ≡ k) → IsOn way cells line j →
    line_value_at way cells line (place_at (direction way) cells j) ≡ (cell_at cells j).value
number_found Rows cells line j one on = value_found cells j line (cell_at cells j).column on.live on.here refl
    (λ k live e f. one k j live on.live (e ∙ sym on.here) f)
number_found Columns cells line j one on = value_found cells j (cell_at cells j).row line on.live refl on.here
    (λ k live e f. one k j live on.live e (f ∙ sym on.here))

next_from : (way : Way) (cells : List Cell) (heads : List (Option ℕ)) (line : ℕ) (before : Option ℕ) (j : ℕ)
    → ((i k : ℕ) → IsLive cells i → IsLive cells k → (cell_at cells i).row ≡ (cell_at cells k).row → (cell_at cells i).column ≡ (cell_at cells k).column
    → i ≡ k) →
    IsChained (direction way) cells heads → MayBeOn way cells line before → following (direction way) cells heads line before ≡ Some j
    → IsNext way cells line before j
next_from way cells heads line None j one chained may e =
    let f = chained.first line j e in
    let on : IsOn way cells line j = record { live = f.live; here = f.here } in
    record {
      on = on;
      further = omega arith;
      passed = λ p low high. number_none way cells line p (λ k live at same. let least = f.least k live at in omega arith);
      value = number_found way cells line j one on;
    }
next_from way cells heads line (Some h) j one chained may e =
    let m = may h refl in
    let f = chained.next h j m.live e in
    let on : IsOn way cells line j = record { live = f.live; here = f.here ∙ m.here } in
    record {
      on = on;
      further = omega arith;
      passed = λ p low high. number_none way cells line p
          (λ k live at same. elim (f.nothing_between k live (at ∙ sym m.here)) [ inl x ↦ omega arith | inr y ↦ omega arith ]);
      value = number_found way cells line j one on;
    }

none_from : (way : Way) (cells : List Cell) (heads : List (Option ℕ)) (line : ℕ) (before : Option ℕ) → IsChained (direction way) cells heads
    → MayBeOn way cells line before → following (direction way) cells heads line before ≡ None → NoneLeft way cells line before
none_from way cells heads line None chained may e p low = number_none way cells line p (λ k live at same. chained.empty line e k live at)
none_from way cells heads line (Some h) chained may e p low =
    let m = may h refl in
    number_none way cells line p (λ k live at same. let last = chained.last h m.live e k live (at ∙ sym m.here) in omega arith)

pub walk_next : (way : Way) (cells : List Cell) (heads : List (Option ℕ)) (line : ℕ) (before next : Option ℕ)
    → ((i k : ℕ) → IsLive cells i → IsLive cells k → (cell_at cells i).row ≡ (cell_at cells k).row → (cell_at cells i).column ≡ (cell_at cells k).column
    → i ≡ k) →
    IsChained (direction way) cells heads → MayBeOn way cells line before → next ≡ following (direction way) cells heads line before
    → IfSome next (IsNext way cells line before)
walk_next way cells heads line before None one chained may e = tt
walk_next way cells heads line before (Some j) one chained may e = next_from way cells heads line before j one chained may (sym e)

pub walk_none : (way : Way) (cells : List Cell) (heads : List (Option ℕ)) (line : ℕ) (before next : Option ℕ) → IsChained (direction way) cells heads
    → MayBeOn way cells line before → next ≡ following (direction way) cells heads line before →
    IfNone next (NoneLeft way cells line before)
walk_none way cells heads line before None chained may e = none_from way cells heads line before chained may (sym e)
walk_none way cells heads line before (Some j) chained may e = tt

-- the chains along a way
pub chained_along : (way : Way) (l : LinkedCells) → AreSound l → IsChained (direction way) l.cells.items (heads_of way l)
chained_along Rows l s = s.rows
chained_along Columns l s = s.columns
