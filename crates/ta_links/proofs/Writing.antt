-- Numbers that are written into places
use Rattle.ta_links.proofs.Common.{◌≡◌, ◌≢◌, ◌⊎◌, inl, inr, ℕ, zero, suc, ℤ, pos, negsuc, ◌+ℤ◌, ◌-ℤ◌, ◌<◌, List, arith, sym, ap, ◌∙◌, refl, Option, Some, None}
use Rattle.ta_links.proofs.Common.{ints, eqb_tells, at_or_not, Cell, cell_at, head_at, after_at, IsLive, Direction, line_at, place_at, along_rows}
use Rattle.ta_links.proofs.Common.{along_columns, IsChained, AreLinked, only_at_place, value_in, written, fills, IsEmptyPlace, IsSought, IsCellBefore, IsAt}
use Rattle.ta_links.proofs.Common.{Stays}
use Rattle.ta_links.proofs.Heads.{following_live}
use Rattle.ta_links.proofs.Cells.{value_none, value_found, placed_here, placed_elsewhere}

vacant_first : (way : Direction) (cells : List Cell) (heads : List (Option ℕ)) (line place : ℕ) (o : Option ℕ) → head_at heads line ≡ o
    → IsChained way cells heads → ((j : ℕ) → head_at heads line ≡ Some j → place < place_at way cells j) →
    (k : ℕ) → IsLive cells k → line_at way cells k ≡ line → place_at way cells k ≢ place
vacant_first way cells heads line place None e chained behind k live at same = chained.empty line e k live at
vacant_first way cells heads line place (Some j) e chained behind k live at same =
    let low = (chained.first line j e).least k live at in
    let high = behind j e in
    omega arith

vacant_next : (way : Direction) (cells : List Cell) (heads : List (Option ℕ)) (line place h : ℕ) (o : Option ℕ) → after_at way cells h ≡ o
    → IsChained way cells heads → IsCellBefore way cells line place h → ((j : ℕ) → after_at way cells h ≡ Some j → place < place_at way cells j) →
    (k : ℕ) → IsLive cells k → line_at way cells k ≡ line → place_at way cells k ≢ place
vacant_next way cells heads line place h None e chained b behind k live at same =
    let last = chained.last h b.live e k live (at ∙ sym b.here) in
    omega arith
vacant_next way cells heads line place h (Some j) e chained b behind k live at same =
    let high = behind j e in
    elim ((chained.next h j b.live e).nothing_between k live (at ∙ sym b.here)) [ inl x ↦ omega arith | inr y ↦ omega arith ]

-- no live cell stands in a gap
pub gap_vacant : (way : Direction) (cells : List Cell) (heads : List (Option ℕ)) (line place : ℕ) (before : Option ℕ) → IsChained way cells heads
    → IsEmptyPlace way cells heads line place before →
    (k : ℕ) → IsLive cells k → line_at way cells k ≡ line → place_at way cells k ≢ place
gap_vacant way cells heads line place None chained gap = vacant_first way cells heads line place (head_at heads line) refl chained gap.behind
gap_vacant way cells heads line place (Some h) chained gap = vacant_next way cells heads line place h (after_at way cells h) refl chained (gap.may h refl)
    gap.behind

pub gap_value : (cells : List Cell) (row_heads column_heads : List (Option ℕ)) (free : Option ℕ) (row column : ℕ) (left : Option ℕ)
    → AreLinked cells row_heads column_heads free → IsEmptyPlace along_rows cells row_heads row column left → value_in cells row column ≡ pos 0
gap_value cells row_heads column_heads free row column left l gap =
    value_none cells row column (λ k live e. gap_vacant along_rows cells row_heads row column left l.rows gap k live e)

pub at_value : (cells : List Cell) (row_heads column_heads : List (Option ℕ)) (free : Option ℕ) (row column at : ℕ)
    → AreLinked cells row_heads column_heads free → IsAt cells row column at → value_in cells row column ≡ (cell_at cells at).value
at_value cells row_heads column_heads free row column at l i =
    value_found cells at row column i.live i.row i.column (λ k live e f. l.one k at live i.live (e ∙ sym i.row) (f ∙ sym i.column))

pub written_here : (f : ℕ → ℕ → ℤ) (row column : ℕ) (value : ℤ) (r c : ℕ) → row ≡ r → column ≡ c → written f row column value r c ≡ value
written_here f row column value r c e g = elim (eqb_tells row r) [
  | inl a ↦ elim (eqb_tells column c) [ inl b ↦ rw (a.0, b.0) refl | inr b ↦ absurd (b.1 g) ]
  | inr a ↦ absurd (a.1 e)
]

pub written_elsewhere : (f : ℕ → ℕ → ℤ) (row column : ℕ) (value : ℤ) (r c : ℕ) → (row ≢ r) ⊎ (column ≢ c) → written f row column value r c ≡ f r c
written_elsewhere f row column value r c apart = elim (eqb_tells row r) [
  | inl a ↦ elim (eqb_tells column c) [
    | inl b ↦ elim apart [ inl ne ↦ absurd (ne a.1) | inr ne ↦ absurd (ne b.1) ]
    | inr b ↦ rw (a.0, b.0) refl
  ]
  | inr a ↦ rw a.0 refl
]

-- numbers that differ at one place alone are written there
pub written_by : (f g : ℕ → ℕ → ℤ) (row column : ℕ) (change value : ℤ) → ((r c : ℕ) → g r c ≡ (f r c +ℤ only_at_place row column change r c))
    → (f row column +ℤ change) ≡ value → (r c : ℕ) → g r c ≡ written f row column value r c
written_by f g row column change value all sum r c = elim (at_or_not row column r c) [
  | inl e ↦ all r c ∙ ap (λ (z : ℤ). f r c +ℤ z) (placed_here row column change r c e.0 e.1)
      ∙ ap (λ (z : ℤ). z +ℤ change) (ap (λ (i : ℕ). f i c) (sym e.0) ∙ ap (λ (j : ℕ). f row j) (sym e.1)) ∙ sum
      ∙ sym (written_here f row column value r c e.0 e.1)
  | inr ne ↦ let z = placed_elsewhere row column change r c ne in let a = all r c in let b = written_elsewhere f row column value r c ne in omega (arith, ints)
]

placed_at : (a b : ℕ) (v : ℤ) (r c row column : ℕ) → a ≡ row → b ≡ column → only_at_place a b v r c ≡ only_at_place row column v r c
placed_at a b v r c row column e f = ap (λ (k : ℕ). only_at_place k b v r c) e ∙ ap (λ (k : ℕ). only_at_place row k v r c) f

pub removed_is : (cells : List Cell) (row_heads column_heads : List (Option ℕ)) (free : Option ℕ) (row column at : ℕ)
    → AreLinked cells row_heads column_heads free → IsAt cells row column at → (g : ℕ → ℕ → ℤ) →
    (let cell = cell_at cells at in (r c : ℕ) → g r c ≡ (value_in cells r c -ℤ only_at_place cell.row cell.column cell.value r c)) → (r c : ℕ)
    → g r c ≡ written (value_in cells) row column (pos 0) r c
removed_is cells row_heads column_heads free row column at l i g all r c =
    let cell = cell_at cells at in
    let here = at_value cells row_heads column_heads free row column at l i in
    let moved = placed_at cell.row cell.column cell.value r c row column i.row i.column in
    elim (at_or_not row column r c) [
      | inl e ↦
          let was : value_in cells r c ≡ value_in cells row column = ap (λ (k : ℕ). value_in cells k c) (sym e.0)
          ∙ ap (λ (k : ℕ). value_in cells row k) (sym e.1) in
          omega (
            arith,
            ints,
            all r c,
            moved,
            placed_here row column cell.value r c e.0 e.1,
            here,
            was,
            written_here (value_in cells) row column (pos 0) r c e.0
                e.1,
          )
      | inr ne ↦ omega (
        arith,
        ints,
        all r c,
        moved,
        placed_elsewhere row column cell.value r c ne,
        written_elsewhere (value_in cells) row column (pos 0) r c
            ne,
      )
    ]

pub set_is : (cells : List Cell) (row_heads column_heads : List (Option ℕ)) (free : Option ℕ) (row column at : ℕ) (value : ℤ)
    → AreLinked cells row_heads column_heads free → IsAt cells row column at → (g : ℕ → ℕ → ℤ) →
    (let cell = cell_at cells at in (r c : ℕ) → g r c ≡ (value_in cells r c +ℤ only_at_place cell.row cell.column (value -ℤ cell.value) r c)) → (r c : ℕ)
    → g r c ≡ written (value_in cells) row column value r c
set_is cells row_heads column_heads free row column at value l i g all =
    let cell = cell_at cells at in
    let here = at_value cells row_heads column_heads free row column at l i in
    written_by (value_in cells) g row column (value -ℤ cell.value) value
    (λ r c. all r c ∙ ap (λ (z : ℤ). value_in cells r c +ℤ z) (placed_at cell.row cell.column (value -ℤ cell.value) r c row column i.row i.column))
    (omega (arith, ints))

-- a 0 that is written where a 0 is changes nothing
pub zero_is : (f : ℕ → ℕ → ℤ) (row column : ℕ) → f row column ≡ pos 0 → (r c : ℕ) → f r c ≡ written f row column (pos 0) r c
zero_is f row column zero_ r c = elim (at_or_not row column r c) [
  | inl e ↦ ap (λ (i : ℕ). f i c) (sym e.0) ∙ ap (λ (j : ℕ). f row j) (sym e.1) ∙ zero_ ∙ sym (written_here f row column (pos 0) r c e.0 e.1)
  | inr ne ↦ sym (written_elsewhere f row column (pos 0) r c ne)
]

pub fills_one : (a b : ℤ) → a ≡ pos 0 → b ≢ pos 0 → fills a b ≡ 1
fills_one (pos zero) (pos zero) e ne = absurd (ne refl)
fills_one (pos zero) (pos (suc n)) e ne = refl
fills_one (pos zero) (negsuc n) e ne = refl
fills_one (pos (suc m)) b e ne = absurd (cc)
fills_one (negsuc m) b e ne = absurd (cc)

-- a cell before the place stays there where another cell is what changes
pub before_kept : (cells new : List Cell) (row column h : ℕ) → IsCellBefore along_rows cells row column h → Stays cells new h
    → IsCellBefore along_rows new row column h
before_kept cells new row column h b s = record {
  live = s.live;
  here = s.row ∙ b.here;
  low = let a = s.column in let d = b.low in omega arith;
}

pub before_apart : (cells : List Cell) (row r column at h : ℕ) → IsAt cells row column at → IsCellBefore along_rows cells r column h → h ≢ at
before_apart cells row r column at h i b e = let a = i.column in let d = b.low in let s = ap (λ (k : ℕ). (cell_at cells k).column) e in omega arith

-- where the place is vacant, a cell that was sought in its column has a gap behind it
pub sought_gap : (cells : List Cell) (row_heads column_heads : List (Option ℕ)) (free : Option ℕ) (row column : ℕ) (left above : Option ℕ)
    → AreLinked cells row_heads column_heads free → IsEmptyPlace along_rows cells row_heads row column left →
    IsSought along_columns cells column_heads column row above → IsEmptyPlace along_columns cells column_heads column row above
sought_gap cells row_heads column_heads free row column left above l gap s = record {
  may = s.may;
  behind = λ j e.
      let live = following_live along_columns cells column_heads column row above l.columns s.may j e in
      let low = s.behind j e in
      let apart : row ≢ (cell_at cells j).row = λ same. gap_vacant along_rows cells row_heads row column left l.rows gap j live.0 (sym same) live.1 in
      omega arith;
}
