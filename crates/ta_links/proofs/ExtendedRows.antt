-- The rows of a longer system
use Rattle.ta_links.proofs.Common.{◌≡◌, ◌≢◌, inl, inr, ℕ, ℤ, pos, suc, ◌+◌, ◌-◌, ◌<◌, ◌≤◌, List, [], ◌∷◌, ◌++◌, length, map, take, drop, replicate, get_or}
use Rattle.ta_links.proofs.Common.{arith, sym, ap, ◌∙◌, refl, subst, Option, None, cases_lt, ints, ext_get_or, length-append, length-map, length-replicate}
use Rattle.ta_links.proofs.Common.{get_or-replicate, length-take, length-drop, get_or-map, get_or_past, get_or-take, get_or-drop, get_or_append_left}
use Rattle.ta_links.proofs.Common.{get_or-append_right, none_or_some, coefficient, Row, TableauRow, no_row, slack_rows, raised, widened, KeptPivot, kept_at}
use Rattle.ta_links.proofs.Common.{chosen_row, carried, after_pivot, RowsMergeBelow, FirstRefused, Cell, RowHead, LinkedCells, cell_at, head_at, IsLive}
use Rattle.ta_links.proofs.Common.{Direction, line_at, IsChained, AreLinked, value_in, row_values, AreSound, table_row, table_rows, no_head, AreProperHeads}
use Rattle.ta_links.proofs.Common.{IsProperHead, row_in, RowsShow, slack_heads, rows_from, IsRoom, IsEmpty, AreKeptBelow, RowsCarried, CarryRefused}
use Rattle.ta_links.proofs.Common.{raised_head, AllCarried, IsRefusal, cases_eq}
use Rattle.ta_links.proofs.Cells.{value_none, value_found}
use Rattle.ta_links.proofs.LinkedFacts.{length-table_rows, table_row_at, row_value_at, table_is, length-slack_heads, proper_slacks}
use Rattle.ta_links.proofs.Removing.{chained_same}
use Rattle.ta_links.proofs.RowMerging.{numbers_long}
use Rattle.ta_links.proofs.CarriedRows.{length-rows_from, rows_from_at, chosen_cells}

-- the chains under other heads that show the same cells
chained_heads : (way : Direction) (cells : List Cell) (heads heads' : List (Option ℕ)) → IsChained way cells heads
    → ((line : ℕ) → head_at heads' line ≡ head_at heads line) → ((i : ℕ) → IsLive cells i → line_at way cells i < length heads') → IsChained way cells heads'
chained_heads way cells heads heads' c same inside = chained_same way cells heads heads' cells (λ k l. l) (λ k l. l) (λ k. refl) (λ k. refl) (λ k. refl)
    (λ k. refl) same inside c

pub widened_linked : (cells : List Cell) (rs rs' cs cs' : List (Option ℕ)) (free : Option ℕ) → AreLinked cells rs cs free
    → ((line : ℕ) → head_at rs' line ≡ head_at rs line) → length rs ≤ length rs' → ((line : ℕ) → head_at cs' line ≡ head_at cs line) → length cs ≤ length cs' →
    AreLinked cells rs' cs' free
widened_linked cells rs rs' cs cs' free l rsame rlong csame clong = record {
  rows = chained_heads _ cells rs rs' l.rows rsame (λ i live. let b = l.rows.inside i live in omega arith);
  columns = chained_heads _ cells cs cs' l.columns csame (λ i live. let b = l.columns.inside i live in omega arith);
  one = l.one;
  free = l.free;
  fits = l.fits;
}

-- no number stands outside the heads
pub outside_columns : (cells : List Cell) (rs cs : List (Option ℕ)) (free : Option ℕ) (r c : ℕ) → AreLinked cells rs cs free → length cs ≤ c
    → value_in cells r c ≡ pos 0
outside_columns cells rs cs free r c l far = value_none cells r c (λ k live e f. let b = l.columns.inside k live in omega arith)

pub outside_rows : (cells : List Cell) (rs cs : List (Option ℕ)) (free : Option ℕ) (r c : ℕ) → AreLinked cells rs cs free → length rs ≤ r
    → value_in cells r c ≡ pos 0
outside_rows cells rs cs free r c l far = value_none cells r c (λ k live e f. let b = l.rows.inside k live in omega arith)

-- no live cell stands in an empty row
none_in_empty : (cells : List Cell) (rs cs : List (Option ℕ)) (free : Option ℕ) (last i : ℕ) → AreLinked cells rs cs free
    → ((c : ℕ) → value_in cells last c ≡ pos 0) → IsLive cells i → (cell_at cells i).row ≢ last
none_in_empty cells rs cs free last i l empty live e =
    live.value (sym (value_found cells i last (cell_at cells i).column live e refl (λ k other f g. l.one k i other live (f ∙ sym e) g))
    ∙ empty (cell_at cells i).column)

pub dropped_linked : (cells : List Cell) (rs cs : List (Option ℕ)) (free : Option ℕ) (last : ℕ) → AreLinked cells rs cs free → length rs ≡ last + 1
    → ((c : ℕ) → value_in cells last c ≡ pos 0) → AreLinked cells (take last rs) cs free
dropped_linked cells rs cs free last l long empty = record {
  rows = chained_heads _ cells rs (take last rs) l.rows same
      (λ i live. let b = l.rows.inside i live in let ne = none_in_empty cells rs cs free last i l empty live in let t = length-take last rs in omega arith);
  columns = l.columns;
  one = l.one;
  free = l.free;
  fits = l.fits;
} where
  none : head_at rs last ≡ None
  none = elim (none_or_some (head_at rs last)) [
    | inl e ↦ e
    | inr s ↦ let f = l.rows.first last s.0 s.1 in absurd (none_in_empty cells rs cs free last s.0 l empty f.live f.here)
  ]

  same : (line : ℕ) → head_at (take last rs) line ≡ head_at rs line
  same line = elim (cases_lt line last) [
    | inl low ↦ get_or-take last rs line None low
    | inr high ↦
        let t = length-take last rs in
        get_or_past (take last rs) line None (omega arith)
        ∙ sym (elim (cases_eq line last) [ inl e ↦ ap (head_at rs) e ∙ none | inr ne ↦ get_or_past rs line None (omega arith) ])
  ]

-- one more pivot
carried_more : (columns j : ℕ) (ks : List KeptPivot) (rows : List TableauRow)
    → carried columns ks (j + 1) rows ≡ after_pivot columns (kept_at ks j) (carried columns ks j rows)
carried_more columns j ks rows = let e : j + 1 ≡ suc j = omega arith in ap (λ (i : ℕ). carried columns ks i rows) e

-- carrying begins, goes on, and is refused
pub carrying_none : (columns first count : ℕ) (ks : List KeptPivot) (hs : List RowHead) (l : LinkedCells) → IsRoom columns (first + count) hs l
    → IsEmpty (first + count) l → AllCarried columns first count ks 0 hs l hs l
carrying_none columns first count ks hs l room empty = record {
  room = room;
  empty = empty;
  kept = record { numbers = λ i c b. refl; heads_same = λ i b. refl };
  rows = refl;
  within = λ j b. absurd (omega arith);
}

pub carrying_more : (columns first count : ℕ) (ks : List KeptPivot) (j : ℕ) (k : KeptPivot) (hs hs1 hs2 : List RowHead) (l l1 l2 : LinkedCells)
    → k ≡ kept_at ks j → AllCarried columns first count ks j hs l hs1 l1 → RowsCarried columns first count k hs1 l1 hs2 l2 →
    AllCarried columns first count ks (j + 1) hs l hs2 l2
carrying_more columns first count ks j k hs hs1 hs2 l l1 l2 e a r =
    let rows0 = rows_from hs l columns first count in
    let long = length-rows_from hs l columns first count in
    let step : RowsMergeBelow (kept_at ks j).column (chosen_row columns (kept_at ks j)) (carried columns ks j rows0) (length rows0) =
    subst (λ (q : KeptPivot). RowsMergeBelow q.column (chosen_row columns q) (carried columns ks j rows0) (length rows0)) e
    (subst (λ (m : ℕ). RowsMergeBelow k.column (chosen_row columns k) (carried columns ks j rows0) m) (sym long)
    (subst (λ (xs : List TableauRow). RowsMergeBelow k.column (chosen_row columns k) xs count) a.rows r.within)) in
    record {
      room = r.room;
      empty = r.empty;
      kept = record {
        numbers = λ i c b. r.kept.numbers i c b ∙ a.kept.numbers i c b;
        heads_same = λ i b. r.kept.heads_same i b ∙ a.kept.heads_same i b;
      };
      rows = r.rows ∙ ap (after_pivot columns k) a.rows ∙ ap (λ (q : KeptPivot). after_pivot columns q (carried columns ks j rows0)) e
          ∙ sym (carried_more columns j ks rows0);
      within = λ i b. elim (cases_eq i j) [
        | inl same ↦ subst (λ (m : ℕ). RowsMergeBelow (kept_at ks m).column (chosen_row columns (kept_at ks m)) (carried columns ks m rows0) (length rows0))
            (sym same) step
        | inr ne ↦ a.within i (omega arith)
      ];
    }

pub carrying_refused : (columns first count : ℕ) (ks : List KeptPivot) (j : ℕ) (k : KeptPivot) (hs hs1 : List RowHead) (l l1 : LinkedCells) (at : ℕ)
    → k ≡ kept_at ks j → AllCarried columns first count ks j hs l hs1 l1 → CarryRefused columns first count k hs1 l1 at →
    IsRefusal columns first count ks hs l j at
carrying_refused columns first count ks j k hs hs1 l l1 at e a r = record {
  before = a.within;
  low = r.low;
  refused = subst (λ (q : KeptPivot). FirstRefused q.column (chosen_row columns q) (carried columns ks j (rows_from hs l columns first count)) (at - first)) e
      (subst (λ (xs : List TableauRow). FirstRefused k.column (chosen_row columns k) xs (at - first)) a.rows r.refused);
}

-- the tables of a longer system's rows
pub record Lengthened (u n first count : ℕ) (hs : List RowHead) (old : LinkedCells) (rows : List Row) (hs1 : List RowHead) (l1 : LinkedCells) : Type 0 where
  pub heads : hs1 ≡ (map (raised_head u n) hs ++ slack_heads (u + n + first) (drop first rows)) ++ no_head ∷ []
  pub long : first ≡ length hs
  pub all : length rows ≡ first + count
  pub shows : RowsShow first (value_in old.cells.items) rows (length rows) (value_in l1.cells.items)

pub length-lengthened : (u n first count : ℕ) (hs : List RowHead) (old : LinkedCells) (rows : List Row) (hs1 : List RowHead) (l1 : LinkedCells)
    → Lengthened u n first count hs old rows hs1 l1 → length hs1 ≡ first + count + 1
length-lengthened u n first count hs old rows hs1 l1 w =
    ap (λ (xs : List RowHead). length xs) w.heads ∙ simp (length-append, length-map, length-slack_heads, length-drop) (omega arith)

-- an old row's head
pub old_head : (u n first count : ℕ) (hs : List RowHead) (old : LinkedCells) (rows : List Row) (hs1 : List RowHead) (l1 : LinkedCells) (i : ℕ)
    → Lengthened u n first count hs old rows hs1 l1 → i < first → get_or hs1 i no_head ≡ raised_head u n (get_or hs i no_head)
old_head u n first count hs old rows hs1 l1 i w b =
    let names = map (raised_head u n) hs in
    let slacks = slack_heads (u + n + first) (drop first rows) in
    let a = length-map hs (raised_head u n) in
    let j = length-append names slacks in
    ap (λ (xs : List RowHead). get_or xs i no_head) w.heads ∙ get_or_append_left (names ++ slacks) (no_head ∷ []) no_head i (omega arith)
    ∙ get_or_append_left names slacks no_head i (omega arith) ∙ get_or-map (raised_head u n) hs i no_head no_head (omega arith)

-- a new row's head
pub new_head_at : (u n first count : ℕ) (hs : List RowHead) (old : LinkedCells) (rows : List Row) (hs1 : List RowHead) (l1 : LinkedCells) (i : ℕ)
    → Lengthened u n first count hs old rows hs1 l1 → i < count →
    get_or hs1 (first + i) no_head ≡ get_or (slack_heads (u + n + first) (drop first rows)) i no_head
new_head_at u n first count hs old rows hs1 l1 i w b =
    let names = map (raised_head u n) hs in
    let slacks = slack_heads (u + n + first) (drop first rows) in
    let a = length-map hs (raised_head u n) in
    let s = length-slack_heads (u + n + first) (drop first rows) in
    let d = length-drop first rows in
    let j = length-append names slacks in
    let e : first + i - first ≡ i = omega arith in
    ap (λ (xs : List RowHead). get_or xs (first + i) no_head) w.heads ∙ get_or_append_left (names ++ slacks) (no_head ∷ []) no_head (first + i) (omega arith)
    ∙ get_or-append_right names slacks first (first + i) no_head (omega arith) (omega arith)
    ∙ ap (λ (k : ℕ). get_or slacks k no_head) e

-- the new rows are those of the system
pub new_rows_begin : (u n first count : ℕ) (hs : List RowHead) (old : LinkedCells) (rows : List Row) (hs1 : List RowHead) (l1 : LinkedCells)
    → Lengthened u n first count hs old rows hs1 l1 →
    rows_from hs1 l1 (u + n) first count ≡ slack_rows (u + n) (u + n + first) (drop first rows)
new_rows_begin u n first count hs old rows hs1 l1 w =
    let m = u + n in
    let cells = l1.cells.items in
    let slacks = slack_heads (u + n + first) (drop first rows) in
    let s = length-slack_heads (u + n + first) (drop first rows) in
    let d = length-drop first rows in
    let lr = length-rows_from hs1 l1 (u + n) first count in
    let lt = length-table_rows cells (u + n) first slacks in
    ext_get_or no_row (rows_from hs1 l1 (u + n) first count) (table_rows cells (u + n) first slacks) (omega arith) (λ i b.
    rows_from_at hs1 l1 (u + n) first count i (omega arith)
    ∙ ap (table_row cells (u + n) (first + i)) (new_head_at u n first count hs old rows hs1 l1 i w (omega arith))
    ∙ sym (table_row_at cells (u + n) first slacks i (omega arith)))
    ∙ table_is cells (u + n) (u + n + first) first (drop first rows)
    (λ i c e h. w.shows.shown (first + i) c e (omega arith) (omega arith) ∙ ap (λ (r : Row). coefficient r.form.terms c) (sym (get_or-drop first rows i e)))

proper_none : IsProperHead no_head
proper_none = record { positive = omega (arith, ints); denominator = omega arith; constant = omega arith }

-- there is room to carry them
pub begun_room : (u n first count : ℕ) (hs : List RowHead) (old : LinkedCells) (rows : List Row) (hs1 : List RowHead) (l1 : LinkedCells)
    → Lengthened u n first count hs old rows hs1 l1 → AreProperHeads hs → AreSound l1 → length l1.row_heads.items ≡ length rows + 1
    → length l1.column_heads.items ≡ u + n →
    IsRoom (u + n) (first + count) hs1 l1
begun_room u n first count hs old rows hs1 l1 w proper sound rl cl =
    let long = length-lengthened u n first count hs old rows hs1 l1 w in
    let names = map (raised_head u n) hs in
    let slacks = slack_heads (u + n + first) (drop first rows) in
    let a = length-map hs (raised_head u n) in
    let s = length-slack_heads (u + n + first) (drop first rows) in
    let d = length-drop first rows in
    let j = length-append names slacks in
    record {
      sound = sound;
      rows = omega arith;
      columns_are = cl;
      proper = λ i b. elim (cases_lt i first) [
        | inl low ↦ let p = proper i (omega arith) in subst IsProperHead (sym (old_head u n first count hs old rows hs1 l1 i w low))
            (record { positive = p.positive; denominator = p.denominator; constant = p.constant })
        | inr high ↦ elim (cases_lt i (first + count)) [
          | inl new ↦
              let e : first + (i - first) ≡ i = omega arith in
              subst IsProperHead (sym (ap (λ (k : ℕ). get_or hs1 k no_head) (sym e)
              ∙ new_head_at u n first count hs old rows hs1 l1 (i - first) w (omega arith)))
              (proper_slacks (u + n + first) (drop first rows) (i - first) (omega arith))
          | inr past ↦
              let z : i - (first + count) ≡ 0 = omega arith in
              subst IsProperHead (sym (ap (λ (xs : List RowHead). get_or xs i no_head) w.heads
              ∙ get_or-append_right (names ++ slacks) (no_head ∷ []) (first + count) i no_head (omega arith) past
              ∙ ap (λ (k : ℕ). get_or (no_head ∷ []) k no_head) z)) proper_none
        ]
      ];
      long = long;
    }

-- an old row where there are more columns
widened_row : (u n i : ℕ) (h h' : RowHead) (old new : LinkedCells) → AreSound old → length old.column_heads.items ≡ u → h' ≡ raised_head u n h
    → ((c : ℕ) → value_in new.cells.items i c ≡ value_in old.cells.items i c)
    → table_row new.cells.items (u + n) i h' ≡ widened u n (table_row old.cells.items u i h)
widened_row u n i h h' old new sound cl e same =
    let ks = row_values old.cells.items u i in
    let lk = numbers_long old.cells.items u i in
    let numbers : (c : ℕ) → value_in new.cells.items i c ≡ get_or ks c (pos 0) = λ c. same c ∙ sym (elim (cases_lt c u) [
      | inl low ↦ row_value_at old.cells.items u i c low
      | inr high ↦ get_or_past ks c (pos 0) (omega arith)
          ∙ sym (outside_columns old.cells.items old.row_heads.items old.column_heads.items old.free_head i c sound (omega arith))
    ]) in
    let cells = chosen_cells (u + n) i new.cells.items ks (omega arith) numbers in
    let more : u + n - length ks ≡ n = omega arith in
    ap (table_row new.cells.items (u + n) i) e ∙ ap
    (λ (zs : List ℤ). record { basic = raised u n h.basic; denominator = h.denominator; constant = h.constant; cells = zs })
    (cells ∙ ap (λ (k : ℕ). ks ++ replicate k (pos 0)) more)

-- the table of the longer system
pub extended_table : (u n first count : ℕ) (hs : List RowHead) (old : LinkedCells) (rows : List Row) (hs1 hs2 hs3 : List RowHead) (l1 l2 : LinkedCells)
    → Lengthened u n first count hs old rows hs1 l1 → AreSound old → length old.column_heads.items ≡ u → AreKeptBelow first hs1 l1 hs2 l2
    → length hs2 ≡ first + count + 1 → hs3 ≡ take (first + count) hs2 →
    table_rows l2.cells.items (u + n) 0 hs3 ≡ map (widened u n) (table_rows old.cells.items u 0 hs) ++ rows_from hs2 l2 (u + n) first count
extended_table u n first count hs old rows hs1 hs2 hs3 l1 l2 w sound cl kept long e =
    let before = table_rows old.cells.items u 0 hs in
    let wide = map (widened u n) before in
    let new = rows_from hs2 l2 (u + n) first count in
    let l3 = length-table_rows l2.cells.items (u + n) 0 hs3 in
    let l4 = ap (λ (xs : List RowHead). length xs) e in
    let l5 = length-take (first + count) hs2 in
    let l6 = length-append wide new in
    let l7 = length-map before (widened u n) in
    let l8 = length-table_rows old.cells.items u 0 hs in
    let l9 = length-rows_from hs2 l2 (u + n) first count in
    ext_get_or no_row (table_rows l2.cells.items (u + n) 0 hs3) (wide ++ new) (omega arith) (λ i b.
    let inside : i < first + count = omega arith in
    let head : get_or hs3 i no_head ≡ get_or hs2 i no_head = ap (λ (xs : List RowHead). get_or xs i no_head) e
    ∙ get_or-take (first + count) hs2 i no_head inside in
    let mine : get_or (table_rows l2.cells.items (u + n) 0 hs3) i no_row ≡ row_in hs2 l2 (u + n) i =
    table_row_at l2.cells.items (u + n) 0 hs3 i (omega arith) ∙ ap (table_row l2.cells.items (u + n) (0 + i)) head
    ∙ ap (λ (r : ℕ). table_row l2.cells.items (u + n) r (get_or hs2 i no_head)) (omega arith) in
    elim (cases_lt i first) [
      | inl low ↦
          let h : get_or hs2 i no_head ≡ raised_head u n (get_or hs i no_head) = kept.heads_same i low ∙ old_head u n first count hs old rows hs1 l1 i w low in
          let z : 0 + i ≡ i = omega arith in
          mine ∙ widened_row u n i (get_or hs i no_head) (get_or hs2 i no_head) old l2 sound cl h (λ c. kept.numbers i c low ∙ w.shows.same i c low)
          ∙ sym (get_or_append_left wide new no_row i (omega arith) ∙ get_or-map (widened u n) before i no_row no_row (omega arith)
          ∙ ap (widened u n) (table_row_at old.cells.items u 0 hs i (omega arith) ∙ ap (λ (r : ℕ). table_row old.cells.items u r (get_or hs i no_head)) z))
      | inr high ↦
          let back : first + (i - first) ≡ i = omega arith in
          mine ∙ ap (row_in hs2 l2 (u + n)) (sym back)
          ∙ sym (get_or-append_right wide new first i no_row (omega arith) high ∙ rows_from_at hs2 l2 (u + n) first count (i - first) (omega arith))
    ])

-- lines without a cell may be added
pub padded_same : (heads : List (Option ℕ)) (more line : ℕ) → head_at (heads ++ replicate more None) line ≡ head_at heads line
padded_same heads more line = elim (cases_lt line (length heads)) [
  | inl low ↦ get_or_append_left heads (replicate more None) None line low
  | inr high ↦ get_or-append_right heads (replicate more None) (length heads) line None refl high ∙ none_at more (line - length heads)
      ∙ sym (get_or_past heads line None high)
] where
  none_ : Option ℕ
  none_ = None

  none_at : (n i : ℕ) → head_at (replicate n None) i ≡ None
  none_at n i = elim (cases_lt i n) [
    | inl low ↦ get_or-replicate n i None None low
    | inr high ↦ let l = length-replicate n none_ in get_or_past (replicate n None) i None (omega arith)
  ]
