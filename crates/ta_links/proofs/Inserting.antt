-- Cells stay linked where one is put in
use Rattle.ta_links.proofs.Common.{◌≡◌, ◌≢◌, inl, inr, ℕ, ℤ, pos, ◌+ℤ◌, ◌<◌, ◌≤◌, ◌+◌, List, [], ◌∷◌, length, arith, sym, ap, ◌∙◌, refl, subst, Option, Some}
use Rattle.ta_links.proofs.Common.{InRange, Cell, Rows, Columns, cell_at, IsLive, Direction, line_at, place_at, along_rows, along_columns, IsChained}
use Rattle.ta_links.proofs.Common.{FreeVisits, IsFree, AreLinked, only_at_place, value_in, following, headed, spliced, taken, taken_at, next_free, IsEmptyPlace}
use Rattle.ta_links.proofs.Common.{Stays, cases_eq, same_Some, none-some}
use Rattle.ta_links.proofs.Insertion.{Insertion, stands, insertion_keeps}
use Rattle.ta_links.proofs.Heads.{headed_new, headed_rest, headed_long, following_live}
use Rattle.ta_links.proofs.Splicing.{Spliced, Relinked, splice_facts, rows_relinked, columns_relinked}
use Rattle.ta_links.proofs.Taking.{Taken, taken_facts, visits_kept}
use Rattle.ta_links.proofs.Cells.{value_same}

-- one way's chains, where the taken cell stands between the two cells of its gap
insertion_of : (way : Direction) (cells : List Cell) (heads : List (Option ℕ)) (free : Option ℕ) (cell : Cell) (at : ℕ) (t new : List Cell) (p : Option ℕ)
    → IsChained way cells heads →
    ((i k : ℕ) → IsLive cells i → IsLive cells k → line_at way cells i ≡ line_at way cells k → place_at way cells i ≡ place_at way cells k → i ≡ k) →
    way.line cell < length heads → IsEmptyPlace way cells heads (way.line cell) (way.place cell) p → way.before cell ≡ p
    → way.after cell ≡ following way cells heads (way.line cell) p → cell.value ≢ pos 0 →
    Taken cells free cell at t → Relinked way t p (following way cells heads (way.line cell) p) (Some at) (Some at) new → Insertion
insertion_of way cells heads free cell at t new p chained one inside gap front back value took linked =
    let n = following way cells heads (way.line cell) p in
    let kept : (k : ℕ) → k ≢ at → cell_at t k ≡ cell_at cells k = took.rest in
    let behind = following_live way cells heads (way.line cell) (way.place cell) p chained gap.may in
    record {
      way = way;
      cells = cells;
      heads = heads;
      cells' = new;
      heads' = headed heads p (way.line cell) (Some at);
      x = at;
      line = way.line cell;
      place = way.place cell;
      p = p;
      n = n;
      chained = chained;
      one = one;
      inside = inside;
      long = headed_long heads p (way.line cell) (Some at);
      new = record {
        inside = let a = took.inside in let b = linked.long in omega arith;
        value = λ e. value (sym (linked.value at ∙ ap (λ (c : Cell). c.value) took.here) ∙ e);
      };
      old = λ k live.
          let ne = took.dead k live in (
            record {
              inside = let a = live.inside in let b = linked.long in let c = took.longer in omega arith;
              value = λ e. live.value (sym (linked.value k ∙ ap (λ (c : Cell). c.value) (kept k ne)) ∙ e);
            },
            ne,
            linked.line k ∙ ap way.line (kept k ne),
            linked.place k ∙ ap way.place (kept k ne),
          );
      only = λ k live. elim (cases_eq k at) [
        | inl e ↦ inl e
        | inr ne ↦ inr (record {
          inside = took.only k (let a = live.inside in let b = linked.long in omega arith) ne;
          value = λ e. live.value (linked.value k ∙ ap (λ (c : Cell). c.value) (kept k ne) ∙ e);
        })
      ];
      line_x = linked.line at ∙ ap way.line took.here;
      place_x = linked.place at ∙ ap way.place took.here;
      after_x = linked.after_rest at (λ e. took.dead at (gap.may at e).live refl) ∙ ap way.after took.here ∙ back;
      before_x = linked.before_rest at (λ e. took.dead at (behind at e).0 refl) ∙ ap way.before took.here ∙ front;
      after_p = λ k live e. linked.after_hit k e;
      after_rest = λ k live ne. linked.after_rest k ne ∙ ap way.after (kept k (took.dead k live));
      before_n = λ k live e. linked.before_hit k e;
      before_rest = λ k live ne. linked.before_rest k ne ∙ ap way.before (kept k (took.dead k live));
      head_new = headed_new heads p (way.line cell) (Some at) inside;
      head_rest = headed_rest heads p (way.line cell) (Some at);
      gap_p = λ h e. let m = gap.may h e in (m.live, m.here, m.low, sym (ap (following way cells heads (way.line cell)) e));
      gap_none = λ e. sym (ap (following way cells heads (way.line cell)) e);
      gap_n = gap.behind;
    }

-- no live cell was at the place
vacant : (w : Insertion) (k : ℕ) → IsLive w.cells k → line_at w.way w.cells k ≡ w.line → place_at w.way w.cells k ≢ w.place
vacant w k live at same = elim (stands w k live at) [
  | inl h ↦ let b = h.3 in omega arith
  | inr j ↦ let b = j.3 in omega arith
]

abbrev cell_of : Option ℕ → Option ℕ → Option ℕ → Option ℕ → ℕ → ℕ → ℤ → Cell
cell_of left right above below row column value = record { row = row; column = column; value = value; left = left; right = right; above = above; below = below }

abbrev pub new_cell : List Cell → List (Option ℕ) → List (Option ℕ) → Option ℕ → Option ℕ → ℕ → ℕ → ℤ → Cell
new_cell cells row_heads column_heads left above row column value = cell_of left (following along_rows cells row_heads row left) above
    (following along_columns cells column_heads column above) row column value

-- cells with a new one in its gaps
pub record Put (cells : List Cell) (row_heads column_heads : List (Option ℕ)) (free left above : Option ℕ) (row column : ℕ) (value : ℤ) : Type 0 where
  pub linked : AreLinked cells row_heads column_heads free
  pub row_inside : row < length row_heads
  pub column_inside : column < length column_heads
  pub left_gap : IsEmptyPlace along_rows cells row_heads row column left
  pub above_gap : IsEmptyPlace along_columns cells column_heads column row above
  pub not_zero : value ≢ pos 0
  pub in_range : InRange value

-- the four neighbours are indices
left_in : {cells : List Cell} {row_heads column_heads : List (Option ℕ)} {free left above : Option ℕ} {row column : ℕ} {value : ℤ}
    → Put cells row_heads column_heads free left above row column value →
    (j : ℕ) → left ≡ Some j → j < length cells
left_in w j e = (w.left_gap.may j e).live.inside

above_in : {cells : List Cell} {row_heads column_heads : List (Option ℕ)} {free left above : Option ℕ} {row column : ℕ} {value : ℤ}
    → Put cells row_heads column_heads free left above row column value →
    (j : ℕ) → above ≡ Some j → j < length cells
above_in w j e = (w.above_gap.may j e).live.inside

pub right_in : {cells : List Cell} {row_heads column_heads : List (Option ℕ)} {free left above : Option ℕ} {row column : ℕ} {value : ℤ}
    → Put cells row_heads column_heads free left above row column value →
    (j : ℕ) → following along_rows cells row_heads row left ≡ Some j → j < length cells
right_in {cells} {row_heads} {column_heads} {free} {left} {above} {row} {column} w j e =
    (following_live along_rows cells row_heads row column left w.linked.rows w.left_gap.may j e).0.inside

pub below_in : {cells : List Cell} {row_heads column_heads : List (Option ℕ)} {free left above : Option ℕ} {row column : ℕ} {value : ℤ}
    → Put cells row_heads column_heads free left above row column value →
    (j : ℕ) → following along_columns cells column_heads column above ≡ Some j → j < length cells
below_in {cells} {row_heads} {column_heads} {free} {left} {above} {row} {column} w j e =
    (following_live along_columns cells column_heads column row above w.linked.columns w.above_gap.may j e).0.inside

-- what the calls that put a cell in come to
pub record PutFrom (cells : List Cell) (row_heads column_heads : List (Option ℕ)) (row column : ℕ) (value : ℤ) (new : List Cell)
    (rows columns : List (Option ℕ)) (head : Option ℕ) : Type 0 where
  pub linked : AreLinked new rows columns head
  pub little : length new ≤ length cells + 1
  pub values : (r c : ℕ) → value_in new r c ≡ (value_in cells r c +ℤ only_at_place row column value r c)
  pub kept : (k : ℕ) → IsLive cells k → Stays cells new k
  pub rows_long : length rows ≡ length row_heads
  pub columns_long : length columns ≡ length column_heads

put_done : (cells : List Cell) (row_heads column_heads : List (Option ℕ)) (free left above : Option ℕ) (row column : ℕ) (value : ℤ) (t s1 s2 : List Cell)
    (at : ℕ) → Put cells row_heads column_heads free left above row column value →
    Taken cells free (new_cell cells row_heads column_heads left above row column value) at t →
    Spliced Rows t left (following along_rows cells row_heads row left) (Some at) (Some at) s1
    → Spliced Columns s1 above (following along_columns cells column_heads column above) (Some at) (Some at) s2 →
    PutFrom cells row_heads column_heads row column value s2 (headed row_heads left row (Some at)) (headed column_heads above column (Some at))
    (next_free cells free)
unfolding insertion_of
put_done cells row_heads column_heads free left above row column value t s1 s2 at w took one two =
    let cell = new_cell cells row_heads column_heads left above row column value in
    let n = following along_rows cells row_heads row left in
    let m = following along_columns cells column_heads column above in
    let rows = rows_relinked t s1 s2 left n (Some at) (Some at) above m (Some at) (Some at) one two in
    let columns = columns_relinked t s1 s2 left n (Some at) (Some at) above m (Some at) (Some at) one two in
    let across = insertion_of along_rows cells row_heads free cell at t s2 left w.linked.rows (λ i k a b e f. w.linked.one i k a b e f) w.row_inside w.left_gap
    refl refl w.not_zero took rows in
    let down = insertion_of along_columns cells column_heads free cell at t s2 above w.linked.columns (λ i k a b e f. w.linked.one i k a b f e) w.column_inside
    w.above_gap refl refl w.not_zero took columns in
    let same_row : (k : ℕ) → (cell_at s2 k).row ≡ (cell_at t k).row = rows.line in
    let same_column : (k : ℕ) → (cell_at s2 k).column ≡ (cell_at t k).column = rows.place in
    let row_at : (cell_at s2 at).row ≡ row = rows.line at ∙ ap (λ (c : Cell). c.row) took.here in
    let column_at : (cell_at s2 at).column ≡ column = rows.place at ∙ ap (λ (c : Cell). c.column) took.here in
    let old_row : (k : ℕ) → k ≢ at → (cell_at s2 k).row ≡ (cell_at cells k).row = λ k ne. rows.line k ∙ ap (λ (c : Cell). c.row) (took.rest k ne) in
    let old_column : (k : ℕ) → k ≢ at → (cell_at s2 k).column ≡ (cell_at cells k).column = λ k ne. rows.place k
    ∙ ap (λ (c : Cell). c.column) (took.rest k ne) in
    record {
      little = let a = rows.long in let b = took.little in omega arith;
      rows_long = headed_long row_heads left row (Some at);
      columns_long = headed_long column_heads above column (Some at);
      kept = λ k live. let o = across.old k live in record { live = o.0; row = o.2; column = o.3 };
      values = λ r c. value_same s2 t rows.long same_row same_column rows.value r c ∙ took.shows r c;
      linked = record {
        rows = insertion_keeps across;
        columns = insertion_keeps down;
        one = λ i k live alive e f. elim (across.only i live) [
          | inl x ↦ elim (across.only k alive) [
            | inl y ↦ x ∙ sym y
            | inr old ↦
                let ne = took.dead k old in
                absurd (vacant across k old (sym (old_row k ne) ∙ sym e ∙ ap (λ (q : ℕ). (cell_at s2 q).row) x ∙ row_at)
                (sym (old_column k ne) ∙ sym f ∙ ap (λ (q : ℕ). (cell_at s2 q).column) x ∙ column_at))
          ]
          | inr was ↦
              let ni = took.dead i was in
              elim (across.only k alive) [
                | inl y ↦ absurd (vacant across i was (sym (old_row i ni) ∙ e ∙ ap (λ (q : ℕ). (cell_at s2 q).row) y ∙ row_at)
                    (sym (old_column i ni) ∙ f ∙ ap (λ (q : ℕ). (cell_at s2 q).column) y ∙ column_at))
                | inr old ↦
                    let nk = took.dead k old in
                    w.linked.one i k was old (sym (old_row i ni) ∙ e ∙ old_row k nk) (sym (old_column i ni) ∙ f ∙ old_column k nk)
              ]
        ];
        free = record {
          visited = took.left;
          visits = visits_kept cells s2 (next_free cells free) took.left at took.visits took.without (let a = rows.long in let b = took.longer in omega arith)
              (λ k ne dead. (
                rows.value k ∙ ap (λ (c : Cell). c.value) (took.rest k ne) ∙ dead,
                rows.after_rest k (λ e. (w.left_gap.may k e).live.value dead)
                    ∙ ap (λ (c : Cell). c.right) (took.rest k ne),
              ));
          all = λ i inside out e. elim (cases_eq i at) [
            | inl x ↦ w.not_zero (sym (ap (λ (c : Cell). c.value) took.here) ∙ sym (rows.value at) ∙ ap (λ (q : ℕ). (cell_at s2 q).value) (sym x) ∙ e)
            | inr ne ↦ took.all i (took.only i (let a = rows.long in omega arith) ne) ne out
                (sym (ap (λ (c : Cell). c.value) (took.rest i ne)) ∙ sym (rows.value i) ∙ e)
          ];
        };
        fits = λ i live. elim (across.only i live) [
          | inl x ↦ subst InRange (sym (ap (λ (q : ℕ). (cell_at s2 q).value) x ∙ rows.value at ∙ ap (λ (c : Cell). c.value) took.here)) w.in_range
          | inr was ↦ subst InRange (sym (rows.value i ∙ ap (λ (c : Cell). c.value) (took.rest i (took.dead i was)))) (w.linked.fits i was)
        ];
      };
    }

pub put_from : (cells : List Cell) (row_heads column_heads : List (Option ℕ)) (free left above : Option ℕ) (row column : ℕ) (value : ℤ)
    → Put cells row_heads column_heads free left above row column value →
    (right below : Option ℕ) (at : ℕ) (t s1 s2 : List Cell) (rows columns : List (Option ℕ)) (head : Option ℕ) →
    right ≡ following along_rows cells row_heads row left → below ≡ following along_columns cells column_heads column above → at ≡ taken_at cells free →
    t ≡ taken cells free (cell_of left right above below row column value) → s1 ≡ spliced Rows t left right (Some at) (Some at)
    → s2 ≡ spliced Columns s1 above below (Some at) (Some at) →
    rows ≡ headed row_heads left row (Some at) → columns ≡ headed column_heads above column (Some at) → head ≡ next_free cells free
    → PutFrom cells row_heads column_heads row column value s2 rows columns head
put_from cells row_heads column_heads free left above row column value w right below at t s1 s2 rows columns head er eb ea et e1 e2 r c h =
    let cell = new_cell cells row_heads column_heads left above row column value in
    let n = following along_rows cells row_heads row left in
    let m = following along_columns cells column_heads column above in
    let is_cell = et ∙ ap (λ (o : Option ℕ). taken cells free (cell_of left o above below row column value)) er
    ∙ ap (λ (o : Option ℕ). taken cells free (cell_of left n above o row column value)) eb in
    let took : Taken cells free cell at t = subst (λ (xs : List Cell). Taken cells free cell at xs) (sym is_cell)
    (subst (λ (j : ℕ). Taken cells free cell j (taken cells free cell)) (sym ea) (taken_facts cells free cell w.linked.free)) in
    let one : Spliced Rows t left n (Some at) (Some at) s1 = subst (λ (xs : List Cell). Spliced Rows t left n (Some at) (Some at) xs)
    (sym (e1 ∙ ap (λ (o : Option ℕ). spliced Rows t left o (Some at) (Some at)) er))
    (splice_facts Rows t left n (Some at) (Some at) (λ j e. let h = left_in w j e in omega arith) (λ j e. let h = right_in w j e in omega arith)) in
    let two : Spliced Columns s1 above m (Some at) (Some at) s2 = subst (λ (xs : List Cell). Spliced Columns s1 above m (Some at) (Some at) xs)
    (sym (e2 ∙ ap (λ (o : Option ℕ). spliced Columns s1 above o (Some at) (Some at)) eb))
    (splice_facts Columns s1 above m (Some at) (Some at) (λ j e. let h = above_in w j e in omega arith) (λ j e. let h = below_in w j e in omega arith)) in
    subst (λ (o : Option ℕ). PutFrom cells row_heads column_heads row column value s2 rows columns o) (sym h)
    (subst (λ (xs : List (Option ℕ)). PutFrom cells row_heads column_heads row column value s2 rows xs (next_free cells free)) (sym c)
    (subst (λ (xs : List (Option ℕ)). PutFrom cells row_heads column_heads row column value s2 xs (headed column_heads above column (Some at))
    (next_free cells free)) (sym r)
    (put_done cells row_heads column_heads free left above row column value t s1 s2 at w took one two)))

-- the first free cell is an index
pub free_in : (cells : List Cell) (free : Option ℕ) → IsFree cells free → (j : ℕ) → free ≡ Some j → j < length cells
free_in cells free f j e = go cells free f.visited f.visits j e where
  go : (cells : List Cell) (free : Option ℕ) (is : List ℕ) → FreeVisits cells free is → (j : ℕ) → free ≡ Some j → j < length cells
  go cells free [] v j e = absurd (none-some j (sym v ∙ e))
  go cells free (i ∷ is) v j e = subst (λ (k : ℕ). k < length cells) (same_Some i j (sym v.0 ∙ e)) v.1

-- cells grow by taking
pub taken_longer : (cells : List Cell) (free : Option ℕ) (cell : Cell) (t : List Cell) → IsFree cells free → t ≡ taken cells free cell → length cells ≤ length t
taken_longer cells free cell t f e = let a = (taken_facts cells free cell f).longer in let b = ap (λ (xs : List Cell). length xs) e in omega arith
