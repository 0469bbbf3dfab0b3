-- Cells stay linked where one is taken out, and where a value is written
use Rattle.ta_links.proofs.Common.{◌≡◌, ◌≢◌, inl, inr, ℕ, ℤ, pos, ◌+ℤ◌, ◌-ℤ◌, ◌<◌, List, [], ◌∷◌, length, set, arith, sym, ap, ◌∙◌, refl, subst, Option, Some}
use Rattle.ta_links.proofs.Common.{ints, get_or-set_same, get_or-set_other, length-set, at_or_not, InRange, Cell, Rows, Columns, no_cell, cell_at, head_at}
use Rattle.ta_links.proofs.Common.{IsLive, Direction, line_at, place_at, before_at, after_at, along_rows, along_columns, IsChained, NotIn, FreeVisits}
use Rattle.ta_links.proofs.Common.{AreLinked, only_at_place, shown, value_in, headed, spliced, freed, with_value, Stays, cases_eq}
use Rattle.ta_links.proofs.Removal.{Removal, removal_keeps}
use Rattle.ta_links.proofs.Heads.{headed_new, headed_rest, headed_long}
use Rattle.ta_links.proofs.Splicing.{Spliced, Relinked, splice_facts, rows_relinked, columns_relinked}
use Rattle.ta_links.proofs.Taking.{visits_kept}
use Rattle.ta_links.proofs.Cells.{value_same, value_set, placed_zero, placed_here, placed_elsewhere}

-- cells after one was freed
pub record Freed (cells : List Cell) (free : Option ℕ) (at : ℕ) (new : List Cell) : Type 0 where
  pub long : length new ≡ length cells
  pub value : (cell_at new at).value ≡ pos 0
  pub right : (cell_at new at).right ≡ free
  pub rest : (k : ℕ) → k ≢ at → cell_at new k ≡ cell_at cells k
  pub shows : (r c : ℕ) → value_in new r c ≡ value_in cells r c -ℤ shown (cell_at cells at) r c

freed_facts : (cells : List Cell) (free : Option ℕ) (at : ℕ) → at < length cells → Freed cells free at (freed cells free at)
freed_facts cells free at inside =
    let cell : Cell = record (cell_at cells at) { value = pos 0; right = free } in
    let here = get_or-set_same cells at cell no_cell inside in
    record {
      long = length-set cells at cell;
      value = ap (λ (c : Cell). c.value) here;
      right = ap (λ (c : Cell). c.right) here;
      rest = λ k ne. get_or-set_other cells at k cell no_cell ne;
      shows = λ r c. omega (arith, ints, value_set cells at cell r c inside, placed_zero (cell_at cells at).row (cell_at cells at).column r c);
    }

removal_of : (way : Direction) (cells : List Cell) (heads : List (Option ℕ)) (free : Option ℕ) (at : ℕ) (s new : List Cell) → IsChained way cells heads →
    ((i k : ℕ) → IsLive cells i → IsLive cells k → line_at way cells i ≡ line_at way cells k → place_at way cells i ≡ place_at way cells k → i ≡ k) →
    IsLive cells at → Relinked way cells (before_at way cells at) (after_at way cells at) (after_at way cells at) (before_at way cells at) s
    → Freed s free at new → Removal
removal_of way cells heads free at s new chained one live linked free_ =
    let p = before_at way cells at in
    let n = after_at way cells at in
    let apart : (k : ℕ) → IsLive new k → k ≢ at = λ k alive e. alive.value (ap (λ (q : ℕ). (cell_at new q).value) e ∙ free_.value) in
    record {
      way = way;
      cells = cells;
      heads = heads;
      cells' = new;
      heads' = headed heads p (line_at way cells at) n;
      x = at;
      p = p;
      n = n;
      chained = chained;
      one = one;
      long = headed_long heads p (line_at way cells at) n;
      live = live;
      before_x = refl;
      after_x = refl;
      old = λ k alive ne. record {
        inside = let a = alive.inside in let b = linked.long in let c = free_.long in omega arith;
        value = λ e. alive.value (sym (linked.value k) ∙ sym (ap (λ (c : Cell). c.value) (free_.rest k ne)) ∙ e);
      };
      only = λ k alive.
          let ne = apart k alive in (
            record {
              inside = let a = alive.inside in let b = linked.long in let c = free_.long in omega arith;
              value = λ e. alive.value (ap (λ (c : Cell). c.value) (free_.rest k ne) ∙ linked.value k ∙ e);
            },
            ne,
            ap way.line (free_.rest k ne) ∙ linked.line k,
            ap way.place (free_.rest k ne) ∙ linked.place k,
          );
      after_p = λ k alive e. ap way.after (free_.rest k (apart k alive)) ∙ linked.after_hit k e;
      after_rest = λ k alive ne. ap way.after (free_.rest k (apart k alive)) ∙ linked.after_rest k ne;
      before_n = λ k alive e. ap way.before (free_.rest k (apart k alive)) ∙ linked.before_hit k e;
      before_rest = λ k alive ne. ap way.before (free_.rest k (apart k alive)) ∙ linked.before_rest k ne;
      head_new = headed_new heads p (line_at way cells at) n (chained.inside at live);
      head_rest = headed_rest heads p (line_at way cells at) n;
    }

-- the neighbours of a live cell are indices
pub before_in : (way : Direction) (cells : List Cell) (heads : List (Option ℕ)) (at : ℕ) → IsChained way cells heads → IsLive cells at → (j : ℕ)
    → before_at way cells at ≡ Some j → j < length cells
before_in way cells heads at chained live j e = (chained.back at j live e).0.inside

pub after_in : (way : Direction) (cells : List Cell) (heads : List (Option ℕ)) (at : ℕ) → IsChained way cells heads → IsLive cells at → (j : ℕ)
    → after_at way cells at ≡ Some j → j < length cells
after_in way cells heads at chained live j e = (chained.next at j live e).live.inside

-- what the calls that take a cell out come to
pub record CutFrom (cells : List Cell) (row_heads column_heads : List (Option ℕ)) (at : ℕ) (new : List Cell) (rows columns : List (Option ℕ)) (head : Option ℕ)
    : Type 0 where
  pub linked : AreLinked new rows columns head
  pub long : length new ≡ length cells
  pub values : let cell = cell_at cells at in (r c : ℕ) → value_in new r c ≡ (value_in cells r c -ℤ only_at_place cell.row cell.column cell.value r c)
  pub kept : (k : ℕ) → IsLive cells k → k ≢ at → Stays cells new k
  pub rows_long : length rows ≡ length row_heads
  pub columns_long : length columns ≡ length column_heads

-- a live cell isn't in the chain of free ones
not_visited : (cells : List Cell) (head : Option ℕ) (is : List ℕ) (at : ℕ) → FreeVisits cells head is → IsLive cells at → NotIn at is
not_visited cells head [] at v live = tt
not_visited cells head (i ∷ is) at v live =
    (λ e. live.value (ap (λ (q : ℕ). (cell_at cells q).value) e ∙ v.2), not_visited cells (cell_at cells i).right is at v.4 live)

cut_done : (cells : List Cell) (row_heads column_heads : List (Option ℕ)) (free : Option ℕ) (at : ℕ) (s1 s2 new : List Cell)
    → AreLinked cells row_heads column_heads free → IsLive cells at →
    Spliced Rows cells (cell_at cells at).left (cell_at cells at).right (cell_at cells at).right (cell_at cells at).left s1 →
    Spliced Columns s1 (cell_at cells at).above (cell_at cells at).below (cell_at cells at).below (cell_at cells at).above s2 → Freed s2 free at new →
    (let cell = cell_at cells at in CutFrom cells row_heads column_heads at new (headed row_heads cell.left cell.row cell.right)
    (headed column_heads cell.above cell.column cell.below) (Some at))
unfolding removal_of
cut_done cells row_heads column_heads free at s1 s2 new l live one two free_ =
    let cell = cell_at cells at in
    let rows = rows_relinked cells s1 s2 cell.left cell.right cell.right cell.left cell.above cell.below cell.below cell.above one two in
    let columns = columns_relinked cells s1 s2 cell.left cell.right cell.right cell.left cell.above cell.below cell.below cell.above one two in
    let across = removal_of along_rows cells row_heads free at s2 new l.rows (λ i k a b e f. l.one i k a b e f) live rows free_ in
    let down = removal_of along_columns cells column_heads free at s2 new l.columns (λ i k a b e f. l.one i k a b f e) live columns free_ in
    let cut_row : (k : ℕ) → k ≢ at → (cell_at new k).row ≡ (cell_at cells k).row = λ k ne. ap (λ (c : Cell). c.row) (free_.rest k ne) ∙ rows.line k in
    let cut_column : (k : ℕ) → k ≢ at → (cell_at new k).column ≡ (cell_at cells k).column = λ k ne. ap (λ (c : Cell). c.column) (free_.rest k ne)
    ∙ rows.place k in
    let cut_value : (k : ℕ) → k ≢ at → (cell_at new k).value ≡ (cell_at cells k).value = λ k ne. ap (λ (c : Cell). c.value) (free_.rest k ne) ∙ rows.value k in
    let f = l.free in
    record {
      long = free_.long ∙ rows.long;
      rows_long = headed_long row_heads cell.left cell.row cell.right;
      columns_long = headed_long column_heads cell.above cell.column cell.below;
      kept = λ k alive ne. record { live = across.old k alive ne; row = cut_row k ne; column = cut_column k ne };
      values = λ r c.
          let same = value_same s2 cells rows.long rows.line rows.place rows.value r c in
          let shown_ : shown (cell_at s2 at) r c ≡ shown cell r c =
          ap (λ (m : ℕ). only_at_place m (cell_at s2 at).column (cell_at s2 at).value r c) (rows.line at)
          ∙ ap (λ (m : ℕ). only_at_place cell.row m (cell_at s2 at).value r c) (rows.place at)
          ∙ ap (λ (z : ℤ). only_at_place cell.row cell.column z r c) (rows.value at) in
          omega (arith, ints, free_.shows r c, same, shown_);
      linked = record {
        rows = removal_keeps across;
        columns = removal_keeps down;
        one = λ i k a b e g.
            let x = across.only i a in
            let y = across.only k b in
            l.one i k x.0 y.0 (sym (cut_row i x.1) ∙ e ∙ cut_row k y.1) (sym (cut_column i x.1) ∙ g ∙ cut_column k y.1);
        free = record {
          visited = at ∷ f.visited;
          visits =
              let fresh = not_visited cells free f.visited at f.visits live in (
                refl,
                omega arith,
                free_.value,
                fresh,
                subst (λ (o : Option ℕ). FreeVisits new o f.visited) (sym free_.right) (visits_kept cells new free f.visited at f.visits fresh (omega arith)
                    (λ k ne dead. (
                      cut_value k ne ∙ dead,
                      ap (λ (c : Cell). c.right) (free_.rest k ne)
                          ∙ rows.after_rest k (λ e. (l.rows.back at k live e).0.value dead),
                    ))),
              );
          all = λ i inside out e.
              f.all i (omega arith) out.1 (sym (cut_value i out.0) ∙ e);
        };
        fits = λ i alive.
            let x = across.only i alive in
            subst InRange (sym (cut_value i x.1)) (l.fits i x.0);
      };
    }

-- a direction reads these from cells that stay as they are but for a value
pub record Valued (cells : List Cell) (at : ℕ) (value : ℤ) (new : List Cell) : Type 0 where
  pub long : length new ≡ length cells
  pub here : (cell_at new at).value ≡ value
  pub rest : (k : ℕ) → k ≢ at → cell_at new k ≡ cell_at cells k
  pub row : (k : ℕ) → (cell_at new k).row ≡ (cell_at cells k).row
  pub column : (k : ℕ) → (cell_at new k).column ≡ (cell_at cells k).column
  pub left : (k : ℕ) → (cell_at new k).left ≡ (cell_at cells k).left
  pub right : (k : ℕ) → (cell_at new k).right ≡ (cell_at cells k).right
  pub above : (k : ℕ) → (cell_at new k).above ≡ (cell_at cells k).above
  pub below : (k : ℕ) → (cell_at new k).below ≡ (cell_at cells k).below

field_kept : {A : Type 0} (g : Cell → A) (cells : List Cell) (at : ℕ) (value : ℤ) → at < length cells → ((c : Cell) → g (with_value value c) ≡ g c) → (k : ℕ)
    → g (cell_at (set cells at (with_value value (cell_at cells at))) k) ≡ g (cell_at cells k)
field_kept g cells at value inside same k = elim (cases_eq k at) [
  | inl e ↦
      let at_ = get_or-set_same cells at (with_value value (cell_at cells at)) no_cell inside in
      ap (λ (q : ℕ). g (cell_at (set cells at (with_value value (cell_at cells at))) q)) e ∙ ap g at_ ∙ same (cell_at cells at)
      ∙ ap (λ (q : ℕ). g (cell_at cells q)) (sym e)
  | inr ne ↦ ap g (get_or-set_other cells at k (with_value value (cell_at cells at)) no_cell ne)
]

valued_facts : (cells : List Cell) (at : ℕ) (value : ℤ) → at < length cells → Valued cells at value (set cells at (with_value value (cell_at cells at)))
valued_facts cells at value inside = record {
  long = length-set cells at (with_value value (cell_at cells at));
  here = ap (λ (c : Cell). c.value) (get_or-set_same cells at (with_value value (cell_at cells at)) no_cell inside);
  rest = λ k ne. get_or-set_other cells at k (with_value value (cell_at cells at)) no_cell ne;
  row = field_kept (λ (c : Cell). c.row) cells at value inside (λ c. refl);
  column = field_kept (λ (c : Cell). c.column) cells at value inside (λ c. refl);
  left = field_kept (λ (c : Cell). c.left) cells at value inside (λ c. refl);
  right = field_kept (λ (c : Cell). c.right) cells at value inside (λ c. refl);
  above = field_kept (λ (c : Cell). c.above) cells at value inside (λ c. refl);
  below = field_kept (λ (c : Cell). c.below) cells at value inside (λ c. refl);
}

-- chains along which nothing changed, under heads that show the same cells
pub chained_same : (way : Direction) (cells : List Cell) (heads heads' : List (Option ℕ)) (new : List Cell) → ((k : ℕ) → IsLive new k → IsLive cells k)
    → ((k : ℕ) → IsLive cells k → IsLive new k) →
    ((k : ℕ) → line_at way new k ≡ line_at way cells k) → ((k : ℕ) → place_at way new k ≡ place_at way cells k)
    → ((k : ℕ) → before_at way new k ≡ before_at way cells k) → ((k : ℕ) → after_at way new k ≡ after_at way cells k) →
    ((line : ℕ) → head_at heads' line ≡ head_at heads line) → ((i : ℕ) → IsLive cells i → line_at way cells i < length heads') → IsChained way cells heads
    → IsChained way new heads'
chained_same way cells heads heads' new back_ on lines places befores afters same inside c = record {
  inside = λ i l. let a = lines i in let b = inside i (back_ i l) in omega arith;
  empty = λ q none k l e. c.empty q (sym (same q) ∙ none) k (back_ k l) (sym (lines k) ∙ e);
  first = λ q i e.
      let f = c.first q i (sym (same q) ∙ e) in
      record {
        live = on i f.live;
        here = lines i ∙ f.here;
        front = befores i ∙ f.front;
        least = λ k l at. let a = f.least k (back_ k l) (sym (lines k) ∙ at) in let b = places i in let d = places k in omega arith;
      };
  next = λ i j l e.
      let f = c.next i j (back_ i l) (sym (afters i) ∙ e) in
      let a = places i in
      let b = places j in
      record {
        live = on j f.live;
        here = lines j ∙ f.here ∙ sym (lines i);
        rises = omega arith;
        back = befores j ∙ f.back;
        nothing_between = λ k m at.
            let d = places k in
            elim (f.nothing_between k (back_ k m) (sym (lines k) ∙ at ∙ lines i)) [ inl low ↦ inl (omega arith) | inr high ↦ inr (omega arith) ];
      };
  last = λ i l e k m at.
      let a = places i in
      let b = places k in
      let d = c.last i (back_ i l) (sym (afters i) ∙ e) k (back_ k m) (sym (lines k) ∙ at ∙ lines i) in
      omega arith;
  begins = λ i l e. ap (head_at heads') (lines i) ∙ same (line_at way cells i) ∙ c.begins i (back_ i l) (sym (befores i) ∙ e);
  back = λ i h l e. let b = c.back i h (back_ i l) (sym (befores i) ∙ e) in (on h b.0, afters h ∙ b.1);
}

pub record SetDone (cells : List Cell) (row_heads column_heads : List (Option ℕ)) (free : Option ℕ) (at : ℕ) (value : ℤ) (new : List Cell) : Type 0 where
  pub linked : AreLinked new row_heads column_heads free
  pub values : let cell = cell_at cells at in (r c : ℕ)
      → value_in new r c ≡ (value_in cells r c +ℤ only_at_place cell.row cell.column (value -ℤ cell.value) r c)
  pub kept : (k : ℕ) → IsLive cells k → Stays cells new k

placed_difference : (row column : ℕ) (a b : ℤ) (r c : ℕ)
    → only_at_place row column (a -ℤ b) r c ≡ only_at_place row column a r c -ℤ only_at_place row column b r c
placed_difference row column a b r c = elim (at_or_not row column r c) [
  | inl e ↦ omega (arith, ints, placed_here row column (a -ℤ b) r c e.0 e.1, placed_here row column a r c e.0 e.1, placed_here row column b r c e.0 e.1)
  | inr ne ↦ omega (arith, ints, placed_elsewhere row column (a -ℤ b) r c ne, placed_elsewhere row column a r c ne, placed_elsewhere row column b r c ne)
]

pub set_keeps : (cells : List Cell) (row_heads column_heads : List (Option ℕ)) (free : Option ℕ) (at : ℕ) (value : ℤ)
    → AreLinked cells row_heads column_heads free → IsLive cells at → value ≢ pos 0 → InRange value →
    SetDone cells row_heads column_heads free at value (set cells at (with_value value (cell_at cells at)))
set_keeps cells row_heads column_heads free at value l live not_zero fits =
    let new = set cells at (with_value value (cell_at cells at)) in
    let v = valued_facts cells at value live.inside in
    let f = l.free in
    let back_ : (k : ℕ) → IsLive new k → IsLive cells k = λ k m. elim (cases_eq k at) [
      | inl e ↦ subst (λ (q : ℕ). IsLive cells q) (sym e) live
      | inr ne ↦ record { inside = let a = m.inside in omega arith; value = λ e. m.value (ap (λ (c : Cell). c.value) (v.rest k ne) ∙ e) }
    ] in
    let on : (k : ℕ) → IsLive cells k → IsLive new k = λ k m. elim (cases_eq k at) [
      | inl e ↦ record { inside = let a = m.inside in omega arith; value = λ z. not_zero (sym v.here ∙ ap (λ (q : ℕ). (cell_at new q).value) (sym e) ∙ z) }
      | inr ne ↦ record { inside = let a = m.inside in omega arith; value = λ e. m.value (sym (ap (λ (c : Cell). c.value) (v.rest k ne)) ∙ e) }
    ] in
    record {
      linked = record {
        rows = chained_same along_rows cells row_heads row_heads new back_ on v.row v.column v.left v.right (λ line. refl) l.rows.inside l.rows;
        columns = chained_same along_columns cells column_heads column_heads new back_ on v.column v.row v.above v.below (λ line. refl) l.columns.inside
            l.columns;
        one = λ i k a b e g. l.one i k (back_ i a) (back_ k b) (sym (v.row i) ∙ e ∙ v.row k) (sym (v.column i) ∙ g ∙ v.column k);
        free = record {
          visited = f.visited;
          visits = visits_kept cells new free f.visited at f.visits (not_visited cells free f.visited at f.visits live) (omega arith)
              (λ k ne dead. (ap (λ (c : Cell). c.value) (v.rest k ne) ∙ dead, v.right k));
          all = λ i inside out e. elim (cases_eq i at) [
            | inl x ↦ not_zero (sym v.here ∙ ap (λ (q : ℕ). (cell_at new q).value) (sym x) ∙ e)
            | inr ne ↦ f.all i (omega arith) out (sym (ap (λ (c : Cell). c.value) (v.rest i ne)) ∙ e)
          ];
        };
        fits = λ i m. elim (cases_eq i at) [
          | inl x ↦ subst InRange (sym (ap (λ (q : ℕ). (cell_at new q).value) x ∙ v.here)) fits
          | inr ne ↦ subst InRange (sym (ap (λ (c : Cell). c.value) (v.rest i ne))) (l.fits i (back_ i m))
        ];
      };
      kept = λ k m. record { live = on k m; row = v.row k; column = v.column k };
      values = λ r c. omega (
        arith,
        ints,
        value_set cells at (with_value value (cell_at cells at)) r c live.inside,
        placed_difference (cell_at cells at).row
            (cell_at cells at).column value (cell_at cells at).value r c,
      );
    }

pub cut_from : (cells : List Cell) (row_heads column_heads : List (Option ℕ)) (free : Option ℕ) (at : ℕ) → AreLinked cells row_heads column_heads free
    → IsLive cells at → (cell : Cell) (s1 s2 new : List Cell) (rows columns : List (Option ℕ)) (head : Option ℕ) →
    cell ≡ cell_at cells at → s1 ≡ spliced Rows cells cell.left cell.right cell.right cell.left
    → s2 ≡ spliced Columns s1 cell.above cell.below cell.below cell.above → new ≡ freed s2 free at →
    rows ≡ headed row_heads cell.left cell.row cell.right → columns ≡ headed column_heads cell.above cell.column cell.below → head ≡ Some at
    → CutFrom cells row_heads column_heads at new rows columns head
cut_from cells row_heads column_heads free at l live cell s1 s2 new rows columns head e e1 e2 e3 r c h =
    let old = cell_at cells at in
    let one : Spliced Rows cells old.left old.right old.right old.left s1 = subst
    (λ (xs : List Cell). Spliced Rows cells old.left old.right old.right old.left xs)
    (sym (e1 ∙ ap (λ (c : Cell). spliced Rows cells c.left c.right c.right c.left) e))
    (splice_facts Rows cells old.left old.right old.right old.left (before_in along_rows cells row_heads at l.rows live)
    (after_in along_rows cells row_heads at l.rows live)) in
    let two : Spliced Columns s1 old.above old.below old.below old.above s2 = subst
    (λ (xs : List Cell). Spliced Columns s1 old.above old.below old.below old.above xs)
    (sym (e2 ∙ ap (λ (c : Cell). spliced Columns s1 c.above c.below c.below c.above) e))
    (splice_facts Columns s1 old.above old.below old.below old.above
    (λ j e. let h = before_in along_columns cells column_heads at l.columns live j e in omega arith)
    (λ j e. let h = after_in along_columns cells column_heads at l.columns live j e in omega arith)) in
    let three : Freed s2 free at new = subst (λ (xs : List Cell). Freed s2 free at xs) (sym e3) (freed_facts s2 free at (omega arith)) in
    subst (λ (o : Option ℕ). CutFrom cells row_heads column_heads at new rows columns o) (sym h)
    (subst (λ (xs : List (Option ℕ)). CutFrom cells row_heads column_heads at new rows xs (Some at))
    (sym (c ∙ ap (λ (c : Cell). headed column_heads c.above c.column c.below) e))
    (subst (λ (xs : List (Option ℕ)). CutFrom cells row_heads column_heads at new xs (headed column_heads old.above old.column old.below) (Some at))
    (sym (r ∙ ap (λ (c : Cell). headed row_heads c.left c.row c.right) e))
    (cut_done cells row_heads column_heads free at s1 s2 new l live one two three)))
