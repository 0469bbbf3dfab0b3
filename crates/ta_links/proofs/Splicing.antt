-- What splicing leaves and writes of each cell
use Rattle.ta_links.proofs.Common.{◌≡◌, ◌≢◌, inl, inr, ℕ, ◌<◌, List, length, set, arith, sym, ap, ◌∙◌, refl, subst, Option, Some, None, get_or-set_same}
use Rattle.ta_links.proofs.Common.{get_or-set_other, length-set, Cell, Way, Rows, Columns, no_cell, cell_at, line_at, place_at, before_at, after_at, Direction}
use Rattle.ta_links.proofs.Common.{along_rows, along_columns, direction, with_after, with_before, linked, spliced, cases_eq}

abbrev pub other : Way → Way
other Rows = Columns
other Columns = Rows

linked_hit : (write : Option ℕ → Cell → Cell) (cells : List Cell) (at to : Option ℕ) (k : ℕ) → at ≡ Some k → k < length cells
    → cell_at (linked write cells at to) k ≡ write to (cell_at cells k)
linked_hit write cells None to k e h = absurd (cc)
linked_hit write cells (Some j) to k e h =
    let same : j ≡ k = cc in
    subst (λ (m : ℕ). cell_at (set cells m (write to (cell_at cells m))) k ≡ write to (cell_at cells k)) (sym same)
    (get_or-set_same cells k (write to (cell_at cells k)) no_cell h)

linked_miss : (write : Option ℕ → Cell → Cell) (cells : List Cell) (at to : Option ℕ) (k : ℕ) → at ≢ Some k
    → cell_at (linked write cells at to) k ≡ cell_at cells k
linked_miss write cells None to k e = refl
linked_miss write cells (Some j) to k e = get_or-set_other cells j k (write to (cell_at cells j)) no_cell (λ s. e (ap (λ (m : ℕ). Some m) (sym s)))

linked_length : (write : Option ℕ → Cell → Cell) (cells : List Cell) (at to : Option ℕ) → length (linked write cells at to) ≡ length cells
linked_length write cells None to = refl
linked_length write cells (Some j) to = length-set cells j (write to (cell_at cells j))

linked_keeps : {A : Type 0} (g : Cell → A) (write : Option ℕ → Cell → Cell) (cells : List Cell) (at to : Option ℕ) → ((c : Cell) → g (write to c) ≡ g c)
    → ((j : ℕ) → at ≡ Some j → j < length cells) → (k : ℕ) → g (cell_at (linked write cells at to) k) ≡ g (cell_at cells k)
linked_keeps g write cells None to same inside k = refl
linked_keeps g write cells (Some j) to same inside k = elim (cases_eq j k) [
  | inl e ↦
      let some : Some j ≡ Some k = ap (λ (m : ℕ). Some m) e in
      ap g (linked_hit write cells (Some j) to k some (inside k some)) ∙ same (cell_at cells k)
  | inr ne ↦ ap g (linked_miss write cells (Some j) to k (λ e. ne (cc)))
]

-- cells whose links were written on both sides of a gap
pub record Spliced (way : Way) (cells : List Cell) (before after forward back : Option ℕ) (new : List Cell) : Type 0 where
  pub long : length new ≡ length cells
  pub row : (k : ℕ) → (cell_at new k).row ≡ (cell_at cells k).row
  pub column : (k : ℕ) → (cell_at new k).column ≡ (cell_at cells k).column
  pub value : (k : ℕ) → (cell_at new k).value ≡ (cell_at cells k).value
  pub after_hit : (k : ℕ) → before ≡ Some k → after_at (direction way) new k ≡ forward
  pub after_rest : (k : ℕ) → before ≢ Some k → after_at (direction way) new k ≡ after_at (direction way) cells k
  pub before_hit : (k : ℕ) → after ≡ Some k → before_at (direction way) new k ≡ back
  pub before_rest : (k : ℕ) → after ≢ Some k → before_at (direction way) new k ≡ before_at (direction way) cells k
  pub other_after : (k : ℕ) → after_at (direction (other way)) new k ≡ after_at (direction (other way)) cells k
  pub other_before : (k : ℕ) → before_at (direction (other way)) new k ≡ before_at (direction (other way)) cells k

-- what both writes leave of a cell
both_keep : {A : Type 0} (g : Cell → A) (way : Way) (cells : List Cell) (before after forward back : Option ℕ)
    → ((c : Cell) → g (with_after way forward c) ≡ g c) → ((c : Cell) → g (with_before way back c) ≡ g c) →
    ((j : ℕ) → before ≡ Some j → j < length cells) → ((j : ℕ) → after ≡ Some j → j < length cells) → (k : ℕ)
    → g (cell_at (spliced way cells before after forward back) k) ≡ g (cell_at cells k)
both_keep g way cells before after forward back f b in_before in_after k =
    let long = linked_length (with_after way) cells before forward in
    linked_keeps g (with_before way) (linked (with_after way) cells before forward) after back b (λ j e. let h = in_after j e in omega arith) k
    ∙ linked_keeps g (with_after way) cells before forward f in_before k

-- the link forward, and the link back
forward_is : {A : Type 0} (g : Cell → A) (way : Way) (cells : List Cell) (before after forward back : Option ℕ)
    → ((c : Cell) → g (with_before way back c) ≡ g c) →
    ((j : ℕ) → before ≡ Some j → j < length cells) → ((j : ℕ) → after ≡ Some j → j < length cells) → (k : ℕ) → before ≡ Some k
    → g (cell_at (spliced way cells before after forward back) k) ≡ g (with_after way forward (cell_at cells k))
forward_is g way cells before after forward back b in_before in_after k e =
    let long = linked_length (with_after way) cells before forward in
    linked_keeps g (with_before way) (linked (with_after way) cells before forward) after back b (λ j e. let h = in_after j e in omega arith) k
    ∙ ap g (linked_hit (with_after way) cells before forward k e (in_before k e))

forward_rest : {A : Type 0} (g : Cell → A) (way : Way) (cells : List Cell) (before after forward back : Option ℕ)
    → ((c : Cell) → g (with_before way back c) ≡ g c) →
    ((j : ℕ) → after ≡ Some j → j < length cells) → (k : ℕ) → before ≢ Some k
    → g (cell_at (spliced way cells before after forward back) k) ≡ g (cell_at cells k)
forward_rest g way cells before after forward back b in_after k e =
    let long = linked_length (with_after way) cells before forward in
    linked_keeps g (with_before way) (linked (with_after way) cells before forward) after back b (λ j e. let h = in_after j e in omega arith) k
    ∙ ap g (linked_miss (with_after way) cells before forward k e)

back_is : {A : Type 0} (g : Cell → A) (way : Way) (cells : List Cell) (before after forward back : Option ℕ) → ((j : ℕ) → after ≡ Some j → j < length cells)
    → (to : A) → ((c : Cell) → g (with_before way back c) ≡ to) →
    (k : ℕ) → after ≡ Some k → g (cell_at (spliced way cells before after forward back) k) ≡ to
back_is g way cells before after forward back in_after to b k e =
    let long = linked_length (with_after way) cells before forward in
    let h = in_after k e in
    ap g (linked_hit (with_before way) (linked (with_after way) cells before forward) after back k e (omega arith))
    ∙ b (cell_at (linked (with_after way) cells before forward) k)

back_rest : {A : Type 0} (g : Cell → A) (way : Way) (cells : List Cell) (before after forward back : Option ℕ)
    → ((c : Cell) → g (with_after way forward c) ≡ g c) →
    ((j : ℕ) → before ≡ Some j → j < length cells) → (k : ℕ) → after ≢ Some k
    → g (cell_at (spliced way cells before after forward back) k) ≡ g (cell_at cells k)
back_rest g way cells before after forward back f in_before k e =
    ap g (linked_miss (with_before way) (linked (with_after way) cells before forward) after back k e)
    ∙ linked_keeps g (with_after way) cells before forward f in_before k

pub splice_facts : (way : Way) (cells : List Cell) (before after forward back : Option ℕ) → ((j : ℕ) → before ≡ Some j → j < length cells)
    → ((j : ℕ) → after ≡ Some j → j < length cells) →
    Spliced way cells before after forward back (spliced way cells before after forward back)
splice_facts Rows cells before after forward back b a = record {
  long = linked_length (with_before Rows) (linked (with_after Rows) cells before forward) after back ∙ linked_length (with_after Rows) cells before forward;
  row = both_keep (λ (c : Cell). c.row) Rows cells before after forward back (λ c. refl) (λ c. refl) b a;
  column = both_keep (λ (c : Cell). c.column) Rows cells before after forward back (λ c. refl) (λ c. refl) b a;
  value = both_keep (λ (c : Cell). c.value) Rows cells before after forward back (λ c. refl) (λ c. refl) b a;
  after_hit = forward_is (λ (c : Cell). c.right) Rows cells before after forward back (λ c. refl) b a;
  after_rest = forward_rest (λ (c : Cell). c.right) Rows cells before after forward back (λ c. refl) a;
  before_hit = back_is (λ (c : Cell). c.left) Rows cells before after forward back a back (λ c. refl);
  before_rest = back_rest (λ (c : Cell). c.left) Rows cells before after forward back (λ c. refl) b;
  other_after = both_keep (λ (c : Cell). c.below) Rows cells before after forward back (λ c. refl) (λ c. refl) b a;
  other_before = both_keep (λ (c : Cell). c.above) Rows cells before after forward back (λ c. refl) (λ c. refl) b a;
}
splice_facts Columns cells before after forward back b a = record {
  long = linked_length (with_before Columns) (linked (with_after Columns) cells before forward) after back
      ∙ linked_length (with_after Columns) cells before forward;
  row = both_keep (λ (c : Cell). c.row) Columns cells before after forward back (λ c. refl) (λ c. refl) b a;
  column = both_keep (λ (c : Cell). c.column) Columns cells before after forward back (λ c. refl) (λ c. refl) b a;
  value = both_keep (λ (c : Cell). c.value) Columns cells before after forward back (λ c. refl) (λ c. refl) b a;
  after_hit = forward_is (λ (c : Cell). c.below) Columns cells before after forward back (λ c. refl) b a;
  after_rest = forward_rest (λ (c : Cell). c.below) Columns cells before after forward back (λ c. refl) a;
  before_hit = back_is (λ (c : Cell). c.above) Columns cells before after forward back a back (λ c. refl);
  before_rest = back_rest (λ (c : Cell). c.above) Columns cells before after forward back (λ c. refl) b;
  other_after = both_keep (λ (c : Cell). c.right) Columns cells before after forward back (λ c. refl) (λ c. refl) b a;
  other_before = both_keep (λ (c : Cell). c.left) Columns cells before after forward back (λ c. refl) (λ c. refl) b a;
}

-- what two splices, one for each way, come to in one of the ways
pub record Relinked (way : Direction) (cells : List Cell) (before after forward back : Option ℕ) (new : List Cell) : Type 0 where
  pub long : length new ≡ length cells
  pub line : (k : ℕ) → line_at way new k ≡ line_at way cells k
  pub place : (k : ℕ) → place_at way new k ≡ place_at way cells k
  pub value : (k : ℕ) → (cell_at new k).value ≡ (cell_at cells k).value
  pub after_hit : (k : ℕ) → before ≡ Some k → after_at way new k ≡ forward
  pub after_rest : (k : ℕ) → before ≢ Some k → after_at way new k ≡ after_at way cells k
  pub before_hit : (k : ℕ) → after ≡ Some k → before_at way new k ≡ back
  pub before_rest : (k : ℕ) → after ≢ Some k → before_at way new k ≡ before_at way cells k

pub rows_relinked : (cells s1 s2 : List Cell) (b a f k b' a' f' k' : Option ℕ) → Spliced Rows cells b a f k s1 → Spliced Columns s1 b' a' f' k' s2
    → Relinked along_rows cells b a f k s2
rows_relinked cells s1 s2 b a f k b' a' f' k' one two = record {
  long = two.long ∙ one.long;
  line = λ i. two.row i ∙ one.row i;
  place = λ i. two.column i ∙ one.column i;
  value = λ i. two.value i ∙ one.value i;
  after_hit = λ i e. two.other_after i ∙ one.after_hit i e;
  after_rest = λ i e. two.other_after i ∙ one.after_rest i e;
  before_hit = λ i e. two.other_before i ∙ one.before_hit i e;
  before_rest = λ i e. two.other_before i ∙ one.before_rest i e;
}

pub columns_relinked : (cells s1 s2 : List Cell) (b a f k b' a' f' k' : Option ℕ) → Spliced Rows cells b a f k s1 → Spliced Columns s1 b' a' f' k' s2
    → Relinked along_columns cells b' a' f' k' s2
columns_relinked cells s1 s2 b a f k b' a' f' k' one two = record {
  long = two.long ∙ one.long;
  line = λ i. two.column i ∙ one.column i;
  place = λ i. two.row i ∙ one.row i;
  value = λ i. two.value i ∙ one.value i;
  after_hit = λ i e. two.after_hit i e;
  after_rest = λ i e. two.after_rest i e ∙ one.other_after i;
  before_hit = λ i e. two.before_hit i e;
  before_rest = λ i e. two.before_rest i e ∙ one.other_before i;
}

pub spliced_long : (way : Way) (cells : List Cell) (before after forward back : Option ℕ) → length (spliced way cells before after forward back) ≡ length cells
spliced_long way cells before after forward back = linked_length (with_before way) (linked (with_after way) cells before forward) after back
    ∙ linked_length (with_after way) cells before forward
