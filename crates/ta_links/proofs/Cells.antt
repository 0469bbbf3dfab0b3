-- Numbers that cells put into places
use Rattle.ta_links.proofs.Common.{◌≡◌, ◌≢◌, ◌⊎◌, inl, inr, ℕ, zero, suc, ℤ, pos, ◌+ℤ◌, ◌-ℤ◌, ◌<◌, List, [], ◌∷◌, ◌++◌, length, set, arith, ap, ◌∙◌, refl, ints}
use Rattle.ta_links.proofs.Common.{eqb_tells, zero_or_not, at_or_not, Cell, cell_at, IsLive, only_at_place, shown, value_in}

-- a number stands at its place
pub placed_here : (row column : ℕ) (value : ℤ) (r c : ℕ) → row ≡ r → column ≡ c → only_at_place row column value r c ≡ value
placed_here row column value r c e f = elim (eqb_tells row r) [
  | inl a ↦ elim (eqb_tells column c) [ inl b ↦ rw (a.0, b.0) refl | inr b ↦ absurd (b.1 f) ]
  | inr a ↦ absurd (a.1 e)
]

-- and 0 at each other
pub placed_elsewhere : (row column : ℕ) (value : ℤ) (r c : ℕ) → (row ≢ r) ⊎ (column ≢ c) → only_at_place row column value r c ≡ pos 0
placed_elsewhere row column value r c apart = elim (eqb_tells row r) [
  | inl a ↦ elim (eqb_tells column c) [
    | inl b ↦ elim apart [ inl ne ↦ absurd (ne a.1) | inr ne ↦ absurd (ne b.1) ]
    | inr b ↦ rw (a.0, b.0) refl
  ]
  | inr a ↦ rw a.0 refl
]

pub placed_zero : (row column : ℕ) (r c : ℕ) → only_at_place row column (pos 0) r c ≡ pos 0
placed_zero row column r c = elim (eqb_tells row r) [
  | inl a ↦ elim (eqb_tells column c) [ inl b ↦ rw (a.0, b.0) refl | inr b ↦ rw (a.0, b.0) refl ]
  | inr a ↦ rw a.0 refl
]

-- cells that show the same in each place
pub value_same : (new old : List Cell) → length new ≡ length old → ((k : ℕ) → (cell_at new k).row ≡ (cell_at old k).row)
    → ((k : ℕ) → (cell_at new k).column ≡ (cell_at old k).column) → ((k : ℕ) → (cell_at new k).value ≡ (cell_at old k).value) →
    (r c : ℕ) → value_in new r c ≡ value_in old r c
value_same [] [] long rows columns values r c = refl
value_same [] (y ∷ ys) long rows columns values r c = absurd (omega arith)
value_same (x ∷ xs) [] long rows columns values r c = absurd (omega arith)
value_same (x ∷ xs) (y ∷ ys) long rows columns values r c =
    let first : shown x r c ≡ shown y r c =
    ap (λ (m : ℕ). only_at_place m x.column x.value r c) (rows 0) ∙ ap (λ (m : ℕ). only_at_place y.row m x.value r c) (columns 0)
    ∙ ap (λ (z : ℤ). only_at_place y.row y.column z r c) (values 0) in
    let rest = value_same xs ys (omega arith) (λ k. rows (suc k)) (λ k. columns (suc k)) (λ k. values (suc k)) r c in
    ap (λ (z : ℤ). z +ℤ value_in xs r c) first ∙ ap (λ (z : ℤ). shown y r c +ℤ z) rest

-- a cell in another's place
pub value_set : (cells : List Cell) (i : ℕ) (x : Cell) (r c : ℕ) → i < length cells
    → value_in (set cells i x) r c ≡ (value_in cells r c -ℤ shown (cell_at cells i) r c) +ℤ shown x r c
value_set [] i x r c h = absurd (omega arith)
value_set (y ∷ ys) zero x r c h = omega (arith, ints)
value_set (y ∷ ys) (suc i) x r c h = omega (arith, ints, value_set ys i x r c (omega arith))

-- a cell at the end
pub value_push : (cells : List Cell) (x : Cell) (r c : ℕ) → value_in (cells ++ x ∷ []) r c ≡ value_in cells r c +ℤ shown x r c
value_push [] x r c = omega (arith, ints)
value_push (y ∷ ys) x r c = omega (arith, ints, value_push ys x r c)

-- no live cell is at a place
abbrev pub NoneAt : List Cell → ℕ → ℕ → Type 0
NoneAt cells r c = (k : ℕ) → IsLive cells k → (cell_at cells k).row ≡ r → (cell_at cells k).column ≢ c

next_live : (x : Cell) (xs : List Cell) (k : ℕ) → IsLive xs k → IsLive (x ∷ xs) (suc k)
next_live x xs k live = let inside = live.inside in record { inside = omega arith; value = live.value }

zero_or : (x : Cell) → (x.value ≢ pos 0 → ⊥) → x.value ≡ pos 0
zero_or x h = elim (zero_or_not x.value) [ inl e ↦ e | inr ne ↦ absurd (h ne) ]

pub value_none : (cells : List Cell) (r c : ℕ) → NoneAt cells r c → value_in cells r c ≡ pos 0
value_none [] r c none = refl
value_none (x ∷ xs) r c none =
    let rest = value_none xs r c (λ k live e. none (suc k) (next_live x xs k live) e) in
    let first : shown x r c ≡ pos 0 = elim (at_or_not x.row x.column r c) [
      | inl here ↦ placed_here x.row x.column x.value r c here.0 here.1
          ∙ zero_or x (λ value. none 0 (record { inside = omega arith; value = value }) here.0 here.1)
      | inr apart ↦ placed_elsewhere x.row x.column x.value r c apart
    ] in
    omega (arith, ints, first, rest)

-- the only live cell at a place shows its value there
pub value_found : (cells : List Cell) (i : ℕ) (r c : ℕ) → IsLive cells i → (cell_at cells i).row ≡ r → (cell_at cells i).column ≡ c →
    ((k : ℕ) → IsLive cells k → (cell_at cells k).row ≡ r → (cell_at cells k).column ≡ c → k ≡ i) → value_in cells r c ≡ (cell_at cells i).value
value_found [] i r c live e f only = absurd (let h = live.inside in omega arith)
value_found (x ∷ xs) zero r c live e f only =
    let rest = value_none xs r c (λ k alive a b. let same = only (suc k) (next_live x xs k alive) a b in omega arith) in
    let first = placed_here x.row x.column x.value r c e f in
    omega (arith, ints, first, rest)
value_found (x ∷ xs) (suc i) r c live e f only =
    let inside = live.inside in
    let rest = value_found xs i r c (record { inside = omega arith; value = live.value }) e f
    (λ k alive a b. let same = only (suc k) (next_live x xs k alive) a b in omega arith) in
    let first : shown x r c ≡ pos 0 = elim (at_or_not x.row x.column r c) [
      | inl here ↦ placed_here x.row x.column x.value r c here.0 here.1
          ∙ zero_or x (λ value. let same = only 0 (record { inside = omega arith; value = value }) here.0 here.1 in omega arith)
      | inr apart ↦ placed_elsewhere x.row x.column x.value r c apart
    ] in
    omega (arith, ints, first, rest)

-- a live cell is at a place, or none is
pub look : (cells : List Cell) (r c : ℕ) → ((i : ℕ) × IsLive cells i × ((cell_at cells i).row ≡ r) × ((cell_at cells i).column ≡ c)) ⊎ NoneAt cells r c
look [] r c = inr (λ k live e. absurd (let h = live.inside in omega arith))
look (x ∷ xs) r c = elim (look xs r c) [
  | inl i ↦ inl (suc i.0, next_live x xs i.0 i.1, i.2, i.3)
  | inr none ↦ elim (at_or_not x.row x.column r c) [
    | inl here ↦ elim (zero_or_not x.value) [
      | inl dead ↦ inr (λ k live e. none_more x xs r c none (λ l. absurd (l.value dead)) k live e)
      | inr value ↦ inl (0, record { inside = omega arith; value = value }, here.0, here.1)
    ]
    | inr apart ↦ inr (λ k live e. none_more x xs r c none (λ l. apart) k live e)
  ]
] where
  none_more : (x : Cell) (xs : List Cell) (r c : ℕ) → NoneAt xs r c → (IsLive (x ∷ xs) 0 → (x.row ≢ r) ⊎ (x.column ≢ c)) → NoneAt (x ∷ xs) r c
  none_more x xs r c none first zero live e f = elim (first live) [ inl ne ↦ ne e | inr ne ↦ ne f ]
  none_more x xs r c none first (suc k) live e f = none k (record { inside = let h = live.inside in omega arith; value = live.value }) e f
