-- A cell that is taken, and one that is freed
use Rattle.ta_links.proofs.Common.{◌≡◌, ◌≢◌, inl, inr, ℕ, ℤ, pos, ◌+ℤ◌, ◌<◌, ◌≤◌, ◌+◌, List, [], ◌∷◌, ◌++◌, length, set, arith, sym, ap, ◌∙◌, refl, subst}
use Rattle.ta_links.proofs.Common.{Option, Some, None, ints, cases_lt, get_or-set_same, get_or-set_other, length-set, length-append, get_or_append_left}
use Rattle.ta_links.proofs.Common.{get_or_at, get_or_past, Cell, no_cell, cell_at, IsLive, NotIn, FreeVisits, IsFree, only_at_place, shown, value_in, taken}
use Rattle.ta_links.proofs.Common.{taken_at, next_free}
use Rattle.ta_links.proofs.Cells.{value_set, value_push, placed_zero}

-- the cells after one was taken at an index that wasn't live
pub record Taken (cells : List Cell) (free : Option ℕ) (cell : Cell) (at : ℕ) (new : List Cell) : Type 0 where
  pub inside : at < length new
  pub longer : length cells ≤ length new
  pub little : length new ≤ length cells + 1
  pub here : cell_at new at ≡ cell
  pub rest : (k : ℕ) → k ≢ at → cell_at new k ≡ cell_at cells k
  pub only : (k : ℕ) → k < length new → k ≢ at → k < length cells
  pub dead : (k : ℕ) → IsLive cells k → k ≢ at
  pub shows : (r c : ℕ) → value_in new r c ≡ value_in cells r c +ℤ shown cell r c
  pub left : List ℕ
  pub visits : FreeVisits cells (next_free cells free) left
  pub without : NotIn at left
  pub all : (i : ℕ) → i < length cells → i ≢ at → NotIn i left → (cell_at cells i).value ≢ pos 0

at_end : (cells : List Cell) (cell : Cell) (k : ℕ) → k ≢ length cells → cell_at (cells ++ cell ∷ []) k ≡ cell_at cells k
at_end cells cell k ne = elim (cases_lt k (length cells)) [
  | inl h ↦ get_or_append_left cells (cell ∷ []) no_cell k h
  | inr h ↦
      let long = length-append cells (cell ∷ []) in
      get_or_past (cells ++ cell ∷ []) k no_cell (omega arith) ∙ sym (get_or_past cells k no_cell (omega arith))
]

taken_end : (cells : List Cell) (cell : Cell) (visited : List ℕ) → FreeVisits cells None visited
    → ((i : ℕ) → i < length cells → NotIn i visited → (cell_at cells i).value ≢ pos 0) → Taken cells None cell (length cells) (cells ++ cell ∷ [])
taken_end cells cell (i ∷ is) visits all = absurd (let e = visits.0 in cc)
taken_end cells cell [] visits all =
    let long = length-append cells (cell ∷ []) in
    record {
      inside = omega arith;
      longer = omega arith;
      little = omega arith;
      here = get_or_at cells cell [] no_cell (length cells) refl;
      rest = λ k ne. at_end cells cell k ne;
      only = λ k h ne. omega arith;
      dead = λ k live e. let h = live.inside in omega arith;
      shows = value_push cells cell;
      left = [];
      visits = refl;
      without = tt;
      all = λ i h ne out. all i h out;
    }

ap_visits : (cells : List Cell) (a i : ℕ) (is : List ℕ) → a ≡ i → FreeVisits cells (cell_at cells i).right is → FreeVisits cells (cell_at cells a).right is
ap_visits cells a i is e v = subst (λ (m : ℕ). FreeVisits cells (cell_at cells m).right is) (sym e) v

taken_free : (cells : List Cell) (a : ℕ) (cell : Cell) (visited : List ℕ) → FreeVisits cells (Some a) visited
    → ((i : ℕ) → i < length cells → NotIn i visited → (cell_at cells i).value ≢ pos 0) → Taken cells (Some a) cell a (set cells a cell)
taken_free cells a cell [] visits all = absurd (let e = visits in cc)
taken_free cells a cell (i ∷ is) visits all =
    let same : a ≡ i = let e = visits.0 in cc in
    let long = length-set cells a cell in
    let dead : (cell_at cells a).value ≡ pos 0 = ap (λ (m : ℕ). (cell_at cells m).value) same ∙ visits.2 in
    record {
      inside = omega arith;
      longer = omega arith;
      little = omega arith;
      here = get_or-set_same cells a cell no_cell (omega arith);
      rest = λ k ne. get_or-set_other cells a k cell no_cell ne;
      only = λ k h ne. omega arith;
      dead = λ k live e. live.value (ap (λ (m : ℕ). (cell_at cells m).value) e ∙ dead);
      shows = λ r c.
          let old : shown (cell_at cells a) r c ≡ pos 0 = ap (λ (z : ℤ). only_at_place (cell_at cells a).row (cell_at cells a).column z r c) dead
          ∙ placed_zero (cell_at cells a).row (cell_at cells a).column r c in
          let now = value_set cells a cell r c (omega arith) in
          omega (arith, ints, old, now);
      left = is;
      visits = ap_visits cells a i is same visits.4;
      without = subst (λ (m : ℕ). NotIn m is) (sym same) visits.3;
      all = λ k h ne out. all k h ((λ e. ne (e ∙ sym same)), out);
    }

pub taken_facts : (cells : List Cell) (free : Option ℕ) (cell : Cell) → IsFree cells free → Taken cells free cell (taken_at cells free) (taken cells free cell)
taken_facts cells None cell f = taken_end cells cell f.visited f.visits f.all
taken_facts cells (Some a) cell f = taken_free cells a cell f.visited f.visits f.all

-- a chain of free cells that other cells keep
pub visits_kept : (cells new : List Cell) (head : Option ℕ) (is : List ℕ) (at : ℕ) → FreeVisits cells head is → NotIn at is → length cells ≤ length new →
    ((k : ℕ) → k ≢ at → (cell_at cells k).value ≡ pos 0 → ((cell_at new k).value ≡ pos 0) × ((cell_at new k).right ≡ (cell_at cells k).right))
    → FreeVisits new head is
visits_kept cells new head [] at v out longer keep = v
visits_kept cells new head (i ∷ is) at v out longer keep =
    let ne : i ≢ at = λ e. out.0 (sym e) in
    let k = keep i ne v.2 in
    let rest = visits_kept cells new (cell_at cells i).right is at v.4 out.1 longer keep in
    (v.0, omega arith, k.0, v.3, subst (λ (o : Option ℕ). FreeVisits new o is) (sym k.1) rest)
