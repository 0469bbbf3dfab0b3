-- A list of the cells of a line that grows cell by cell
use Rattle.ta_links.proofs.Common.{◌≡◌, inl, inr, ℕ, ℤ, pos, ◌+◌, ◌<◌, ◌≤◌, List, [], ◌∷◌, ◌++◌, arith, sym, ap, ◌∙◌, refl, Option, None, Some, ints, cases_lt}
use Rattle.ta_links.proofs.Common.{IsNormal, IsTerm, coefficient, IsNormal-push, IsNormal-higher, coefficient-append, coefficient-above, coefficient-other}
use Rattle.ta_links.proofs.Common.{coefficient-first, LinkedCells, Way, Rows, Columns, cell_at, IsLive, place_at, AreSound, spot, direction, line_value_at}
use Rattle.ta_links.proofs.Common.{MayBeOn, IsNext, NoneLeft, Lists, line_places, cases_eq}

-- the cells before a place are listed
pub record Listing (way : Way) (l : LinkedCells) (on : ℕ) (before : Option ℕ) (ts : List (ℕ × ℤ)) : Type 0 where
  pub may : MayBeOn way l.cells.items on before
  pub normal : IsNormal 0 (spot (direction way) l.cells.items before) ts
  pub numbers : (p : ℕ) → p < spot (direction way) l.cells.items before → line_value_at way l.cells.items on p ≡ coefficient ts p

-- a live cell's place is one of the line's
pub place_inside : (way : Way) (l : LinkedCells) (i : ℕ) → AreSound l → IsLive l.cells.items i → place_at (direction way) l.cells.items i < line_places way l
place_inside Rows l i s live = s.columns.inside i live
place_inside Columns l i s live = s.rows.inside i live

pub listed_more : (way : Way) (l : LinkedCells) (on : ℕ) (before : Option ℕ) (ts : List (ℕ × ℤ)) (at : ℕ) (t : ℕ × ℤ) → AreSound l → Listing way l on before ts
    → IsNext way l.cells.items on before at →
    t.0 ≡ place_at (direction way) l.cells.items at → t.1 ≡ (cell_at l.cells.items at).value → Listing way l on (Some at) (ts ++ t ∷ [])
listed_more way l on before ts at t sound w n e0 e1 =
    let cells = l.cells.items in
    let place = place_at (direction way) cells at in
    let live = n.on.live in
    let term : IsTerm t = record { not_zero = λ z. live.value (sym e1 ∙ z); in_range = rw e1 (sound.fits at live) } in
    let pushed = IsNormal-push 0 (spot (direction way) cells before) ts t w.normal (omega arith) term in
    let own : coefficient (t ∷ []) t.0 ≡ t.1 = coefficient-first (t.0 + 1) t [] (omega arith) in
    record {
      may = λ h e. let same : at ≡ h = cc in rw (sym same) n.on;
      normal = IsNormal-higher 0 (t.0 + 1) (spot (direction way) cells (Some at)) (ts ++ t ∷ []) (omega arith) pushed;
      numbers = λ p b. elim (cases_eq t.0 p) [
        | inl e ↦
            let none : coefficient ts t.0 ≡ pos 0 = coefficient-above 0 (spot (direction way) cells before) ts t.0 w.normal (omega arith) in
            let sum = coefficient-append ts (t ∷ []) t.0 in
            let here : line_value_at way cells on p ≡ t.1 = ap (line_value_at way cells on) (sym e ∙ e0) ∙ n.value ∙ sym e1 in
            here ∙ sym (ap (coefficient (ts ++ t ∷ [])) (sym e) ∙ sum ∙ omega (arith, ints, own, none))
        | inr ne ↦
            let rest : coefficient (t ∷ []) p ≡ pos 0 = coefficient-other t [] p ne in
            let sum = coefficient-append ts (t ∷ []) p in
            let all : coefficient (ts ++ t ∷ []) p ≡ coefficient ts p = sum ∙ omega (arith, ints, rest) in
            elim (cases_lt p (spot (direction way) cells before)) [
              | inl low ↦ w.numbers p low ∙ sym all
              | inr high ↦ n.passed p high (omega arith) ∙ sym (all ∙ coefficient-above 0 (spot (direction way) cells before) ts p w.normal high)
            ]
      ];
    }

-- how far a walk has come is inside the line
pub spot_inside : (way : Way) (l : LinkedCells) (on : ℕ) (before : Option ℕ) → AreSound l → MayBeOn way l.cells.items on before
    → spot (direction way) l.cells.items before ≤ line_places way l
spot_inside way l on None sound may = omega arith
spot_inside way l on (Some k) sound may = let m = may k refl in let b = place_inside way l k sound m.live in omega arith

pub listed_all : (way : Way) (l : LinkedCells) (on : ℕ) (before : Option ℕ) (ts : List (ℕ × ℤ)) → AreSound l → Listing way l on before ts
    → NoneLeft way l.cells.items on before → Lists way l on ts
listed_all way l on before ts sound w none = record {
  normal = IsNormal-higher 0 (spot (direction way) l.cells.items before) (line_places way l) ts (spot_inside way l on before sound w.may) w.normal;
  numbers = λ p. elim (cases_lt p (spot (direction way) l.cells.items before)) [
    | inl low ↦ w.numbers p low
    | inr high ↦ none p high ∙ sym (coefficient-above 0 (spot (direction way) l.cells.items before) ts p w.normal high)
  ];
}
