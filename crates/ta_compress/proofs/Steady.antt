-- guards within a piece
use Rattle.ta_compress.proofs.Common.{◌≡◌, ◌⊎◌, inl, inr, ℕ, ℤ, ◌+ℤ◌, List, [], ◌∷◌, ◌++◌, arith, sym, ap, ◌∙◌, refl, subst, slice_get, Some, append-nil}
use Rattle.ta_compress.proofs.Common.{append_assoc, ints, natural_or_not, one_times, split_last, value_of, RowHolds, Row, Automaton, rule_change, total}
use Rattle.ta_compress.proofs.Common.{change_of, total-append, RunLine, line_change, unit, value_after, SomeDiffers, Drops, CutPiece, units, Still, DropsAt}
use Rattle.ta_compress.proofs.Common.{IsPiece}

pub holds_or : (f : ℕ → ℤ) (row : Row) → RowHolds f row ⊎ (RowHolds f row → ⊥)
holds_or f row = natural_or_not (value_of f row.form)

-- where no row differs, each holds at both points or at neither
pub holds_on : (rows : List Row) (f g : ℕ → ℤ) → (SomeDiffers rows f g → ⊥) → (i : ℕ) (row : Row) → slice_get rows i ≡ Some row → RowHolds f row
    → RowHolds g row
holds_on rows f g same i row at h = elim (holds_or g row) [
  | inl holds ↦ holds
  | inr fails ↦ absurd (same (record { number = i; row = row; named = at; differs = inl (h, fails) }))
]

pub holds_back : (rows : List Row) (f g : ℕ → ℤ) → (SomeDiffers rows f g → ⊥) → (i : ℕ) (row : Row) → slice_get rows i ≡ Some row → RowHolds g row
    → RowHolds f row
holds_back rows f g same i row at h = elim (holds_or f row) [
  | inl holds ↦ holds
  | inr fails ↦ absurd (same (record { number = i; row = row; named = at; differs = inr (fails, h) }))
]

-- what unit steps add
pub units-total : (a : Automaton) (i : ℕ) (rules : List ℕ) → total (line_change a i) (units rules) ≡ total (change_of a i) rules
unfolding total
units-total a i [] = refl
units-total a i (r ∷ rs) = omega (arith, ints, units-total a i rs, one_times (rule_change a (slice_get a.rules r) i))

pub units-value : (a : Automaton) (first : List ℤ) (done : List RunLine) (rules : List ℕ) (i : ℕ)
    → value_after a first (done ++ units rules) i ≡ (value_after a first done i +ℤ total (change_of a i) rules)
units-value a first done rules i = omega (arith, ints, total-append (line_change a i) done (units rules), units-total a i rules)

-- none of these rows changes along unit steps
abbrev pub StillFor : List Row → Automaton → List ℤ → List RunLine → List ℕ → Type 0
StillFor rows a first done rules = (front : List ℕ) (r : ℕ) (behind : List ℕ) → rules ≡ front ++ r ∷ behind
    → SomeDiffers rows (value_after a first (done ++ units front)) (value_after a first ((done ++ units front) ++ unit r ∷ [])) → ⊥

shifted_done : (done : List RunLine) (r : ℕ) (front : List ℕ) → done ++ units (r ∷ front) ≡ (done ++ unit r ∷ []) ++ units front
shifted_done done r front = sym (append_assoc done (unit r ∷ []) (units front))

still_tail : (rows : List Row) (a : Automaton) (first : List ℤ) (done : List RunLine) (r : ℕ) (rs : List ℕ) → StillFor rows a first done (r ∷ rs)
    → StillFor rows a first (done ++ unit r ∷ []) rs
still_tail rows a first done r rs still front q behind is differs =
    still (r ∷ front) q behind (ap (λ (xs : List ℕ). r ∷ xs) is)
    (subst (λ (d : List RunLine). SomeDiffers rows (value_after a first d) (value_after a first (d ++ unit q ∷ []))) (sym (shifted_done done r front)) differs)

still_first : (rows : List Row) (a : Automaton) (first : List ℤ) (done : List RunLine) (r : ℕ) (rs : List ℕ) → StillFor rows a first done (r ∷ rs)
    → SomeDiffers rows (value_after a first done) (value_after a first (done ++ unit r ∷ [])) → ⊥
still_first rows a first done r rs still differs =
    still [] r rs refl (subst (λ (d : List RunLine). SomeDiffers rows (value_after a first d) (value_after a first (d ++ unit r ∷ []))) (sym (append-nil done))
    differs)

pub still_on : (rows : List Row) (a : Automaton) (first : List ℤ) (done : List RunLine) (rules : List ℕ) → StillFor rows a first done rules
    → (i : ℕ) (row : Row) → slice_get rows i ≡ Some row → RowHolds (value_after a first done) row → RowHolds (value_after a first (done ++ units rules)) row
still_on rows a first done [] still i row at h = subst (λ (d : List RunLine). RowHolds (value_after a first d) row) (sym (append-nil done)) h
still_on rows a first done (r ∷ rs) still i row at h =
    let next = holds_on rows (value_after a first done) (value_after a first (done ++ unit r ∷ [])) (still_first rows a first done r rs still) i row at h in
    subst (λ (d : List RunLine). RowHolds (value_after a first d) row) (sym (shifted_done done r rs))
    (still_on rows a first (done ++ unit r ∷ []) rs (still_tail rows a first done r rs still) i row at next)

pub still_back : (rows : List Row) (a : Automaton) (first : List ℤ) (done : List RunLine) (rules : List ℕ) → StillFor rows a first done rules
    → (i : ℕ) (row : Row) → slice_get rows i ≡ Some row → RowHolds (value_after a first (done ++ units rules)) row → RowHolds (value_after a first done) row
still_back rows a first done [] still i row at h = subst (λ (d : List RunLine). RowHolds (value_after a first d) row) (append-nil done) h
still_back rows a first done (r ∷ rs) still i row at h =
    let next = still_back rows a first (done ++ unit r ∷ []) rs (still_tail rows a first done r rs still) i row at
    (subst (λ (d : List RunLine). RowHolds (value_after a first d) row) (shifted_done done r rs) h) in
    holds_back rows (value_after a first done) (value_after a first (done ++ unit r ∷ [])) (still_first rows a first done r rs still) i row at next

-- a front, and what is behind it
pub still_front : (rows : List Row) (a : Automaton) (first : List ℤ) (done : List RunLine) (rules front : List ℕ) (r : ℕ) (behind : List ℕ)
    → StillFor rows a first done rules → rules ≡ front ++ r ∷ behind → StillFor rows a first done front
still_front rows a first done rules front r behind still is f q b cut differs =
    still f q (b ++ r ∷ behind) (is ∙ ap (λ (xs : List ℕ). xs ++ r ∷ behind) cut ∙ append_assoc f (q ∷ b) (r ∷ behind)) differs

pub units-append : (xs ys : List ℕ) → units (xs ++ ys) ≡ units xs ++ units ys
units-append [] ys = refl
units-append (x ∷ xs) ys = ap (λ (ls : List RunLine). unit x ∷ ls) (units-append xs ys)

pub done_append : (done : List RunLine) (xs ys : List ℕ) → done ++ units (xs ++ ys) ≡ (done ++ units xs) ++ units ys
done_append done xs ys = ap (λ (ls : List RunLine). done ++ ls) (units-append xs ys) ∙ sym (append_assoc done (units xs) (units ys))

pub still_behind : (rows : List Row) (a : Automaton) (first : List ℤ) (done : List RunLine) (rules front behind : List ℕ) → StillFor rows a first done rules
    → rules ≡ front ++ behind → StillFor rows a first (done ++ units front) behind
still_behind rows a first done rules front behind still is f q b cut differs =
    still (front ++ f) q b (is ∙ ap (λ (xs : List ℕ). front ++ xs) cut ∙ sym (append_assoc front f (q ∷ b)))
    (subst (λ (d : List RunLine). SomeDiffers rows (value_after a first d) (value_after a first (d ++ unit q ∷ []))) (sym (done_append done front f)) differs)

-- rise guards that hold before a unit step of a piece hold at its beginning, and fall guards that hold there hold at its end
pub record Steady (a : Automaton) (first : List ℤ) (done : List RunLine) (body : List ℕ) : Type 0 where
  pub rise : (front : List ℕ) (r : ℕ) (behind : List ℕ) → body ≡ front ++ r ∷ behind → (i : ℕ) (row : Row) → slice_get a.rise i ≡ Some row
      → RowHolds (value_after a first (done ++ units front)) row → RowHolds (value_after a first done) row
  pub fall : (front : List ℕ) (r : ℕ) (behind : List ℕ) → body ≡ front ++ r ∷ behind → (j : ℕ) (row : Row) → slice_get a.fall j ≡ Some row
      → RowHolds (value_after a first (done ++ units front)) row → RowHolds (value_after a first (done ++ units body)) row

rise_still : (a : Automaton) (first : List ℤ) (done : List RunLine) (rules : List ℕ) → Still a first done rules → StillFor a.rise a first done rules
rise_still a first done rules still front r behind is differs = still front r behind is (inl differs)

fall_still : (a : Automaton) (first : List ℤ) (done : List RunLine) (rules : List ℕ) → Still a first done rules → StillFor a.fall a first done rules
fall_still a first done rules still front r behind is differs = still front r behind is (inr differs)

-- from a moment within unit steps to their end
fall_on : (a : Automaton) (first : List ℤ) (done : List RunLine) (rules front behind : List ℕ) → Still a first done rules → rules ≡ front ++ behind
    → (j : ℕ) (row : Row) → slice_get a.fall j ≡ Some row → RowHolds (value_after a first (done ++ units front)) row
    → RowHolds (value_after a first (done ++ units rules)) row
fall_on a first done rules front behind still is j row at h =
    let end = still_on a.fall a first (done ++ units front) behind
    (still_behind a.fall a first done rules front behind (fall_still a first done rules still) is) j row at h in
    subst (λ (d : List RunLine). RowHolds (value_after a first d) row) (sym (ap (λ (xs : List ℕ). done ++ units xs) is ∙ done_append done front behind)) end

pub still_steady : (a : Automaton) (first : List ℤ) (done : List RunLine) (body : List ℕ) → Still a first done body → Steady a first done body
still_steady a first done body still = record {
  rise = λ front r behind is i row at h. still_back a.rise a first done front
      (still_front a.rise a first done body front r behind (rise_still a first done body still) is) i row at h;
  fall = λ front r behind is j row at h. fall_on a first done body front (r ∷ behind) still is j row at h;
}

drops_none : (a : Automaton) (f g : ℕ → ℤ) → (Drops a f g → ⊥) → (j : ℕ) (row : Row) → slice_get a.fall j ≡ Some row → RowHolds f row → RowHolds g row
drops_none a f g none j row at h = elim (holds_or g row) [
  | inl holds ↦ holds
  | inr fails ↦ absurd (none (record { number = j; row = row; named = at; held = h; fails = fails }))
]

pub risen_steady : (a : Automaton) (first : List ℤ) (done : List RunLine) (body front : List ℕ) (rule : ℕ) → body ≡ front ++ rule ∷ []
    → Still a first done front → (DropsAt a first (done ++ units front) rule → ⊥) → Steady a first done body
risen_steady a first done body front rule whole still none = record {
  rise = λ f r behind is i row at h. elim (split_last front rule f r behind (sym whole ∙ is)) [
    | inl same ↦ still_back a.rise a first done front (rise_still a first done front still) i row at
        (subst (λ (xs : List ℕ). RowHolds (value_after a first (done ++ units xs)) row) same h)
    | inr w ↦ still_back a.rise a first done f (still_front a.rise a first done front f r w.0 (rise_still a first done front still) w.1) i row at h
  ];
  fall = λ f r behind is j row at h.
      let there : RowHolds (value_after a first (done ++ units front)) row = elim (split_last front rule f r behind (sym whole ∙ is)) [
        | inl same ↦ subst (λ (xs : List ℕ). RowHolds (value_after a first (done ++ units xs)) row) same h
        | inr w ↦ fall_on a first done front f (r ∷ w.0) still w.1 j row at h
      ] in
      let end = drops_none a (value_after a first (done ++ units front)) (value_after a first ((done ++ units front) ++ unit rule ∷ [])) none j row at there in
      subst (λ (d : List RunLine). RowHolds (value_after a first d) row)
      (sym (ap (λ (xs : List ℕ). done ++ units xs) whole ∙ done_append done front (rule ∷ []))) end;
}

pub piece_steady : (a : Automaton) (first : List ℤ) (done : List RunLine) (piece : CutPiece) → IsPiece a first done piece → Steady a first done piece.body
piece_steady a first done piece (inl m) = still_steady a first done piece.body m.still
piece_steady a first done piece (inr (inl f)) = still_steady a first done piece.body f.still
piece_steady a first done piece (inr (inr r)) = risen_steady a first done piece.body r.front r.rule r.body r.still r.drops_none
