-- lists of the unknowns that don't belong to columns
use Rattle.ta_revised.proofs.Common.{ℕ, List, [], ◌∷◌, ◌++◌, ◌≡◌, ◌<◌, ◌≤◌, ◌+◌, ◌∙◌, inl, inr, length, get_or, set, arith, refl, subst, cases_lt}
use Rattle.ta_revised.proofs.Common.{get_or_append_left, get_or_default, length-append, length-set, All-push, IsColumn, ListsBasic, UnknownRow}
use Rattle.std.proofs.Common.{◌⊎◌}
use Rattle.std.specs.Prelude.{All}
use Rattle.std.proofs.lemmas.List.{get_or_push, get_or-set_other}
use Rattle.ta_revised.specs.UnknownRows.{IsIn}

-- those among the first ones
pub record ListedBelow (us : List ℕ) (xs : List UnknownRow) (k : ℕ) : Type 0 where
  pub inside : All (λ u. u < length xs) us
  pub others : (u : ℕ) (d : UnknownRow) → u < k → IsColumn (get_or xs u d) ⊎ IsIn us u

-- what one step makes of the list
abbrev pub Listed : List ℕ → List ℕ → ℕ → UnknownRow → Type 0
Listed us us' u r = ((us' ≡ us) × IsColumn r) ⊎ (us' ≡ us ++ u ∷ [])

pub is_in_longer : (us : List ℕ) (x u : ℕ) → IsIn us u → IsIn (us ++ x ∷ []) u
is_in_longer us x u (i, low, e) =
    (i, (let l = length-append us (x ∷ []) in omega arith), rw (get_or_append_left us (x ∷ []) 0 i low) e)

pub is_in_last : (us : List ℕ) (x : ℕ) → IsIn (us ++ x ∷ []) x
is_in_last us x = (length us, (let l = length-append us (x ∷ []) in omega arith), get_or_push us x 0 (length us) refl)

-- one more
pub listed_more : (us us' : List ℕ) (xs : List UnknownRow) (k : ℕ) (r d0 : UnknownRow) → k < length xs → r ≡ get_or xs k d0 → Listed us us' k r
    → ListedBelow us xs k → ListedBelow us' xs (k + 1)
listed_more us us' xs k r d0 h is (inl (same, column)) before = rw same (record {
  inside = before.inside;
  others = λ u d low.
      elim (cases_lt u k) [
        | inl less ↦ before.others u d less
        | inr more ↦
            inl (let same_place : k ≡ u = omega arith in
            subst (λ (v : ℕ). IsColumn (get_or xs v d)) same_place (subst IsColumn (is ∙ get_or_default xs k d0 d h) column))
      ];
})
listed_more us us' xs k r d0 h is (inr longer) before = rw longer (record {
  inside = All-push (λ (u : ℕ). u < length xs) us k before.inside h;
  others = λ u d low.
      elim (cases_lt u k) [
        | inl less ↦
            elim (before.others u d less) [
              | inl column ↦ inl column
              | inr listed ↦ inr (is_in_longer us k u listed)
            ]
        | inr more ↦ inr (let same_place : k ≡ u = omega arith in subst (IsIn (us ++ k ∷ [])) same_place (is_in_last us k))
      ];
})

-- the row at the number may change
pub listed_set : (us : List ℕ) (xs : List UnknownRow) (k : ℕ) (x : UnknownRow) → ListedBelow us xs k → ListedBelow us (set xs k x) k
listed_set us xs k x before = record {
  inside = rw (length-set xs k x) before.inside;
  others = λ u d low. rw (get_or-set_other xs k u x d (λ e. absurd (omega arith))) (before.others u d low);
}

pub listed_none : (xs : List UnknownRow) → ListedBelow [] xs 0
listed_none xs = record { inside = λ i d h. absurd (omega arith); others = λ u d h. absurd (omega arith) }

pub listed_all : (us : List ℕ) (xs : List UnknownRow) (k : ℕ) → length xs ≤ k → ListedBelow us xs k → ListsBasic us xs
listed_all us xs k all l = record { inside = l.inside; others = λ u d h. l.others u d (omega arith) }
