-- guards one after another: what stays true of masks and of rows among the guards
use Rattle.ta_meaning.proofs.Common.{Limits, ◌≡◌, ◌⊎◌, inl, inr, ℕ, ◌<◌, ◌^◌, List, [], ◌∷◌, ◌++◌, map, length, true, false, slice_get, Some, sym, ap, ◌∙◌}
use Rattle.ta_meaning.proofs.Common.{refl, subst, append-nil, slice_get_within, false≢true, cond-true, cond-false, cases_Bool, mask_below, no_bit, distinct_at}
use Rattle.ta_meaning.proofs.Common.{get_push, slice_get_left, PlainComparison, plain_comparison, TreeComparison, Distinct, Linear, comparison_rows, Guards}
use Rattle.ta_meaning.proofs.Common.{falls, has_row, with_row, with_guard, with_guards, rows_of, NamesGuards, Scope, guards_with, guard_faults, guards_faults}
use Rattle.ta_meaning.proofs.Common.{guards_then, counted, IsGuardNumber, AmongGuards, WithBit, GuardNumber, FileFault, append_assoc, empty_left, empty_right}
use Rattle.ta_meaning.proofs.GuardRows.{has_at, at_has, has_left, has_push, has_last}
use Rattle.ta_meaning.specs.declared.guards.GuardNumber.TheVariants as number

-- ---- guards after guards

-- the guards with some more behind them
pub record Extends (g after : Guards) : Type 0 where
  pub rise_more : List Linear
  pub rise : after.rise ≡ g.rise ++ rise_more
  pub fall_more : List Linear
  pub fall : after.fall ≡ g.fall ++ fall_more

pub extends_same : (g : Guards) → Extends g g
extends_same g = record { rise_more = []; rise = sym (append-nil g.rise); fall_more = []; fall = sym (append-nil g.fall) }

pub extends_both : (g h k : Guards) → Extends g h → Extends h k → Extends g k
extends_both g h k a b = record {
  rise_more = a.rise_more ++ b.rise_more;
  rise = b.rise ∙ ap (λ (xs : List Linear). xs ++ b.rise_more) a.rise ∙ append_assoc (g.rise) (a.rise_more) (b.rise_more);
  fall_more = a.fall_more ++ b.fall_more;
  fall = b.fall ∙ ap (λ (xs : List Linear). xs ++ b.fall_more) a.fall ∙ append_assoc (g.fall) (a.fall_more) (b.fall_more);
}

-- a row among rows, or behind them
pub with_row_cases : (rows : List Linear) (r : Linear) → (with_row rows r ≡ rows) ⊎ (with_row rows r ≡ rows ++ r ∷ [])
with_row_cases rows r = elim (cases_Bool (has_row rows r)) [
  | inl t ↦ inl (cond-true (has_row rows r) rows (rows ++ r ∷ []) t)
  | inr f ↦ inr (cond-false (has_row rows r) rows (rows ++ r ∷ []) f)
]

with_row_more : (rows : List Linear) (r : Linear) → (more : List Linear) × (with_row rows r ≡ rows ++ more)
with_row_more rows r = elim (with_row_cases rows r) [ inl e ↦ ([], e ∙ sym (append-nil rows)) | inr e ↦ (r ∷ [], e) ]

pub guard_falls : (parameters : ℕ) (g : Guards) (r : Linear) → falls parameters r ≡ true
    → with_guard parameters g r ≡ record { rise = g.rise; fall = with_row g.fall r }
guard_falls parameters g r t = cond-true (falls parameters r) (record { rise = g.rise; fall = with_row g.fall r })
    (record { rise = with_row g.rise r; fall = g.fall }) t

pub guard_rises : (parameters : ℕ) (g : Guards) (r : Linear) → falls parameters r ≡ false
    → with_guard parameters g r ≡ record { rise = with_row g.rise r; fall = g.fall }
guard_rises parameters g r f = cond-false (falls parameters r) (record { rise = g.rise; fall = with_row g.fall r })
    (record { rise = with_row g.rise r; fall = g.fall }) f

pub extends_guard : (parameters : ℕ) (g : Guards) (r : Linear) → Extends g (with_guard parameters g r)
extends_guard parameters g r = elim (cases_Bool (falls parameters r)) [
  | inl t ↦ (
      let more = with_row_more g.fall r in
      record {
        rise_more = [];
        rise = ap (λ (h : Guards). h.rise) (guard_falls parameters g r t)
            ∙ sym (append-nil g.rise);
        fall_more = more.0;
        fall = ap (λ (h : Guards). h.fall) (guard_falls parameters g r t) ∙ more.1;
      }
      )
  | inr f ↦ (
      let more = with_row_more g.rise r in
      record {
        rise_more = more.0;
        rise = ap (λ (h : Guards). h.rise) (guard_rises parameters g r f)
            ∙ more.1;
        fall_more = [];
        fall = ap (λ (h : Guards). h.fall) (guard_rises parameters g r f) ∙ sym (append-nil g.fall);
      }
      )
]

pub extends_guards : (parameters : ℕ) (g : Guards) (rows : List Linear) → Extends g (with_guards parameters g rows)
extends_guards parameters g [] = extends_same g
extends_guards parameters g (r ∷ rows) = extends_both g (with_guard parameters g r) (with_guards parameters (with_guard parameters g r) rows)
    (extends_guard parameters g r) (extends_guards parameters (with_guard parameters g r) rows)

pub guards_append : (parameters : ℕ) (g : Guards) (a b : List Linear)
    → with_guards parameters g (a ++ b) ≡ with_guards parameters (with_guards parameters g a) b
guards_append parameters g [] b = refl
guards_append parameters g (r ∷ a) b = guards_append parameters (with_guard parameters g r) a b

pub rows_append : (names : List (List ℕ)) (cs ds : List PlainComparison) → rows_of names (cs ++ ds) ≡ rows_of names cs ++ rows_of names ds
rows_append names [] ds = refl
rows_append names (c ∷ cs) ds =
    ap (λ (xs : List Linear). comparison_rows names c ++ xs) (rows_append names cs ds)
    ∙ sym (append_assoc (comparison_rows names c) (rows_of names cs) (rows_of names ds))

pub rows_one : (names : List (List ℕ)) (c : PlainComparison) → rows_of names (c ∷ []) ≡ comparison_rows names c
rows_one names c = append-nil (comparison_rows names c)

counted-fine : (faults : List FileFault) (before after : Guards) → faults ≡ [] → counted faults before after ≡ after
counted-fine [] before after e = refl
counted-fine (f ∷ fs) before after e = cc

-- a guard without an error counts
pub guards_counted : (l : Limits) (parameters : ℕ) (s : Scope) (g : Guards) (c : TreeComparison) → guard_faults l parameters s g c ≡ []
    → guards_then l parameters s g c ≡ with_guards parameters g (comparison_rows s.allowed (plain_comparison c))
guards_counted l parameters s g c none = counted-fine (guard_faults l parameters s g c) g
    (with_guards parameters g (comparison_rows s.allowed (plain_comparison c))) none

-- the guards of comparisons without errors are those of their rows
pub guards_with_rows : (l : Limits) (parameters : ℕ) (s : Scope) (g : Guards) (cs : List TreeComparison) → guards_faults l parameters s g cs ≡ []
    → guards_with l parameters s g cs ≡ with_guards parameters g (rows_of s.allowed (map plain_comparison cs))
guards_with_rows l parameters s g [] none = refl
guards_with_rows l parameters s g (c ∷ cs) none =
    let here = empty_left (guard_faults l parameters s g c) (guards_faults l parameters s (guards_then l parameters s g c) cs) none in
    let later = empty_right (guard_faults l parameters s g c) (guards_faults l parameters s (guards_then l parameters s g c) cs) none in
    guards_with_rows l parameters s (guards_then l parameters s g c) cs later
    ∙ ap (λ (z : Guards). with_guards parameters z (rows_of s.allowed (map plain_comparison cs))) (guards_counted l parameters s g c here)
    ∙ sym (guards_append parameters g (comparison_rows s.allowed (plain_comparison c)) (rows_of s.allowed (map plain_comparison cs)))

-- ---- rows among the guards
pub among_fall : (parameters : ℕ) (g : Guards) (r : Linear) → falls parameters r ≡ true → has_row g.fall r ≡ true → AmongGuards parameters g r
among_fall parameters g r t h = cond-true (falls parameters r) (has_row g.fall r) (has_row g.rise r) t ∙ h

pub among_rise : (parameters : ℕ) (g : Guards) (r : Linear) → falls parameters r ≡ false → has_row g.rise r ≡ true → AmongGuards parameters g r
among_rise parameters g r f h = cond-false (falls parameters r) (has_row g.fall r) (has_row g.rise r) f ∙ h

pub among_extends : (parameters : ℕ) (g after : Guards) (r : Linear) → Extends g after → AmongGuards parameters g r → AmongGuards parameters after r
among_extends parameters g after r x h = elim (cases_Bool (falls parameters r)) [
  | inl t ↦ among_fall parameters after r t
      (subst (λ (rows : List Linear). has_row rows r ≡ true) (sym x.fall)
      (has_left g.fall x.fall_more r (sym (cond-true (falls parameters r) (has_row g.fall r) (has_row g.rise r) t) ∙ h)))
  | inr f ↦ among_rise parameters after r f
      (subst (λ (rows : List Linear). has_row rows r ≡ true) (sym x.rise)
      (has_left g.rise x.rise_more r (sym (cond-false (falls parameters r) (has_row g.fall r) (has_row g.rise r) f) ∙ h)))
]

pub among_number : (parameters : ℕ) (g : Guards) (r : Linear) (n : GuardNumber) → IsGuardNumber parameters g r n → AmongGuards parameters g r
among_number parameters g r (number.Rise n) h = among_rise parameters g r h.0 (has_at g.rise n r h.1)
among_number parameters g r (number.Fall n) h = among_fall parameters g r h.0 (has_at g.fall n r h.1)

-- ---- masks
kept_at : (guards after : List Linear) (row : Linear) (i : ℕ) (g : Linear) → (after ≡ guards) ⊎ (after ≡ guards ++ row ∷ []) → slice_get guards i ≡ Some g
    → slice_get after i ≡ Some g
kept_at guards after row i g (inl e) h = ap (λ (xs : List Linear). slice_get xs i) e ∙ h
kept_at guards after row i g (inr e) h = ap (λ (xs : List Linear). slice_get xs i) e ∙ slice_get_left guards (row ∷ []) i g h

was_at : (guards after : List Linear) (row : Linear) (i : ℕ) (g : Linear) → (after ≡ guards) ⊎ (after ≡ guards ++ row ∷ []) → slice_get after i ≡ Some g
    → (slice_get guards i ≡ Some g) ⊎ (g ≡ row)
was_at guards after row i g (inl e) h = inl (ap (λ (xs : List Linear). slice_get xs i) (sym e) ∙ h)
was_at guards after row i g (inr e) h = elim (get_push guards row i g (ap (λ (xs : List Linear). slice_get xs i) (sym e) ∙ h))
    [ inl o ↦ inl o | inr o ↦ inr o.1 ]

-- one more row, of a guard of this kind
pub mask_kind : (guards after rows : List Linear) (row : Linear) (mask n more : ℕ) → (after ≡ guards) ⊎ (after ≡ guards ++ row ∷ []) → Distinct after
    → slice_get after n ≡ Some row → NamesGuards guards rows mask → WithBit mask n more → NamesGuards after (rows ++ row ∷ []) more
mask_kind guards after rows row mask n more grown distinct at names bit i = (
  λ b. elim ((bit i).0 b) [
    | inl old ↦ (let w = (names i).0 old in (w.0, kept_at guards after row i w.0 grown w.1, has_left rows (row ∷ []) w.0 w.2))
    | inr e ↦ (row, ap (slice_get after) e ∙ at, has_last rows row)
  ],
  λ w. elim (has_push rows row w.0 w.2) [
    | inr e ↦ (bit i).1 (inr (distinct_at after i n row distinct (w.1 ∙ ap Some e) at))
    | inl old ↦ elim (was_at guards after row i w.0 grown w.1) [
      | inl e ↦ (bit i).1 (inl ((names i).1 (w.0, e, old)))
      | inr e ↦ (bit i).1 (inr (distinct_at after i n row distinct (w.1 ∙ ap Some e) at))
    ]
  ],
)

-- one more row, of no guard of this kind
pub mask_other : (guards rows : List Linear) (row : Linear) (mask : ℕ) → ((i : ℕ) → slice_get guards i ≡ Some row → ⊥) → NamesGuards guards rows mask
    → NamesGuards guards (rows ++ row ∷ []) mask
mask_other guards rows row mask none names i = (
  λ b. (let w = (names i).0 b in (w.0, w.1, has_left rows (row ∷ []) w.0 w.2)),
  λ w. elim (has_push rows row w.0 w.2) [ inl old ↦ (names i).1 (w.0, w.1, old) | inr e ↦ absurd (none i (w.1 ∙ ap Some e)) ],
)

-- later guards are none of these rows
pub mask_later : (guards more rows : List Linear) (mask : ℕ) → Distinct (guards ++ more)
    → ((i : ℕ) (g : Linear) → slice_get (guards ++ more) i ≡ Some g → has_row rows g ≡ true → has_row guards g ≡ true) → NamesGuards guards rows mask
    → NamesGuards (guards ++ more) rows mask
mask_later guards more rows mask distinct among names i = (
  λ b. (let w = (names i).0 b in (w.0, slice_get_left guards more i w.0 w.1, w.2)),
  λ w. (
      let o = at_has guards w.0 (among i w.0 w.1 w.2) in
      let same : i ≡ o.0 = distinct_at (guards ++ more) i o.0 w.0 distinct w.1 (slice_get_left guards more o.0 w.0 o.1) in
      (names i).1 (w.0, ap (slice_get guards) same ∙ o.1, w.2)
      ),
)

pub mask_fits : (guards rows : List Linear) (mask : ℕ) → NamesGuards guards rows mask → mask < 2 ^ length guards
mask_fits guards rows mask names = mask_below mask (length guards) (λ i b. let w = (names i).0 b in slice_get_within guards i w.0 w.1)

pub no_rows : (guards : List Linear) → NamesGuards guards [] 0
no_rows guards i = (λ b. absurd (no_bit i b), λ w. absurd (false≢true w.2))
