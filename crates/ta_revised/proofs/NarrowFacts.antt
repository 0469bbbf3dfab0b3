-- rows of 16-bit numbers before and after a merge
use Rattle.ta_revised.proofs.Common.{◌≡◌, ℕ, ◌<◌, ◌+◌, ◌*◌, ◌^◌, length, arith, sym, ◌∙◌, subst, ℤ, pos, ◌<ℤ◌, unsigned_abs, TableauRow, cell_of, merged_by}
use Rattle.ta_revised.proofs.Common.{reduced, turned, divisor_of, IsProper, IsBound, narrow_view, IsNarrow, NarrowRow}
use Rattle.ta_dense.proofs.ProperFacts.{IsProper-reduced, IsProper-merged_by, IsProper-turned}
use Rattle.ta_revised.proofs.Bounded.{IsBound-merged_by, IsBound-divided, IsBound-turned, merges_by_in_range}

pub narrow_itself : (n : ℕ) (r : NarrowRow) → IsNarrow n r → IsNarrow (length r.cells) r
narrow_itself n r k = subst (λ (m : ℕ). IsNarrow m r) (sym k.proper.long) k

-- a row is as narrow as one with the same numbers and the same bound
narrow_from : (n : ℕ) (r : NarrowRow) (x : TableauRow) (b : ℕ) → narrow_view r ≡ x → r.bound ≡ b → IsProper n x → IsBound b x → b < 2 ^ 15 → IsNarrow n r
narrow_from n r x b e f proper bounded fits = record {
  proper = subst (IsProper n) (sym e) proper;
  bounded = subst (λ (y : TableauRow). IsBound r.bound y) (sym e) (subst (λ (m : ℕ). IsBound m x) (sym f) bounded);
  fits = rw f fits;
}

pub narrow_merged_by : (n column : ℕ) (chosen r new : NarrowRow) (p q : ℤ) → column < n → pos 0 <ℤ p → IsNarrow n chosen → IsNarrow n r
    → unsigned_abs p * r.bound + unsigned_abs q * chosen.bound < 2 ^ 15 →
    narrow_view new ≡ merged_by p q column (narrow_view chosen) (narrow_view r) → new.bound ≡ unsigned_abs p * r.bound + unsigned_abs q * chosen.bound
    → IsNarrow n new
narrow_merged_by n column chosen r new p q h positive c k within e f =
    let same : length r.cells ≡ length chosen.cells = k.proper.long ∙ sym c.proper.long in
    narrow_from n new (merged_by p q column (narrow_view chosen) (narrow_view r)) (unsigned_abs p * r.bound + unsigned_abs q * chosen.bound) e f
    (IsProper-merged_by n p q column (narrow_view chosen) (narrow_view r) h positive c.proper k.proper
    (merges_by_in_range p q r.bound chosen.bound column (narrow_view chosen) (narrow_view r) same c.bounded k.bounded within))
    (IsBound-merged_by p q r.bound chosen.bound column (narrow_view chosen) (narrow_view r) same (omega arith) c.bounded k.bounded) within

pub narrow_reduced : (n : ℕ) (r new : NarrowRow) → IsNarrow n r → narrow_view new ≡ reduced (narrow_view r) → new.bound ≡ r.bound → IsNarrow n new
narrow_reduced n r new k e f =
    narrow_from n new (reduced (narrow_view r)) r.bound e f (IsProper-reduced n (narrow_view r) k.proper)
    (IsBound-divided r.bound (divisor_of (narrow_view r)) (narrow_view r) k.bounded) k.fits

pub narrow_turned : (n column entering : ℕ) (r new : NarrowRow) → column < n → pos 0 <ℤ cell_of (narrow_view r) column → IsNarrow n r
    → narrow_view new ≡ turned entering column (narrow_view r) → new.bound ≡ r.bound → IsNarrow n new
narrow_turned n column entering r new h positive k e f =
    narrow_from n new (turned entering column (narrow_view r)) r.bound e f (IsProper-turned n column entering (narrow_view r) h positive k.proper)
    (IsBound-turned r.bound entering column (narrow_view r) (omega arith) k.bounded) k.fits
