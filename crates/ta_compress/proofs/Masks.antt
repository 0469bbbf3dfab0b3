-- guards that hold before a unit step and behind it
use Rattle.ta_compress.proofs.Common.{◌≡◌, ◌⊎◌, inl, inr, ℕ, zero, suc, ℤ, List, [], ◌∷◌, arith, sym, refl, subst, slice_get, Some, IsBitSet, at_set, set_at}
use Rattle.ta_compress.proofs.Common.{two_bits, RowHolds, Row, Automaton, Guards, GuardsAre, HoldsThere, MaskAt, SomeDiffers, Switches, Drops, HasFallen}
use Rattle.ta_compress.proofs.Common.{SameGuards}
use Rattle.std.specs.Int.{bit_at}
use Rattle.std.proofs.lemmas.Nat.Bits.{same_from_bits}
use Rattle.ta_counter.proofs.Holdings.{this_row}
use Rattle.ta_compress.proofs.Steady.{holds_or}

-- a row that holds at both points or at neither, for all rows
abbrev Agree : List Row → (ℕ → ℤ) → (ℕ → ℤ) → Type 0
Agree rows f g = (i : ℕ) (row : Row) → slice_get rows i ≡ Some row → (RowHolds f row → RowHolds g row) × (RowHolds g row → RowHolds f row)

differs_later : (row : Row) (rows : List Row) (f g : ℕ → ℤ) → SomeDiffers rows f g → SomeDiffers (row ∷ rows) f g
differs_later row rows f g s = record { number = suc s.number; row = s.row; named = s.named; differs = s.differs }

agree_more : (row : Row) (rows : List Row) (f g : ℕ → ℤ) → (RowHolds f row → RowHolds g row) → (RowHolds g row → RowHolds f row) → Agree rows f g
    → Agree (row ∷ rows) f g
agree_more row rows f g on back all zero other at =
    (let same : row ≡ other = cc in
    (λ h. subst (RowHolds g) same (on (subst (RowHolds f) (sym same) h)), λ h. subst (RowHolds f) same (back (subst (RowHolds g) (sym same) h))))
agree_more row rows f g on back all (suc i) other at = all i other at

differ_or : (rows : List Row) (f g : ℕ → ℤ) → SomeDiffers rows f g ⊎ Agree rows f g
differ_or [] f g = inr (λ i row at. absurd (cc))
differ_or (row ∷ rows) f g = elim (differ_or rows f g) [
  | inl s ↦ inl (differs_later row rows f g s)
  | inr all ↦ elim (holds_or f row) [
    | inl yes_f ↦ elim (holds_or g row) [
      | inl yes_g ↦ inr (agree_more row rows f g (λ _. yes_g) (λ _. yes_f) all)
      | inr no_g ↦ inl (record { number = 0; row = row; named = refl; differs = inl (yes_f, no_g) })
    ]
    | inr no_f ↦ elim (holds_or g row) [
      | inl yes_g ↦ inl (record { number = 0; row = row; named = refl; differs = inr (no_f, yes_g) })
      | inr no_g ↦ inr (agree_more row rows f g (λ h. absurd (no_f h)) (λ h. absurd (no_g h)) all)
    ]
  ]
]

moved_on : (rows : List Row) (f g : ℕ → ℤ) → Agree rows f g → (i : ℕ) → HoldsThere f rows i → HoldsThere g rows i
moved_on rows f g all i h = record { row = h.row; named = h.named; holds = (all i h.row h.named).0 h.holds }

moved_back : (rows : List Row) (f g : ℕ → ℤ) → Agree rows f g → (i : ℕ) → HoldsThere g rows i → HoldsThere f rows i
moved_back rows f g all i h = record { row = h.row; named = h.named; holds = (all i h.row h.named).1 h.holds }

-- masks of rows that agree are the same
same_mask : (rows : List Row) (f g : ℕ → ℤ) (m n : ℕ) → MaskAt f rows m → MaskAt g rows n → Agree rows f g → m ≡ n
same_mask rows f g m n at there all = same_from_bits m n (λ i. two_bits (bit_at m i) (bit_at n i)
    (λ one. set_at n i ((there i).1 (moved_on rows f g all i ((at i).0 (at_set m i one)))))
    (λ one. set_at m i ((at i).1 (moved_back rows f g all i ((there i).0 (at_set n i one)))))
    (omega arith) (omega arith))

same_agree : (rows : List Row) (f g : ℕ → ℤ) (m n : ℕ) → MaskAt f rows m → MaskAt g rows n → m ≡ n → SomeDiffers rows f g → ⊥
same_agree rows f g m n at there same s = elim s.differs [
  | inl d ↦ d.1 (this_row g rows s.number s.row s.named
      ((there s.number).0 (subst (λ x. IsBitSet x s.number) same ((at s.number).1 (record { row = s.row; named = s.named; holds = d.0 })))))
  | inr d ↦ d.0 (this_row f rows s.number s.row s.named
      ((at s.number).0 (subst (λ x. IsBitSet x s.number) (sym same) ((there s.number).1 (record { row = s.row; named = s.named; holds = d.1 })))))
]

pub same_still : (a : Automaton) (f g : ℕ → ℤ) (before now : Guards) → GuardsAre a f before → GuardsAre a g now → SameGuards before now → Switches a f g → ⊥
same_still a f g before now at there same (inl s) = same_agree a.rise f g before.rise now.rise at.rise there.rise same.0 s
same_still a f g before now at there same (inr s) = same_agree a.fall f g before.fall now.fall at.fall there.fall same.1 s

pub other_switches : (a : Automaton) (f g : ℕ → ℤ) (before now : Guards) → GuardsAre a f before → GuardsAre a g now → (SameGuards before now → ⊥)
    → Switches a f g
other_switches a f g before now at there other = elim (differ_or a.rise f g) [
  | inl s ↦ inl s
  | inr rise ↦ elim (differ_or a.fall f g) [
    | inl s ↦ inr s
    | inr fall ↦ absurd (other (
      same_mask a.rise f g before.rise now.rise at.rise there.rise rise,
      same_mask a.fall f g before.fall now.fall at.fall there.fall
          fall,
    ))
  ]
]

pub fallen_drops : (a : Automaton) (f g : ℕ → ℤ) (before now : Guards) → GuardsAre a f before → GuardsAre a g now → HasFallen before.fall now.fall → Drops a f g
fallen_drops a f g before now at there h =
    let held = (at.fall h.0).0 h.1 in
    record {
      number = h.0;
      row = held.row;
      named = held.named;
      held = held.holds;
      fails = λ holds. h.2 ((there.fall h.0).1 (record { row = held.row; named = held.named; holds = holds }));
    }

pub drops_fallen : (a : Automaton) (f g : ℕ → ℤ) (before now : Guards) → GuardsAre a f before → GuardsAre a g now → Drops a f g → HasFallen before.fall now.fall
drops_fallen a f g before now at there d = (
  d.number,
  (at.fall d.number).1 (record { row = d.row; named = d.named; holds = d.held }),
  λ bit. d.fails (this_row g a.fall d.number d.row d.named ((there.fall d.number).0 bit)),
)
