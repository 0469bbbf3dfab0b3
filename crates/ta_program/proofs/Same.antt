-- outputs that hold what was read, in told files
use Rattle.ta_program.proofs.Common.{◌≡◌, ◌∙◌, ◌⊎◌, ℕ, Bool, true, false, List, Option, None, Some, refl, sym, inl, inr, IsSome, bytes_eq, one_content, Told}
use Rattle.ta_program.proofs.Common.{IsSo, Meaning, file_line, holds_read, may_put, in_files, FileMeans, Kind, HoldsRead, spared, HoldsSame}
use Rattle.std.proofs.lemmas.Slice.Eq.{bytes_eq-Decides}

-- a told file holds just these bytes, or it doesn't
like : (file : Option (List ℕ)) (bytes : List ℕ) → (file ≡ Some bytes) ⊎ (file ≡ Some bytes → ⊥)
like None bytes = inr (λ same. cc)
like (Some content) bytes = by_test (bytes_eq content bytes) refl
  where
    by_test : (same : Bool) → bytes_eq content bytes ≡ same → (Some content ≡ Some bytes) ⊎ (Some content ≡ Some bytes → ⊥)
    by_test true is = inl (let e : content ≡ bytes = (bytes_eq-Decides content bytes).0 is in cc)
    by_test false is = inr (λ same.
        let e : bytes_eq content bytes ≡ true = (bytes_eq-Decides content bytes).1 (one_content (Some content) content bytes refl same) in cc)

-- an output that hinders holds what FILE does
pub same_told : (told : Told) (name : List ℕ) (out : Option (List ℕ)) (number : ℕ) (line : List ℕ) → HoldsRead (in_files told) name (may_put out) number line
    → IsSome out × HoldsSame told name out
same_told told name None number line h = elim h.first [ inl holds ↦ absurd holds | inr meets ↦ absurd meets.1 ]
same_told told name (Some out) number line h =
    elim h.first [ inl holds ↦ elim holds [ inl own ↦ (refl, own.0 ∙ sym h.held) | inr later ↦ absurd later.1 ] | inr meets ↦ absurd meets.1 ]

module _ {A F : Type 0} (kind : Kind A F) (told : Told) (name : List ℕ) (rest : A → Meaning) (value : A) (is : FileMeans kind (in_files told) name value) where
  -- where the rest hinders with 4, something does
  pub hinders_so : (out : Option (List ℕ)) (line : List ℕ) → (rest value).refuses (in_files told) 4 line
      → IsSo (spared kind name (may_put out) rest) (in_files told) 4
  hinders_so None line refuses = inr (line, inr (value, is, inr (record { bytes = is.bytes; held = is.had.seen; unlike = tt; apart = tt }, refuses)))
  hinders_so (Some out) line refuses = elim (like (told out) is.bytes) [
    | inl same ↦ inr (
      file_line out holds_read,
      inr
          (value, is, inl (record { numbered = refl; bytes = is.bytes; held = is.had.seen; first = inl (inl (same, refl)) })),
    )
    | inr other ↦ inr (line, inr (value, is, inr (record { bytes = is.bytes; held = is.had.seen; unlike = (other, tt); apart = (tt, tt) }, refuses)))
  ]

  -- an output that holds what FILE does hinders with 4
  pub same_so : (out : Option (List ℕ)) → HoldsSame told name out → IsSo (spared kind name (may_put out) rest) (in_files told) 4
  same_so None same = absurd same
  same_so (Some out) same = inr (
    file_line out holds_read,
    inr
        (value, is, inl (record { numbered = refl; bytes = is.bytes; held = is.had.seen; first = inl (inl (same ∙ is.had.seen, refl)) })),
  )
