-- White space and comments.
use Rattle.ta_syntax.proofs.Common.{◌≡◌, ℕ, Bool, true, false, List, [], ◌∷◌, ◌++◌, length, inl, inr, ⊎_elim, refl, sym, ap, ◌∙◌, append_assoc, arith, ◌<◌}
use Rattle.ta_syntax.proofs.Common.{length-append, AllByRecursion, append-nil, Avoids, IsSpace, IsGap, IsLastGap, SkipsComment, SkipsPiece, SkipsGap}

pub comment_is_last : (bytes rest : List ℕ) → Avoids 10 bytes → rest ≡ [] → SkipsComment bytes rest
comment_is_last bytes rest free e = (bytes, free, inr (refl, e))

space-append : (last c : Bool) (a b : List ℕ) → IsSpace false c a → IsSpace last false b → IsSpace last c (a ++ b)
space-append last true [] b h k = absurd cc
space-append last false [] b h k = k
space-append last true (x ∷ a) b (inl h) k = inl (h.0, space-append last false a b h.1 k)
space-append last true (x ∷ a) b (inr h) k = inr (h.0, space-append last true a b h.1 k)
space-append last false (x ∷ a) b (inl h) k = inl (h.0, space-append last false a b h.1 k)
space-append last false (x ∷ a) b (inr h) k = inr (h.0, space-append last true a b h.1 k)

comment_space : (text : List ℕ) → AllByRecursion (λ b. b ≡ 10 → ⊥) text → IsSpace false true (text ++ 10 ∷ [])
comment_space [] free = inl (refl, tt)
comment_space (b ∷ text) free = inr (free.0, comment_space text free.1)

comment_last : (text : List ℕ) → AllByRecursion (λ b. b ≡ 10 → ⊥) text → IsSpace true true text
comment_last [] free = refl
comment_last (b ∷ text) free = inr (free.0, comment_last text free.1)

pub gap_begins : (bytes : List ℕ) → SkipsGap bytes bytes
gap_begins bytes = ([], refl, inl tt)

with_piece : (last : Bool) (gap piece : List ℕ) → IsGap gap → IsSpace last false piece → IsSpace last false (gap ++ piece)
with_piece last gap piece g p = space-append last false gap piece g p

pub gap_goes_on : (bytes rest after : List ℕ) → SkipsGap bytes rest → SkipsPiece rest after → SkipsGap bytes after
gap_goes_on bytes [] after so_far piece = absurd piece
gap_goes_on bytes (b ∷ rest) after so_far (inl white) =
    ⊎_elim
    (λ (g : IsGap so_far.0). (
      so_far.0 ++ b ∷ [],
      so_far.1 ∙ ap (λ (x : List ℕ). so_far.0 ++ b ∷ x) white.1
          ∙ sym (append_assoc so_far.0 (b ∷ []) after),
      inl (with_piece false so_far.0 (b ∷ []) g (inl (white.0, tt))),
    ))
    (λ (g : IsLastGap so_far.0 × (b ∷ rest ≡ [])). absurd (let e = g.1 in cc))
    so_far.2
gap_goes_on bytes (b ∷ rest) after so_far (inr comment) =
    ⊎_elim
    (λ (g : IsGap so_far.0). ⊎_elim
    (λ (e : rest ≡ comment.1.0 ++ 10 ∷ after). (
      so_far.0 ++ b ∷ (comment.1.0 ++ 10 ∷ []),
      so_far.1 ∙ ap (λ (x : List ℕ). so_far.0 ++ b ∷ x) (e ∙ sym (append_assoc comment.1.0 (10 ∷ []) after))
          ∙ sym (append_assoc so_far.0 (b ∷ (comment.1.0 ++ 10 ∷ [])) after),
      inl
          (with_piece false so_far.0 (b ∷ (comment.1.0 ++ 10 ∷ [])) g (inr (comment.0, comment_space comment.1.0 comment.1.1))),
    ))
    (λ (e : (rest ≡ comment.1.0) × (after ≡ [])). (
      so_far.0 ++ b ∷ comment.1.0,
      so_far.1 ∙ ap (λ (x : List ℕ). so_far.0 ++ b ∷ x) (e.0 ∙ sym (append-nil comment.1.0))
          ∙ ap (λ (x : List ℕ). so_far.0 ++ b ∷ (comment.1.0 ++ x)) (sym e.1)
          ∙ sym (append_assoc so_far.0 (b ∷ comment.1.0) after),
      inr
          (with_piece true so_far.0 (b ∷ comment.1.0) g (inr (comment.0, comment_last comment.1.0 comment.1.1)), e.1),
    ))
    comment.1.2)
    (λ (g : IsLastGap so_far.0 × (b ∷ rest ≡ [])). absurd (let e = g.1 in cc))
    so_far.2

-- a piece takes at least one byte
pub piece_shorter : (rest after : List ℕ) → SkipsPiece rest after → length after < length rest
piece_shorter [] after h = absurd h
piece_shorter (b ∷ bs) after (inl h) = let e = ap length h.1 in omega arith
piece_shorter (b ∷ bs) after (inr h) = ⊎_elim (λ (e : bs ≡ h.1.0 ++ 10 ∷ after). omega (arith, ap length e, length-append h.1.0 (10 ∷ after)))
    (λ (e : (bs ≡ h.1.0) × (after ≡ [])). omega (arith, ap length e.1)) h.1.2
