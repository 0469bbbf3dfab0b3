-- One hole more behind legal ones.
use Rattle.ta_search.proofs.Common.{ℕ, ◌*◌, ◌<◌, ◌≤◌, ◌≡◌, ◌++◌, inl, inr, false, nat_lt, List, [], ◌∷◌, length, refl, sym, ap, subst, ◌∙◌, length-append}
use Rattle.ta_search.proofs.Common.{arith, IsTrue, at_most, Hole, AreTooMany, IsSpelledHole, hole_line, is_among, value_count, vector_count, AddsHole, Declares}
use Rattle.ta_search.proofs.Common.{LineRefused}
use Rattle.std.proofs.lemmas.Bool.Decides.{Decides-ltb}
use Rattle.std.proofs.Math.Nat.{mul_assoc}
use Rattle.ta_search.specs.declared.fault.TemplateFault.TheVariants as fault
use Rattle.ta_search.proofs.HoleLines.{hole_of, same_hole}

-- the choices with one hole more
pub vectors_push : (hs : List Hole) (h : Hole) → vector_count hs * value_count h ≡ vector_count (hs ++ h ∷ [])
vectors_push [] h = omega arith
vectors_push (g ∷ hs) h = mul_assoc (value_count g) (vector_count hs) (value_count h) ∙ ap (λ n. value_count g * n) (vectors_push hs h)

-- whether there are too many
pub many_tells : (hs : List Hole) (h : Hole) (p : ℕ) → length hs < 4 → p ≡ vector_count (hs ++ h ∷ []) → (IsTrue (nat_lt 10000 p) → AreTooMany (hs ++ h ∷ []))
    × (AreTooMany (hs ++ h ∷ []) → IsTrue (nat_lt 10000 p))
many_tells hs h p few e = (
  λ t. inr (subst (λ n. 10000 < n) e ((Decides-ltb 10000 p).0 t)),
  λ m. elim m [
    | inl five ↦ absurd (omega (arith, length-append hs (h ∷ [])))
    | inr many ↦ (Decides-ltb 10000 p).1 (subst (λ n. 10000 < n) (sym e) many)
  ],
)

-- the hole that a line declares
declared_hole : (line name : List ℕ) (low high : ℕ) (d : Declares line name low high) → d.h ≡ hole_of name low high
declared_hole line name low high d = same_hole d.h (hole_of name low high) (sym d.name_is) (sym d.low_is) (sym d.high_is)

abbrev pub HoleOfLine : List ℕ → Hole → Type 0
HoleOfLine line h = IsSpelledHole h × (line ≡ hole_line h)

pub of_line : (line name : List ℕ) (low high : ℕ) → Declares line name low high → HoleOfLine line (hole_of name low high)
of_line line name low high d = subst (λ h. HoleOfLine line h) (declared_hole line name low high d) (d.spelled, d.text)

-- a hole that may stand behind these
pub adds_is : (hs : List Hole) (line name taken : List ℕ) (low high : ℕ) → Declares line name low high → taken ≡ name → is_among hs name ≡ false → low ≤ high
    → high ≤ 1000000000 → (AreTooMany (hs ++ hole_of taken low high ∷ []) → ⊥) → AddsHole hs line (hole_of taken low high)
adds_is hs line name taken low high d same fresh some small few =
    let is = subst (λ n. HoleOfLine line (hole_of n low high)) (sym same) (of_line line name low high d) in
    record {
      spelled = is.0;
      text = is.1;
      fresh = ap (is_among hs) same ∙ fresh;
      range = record { some = some; small = small };
      few = at_most 4 (length (hs ++ hole_of taken low high ∷ [])) (λ five. few (inl five));
      vectors = at_most 10000 (vector_count (hs ++ hole_of taken low high ∷ [])) (λ many. few (inr many));
    }

-- one that may not
pub many_refused : (hs : List Hole) (line name : List ℕ) (low high number : ℕ) → Declares line name low high → is_among hs name ≡ false → low ≤ high
    → high ≤ 1000000000 → AreTooMany (hs ++ hole_of name low high ∷ []) → LineRefused hs line number (fault.TooMany number)
many_refused hs line name low high number d fresh some small many =
    let is = of_line line name low high d in
    (hole_of name low high, is.0, is.1, (refl, fresh, record { some = some; small = small }, many))
