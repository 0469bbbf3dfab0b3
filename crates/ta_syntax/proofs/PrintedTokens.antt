-- The tokens of what is printed.
use Rattle.ta_syntax.proofs.Common.{◌≡◌, ℕ, Bool, true, false, List, [], ◌∷◌, ◌++◌, length, ◌+◌, inl, refl, ap, AllByRecursion, is_white, kind_bytes, IsKind}
use Rattle.ta_syntax.proofs.Common.{lengthens, IsSpace, IsLastGap, ScansTo, AreTokens, kinds, separator, printed, Kind, Mark, Token}
use Rattle.ta_syntax.specs.declared.tokens.Kind.TheVariants as kind
use Rattle.ta_syntax.specs.declared.tokens.Mark.TheVariants as mark

-- ---- what stands behind a token
behind_mark : (m : Mark) → lengthens (kind.Fixed m) (separator (kind.Fixed m)) ≡ false
behind_mark mark.Semicolon = refl
behind_mark _ = refl

-- it makes no token longer
behind_ends : (k : Kind) → lengthens k (separator k) ≡ false
behind_ends (kind.Name n) = refl
behind_ends (kind.Number d) = refl
behind_ends (kind.Fixed m) = behind_mark m

white_mark : (m : Mark) → is_white (separator (kind.Fixed m)) ≡ true
white_mark mark.Semicolon = refl
white_mark _ = refl

-- it is white
behind_white : (k : Kind) → is_white (separator k) ≡ true
behind_white (kind.Name n) = refl
behind_white (kind.Number d) = refl
behind_white (kind.Fixed m) = white_mark m

-- ---- the tokens
abbrev made : (k : Kind) → ℕ → IsKind k → Token
made k at l = record { kind = k; at = at; legal = l }

-- nothing, or one white byte
abbrev IsSmall : List ℕ → Type 0
IsSmall [] = Unit {0}
IsSmall (b ∷ []) = is_white b ≡ true
IsSmall (b ∷ c ∷ bs) = ⊥

small_gap : (last : Bool) (gap : List ℕ) → IsSmall gap → IsSpace last false gap
small_gap last [] s = tt
small_gap last (b ∷ []) s = inl (s, tt)
small_gap last (b ∷ c ∷ bs) s = absurd s

small_last : (gap : List ℕ) → IsSmall gap → IsLastGap (gap ++ [])
small_last [] s = tt
small_last (b ∷ []) s = inl (s, tt)
small_last (b ∷ c ∷ bs) s = absurd s

printed_from : (gap : List ℕ) (at : ℕ) (ks : List Kind) → IsSmall gap → AllByRecursion IsKind ks → (ts : List Token)
    × ScansTo (λ a r. IsLastGap r) at (gap ++ printed ks) ts × (kinds ts ≡ ks)
printed_from gap at [] s legal = ([], small_last gap s, refl)
printed_from gap at (k ∷ ks) s legal =
    let t = made k (at + length gap) legal.0 in
    let more = printed_from (separator k ∷ []) (at + length gap + length (kind_bytes k)) ks (behind_white k) legal.1 in
    (t ∷ more.0, (gap, separator k ∷ printed ks, small_gap false gap s, refl, refl, legal.0, behind_ends k, more.1), ap (λ (x : List Kind). k ∷ x) more.2)

pub tokens_printed : (ks : List Kind) → AllByRecursion IsKind ks → (ts : List Token) × AreTokens (printed ks) ts × (kinds ts ≡ ks)
tokens_printed ks legal = printed_from [] 0 ks tt legal
