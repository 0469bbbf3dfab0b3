-- The tokens read so far.
use Rattle.ta_syntax.proofs.Common.{◌≡◌, ℕ, Bool, true, false, List, [], ◌∷◌, ◌++◌, length, refl, sym, ap, subst, ◌∙◌, arith, ◌<◌, ◌≤◌, ◌+◌, ◌-◌, length-append}
use Rattle.ta_syntax.proofs.Common.{inl, inr, lit<, append-nil, ◌⊎◌, ScansTo, IsSpace, IsGap, IsLastGap, IsRefusedHere, AreTokens, TokenFrom, SkipsGap}
use Rattle.ta_syntax.proofs.Common.{BeginsNoGap, TokenStops, ScanStops, mark_bytes, kind_bytes, IsKind, Token, Kind, Mark, FileFault}
use Rattle.ta_syntax.specs.declared.tokens.Kind.TheVariants as kind
use Rattle.ta_syntax.specs.declared.tokens.Mark.TheVariants as mark
use Rattle.ta_syntax.specs.declared.fault.FileFault.TheVariants as fault

-- the bytes that are left, with their offset
abbrev pub Left : List ℕ → List ℕ → ℕ → List ℕ → Type 0
Left bytes rest at r = (r ≡ rest) × (at + length rest ≡ length bytes)

abbrev pub ScannedTo : List ℕ → List ℕ → List Token → Type 0
ScannedTo bytes rest ts = ScansTo (Left bytes rest) 0 bytes ts

pub record ScanSoFar (bytes rest : List ℕ) (ts : List Token) : Type 0 where
  pub so_far : ScannedTo bytes rest ts
  pub within : length rest ≤ length bytes

pub scans_then : (P Q : ℕ → List ℕ → Type 0) (more : List Token) → ((at : ℕ) (r : List ℕ) → P at r → ScansTo Q at r more)
    → (at : ℕ) (bytes : List ℕ) (ts : List Token) → ScansTo P at bytes ts → ScansTo Q at bytes (ts ++ more)
scans_then P Q more f at bytes [] h = f at bytes h
scans_then P Q more f at bytes (t ∷ ts) h = (h.0, h.1, h.2, h.3, h.4, h.5, h.6, scans_then P Q more f (t.at + length (kind_bytes t.kind)) h.1 ts h.7)

pub scan_begins : (bytes : List ℕ) → ScanSoFar bytes bytes []
scan_begins bytes = record { so_far = (refl, omega arith); within = omega arith }

gap_of : (rest start : List ℕ) (gap : List ℕ) → (IsGap gap ⊎ (IsLastGap gap × (start ≡ []))) → 0 < length start → IsGap gap
gap_of rest start gap (inl g) some = g
gap_of rest start gap (inr g) some = absurd (omega (arith, ap length g.1))

pub after_shorter : (rest start after : List ℕ) (k : Kind) → SkipsGap rest start → TokenFrom start k after → 0 < length (kind_bytes k)
    → length after < length rest
after_shorter rest start after k g t some = omega (arith, ap length g.1, length-append g.0 start, ap length t.split, length-append (kind_bytes k) after)

pub scan_goes_on : (bytes rest start after : List ℕ) (ts : List Token) (t : Token) → ScanSoFar bytes rest ts → SkipsGap rest start → 0 < length start
    → t.at ≡ length bytes - length start → TokenFrom start t.kind after → ScanSoFar bytes after (ts ++ t ∷ [])
scan_goes_on bytes rest start after ts t so_far g some at_is from = record {
  so_far = scans_then (Left bytes rest) (Left bytes after) (t ∷ []) (λ at r left.
      let len_rest : length rest ≡ length g.0 + length start = ap length g.1 ∙ length-append g.0 start in
      let len_start : length start ≡ length (kind_bytes t.kind) + length after = ap length from.split ∙ length-append (kind_bytes t.kind) after in
      let place : t.at ≡ at + length g.0 = omega (arith, left.1) in (
        g.0,
        after,
        gap_of rest start g.0 g.2 some,
        left.0 ∙ g.1
            ∙ ap (λ (x : List ℕ). g.0 ++ x) from.split,
        place,
        from.is,
        from.longest,
        (refl, omega (arith, left.1)),
      )) 0 bytes ts so_far.so_far;
  within = omega (arith, so_far.within, ap length g.1, length-append g.0 start, ap length from.split, length-append (kind_bytes t.kind) after);
}

scans_map : (P Q : ℕ → List ℕ → Type 0) → ((at : ℕ) (r : List ℕ) → P at r → Q at r) → (at : ℕ) (bytes : List ℕ) (ts : List Token) → ScansTo P at bytes ts
    → ScansTo Q at bytes ts
scans_map P Q f at bytes [] h = f at bytes h
scans_map P Q f at bytes (t ∷ ts) h = (h.0, h.1, h.2, h.3, h.4, h.5, h.6, scans_map P Q f (t.at + length (kind_bytes t.kind)) h.1 ts h.7)

space_last : (c : Bool) (a : List ℕ) → IsSpace false c a → IsSpace true c a
space_last true [] h = refl
space_last false [] h = tt
space_last true (b ∷ a) (inl h) = inl (h.0, space_last false a h.1)
space_last true (b ∷ a) (inr h) = inr (h.0, space_last true a h.1)
space_last false (b ∷ a) (inl h) = inl (h.0, space_last false a h.1)
space_last false (b ∷ a) (inr h) = inr (h.0, space_last true a h.1)

last_gap : (gap start : List ℕ) → (IsGap gap ⊎ (IsLastGap gap × (start ≡ []))) → IsLastGap gap
last_gap gap start (inl g) = space_last false gap g
last_gap gap start (inr g) = g.0

pub scan_ends : (bytes rest start : List ℕ) (ts : List Token) → ScanSoFar bytes rest ts → SkipsGap rest start → start ≡ [] → AreTokens bytes ts
scan_ends bytes rest start ts so_far g none =
    let whole : rest ≡ g.0 = g.1 ∙ ap (λ (x : List ℕ). g.0 ++ x) none ∙ append-nil g.0 in
    scans_map (Left bytes rest) (λ at r. IsLastGap r) (λ at r left. subst IsLastGap (sym whole ∙ sym left.0) (last_gap g.0 start g.2)) 0 bytes ts so_far.so_far

pub scan_stops : (bytes rest start : List ℕ) (ts : List Token) (at : ℕ) (e : FileFault) → ScanSoFar bytes rest ts → SkipsGap rest start → BeginsNoGap start
    → 0 < length start → at ≡ length bytes - length start → TokenStops at start e → ScanStops bytes e
scan_stops bytes rest start ts at fault.Memory so_far g ends some at_is stops = tt
scan_stops bytes rest [] ts at (fault.Byte k) so_far g ends some at_is stops = absurd (omega arith)
scan_stops bytes rest (b ∷ bs) ts at (fault.Byte k) so_far g ends some at_is stops = (
  ts,
  scans_map (Left bytes rest) (λ at' r. IsRefusedHere at' r k) (λ at' r left.
      let len_rest : length rest ≡ length g.0 + length (b ∷ bs) = ap length g.1 ∙ length-append g.0 (b ∷ bs) in
      record {
        gap = g.0;
        byte = b;
        rest = bs;
        split = left.0 ∙ g.1;
        is_gap = gap_of rest (b ∷ bs) g.0 g.2 some;
        place = omega (arith, left.1, stops.0, len_rest, at_is);
        no_gap = ends;
        no_token = stops.1;
      }) 0 bytes ts so_far.so_far,
)
scan_stops bytes rest start ts at _ so_far g ends some at_is stops = absurd stops

pub kind_some : (k : Kind) → IsKind k → 0 < length (kind_bytes k)
kind_some (kind.Name []) h = absurd h.first
kind_some (kind.Name (b ∷ bs)) h = omega arith
kind_some (kind.Number []) h = absurd h
kind_some (kind.Number (b ∷ bs)) h = omega arith
kind_some (kind.Fixed m) h = mark_some m
  where
    mark_some : (m : Mark) → 0 < length (mark_bytes m)
    mark_some mark.Semicolon = lit< tt
    mark_some _ = lit< tt
