-- The tokens of a text lie one after another in it, and so the errors of what it means rise.
use Rattle.ta_meaning.proofs.Common.{Limits, ℕ, ◌+◌, ◌≤◌, ◌<◌, ◌≡◌, List, [], ◌∷◌, ◌++◌, length, length-append, map, inl, inr, sym, ap, subst, ◌∙◌, arith}
use Rattle.ta_meaning.proofs.Common.{AllByRecursion, each_weaker, kind_bytes, ScansTo, IsLastGap, Offsets, IsPlaced, tree_stated, IsTreeOf, Token, Tree}
use Rattle.ta_meaning.proofs.Common.{FileFault, Rises, meaning_faults, fault_offset, IsOfMeaning, IsTokenAt}
use Rattle.ta_syntax.proofs.Scans.{kind_some}
use Rattle.ta_meaning.proofs.InOrder.{Lies, lies-wider, Within, IsAmong, IsStated}
use Rattle.ta_meaning.proofs.TreesInOrder.{tree-in_order}

-- what is stated of a text's tokens lies in the text
text-lies : (end : ℕ → List ℕ → Type 0) (at : ℕ) (bytes : List ℕ) (s : List Offsets) (ts : List Token) → ScansTo end at bytes ts → IsPlaced s ts
    → Lies at s (at + length bytes)
text-lies end at bytes [] [] scans placed = omega arith
text-lies end at bytes [] (t ∷ ts) scans placed = absurd placed
text-lies end at bytes (x ∷ s) [] scans placed = absurd placed
text-lies end at bytes (x ∷ s) (t ∷ ts) scans placed =
    let gap : List ℕ = scans.0 in
    let rest : List ℕ = scans.1 in
    let here : t.at ≡ at + length gap = scans.4 in
    let some : 0 < length (kind_bytes t.kind) = kind_some t.kind scans.5 in
    let all : length bytes ≡ length gap + (length (kind_bytes t.kind) + length rest) =
    ap length scans.3 ∙ length-append gap (kind_bytes t.kind ++ rest) ∙ ap (λ (n : ℕ). length gap + n) (length-append (kind_bytes t.kind) rest) in
    let behind : ℕ = t.at + length (kind_bytes t.kind) in (
      t.at,
      omega arith,
      placed.0,
      lies-wider behind (behind + length rest) (t.at + 1) (at + length bytes) s (omega arith) (omega arith)
          (text-lies end behind rest s ts scans.7 placed.1),
    )

pub faults-rise : (l : Limits) (bytes : List ℕ) (t : Tree) → IsTreeOf l bytes t → Rises 0 (length bytes) (map fault_offset (meaning_faults l t))
faults-rise l bytes t is =
    let h = tree-in_order l t in
    h.rise 0 (length bytes)
    (lies-wider 0 (0 + length bytes) 0 (length bytes) (tree_stated t) (omega arith) (omega arith)
    (text-lies (λ at rest. IsLastGap rest) 0 bytes (tree_stated t) is.tokens is.are is.placed))

-- ---- tokens
among-same : (at here : ℕ) (x : Offsets) → AllByRecursion (λ a. a ≡ here) x → IsAmong at x → here ≡ at
among-same at here [] all h = absurd h
among-same at here (a ∷ x) all (inl h) = sym all.0 ∙ h
among-same at here (a ∷ x) all (inr h) = among-same at here x all.1 h

-- what is stated of some token is the offset of a token
stated-token : (at : ℕ) (s : List Offsets) (ts : List Token) → IsPlaced s ts → IsStated at s → IsTokenAt at ts
stated-token at [] ts placed h = absurd h
stated-token at (x ∷ s) [] placed h = absurd placed
stated-token at (x ∷ s) (t ∷ ts) placed (inl h) = inl (among-same at t.at x placed.0 h)
stated-token at (x ∷ s) (t ∷ ts) placed (inr h) = inr (stated-token at s ts placed.1 h)

pub faults-tokens : (l : Limits) (bytes : List ℕ) (t : Tree) (is : IsTreeOf l bytes t)
    → AllByRecursion (λ f. IsTokenAt (fault_offset f) is.tokens) (meaning_faults l t)
faults-tokens l bytes t is =
    let h = tree-in_order l t in
    each_weaker (λ f. IsStated (fault_offset f) (tree_stated t)) (λ f. IsTokenAt (fault_offset f) is.tokens) (meaning_faults l t)
    (λ f k. stated-token (fault_offset f) (tree_stated t) is.tokens is.placed k) h.tokens

-- ---- kinds
pub faults-kinds : (l : Limits) (t : Tree) → AllByRecursion IsOfMeaning (meaning_faults l t)
faults-kinds l t = let h = tree-in_order l t in h.kinds

-- ---- the first

-- where numbers rise, each that comes later is larger
later-above : (low n high : ℕ) (fs : List FileFault) → n < low → Within low high fs → AllByRecursion (λ f. n < fault_offset f) fs
later-above low n high [] below h = tt
later-above low n high (f ∷ fs) below h = let here : low ≤ fault_offset f = h.0 in (omega arith, later-above (fault_offset f + 1) n high fs (omega arith) h.2)

pub first-least : (l : Limits) (bytes : List ℕ) (t : Tree) (first : FileFault) (later : List FileFault) → IsTreeOf l bytes t
    → meaning_faults l t ≡ first ∷ later
    → AllByRecursion (λ f. fault_offset first < fault_offset f) later
first-least l bytes t first later is e =
    let rise : Within 0 (length bytes) (first ∷ later) = subst (λ (fs : List FileFault). Within 0 (length bytes) fs) e (faults-rise l bytes t is) in
    later-above (fault_offset first + 1) (fault_offset first) (length bytes) later (omega arith) rise.2
