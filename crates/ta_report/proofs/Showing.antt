-- Texts written piece by piece.
use Rattle.ta_report.proofs.Common.{ℕ, ℤ, suc, unsigned_abs, ◌==◌, [], decimal, ◌≡◌, ◌<◌, ◌≤◌, ◌+◌, ◌-◌, ◌∙◌, List, ◌∷◌, ◌++◌, Bool, true, false, cond, ap, sym}
use Rattle.ta_report.proofs.Common.{append-nil, append_assoc, arith, filter, range_with_len, has_bit, piece_written, eqb-true, Automaton, amount_text, each}
use Rattle.ta_report.proofs.Common.{many, mask_number, place_name}
use Rattle.std.proofs.lemmas.Bool.{false_from_ne_true}

-- the numbers of a mask from one on
abbrev pub left_of : ℕ → ℕ → List ℕ
left_of mask n = filter (has_bit mask) (range_with_len n (128 - n))

range_next : (n k m : ℕ) → k ≡ suc m → range_with_len n k ≡ n ∷ range_with_len (n + 1) m
range_next n k m e = ap (range_with_len n) e

left_next : (mask n : ℕ) (b : Bool) → n < 128 → has_bit mask n ≡ b → left_of mask n ≡ cond b (n ∷ left_of mask (n + 1)) (left_of mask (n + 1))
left_next mask n b within is =
    ap (filter (has_bit mask)) (range_next n (128 - n) (128 - (n + 1)) (omega arith))
    ∙ ap (λ t. cond t (n ∷ left_of mask (n + 1)) (left_of mask (n + 1))) is

-- a number of a mask is written, or isn't in it
pub set_next : (mask n : ℕ) (old new all : List ℕ) → n < 128 → has_bit mask n ≡ true → new ≡ old ++ mask_number n → old
    ++ each mask_number (left_of mask n) ≡ all → new ++ each mask_number (left_of mask (n + 1)) ≡ all
set_next mask n old new all within is written so_far =
    piece_written old new (mask_number n) (each mask_number (left_of mask n)) (each mask_number (left_of mask (n + 1))) all written
    (ap (each mask_number) (left_next mask n true within is)) so_far

pub unset_next : (mask n : ℕ) (old new all : List ℕ) → n < 128 → has_bit mask n ≡ false → new ≡ old → old ++ each mask_number (left_of mask n) ≡ all → new
    ++ each mask_number (left_of mask (n + 1)) ≡ all
unset_next mask n old new all within is same so_far =
    ap (λ xs. xs ++ each mask_number (left_of mask (n + 1))) same ∙ ap (λ (ns : List ℕ). old ++ each mask_number ns) (sym (left_next mask n false within is))
    ∙ so_far

-- one piece behind another
pub behind : (old mid new a b : List ℕ) → mid ≡ old ++ a → new ≡ mid ++ b → new ≡ old ++ (a ++ b)
behind old mid new a b first second = second ∙ ap (λ xs. xs ++ b) first ∙ append_assoc old a b

-- so many of a place, where it isn't one
pub amount_written : (a : Automaton) (t : ℕ × ℤ) (size : ℕ) (name old new : List ℕ) → name ≡ place_name a t.0 → size ≡ unsigned_abs t.1 → (size ≡ 1 → ⊥)
    → new ≡ old ++ (decimal size ++ (42 ∷ (name ++ (32 ∷ [])))) → new ≡ old ++ amount_text a t
amount_written a t size name old new named sized other written =
    let n = unsigned_abs t.1 in
    let place : List ℕ = place_name a t.0 in
    let more : (n == 1) ≡ false = false_from_ne_true (n == 1) (λ e. other (sized ∙ eqb-true n 1 e)) in
    written
    ∙ ap (λ (m : ℕ). old ++ (decimal m ++ (42 ∷ (name ++ (32 ∷ []))))) sized
    ∙ ap (λ (p : List ℕ). old ++ (decimal n ++ (42 ∷ (p ++ (32 ∷ []))))) named
    ∙ ap (λ xs. old ++ xs) (sym (append_assoc (decimal n) (42 ∷ []) (place ++ (32 ∷ []))))
    ∙ ap (λ (b : Bool). old ++ (many b n ++ (place ++ (32 ∷ [])))) (sym more)

-- past the last number nothing is left
pub none_left : (mask n : ℕ) (written all : List ℕ) → 128 ≤ n → written ++ each mask_number (left_of mask n) ≡ all → written ≡ all
none_left mask n written all past e =
    let none : 128 - n ≡ 0 = omega arith in
    sym (append-nil written) ∙ ap (λ (k : ℕ). written ++ each mask_number (filter (has_bit mask) (range_with_len n k))) (sym none) ∙ e
