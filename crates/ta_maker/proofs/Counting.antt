-- numbers from one on, one more at a time
use Rattle.ta_maker.proofs.Common.{◌≡◌, ◌∙◌, ◌≤◌, ◌+◌, ◌-◌, ℕ, length, List, [], ◌∷◌, ◌++◌, map, refl, sym, ap, arith, append_assoc, length-map, map-append}
use Rattle.ta_maker.proofs.Common.{range_with_len, rules_of, sender, waiter, PlainRule, length-range_with_len}
use Rattle.ta_base.proofs.Ranges.{counted_on}

pub more_rules : {T : Type 0} (plain : T → PlainRule) (items : List T) (first second : T) (i k : ℕ) (all : List PlainRule) → i ≤ k → plain first ≡ sender i
    → plain second ≡ waiter i → map plain items ++ rules_of (range_with_len i (k + 1 - i)) ≡ all → map plain ((items ++ first ∷ []) ++ second ∷ [])
    ++ rules_of (range_with_len (i + 1) (k + 1 - (i + 1))) ≡ all
more_rules plain items first second i k all within is is' h =
    let rest = rules_of (range_with_len (i + 1) (k + 1 - (i + 1))) in
    ap (λ xs. xs ++ rest) (map-append plain (items ++ first ∷ []) (second ∷ []) ∙ ap (λ xs. xs ++ plain second ∷ []) (map-append plain items (first ∷ [])))
    ∙ append_assoc (map plain items ++ plain first ∷ []) (plain second ∷ []) rest
    ∙ append_assoc (map plain items) (plain first ∷ []) (plain second ∷ rest)
    ∙ ap (λ x. map plain items ++ (x ∷ plain second ∷ rest)) is
    ∙ ap (λ x. map plain items ++ (sender i ∷ x ∷ rest)) is'
    ∙ ap (λ ns. map plain items ++ rules_of ns) (sym (counted_on i k within))
    ∙ h

pub twice : (ns : List ℕ) → length (rules_of ns) ≡ length ns + length ns
twice [] = refl
twice (n ∷ ns) = let e = twice ns in omega (arith, e)

pub few_rules : {T : Type 0} (plain : T → PlainRule) (items : List T) (k : ℕ) → k ≤ 7 → map plain items ≡ rules_of (range_with_len 1 k) → length items ≤ 128
few_rules plain items k small is =
    let e : length items ≡ length (rules_of (range_with_len 1 k)) = sym (length-map items plain) ∙ ap length is in
    let f = twice (range_with_len 1 k) in
    let g = length-range_with_len 1 k in
    omega (arith, e, f, g, small)
