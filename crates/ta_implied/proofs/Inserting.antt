-- masks with one more pair
use Rattle.ta_implied.proofs.Common.{◌≡◌, inl, inr, ℕ, ◌*◌, ◌%◌, ◌^◌, ◌<◌, List, ◌∷◌, length, set, get_or, false, bit_or, arith, sym, ap, ◌∙◌, subst}
use Rattle.ta_implied.proofs.Common.{cases_Bool, with_bit, Automaton, has_bit, In, AreOrderMasks, HasNoCircle, MayJoin, pairs_from, with_pair, each_set}
use Rattle.ta_base.proofs.Bits.{with_bit_fits}
use Rattle.ta_base.proofs.Each.{each_get_or}
use Rattle.ta_implied.proofs.Pairs.{pair_of_bit}
use Rattle.ta_implied.proofs.Placing.{placed_pair, in_placed}
use Rattle.ta_implied.proofs.Chains.{leads_along, still_no_circle}

-- the mask with a number
abbrev pub with_number : ℕ → ℕ → ℕ
with_number mask j = bit_or mask ((1 * 2 ^ j) % 18446744073709551616)

-- the pair that joins is the one whose number is new in the mask
pub inserted_pairs : (a : Automaton) (pairs : List (ℕ × ℕ)) (j i : ℕ) (masks : List ℕ) → AreOrderMasks masks → pairs_from 0 masks ≡ pairs → length masks ≡ 64
    → length a.rise < 65 → MayJoin a pairs (j, i) → pairs_from 0 (set masks i (with_number (get_or masks i 0) j)) ≡ with_pair (j, i) pairs
inserted_pairs a pairs j i masks are view count limit may =
    let first : j < length a.rise = may.is.before in
    let second : i < length a.rise = may.is.after in
    let below : i < length masks = omega arith in
    let fits : j < 64 = omega arith in
    let none : has_bit (get_or masks i 0) j ≡ false = elim (cases_Bool (has_bit (get_or masks i 0) j))
    [ inl t ↦ absurd (may.fresh (subst (In (j, i)) view (pair_of_bit masks j i are.fit t))) | inr f ↦ f ] in
    placed_pair j i (with_number (get_or masks i 0) j) masks below fits none (λ x. with_bit 64 (get_or masks i 0) j x fits) ∙ ap (with_pair (j, i)) view

pub joined_no_circle : (a : Automaton) (pairs : List (ℕ × ℕ)) (pair : ℕ × ℕ) → HasNoCircle pairs → MayJoin a pairs pair → HasNoCircle (with_pair pair pairs)
joined_no_circle a pairs pair none may more guard leads =
    still_no_circle pairs pair.0 pair.1 none may.is.apart may.closes_none more guard
    (leads_along (with_pair pair pairs) (pair ∷ pairs) (in_placed pair pairs) more guard guard leads)

pub inserted_orders : (a : Automaton) (pairs : List (ℕ × ℕ)) (j i : ℕ) (masks : List ℕ) → AreOrderMasks masks → pairs_from 0 masks ≡ pairs → length masks ≡ 64
    → length a.rise < 65 → MayJoin a pairs (j, i) → AreOrderMasks (set masks i (with_number (get_or masks i 0) j))
inserted_orders a pairs j i masks are view count limit may =
    let first : j < length a.rise = may.is.before in
    let second : i < length a.rise = may.is.after in
    record {
      fit = each_set (λ m. m < 2 ^ 64) masks i (with_number (get_or masks i 0) j) are.fit
          (with_bit_fits 64 (get_or masks i 0) j (each_get_or (λ m. m < 2 ^ 64) masks i 0 are.fit (omega arith)) (omega arith));
      no_circle = subst HasNoCircle (sym (inserted_pairs a pairs j i masks are view count limit may))
          (joined_no_circle a pairs (j, i) (subst HasNoCircle view are.no_circle) may);
    }
