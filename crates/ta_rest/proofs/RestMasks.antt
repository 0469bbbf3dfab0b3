-- masks of what is asked at a word's end
use Rattle.ta_rest.proofs.ClaimCommon.{◌≡◌, ℕ, ◌*◌, ◌%◌, ◌<◌, ◌^◌, List, length, Bool, true, false, not, ◌&&◌, ◌||◌, Some, bit_or, sym, ap, ◌∙◌, ◌==◌, has_bit}
use Rattle.ta_rest.proofs.ClaimCommon.{all_below, implies, with_bit, Automaton, Rule, leads_out, Element, has_fallen, has_rise}
use Rattle.ta_base.proofs.Booleans.{and_right}

-- whether a rule's guards hold after some elements, as leads_out says it
abbrev pub unlocked : Automaton → ℕ → List Element → Rule → Bool
unlocked a start past rule =
    all_below (length a.rise) (λ i. implies (has_bit rule.rise i) (has_rise past i))
    && all_below (length a.fall) (λ j. implies (has_bit rule.fall j) (not (has_fallen start past j)))

-- a rule that leads out of its source
pub out_of : (a : Automaton) (start : ℕ) (past : List Element) (rule : Rule) (mask l : ℕ) → rule.from < 128 → (rule.from == rule.to) ≡ false
    → unlocked a start past rule ≡ true
    → has_bit (bit_or mask ((1 * 2 ^ rule.from) % 2 ^ 128)) l ≡ (leads_out a start past l (Some rule) || has_bit mask l)
out_of a start past rule mask l small apart holds =
    with_bit 128 mask rule.from l small
    ∙ ap (λ (b : Bool). b || has_bit mask l)
    (sym (and_right (rule.from == l) (not (rule.from == rule.to) && unlocked a start past rule)
    (ap (λ (b : Bool). not b && unlocked a start past rule) apart ∙ holds)))
