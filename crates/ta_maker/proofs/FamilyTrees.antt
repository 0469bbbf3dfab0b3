-- the automata of the family are trees of the grammar, within its limits
use Rattle.ta_maker.proofs.Common.{◌≤◌, ◌+◌, ℕ, zero, suc, List, [], ◌∷◌, length, map, refl, arith, length-map, codes, range_with_len, numbered, rules_of}
use Rattle.ta_maker.proofs.Common.{AllByRecursion, IsFamilyNumber, IsDigits, length-range_with_len, family, IsNameText, narrow}
use Rattle.ta_maker.proofs.Counting.{twice}
use Rattle.ta_maker.proofs.Naming.{name_A, name_B, name_family, name_g, name_lost, name_n, name_s, name_x}
use Rattle.ta_syntax.specs.Grammar.{IsRule, IsTree}
use Rattle.ta_syntax.specs.Limits.{IsRuleWithin, IsTreeWithin}

digits_one : IsDigits (codes "1")
digits_one = (refl, tt)

-- numbers from one on, up to one of the family
pub in_family : (low n : ℕ) → 1 ≤ low → low + n ≤ 8 → AllByRecursion IsFamilyNumber (range_with_len low n)
in_family low zero one most = tt
in_family low (suc n) one most = (record { low = one; high = omega arith }, in_family (low + 1) n (omega arith) (omega arith))

pub all_in_family : (k : ℕ) → IsFamilyNumber k → AllByRecursion IsFamilyNumber (range_with_len 1 k)
all_in_family k is = let high = is.high in in_family 1 k (omega arith) (omega arith)

names_legal : (ns : List ℕ) → AllByRecursion IsFamilyNumber ns → AllByRecursion IsNameText (map (numbered (codes "x")) ns)
names_legal [] h = tt
names_legal (n ∷ ns) h = (name_x n h.0, names_legal ns h.1)

rules_legal : (ns : List ℕ) → AllByRecursion IsFamilyNumber ns → AllByRecursion IsRule (rules_of ns)
rules_legal [] h = tt
rules_legal (n ∷ ns) h = (
  record { name = name_s n h.0; from = name_A; to = name_B; guards = tt; updates = (record { name = name_x n h.0; amount = digits_one }, tt) },
  (
    record { name = name_g n h.0; from = name_A; to = name_B; guards = (record { left = (name_x n h.0, tt); right = (digits_one, tt) }, tt); updates = tt },
    rules_legal ns h.1,
  ),
)

rules_within : (ns : List ℕ) → AllByRecursion IsRuleWithin (rules_of ns)
rules_within [] = tt
rules_within (n ∷ ns) = (
  record { guards = omega arith; shallow = tt; updates = omega arith },
  (
    record { guards = omega arith; shallow = (record { left = omega arith; right = omega arith }, tt); updates = omega arith },
    rules_within ns,
  ),
)

pub family_legal : (k : ℕ) → IsFamilyNumber k → IsTree (family k)
family_legal k is = record {
  name = name_family k is;
  parameters = (name_n, tt);
  shared = names_legal (range_with_len 1 k) (all_in_family k is);
  some = tt;
  locations = (name_A, (name_B, tt));
  processes = (name_n, tt);
  resilience = (record { left = (name_n, tt); right = (digits_one, tt) }, tt);
  rules = rules_legal (range_with_len 1 k) (all_in_family k is);
  patterns = (
    record {
      name = name_lost;
      start = tt;
      empty = tt;
      events = (
        record {
          name = name_lost;
          after = tt;
          some = tt;
          condition = (record { left = (name_A, (name_B, tt)); right = (name_n, (digits_one, tt)) }, tt);
        },
        tt,
      );
    },
    tt,
  );
}

few_shared : (k : ℕ) → k ≤ 7 → length (map (numbered (codes "x")) (range_with_len 1 k)) ≤ 16
few_shared k small = let e = length-map (range_with_len 1 k) (numbered (codes "x")) in let f = length-range_with_len 1 k in omega (arith, e, f, small)

few_lines : (k : ℕ) → k ≤ 7 → length (rules_of (range_with_len 1 k)) ≤ 128
few_lines k small = let e = twice (range_with_len 1 k) in let f = length-range_with_len 1 k in omega (arith, e, f, small)

pub family_within : (k : ℕ) → IsFamilyNumber k → IsTreeWithin narrow (family k)
family_within k is = record {
  parameters = omega arith;
  shared = few_shared k is.high;
  locations = omega arith;
  processes = omega arith;
  resilience = omega arith;
  shallow = (record { left = omega arith; right = omega arith }, tt);
  rules = few_lines k is.high;
  each_rule = rules_within (range_with_len 1 k);
  patterns = omega arith;
  each_pattern = (
    record {
      start = omega arith;
      shallow = tt;
      empty = omega arith;
      events = omega arith;
      each_event = (record { after = omega arith; condition = omega arith; shallow = (record { left = omega arith; right = omega arith }, tt) }, tt);
    },
    tt,
  );
}
