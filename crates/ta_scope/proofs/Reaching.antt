-- what growing masks of locations say of walks
use Rattle.ta_scope.proofs.Common.{◌≡◌, inl, inr, ℕ, ◌<◌, ◌^◌, List, [], ◌∷◌, ◌++◌, arith, sym, ap, ◌∙◌, refl, subst, slice_get, Some, IsBitSet, ◌%◌, ◌*◌, ◌↔◌}
use Rattle.ta_scope.proofs.Common.{bit_or, w128, length, length-append, get_or, bit_at, le_or_l, bit_at_set_same, bit_at_set_other, bit_at-pow_same}
use Rattle.ta_scope.proofs.Common.{bit_at-pow_other, bit_at_ones, slice_get_within, eqb_tells, AllByRecursion, at_set, set_at, set_or, each_push, Rule}
use Rattle.ta_scope.proofs.Common.{Automaton, Walk, every_rule, Reaches, to_within, LeadsOut, AddsLocation, IsClosed, get_or_append_left, get_or_push, one_shl}

pub walk_push : (a : Automaton) (x : ℕ) (rs : List ℕ) (y r : ℕ) (rule : Rule) → Walk a x rs y → slice_get a.rules r ≡ Some rule → rule.from ≡ y
    → Walk a x (rs ++ r ∷ []) rule.to
walk_push a x [] y r rule walk named from = (rule, named, from ∙ sym walk, refl)
walk_push a x (q ∷ rs) y r rule walk named from = (walk.0, walk.1, walk.2, walk_push a (walk.0).to rs y r rule walk.3 named from)

-- a mask that has the first location, and only locations to which rules of a mask lead from it
pub record Reached (a : Automaton) (rules first mask : ℕ) : Type 0 where
  pub has_first : IsBitSet mask first
  pub walks : (l : ℕ) → IsBitSet mask l → Reaches a rules first l

pub reached_more : (a : Automaton) (rules first mask more : ℕ) → Reached a rules first mask → AddsLocation a rules mask more → Reached a rules first more
reached_more a rules first mask more reached grown = record {
  has_first = grown.kept first reached.has_first;
  walks = λ l b. elim (grown.added l b) [
    | inl old ↦ reached.walks l old
    | inr new ↦ (let w = reached.walks grown.rule.from grown.leads_out.from in (
      w.0 ++ grown.number ∷ [],
      subst (Walk a first (w.0 ++ grown.number ∷ [])) (sym new) (walk_push a first w.0 grown.rule.from grown.number grown.rule w.1 grown.named refl),
      each_push (IsBitSet rules) w.0 grown.number w.2 grown.leads_out.member,
    ))
  ];
}

-- a walk from a location of a closed mask stays in it
pub walk_stays : (a : Automaton) (rules mask : ℕ) → IsClosed a rules mask → (x : ℕ) (rs : List ℕ) (y : ℕ) → IsBitSet mask x → Walk a x rs y
    → AllByRecursion (IsBitSet rules) rs → IsBitSet mask y
walk_stays a rules mask closed x [] y b walk each = subst (IsBitSet mask) walk b
walk_stays a rules mask closed x (r ∷ rs) y b walk each =
    let rule = walk.0 in
    let from : IsBitSet mask rule.from = subst (IsBitSet mask) (sym walk.2) b in
    elim (set_or mask rule.to) [
      | inl to ↦ walk_stays a rules mask closed rule.to rs y to walk.3 each.1
      | inr out ↦ absurd (closed r rule walk.1 (record { member = each.0; from = from; to = out }))
    ]

-- the bit of a location, as the code computes it
abbrev pub bit_of : ℕ → ℕ
bit_of l = 1 * 2 ^ l % 340282366920938463463374607431768211456

pub grown_by : (a : Automaton) (rules mask r : ℕ) (rule : Rule) → slice_get a.rules r ≡ Some rule → LeadsOut rules mask r rule → rule.to < 128
    → AddsLocation a rules mask (bit_or mask (1 * 2 ^ rule.to % 340282366920938463463374607431768211456))
grown_by a rules mask r rule named out within = record {
  number = r;
  rule = rule;
  named = named;
  leads_out = out;
  kept = λ l b. elim (eqb_tells l rule.to) [
    | inl e ↦ at_set _ l (ap (bit_at (bit_or mask (bit_of rule.to))) e.1 ∙ bit_at_set_same w128 mask rule.to within)
    | inr ne ↦ at_set _ l (bit_at_set_other w128 mask rule.to within l ne.1 ∙ set_at mask l b)
  ];
  added = λ l b. elim (eqb_tells l rule.to) [
    | inl e ↦ inr e.1
    | inr ne ↦ inl (at_set mask l (sym (bit_at_set_other w128 mask rule.to within l ne.1) ∙ set_at _ l b))
  ];
}

pub grown_greater : (rules mask r : ℕ) (rule : Rule) → LeadsOut rules mask r rule → rule.to < 128
    → mask < bit_or mask (1 * 2 ^ rule.to % 340282366920938463463374607431768211456)
grown_greater rules mask r rule out within = elim (eqb_tells mask (bit_or mask (bit_of rule.to))) [
  | inl e ↦ absurd (out.to (at_set mask rule.to (ap (λ n. bit_at n rule.to) e.1 ∙ bit_at_set_same w128 mask rule.to within)))
  | inr ne ↦ (let differ = ne.1 in omega (arith, le_or_l mask (bit_of rule.to)))
]

-- a location's number fits a mask of 128 bits
pub to_fits : (a : Automaton) (r : ℕ) (rule : Rule) → slice_get a.rules r ≡ Some rule → rule.to < 128
to_fits a r rule named = let b = to_within a r rule named in let limit = a.shape.limits.locations_limit in omega arith

pub reached_first : (a : Automaton) (rules first : ℕ) → first < 128 → Reached a rules first (1 * 2 ^ first % 340282366920938463463374607431768211456)
reached_first a rules first within =
    let same : bit_of first ≡ 2 ^ first = one_shl first 128 within in
    record {
      has_first = at_set _ first (ap (λ n. bit_at n first) same ∙ bit_at-pow_same first);
      walks = λ l b. elim (eqb_tells l first) [
        | inl e ↦ ([], sym e.1, tt)
        | inr ne ↦ absurd (let none = bit_at-pow_other first l ne.1 in let one = set_at _ l b in let m = ap (λ n. bit_at n l) same in omega arith)
      ];
    }

-- where the mask is closed, it has exactly the locations that the first one leads to
pub reaches_exactly : (a : Automaton) (rules first mask : ℕ) → Reached a rules first mask → IsClosed a rules mask → (y : ℕ) → IsBitSet mask y
    ↔ Reaches a rules first y
reaches_exactly a rules first mask reached closed y = (reached.walks y, λ w. walk_stays a rules mask closed first w.0 y reached.has_first w.1 w.2)

-- the masks of the first locations
abbrev pub LeadsSoFar : Automaton → ℕ → List ℕ → Type 0
LeadsSoFar a rules table = (x y : ℕ) → x < length table → IsBitSet (get_or table x 0) y ↔ Reaches a rules x y

pub leads_push : (a : Automaton) (rules : ℕ) (table : List ℕ) (mask : ℕ) → LeadsSoFar a rules table
    → ((y : ℕ) → IsBitSet mask y ↔ Reaches a rules (length table) y) → LeadsSoFar a rules (table ++ mask ∷ [])
leads_push a rules table mask before here x y b = elim (eqb_tells x (length table)) [
  | inl e ↦ subst (λ z. IsBitSet (get_or (table ++ mask ∷ []) z 0) y ↔ Reaches a rules z y) (sym e.1)
      (subst (λ m. IsBitSet m y ↔ Reaches a rules (length table) y) (sym (get_or_push table mask 0 (length table) refl)) (here y))
  | inr ne ↦ (let within : x < length table = omega (arith, ne.1, b, length-append table (mask ∷ [])) in subst (λ m. IsBitSet m y ↔ Reaches a rules x y)
      (sym (get_or_append_left table (mask ∷ []) 0 x within)) (before x y within))
]

-- every rule is in the mask of all rules
pub every_bit : (r : ℕ) → r < 1024 → IsBitSet every_rule r
every_bit r b = at_set every_rule r (bit_at_ones 1024 r b)

pub every_walk : (a : Automaton) (x : ℕ) (rs : List ℕ) (y : ℕ) → Walk a x rs y → AllByRecursion (IsBitSet every_rule) rs
every_walk a x [] y walk = tt
every_walk a x (r ∷ rs) y walk = (
  every_bit r (let b = slice_get_within a.rules r walk.0 walk.1 in let limit = a.shape.limits.rules_limit in omega arith),
  every_walk a (walk.0).to rs y walk.3,
)
