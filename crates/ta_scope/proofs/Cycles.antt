-- where every remaining location has a remaining other one that leads to it, there is a cycle
use Rattle.ta_scope.proofs.Common.{◌≡◌, ◌⊎◌, inl, inr, ℕ, zero, suc, ◌+◌, ◌<◌, List, [], ◌∷◌, length, arith, sym, ap, ◌∙◌, refl, subst, slice_get, Some}
use Rattle.ta_scope.proofs.Common.{Contains, IsBitSet, eqb_tells, slice_get_within, AllByRecursion, set_or, distinct_length, each_weaker, find_or, contains_or}
use Rattle.ta_scope.proofs.Common.{Rule, Automaton, Distinct, Walk, from_within, Reaches, NoCycle, Blocks, Ready}
use Rattle.ta_base.proofs.Options.{none_or_some}
use Rattle.std.proofs.lemmas.Option.{none-some}

-- a rule of the mask that leads to a location from another one that remains
abbrev pub Blocker : List Rule → ℕ → List ℕ → ℕ → Type 0
Blocker all rules placed location = (r : ℕ) × (rule : Rule) × (slice_get all r ≡ Some rule) × IsBitSet rules r × Blocks placed location rule

pub blocks_or : (placed : List ℕ) (location : ℕ) (rule : Rule) → Blocks placed location rule ⊎ (Blocks placed location rule → ⊥)
blocks_or placed location rule = elim (eqb_tells rule.to location) [
  | inl t ↦ elim (eqb_tells rule.from location) [
    | inl f ↦ inr (λ b. b.other f.1)
    | inr f ↦ elim (contains_or rule.from placed) [
      | inl c ↦ inr (λ b. b.remains c)
      | inr c ↦ inl (record { to = t.1; other = f.1; remains = c })
    ]
  ]
  | inr t ↦ inr (λ b. t.1 b.to)
]

-- a rule by its number blocks a location and is in the mask, or doesn't
blocker_or : (all : List Rule) (rules : ℕ) (placed : List ℕ) (location n : ℕ)
    → ((rule : Rule) → slice_get all n ≡ Some rule → IsBitSet rules n → Blocks placed location rule → ⊥) ⊎ Blocker all rules placed location
blocker_or all rules placed location n = elim (none_or_some (slice_get all n)) [
  | inl none ↦ inl (λ rule named member blocks. none-some rule (sym none ∙ named))
  | inr (rule, named) ↦ elim (set_or rules n) [
    | inr out ↦ inl (λ other at member blocks. out member)
    | inl member ↦ elim (blocks_or placed location rule) [
      | inl b ↦ inr (n, rule, named, member, b)
      | inr never ↦ inl (λ other at m blocks. let same : Some other ≡ Some rule = sym at ∙ named in let is : other ≡ rule = cc in never
          (subst (Blocks placed location) is blocks))
    ]
  ]
]

-- a rule of the mask blocks a location, or none of the first rules of a list does
free_below : (all : List Rule) (rules : ℕ) (placed : List ℕ) (location n : ℕ)
    → ((r : ℕ) (rule : Rule) → r < n → slice_get all r ≡ Some rule → IsBitSet rules r → Blocks placed location rule → ⊥) ⊎ Blocker all rules placed location
free_below all rules placed location zero = inl (λ r rule b named member blocks. absurd (omega arith))
free_below all rules placed location (suc n) = elim (free_below all rules placed location n) [
  | inr w ↦ inr w
  | inl none ↦ elim (blocker_or all rules placed location n) [
    | inr w ↦ inr w
    | inl free ↦ inl (λ r rule b named member blocks. elim (eqb_tells r n) [
      | inl e ↦ free rule (ap (slice_get all) (sym e.1) ∙ named) (subst (IsBitSet rules) e.1 member) blocks
      | inr ne ↦ none r rule (let differ = ne.1 in omega arith) named member blocks
    ])
  ]
]

pub free_or : (all : List Rule) (rules : ℕ) (placed : List ℕ) (location : ℕ)
    → ((r : ℕ) (rule : Rule) → slice_get all r ≡ Some rule → IsBitSet rules r → Blocks placed location rule → ⊥) ⊎ Blocker all rules placed location
free_or all rules placed location = elim (free_below all rules placed location (length all)) [
  | inr w ↦ inr w
  | inl none ↦ inl (λ r rule named member blocks. none r rule (slice_get_within all r rule named) named member blocks)
]

-- where no location is ready
abbrev pub NoneReady : Automaton → ℕ → List ℕ → Type 0
NoneReady a rules placed = (l : ℕ) → l < length a.locations → ¬ Ready a rules placed l

-- going from location to location against the rules comes back to one that was seen
go_back : (a : Automaton) (rules : ℕ) (placed : List ℕ) → NoCycle a rules → NoneReady a rules placed → (fuel c : ℕ) (seen : List ℕ)
    → AllByRecursion (λ m. m < length a.locations) (c ∷ seen) → Distinct (c ∷ seen) → AllByRecursion (Reaches a rules c) (c ∷ seen) → ¬ Contains placed c
    → length a.locations < fuel + length (c ∷ seen) → ⊥
go_back a rules placed acyclic none zero c seen below distinct walks remains long =
    absurd (let short = distinct_length (length a.locations) (c ∷ seen) distinct below in omega arith)
go_back a rules placed acyclic none (suc fuel) c seen below distinct walks remains long = elim (free_or a.rules rules placed c) [
  | inl free ↦ none c below.0 (record { remains = remains; free = free })
  | inr w ↦ (
      let rule = w.1 in
      let named : slice_get a.rules w.0 ≡ Some rule = w.2 in
      let b : Blocks placed c rule = w.4 in
      elim (find_or (Reaches a rules c) rule.from (c ∷ seen) walks) [
        | inl back ↦ acyclic w.0 rule named w.3 (back.0, subst (λ z. Walk a z back.0 rule.from) (sym b.to) back.1, back.2)
        | inr new ↦ go_back a rules placed acyclic none fuel rule.from (c ∷ seen) (from_within a w.0 rule named, below) (new, distinct) (
          ([], refl, tt),
          each_weaker (Reaches a rules c) (Reaches a rules rule.from) (c ∷ seen)
              (λ m walk. (w.0 ∷ walk.0, (rule, named, refl, subst (λ z. Walk a z walk.0 m) (sym b.to) walk.1), (w.3, walk.2))) walks,
        )
            b.remains (omega arith)
      ])
]

-- where the mask's rules have no cycle and no location is ready, none remains
pub none_remains : (a : Automaton) (rules : ℕ) (placed : List ℕ) → NoCycle a rules → NoneReady a rules placed → (l : ℕ) → l < length a.locations
    → Contains placed l
none_remains a rules placed acyclic none l below = elim (contains_or l placed) [
  | inl c ↦ c
  | inr remains ↦ absurd (go_back a rules placed acyclic none (length a.locations) l [] (below, tt) (tt, tt) (([], refl, tt), tt) remains (omega arith))
]
