-- distances by masks of locations that grow step by step
use Rattle.ta_scope.proofs.Common.{◌≡◌, ◌⊎◌, inl, inr, ℕ, suc, ◌+◌, ◌<◌, ◌≤◌, ◌^◌, List, [], ◌∷◌, ◌++◌, length, arith, sym, ap, ◌∙◌, refl, subst, slice_get}
use Rattle.ta_scope.proofs.Common.{Some, IsBitSet, ◌↔◌, length-append, append_assoc, append-nil, ◌*◌, ◌%◌, cases_order, eqb_tells, pow_pos, slice_get_within}
use Rattle.ta_scope.proofs.Common.{same_Some, AllByRecursion, each_push, Rule, Automaton, Walk, Reaches, IsClosed, FirstPath, NotAbove, NoLater, Distance}
use Rattle.ta_scope.proofs.Common.{LeadsTo, AddsNextLocations, IsStep, FirstStep, one_shl}
use Rattle.ta_base.proofs.Bits.{lone_bit}
use Rattle.ta_scope.proofs.Reaching.{walk_push, walk_stays, reached_first, bit_of}

-- one of the first rules leads from a mask to a location
pub record EnteredBefore (a : Automaton) (rules mask location n : ℕ) : Type 0 where
  pub number : ℕ
  pub rule : Rule
  pub earlier : number < n
  pub named : slice_get a.rules number ≡ Some rule
  pub leads : LeadsTo rules mask location number rule

abbrev pub SteppedBefore : Automaton → ℕ → ℕ → ℕ → ℕ → Type 0
SteppedBefore a rules mask n more = (l : ℕ) → IsBitSet more l ↔ (IsBitSet mask l ⊎ EnteredBefore a rules mask l n)

pub stepped_none : (a : Automaton) (rules mask : ℕ) → SteppedBefore a rules mask 0 mask
stepped_none a rules mask l = (λ b. inl b, λ w. elim w [ inl b ↦ b | inr e ↦ absurd (omega (arith, e.earlier)) ])

this_rule : (a : Automaton) (rules mask l n : ℕ) (rule : Rule) → slice_get a.rules n ≡ Some rule → (e : EnteredBefore a rules mask l (n + 1)) → e.number ≡ n
    → LeadsTo rules mask l n rule
this_rule a rules mask l n rule named e q =
    let same : e.rule ≡ rule = same_Some e.rule rule (sym e.named ∙ ap (slice_get a.rules) q ∙ named) in
    subst (λ (x : Rule). LeadsTo rules mask l n x) same (subst (λ k. LeadsTo rules mask l k e.rule) q e.leads)

pub stepped_more : (a : Automaton) (rules mask n more next : ℕ) (rule : Rule) → slice_get a.rules n ≡ Some rule → SteppedBefore a rules mask n more
    → ((l : ℕ) → IsBitSet next l ↔ (IsBitSet more l ⊎ LeadsTo rules mask l n rule)) → SteppedBefore a rules mask (n + 1) next
stepped_more a rules mask n more next rule named before is l = (
  λ b. elim ((is l).0 b) [
    | inl m ↦ elim ((before l).0 m) [
      | inl k ↦ inl k
      | inr e ↦ inr (record { number = e.number; rule = e.rule; earlier = omega (arith, e.earlier); named = e.named; leads = e.leads })
    ]
    | inr h ↦ inr (record { number = n; rule = rule; earlier = omega arith; named = named; leads = h })
  ],
  λ w. elim w [
    | inl b ↦ (is l).1 (inl ((before l).1 (inl b)))
    | inr e ↦ elim (eqb_tells e.number n) [
      | inl q ↦ (is l).1 (inr (this_rule a rules mask l n rule named e q.1))
      | inr ne ↦ (is l).1 (inl ((before l).1
          (inr (record { number = e.number; rule = e.rule; earlier = (let d = ne.1 in omega (arith, e.earlier)); named = e.named; leads = e.leads }))))
    ]
  ],
)

pub stepped_all : (a : Automaton) (rules mask n more : ℕ) → length a.rules ≤ n → SteppedBefore a rules mask n more → AddsNextLocations a rules mask more
stepped_all a rules mask n more enough before l = (
  λ b. elim ((before l).0 b) [ inl m ↦ inl m | inr e ↦ inr (record { number = e.number; rule = e.rule; named = e.named; leads = e.leads }) ],
  λ w. elim w [
    | inl b ↦ (before l).1 (inl b)
    | inr e ↦ (before l).1 (inr (record {
      number = e.number;
      rule = e.rule;
      earlier = (let w = slice_get_within a.rules e.number e.rule e.named in omega arith);
      named = e.named;
      leads =
          e.leads;
    }))
  ],
)

-- a path of at most so many rules of a mask
pub record Near (a : Automaton) (rules from count l : ℕ) : Type 0 where
  pub path : List ℕ
  pub walk : Walk a from path l
  pub members : AllByRecursion (IsBitSet rules) path
  pub short : length path ≤ count

-- the mask has the locations at most so far away, and the target isn't nearer
pub record Layer (a : Automaton) (rules from to count mask : ℕ) : Type 0 where
  pub within : (l : ℕ) → IsBitSet mask l ↔ Near a rules from count l
  pub nearer : (other : List ℕ) → Walk a from other to → AllByRecursion (IsBitSet rules) other → count ≤ length other
  pub below : count < mask

no_path : (a : Automaton) (x : ℕ) (rs : List ℕ) (y : ℕ) → length rs ≤ 0 → Walk a x rs y → x ≡ y
no_path a x [] y short w = w
no_path a x (r ∷ rs) y short w = absurd (omega arith)

pub layer_first : (a : Automaton) (rules from to : ℕ) → from < 128 → Layer a rules from to 0 (1 * 2 ^ from % 340282366920938463463374607431768211456)
layer_first a rules from to fits =
    let first = reached_first a rules from fits in
    record {
      within = λ l. (
        λ b. record { path = []; walk = sym (lone_bit 128 from l fits b); members = tt; short = omega arith },
        λ n. subst (IsBitSet (bit_of from)) (no_path a from n.path l n.short n.walk) first.has_first,
      );
      nearer = λ other w m. omega arith;
      below = (let same = one_shl from 128 fits in let some = pow_pos from in omega arith);
    }

-- a walk with its last rule apart
record Last (a : Automaton) (rules x : ℕ) (rs : List ℕ) (y : ℕ) : Type 0 where
  pub front : List ℕ
  pub number : ℕ
  pub rule : Rule
  pub named : slice_get a.rules number ≡ Some rule
  pub walk : Walk a x front rule.from
  pub to : rule.to ≡ y
  pub members : AllByRecursion (IsBitSet rules) front
  pub member : IsBitSet rules number
  pub size : length rs ≡ suc (length front)

last_rule : (a : Automaton) (rules x r : ℕ) (rs : List ℕ) (y : ℕ) → Walk a x (r ∷ rs) y → AllByRecursion (IsBitSet rules) (r ∷ rs) → Last a rules x (r ∷ rs) y
last_rule a rules x r [] y w m = record
    { front = []; number = r; rule = w.0; named = w.1; walk = sym w.2; to = w.3; members = tt; member = m.0; size = omega arith }
last_rule a rules x r (q ∷ rs) y w m =
    let l = last_rule a rules (w.0).to q rs y w.3 m.1 in
    record {
      front = r ∷ l.front;
      number = l.number;
      rule = l.rule;
      named = l.named;
      walk = (w.0, w.1, w.2, l.walk);
      to = l.to;
      members = (m.0, l.members);
      member = l.member;
      size = omega (arith, l.size);
    }

near_last : (a : Automaton) (rules from to count mask more : ℕ) → Layer a rules from to count mask → AddsNextLocations a rules mask more
    → (l : ℕ) (path : List ℕ) → Walk a from path l → AllByRecursion (IsBitSet rules) path → length path ≤ count + 1 → IsBitSet more l
near_last a rules from to count mask more layer is l [] w m short = (is l).1
    (inl ((layer.within l).1 (record { path = []; walk = w; members = m; short = omega arith })))
near_last a rules from to count mask more layer is l (r ∷ rs) w m short =
    let last = last_rule a rules from r rs l w m in
    let here = (layer.within last.rule.from).1 (record { path = last.front; walk = last.walk; members = last.members; short = omega (arith, last.size) }) in
    (is l).1 (inr (record { number = last.number; rule = last.rule; named = last.named; leads = record { member = last.member; from = here; to = last.to } }))

pub layer_next : (a : Automaton) (rules from to count mask more : ℕ) → Layer a rules from to count mask → (IsBitSet mask to → ⊥)
    → AddsNextLocations a rules mask more → mask < more → Layer a rules from to (count + 1) more
layer_next a rules from to count mask more layer outside is greater = record {
  within = λ l. (
    λ b. elim ((is l).0 b) [
      | inl m ↦ (let n = (layer.within l).0 m in record { path = n.path; walk = n.walk; members = n.members; short = omega (arith, n.short) })
      | inr e ↦ (
          let n = (layer.within e.rule.from).0 e.leads.from in
          record {
            path = n.path ++ e.number ∷ [];
            walk = subst (Walk a from (n.path ++ e.number ∷ [])) e.leads.to (walk_push a from n.path e.rule.from e.number e.rule n.walk e.named refl);
            members = each_push (IsBitSet rules) n.path e.number n.members e.leads.member;
            short = omega (arith, n.short, length-append n.path (e.number ∷ []));
          })
    ],
    λ n. near_last a rules from to count mask more layer is l n.path n.walk n.members n.short,
  );
  nearer = λ other w m. elim (eqb_tells (length other) count) [
    | inl e ↦ absurd (outside ((layer.within to).1 (record { path = other; walk = w; members = m; short = (let s = e.1 in omega arith) })))
    | inr ne ↦ (let d = ne.1 in omega (arith, layer.nearer other w m))
  ];
  below = omega (arith, layer.below);
}

pub layer_done : (a : Automaton) (rules from to count mask : ℕ) → Layer a rules from to count mask → IsBitSet mask to → Distance a rules from to count
layer_done a rules from to count mask layer b =
    let n = (layer.within to).0 b in
    record { path = n.path; walk = n.walk; members = n.members; long = omega (arith, n.short, layer.nearer n.path n.walk n.members); fewest = layer.nearer }

pub layer_stuck : (a : Automaton) (rules from to count mask more : ℕ) → Layer a rules from to count mask → (IsBitSet mask to → ⊥)
    → AddsNextLocations a rules mask more → more ≡ mask → Reaches a rules from to → ⊥
layer_stuck a rules from to count mask more layer outside is same reaches =
    let closed : IsClosed a rules mask =
    (λ r rule named out. out.to (subst (λ m. IsBitSet m rule.to) same
    ((is rule.to).1 (inr (record { number = r; rule = rule; named = named; leads = record { member = out.member; from = out.from; to = refl } }))))) in
    let has = (layer.within from).1 (record { path = []; walk = refl; members = tt; short = omega arith }) in
    outside (walk_stays a rules mask closed from reaches.0 to has reaches.1 reaches.2)

-- the first rule of a path with the fewest rules is a step
step_of : (a : Automaton) (rules from to left r : ℕ) (rs : List ℕ) → Distance a rules from to (suc left) → (w : Walk a from (r ∷ rs) to)
    → AllByRecursion (IsBitSet rules) (r ∷ rs) → length rs ≡ left → IsStep a rules from to left r w.0
step_of a rules from to left r rs d w m size = record {
  member = m.0;
  leaves = w.2;
  rest = record {
    path = rs;
    walk = w.3;
    members = m.1;
    long = size;
    fewest = λ other v n. let most = d.fewest (r ∷ other) (w.0, w.1, w.2, v) (m.0, n) in omega arith;
  };
}

pub no_step : (a : Automaton) (rules from to left : ℕ) → Distance a rules from to (left + 1)
    → ((r : ℕ) (rule : Rule) → slice_get a.rules r ≡ Some rule → ¬ IsStep a rules from to left r rule) → ⊥
no_step a rules from to left d none = some d.path d.walk d.members d.long (subst (Distance a rules from to) (let e : left + 1 ≡ suc left = omega arith in e) d)
  where
    some : (path : List ℕ) → Walk a from path to → AllByRecursion (IsBitSet rules) path → length path ≡ left + 1 → Distance a rules from to (suc left) → ⊥
    some [] w m size e = absurd (omega arith)
    some (r ∷ rs) w m size e = none r w.0 w.1 (step_of a rules from to left r rs e w m (omega arith))

-- a first step and the first path behind it
not_above : (a : Automaton) (rules from to left r : ℕ) (s : FirstStep a rules from to left r) → (rest : List ℕ) → FirstPath a rules s.rule.to rest to
    → length rest ≡ left → Distance a rules from to (suc left) → (other : List ℕ) → Walk a from other to → AllByRecursion (IsBitSet rules) other
    → NoLater (r ∷ rest) other
not_above a rules from to left r s rest p size d [] w m = absurd (let most = d.fewest [] w m in omega arith)
not_above a rules from to left r s rest p size d (q ∷ qs) w m = elim (eqb_tells (length qs) left) [
  | inr ne ↦ inl (let most = d.fewest (q ∷ qs) w m in let differ = ne.1 in omega arith)
  | inl e ↦ (
      let step = step_of a rules from to left q qs d w m e.1 in
      let same : length (r ∷ rest) ≡ length (q ∷ qs) = (let f = e.1 in omega arith) in
      elim (cases_order q r) [
        | inl f ↦ inr (
          same,
          inr (
            sym f,
            rest_first
                (p.first qs (subst (λ (x : Rule). Walk a x.to qs to) (same_Some w.0 s.rule (sym w.1 ∙ ap (slice_get a.rules) f ∙ s.named)) w.3) m.1)
                (let g = e.1 in omega arith),
          ),
        )
        | inr (inl less) ↦ absurd (s.first q w.0 less w.1 step)
        | inr (inr more) ↦ inr (same, inl more)
      ])
] where
  rest_first : NoLater rest qs → length rest ≡ length qs → NotAbove rest qs
  rest_first (inl h) e = absurd (omega arith)
  rest_first (inr h) e = h.1

-- what a path goes on with
abbrev pub Ahead : Automaton → ℕ → ℕ → List ℕ → ℕ → ℕ → Type 0
Ahead a rules from path location to = (rest : List ℕ) → FirstPath a rules location rest to → FirstPath a rules from (path ++ rest) to

pub ahead_push : (a : Automaton) (rules from : ℕ) (path : List ℕ) (location to left r : ℕ) (s : FirstStep a rules location to left r)
    → Distance a rules location to (left + 1) → Ahead a rules from path location to → Ahead a rules from (path ++ r ∷ []) s.rule.to to
ahead_push a rules from path location to left r s d ahead rest p =
    let one : Distance a rules location to (suc left) = subst (Distance a rules location to) (let e : left + 1 ≡ suc left = omega arith in e) d in
    let size : length rest ≡ left = long_enough rest s.step.rest.path (p.first s.step.rest.path s.step.rest.walk s.step.rest.members) s.step.rest.long
    (s.step.rest.fewest rest p.walk p.members) in
    let here : FirstPath a rules location (r ∷ rest) to = record {
      walk = (s.rule, s.named, s.step.leaves, p.walk);
      members = (s.step.member, p.members);
      first = not_above a rules location to left r s rest p size one;
    } in
    subst (λ (xs : List ℕ). FirstPath a rules from xs to) (sym (append_assoc path (r ∷ []) rest)) (ahead (r ∷ rest) here) where
      long_enough : (rs qs : List ℕ) → NoLater rs qs → length qs ≡ left → left ≤ length rs → length rs ≡ left
      long_enough rs qs (inl h) e l = omega arith
      long_enough rs qs (inr h) e l = let same = h.0 in omega arith

pub ahead_none : (a : Automaton) (rules from to : ℕ) → Ahead a rules from [] from to
ahead_none a rules from to rest p = p

pub ahead_done : (a : Automaton) (rules from : ℕ) (path : List ℕ) (location to : ℕ) → Distance a rules location to 0 → Ahead a rules from path location to
    → FirstPath a rules from path to
ahead_done a rules from path location to d ahead =
    let here : FirstPath a rules location [] to = record {
      walk = no_path a location d.path to (omega (arith, d.long)) d.walk;
      members = tt;
      first = λ other w m. least other;
    } in
    subst (λ (xs : List ℕ). FirstPath a rules from xs to) (append-nil path) (ahead [] here) where
      least : (other : List ℕ) → NoLater [] other
      least [] = inr (refl, tt)
      least (q ∷ qs) = inl (omega arith)
