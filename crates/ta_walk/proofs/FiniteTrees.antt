-- a tree of questions with two answers each is finite: so many nodes are spent only where one is split
use Rattle.ta_walk.proofs.Common.{root, mul-suc, suc-mul, each_append, Node, Answers, Comes, Pending, Search, answered, longer, parts, IsUnbounded, NodeAt}
use Rattle.ta_walk.proofs.Common.{SplitVertex, Visits, Fact, QuestionsMayBeAsked, IsCone, pending_of, moment_maker, most_questions}
use Rattle.ta_moments.proofs.Common.{◌≡◌, ◌⊎◌, inl, inr, ℕ, ℤ, zero, suc, ◌+◌, ◌-◌, ◌*◌, ◌<◌, ◌≤◌, ◌^◌, List, [], ◌∷◌, ◌++◌, map, length}
use Rattle.ta_moments.proofs.Common.{Option, arith, refl, sym, ap, subst, ◌∙◌, AllByRecursion, In, Automaton, Pattern, candidates, of_events}
use Rattle.std.proofs.Math.Nat.{pow-suc, zero-mul}
use Rattle.ta_base.proofs.Each.{all_both}
use Rattle.ta_walk.proofs.WordsVisited.{Waits, roots_wait}
use Rattle.ta_moment_tree.specs.Makers.{moments_of}
use Rattle.ta_walk.proofs.FewQuestions.{few_answers, few_questions}
use Rattle.ta_walk.proofs.NodesMade.{roots_unbounded}
use Rattle.ta_walk.proofs.NoneSplit.{none_split}
use Rattle.ta_walk.specs.Deciding.{BudgetsOfConesSuffice, most_nodes}
use Rattle.ta_cert.specs.declared.line.Node.TheVariants as node

-- the nodes of a full binary tree of a depth
abbrev full : ℕ → ℕ
full zero = 1
full (suc d) = (full d + full d) + 1

full_is : (d : ℕ) → full d + 1 ≡ 2 ^ (1 + d)
full_is zero = omega arith
full_is (suc d) =
    let next : 1 + suc d ≡ suc (1 + d) = omega arith in
    let power : 2 ^ (1 + suc d) ≡ 2 ^ (1 + d) * 2 = ap (λ (n : ℕ). 2 ^ n) next ∙ pow-suc 2 (1 + d) in
    omega (arith, power, full_is d)

full_some : (d : ℕ) → 1 ≤ full d
full_some zero = omega arith
full_some (suc d) = omega arith

-- the nodes of a tree below what is left to be refuted, if no more than so many questions are asked
abbrev size : ℕ → Pending Fact → ℕ
size depth w = full (depth - length w.past)

abbrev sizes : ℕ → List (Pending Fact) → ℕ
sizes depth [] = 0
sizes depth (w ∷ ws) = size depth w + sizes depth ws

sizes_append : (depth : ℕ) (vs ws : List (Pending Fact)) → sizes depth (vs ++ ws) ≡ sizes depth vs + sizes depth ws
sizes_append depth [] ws = omega arith
sizes_append depth (v ∷ vs) ws = omega (arith, sizes_append depth vs ws)

sizes_roots : (depth : ℕ) (cs : List (Option ℕ)) → sizes depth (map (λ c. pending_of (root c)) cs) ≡ length cs * full depth
sizes_roots depth [] = sym (zero-mul (full depth))
sizes_roots depth (c ∷ cs) =
    let own : size depth (pending_of (root c)) ≡ full depth = ap full (let whole : depth - 0 ≡ depth = omega arith in whole) in
    omega (arith, own, sizes_roots depth cs, suc-mul (length cs) (full depth))

module _ (a : Automaton) (p : Pattern) (cone : IsCone a p) where
  abbrev search : Search Fact
  search = moments_of a p of_events

  -- a node without bounds to which the search comes
  record IsPlain (w : Pending Fact) : Type 0 where
    pub comes : Comes search w.start w.past
    pub unbounded : IsUnbounded w

  record IsSplitAt (w : Pending Fact) : Type 0 where
    pub unknown : ℕ
    pub floor : ℤ
    pub split : SplitVertex search w unknown floor

  -- what a node leaves is a smaller tree
  record Leaves (w : Pending Fact) (n : Node) : Type 0 where
    pub plain : AllByRecursion IsPlain (parts search w n)
    pub smaller : sizes (most_questions a p) (parts search w n) < size (most_questions a p) w

  longer_plain : (w : Pending Fact) → IsPlain w → (es : List Fact) → ((e : Fact) → In e es → Answers search w.start w.past e)
      → AllByRecursion IsPlain (map (longer w) es)
  longer_plain w plain [] answers = tt
  longer_plain w plain (e ∷ es) answers =
      (record { comes = inr (answers e (inl refl), plain.comes); unbounded = plain.unbounded }, longer_plain w plain es (λ f i. answers f (inr i)))

  longer_size : (w : Pending Fact) (e : Fact) → IsPlain (longer w e) → size (most_questions a p) w ≡ full (suc (most_questions a p - suc (length w.past)))
  longer_size w e plain =
      let few : suc (length w.past) ≤ most_questions a p = few_questions a p cone.no_fall w.start (e ∷ w.past) plain.comes in
      let deep : most_questions a p - length w.past ≡ suc (most_questions a p - suc (length w.past)) = omega (arith, few) in
      ap full deep

  answers_smaller : (w : Pending Fact) (es : List Fact) → length es ≤ 2 → AllByRecursion IsPlain (map (longer w) es)
      → sizes (most_questions a p) (map (longer w) es) < size (most_questions a p) w
  answers_smaller w [] few plain = (let some = full_some (most_questions a p - length w.past) in omega (arith, some))
  answers_smaller w (e ∷ []) few plain = (let own = longer_size w e plain.0 in omega (arith, own))
  answers_smaller w (e ∷ f ∷ []) few plain = (let own = longer_size w e plain.0 in omega (arith, own))
  answers_smaller w (e ∷ f ∷ g ∷ es) few plain = absurd (omega (arith, few))

  asks : (w : Pending Fact) (n : Node) → IsPlain w → parts search w n ≡ map (longer w) (answered search w.start w.past n) → Leaves w n
  asks w n plain is =
      let es = answered search w.start w.past n in
      let each = longer_plain w plain es (λ e i. (n, i)) in
      let less = answers_smaller w es (few_answers a p cone.no_fall w.start w.past plain.comes n) each in
      record {
        plain = subst (AllByRecursion IsPlain) (sym is) each;
        smaller = subst (λ (ws : List (Pending Fact)). sizes (most_questions a p) ws < size (most_questions a p) w) (sym is) less;
      }

  node_leaves : (w : Pending Fact) (n : Node) → IsPlain w → NodeAt search w n → Leaves w n ⊎ IsSplitAt w
  node_leaves w (node.Leaf ts) plain at =
      let some = full_some (most_questions a p - length w.past) in
      inl (record { plain = tt; smaller = omega (arith, some) })
  node_leaves w (node.Split unknown floor) plain at = inr (record { unknown = unknown; floor = floor; split = at })
  node_leaves w (node.Guard g) plain at = inl (asks w (node.Guard g) plain refl)
  node_leaves w (node.Order x y) plain at = inl (asks w (node.Order x y) plain refl)
  node_leaves w (node.Stuck r) plain at = inl (asks w (node.Stuck r) plain refl)
  node_leaves w node.Extend plain at = inl (asks w node.Extend plain refl)

  -- the first node of a visit that is split
  record FirstSplit (ws : List (Pending Fact)) (ns : List Node) : Type 0 where
    pub nodes : List Node
    pub word : Pending Fact
    pub words : List (Pending Fact)
    pub visits : Visits search ws nodes (word ∷ words)
    pub before : length nodes < length ns
    pub plain : IsPlain word
    pub split : IsSplitAt word

  -- a visit without such a node leaves less of the trees with each node
  abbrev Shrinks : List (Pending Fact) → List Node → List (Pending Fact) → Type 0
  Shrinks ws ns rest = length ns + sizes (most_questions a p) rest ≤ sizes (most_questions a p) ws

  after : (w : Pending Fact) (ws : List (Pending Fact)) (n : Node) (ns : List Node) (rest : List (Pending Fact)) → NodeAt search w n → Leaves w n
      → Shrinks (parts search w n ++ ws) ns rest ⊎ FirstSplit (parts search w n ++ ws) ns → Shrinks (w ∷ ws) (n ∷ ns) rest ⊎ FirstSplit (w ∷ ws) (n ∷ ns)
  after w ws n ns rest at leaves (inl less) =
      let smaller = leaves.smaller in
      inl (omega (arith, less, smaller, sizes_append (most_questions a p) (parts search w n) ws))
  after w ws n ns rest at leaves (inr later) =
      let before = later.before in
      inr (record {
        nodes = n ∷ later.nodes;
        word = later.word;
        words = later.words;
        visits = (at, later.visits);
        before = omega (arith, before);
        plain = later.plain;
        split = later.split;
      })

  visit_shrinks : (ws : List (Pending Fact)) (ns : List Node) (rest : List (Pending Fact)) → AllByRecursion IsPlain ws → Visits search ws ns rest
      → Shrinks ws ns rest ⊎ FirstSplit ws ns
  visit_shrinks ws [] rest all v = inl (omega (arith, ap (sizes (most_questions a p)) v))
  visit_shrinks [] (n ∷ ns) rest all v = absurd v
  visit_shrinks (w ∷ ws) (n ∷ ns) rest all v = elim (node_leaves w n all.0 v.0) [
    | inl leaves ↦ (
        let plain = each_append IsPlain (parts search w n) ws leaves.plain all.1 in
        after w ws n ns rest v.0 leaves (visit_shrinks (parts search w n ++ ws) ns rest plain v.1))
    | inr split ↦ inr (record { nodes = []; word = w; words = ws; visits = refl; before = omega arith; plain = all.0; split = split })
  ]

  roots_plain : AllByRecursion IsPlain search.roots
  roots_plain =
      let unbounded = roots_unbounded a p of_events (moment_maker a p of_events) in
      all_both (Waits search 0) IsUnbounded IsPlain (λ w waits none. record { comes = waits.comes; unbounded = none }) search.roots
      (roots_wait search unbounded) unbounded

pub budgets_suffice : QuestionsMayBeAsked → BudgetsOfConesSuffice
budgets_suffice may a p cone budget count enough spent =
    let visited = spent.visited in
    let counted = visited.counted in
    let depth = most_questions a p in
    let search = moments_of a p of_events in
    elim (visit_shrinks a p cone search.roots visited.nodes (spent.word ∷ visited.words) (roots_plain a p cone) visited.visits) [
      | inl less ↦ absurd (
          let many : most_nodes a p ≡ (length (candidates p) * full depth) + length (candidates p) =
          ap (λ (n : ℕ). length (candidates p) * n) (sym (full_is depth) ∙ (let next : full depth + 1 ≡ suc (full depth) = omega arith in next))
          ∙ mul-suc (length (candidates p)) (full depth) in
          let roots = map (λ c. pending_of (root c)) (candidates p) in
          let fewer : length visited.nodes + (size depth spent.word + sizes depth visited.words) ≤ sizes depth roots = less in
          omega (arith, fewer, counted, enough, many, sizes_roots depth (candidates p), full_some (depth - length spent.word.past))
          )
      | inr first ↦ (
          let before = first.before in (
            length first.nodes + 1,
            record {
              before = length first.nodes;
              number_is = refl;
              within = omega (arith, before, counted);
              word = first.word;
              visited = record { nodes = first.nodes; words = first.words; visits = first.visits; counted = refl };
              holds = (
                first.plain.unbounded,
                none_split may a p cone first.word first.plain.comes first.plain.unbounded first.split.unknown first.split.floor first.split.split,
              );
            },
          ))
    ]
