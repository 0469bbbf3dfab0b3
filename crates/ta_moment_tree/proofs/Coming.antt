-- to what the search of moments comes
use Rattle.ta_moment_tree.proofs.Common.{◌≡◌, ◌∙◌, inl, inr, ℕ, ◌<◌, List, [], ◌∷◌, ◌++◌, reverse, take, drop, Option, arith, sym, ap, subst, In, in_map}
use Rattle.ta_moment_tree.proofs.Common.{Automaton, Pattern, SystemAt, IsSmall, System, Comes, Pending, bounded_rows, Fact, candidates, Asking, root, Maker}
use Rattle.ta_moment_tree.proofs.Common.{candidate_of, moment_search, pending_of}
use Rattle.ta_automaton.specs.Patterns.{PatternOver}
use Rattle.ta_encode.proofs.CodeRows.{rows_count}
use Rattle.ta_encode.specs.Search.{BeginsAtWord}
use Rattle.ta_moments.specs.Moments.{known}
use Rattle.ta_moment_tree.proofs.ComingFacts.{none_begins, search_small}
use Rattle.ta_moment_tree.proofs.Systems.{back}
use Rattle.ta_moment_tree.proofs.Reversed.{reverse_parts}

module _ (a : Automaton) (p : Pattern) (asking : Asking) (maker : Maker) where
  -- to what it comes, it comes by what is above
  pub comes_above : (start : ℕ) (newer past : List Fact) → Comes (moment_search a p asking maker) start (newer ++ past)
      → Comes (moment_search a p asking maker) start past
  comes_above start [] past h = h
  comes_above start (e ∷ newer) past (inl h) = absurd (none_begins a p asking maker h.0 e (newer ++ past) h.1 h.3)
  comes_above start (e ∷ newer) past (inr h) = comes_above start newer past h.1

  pub comes_first : (start : ℕ) (facts : List Fact) (i : ℕ) → Comes (moment_search a p asking maker) start (reverse facts)
      → Comes (moment_search a p asking maker) start (reverse (take i facts))
  comes_first start facts i h = comes_above start (reverse (drop i facts)) (reverse (take i facts))
      (subst (λ (past : List Fact). Comes (moment_search a p asking maker) start past) (reverse_parts facts i) h)

  -- each start is a candidate's
  listed_begin : (start : ℕ) (past : List Fact) → BeginsAtWord (moment_search a p asking maker) start past → In (candidate_of start) (candidates p)
  listed_begin start past h =
      let from = in_map (λ c. pending_of (root c)) h.0 (candidates p) h.1 in
      let is : candidate_of start ≡ from.0 = ap candidate_of (sym h.2) ∙ ap (λ (w : Pending Fact). candidate_of w.start) from.2 ∙ back from.0 in
      subst (λ (c : Option ℕ). In c (candidates p)) (sym is) from.1

  pub comes_listed : (start : ℕ) (past : List Fact) → Comes (moment_search a p asking maker) start past → In (candidate_of start) (candidates p)
  comes_listed start [] h = listed_begin start [] h
  comes_listed start (e ∷ past) (inl h) = listed_begin start (e ∷ past) h
  comes_listed start (e ∷ past) (inr h) = comes_listed start past h.1

  -- and has few unknowns
  pub comes_few : PatternOver a p → (start : ℕ) (past : List Fact) → Comes (moment_search a p asking maker) start past
      → (known a p asking.silent (candidate_of start) past).unknowns < 40000000
  comes_few over start past h =
      let w : Pending Fact = record { start = start; past = past; bounds = [] } in
      let small = search_small a p over asking maker w h in
      omega (arith, small)

  -- a system of it is small
  pub comes_small : PatternOver a p → (w : Pending Fact) (system : System) → Comes (moment_search a p asking maker) w.start w.past
      → SystemAt (moment_search a p asking maker) w system → IsSmall w.bounds system
  comes_small over w system h at =
      let small = search_small a p over asking maker w h in
      let unknowns = at.unknowns in
      omega (arith, small, unknowns, rows_count (bounded_rows (moment_search a p asking maker) w) system.rows at.rows)
