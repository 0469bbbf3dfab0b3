-- the steps of the search for orders
use Rattle.ta_walk.proofs.Common.{◌≡◌, inl, inr, ℕ, suc, ◌+◌, ℤ, Bool, false, List, [], ◌∷◌, ◌++◌, length, map, refl, sym, ap, ◌∙◌, subst, arith, if◌then◌else◌}
use Rattle.ta_walk.proofs.Common.{nat_tests, map-append, AllByRecursion, each_push, pair_of, Order, Automaton, MayJoin, is_earlier, with_pair, FoundAfter}
use Rattle.ta_walk.proofs.Common.{FoundBefore, IsTaken, RefutedPair, ComesFirst, GuardTried, MasksAgree, PairTried}
use Rattle.ta_walk.specs.declared.finding.Sought.{Sought}

-- a pair that comes first stands in front
not_earlier : (before after : ℕ) (q : ℕ × ℕ) → ComesFirst before after q → is_earlier (before, after) q ≡ false
not_earlier before after q (inl h) = grind (arith, nat_tests)
not_earlier before after q (inr h) = let same = h.0 in let less = h.1 in grind (arith, nat_tests)

placed_on : (pair q : ℕ × ℕ) (qs : List (ℕ × ℕ)) → is_earlier pair q ≡ false → with_pair pair (q ∷ qs) ≡ q ∷ with_pair pair qs
placed_on pair q qs e = ap (λ (b : Bool). if b then pair ∷ q ∷ qs else q ∷ with_pair pair qs) e

-- a pair behind all others has its place at the end
pub placed_last : (before after : ℕ) (pairs : List (ℕ × ℕ)) → AllByRecursion (ComesFirst before after) pairs → with_pair (before, after) pairs ≡ pairs
    ++ (before, after) ∷ []
placed_last before after [] all = refl
placed_last before after (q ∷ qs) all =
    placed_on (before, after) q qs (not_earlier before after q all.0) ∙ ap (λ (ps : List (ℕ × ℕ)). q ∷ ps) (placed_last before after qs all.1)

-- what comes first comes before the next
pub first_next : (before after : ℕ) (pairs : List (ℕ × ℕ)) → AllByRecursion (ComesFirst before after) pairs
    → AllByRecursion (ComesFirst (before + 1) after) pairs
first_next before after [] all = tt
first_next before after (q ∷ qs) all = (move q all.0, first_next before after qs all.1)
  where
    move : (q : ℕ × ℕ) → ComesFirst before after q → ComesFirst (before + 1) after q
    move q (inl h) = inl h
    move q (inr h) = inr (h.0, (let less = h.1 in omega arith))

pub first_row : (before after : ℕ) (pairs : List (ℕ × ℕ)) → AllByRecursion (ComesFirst before after) pairs → AllByRecursion (ComesFirst 0 (after + 1)) pairs
first_row before after [] all = tt
first_row before after (q ∷ qs) all = (move q all.0, first_row before after qs all.1)
  where
    move : (q : ℕ × ℕ) → ComesFirst before after q → ComesFirst 0 (after + 1) q
    move q (inl h) = inl (omega arith)
    move q (inr h) = inl (let same = h.0 in omega arith)

-- with the pair behind them, all come before the next
pub first_push : (before after : ℕ) (os : List Order) (o : Order) → o.before ≡ before → o.after ≡ after
    → AllByRecursion (ComesFirst before after) (map pair_of os) → AllByRecursion (ComesFirst (before + 1) after) (map pair_of (os ++ o ∷ []))
first_push before after os o b e all =
    subst (AllByRecursion (ComesFirst (before + 1) after)) (sym (map-append pair_of os (o ∷ [])))
    (each_push (ComesFirst (before + 1) after) (map pair_of os) (pair_of o) (first_next before after (map pair_of os) all) (inr (e, omega arith)))

-- no order is taken
pub passes : (a : Automaton) (before after : ℕ) (s : Sought) → MasksAgree before after s → ((ts : List (ℕ × ℤ)) → IsTaken a s.list.items before after ts → ⊥)
    → PairTried a before after s s
passes a before after s kept none = record {
  tried = inr (record { none = none; same = refl });
  kept = record { same = kept.same; first = first_next before after (map pair_of s.list.items) kept.first };
}

-- an order is taken
pub takes_pair : (a : Automaton) (before after : ℕ) (s t : Sought) (ts : List (ℕ × ℤ)) → MasksAgree before after s → MayJoin a s.orders (before, after)
    → RefutedPair a before after ts → t.list.items ≡ s.list.items ++ record { before = before; after = after; multipliers = ts } ∷ []
    → t.orders ≡ with_pair (before, after) s.orders → PairTried a before after s t
takes_pair a before after s t ts kept may refuted whole joined =
    let items = s.list.items in
    let o : Order = record { before = before; after = after; multipliers = ts } in
    record {
      tried = inl (record {
        multipliers = ts;
        taken = record { may = subst (λ (ps : List (ℕ × ℕ)). MayJoin a ps (before, after)) kept.same may; refuted = refuted };
        whole = whole;
      });
      kept = record {
        same = joined
            ∙ ap (with_pair (before, after)) kept.same
            ∙ placed_last before after (map pair_of items) kept.first
            ∙ sym (map-append pair_of items (o ∷ []))
            ∙ ap (λ (os : List Order). map pair_of os) (sym whole);
        first = subst (λ (os : List Order). AllByRecursion (ComesFirst (before + 1) after) (map pair_of os)) (sym whole)
            (first_push before after items o refl refl kept.first);
      };
    }

-- all guards were tried before one
pub next_guard : (count after : ℕ) (s : Sought) → MasksAgree count after s → MasksAgree 0 (after + 1) s
next_guard count after s kept = record { same = kept.same; first = first_row count after (map pair_of s.list.items) kept.first }

-- one guard more was tried before one
pub tried_on : (a : Automaton) (before after : ℕ) (first old new : Sought) → GuardTried a before after first old → PairTried a before after old new
    → GuardTried a (before + 1) after first new
tried_on a before after first old new g t =
    let more : suc before ≡ before + 1 = omega arith in
    record {
      found = subst (λ (n : ℕ). FoundBefore a first.list.items after n new.list.items) more (old.list.items, g.found, t.tried);
      kept = t.kept;
    }

-- all guards were tried before one guard more
pub found_on : (a : Automaton) (after : ℕ) (next found : List Order) → FoundAfter a after next → FoundBefore a next after (length a.rise) found
    → FoundAfter a (after + 1) found
found_on a after next found f t =
    let more : suc after ≡ after + 1 = omega arith in
    subst (λ (n : ℕ). FoundAfter a n found) more (next, f, t)
