-- good pairs with one more, and in another order
use Rattle.ta_implied.proofs.Common.{◌≡◌, inl, inr, ℕ, ℤ, List, [], ◌∷◌, ◌++◌, Bool, true, false, cond, sym, subst, behind_distinct, each_from_in, each_in}
use Rattle.ta_implied.proofs.Common.{in_append, Automaton, In, ImplySystem, IsPair, IsImplied, Good, IsShown, JoinsPair, MayJoin, is_earlier, with_pair, System}
use Rattle.ta_base.specs.Lists.{Distinct}
use Rattle.ta_linear.specs.Leaf.{LeafOf}
use Rattle.ta_farkas.specs.Columns.{CheckStays}
use Rattle.ta_implied.proofs.Chains.{leads_along, still_no_circle}
use Rattle.ta_implied.proofs.Placing.{in_placed}

-- pairs that are good are so in any order
pub good_in_order : (a : Automaton) (xs ys : List (ℕ × ℕ)) → Good a xs → Distinct ys → ((q : ℕ × ℕ) → In q ys → In q xs) → Good a ys
good_in_order a xs ys good distinct among = record {
  pairs_are = each_from_in (IsPair a) ys (λ q i. each_in (IsPair a) xs q good.pairs_are (among q i));
  implied = each_from_in (IsImplied a) ys (λ q i. each_in (IsImplied a) xs q good.implied (among q i));
  distinct = distinct;
  acyclic = λ more guard l. good.acyclic more guard (leads_along ys xs among more guard guard l);
}

pub good_first : (a : Automaton) (pairs : List (ℕ × ℕ)) (pair : ℕ × ℕ) → Good a pairs → MayJoin a pairs pair → IsImplied a pair → Good a (pair ∷ pairs)
good_first a pairs pair good may implied = record {
  pairs_are = (may.is, good.pairs_are);
  implied = (implied, good.implied);
  distinct = (each_from_in (λ q. pair ≡ q → ⊥) pairs (λ q i e. may.fresh (subst (λ p. In p pairs) (sym e) i)), good.distinct);
  acyclic = still_no_circle pairs pair.0 pair.1 good.acyclic may.is.apart may.closes_none;
}

distinct_if : (pair other : ℕ × ℕ) (others : List (ℕ × ℕ)) (b : Bool) → Distinct (pair ∷ other ∷ others) → Distinct (with_pair pair others)
    → Distinct (cond b (pair ∷ other ∷ others) (other ∷ with_pair pair others))
distinct_if pair other others true h g = h
distinct_if pair other others false h g = (
  each_from_in (λ q. other ≡ q → ⊥) (with_pair pair others) (λ q i e. elim (in_placed pair others q i) [
    | inl first ↦ h.0.0 (sym (subst (λ p. other ≡ p) first e))
    | inr later ↦ each_in (λ p. other ≡ p → ⊥) others q h.1.0 later e
  ]),
  g,
)

placed_distinct : (pair : ℕ × ℕ) (pairs : List (ℕ × ℕ)) → Distinct (pair ∷ pairs) → Distinct (with_pair pair pairs)
placed_distinct pair [] h = h
placed_distinct pair (other ∷ others) h = distinct_if pair other others (is_earlier pair other) h (placed_distinct pair others (h.0.1, h.1.1))

pub good_placed : (a : Automaton) (pairs : List (ℕ × ℕ)) (pair : ℕ × ℕ) → Good a pairs → MayJoin a pairs pair → IsImplied a pair → Good a (with_pair pair pairs)
good_placed a pairs pair good may implied =
    let first = good_first a pairs pair good may implied in
    good_in_order a (pair ∷ pairs) (with_pair pair pairs) first (placed_distinct pair pairs first.distinct) (in_placed pair pairs)

pub good_behind : (a : Automaton) (pairs : List (ℕ × ℕ)) (pair : ℕ × ℕ) → Good a pairs → MayJoin a pairs pair → IsImplied a pair → Good a (pairs ++ pair ∷ [])
good_behind a pairs pair good may implied =
    good_in_order a (pair ∷ pairs) (pairs ++ pair ∷ []) (good_first a pairs pair good may implied) (behind_distinct pair pairs good.distinct may.fresh)
    (λ q i. elim (in_append q pairs (pair ∷ []) i) [ inl h ↦ inr h | inr (inl e) ↦ inl e | inr (inr h) ↦ absurd h ])

pub implied_by : (a : Automaton) (pair : ℕ × ℕ) (ts : List (ℕ × ℤ)) → IsShown a pair ts → IsImplied a pair
implied_by a pair ts shown = record { system = shown.system; is = shown.is; multipliers = ts; leaf = shown.leaf }

pub joined_good : (a : Automaton) (pair : ℕ × ℕ) (ts : List (ℕ × ℤ)) (old new : List (ℕ × ℕ)) → JoinsPair a pair ts old new → Good a old → Good a new
joined_good a pair ts old new joined good = subst (Good a) (sym joined.whole) (good_placed a old pair good joined.may (implied_by a pair ts joined.shown))

pub joined_by : (a : Automaton) (pair : ℕ × ℕ) (ts : List (ℕ × ℤ)) (old new : List (ℕ × ℕ)) (system : System) → MayJoin a old pair
    → ImplySystem a pair.0 pair.1 system → LeafOf system ts × CheckStays system ts → new ≡ with_pair pair old → JoinsPair a pair ts old new
joined_by a pair ts old new system may is leaf whole = record {
  may = may;
  shown = record { system = system; is = is; leaf = leaf.0; stays = leaf.1 };
  whole = whole;
}
