-- what is known of a search while vectors are tried, and at its end
use Rattle.ta_search.proofs.Common.{◌≡◌, ◌∙◌, inl, inr, ℕ, ◌+◌, ◌<◌, Bool, true, false, List, [], ◌∷◌, ◌++◌, drop, refl, sym, ap, subst, append_assoc}
use Rattle.ta_search.proofs.Common.{append-nil, Tried, Template, vector_count, vector_at, AreTried, IsTried, is_found, vectors, Terms}
use Rattle.ta_search.proofs.VectorsNumbered.{none_left, vectors_left}

-- the vectors before a number were tried, and none was found: whatever comes of the others, comes behind them
pub record Searched (t : Template) (terms : Terms) (place : ℕ) (tried : List Tried) : Type 0 where
  pub more : (later : List Tried) (found : Bool) → AreTried t terms (drop place (vectors t.holes)) later found
      → AreTried t terms (vectors t.holes) (tried ++ later) found

pub none_tried : (t : Template) (terms : Terms) (tried : List Tried) → tried ≡ [] → Searched t terms 0 tried
none_tried t terms tried none = subst (Searched t terms 0) (sym none) (record { more = λ later found h. h })

-- a vector that was tried behind those
pub record TriesOne (t : Template) (terms : Terms) (place : ℕ) (before after : List Tried) (x : Tried) : Type 0 where
  pub below : place < vector_count t.holes
  pub searched : Searched t terms place before
  pub is : IsTried t terms (vector_at t.holes place) x
  pub pushed : after ≡ before ++ x ∷ []

pub other_tried :
    (t : Template) (terms : Terms) (place : ℕ) (before after : List Tried) (x : Tried) → TriesOne t terms place before after x
    → is_found x.outcome ≡ false → Searched t terms (place + 1) after
other_tried t terms place before after x one other =
    let vs = vectors t.holes in
    let so_far = one.searched in
    record {
      more = λ later found h.
          let next : AreTried t terms (vector_at t.holes place ∷ drop (place + 1) vs) (x ∷ later) found = (one.is, inr (other, h)) in
          let left = subst (λ (ws : List (List ℕ)). AreTried t terms ws (x ∷ later) found) (sym (vectors_left t.holes place one.below)) next in
          let same : after ++ later ≡ before ++ x ∷ later = ap (λ (xs : List Tried). xs ++ later) one.pushed ∙ append_assoc before (x ∷ []) later in
          subst (λ (xs : List Tried). AreTried t terms vs xs found) (sym same) (so_far.more (x ∷ later) found left);
    }

pub found_end :
    (t : Template) (terms : Terms) (place : ℕ) (before after : List Tried) (x : Tried) (found : Bool) → TriesOne t terms place before after x
    → is_found x.outcome ≡ true → found ≡ true → AreTried t terms (vectors t.holes) after found
found_end t terms place before after x found one safe has =
    let vs = vectors t.holes in
    let so_far = one.searched in
    let next : AreTried t terms (vector_at t.holes place ∷ drop (place + 1) vs) (x ∷ []) found =
    (one.is, inl (record { safe = safe; last = refl; has_found = has })) in
    subst (λ (xs : List Tried). AreTried t terms vs xs found) (sym one.pushed)
    (so_far.more (x ∷ []) found (subst (λ (ws : List (List ℕ)). AreTried t terms ws (x ∷ []) found) (sym (vectors_left t.holes place one.below)) next))

pub other_end :
    (t : Template) (terms : Terms) (place : ℕ) (tried : List Tried) → place ≡ vector_count t.holes → Searched t terms place tried
    → AreTried t terms (vectors t.holes) tried false
other_end t terms place tried all searched =
    let vs = vectors t.holes in
    let none : drop place vs ≡ [] = ap (λ n. drop n vs) all ∙ none_left t.holes in
    subst (λ (xs : List Tried). AreTried t terms vs xs false) (append-nil tried)
    (searched.more [] false (subst (λ (ws : List (List ℕ)). AreTried t terms ws [] false) (sym none) refl))
