-- lists of words with which trees begin
use Rattle.ta_walk.proofs.Common.{map-append, take-append-drop, ◌≡◌, ℕ, ◌<◌, ◌≤◌, ◌^◌, List, [], ◌∷◌, ◌++◌, length, length-append, map, drop, take, slice_get}
use Rattle.ta_walk.proofs.Common.{Some, None, arith, refl, sym, ap, ◌∙◌, subst, AllByRecursion, each_push, next_dropped, none_dropped, in_at, Pending, Search}
use Rattle.ta_walk.proofs.Common.{RootIs, IsAtRoot, Within, left_at, Cursor, at_word, comes_first, ComesTo, HasFewBounds, HasFewLeft, root_node, append_assoc}
use Rattle.ta_walk.proofs.Common.{append-nil}
use Rattle.ta_walk.proofs.WordSoFar.{pending_is}

-- the search comes to a word with which it begins
pub root_comes : {E : Type 0} (s : Search E) (number : ℕ) (root : ℕ) → RootIs s number root → ComesTo s root
root_comes s number root is = comes_first s root [] (root_node root, in_at s.roots number (root_node root) is.is, refl, refl)

-- the cursor at the first node of its tree leaves that word alone
pub root_left : {E : Type 0} (s : Search E) (root : ℕ) (c : Cursor E) → ComesTo s root → IsAtRoot c (root_node root) → left_at s c ≡ root_node root ∷ []
root_left s root c comes is = sym (pending_is s c (root_node root ∷ []) (at_word s c (root_node root) is (record { comes = comes; bounds = tt })))

pub root_stands : {E : Type 0} (s : Search E) (root : ℕ) (c : Cursor E) (nodes : ℕ) → ComesTo s root → IsAtRoot c (root_node root) → nodes ≤ 1000000000
    → HasFewLeft s nodes c
root_stands s root c nodes comes is limit =
    let left = sym (root_left s root c comes is) in
    record {
      within = subst (Within s c) left (at_word s c (root_node root) is (record { comes = comes; bounds = tt }));
      most = 0;
      room = omega arith;
      few = subst (AllByRecursion (HasFewBounds 0)) left (omega arith, tt);
    }

-- the last start of a list of at most one is the only one
pub last_alone : (xs ys : List ℕ) (x : ℕ) → xs ≡ ys ++ x ∷ [] → length xs < 2 → xs ≡ x ∷ []
last_alone xs [] x all few = all
last_alone xs (y ∷ ys) x all few =
    let same = ap (λ (zs : List ℕ). length zs) all in
    let sum = length-append ys (x ∷ []) in
    absurd (omega arith)

-- the first so many words of a list
pub record Listed {E : Type 0} (s : Search E) (all : List (Pending E)) (roots : List ℕ) : Type 0 where
  pub words : map root_node roots ++ drop (length roots) all ≡ all
  pub come : AllByRecursion (ComesTo s) roots
  pub few : length roots ≤ 2 ^ 31

-- one more
pub listed_more : {E : Type 0} (s : Search E) (all : List (Pending E)) (roots : List ℕ) (root : ℕ) → Listed s all roots
    → slice_get all (length roots) ≡ Some (root_node root) → ComesTo s root → length roots < 2 ^ 31 → Listed s all (roots ++ root ∷ [])
listed_more s all roots root so at comes small =
    let n = length-append roots (root ∷ []) in
    let next = next_dropped all (length roots) (root_node root) at in
    record {
      words =
          ap (λ (ws : List (Pending _)). ws ++ drop (length (roots ++ root ∷ [])) all) (map-append root_node roots (root ∷ []))
          ∙ append_assoc (map root_node roots) (root_node root ∷ []) (drop (length (roots ++ root ∷ [])) all)
          ∙ ap (λ (k : ℕ). map root_node roots ++ (root_node root ∷ drop k all)) n
          ∙ ap (λ (ws : List (Pending _)). map root_node roots ++ ws) (sym next)
          ∙ so.words;
      come = each_push (ComesTo s) roots root so.come comes;
      few = omega arith;
    }

-- all of them
pub all_listed : {E : Type 0} (s : Search E) (all : List (Pending E)) (roots : List ℕ) → Listed s all roots → slice_get all (length roots) ≡ None
    → map root_node roots ≡ all
all_listed s all roots so none =
    sym (append-nil (map root_node roots)) ∙ ap (λ (ws : List (Pending _)). map root_node roots ++ ws) (sym (none_dropped all (length roots) none)) ∙ so.words

pub halves_listed : {E : Type 0} (k : ℕ) (xs ys zs : List ℕ) → ys ≡ take k xs → zs ≡ drop k xs → map (root_node {E = E}) ys
    ++ map (root_node {E = E}) zs ≡ map (root_node {E = E}) xs
halves_listed {E} k xs ys zs low high =
    ap (λ (us : List ℕ). map (root_node {E = E}) us ++ map (root_node {E = E}) zs) low
    ∙ ap (λ (us : List ℕ). map (root_node {E = E}) (take k xs) ++ map (root_node {E = E}) us) high
    ∙ sym (map-append (root_node {E = E}) (take k xs) (drop k xs))
    ∙ ap (map (root_node {E = E})) (take-append-drop k xs)
