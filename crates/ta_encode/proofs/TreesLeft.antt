-- a place goes on within its tree, or to the next
use Rattle.ta_encode.proofs.Common.{Node}
use Rattle.ta_encode.proofs.CursorCommon.{◌≡◌, ℕ, ◌+◌, ◌^◌, ◌<◌, true, false, List, [], ◌∷◌, ◌++◌, drop, slice_get, Some, None, Ok, Err, IfOk, Result, Bool}
use Rattle.ta_encode.proofs.CursorCommon.{sym, ap, ◌∙◌, refl, subst, append_assoc, AllocError, next_dropped, none_dropped, Pending, Search, parts, Cursor}
use Rattle.ta_encode.proofs.CursorCommon.{node_at, GoesOn, Inside, IsAtRoot, WentOn, Within, here_at, AllWithin, AllGoOn, IsRoot}
use Rattle.ta_encode.specs.declared.cursor_place.Place.{Place}
use Rattle.ta_encode.proofs.Beginning.{begins_within}

-- the words behind the first
abbrev pub later_words : {E : Type 0} (s : Search E) (t : Place E) (pending : List (Pending E)) → AllWithin s t pending → List (Pending E)
later_words s t pending all = all.within.words ++ drop (t.root + 1) s.roots

-- the first word is the place's
pub here_is : {E : Type 0} (s : Search E) (t : Place E) (pending : List (Pending E)) (all : AllWithin s t pending)
    → pending ≡ here_at t ∷ later_words s t pending all
here_is {E} s t pending all = all.left ∙ ap (λ (ws : List (Pending E)). ws ++ drop (t.root + 1) s.roots) all.within.left

pub here_first : {E : Type 0} (s : Search E) (t : Place E) (pending : List (Pending E)) (all : AllWithin s t pending)
    → AllWithin s t (here_at t ∷ later_words s t pending all)
here_first {E} s t pending all = subst (AllWithin s t) (here_is s t pending all) all

-- the other words are those of its tree and those of the later trees
pub record AtHere {E : Type 0} (s : Search E) (t : Place E) (w : Pending E) (words : List (Pending E)) : Type 0 where
  pub rest : List (Pending E)
  pub first : w ≡ here_at t
  pub others : words ≡ rest ++ drop (t.root + 1) s.roots
  pub inside : Inside s t.cursor rest
  pub within : Within s t.cursor (here_at t ∷ rest)

pub at_here : {E : Type 0} (s : Search E) (t : Place E) (w : Pending E) (words : List (Pending E)) → AllWithin s t (w ∷ words) → AtHere s t w words
at_here s t w words all =
    let left = here_is s t (w ∷ words) all in
    record {
      rest = all.within.words;
      first = cc;
      others = cc;
      inside = all.within.inside;
      within = subst (Within s t.cursor) all.within.left all.within;
    }

-- the tree goes on
pub tree_goes_on : {E : Type 0} (s : Search E) (t : Place E) (ws all : List (Pending E)) → GoesOn s t.cursor ws (Ok true) → t.root < 2 ^ 31 → all ≡ ws
    ++ drop (t.root + 1) s.roots → AllGoOn s t all (Ok true)
tree_goes_on s t [] all goes small left = absurd (let e = goes in cc)
tree_goes_on s t (w ∷ ws) [] goes small left = absurd (cc)
tree_goes_on s t (w ∷ ws) (v ∷ vs) goes small left = (refl, record { words = w ∷ ws; within = goes.1; left = left; small = small })

-- the tree ends, and so the later trees are left
pub tree_ends : {E : Type 0} (s : Search E) (c : Cursor E) (t : Place E) (ws all later : List (Pending E)) (more : Bool) → GoesOn s c ws (Ok false) → all ≡ ws
    ++ later → AllGoOn s t later (Ok more) → AllGoOn s t all (Ok more)
tree_ends {E} s c t [] all later more goes left on = subst (λ (us : List (Pending E)). AllGoOn s t us (Ok more)) (sym left) on
tree_ends {E} s c t (w ∷ ws) all later more goes left on = absurd (let e = goes.0 in cc)

-- the next tree begins
pub root_comes : {E : Type 0} (s : Search E) (t : Place E) (number start : ℕ) → IsRoot s number (Some start) → IsAtRoot t.cursor (node_at start [] [])
    → t.root ≡ number → AllGoOn s t (drop number s.roots) (Ok true)
root_comes {E} s t number start is first same =
    let w = node_at start [] [] in
    let within = begins_within E s t.cursor number start is.is first in
    subst (λ (ws : List (Pending E)). AllGoOn s t ws (Ok true)) (sym (next_dropped s.roots number w is.is)) (
      refl,
      record {
        words = w ∷ [];
        within = within;
        left = ap (λ (k : ℕ). w ∷ drop (k + 1) s.roots) (sym same);
        small = subst (λ (k : ℕ). k < 2 ^ 31) (sym same) is.small;
      },
    )

-- none is left
pub root_none : {E : Type 0} (s : Search E) (t : Place E) (number : ℕ) → IsRoot s number None → AllGoOn s t (drop number s.roots) (Ok false)
root_none {E} s t number none = subst (λ (ws : List (Pending E)). AllGoOn s t ws (Ok false)) (sym (none_dropped s.roots number none)) refl

-- the first tree begins
pub first_begins : {E : Type 0} (s : Search E) (t : Place E) (start : ℕ) → IsRoot s 0 (Some start) → IsAtRoot t.cursor (node_at start [] []) → t.root ≡ 0
    → AllWithin s t s.roots
first_begins {E} s t start is first same = all_at s.roots (root_comes s t 0 start is first same)
  where
    all_at : (ws : List (Pending E)) → AllGoOn s t ws (Ok true) → AllWithin s t ws
    all_at [] goes = absurd (cc)
    all_at (w ∷ ws) goes = goes.1

pub none_begins : {E : Type 0} (roots : List (Pending E)) → slice_get roots 0 ≡ None → roots ≡ []
none_begins [] none = refl
none_begins (w ∷ ws) none = absurd (cc)

-- all that an inner node leaves comes before the words of the later trees
pub parts_first : {E : Type 0} (s : Search E) (t : Place E) (w : Pending E) (words : List (Pending E)) (n : Node) (at : AtHere s t w words) → parts s w n
    ++ words ≡ (parts s (here_at t) n ++ at.rest) ++ drop (t.root + 1) s.roots
parts_first {E} s t w words n at =
    ap (λ (v : Pending E). parts s v n ++ words) at.first
    ∙ ap (λ (ws : List (Pending E)). parts s (here_at t) n ++ ws) at.others
    ∙ sym (append_assoc (parts s (here_at t) n) at.rest (drop (t.root + 1) s.roots))

-- the sides of a split come before the words of the later trees
pub sides_come : {E : Type 0} (s : Search E) (old new : Place E) (w : Pending E) (words : List (Pending E)) (n : Node) (at : AtHere s old w words)
    → Within s new.cursor (parts s (here_at old) n ++ at.rest) → new.root ≡ old.root → old.root < 2 ^ 31 → AllWithin s new (parts s w n ++ words)
sides_come s old new w words n at within same small = record {
  words = parts s (here_at old) n ++ at.rest;
  within = within;
  left =
      parts_first s old w words n at
      ∙ ap (λ (k : ℕ). (parts s (here_at old) n ++ at.rest) ++ drop (k + 1) s.roots) (sym same);
  small = subst (λ (k : ℕ). k < 2 ^ 31) (sym same) small;
}

-- a place that went on to the sides of a split
pub sides_left : {E : Type 0} (s : Search E) (old new : Place E) (w : Pending E) (words : List (Pending E)) (n : Node) (r : Result (Unit {0}) AllocError)
    (at : AtHere s old w words) → WentOn s new.cursor (parts s (here_at old) n ++ at.rest) r → new.root ≡ old.root → old.root < 2 ^ 31
    → IfOk r (λ done. AllWithin s new (parts s w n ++ words))
sides_left s old new w words n (Ok done) at went same small = sides_come s old new w words n at went same small
sides_left s old new w words n (Err e) at went same small = tt
