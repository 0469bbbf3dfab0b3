-- a cursor whose open nodes are left one by one, until one has a child that is still to come
use Rattle.ta_encode.proofs.CursorCommon.{◌≡◌, List, [], ◌∷◌, ◌++◌, length, take, reverse, sym, ap, ◌∙◌, subst, Bound, Pending, Search, Cursor, here}
use Rattle.ta_encode.proofs.CursorCommon.{all_behind, FramesFit, Inside, Within}
use Rattle.ta_encode.proofs.FramesKept.{BeginAlike, frames_kept, left_kept}

-- two cursors at the same word, with the same nodes open
pub record SamePlace {E : Type 0} (c d : Cursor E) : Type 0 where
  pub start : d.start ≡ c.start
  pub word : d.facts.items ≡ c.facts.items
  pub bounds : d.bounds.items ≡ c.bounds.items
  pub frames : d.frames.items ≡ c.frames.items

same_here : {E : Type 0} (c d : Cursor E) → SamePlace c d → here d ≡ here c
same_here c d same = let start = same.start in let word = same.word in let bounds = same.bounds in cc

pub inside_moved : {E : Type 0} (s : Search E) (c d : Cursor E) (words : List (Pending E)) → Inside s c words → SamePlace c d → Inside s d words
inside_moved {E} s c d words inside same =
    let n = length c.facts.items in
    let m = length c.bounds.items in
    let fs = reverse c.frames.items in
    let alike : BeginAlike c d n m = record { start = same.start; word = ap (take n) same.word; bounds = ap (take m) same.bounds } in
    let fit = subst (λ (v : Pending E). FramesFit s d v n m fs) (sym (same_here c d same)) (frames_kept s c d (here c) n m fs alike inside.frames) in
    let all : fs ≡ reverse d.frames.items = ap reverse (sym same.frames) in
    record {
      frames =
          subst (FramesFit s d (here d) (length d.facts.items) (length d.bounds.items)) all
          (subst (λ (xs : List E). FramesFit s d (here d) (length xs) (length d.bounds.items) fs) (sym same.word)
          (subst (λ (bs : List Bound). FramesFit s d (here d) n (length bs) fs) (sym same.bounds) fit));
      left = inside.left ∙ sym (left_kept s c d (here c) n m fs alike inside.frames) ∙ ap (all_behind s d) all;
    }

-- the cursor left open nodes behind which nothing comes
abbrev pub Leaving : {E : Type 0} → Search E → Cursor E → Cursor E → Type 0
Leaving {E} s old now = (words : List (Pending E)) → Inside s old words → Inside s now words

-- nothing comes behind the child of the node, so the nodes around it are left with all that there is
pub passed_over : {E : Type 0} (s : Search E) (between new : Cursor E) (words front rest : List (Pending E)) → words ≡ front ++ rest → front ≡ []
    → new ≡ between → Within s between (here between ∷ rest) → Inside s new words
passed_over {E} s between new words front rest all none same within =
    let left : rest ≡ within.words = (let e = within.left in cc) in
    let whole : words ≡ within.words = all ∙ ap (λ (ws : List (Pending E)). ws ++ rest) none ∙ left in
    subst (λ (c : Cursor E). Inside s c words) (sym same) (subst (Inside s between) (sym whole) within.inside)
