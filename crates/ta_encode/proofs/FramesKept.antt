-- what open nodes leave depends on the beginnings of the word and of the bounds alone
use Rattle.ta_encode.proofs.CursorCommon.{◌≡◌, ℕ, ◌+◌, ◌≤◌, List, [], ◌∷◌, ◌++◌, length, take, drop, reverse, slice_get, Some, arith, sym, ap, ◌∙◌, refl, subst}
use Rattle.ta_encode.proofs.CursorCommon.{length-take-le, reverse-append, all_taken, fewer_alike, longer_by, next_dropped, take_begins, Bound, Pending, Search}
use Rattle.ta_encode.proofs.CursorCommon.{parts, Frame, Cursor, here, open_node, node_of, behind, all_behind, IsWord, SplitFits, FrameFits, FramesFit, Inside}
use Rattle.ta_encode.proofs.CursorCommon.{Within, take-take}

-- cursors under the same start set, with this many elements and bounds alike
pub record BeginAlike {E : Type 0} (c d : Cursor E) (n m : ℕ) : Type 0 where
  pub start : d.start ≡ c.start
  pub word : take n d.facts.items ≡ take n c.facts.items
  pub bounds : take m d.bounds.items ≡ take m c.bounds.items

alike_before : {E : Type 0} (c d : Cursor E) (n m k l : ℕ) → BeginAlike c d n m → k ≤ n → l ≤ m → BeginAlike c d k l
alike_before c d n m k l h le less = record {
  start = h.start;
  word = fewer_alike k n d.facts.items c.facts.items le h.word;
  bounds = fewer_alike l m d.bounds.items c.bounds.items less h.bounds;
}

pub same_pending : {E : Type 0} (a b : ℕ) (past before : List E) (xs ys : List Bound) → a ≡ b → past ≡ before → xs ≡ ys
    → ◌≡◌ {A = Pending E} (record { start = a; past = past; bounds = xs }) (record { start = b; past = before; bounds = ys })
same_pending a b past before xs ys e f g = cc

word_kept : {E : Type 0} (c d : Cursor E) (f : Frame) → BeginAlike c d f.length f.bounds → open_node d f ≡ open_node c f
word_kept c d f h = same_pending d.start c.start (reverse (take f.length d.facts.items)) (reverse (take f.length c.facts.items)) (take f.bounds d.bounds.items)
    (take f.bounds c.bounds.items) h.start (ap reverse h.word) h.bounds

pub frames_kept : {E : Type 0} (s : Search E) (c d : Cursor E) (w : Pending E) (n m : ℕ) (fs : List Frame) → BeginAlike c d n m → FramesFit s c w n m fs
    → FramesFit s d w n m fs
frames_kept {E} s c d w n m [] h fit = fit
frames_kept {E} s c d w n m (f ∷ fs) h fit =
    let alike = alike_before c d n m f.length f.bounds h fit.0 fit.1 in
    let same = sym (word_kept c d f alike) in (
      fit.0,
      fit.1,
      subst (λ (v : Pending E). FrameFits s v f) same fit.2,
      subst (λ (v : Pending E). slice_get (parts s v (node_of f.inner)) f.next ≡ Some w) same fit.3,
      subst (λ (v : Pending E). FramesFit s d v f.length f.bounds fs) same (frames_kept s c d (open_node c f) f.length f.bounds fs alike fit.4),
    )

pub left_kept : {E : Type 0} (s : Search E) (c d : Cursor E) (w : Pending E) (n m : ℕ) (fs : List Frame) → BeginAlike c d n m → FramesFit s c w n m fs
    → all_behind s d fs ≡ all_behind s c fs
left_kept {E} s c d w n m [] h fit = refl
left_kept {E} s c d w n m (f ∷ fs) h fit =
    let alike = alike_before c d n m f.length f.bounds h fit.0 fit.1 in
    ap (λ (w : Pending E). drop (f.next + 1) (parts s w (node_of f.inner)) ++ all_behind s d fs) (word_kept c d f alike)
    ∙ ap (λ (ws : List (Pending E)). behind s c f ++ ws) (left_kept s c d (open_node c f) f.length f.bounds fs alike fit.4)

-- a cursor at which a node was opened, and whose word and bounds are the node's and more
pub record Opened {E : Type 0} (old new : Cursor E) (f : Frame) : Type 0 where
  pub start : new.start ≡ old.start
  pub frames : new.frames.items ≡ old.frames.items ++ f ∷ []
  pub elements : f.length ≡ length old.facts.items
  pub marks : f.bounds ≡ length old.bounds.items
  pub more_word : List E
  pub word : new.facts.items ≡ old.facts.items ++ more_word
  pub more_bounds : List Bound
  pub bounds : new.bounds.items ≡ old.bounds.items ++ more_bounds

alike_opened : {E : Type 0} (old new : Cursor E) (f : Frame) → Opened old new f → BeginAlike old new f.length f.bounds
alike_opened old new f o = record {
  start = o.start;
  word = take_begins f.length old.facts.items new.facts.items o.more_word o.elements o.word;
  bounds = take_begins f.bounds old.bounds.items new.bounds.items o.more_bounds o.marks o.bounds;
}

opened_word : {E : Type 0} (old new : Cursor E) (f : Frame) → Opened old new f → open_node new f ≡ here old
opened_word old new f o =
    word_kept old new f (alike_opened old new f o)
    ∙ same_pending old.start old.start (reverse (take f.length old.facts.items)) (reverse old.facts.items) (take f.bounds old.bounds.items) old.bounds.items
    refl (ap reverse (all_taken f.length old.facts.items o.elements)) (all_taken f.bounds old.bounds.items o.marks)

-- behind an open node comes the part of it that the cursor is at, and then the parts behind that
pub opened_on : {E : Type 0} (s : Search E) (old new : Cursor E) (w : Pending E) (words : List (Pending E)) (f : Frame)
    → Within s old (w ∷ words) → Opened old new f
    → SplitFits (s.unknowns old.start (reverse old.facts.items)) f.inner
    → IsWord s (here new)
    → slice_get (parts s w (node_of f.inner)) f.next ≡ Some (here new)
    → Within s new (drop f.next (parts s w (node_of f.inner)) ++ words)
opened_on {E} s old new w words f within o split word part =
    let fs = reverse old.frames.items in
    let alike = alike_opened old new f o in
    let at : w ≡ here old = (let e = within.left in cc) in
    let same : words ≡ within.words = (let e = within.left in cc) in
    let is = opened_word old new f o in
    let all : reverse new.frames.items ≡ f ∷ fs = ap reverse o.frames ∙ reverse-append old.frames.items (f ∷ []) in
    let outer : FramesFit s old (here old) f.length f.bounds fs = subst (λ (n : ℕ). FramesFit s old (here old) n f.bounds fs) (sym o.elements)
    (subst (λ (m : ℕ). FramesFit s old (here old) (length old.facts.items) m fs) (sym o.marks) within.inside.frames) in
    let chain = subst (λ (v : Pending E). slice_get (parts s v (node_of f.inner)) f.next ≡ Some (here new)) (at ∙ sym is) part in
    let around = subst (λ (v : Pending E). FramesFit s new v f.length f.bounds fs) (sym is) (frames_kept s old new (here old) f.length f.bounds fs alike outer)
    in
    let whole : FrameFits s (here old) f = record { word = within.word; split = split } in
    let fit : FramesFit s new (here new) (length new.facts.items) (length new.bounds.items) (f ∷ fs) = (
      longer_by f.length old.facts.items new.facts.items o.more_word o.elements o.word,
      longer_by f.bounds old.bounds.items new.bounds.items o.more_bounds
          o.marks o.bounds,
      subst (λ (v : Pending E). FrameFits s v f) (sym is) whole,
      chain,
      around,
    ) in
    let rest = drop (f.next + 1) (parts s w (node_of f.inner)) ++ words in
    let left : rest ≡ all_behind s new (f ∷ fs) =
    ap (λ (v : Pending E). drop (f.next + 1) (parts s v (node_of f.inner)) ++ words) (at ∙ sym is)
    ∙ ap (λ (ws : List (Pending E)). behind s new f ++ ws) (same ∙ within.inside.left ∙ sym (left_kept s old new (here old) f.length f.bounds fs alike outer))
    in
    let dropped = ap (λ (ws : List (Pending E)). ws ++ words) (next_dropped (parts s w (node_of f.inner)) f.next (here new) part) in
    subst (Within s new) (sym dropped) (record {
      words = rest;
      inside = record {
        frames = subst (FramesFit s new (here new) (length new.facts.items) (length new.bounds.items)) (sym all) fit;
        left = left ∙ ap (all_behind s new) (sym all);
      };
      word = word;
      left = refl;
    })

-- a cursor that goes back to the word of its innermost open node
pub record Popped {E : Type 0} (old new : Cursor E) (f : Frame) : Type 0 where
  pub start : new.start ≡ old.start
  pub frames : old.frames.items ≡ new.frames.items ++ f ∷ []
  pub word : new.facts.items ≡ take f.length old.facts.items
  pub bounds : new.bounds.items ≡ take f.bounds old.bounds.items

popped_frames : {E : Type 0} (s : Search E) (old new : Cursor E) (words : List (Pending E)) (f : Frame) → Inside s old words → Popped old new f
    → FramesFit s old (here old) (length old.facts.items) (length old.bounds.items) (f ∷ reverse new.frames.items)
popped_frames {E} s old new words f inside o = subst (FramesFit s old (here old) (length old.facts.items) (length old.bounds.items))
    (ap reverse o.frames ∙ reverse-append new.frames.items (f ∷ [])) inside.frames

-- the words behind the child of an open node are those of the node, and then those of the nodes around it
pub record Reopened {E : Type 0} (s : Search E) (new : Cursor E) (words : List (Pending E)) (f : Frame) : Type 0 where
  pub rest : List (Pending E)
  pub left : words ≡ drop (f.next + 1) (parts s (here new) (node_of f.inner)) ++ rest
  pub within : Within s new (here new ∷ rest)
  pub split : SplitFits (s.unknowns new.start (reverse new.facts.items)) f.inner

popped_word : {E : Type 0} (old new : Cursor E) (f : Frame) → Popped old new f → here new ≡ open_node old f
popped_word old new f o = same_pending new.start old.start (reverse new.facts.items) (reverse (take f.length old.facts.items)) new.bounds.items
    (take f.bounds old.bounds.items) o.start (ap reverse o.word) o.bounds

alike_popped : {E : Type 0} (old new : Cursor E) (f : Frame) → Popped old new f → BeginAlike old new f.length f.bounds
alike_popped old new f o = record {
  start = o.start;
  word = ap (take f.length) o.word ∙ take-take f.length f.length old.facts.items (omega arith);
  bounds = ap (take f.bounds) o.bounds ∙ take-take f.bounds f.bounds old.bounds.items (omega arith);
}

pub reopened : {E : Type 0} (s : Search E) (old new : Cursor E) (words : List (Pending E)) (f : Frame) → Inside s old words → Popped old new f
    → Reopened s new words f
reopened {E} s old new words f inside o =
    let fs = reverse new.frames.items in
    let fit = popped_frames s old new words f inside o in
    let alike = alike_popped old new f o in
    let is = popped_word old new f o in
    let whole : FrameFits s (here new) f = subst (λ (v : Pending E). FrameFits s v f) (sym is) fit.2 in
    let elements : length new.facts.items ≡ f.length = ap length o.word ∙ length-take-le f.length old.facts.items fit.0 in
    let marks : length new.bounds.items ≡ f.bounds = ap length o.bounds ∙ length-take-le f.bounds old.bounds.items fit.1 in
    let outer = subst (λ (v : Pending E). FramesFit s new v f.length f.bounds fs) (sym is)
    (frames_kept s old new (open_node old f) f.length f.bounds fs alike fit.4) in
    let all : reverse old.frames.items ≡ f ∷ fs = ap reverse o.frames ∙ reverse-append new.frames.items (f ∷ []) in
    record {
      rest = all_behind s new fs;
      left =
          inside.left ∙ ap (all_behind s old) all
          ∙ ap (λ (v : Pending E). drop (f.next + 1) (parts s v (node_of f.inner)) ++ all_behind s old fs) (sym is)
          ∙ ap (λ (ws : List (Pending E)). drop (f.next + 1) (parts s (here new) (node_of f.inner)) ++ ws)
          (sym (left_kept s old new (open_node old f) f.length f.bounds fs alike fit.4));
      within = record {
        words = all_behind s new fs;
        inside = record {
          frames = subst (λ (n : ℕ). FramesFit s new (here new) n (length new.bounds.items) fs) (sym elements)
              (subst (λ (m : ℕ). FramesFit s new (here new) f.length m fs) (sym marks) outer);
          left = refl;
        };
        word = whole.word;
        left = refl;
      };
      split = whole.split;
    }
