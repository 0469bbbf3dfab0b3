-- open nodes of which the outermost go to another cursor
use Rattle.ta_encode.proofs.CursorCommon.{◌≡◌, ℕ, ◌+◌, ◌≤◌, List, [], ◌∷◌, ◌++◌, length, take, drop, reverse, slice_get, Some, arith, sym, ap, ◌∙◌, refl, subst}
use Rattle.ta_encode.proofs.CursorCommon.{append_assoc, length-take-le, Pending, Search, Frame, Cursor, here, open_node, behind, all_behind, left_at, FramesFit}
use Rattle.ta_encode.proofs.CursorCommon.{Inside, IsBeforeWords, IsShared, IsUnshared, IsWord, Within, GoesOn, Ok, true, false, take-take, take_all}
use Rattle.ta_encode.proofs.CursorCommon.{None, Option, none_dropped}
use Rattle.std.proofs.Common.{length-drop}
use Rattle.std.specs.Prelude.{MatchOption}
use Rattle.ta_encode.proofs.FramesLeft.{SamePlace, inside_moved}
use Rattle.ta_encode.proofs.FramesKept.{BeginAlike, frames_kept, left_kept, same_pending}
use Rattle.ta_base.proofs.Lists.{reversed_parts, reversed_at}

-- the nodes around one that is open
pub record Around {E : Type 0} (s : Search E) (c : Cursor E) (n m : ℕ) (g : Frame) (outers : List Frame) : Type 0 where
  pub length : g.length ≤ n
  pub bounds : g.bounds ≤ m
  pub frames : FramesFit s c (open_node c g) g.length g.bounds outers

around : {E : Type 0} (s : Search E) (c : Cursor E) (w : Pending E) (n m : ℕ) (inner : List Frame) (g : Frame) (outers : List Frame)
    → FramesFit s c w n m (inner ++ g ∷ outers) → Around s c n m g outers
around s c w n m [] g outers fit = record { length = fit.0; bounds = fit.1; frames = fit.4 }
around s c w n m (f ∷ inner) g outers fit =
    let rest = around s c (open_node c f) f.length f.bounds inner g outers fit.4 in
    let few = fit.0 in
    let low = fit.1 in
    let more = rest.length in
    let lower = rest.bounds in
    record { length = omega arith; bounds = omega arith; frames = rest.frames }

front_fits : {E : Type 0} (s : Search E) (c : Cursor E) (w : Pending E) (n m : ℕ) (inner outers : List Frame) → FramesFit s c w n m (inner ++ outers)
    → FramesFit s c w n m inner
front_fits s c w n m [] outers fit = tt
front_fits s c w n m (f ∷ inner) outers fit = (fit.0, fit.1, fit.2, fit.3, front_fits s c (open_node c f) f.length f.bounds inner outers fit.4)

behind_both : {E : Type 0} (s : Search E) (c : Cursor E) (inner outers : List Frame) → all_behind s c (inner ++ outers) ≡ all_behind s c inner
    ++ all_behind s c outers
behind_both {E} s c [] outers = refl
behind_both {E} s c (f ∷ inner) outers =
    ap (λ (ws : List (Pending E)). behind s c f ++ ws) (behind_both s c inner outers)
    ∙ sym (append_assoc (behind s c f) (all_behind s c inner) (all_behind s c outers))

-- a cursor that stands at a beginning of the facts and of the bounds, with so many of the outermost nodes open
pub record StandsAt {E : Type 0} (c d : Cursor E) (k n m : ℕ) : Type 0 where
  pub start : d.start ≡ c.start
  pub word : d.facts.items ≡ take n c.facts.items
  pub bounds : d.bounds.items ≡ take m c.bounds.items
  pub frames : d.frames.items ≡ take k c.frames.items

-- where an open node does, with the nodes around that one open
stands_inside : {E : Type 0} (s : Search E) (c d : Cursor E) (k : ℕ) (g : Frame) (words : List (Pending E)) → Inside s c words
    → slice_get c.frames.items k ≡ Some g → StandsAt c d k g.length g.bounds → Inside s d (all_behind s c (reverse (take k c.frames.items)))
stands_inside {E} s c d k g words inside at o =
    let fs = reverse (take k c.frames.items) in
    let fit = subst (FramesFit s c (here c) (length c.facts.items) (length c.bounds.items)) (reversed_at k c.frames.items g at) inside.frames in
    let a = around s c (here c) (length c.facts.items) (length c.bounds.items) (reverse (drop (k + 1) c.frames.items)) g fs fit in
    let alike : BeginAlike c d g.length g.bounds = record {
      start = o.start;
      word = ap (take g.length) o.word ∙ take-take g.length g.length c.facts.items (omega arith);
      bounds = ap (take g.bounds) o.bounds ∙ take-take g.bounds g.bounds c.bounds.items (omega arith);
    } in
    let is : here d ≡ open_node c g = same_pending d.start c.start (reverse d.facts.items) (reverse (take g.length c.facts.items)) d.bounds.items
    (take g.bounds c.bounds.items) o.start (ap reverse o.word) o.bounds in
    let elements : length d.facts.items ≡ g.length = ap length o.word ∙ length-take-le g.length c.facts.items a.length in
    let marks : length d.bounds.items ≡ g.bounds = ap length o.bounds ∙ length-take-le g.bounds c.bounds.items a.bounds in
    let kept = subst (λ (v : Pending E). FramesFit s d v g.length g.bounds fs) (sym is) (frames_kept s c d (open_node c g) g.length g.bounds fs alike a.frames)
    in
    let all : fs ≡ reverse d.frames.items = ap reverse (sym o.frames) in
    record {
      frames =
          subst (FramesFit s d (here d) (length d.facts.items) (length d.bounds.items)) all
          (subst (λ (n : ℕ). FramesFit s d (here d) n (length d.bounds.items) fs) (sym elements)
          (subst (λ (m : ℕ). FramesFit s d (here d) g.length m fs) (sym marks) kept));
      left = sym (left_kept s c d (open_node c g) g.length g.bounds fs alike a.frames) ∙ ap (all_behind s d) all;
    }

-- a cursor at the same place whose outermost open nodes are gone
pub record KeepsInner {E : Type 0} (c d : Cursor E) (k : ℕ) : Type 0 where
  pub start : d.start ≡ c.start
  pub word : d.facts.items ≡ c.facts.items
  pub bounds : d.bounds.items ≡ c.bounds.items
  pub frames : d.frames.items ≡ drop k c.frames.items

pub shared : {E : Type 0} (s : Search E) (c d later : Cursor E) (outer : ℕ) (pending : List (Pending E)) → Within s c pending → KeepsInner c d (outer + 1)
    → all_behind s c (reverse (take outer c.frames.items)) ≡ [] →
    IsBeforeWords s (all_behind s c (reverse (take (outer + 1) c.frames.items))) later → IsShared s c d later
shared {E} s c d later outer pending within o none is =
    let k = outer + 1 in
    let n = length c.facts.items in
    let m = length c.bounds.items in
    let inner = reverse (drop k c.frames.items) in
    let outers = reverse (take k c.frames.items) in
    let cut = reversed_parts k c.frames.items in
    let fit = front_fits s c (here c) n m inner outers (subst (FramesFit s c (here c) n m) cut within.inside.frames) in
    let alike : BeginAlike c d n m = record { start = o.start; word = ap (take n) o.word; bounds = ap (take m) o.bounds } in
    let same : here d ≡ here c = same_pending d.start c.start (reverse d.facts.items) (reverse c.facts.items) d.bounds.items c.bounds.items o.start
    (ap reverse o.word) o.bounds in
    let all : inner ≡ reverse d.frames.items = ap reverse (sym o.frames) in
    let kept = subst (λ (v : Pending E). FramesFit s d v n m inner) (sym same) (frames_kept s c d (here c) n m inner alike fit) in
    let left : all_behind s d (reverse d.frames.items) ≡ all_behind s c inner = ap (all_behind s d) (sym all) ∙ left_kept s c d (here c) n m inner alike fit in
    record {
      outer = outer;
      farther = none;
      given = is.words;
      words =
          ap (λ (ws : List (Pending E)). here c ∷ ws) (ap (all_behind s c) cut ∙ behind_both s c inner outers)
          ∙ ap (λ (ws : List (Pending E)). here c ∷ (ws ++ all_behind s c outers)) (sym left)
          ∙ ap (λ (v : Pending E). v ∷ (all_behind s d (reverse d.frames.items) ++ all_behind s c outers)) (sym same)
          ∙ ap (λ (ws : List (Pending E)). left_at s d ++ ws) (sym is.words);
      first = record {
        words = all_behind s d (reverse d.frames.items);
        inside = record {
          frames =
              subst (FramesFit s d (here d) (length d.facts.items) (length d.bounds.items)) all
              (subst (λ (i : ℕ). FramesFit s d (here d) i (length d.bounds.items) inner) (sym (ap length o.word))
              (subst (λ (j : ℕ). FramesFit s d (here d) n j inner) (sym (ap length o.bounds)) kept));
          left = refl;
        };
        word = subst (IsWord s) (sym same) within.word;
        left = refl;
      };
      second = is.within;
    }

-- a cursor at the same place, with all nodes open
all_inside : {E : Type 0} (s : Search E) (c d : Cursor E) (k : ℕ) (words : List (Pending E)) → Inside s c words → SamePlace c d → length c.frames.items ≤ k
    → Inside s d (all_behind s c (reverse (take k c.frames.items)))
all_inside s c d k words inside same most =
    let left = inside.left ∙ ap (λ (fs : List Frame). all_behind s c (reverse fs)) (sym (take_all k c.frames.items most)) in
    subst (Inside s d) left (inside_moved s c d words inside same)

-- where the next of the open nodes does, or where the old cursor does
pub outermost_inside : {E : Type 0} (s : Search E) (c d : Cursor E) (k n m : ℕ) (words : List (Pending E)) → Inside s c words
    → MatchOption (slice_get c.frames.items k) ((n ≡ length c.facts.items) × (m ≡ length c.bounds.items)) (λ (f : Frame). (n ≡ f.length) × (m ≡ f.bounds))
    → StandsAt c d k n m → Inside s d (all_behind s c (reverse (take k c.frames.items)))
outermost_inside {E} s c d k n m words inside lengths o = by_next (slice_get c.frames.items k) refl lengths
  where
    by_next : (next : Option Frame) → slice_get c.frames.items k ≡ next
        → MatchOption next ((n ≡ length c.facts.items) × (m ≡ length c.bounds.items)) (λ (f : Frame). (n ≡ f.length) × (m ≡ f.bounds))
        → Inside s d (all_behind s c (reverse (take k c.frames.items)))
    by_next (Some f) at e =
        stands_inside s c d k f words inside at (subst (λ (i : ℕ). StandsAt c d k i f.bounds) e.0 (subst (StandsAt c d k n) e.1 o))
    by_next None at e =
        let most : length c.frames.items ≤ k = omega (arith, length-drop k c.frames.items, ap length (none_dropped c.frames.items k at)) in
        all_inside s c d k words inside (record {
          start = o.start;
          word = o.word ∙ take_all n c.facts.items (omega (arith, e.0));
          bounds = o.bounds ∙ take_all m c.bounds.items (omega (arith, e.1));
          frames = o.frames ∙ take_all k c.frames.items most;
        }) most

-- no open node leaves a word
pub unshared : {E : Type 0} (s : Search E) (c d : Cursor E) (k : ℕ) → d ≡ c → all_behind s c (reverse (take k c.frames.items)) ≡ [] → length c.frames.items ≤ k
    → IsUnshared s c d
unshared {E} s c d k kept none most =
    let all = ap (λ (fs : List Frame). all_behind s c (reverse fs)) (sym (take_all k c.frames.items most)) in
    record {
      kept = kept;
      alone = ap (λ (ws : List (Pending E)). here c ∷ ws) (all ∙ none);
    }

-- a cursor that went on stands before the words that there are
pub before_words : {E : Type 0} (s : Search E) (c : Cursor E) (words : List (Pending E)) → GoesOn s c words (Ok true) → IsBeforeWords s words c
before_words s c [] goes = absurd (let e = goes in cc)
before_words {E} s c (w ∷ ws) goes =
    let within = goes.1 in
    let all : w ∷ ws ≡ left_at s c = within.left ∙ ap (λ (vs : List (Pending E)). here c ∷ vs) within.inside.left in
    record { words = sym all; within = subst (Within s c) all within }

-- and else there are none
pub no_words : {E : Type 0} (s : Search E) (c : Cursor E) (words : List (Pending E)) → GoesOn s c words (Ok false) → words ≡ []
no_words s c [] goes = refl
no_words s c (w ∷ ws) goes = absurd (let e = goes.0 in cc)
