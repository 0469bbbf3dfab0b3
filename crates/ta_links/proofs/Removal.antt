-- A cell that is taken out of its line keeps chains
use Rattle.ta_links.proofs.Common.{◌≡◌, ◌≢◌, ◌⊎◌, inl, inr, ℕ, ◌<◌, ◌≤◌, List, length, arith, sym, ap, ◌∙◌, Option, Some, None, some_or_not, none_or_some, Cell}
use Rattle.ta_links.proofs.Common.{head_at, IsLive, Direction, line_at, place_at, before_at, after_at, IsFirstCell, FollowsCell, IsChained, cases_eq, same_Some}
use Rattle.ta_links.proofs.Common.{none-some}

-- a live cell `x` leaves its line, where it stood between the cells `p` and `n`, one or both of which may be missing
pub record Removal : Type 0 where
  pub way : Direction
  pub cells : List Cell
  pub heads : List (Option ℕ)
  pub cells' : List Cell
  pub heads' : List (Option ℕ)
  pub x : ℕ
  pub p : Option ℕ
  pub n : Option ℕ
  pub chained : IsChained way cells heads
  pub one : (i k : ℕ) → IsLive cells i → IsLive cells k → line_at way cells i ≡ line_at way cells k → place_at way cells i ≡ place_at way cells k → i ≡ k
  pub long : length heads' ≡ length heads
  pub live : IsLive cells x
  pub before_x : before_at way cells x ≡ p
  pub after_x : after_at way cells x ≡ n
  pub old : (k : ℕ) → IsLive cells k → k ≢ x → IsLive cells' k
  pub only : (k : ℕ) → IsLive cells' k → IsLive cells k × (k ≢ x) × (line_at way cells' k ≡ line_at way cells k)
      × (place_at way cells' k ≡ place_at way cells k)
  pub after_p : (k : ℕ) → IsLive cells' k → p ≡ Some k → after_at way cells' k ≡ n
  pub after_rest : (k : ℕ) → IsLive cells' k → p ≢ Some k → after_at way cells' k ≡ after_at way cells k
  pub before_n : (k : ℕ) → IsLive cells' k → n ≡ Some k → before_at way cells' k ≡ p
  pub before_rest : (k : ℕ) → IsLive cells' k → n ≢ Some k → before_at way cells' k ≡ before_at way cells k
  pub head_new : p ≡ None → head_at heads' (line_at way cells x) ≡ n
  pub head_rest : (q : ℕ) → (q ≢ line_at way cells x) ⊎ (p ≢ None) → head_at heads' q ≡ head_at heads q

-- the cell before the gap, and the cell behind it
ahead : (w : Removal) (h : ℕ) → w.p ≡ Some h → IsLive w.cells h × FollowsCell w.way w.cells h w.x × (after_at w.way w.cells h ≡ Some w.x)
ahead w h e =
    let b = w.chained.back w.x h w.live (w.before_x ∙ e) in
    (b.0, w.chained.next h w.x b.0 b.1, b.1)

behind : (w : Removal) (j : ℕ) → w.n ≡ Some j → FollowsCell w.way w.cells w.x j
behind w j e = w.chained.next w.x j w.live (w.after_x ∙ e)

-- the removed cell is the only one at its place
alone : (w : Removal) (k : ℕ) → IsLive w.cells k → k ≢ w.x → line_at w.way w.cells k ≡ line_at w.way w.cells w.x
    → place_at w.way w.cells k ≢ place_at w.way w.cells w.x
alone w k live apart at same = apart (w.one k w.x live w.live at same)

apart_or : (w : Removal) (q : ℕ) → ((q ≡ line_at w.way w.cells w.x) × (w.p ≡ None)) ⊎ ((q ≢ line_at w.way w.cells w.x) ⊎ (w.p ≢ None))
apart_or w q = elim (cases_eq q (line_at w.way w.cells w.x)) [
  | inl e ↦ elim (none_or_some w.p) [
    | inl none ↦ inl (e, none)
    | inr h ↦ inr (inr (λ none. none-some h.0 (sym none ∙ h.1)))
  ]
  | inr ne ↦ inr (inl ne)
]

remove_inside : (w : Removal) (i : ℕ) → IsLive w.cells' i → line_at w.way w.cells' i < length w.heads'
remove_inside w i live =
    let o = w.only i live in
    let b = w.chained.inside i o.0 in
    omega arith

remove_empty : (w : Removal) (q : ℕ) → head_at w.heads' q ≡ None → (k : ℕ) → IsLive w.cells' k → line_at w.way w.cells' k ≢ q
remove_empty w q none k live at =
    let o = w.only k live in
    let was : line_at w.way w.cells k ≡ q = sym o.2 ∙ at in
    elim (apart_or w q) [
      | inl e ↦
          let end : w.n ≡ None = sym (w.head_new e.1) ∙ ap (head_at w.heads') (sym e.0) ∙ none in
          let begins = w.chained.begins w.x w.live (w.before_x ∙ e.1) in
          let first = w.chained.first (line_at w.way w.cells w.x) w.x begins in
          let low = first.least k o.0 (was ∙ e.0) in
          let high = w.chained.last w.x w.live (w.after_x ∙ end) k o.0 (was ∙ e.0) in
          alone w k o.0 o.1 (was ∙ e.0) (omega arith)
      | inr other ↦ w.chained.empty q (sym (w.head_rest q other) ∙ none) k o.0 was
    ]

remove_first : (w : Removal) (q i : ℕ) → head_at w.heads' q ≡ Some i → IsFirstCell w.way w.cells' q i
remove_first w q i e = elim (apart_or w q) [
  | inl at ↦
      let n : w.n ≡ Some i = sym (w.head_new at.1) ∙ ap (head_at w.heads') (sym at.0) ∙ e in
      let f = behind w i n in
      let apart : i ≢ w.x = λ s. let same = ap (place_at w.way w.cells) s in omega arith in
      let live = w.old i f.live apart in
      let o = w.only i live in
      let begins = w.chained.begins w.x w.live (w.before_x ∙ at.1) in
      let first = w.chained.first (line_at w.way w.cells w.x) w.x begins in
      record {
        live = live;
        here = o.2 ∙ f.here ∙ sym at.0;
        front = w.before_n i live n ∙ at.1;
        least = λ k alive here.
            let m = w.only k alive in
            let line : line_at w.way w.cells k ≡ line_at w.way w.cells w.x = sym m.2 ∙ here ∙ at.0 in
            let low = first.least k m.0 line in
            elim (f.nothing_between k m.0 line) [
              | inl under ↦ absurd (alone w k m.0 m.1 line (omega arith))
              | inr over ↦ omega arith
            ];
      }
  | inr other ↦
      let first = w.chained.first q i (sym (w.head_rest q other) ∙ e) in
      let apart : i ≢ w.x = λ s. elim other [
        | inl ne ↦ ne (sym first.here ∙ ap (line_at w.way w.cells) s)
        | inr some ↦ some (sym w.before_x ∙ ap (before_at w.way w.cells) (sym s) ∙ first.front)
      ] in
      let live = w.old i first.live apart in
      let o = w.only i live in
      let behind_ : w.n ≢ Some i = λ n. none-some w.x (sym first.front ∙ (behind w i n).back) in
      record {
        live = live;
        here = o.2 ∙ first.here;
        front = w.before_rest i live behind_ ∙ first.front;
        least = λ k alive here.
            let m = w.only k alive in
            let low = first.least k m.0 (sym m.2 ∙ here) in
            omega arith;
      }
]

remove_last : (w : Removal) (i : ℕ) → IsLive w.cells' i → after_at w.way w.cells' i ≡ None → (k : ℕ) → IsLive w.cells' k
    → line_at w.way w.cells' k ≡ line_at w.way w.cells' i → place_at w.way w.cells' k ≤ place_at w.way w.cells' i
remove_last w i live end k alive at =
    let o = w.only i live in
    let m = w.only k alive in
    let line : line_at w.way w.cells k ≡ line_at w.way w.cells i = sym m.2 ∙ at ∙ o.2 in
    elim (some_or_not w.p i) [
      | inl p ↦
          let a = ahead w i p in
          let none : w.n ≡ None = sym (w.after_p i live p) ∙ end in
          let here = line ∙ sym a.1.here in
          let high = w.chained.last w.x w.live (w.after_x ∙ none) k m.0 here in
          elim (a.1.nothing_between k m.0 line) [
            | inl under ↦ omega arith
            | inr over ↦ absurd (alone w k m.0 m.1 here (omega arith))
          ]
      | inr p ↦
          let high = w.chained.last i o.0 (sym (w.after_rest i live p) ∙ end) k m.0 line in
          omega arith
    ]

remove_next : (w : Removal) (i j : ℕ) → IsLive w.cells' i → after_at w.way w.cells' i ≡ Some j → FollowsCell w.way w.cells' i j
remove_next w i j live e =
    let o = w.only i live in
    elim (some_or_not w.p i) [
      | inl p ↦
          let a = ahead w i p in
          let n : w.n ≡ Some j = sym (w.after_p i live p) ∙ e in
          let f = behind w j n in
          let apart : j ≢ w.x = λ s. let same = ap (place_at w.way w.cells) s in omega arith in
          let fresh = w.old j f.live apart in
          let d = w.only j fresh in
          record {
            live = fresh;
            here = d.2 ∙ f.here ∙ a.1.here ∙ sym o.2;
            rises = omega arith;
            back = w.before_n j fresh n ∙ p;
            nothing_between = λ k alive at.
                let m = w.only k alive in
                let line : line_at w.way w.cells k ≡ line_at w.way w.cells i = sym m.2 ∙ at ∙ o.2 in
                elim (a.1.nothing_between k m.0 line) [
                  | inl under ↦ inl (omega arith)
                  | inr over ↦ elim (f.nothing_between k m.0 (line ∙ sym a.1.here)) [
                    | inl low ↦ absurd (alone w k m.0 m.1 (line ∙ sym a.1.here) (omega arith))
                    | inr high ↦ inr (omega arith)
                  ]
                ];
          }
      | inr p ↦
          let was : after_at w.way w.cells i ≡ Some j = sym (w.after_rest i live p) ∙ e in
          let f = w.chained.next i j o.0 was in
          let apart : j ≢ w.x = λ s. p (sym w.before_x ∙ ap (before_at w.way w.cells) (sym s) ∙ f.back) in
          let fresh = w.old j f.live apart in
          let d = w.only j fresh in
          let behind_ : w.n ≢ Some j = λ n. o.1 (sym (same_Some w.x i (sym (behind w j n).back ∙ f.back))) in
          record {
            live = fresh;
            here = d.2 ∙ f.here ∙ sym o.2;
            rises = omega arith;
            back = w.before_rest j fresh behind_ ∙ f.back;
            nothing_between = λ k alive at.
                let m = w.only k alive in
                elim (f.nothing_between k m.0 (sym m.2 ∙ at ∙ o.2)) [
                  | inl under ↦ inl (omega arith)
                  | inr over ↦ inr (omega arith)
                ];
          }
    ]

remove_begins : (w : Removal) (i : ℕ) → IsLive w.cells' i → before_at w.way w.cells' i ≡ None → head_at w.heads' (line_at w.way w.cells' i) ≡ Some i
remove_begins w i live e =
    let o = w.only i live in
    elim (some_or_not w.n i) [
      | inl n ↦
          let front : w.p ≡ None = sym (w.before_n i live n) ∙ e in
          ap (head_at w.heads') (o.2 ∙ (behind w i n).here) ∙ w.head_new front ∙ n
      | inr n ↦
          let begins = w.chained.begins i o.0 (sym (w.before_rest i live n) ∙ e) in
          elim (apart_or w (line_at w.way w.cells i)) [
            | inl at ↦
                let other = w.chained.begins w.x w.live (w.before_x ∙ at.1) in
                absurd (o.1 (same_Some i w.x (sym begins ∙ (ap (head_at w.heads) at.0 ∙ other))))
            | inr other ↦ ap (head_at w.heads') o.2 ∙ w.head_rest (line_at w.way w.cells i) other ∙ begins
          ]
    ]

remove_back : (w : Removal) (i h : ℕ) → IsLive w.cells' i → before_at w.way w.cells' i ≡ Some h → IsLive w.cells' h × (after_at w.way w.cells' h ≡ Some i)
remove_back w i h live e =
    let o = w.only i live in
    elim (some_or_not w.n i) [
      | inl n ↦
          let p : w.p ≡ Some h = sym (w.before_n i live n) ∙ e in
          let a = ahead w h p in
          let apart : h ≢ w.x = λ s. let same = ap (place_at w.way w.cells) s in omega arith in
          let fresh = w.old h a.0 apart in
          (fresh, w.after_p h fresh p ∙ n)
      | inr n ↦
          let b = w.chained.back i h o.0 (sym (w.before_rest i live n) ∙ e) in
          let apart : h ≢ w.x = λ s. n (sym w.after_x ∙ ap (after_at w.way w.cells) (sym s) ∙ b.1) in
          let fresh = w.old h b.0 apart in
          let other : w.p ≢ Some h = λ p. o.1 (same_Some i w.x (sym b.1 ∙ (ahead w h p).2)) in
          (fresh, w.after_rest h fresh other ∙ b.1)
    ]

pub removal_keeps : (w : Removal) → IsChained w.way w.cells' w.heads'
removal_keeps w = record {
  inside = remove_inside w;
  empty = remove_empty w;
  first = remove_first w;
  next = remove_next w;
  last = remove_last w;
  begins = remove_begins w;
  back = remove_back w;
}
