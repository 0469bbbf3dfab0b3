-- A cell that is put into a line keeps chains
use Rattle.ta_links.proofs.Common.{◌≡◌, ◌≢◌, ◌⊎◌, inl, inr, ℕ, ◌<◌, ◌≤◌, List, length, arith, sym, ap, ◌∙◌, subst, Option, Some, None, some_or_not}
use Rattle.ta_links.proofs.Common.{none_or_some, Cell, head_at, IsLive, Direction, line_at, place_at, before_at, after_at, IsFirstCell, FollowsCell, IsChained}
use Rattle.ta_links.proofs.Common.{cases_eq, same_Some, none-some}

-- a cell `x` goes into a line, between the cells `p` and `n`, one or both of which may be missing
pub record Insertion : Type 0 where
  pub way : Direction
  pub cells : List Cell
  pub heads : List (Option ℕ)
  pub cells' : List Cell
  pub heads' : List (Option ℕ)
  pub x : ℕ
  pub line : ℕ
  pub place : ℕ
  pub p : Option ℕ
  pub n : Option ℕ
  pub chained : IsChained way cells heads
  pub one : (i k : ℕ) → IsLive cells i → IsLive cells k → line_at way cells i ≡ line_at way cells k → place_at way cells i ≡ place_at way cells k → i ≡ k
  pub inside : line < length heads
  pub long : length heads' ≡ length heads
  pub new : IsLive cells' x
  pub old : (k : ℕ) → IsLive cells k → IsLive cells' k × (k ≢ x) × (line_at way cells' k ≡ line_at way cells k) × (place_at way cells' k ≡ place_at way cells k)
  pub only : (k : ℕ) → IsLive cells' k → (k ≡ x) ⊎ IsLive cells k
  pub line_x : line_at way cells' x ≡ line
  pub place_x : place_at way cells' x ≡ place
  pub after_x : after_at way cells' x ≡ n
  pub before_x : before_at way cells' x ≡ p
  pub after_p : (k : ℕ) → IsLive cells k → p ≡ Some k → after_at way cells' k ≡ Some x
  pub after_rest : (k : ℕ) → IsLive cells k → p ≢ Some k → after_at way cells' k ≡ after_at way cells k
  pub before_n : (k : ℕ) → IsLive cells k → n ≡ Some k → before_at way cells' k ≡ Some x
  pub before_rest : (k : ℕ) → IsLive cells k → n ≢ Some k → before_at way cells' k ≡ before_at way cells k
  pub head_new : p ≡ None → head_at heads' line ≡ Some x
  pub head_rest : (q : ℕ) → (q ≢ line) ⊎ (p ≢ None) → head_at heads' q ≡ head_at heads q
  pub gap_p : (h : ℕ) → p ≡ Some h → IsLive cells h × (line_at way cells h ≡ line) × (place_at way cells h < place) × (after_at way cells h ≡ n)
  pub gap_none : p ≡ None → head_at heads line ≡ n
  pub gap_n : (j : ℕ) → n ≡ Some j → place < place_at way cells j

-- where each live cell of the line stands
pub stands : (w : Insertion) (k : ℕ) → IsLive w.cells k → line_at w.way w.cells k ≡ w.line →
    (((h : ℕ) × (w.p ≡ Some h) × (place_at w.way w.cells k ≤ place_at w.way w.cells h) × (place_at w.way w.cells k < w.place))
    ⊎ ((j : ℕ) × (w.n ≡ Some j) × (place_at w.way w.cells j ≤ place_at w.way w.cells k) × (w.place < place_at w.way w.cells k)))
stands w k live at = elim (none_or_some w.p) [
  | inl none ↦ elim (none_or_some w.n) [
    | inl end ↦ absurd (w.chained.empty w.line (w.gap_none none ∙ end) k live at)
    | inr j ↦
        let first = w.chained.first w.line j.0 (w.gap_none none ∙ j.1) in
        let least = first.least k live at in
        let above = w.gap_n j.0 j.1 in
        inr (j.0, j.1, least, omega arith)
  ]
  | inr h ↦
      let gap = w.gap_p h.0 h.1 in
      elim (none_or_some w.n) [
        | inl end ↦
            let least = w.chained.last h.0 gap.0 (gap.3 ∙ end) k live (at ∙ sym gap.1) in
            inl (h.0, h.1, least, omega arith)
        | inr j ↦
            let follows = w.chained.next h.0 j.0 gap.0 (gap.3 ∙ j.1) in
            let above = w.gap_n j.0 j.1 in
            elim (follows.nothing_between k live (at ∙ sym gap.1)) [
              | inl low ↦ inl (h.0, h.1, low, omega arith)
              | inr high ↦ inr (j.0, j.1, high, omega arith)
            ]
      ]
]

-- the cell behind the gap is live and in the line
behind : (w : Insertion) (j : ℕ) → w.n ≡ Some j → IsLive w.cells j × (line_at w.way w.cells j ≡ w.line)
behind w j e = elim (none_or_some w.p) [
  | inl none ↦ let first = w.chained.first w.line j (w.gap_none none ∙ e) in (first.live, first.here)
  | inr h ↦
      let gap = w.gap_p h.0 h.1 in
      let follows = w.chained.next h.0 j gap.0 (gap.3 ∙ e) in
      (follows.live, follows.here ∙ gap.1)
]

line_kept : (w : Insertion) (k : ℕ) → IsLive w.cells k → line_at w.way w.cells' k ≡ line_at w.way w.cells k
line_kept w k live = (w.old k live).2

place_kept : (w : Insertion) (k : ℕ) → IsLive w.cells k → place_at w.way w.cells' k ≡ place_at w.way w.cells k
place_kept w k live = (w.old k live).3

insert_inside : (w : Insertion) (i : ℕ) → IsLive w.cells' i → line_at w.way w.cells' i < length w.heads'
insert_inside w i live =
    elim (w.only i live) [
      | inl e ↦ let a = ap (λ (k : ℕ). line_at w.way w.cells' k) e in let b = w.line_x in let c = w.inside in omega arith
      | inr old ↦ let a = line_kept w i old in let b = w.chained.inside i old in omega arith
    ]

insert_empty : (w : Insertion) (q : ℕ) → head_at w.heads' q ≡ None → (k : ℕ) → IsLive w.cells' k → line_at w.way w.cells' k ≢ q
insert_empty w q none k live at =
    let apart : (q ≢ w.line) ⊎ (w.p ≢ None) = elim (cases_eq q w.line) [
      | inl e ↦ inr (λ first. none-some w.x (sym none ∙ (ap (head_at w.heads') e ∙ w.head_new first)))
      | inr ne ↦ inl ne
    ] in
    let was : head_at w.heads q ≡ None = sym (w.head_rest q apart) ∙ none in
    elim (w.only k live) [
      | inl e ↦
          let here_ : w.line ≡ q = sym w.line_x ∙ sym (ap (line_at w.way w.cells') e) ∙ at in
          elim (none_or_some w.p) [
            | inl first ↦ none-some w.x (sym none ∙ (ap (head_at w.heads') (sym here_) ∙ w.head_new first))
            | inr h ↦ let gap = w.gap_p h.0 h.1 in w.chained.empty q was h.0 gap.0 (gap.1 ∙ here_)
          ]
      | inr old ↦ w.chained.empty q was k old (sym (line_kept w k old) ∙ at)
    ]

insert_first : (w : Insertion) (q i : ℕ) → head_at w.heads' q ≡ Some i → IsFirstCell w.way w.cells' q i
insert_first w q i e = elim (cases_eq q w.line) [
  | inl here_ ↦ elim (none_or_some w.p) [
    | inl front ↦
        let same : w.x ≡ i = same_Some w.x i (sym (ap (head_at w.heads') here_ ∙ w.head_new front) ∙ e) in
        first_new w q here_ front i same
    | inr h ↦ first_old w q i (inr (λ none. none-some h.0 (sym none ∙ h.1))) e
  ]
  | inr ne ↦ first_old w q i (inl ne) e
] where
  first_new : (w : Insertion) (q : ℕ) → q ≡ w.line → w.p ≡ None → (i : ℕ) → w.x ≡ i → IsFirstCell w.way w.cells' q i
  first_new w q here_ front i same = subst (λ (k : ℕ). IsFirstCell w.way w.cells' q k) same record {
    live = w.new;
    here = w.line_x ∙ sym here_;
    front = w.before_x ∙ front;
    least = λ k live at. elim (w.only k live) [
      | inl e ↦ let a = ap (place_at w.way w.cells') e in omega arith
      | inr old ↦
          let b = place_kept w k old in
          elim (stands w k old (sym (line_kept w k old) ∙ at ∙ here_)) [
            | inl h ↦ absurd (none-some h.0 (sym front ∙ h.1))
            | inr j ↦ let c = j.3 in omega arith
          ]
    ];
  }

  first_old : (w : Insertion) (q i : ℕ) → (q ≢ w.line) ⊎ (w.p ≢ None) → head_at w.heads' q ≡ Some i → IsFirstCell w.way w.cells' q i
  first_old w q i apart e =
      let first = w.chained.first q i (sym (w.head_rest q apart) ∙ e) in
      let behind_ : w.n ≢ Some i = λ n. elim (none_or_some w.p) [
        | inl none ↦ elim apart [
          | inl ne ↦ ne (sym first.here ∙ (behind w i n).1)
          | inr some ↦ some none
        ]
        | inr h ↦
            let gap = w.gap_p h.0 h.1 in
            let follows = w.chained.next h.0 i gap.0 (gap.3 ∙ n) in
            none-some h.0 (sym first.front ∙ follows.back)
      ] in
      record {
        live = (w.old i first.live).0;
        here = line_kept w i first.live ∙ first.here;
        front = w.before_rest i first.live behind_ ∙ first.front;
        least = λ k live at. elim (w.only k live) [
          | inl x ↦
              let a = ap (place_at w.way w.cells') x in
              let b = w.place_x in
              let c = place_kept w i first.live in
              let line : w.line ≡ q = sym w.line_x ∙ sym (ap (line_at w.way w.cells') x) ∙ at in
              elim (none_or_some w.p) [
                | inl none ↦ elim apart [ inl ne ↦ absurd (ne (sym line)) | inr some ↦ absurd (some none) ]
                | inr h ↦
                    let gap = w.gap_p h.0 h.1 in
                    let below = gap.2 in
                    let least = first.least h.0 gap.0 (gap.1 ∙ line) in
                    omega arith
              ]
          | inr old ↦
              let a = place_kept w k old in
              let b = place_kept w i first.live in
              let least = first.least k old (sym (line_kept w k old) ∙ at) in
              omega arith
        ];
      }

insert_last : (w : Insertion) (i : ℕ) → IsLive w.cells' i → after_at w.way w.cells' i ≡ None → (k : ℕ) → IsLive w.cells' k
    → line_at w.way w.cells' k ≡ line_at w.way w.cells' i → place_at w.way w.cells' k ≤ place_at w.way w.cells' i
insert_last w i live end k alive at = elim (w.only i live) [
  | inl x ↦
      let none : w.n ≡ None = sym w.after_x ∙ sym (ap (after_at w.way w.cells') x) ∙ end in
      let pi = ap (place_at w.way w.cells') x in
      elim (w.only k alive) [
        | inl y ↦ let pk = ap (place_at w.way w.cells') y in omega arith
        | inr old ↦
            let pk = place_kept w k old in
            elim (stands w k old (sym (line_kept w k old) ∙ at ∙ ap (line_at w.way w.cells') x ∙ w.line_x)) [
              | inl h ↦ let c = h.3 in omega arith
              | inr j ↦ absurd (none-some j.0 (sym none ∙ j.1))
            ]
      ]
  | inr was ↦
      let apart : w.p ≢ Some i = λ e. none-some w.x (sym end ∙ (w.after_p i was e)) in
      let over : after_at w.way w.cells i ≡ None = sym (w.after_rest i was apart) ∙ end in
      let pi = place_kept w i was in
      elim (w.only k alive) [
        | inl y ↦
            let pk = ap (place_at w.way w.cells') y in
            let line : line_at w.way w.cells i ≡ w.line = sym (line_kept w i was) ∙ sym at ∙ ap (line_at w.way w.cells') y ∙ w.line_x in
            elim (stands w i was line) [
              | inl h ↦
                  let gap = w.gap_p h.0 h.1 in
                  let least = w.chained.last i was over h.0 gap.0 (gap.1 ∙ sym line) in
                  let same : h.0 ≡ i = w.one h.0 i gap.0 was (gap.1 ∙ sym line) (omega arith) in
                  absurd (apart (h.1 ∙ ap (λ (m : ℕ). Some m) same))
              | inr j ↦ let c = j.3 in omega arith
            ]
        | inr old ↦
            let pk = place_kept w k old in
            let least = w.chained.last i was over k old (sym (line_kept w k old) ∙ at ∙ line_kept w i was) in
            omega arith
      ]
]

insert_next : (w : Insertion) (i j : ℕ) → IsLive w.cells' i → after_at w.way w.cells' i ≡ Some j → FollowsCell w.way w.cells' i j
insert_next w i j live e = elim (w.only i live) [
  | inl x ↦ subst (λ (k : ℕ). FollowsCell w.way w.cells' k j) (sym x) (from_new w j (sym w.after_x ∙ sym (ap (after_at w.way w.cells') x) ∙ e))
  | inr was ↦ elim (some_or_not w.p i) [
    | inl p ↦ subst (λ (k : ℕ). FollowsCell w.way w.cells' i k) (same_Some w.x j (sym (w.after_p i was p) ∙ e)) (to_new w i was p)
    | inr p ↦ from_old w i j was p (sym (w.after_rest i was p) ∙ e)
  ]
] where
  from_new : (w : Insertion) (j : ℕ) → w.n ≡ Some j → FollowsCell w.way w.cells' w.x j
  from_new w j n =
      let b = behind w j n in
      let pj = place_kept w j b.0 in
      let gap = w.gap_n j n in
      record {
        live = (w.old j b.0).0;
        here = line_kept w j b.0 ∙ b.1 ∙ sym w.line_x;
        rises = omega arith;
        back = w.before_n j b.0 n;
        nothing_between = λ k alive at. elim (w.only k alive) [
          | inl y ↦ let pk = ap (place_at w.way w.cells') y in inl (omega arith)
          | inr old ↦
              let pk = place_kept w k old in
              elim (stands w k old (sym (line_kept w k old) ∙ at ∙ w.line_x)) [
                | inl h ↦ let c = h.3 in inl (omega arith)
                | inr m ↦
                    let same = ap (place_at w.way w.cells) (same_Some m.0 j (sym m.1 ∙ n)) in
                    inr (omega arith)
              ]
        ];
      }

  to_new : (w : Insertion) (i : ℕ) → IsLive w.cells i → w.p ≡ Some i → FollowsCell w.way w.cells' i w.x
  to_new w i was p =
      let gap = w.gap_p i p in
      let px = w.place_x in
      let pi = place_kept w i was in
      let below = gap.2 in
      record {
        live = w.new;
        here = w.line_x ∙ sym gap.1 ∙ sym (line_kept w i was);
        rises = omega arith;
        back = w.before_x ∙ p;
        nothing_between = λ k alive at. elim (w.only k alive) [
          | inl y ↦ let pk = ap (place_at w.way w.cells') y in inr (omega arith)
          | inr old ↦
              let pk = place_kept w k old in
              elim (stands w k old (sym (line_kept w k old) ∙ at ∙ line_kept w i was ∙ gap.1)) [
                | inl h ↦
                    let c = h.2 in
                    let same = ap (place_at w.way w.cells) (same_Some h.0 i (sym h.1 ∙ p)) in
                    inl (omega arith)
                | inr m ↦ let c = m.3 in inr (omega arith)
              ]
        ];
      }

  from_old : (w : Insertion) (i j : ℕ) → IsLive w.cells i → w.p ≢ Some i → after_at w.way w.cells i ≡ Some j → FollowsCell w.way w.cells' i j
  from_old w i j was p e =
      let f = w.chained.next i j was e in
      let pi = place_kept w i was in
      let pj = place_kept w j f.live in
      let up = f.rises in
      let apart : w.n ≢ Some j = λ n. elim (none_or_some w.p) [
        | inl none ↦
            let first = w.chained.first w.line j (w.gap_none none ∙ n) in
            none-some i (sym first.front ∙ f.back)
        | inr h ↦
            let gap = w.gap_p h.0 h.1 in
            let g = w.chained.next h.0 j gap.0 (gap.3 ∙ n) in
            p (h.1 ∙ ap (λ (m : ℕ). Some m) (same_Some h.0 i (sym g.back ∙ f.back)))
      ] in
      record {
        live = (w.old j f.live).0;
        here = line_kept w j f.live ∙ f.here ∙ sym (line_kept w i was);
        rises = omega arith;
        back = w.before_rest j f.live apart ∙ f.back;
        nothing_between = λ k alive at. elim (w.only k alive) [
          | inl y ↦
              let pk = ap (place_at w.way w.cells') y in
              let px = w.place_x in
              let line : line_at w.way w.cells i ≡ w.line = sym (line_kept w i was) ∙ sym at ∙ ap (line_at w.way w.cells') y ∙ w.line_x in
              elim (stands w i was line) [
                | inl h ↦
                    let gap = w.gap_p h.0 h.1 in
                    let low = h.2 in
                    let below = gap.2 in
                    elim (f.nothing_between h.0 gap.0 (gap.1 ∙ sym line)) [
                      | inl under ↦
                          let same : h.0 ≡ i = w.one h.0 i gap.0 was (gap.1 ∙ sym line) (omega arith) in
                          absurd (p (h.1 ∙ ap (λ (m : ℕ). Some m) same))
                      | inr over ↦ inr (omega arith)
                    ]
                | inr m ↦ let c = m.3 in inl (omega arith)
              ]
          | inr old ↦
              let pk = place_kept w k old in
              elim (f.nothing_between k old (sym (line_kept w k old) ∙ at ∙ line_kept w i was)) [
                | inl under ↦ inl (omega arith)
                | inr over ↦ inr (omega arith)
              ]
        ];
      }

insert_begins : (w : Insertion) (i : ℕ) → IsLive w.cells' i → before_at w.way w.cells' i ≡ None → head_at w.heads' (line_at w.way w.cells' i) ≡ Some i
insert_begins w i live e = elim (w.only i live) [
  | inl x ↦
      let front : w.p ≡ None = sym w.before_x ∙ sym (ap (before_at w.way w.cells') x) ∙ e in
      ap (λ (k : ℕ). head_at w.heads' (line_at w.way w.cells' k)) x ∙ ap (head_at w.heads') w.line_x ∙ w.head_new front ∙ ap (λ (m : ℕ). Some m) (sym x)
  | inr was ↦
      let apart : w.n ≢ Some i = λ n. none-some w.x (sym e ∙ (w.before_n i was n)) in
      let begins = w.chained.begins i was (sym (w.before_rest i was apart) ∙ e) in
      let other : (line_at w.way w.cells i ≢ w.line) ⊎ (w.p ≢ None) = elim (cases_eq (line_at w.way w.cells i) w.line) [
        | inl here_ ↦ inr (λ none. apart (sym (w.gap_none none) ∙ ap (head_at w.heads) (sym here_) ∙ begins))
        | inr ne ↦ inl ne
      ] in
      ap (head_at w.heads') (line_kept w i was) ∙ w.head_rest (line_at w.way w.cells i) other ∙ begins
]

insert_back : (w : Insertion) (i h : ℕ) → IsLive w.cells' i → before_at w.way w.cells' i ≡ Some h → IsLive w.cells' h × (after_at w.way w.cells' h ≡ Some i)
insert_back w i h live e = elim (w.only i live) [
  | inl x ↦
      let p : w.p ≡ Some h = sym w.before_x ∙ sym (ap (before_at w.way w.cells') x) ∙ e in
      let gap = w.gap_p h p in
      ((w.old h gap.0).0, w.after_p h gap.0 p ∙ ap (λ (m : ℕ). Some m) (sym x))
  | inr was ↦ elim (some_or_not w.n i) [
    | inl n ↦
        let same : w.x ≡ h = same_Some w.x h (sym (w.before_n i was n) ∙ e) in
        (subst (λ (k : ℕ). IsLive w.cells' k) same w.new, ap (after_at w.way w.cells') (sym same) ∙ w.after_x ∙ n)
    | inr n ↦
        let b = w.chained.back i h was (sym (w.before_rest i was n) ∙ e) in
        let apart : w.p ≢ Some h = λ p. n (sym (w.gap_p h p).3 ∙ b.1) in
        ((w.old h b.0).0, w.after_rest h b.0 apart ∙ b.1)
  ]
]

pub insertion_keeps : (w : Insertion) → IsChained w.way w.cells' w.heads'
insertion_keeps w = record {
  inside = insert_inside w;
  empty = insert_empty w;
  first = insert_first w;
  next = insert_next w;
  last = insert_last w;
  begins = insert_begins w;
  back = insert_back w;
}
