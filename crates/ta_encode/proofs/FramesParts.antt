-- the parts of a node, one after another
use Rattle.ta_encode.proofs.Common.{Asks, Splits, BoundWithin, BoundsWithin, reverse-append}
use Rattle.ta_encode.proofs.CursorCommon.{◌≡◌, ◌⊎◌, inl, inr, ℕ, ◌≤◌, ℤ, List, [], ◌∷◌, ◌++◌, length, map, drop, reverse, slice_get, Some, None, true, false}
use Rattle.ta_encode.proofs.CursorCommon.{arith, sym, ap, ◌∙◌, refl, subst, AllocError, slice_get-map, none_dropped, in_at, Bound, Low, High, Pending, Search}
use Rattle.ta_encode.proofs.CursorCommon.{Comes, bound_at, bounded, longer, parts, Split, Frame, Cursor, here, IsWord, SplitFits, Within, GoesOn, Ok, Err}
use Rattle.ta_encode.proofs.CursorCommon.{answered}
use Rattle.ta_encode.specs.Asking.{ask_node}
use Rattle.ta_encode.specs.declared.ask.Ask.{Ask}
use Rattle.ta_base.proofs.Each.{each_push}
use Rattle.ta_encode.specs.declared.meaning.Side.{Side}
use Rattle.ta_encode.proofs.FramesKept.{Opened, opened_on}
use Rattle.ta_encode.specs.declared.ask.Ask.TheVariants as ask

pub bounds_more : (n m : ℕ) (bounds : List Bound) → n ≤ m → BoundsWithin n bounds → BoundsWithin m bounds
bounds_more n m [] le h = tt
bounds_more n m (b ∷ bs) le h = let first = h.0 in
    (record { exists = omega (arith, first.exists); least = first.least; most = first.most }, bounds_more n m bs le h.1)

-- what a node that asks leaves: a part for each answer
pub parts_asked : {E : Type 0} (s : Search E) (w : Pending E) (a : Ask) → parts s w (ask_node a) ≡ map (longer w) (answered s w.start w.past (ask_node a))
parts_asked s w ask.Extend = refl
parts_asked s w (ask.Guard guard) = refl
parts_asked s w (ask.Order before later) = refl
parts_asked s w (ask.Stuck rule) = refl

-- the cursor went on to a node with one more fact
pub opened_child : {E : Type 0} (s : Search E) (old new : Cursor E) (w : Pending E) (words : List (Pending E)) (a : Ask) (k : ℕ) (e : E)
    → Within s old (w ∷ words)
    → Opened old new (record { inner = Asks a; length = length old.facts.items; bounds = length old.bounds.items; next = k })
    → new.facts.items ≡ old.facts.items ++ e ∷ []
    → new.bounds.items ≡ old.bounds.items
    → slice_get (answered s old.start (reverse old.facts.items) (ask_node a)) k ≡ Some e
    → s.unknowns old.start (reverse old.facts.items) ≤ s.unknowns old.start (e ∷ reverse old.facts.items)
    → Within s new (drop k (parts s w (ask_node a)) ++ words)
opened_child {E} s old new w words a k e within o word bounds child more =
    let f : Frame = record { inner = Asks a; length = length old.facts.items; bounds = length old.bounds.items; next = k } in
    let past : reverse new.facts.items ≡ e ∷ reverse old.facts.items = ap reverse word ∙ reverse-append old.facts.items (e ∷ []) in
    let at : w ≡ here old = (let left = within.left in cc) in
    let wider = bounds_more (s.unknowns old.start (reverse old.facts.items)) (s.unknowns old.start (e ∷ reverse old.facts.items)) old.bounds.items more
    within.word.bounds in
    let reached : longer (here old) e ≡ here new = (let start = o.start in cc) in
    let comes : Comes s old.start (e ∷ reverse old.facts.items) = inr
    ((ask_node a, in_at (answered s old.start (reverse old.facts.items) (ask_node a)) k e child), within.word.comes) in
    let on : IsWord s (longer (here old) e) = record { comes = comes; bounds = wider } in
    let part : slice_get (parts s (here old) (ask_node a)) k ≡ Some (here new) =
    ap (λ (vs : List (Pending E)). slice_get vs k) (parts_asked s (here old) a)
    ∙ slice_get-map (longer (here old)) (answered s old.start (reverse old.facts.items) (ask_node a)) k ∙ (rw child (ap (λ (v : Pending E). Some v) reached)) in
    opened_on s old new w words f within o tt
    (subst (IsWord s) reached on)
    (subst (λ (v : Pending E). slice_get (parts s v (ask_node a)) k ≡ Some (here new)) (sym at) part)

-- the cursor went on to a side of a split of the word
pub opened_side : {E : Type 0} (s : Search E) (old new : Cursor E) (w : Pending E) (words : List (Pending E)) (k unknown : ℕ) (floor : ℤ) (side : Side)
    → Within s old (w ∷ words)
    → Opened old new (record { inner = Splits unknown floor; length = length old.facts.items; bounds = length old.bounds.items; next = k })
    → SplitFits (s.unknowns old.start (reverse old.facts.items)) (Splits unknown floor)
    → new.facts.items ≡ old.facts.items
    → new.bounds.items ≡ old.bounds.items ++ bound_at unknown floor side ∷ []
    → ((k ≡ 0) × (side ≡ Low)) ⊎ ((k ≡ 1) × (side ≡ High))
    → Within s new (drop k (parts s w (Split unknown floor)) ++ words)
opened_side {E} s old new w words k unknown floor side within o split word bounds which =
    let f : Frame = record { inner = Splits unknown floor; length = length old.facts.items; bounds = length old.bounds.items; next = k } in
    let n = s.unknowns old.start (reverse old.facts.items) in
    let at : w ≡ here old = (let left = within.left in cc) in
    let bound : BoundWithin n (bound_at unknown floor side) = record { exists = split.exists; least = split.least; most = split.most } in
    let wider : BoundsWithin n (old.bounds.items ++ bound_at unknown floor side ∷ []) = each_push (BoundWithin n) old.bounds.items (bound_at unknown floor side)
    within.word.bounds bound in
    let reached : bounded (here old) (bound_at unknown floor side) ≡ here new = (let start = o.start in cc) in
    let on : IsWord s (bounded (here old) (bound_at unknown floor side)) = record { comes = within.word.comes; bounds = wider } in
    let part : slice_get (parts s (here old) (Split unknown floor)) k ≡ Some (bounded (here old) (bound_at unknown floor side)) = side_at (here old) k unknown
    floor side which in
    opened_on s old new w words f within o split
    (subst (IsWord s) reached on)
    (subst (λ (v : Pending E). slice_get (parts s v (Split unknown floor)) k ≡ Some (here new)) (sym at) (part ∙ ap (λ (v : Pending E). Some v) reached))
  where
    side_at : (v : Pending E) (k unknown : ℕ) (floor : ℤ) (side : Side) → ((k ≡ 0) × (side ≡ Low)) ⊎ ((k ≡ 1) × (side ≡ High))
        → slice_get (bounded v (bound_at unknown floor Low) ∷ bounded v (bound_at unknown floor High) ∷ []) k ≡ Some (bounded v (bound_at unknown floor side))
    side_at v k unknown floor side (inl h) = rw (h.0, h.1) refl
    side_at v k unknown floor side (inr h) = rw (h.0, h.1) refl

-- nothing comes behind the last child
pub no_child_left : {E : Type 0} (s : Search E) (c : Cursor E) (w : Pending E) (words : List (Pending E)) (a : Ask) (k : ℕ)
    → Within s c (w ∷ words) → slice_get (answered s c.start (reverse c.facts.items) (ask_node a)) k ≡ None → drop k (parts s w (ask_node a)) ≡ []
no_child_left {E} s c w words a k within none =
    let at : w ≡ here c = (let left = within.left in cc) in
    let list = answered s c.start (reverse c.facts.items) (ask_node a) in
    let no_part : slice_get (map (longer (here c)) list) k ≡ None = slice_get-map (longer (here c)) list k ∙ (rw none refl) in
    let no_asked : drop k (parts s (here c) (ask_node a)) ≡ [] = ap (drop k) (parts_asked s (here c) a) ∙ none_dropped (map (longer (here c)) list) k no_part in
    subst (λ (v : Pending E). drop k (parts s v (ask_node a)) ≡ []) (sym at) no_asked

-- a node comes
pub one_comes : {E : Type 0} (s : Search E) (new : Cursor E) (words : List (Pending E)) → Within s new words → GoesOn s new words (Ok true)
one_comes s new [] within = absurd (let e = within.left in cc)
one_comes s new (w ∷ ws) within = (refl, within)

-- none comes
pub none_comes : {E : Type 0} (s : Search E) (new : Cursor E) (words : List (Pending E)) → words ≡ [] → GoesOn s new words (Ok false)
none_comes s new [] none = refl
none_comes s new (w ∷ ws) none = absurd (cc)

pub no_memory : {E : Type 0} (s : Search E) (new : Cursor E) (words : List (Pending E)) (e : AllocError) → GoesOn s new words (Err e)
no_memory s new [] e = tt
no_memory s new (w ∷ ws) e = tt
