-- a proof of a pattern shows that the pattern is safe
use Rattle.ta_encode.proofs.Common.{◌≡◌, ◌⊎◌, inl, inr, ℕ, zero, suc, ◌+◌, ◌<◌, ◌≤◌, ◌^◌, ℤ, pos, negsuc, ◌-ℤ◌, ◌≤ℤ◌, ◌<ℤ◌, List, [], ◌∷◌, ◌++◌, map, length}
use Rattle.ta_encode.proofs.Common.{get_or, true, arith, sym, ap, ◌∙◌, refl, subst, ints, cases_Bool, zero-*ℤ, is_negative, negative_false, negative_true}
use Rattle.ta_encode.proofs.Common.{one_times, cases_start, Automaton, Pattern, LoopsPure, Safe, In, range_with_len, Good, Element, Event, Rise, Fall}
use Rattle.ta_encode.proofs.Common.{LegalUnder, is_complete, Bound, Low, High, only_at, side_row, bound_row, word_rows, sum_of_products, row_value, AllHold}
use Rattle.ta_encode.proofs.Common.{Tree, Forest, Leaf, Ask, Split, Done, More, Pending, Search, bound_at, bounded, longer, bounded_rows, empty_word}
use Rattle.ta_encode.proofs.Common.{pattern_search, IsLeaf, RefutesBy, RefuteEach, RefuteAll, ProofOf, Node, MayAsk, answered}
use Rattle.ta_words.specs.Words.{children}
use Rattle.ta_encode.proofs.Asking.{answers_each, closed}
use Rattle.ta_encode.proofs.Moments.{AllHold-append, AllHold-left}
use Rattle.ta_encode.proofs.RowSums.{leaf_contradicts}
use Rattle.ta_encode.proofs.Reorder.{AfterEarlier, describe}

-- the word that goes on with these elements
abbrev pub extend : List Element → List Element → List Element
extend past [] = past
extend past (e ∷ future) = extend (e ∷ past) future

pub first_rows : (a : Automaton) (p : Pattern) (start : ℕ) (e : Element) (past : List Element) (vs : List ℕ) → AllHold vs (word_rows a p start (e ∷ past))
    → AllHold vs (word_rows a p start past)
unfolding word_rows
first_rows a p start (Event e) past vs h = AllHold-left vs (word_rows a p start past) _ h
first_rows a p start (Rise i) past vs h = AllHold-left vs (word_rows a p start past) _ h
first_rows a p start (Fall mask) past vs h = AllHold-left vs (word_rows a p start past) _ h

-- the values solve the rows of each prefix
pub prefix_rows : (a : Automaton) (p : Pattern) (start : ℕ) (past future : List Element) (vs : List ℕ) → AllHold vs (word_rows a p start (extend past future))
    → AllHold vs (word_rows a p start past)
prefix_rows a p start past [] vs h = h
prefix_rows a p start past (e ∷ future) vs h = first_rows a p start e past vs (prefix_rows a p start (e ∷ past) future vs h)

pub prefix_legal : (a : Automaton) (p : Pattern) (pairs : List (ℕ × ℕ)) (start : ℕ) (past future : List Element)
    → LegalUnder a p pairs start (extend past future) → LegalUnder a p pairs start past
prefix_legal a p pairs start past [] h = h
prefix_legal a p pairs start past (e ∷ future) h = (prefix_legal a p pairs start (e ∷ past) future h).1

pub take_apart : (past acc : List Element) → (future : List Element) × (extend [] future ≡ extend past acc)
take_apart [] acc = (acc, refl)
take_apart (e ∷ past) acc = take_apart past (e ∷ acc)

minus_at : (x : ℕ) (vs : List ℕ) → sum_of_products (only_at x (negsuc 0)) vs ≡ (pos 0 -ℤ pos (get_or vs x 0))
unfolding sum_of_products
minus_at zero [] = refl
minus_at zero (v ∷ vs) = omega (arith, ints)
minus_at (suc x) [] = refl
minus_at (suc x) (v ∷ vs) = omega (arith, ints, minus_at x vs, zero-*ℤ (pos v))

plus_at : (x : ℕ) (vs : List ℕ) → sum_of_products (only_at x (pos 1)) vs ≡ pos (get_or vs x 0)
unfolding sum_of_products
plus_at zero [] = refl
plus_at zero (v ∷ vs) = omega (arith, ints, one_times (pos v))
plus_at (suc x) [] = refl
plus_at (suc x) (v ∷ vs) = omega (arith, ints, plus_at x vs, zero-*ℤ (pos v))

-- one side of a split holds
pub sides : (x : ℕ) (floor : ℤ) (vs : List ℕ) → (pos 0 ≤ℤ row_value vs (side_row x floor Low)) ⊎ (pos 0 ≤ℤ row_value vs (side_row x floor High))
sides x floor vs = elim (cases_Bool (is_negative (row_value vs (side_row x floor Low)))) [
  | inl t ↦ inr (let h : row_value vs (side_row x floor Low) <ℤ pos 0 = negative_true _ t in omega (arith, ints, minus_at x vs, plus_at x vs))
  | inr f ↦ inl (negative_false _ f)
]

pub bounds_more : (bounds : List Bound) (b : Bound) (vs : List ℕ) → AllHold vs (map bound_row bounds) → pos 0 ≤ℤ row_value vs (bound_row b)
    → AllHold vs (map bound_row (bounds ++ b ∷ []))
bounds_more [] b vs h g = (g, tt)
bounds_more (c ∷ bounds) b vs h g = (h.0, bounds_more bounds b vs h.1 g)

-- values that solve the rows of a past and of each that is longer by these facts, each of which answers whatever may be asked, up to one
-- where nothing may be asked
abbrev pub SolvesAlong : {E : Type 0} → Search E → ℕ → List ℕ → List E → List E → Type 0
SolvesAlong s start vs past [] = AllHold vs (s.rows start past) × ((n : Node) → MayAsk s start past n → ⊥)
SolvesAlong s start vs past (e ∷ future) = AllHold vs (s.rows start past) × ((n : Node) → MayAsk s start past n → In e (answered s start past n))
    × SolvesAlong s start vs (e ∷ past) future

rows_here : {E : Type 0} (s : Search E) (start : ℕ) (vs : List ℕ) (past future : List E) → SolvesAlong s start vs past future → AllHold vs (s.rows start past)
rows_here s start vs past [] h = h.0
rows_here s start vs past (e ∷ future) h = h.0

mutual
  unfolding RefutesBy

  no_tree : {E : Type 0} (tree : Tree) (s : Search E) (w : Pending E) (future : List E) (vs : List ℕ) → SolvesAlong s w.start vs w.past future
      → AllHold vs (map bound_row w.bounds) → RefutesBy s (IsLeaf s) w tree → ⊥
  no_tree (Leaf ts) s w future vs along held h =
      leaf_contradicts (bounded_rows s w) ts vs h
      (AllHold-append vs (s.rows w.start w.past) (map bound_row w.bounds) (rows_here s w.start vs w.past future along) held)
  no_tree (Ask n trees) s w [] vs along held h = along.1 n h.0
  no_tree (Ask n trees) s w (e ∷ future) vs along held h =
      no_forest trees s w e future vs along.2 held (answered s w.start w.past n) (along.1 n h.0) h.1
  no_tree (Split unknown floor low high) s w future vs along held h =
      elim (sides unknown floor vs) [
        | inl g ↦ no_tree low s (bounded w (bound_at unknown floor Low)) future vs along (bounds_more w.bounds (bound_at unknown floor Low) vs held g) h.1
        | inr g ↦ no_tree high s (bounded w (bound_at unknown floor High)) future vs along (bounds_more w.bounds (bound_at unknown floor High) vs held g) h.2
      ]

  no_forest : {E : Type 0} (trees : Forest) (s : Search E) (w : Pending E) (e : E) (future : List E) (vs : List ℕ)
      → SolvesAlong s w.start vs (e ∷ w.past) future → AllHold vs (map bound_row w.bounds) → (es : List E) → In e es
      → RefuteEach s (IsLeaf s) (map (longer w) es) trees → ⊥
  no_forest Done s w e future vs along held [] i h = i
  no_forest Done s w e future vs along held (x ∷ es) i h = h
  no_forest (More tree trees) s w e future vs along held [] i h = i
  no_forest (More tree trees) s w e future vs along held (x ∷ es) (inl same) h =
      no_tree tree s (longer w e) future vs along held (subst (λ (y : _). RefutesBy s (IsLeaf s) (longer w y) tree) (sym same) h.0)
  no_forest (More tree trees) s w e future vs along held (x ∷ es) (inr i) h =
      no_forest trees s w e future vs along held es i h.1

pick_tree : (s : Search Element) (first start count : ℕ) (trees : List Tree) → RefuteAll s (IsLeaf s) (map empty_word (range_with_len first count)) trees
    → first ≤ start → start < first + count → (tree : Tree) × RefutesBy s (IsLeaf s) (empty_word start) tree
pick_tree s first start zero trees h low high = absurd (omega arith)
pick_tree s first start (suc count) [] h low high = absurd h
pick_tree s first start (suc count) (tree ∷ trees) h low high = elim (cases_start first start low) [
  | inl e ↦ (tree, subst (λ (x : ℕ). RefutesBy s (IsLeaf s) (empty_word x) tree) e h.0)
  | inr g ↦ pick_tree s (first + 1) start count trees h.1 g (omega arith)
]

-- where a search of words from each start set is refuted, no values solve along the elements of a complete word
pub none_along : (s : Search Element) (n : ℕ) (trees : List Tree) → RefuteAll s (IsLeaf s) (map empty_word (range_with_len 0 n)) trees → (start : ℕ) → start < n
    → (future : List Element) (vs : List ℕ) → SolvesAlong s start vs [] future → ⊥
none_along s n trees proof start b future vs along =
    let w = pick_tree s 0 start n trees proof (omega arith) (omega arith) in
    no_tree w.0 s (empty_word start) future vs along tt w.1

pattern_along : (a : Automaton) (p : Pattern) (pairs : List (ℕ × ℕ)) (start : ℕ) (vs : List ℕ) (past future : List Element)
    → LegalUnder a p pairs start (extend past future) → is_complete p (extend past future) ≡ true → AllHold vs (word_rows a p start (extend past future))
    → SolvesAlong (pattern_search a p pairs) start vs past future
pattern_along a p pairs start vs past [] legal complete rows =
    (rows, closed (pattern_search a p pairs) start past (is_complete p past) (children a p pairs start past) (λ n. refl) complete)
pattern_along a p pairs start vs past (e ∷ future) legal complete rows = (
  prefix_rows a p start past (e ∷ future) vs rows,
  answers_each (pattern_search a p pairs) start past (is_complete p past) (children a p pairs start past)
      (λ n. refl) e (prefix_legal a p pairs start (e ∷ past) future legal).0,
  pattern_along a p pairs start vs (e ∷ past) future legal complete rows,
)

-- no start set and no complete word has a system with a natural solution
pub none_solves : (a : Automaton) (p : Pattern) (pairs : List (ℕ × ℕ)) (trees : List Tree) → ProofOf a p pairs trees → (start : ℕ) → start < 2 ^ length a.fall
    → (past : List Element) (vs : List ℕ) → LegalUnder a p pairs start past → is_complete p past ≡ true → AllHold vs (word_rows a p start past) → ⊥
none_solves a p pairs trees proof start b past vs legal complete rows =
    let f = take_apart past [] in
    none_along (pattern_search a p pairs) (2 ^ length a.fall) trees proof start b f.0 vs
    (pattern_along a p pairs start vs [] f.0
    (subst (LegalUnder a p pairs start) (sym f.1) legal)
    (ap (is_complete p) f.1 ∙ complete)
    (subst (λ (q : List Element). AllHold vs (word_rows a p start q)) (sym f.1) rows))

-- a proof of a pattern shows that it is safe
pub proof_safe : (a : Automaton) (p : Pattern) (pairs : List (ℕ × ℕ)) → Good a pairs → LoopsPure a → AfterEarlier p → (trees : List Tree)
    → ProofOf a p pairs trees → Safe a p
proof_safe a p pairs good loops earlier trees proof first rules o =
    let d = describe a p pairs good loops earlier first rules o in
    none_solves a p pairs trees proof d.start d.is_start d.past d.values d.legal d.complete
    (AllHold-left d.values (word_rows a p d.start d.past) [] d.solves.rows_hold)
