-- a budget that is large enough for the words is spent only where a node was split
--
-- Without splits a visit meets no word twice: the children of a word are distinct, and what goes on from one child goes on from no
-- other (`SubtreesApart`). A legal word has at most 30 elements, so there are finitely many, and a visit without splits ends within
-- their number.
use Rattle.ta_walk.proofs.Common.{IsNarrow, ◌≡◌, inl, inr, ℕ, zero, suc, ◌+◌, ◌<◌, ◌≤◌, ◌^◌, List, [], ◌∷◌, ◌++◌, length, map, slice_get, Some, arith, refl}
use Rattle.ta_walk.proofs.Common.{sym, ap, ◌∙◌, subst, length-map, AllByRecursion, each_from_in, each_in, no_more, In-left, In-map, In-right, in_map}
use Rattle.ta_walk.proofs.Common.{In-numbers, in_numbers, Automaton, File, Pattern, Distinct, In, range_with_len, Node, Element, LegalUnder, children}
use Rattle.ta_walk.proofs.Common.{all_starts, empty_word, pattern_search, Comes, Pending, Search, parts, LinearRow, comes_legal, IsSpent, IsVisited, HasAtMost}
use Rattle.ta_walk.proofs.Common.{HasSplit, SpentNeedsSplits, WasSplit, Visits, pattern_within, ℤ, Option, is_complete, legal_length}
use Rattle.ta_encode.proofs.Asking.{answers_moved, distinct_answers}
use Rattle.ta_words.proofs.Counts.{legal_under}
use Rattle.ta_walk.proofs.ChildrenOnce.{children_once}
use Rattle.ta_walk.proofs.DeterminedVisits.{word_once}
use Rattle.ta_walk.proofs.SubtreesApart.{AllApart, Branches, IsPlain, UnderSome, mark, marks, not_again, parts_apart, split_or_plain, under_before, under_here}
use Rattle.ta_walk.proofs.SubtreesApart.{under_start}
use Rattle.ta_walk.proofs.WordsVisited.{Waits, next_wait, roots_wait, starts_unbounded}

-- each mark is one that goes on from a word with which the visit begins
marks_under : (s : Search Element) (ws : List (Pending Element)) (ns : List Node) (rest : List (Pending Element)) → AllByRecursion IsPlain ns
    → Visits s ws ns rest → (t : ℕ × List Element) → In t (marks s ws ns) → UnderSome ws t.0 t.1
marks_under s ws [] rest plain v t h =
    let at = in_map mark t ws h in
    record {
      word = at.0;
      one = at.1;
      under = under_here at.0 t.0 t.1 (ap (λ (m : ℕ × List Element). m.0) (sym at.2))
          (ap (λ (m : ℕ × List Element). m.1) (sym at.2));
    }
marks_under s [] (n ∷ ns) rest plain v t h = absurd v
marks_under s (w ∷ ws) (n ∷ ns) rest plain v t (inl e) =
    record { word = w; one = inl refl; under = under_here w t.0 t.1 (ap (λ (m : ℕ × List Element). m.0) (sym e)) (ap (λ (m : ℕ × List Element). m.1) (sym e)) }
marks_under s (w ∷ ws) (n ∷ ns) rest plain v t (inr h) = under_before s w ws n t.0 t.1 plain.0 (marks_under s (parts s w n ++ ws) ns rest plain.1 v.1 t h)

words_once : (ws : List (Pending Element)) → AllApart ws → Distinct (map mark ws)
words_once [] all = tt
words_once (w ∷ ws) all = (
  each_from_in (λ t. mark w ≡ t → ⊥) (map mark ws) (λ t h same.
      let v = in_map mark t ws h in
      let e : mark v.0 ≡ mark w = sym (same ∙ v.2) in
      all.0 v.0 v.1 w.start w.past (under_here w w.start w.past refl refl)
      (under_here v.0 w.start w.past (ap (λ (m : ℕ × List Element). m.0) e) (ap (λ (m : ℕ × List Element). m.1) e))
      ),
  words_once ws all.1,
)

marks_once : (s : Search Element) (ws : List (Pending Element)) (ns : List Node) (rest : List (Pending Element)) → Branches s → AllApart ws
    → AllByRecursion IsPlain ns → Visits s ws ns rest → Distinct (marks s ws ns)
marks_once s ws [] rest branches all plain v = words_once ws all
marks_once s [] (n ∷ ns) rest branches all plain v = absurd v
marks_once s (w ∷ ws) (n ∷ ns) rest branches all plain v = (
  each_from_in (λ t. mark w ≡ t → ⊥) (marks s (parts s w n ++ ws) ns) (λ t h same.
      not_again s w ws n plain.0 all (subst (λ (m : ℕ × List Element). UnderSome (parts s w n ++ ws) m.0 m.1) (sym same)
      (marks_under s (parts s w n ++ ws) ns rest plain.1 v.1 t h))
      ),
  marks_once s (parts s w n ++ ws) ns rest branches (parts_apart s w ws n branches plain.0 all) plain.1 v.1,
)

marks_count : (s : Search Element) (ws : List (Pending Element)) (ns : List Node) (rest : List (Pending Element)) → Visits s ws ns rest
    → length (marks s ws ns) ≡ length ns + length rest
marks_count s ws [] rest v = omega (arith, length-map ws mark, ap length v)
marks_count s [] (n ∷ ns) rest v = absurd v
marks_count s (w ∷ ws) (n ∷ ns) rest v = omega (arith, marks_count s (parts s w n ++ ws) ns rest v.1)

marks_come : (s : Search Element) (most : ℕ) (ws : List (Pending Element)) (ns : List Node) → AllByRecursion (Waits s most) ws → (t : ℕ × List Element)
    → In t (marks s ws ns) → Comes s t.0 t.1
marks_come s most ws [] all t h =
    let at = in_map mark t ws h in
    subst (λ (m : ℕ × List Element). Comes s m.0 m.1) (sym at.2) (each_in (Waits s most) ws at.0 all at.1).comes
marks_come s most [] (n ∷ ns) all t h = absurd h
marks_come s most (w ∷ ws) (n ∷ ns) all t (inl e) = subst (λ (m : ℕ × List Element). Comes s m.0 m.1) (sym e) all.0.comes
marks_come s most (w ∷ ws) (n ∷ ns) all t (inr h) = marks_come s (most + 1) (parts s w n ++ ws) ns (next_wait s most w ws n all) t h

starts_from : (k n : ℕ) → AllApart (map empty_word (range_with_len k n))
starts_from k zero = tt
starts_from k (suc n) = (
  λ v h start past u t.
      let at = in_map empty_word v (range_with_len (k + 1) n) h in
      let above = in_numbers at.0 (k + 1) n at.1 in
      let is : v.start ≡ at.0 = ap (λ (w : Pending Element). w.start) at.2 in
      let low = above.0 in
      absurd (omega (arith, under_start (empty_word k) start past u, under_start v start past t)),
  starts_from (k + 1) n,
)

starts_apart : (a : Automaton) → AllApart (all_starts a)
starts_apart a = starts_from 0 (2 ^ length a.fall)

branches_of : (a : Automaton) (p : Pattern) (pairs : List (ℕ × ℕ)) → Branches (pattern_search a p pairs)
branches_of a p pairs start past n = distinct_answers (pattern_search a p pairs) start past (is_complete p past) (children a p pairs start past) (λ m. refl)
    (children_once a p pairs start past) n

-- a search of a pattern's words, whatever else is asked of them
abbrev pub words_with : Automaton → Pattern → List (ℕ × ℕ) → (ℕ → List Element → List (ℤ × ℤ) → Option Node)
    → (Pending Element → List (ℤ × ℤ) → Option (List ℤ)) → (ℕ → List Element → ℕ) → (ℕ → List Element → List LinearRow) → Search Element
words_with a p pairs question scaled unknowns rows = record {
  roots = all_starts a;
  answers = (pattern_search a p pairs).answers;
  question = question;
  scaled = scaled;
  unknowns = unknowns;
  rows = rows;
}

same_words : (a : Automaton) (p : Pattern) (pairs : List (ℕ × ℕ)) (question : ℕ → List Element → List (ℤ × ℤ) → Option Node)
    (scaled : Pending Element → List (ℤ × ℤ) → Option (List ℤ)) (unknowns : ℕ → List Element → ℕ) (rows : ℕ → List Element → List LinearRow) (start : ℕ)
    (past : List Element) → Comes (words_with a p pairs question scaled unknowns rows) start past → Comes (pattern_search a p pairs) start past
same_words a p pairs question scaled unknowns rows start [] c = c
same_words a p pairs question scaled unknowns rows start (e ∷ past) (inl b) = inl b
same_words a p pairs question scaled unknowns rows start (e ∷ past) (inr c) =
    inr (
      answers_moved (words_with a p pairs question scaled unknowns rows) (pattern_search a p pairs) start past e (λ n. refl) c.0,
      same_words a p pairs
          question scaled unknowns rows start past c.1,
    )

pub split_of_words : (a : Automaton) (p : Pattern) (pairs : List (ℕ × ℕ)) (question : ℕ → List Element → List (ℤ × ℤ) → Option Node)
    (scaled : Pending Element → List (ℤ × ℤ) → Option (List ℤ)) (unknowns : ℕ → List Element → ℕ) (rows : ℕ → List Element → List LinearRow) (budget count : ℕ)
    → HasAtMost a p pairs budget → IsSpent (words_with a p pairs question scaled unknowns rows) budget count
    → WasSplit (words_with a p pairs question scaled unknowns rows) budget
split_of_words a p pairs question scaled unknowns rows budget count most spent =
    let s = words_with a p pairs question scaled unknowns rows in
    let v = spent.visited in
    let left = spent.word ∷ v.words in
    let counted = v.counted in
    let short = most.short in
    elim (split_or_plain v.nodes) [
      | inl split ↦ record { nodes = v.nodes; left = left; visits = v.visits; counted = counted; split = split }
      | inr plain ↦ absurd (
          let once = marks_once s s.roots v.nodes left
          (λ start past. distinct_answers s start past (is_complete p past) (children a p pairs start past) (λ m. refl)
          (children_once a p pairs start past)) (starts_apart a) plain v.visits in
          let few = no_more (marks s s.roots v.nodes) most.words once (λ t h.
          let legal = comes_legal a p pairs t.0 t.1
          (same_words a p pairs question scaled unknowns rows t.0 t.1 (marks_come s 0 s.roots v.nodes (roots_wait s (starts_unbounded a)) t h)) in
          most.each t.0 t.1 legal.start_is legal.under) in
          omega (arith, few, marks_count s s.roots v.nodes left v.visits)
          )
    ]

pub spent_split : (a : Automaton) (p : Pattern) (pairs : List (ℕ × ℕ)) (budget count : ℕ) → HasAtMost a p pairs budget
    → IsSpent (pattern_search a p pairs) budget count → WasSplit (pattern_search a p pairs) budget
spent_split a p pairs budget count most spent =
    let s = pattern_search a p pairs in
    split_of_words a p pairs s.question s.scaled s.unknowns s.rows budget count most spent

left_marked : (s : Search Element) (ws : List (Pending Element)) (ns : List Node) (w : Pending Element) (rest : List (Pending Element))
    → Visits s ws ns (w ∷ rest) → In (mark w) (marks s ws ns)
left_marked s ws [] w rest v = subst (λ (xs : List (Pending Element)). In (mark w) (map mark xs)) v (inl refl)
left_marked s [] (n ∷ ns) w rest v = absurd v
left_marked s (u ∷ ws) (n ∷ ns) w rest v = inr (left_marked s (parts s u n ++ ws) ns w rest v.1)

-- behind so many nodes of a visit another word is left than behind all of them
record LeftOther (s : Search Element) (ws : List (Pending Element)) (count : ℕ) (w : Pending Element) : Type 0 where
  pub word : Pending Element
  pub words : List (Pending Element)
  pub nodes : List Node
  pub visits : Visits s ws nodes (word ∷ words)
  pub counted : length nodes ≡ count
  pub other : mark word ≡ mark w → ⊥

left_other : (s : Search Element) (ws : List (Pending Element)) (ns : List Node) (w : Pending Element) (rest : List (Pending Element)) (count : ℕ) → Branches s
    → AllApart ws → AllByRecursion IsPlain ns → count < length ns → Visits s ws ns (w ∷ rest) → LeftOther s ws count w
left_other s ws [] w rest count branches all plain less v = absurd (omega arith)
left_other s [] (n ∷ ns) w rest count branches all plain less v = absurd v
left_other s (u ∷ ws) (n ∷ ns) w rest zero branches all plain less v = record {
  word = u;
  words = ws;
  nodes = [];
  visits = refl;
  counted = refl;
  other = λ same.
      let rest_under = marks_under s (parts s u n ++ ws) ns (w ∷ rest) plain.1 v.1 (mark w) (left_marked s (parts s u n ++ ws) ns w rest v.1) in
      not_again s u ws n plain.0 all (subst (λ (m : ℕ × List Element). UnderSome (parts s u n ++ ws) m.0 m.1) (sym same) rest_under);
}
left_other s (u ∷ ws) (n ∷ ns) w rest (suc count) branches all plain less v =
    let on = left_other s (parts s u n ++ ws) ns w rest count branches (parts_apart s u ws n branches plain.0 all) plain.1 (omega arith) v.1 in
    record { word = on.word; words = on.words; nodes = n ∷ on.nodes; visits = (v.0, on.visits); counted = ap suc on.counted; other = on.other }

words_apart :
    (a : Automaton) (p : Pattern) (pairs : List (ℕ × ℕ)) (before later : ℕ) (v w : Pending Element) → before < later
    → IsVisited (pattern_search a p pairs) before v
    → (at : IsVisited (pattern_search a p pairs) later w) → ¬ HasSplit at.nodes → v.start ≡ w.start → v.past ≡ w.past → ⊥
words_apart a p pairs before later v w less begun at none starts pasts =
    let s = pattern_search a p pairs in
    let counted = at.counted in
    elim (split_or_plain at.nodes) [
      | inl split ↦ none split
      | inr plain ↦ (
          let left = left_other s s.roots at.nodes w at.words before (branches_of a p pairs) (starts_apart a) plain (omega arith) at.visits in
          let same = word_once s before before left.word v refl
          (record { nodes = left.nodes; words = left.words; visits = left.visits; counted = left.counted }) begun in
          left.other (ap mark same ∙ (let both : mark v ≡ mark w = cc in both))
          )
    ]

-- the words that are longer by an element than some
abbrev longer_words : Automaton → Pattern → List (ℕ × ℕ) → List (ℕ × List Element) → List (ℕ × List Element)
longer_words a p pairs [] = []
longer_words a p pairs (t ∷ ts) = map (λ e. (t.0, e ∷ t.1)) (children a p pairs t.0 t.1) ++ longer_words a p pairs ts

-- the words of at most so many elements
unfoldable words_within : Automaton → Pattern → List (ℕ × ℕ) → ℕ → List (ℕ × List Element)
words_within a p pairs zero = map (λ k. (k, [])) (range_with_len 0 (2 ^ length a.fall))
words_within a p pairs (suc size) = words_within a p pairs size ++ longer_words a p pairs (words_within a p pairs size)

in_longer : (a : Automaton) (p : Pattern) (pairs : List (ℕ × ℕ)) (start : ℕ) (past : List Element) (e : Element) (ts : List (ℕ × List Element))
    → In (start, past) ts → In e (children a p pairs start past) → In (start, e ∷ past) (longer_words a p pairs ts)
in_longer a p pairs start past e [] h child = absurd h
in_longer a p pairs start past e (t ∷ ts) (inl same) child =
    subst (λ (m : ℕ × List Element). In (start, e ∷ past) (map (λ f. (m.0, f ∷ m.1)) (children a p pairs m.0 m.1) ++ longer_words a p pairs ts)) same
    (In-left (start, e ∷ past) (map (λ f. (start, f ∷ past)) (children a p pairs start past)) (longer_words a p pairs ts)
    (In-map (λ f. (start, f ∷ past)) e (children a p pairs start past) child))
in_longer a p pairs start past e (t ∷ ts) (inr h) child =
    In-right (start, e ∷ past) (map (λ f. (t.0, f ∷ t.1)) (children a p pairs t.0 t.1)) (longer_words a p pairs ts)
    (in_longer a p pairs start past e ts h child)

in_within : (a : Automaton) (p : Pattern) (pairs : List (ℕ × ℕ)) (size start : ℕ) (past : List Element) → start < 2 ^ length a.fall → length past ≤ size
    → LegalUnder a p pairs start past → In (start, past) (words_within a p pairs size)
unfolding words_within
in_within a p pairs zero start [] below short legal = In-map (λ k. (k, [])) start (range_with_len 0 (2 ^ length a.fall))
    (In-numbers start 0 (2 ^ length a.fall) (omega arith) (omega arith))
in_within a p pairs (suc size) start [] below short legal =
    In-left (start, []) (words_within a p pairs size) (longer_words a p pairs (words_within a p pairs size))
    (in_within a p pairs size start [] below (omega arith) tt)
in_within a p pairs zero start (e ∷ past) below short legal = absurd (omega arith)
in_within a p pairs (suc size) start (e ∷ past) below short legal =
    In-right (start, e ∷ past) (words_within a p pairs size) (longer_words a p pairs (words_within a p pairs size))
    (in_longer a p pairs start past e (words_within a p pairs size) (in_within a p pairs size start past below (omega arith) legal.1) legal.0)

words_number : (file : File) (number : ℕ) (p : Pattern) → slice_get file.patterns number ≡ Some p → IsNarrow file.automaton
    → (pairs : List (ℕ × ℕ)) → (most : ℕ) × HasAtMost file.automaton p pairs most
words_number file number p at narrow pairs =
    let a = file.automaton in (
      length (words_within a p pairs 30),
      record {
        words = words_within a p pairs 30;
        short = omega arith;
        each = λ start past below legal.
            in_within a p pairs 30 start past below
            (legal_length a p start past narrow (pattern_within file number p at).events_limit (legal_under a p pairs start past legal)) legal;
      },
    )

pub spent_needs_splits : SpentNeedsSplits
spent_needs_splits = record { number = words_number; split = spent_split; apart = words_apart }
