-- A search whose words have systems ends.
use Rattle.ta_walk.proofs.Common.{◌≡◌, ◌⊎◌, inl, inr, ℕ, zero, suc, ◌+◌, ◌<◌, ℤ, pos, negsuc, Bool, true, false, List, [], ◌∷◌, ◌++◌, length, length-append}
use Rattle.ta_walk.proofs.Common.{map, slice_get, arith, refl, sym, subst, ◌∙◌, IsSomeAnd, int_div_euclid, int_rem_euclid, ints, AllByRecursion, each_append}
use Rattle.ta_walk.proofs.Common.{floor_high, floor_low, System, In, Node, Bound, Low, High, SystemAt, Pending, Search, Comes, bound_at, bounded, longer, parts}
use Rattle.ta_walk.proofs.Common.{comes_first, Fraction, end_exists, HasSystems, HasEnding, SearchesHaveEnds, Whole, Solved, Stopped, Left, IsUnbounded}
use Rattle.ta_walk.proofs.Common.{IsVisited, AreNumbers, IsAbove, IsWhole, NodeAt, SplitsAt, Visits, Answers, answered, asked, OpenVertex, IsSettled, parts_of}
use Rattle.ta_walk.proofs.Common.{Option, Some, None, false≢true, is_some}
use Rattle.ta_encode.proofs.FramesParts.{bounds_more}
use Rattle.ta_encode.specs.declared.meaning.Side.{Side}
use Rattle.ta_encode.specs.Lines.{BoundWithin, BoundsWithin}
use Rattle.ta_simplex.specs.Answers.{HasEnd, RunOverflows}
use Rattle.ta_simplex.specs.Ends.{IsEnd as IsSystemEnd}
use Rattle.ta_simplex.specs.declared.End.{End}
use Rattle.ta_simplex.proofs.RunEndings.{run_ends}
use Rattle.ta_walk.proofs.SplitsFit.{split_within, split_floor}
use Rattle.ta_walk.proofs.Vertices.{rest_above, rest_whole}
use Rattle.ta_walk.proofs.WalkSoFar.{visits_more}
use Rattle.ta_cert.specs.declared.line.Node.TheVariants as node
use Rattle.ta_simplex.specs.declared.End.TheVariants as end
use Rattle.ta_walk.specs.declared.end.PlaceKind.TheVariants as kind

-- ---- the values of a vertex are all whole, or there is a first one that isn't
whole_or_above : (f : Fraction) → IsWhole f ⊎ ((floor : ℤ) × IsAbove floor f)
whole_or_above f = of_rest (int_rem_euclid f.top f.bottom) refl
  where
    quotient : ℤ
    quotient = int_div_euclid f.top f.bottom

    of_rest : (rest : ℤ) → rest ≡ int_rem_euclid f.top f.bottom → IsWhole f ⊎ ((floor : ℤ) × IsAbove floor f)
    of_rest (pos zero) is = inl (rest_whole f (pos zero) is refl)
    of_rest (pos (suc n)) is = inr (
      quotient,
      rest_above f (pos (suc n)) quotient is (λ e. absurd (omega (arith, ints)))
          (floor_low f.top f.bottom quotient f.positive refl) (floor_high f.top f.bottom quotient f.positive refl),
    )
    of_rest (negsuc n) is = inr (
      quotient,
      rest_above f (negsuc n) quotient is (λ e. absurd (omega (arith, ints)))
          (floor_low f.top f.bottom quotient f.positive refl) (floor_high f.top f.bottom quotient f.positive refl),
    )

-- the first split behind a whole value
split_behind : (f : Fraction) (fs : List Fraction) (x : ℕ) (floor : ℤ) → IsWhole f → SplitsAt fs x floor → SplitsAt (f ∷ fs) (suc x) floor
split_behind f fs x floor whole splits = record { before = before; here = splits.here }
  where
    before : (y : ℕ) → y < suc x → IsSomeAnd (slice_get (f ∷ fs) y) IsWhole
    before zero less = whole
    before (suc y) less = splits.before y (omega arith)

split_first : (f : Fraction) (fs : List Fraction) (floor : ℤ) → IsAbove floor f → SplitsAt (f ∷ fs) 0 floor
split_first f fs floor above = record { before = λ x less. absurd (omega arith); here = above }

numbers_or_split : (fs : List Fraction) → ((ks : List ℤ) × AreNumbers fs ks) ⊎ ((x : ℕ) × (floor : ℤ) × SplitsAt fs x floor)
numbers_or_split [] = inl ([], tt)
numbers_or_split (f ∷ fs) = elim (whole_or_above f) [
  | inr above ↦ inr (0, above.0, split_first f fs above.0 above.1)
  | inl whole ↦ elim (numbers_or_split fs) [
    | inl rest ↦ inl (whole.0 ∷ rest.0, (whole.1, rest.1))
    | inr rest ↦ inr (suc rest.0, rest.1, split_behind f fs rest.0 rest.1 whole rest.2)
  ]
]

-- ---- what is known of each word that is left

-- the search comes to the word, and its bounds are of its unknowns
record Lives {E : Type 0} (s : Search E) (w : Pending E) : Type 0 where
  comes : Comes s w.start w.past
  bounds : BoundsWithin (s.unknowns w.start w.past) w.bounds

unbounded_within : {E : Type 0} (n : ℕ) (w : Pending E) → IsUnbounded w → BoundsWithin n w.bounds
unbounded_within n w none = subst (BoundsWithin n) (sym none) tt

root_lives : {E : Type 0} (s : Search E) (w : Pending E) → In w s.roots → IsUnbounded w → Lives s w
root_lives s w is none = record {
  comes = comes_first s w.start w.past (w, is, refl, refl);
  bounds = unbounded_within (s.unknowns w.start w.past) w none;
}

roots_live : {E : Type 0} (s : Search E) (ws : List (Pending E)) → ((w : Pending E) → In w ws → In w s.roots) → AllByRecursion IsUnbounded ws
    → AllByRecursion (Lives s) ws
roots_live s [] inside all = tt
roots_live s (w ∷ ws) inside all = (root_lives s w (inside w (inl (let same : w ≡ w = refl in same))) all.0, roots_live s ws (λ v is. inside v (inr is)) all.1)

longer_lives : {E : Type 0} (s : Search E) (w : Pending E) → HasSystems s → Lives s w → (es : List E) → ((e : E) → In e es → Answers s w.start w.past e)
    → AllByRecursion (Lives s) (map (longer w) es)
longer_lives s w has lives [] inside = tt
longer_lives s w has lives (e ∷ es) inside =
    let first = inside e (inl (let same : e ≡ e = refl in same)) in (
      record {
        comes = inr (first, lives.comes);
        bounds = bounds_more (s.unknowns w.start w.past) (s.unknowns w.start (e ∷ w.past)) w.bounds (has.grow w.start w.past e first) lives.bounds;
      },
      longer_lives s w has lives es (λ f is. inside f (inr is)),
    )

bounded_lives : {E : Type 0} (s : Search E) (w : Pending E) (b : Bound) → Lives s w → BoundWithin (s.unknowns w.start w.past) b → Lives s (bounded w b)
bounded_lives s w b lives within = record {
  comes = lives.comes;
  bounds = each_append (BoundWithin (s.unknowns w.start w.past)) w.bounds (b ∷ []) lives.bounds (within, tt);
}

parts_live : {E : Type 0} (s : Search E) (w : Pending E) (n : Node) → HasSystems s → Lives s w → NodeAt s w n → AllByRecursion (Lives s) (parts s w n)
parts_live s w (node.Leaf ts) has lives stands = tt
parts_live s w (node.Split unknown floor) has lives stands =
    let below = split_within s w unknown floor stands in
    let fits = split_floor s w unknown floor stands in
    let within : (side : Side) → BoundWithin (s.unknowns w.start w.past) (bound_at unknown floor side) = λ side. record
    { exists = below; least = fits.low; most = fits.high } in
    (bounded_lives s w (bound_at unknown floor Low) lives (within Low), (bounded_lives s w (bound_at unknown floor High) lives (within High), tt))
parts_live s w n has lives stands = longer_lives s w has lives (answered s w.start w.past n) (λ e is. (n, is))

-- a node that asks at a vertex stands there
open_stands : {E : Type 0} (s : Search E) (w : Pending E) (n : Node) → OpenVertex s w n → NodeAt s w n
open_stands s w (node.Leaf ts) h = absurd (false≢true h.may)
open_stands s w (node.Split unknown floor) h = absurd (false≢true h.may)
open_stands s w n h = h

-- ---- each word has a node, or ends the search

-- a system has an end, or some pivot of it leaves the range
system_ends : (s : System) → ¬ HasEnd s → ¬ RunOverflows s → ⊥
system_ends s no_end no_overflow = run_ends s (λ r. no_end (end_exists s r.0 r.1 r.2 r.3)) no_overflow

some_same : (m n : Node) → Some m ≡ Some n → m ≡ n
some_same m n e = cc

none_some : (n : Node) → None ≡ Some n → ⊥
none_some n e = absurd (cc)

module _ {E : Type 0} (s : Search E) (has : HasSystems s) (budget : ℕ) (none : ¬ HasEnding s budget) where
  -- at a word before which so many nodes were visited, within the budget
  module _ (w : Pending E) (lives : Lives s w) (done : ℕ) (within : done < budget) (visited : IsVisited s done w) (next : (n : Node) → NodeAt s w n → ⊥) where
    at_split : (system : System) → SystemAt s w system → (values : List Fraction) → IsSystemEnd system (end.Vertex values) → IsSettled s w values
        → (x : ℕ) (floor : ℤ) → SplitsAt values x floor → (o : Option (List ℤ)) → s.scaled w (parts_of values) ≡ o → ⊥
    at_split system is values vertex settled x floor splits None none = next (node.Split x floor)
        (record { values = values; vertex = record { system = system; is = is; holds = vertex }; settled = settled; splits = splits; unscaled = none })
    at_split system is values vertex settled x floor splits (Some numbers) scaled = none (
      Solved (done + 1) w numbers,
      record {
        before = done;
        number_is = refl;
        within = omega arith;
        word = w;
        visited = visited;
        holds = (
          refl,
          record {
            values = values;
            vertex = record { system = system; is = is; holds = vertex };
            settled = settled;
            whole = inr
                (record { unknown = x; floor = floor; splits = splits; scaled = scaled });
          },
        );
      },
    )

    at_settled : (system : System) → SystemAt s w system → (values : List Fraction) → IsSystemEnd system (end.Vertex values) → IsSettled s w values → ⊥
    at_settled system is values vertex settled = elim (numbers_or_split values) [
      | inl numbers ↦ none (
        Solved (done + 1) w numbers.0,
        record {
          before = done;
          number_is = refl;
          within = omega arith;
          word = w;
          visited = visited;
          holds = (refl, record { values = values; vertex = record { system = system; is = is; holds = vertex }; settled = settled; whole = inl numbers.1 });
        },
      )
      | inr split ↦ at_split system is values vertex settled split.0 split.1 split.2 (s.scaled w (parts_of values)) refl
    ]

    at_question : (system : System) → SystemAt s w system → (values : List Fraction) → IsSystemEnd system (end.Vertex values) → (n : Node)
        → s.question w.start w.past (parts_of values) ≡ Some n → (b : Bool) → is_some (asked s w.start w.past n) ≡ b → ⊥
    at_question system is values vertex n asks true may =
        next n (open_stands s w n (record { values = values; vertex = record { system = system; is = is; holds = vertex }; question = asks; may = may }))
    at_question system is values vertex n asks false none = at_settled system is values vertex (λ m question may.
        let same : m ≡ n = some_same m n (sym question ∙ asks) in
        false≢true (sym none ∙ subst (λ (k : Node). is_some (asked s w.start w.past k) ≡ true) same may))

    at_vertex : (system : System) → SystemAt s w system → (values : List Fraction) → IsSystemEnd system (end.Vertex values) → (q : Option Node)
        → s.question w.start w.past (parts_of values) ≡ q → ⊥
    at_vertex system is values vertex None none = at_settled system is values vertex (λ m question may. none_some m (sym none ∙ question))
    at_vertex system is values vertex (Some n) asks = at_question system is values vertex n asks (is_some (asked s w.start w.past n)) refl

    at_leaf : (system : System) → SystemAt s w system → (ts : List (ℕ × ℤ)) → IsSystemEnd system (end.Refuted ts) → ⊥
    at_leaf system is ts refuted = none (
      Left (done + 1) kind.Leaf,
      record {
        before = done;
        number_is = refl;
        within = omega arith;
        word = w;
        visited = visited;
        holds = record {
          multipliers = ts;
          refuted = record { system = system; is = is; holds = refuted };
          leaves = λ stays. next (node.Leaf ts) (record { refuted = record { system = system; is = is; holds = refuted }; in_range = stays });
        };
      },
    )

    at_end : (system : System) → SystemAt s w system → (e : End) → IsSystemEnd system e → ⊥
    at_end system is (end.Refuted ts) h = at_leaf system is ts h
    at_end system is (end.Vertex values) h = at_vertex system is values h (s.question w.start w.past (parts_of values)) refl

    at_overflow : (system : System) → SystemAt s w system → RunOverflows system → ⊥
    at_overflow system is over = none (
      Left (done + 1) (kind.Pivot over.0),
      record {
        before = done;
        number_is = refl;
        within = omega arith;
        word = w;
        visited = visited;
        holds = record { system = system; is = is; holds = over.1 };
      },
    )

    at_word : ⊥
    at_word =
        let system = has.systems w lives.comes lives.bounds in
        system_ends system.0 (λ e. at_end system.0 system.1 e.0 e.1) (at_overflow system.0 system.1)

  go : (left done : ℕ) (ns : List Node) (ws : List (Pending E)) → Visits s s.roots ns ws → length ns ≡ done → done + left ≡ budget → AllByRecursion (Lives s) ws
      → ⊥
  go left done ns [] visits counted all lives = none (Whole ns (length ns), record { visits = visits; counted = refl; within = omega arith })
  go zero done ns (w ∷ ws) visits counted all lives = none
      (Stopped budget, record { counted = refl; word = w; visited = record { nodes = ns; words = ws; visits = visits; counted = omega arith } })
  go (suc left) done ns (w ∷ ws) visits counted all lives =
      at_word w lives.0 done (omega arith) (record { nodes = ns; words = ws; visits = visits; counted = counted })
      (λ n stands. go left (done + 1) (ns ++ n ∷ []) (parts s w n ++ ws) (visits_more s s.roots ns w ws n visits stands)
      (omega (arith, length-append ns (n ∷ []))) (omega arith) (each_append (Lives s) (parts s w n) ws (parts_live s w n has lives.0 stands) lives.1))

  ends : ⊥
  ends = go budget 0 [] s.roots refl refl (omega arith) (roots_live s s.roots (λ w is. is) has.unbounded)

pub searches_end : {E : Type 0} → SearchesHaveEnds E
searches_end s has budget none = ends s has budget none
