-- how a visit of moments ends at a whole node: its run shows the pattern, or a number of the run leaves the range
use Rattle.ta_walk.proofs.Common.{known_at, moving_rules, reverse, list_all, Comes, Pending, Search, InRange, TreeEnd, IsTreeEnd, NodeOf, IsOutOfRangeAt}
use Rattle.ta_walk.proofs.Common.{PlaceKind, Fact, QuestionsMayBeAsked, fits, candidate_of, NoQuestionLeavesNothing, MomentEncoding, IsKeptAt, NodeIs}
use Rattle.ta_walk.proofs.Common.{moment_maker, node_of, asking_of, search_of_moments, EncodesSomeWhole, MomentRunOf, MomentEnd, EndsIn, EndsAtNode}
use Rattle.ta_moments.proofs.Common.{◌≡◌, ◌∙◌, Bool, ℕ, ◌^◌, ℤ, pos, ◌<ℤ◌, ◌≤ℤ◌, List, [], ◌∷◌, ◌++◌, drop, length, slice_get, true, Some, arith, ints}
use Rattle.ta_moments.proofs.Common.{and_from, refl, sym, ap, subst, same_Some, AllByRecursion, In, candidates, Automaton, File, Pattern, Moment, Asking}
use Rattle.ta_moments.proofs.Common.{Known, Node}
use Rattle.ta_automaton.specs.Numbered.{OfPattern}
use Rattle.ta_base.proofs.Each.{known_naturals}
use Rattle.ta_cert.specs.declared.line.Node.{Node as TreeNode}
use Rattle.ta_replay.specs.declared.run.Run.{Run}
use Rattle.ta_walk.specs.Ends.{WholeNode as WholeNodeAt}
use Rattle.ta_walk.proofs.WordsSolved.{whole_solves}
use Rattle.ta_walk.proofs.WordsVisited.{left_wait, roots_wait}
use Rattle.ta_moments.specs.Whole.{WholeNode}
use Rattle.ta_moment_tree.specs.Makers.{moments_of}
use Rattle.ta_moment_tree.specs.declared.moment_tree.MomentTree.{MomentTree}
use Rattle.ta_moment_tree.specs.declared.kept.MomentKept.{MomentKept}
use Rattle.ta_walk.proofs.Fitting.{fits_in}
use Rattle.ta_witness.specs.Given.{EncodesWhole, LeavesRange, RunOfEncoding}
use Rattle.ta_witness.specs.Stops.{PiecesTo, event_stops, no_counts, sorted_stops, stops_of}
use Rattle.ta_walk.specs.declared.moment_end.MomentEnd.TheVariants.{Refuted, Found as FoundRun, Spent, Overflow}
use Rattle.ta_walk.specs.MomentEnds.{LostAt}
use Rattle.ta_walk.specs.Found.{FoundAt, RunAt, RunLeaves, ShownRun}
use Rattle.ta_walk.specs.Inside.Showing.{GivenRun}
use Rattle.ta_walk.proofs.Answered.{comes_once}
use Rattle.ta_walk.proofs.FormsStay.{moments_stay}
use Rattle.ta_walk.proofs.NodesMade.{roots_unbounded}
use Rattle.ta_walk.proofs.RunsOnce.{naturals_once}
use Rattle.ta_walk.proofs.Taken.{scaled_solve}
use Rattle.ta_walk.proofs.WholeNodes.{HasValues, whole_node}
use Rattle.ta_walk.specs.declared.end.PlaceKind.TheVariants as kind

-- ---- numbers in range
abbrev pub Limited : List ℤ → Type 0
Limited numbers = AllByRecursion (λ z. z <ℤ pos (2 ^ 127)) numbers

one_within : (z : ℤ) → pos 0 ≤ℤ z → z <ℤ pos (2 ^ 127) → InRange z
one_within z low high = omega (arith, ints, low, high)

all_within : (numbers : List ℤ) → AllByRecursion (λ z. pos 0 ≤ℤ z) numbers → Limited numbers → AllByRecursion (λ z. (pos 0 ≤ℤ z) × InRange z) numbers
all_within [] low high = tt
all_within (z ∷ zs) low high = ((low.0, one_within z low.0 high.0), all_within zs low.1 high.1)

all_fit : (numbers : List ℤ) → AllByRecursion (λ z. (pos 0 ≤ℤ z) × InRange z) numbers → list_all fits numbers ≡ true
all_fit [] h = refl
all_fit (z ∷ zs) h = and_from (fits z) (list_all fits zs) (fits_in z h.0.1) (all_fit zs h.1)

-- ---- a node, and its encoding
module _ (file : File) (number : ℕ) (p : Pattern) (named : slice_get file.patterns number ≡ Some p) (asking : Asking) where
  abbrev search : Search Fact
  search = moments_of file.automaton p asking

  encodes : (w : Pending Fact) (numbers : List ℤ) → (h : HasValues file.automaton p asking w numbers) → (encoding : MomentEncoding)
      → NodeIs file.automaton p asking.silent (candidate_of w.start) w.past encoding → EncodesWhole file number encoding numbers asking (node_of w) h.values
  encodes w numbers h encoding is = record {
    automaton = is.automaton;
    named = named ∙ ap (λ (q : Pattern). Some q) (sym is.pattern);
    encodes = is.is;
    are = h.are;
    whole = subst (λ (q : Pattern). WholeNode encoding.plan.task.automaton.now q asking (node_of w) h.values) (sym is.pattern)
        (subst (λ (b : Automaton). WholeNode b p asking (node_of w) h.values) (sym is.automaton) h.whole);
  }

  -- the encoding's run is the node's
  run_at : (w : Pending Fact) (numbers : List ℤ) → (h : HasValues file.automaton p asking w numbers) → (encoding : MomentEncoding)
      → NodeIs file.automaton p asking.silent (candidate_of w.start) w.past encoding → (run : Run) → RunOfEncoding file number encoding numbers run
      → RunAt file number asking (record { pending = w; numbers = numbers }) run
  run_at w numbers h encoding is run of = record {
    values = h.values;
    are = h.are;
    whole = record { pattern = p; named = named; whole = h.whole };
    is = of asking (node_of w) h.values (encodes w numbers h encoding is);
  }

-- the moments of two descriptions of an encoding's node are the same
moments_same : (file : File) (number : ℕ) (encoding : MomentEncoding) (numbers : List ℤ) (one other : Asking) (m n : Node) (vs ws : List ℕ)
    → EncodesWhole file number encoding numbers one m vs → EncodesWhole file number encoding numbers other n ws
    → (p : Pattern) → slice_get file.patterns number ≡ Some p → (known_at file.automaton p one m).moments ≡ (known_at file.automaton p other n).moments
moments_same file number encoding numbers one other m n vs ws h k p named =
    let a = encoding.plan.task.automaton.now in
    let q = encoding.plan.task.pattern.now in
    let same : q ≡ p = same_Some q p (sym h.named ∙ named) in
    let here : (known_at a q one m).moments ≡ (known_at a q other n).moments =
    ap (λ (k : Known). k.moments) (sym h.encodes.draft.known ∙ k.encodes.draft.known) in
    subst (λ (r : Pattern). (known_at file.automaton r one m).moments ≡ (known_at file.automaton r other n).moments) same
    (subst (λ (b : Automaton). (known_at b q one m).moments ≡ (known_at b q other n).moments) h.automaton here)

run_so : (file : File) (number : ℕ) (encoding : MomentEncoding) (numbers : List ℤ) (asking : Asking) (node : Node) (vs : List ℕ) (run : Run)
    → EncodesWhole file number encoding numbers asking node vs → MomentRunOf file number asking node vs run → RunOfEncoding file number encoding numbers run
run_so file number encoding numbers asking node vs run h is other n ws k =
    let a = file.automaton in
    let r = subst (λ (us : List ℕ). MomentRunOf file number asking node us run) (naturals_once vs ws (sym h.are ∙ k.are)) is in
    let p = r.pattern in
    record {
      pattern = p;
      named = r.named;
      same_pattern = r.same_pattern;
      parameters = r.parameters;
      counts = r.counts;
      pieces = r.pieces;
      are = subst
          (λ (ms : List Moment). PiecesTo a p no_counts (sorted_stops (moving_rules a p) (event_stops a p ws ++ stops_of ws (drop (length p.events) ms)))
          r.pieces)
          (moments_same file number encoding numbers asking other node n vs ws h k p r.named) r.are;
      lines = r.lines;
    }

-- ---- the end at a whole node
module _ (nothing : NoQuestionLeavesNothing) (may : QuestionsMayBeAsked) (file : File) (number : ℕ) (p : Pattern)
    (named : slice_get file.patterns number ≡ Some p) (asking : Asking) where
  abbrev moments : Search Fact
  moments = moments_of file.automaton p asking

  pub comes_found : (budget count start : ℕ) (facts : List Fact) (numbers : List ℤ)
      → (n : NodeOf moments budget count (WholeNodeAt moments start facts numbers)) → Comes moments n.word.start n.word.past
  comes_found budget count start facts numbers n =
      let unbounded = roots_unbounded file.automaton p asking (moment_maker file.automaton p asking) in
      (left_wait moments 0 moments.roots n.visited.nodes (n.word ∷ n.visited.words) (roots_wait moments unbounded) n.visited.visits).0.comes

  pub comes_there : (budget count start : ℕ) (facts : List Fact) (numbers : List ℤ) → NodeOf moments budget count (WholeNodeAt moments start facts numbers)
      → Comes moments start (reverse facts)
  comes_there budget count start facts numbers n =
      subst (λ (k : ℕ). Comes moments k (reverse facts)) (sym n.holds.start_is)
      (subst (Comes moments n.word.start) (sym n.holds.facts_are) (comes_found budget count start facts numbers n))

  known_within : (budget count start : ℕ) (facts : List Fact) (numbers : List ℤ) → NodeOf moments budget count (WholeNodeAt moments start facts numbers)
      → Limited numbers → AllByRecursion (λ z. (pos 0 ≤ℤ z) × InRange z) numbers
  known_within budget count start facts numbers n limited =
      let solution = whole_solves moments (scaled_solve file.automaton p asking) n.word numbers n.holds.whole in
      all_within numbers (subst (AllByRecursion (λ z. pos 0 ≤ℤ z)) (sym solution.1) (known_naturals solution.0)) limited

  -- what is kept is the node's encoding
  kept_is : (budget count start : ℕ) (facts : List Fact) (numbers : List ℤ) → (n : NodeOf moments budget count (WholeNodeAt moments start facts numbers))
      → (kept : MomentKept) → IsKeptAt file.automaton p asking.silent (candidate_of start) (reverse facts) kept
      → (encoding : MomentEncoding) → kept.node ≡ Some encoding → NodeIs file.automaton p asking.silent (candidate_of n.word.start) n.word.past encoding
  kept_is budget count start facts numbers n kept at encoding e =
      let same : at.node ≡ encoding = same_Some at.node encoding (sym at.is ∙ e) in
      subst (λ (past : List Fact). NodeIs file.automaton p asking.silent (candidate_of n.word.start) past encoding) n.holds.facts_are
      (subst (λ (k : ℕ). NodeIs file.automaton p asking.silent (candidate_of k) (reverse facts) encoding) n.holds.start_is
      (subst (λ (node : MomentEncoding). NodeIs file.automaton p asking.silent (candidate_of start) (reverse facts) node) same at.of))

  has_values : (budget count start : ℕ) (facts : List Fact) (numbers : List ℤ) → (n : NodeOf moments budget count (WholeNodeAt moments start facts numbers))
      → Limited numbers
      → (encoding : MomentEncoding) → NodeIs file.automaton p asking.silent (candidate_of n.word.start) n.word.past encoding
      → HasValues file.automaton p asking n.word numbers
  has_values budget count start facts numbers n limited encoding is =
      let listed = subst (λ (q : Pattern). In (candidate_of n.word.start) (candidates q)) is.pattern is.is.listed in
      whole_node nothing may file.automaton p asking n.word numbers listed (comes_found budget count start facts numbers n)
      (all_fit numbers (known_within budget count start facts numbers n limited)) n.holds.whole

  pub encodes_some : (budget count start : ℕ) (facts : List Fact) (numbers : List ℤ) → NodeOf moments budget count (WholeNodeAt moments start facts numbers)
      → Limited numbers
      → (kept : MomentKept) → IsKeptAt file.automaton p asking.silent (candidate_of start) (reverse facts) kept
      → (encoding : MomentEncoding) → kept.node ≡ Some encoding → EncodesSomeWhole file number encoding numbers
  encodes_some budget count start facts numbers n limited kept at encoding e =
      let is = kept_is budget count start facts numbers n kept at encoding e in
      let has = has_values budget count start facts numbers n limited encoding is in
      record { asking = asking; node = node_of n.word; values = has.values; is = encodes file number p named asking n.word numbers has encoding is }

  -- the run that is given is the node's
  shown : (w : Pending Fact) (numbers : List ℤ) → Comes moments w.start w.past → (h : HasValues file.automaton p asking w numbers)
      → (encoding : MomentEncoding) → NodeIs file.automaton p asking.silent (candidate_of w.start) w.past encoding
      → (run : Run) → GivenRun file number encoding numbers run → ShownRun file number asking (record { pending = w; numbers = numbers }) run
  shown w numbers comes h encoding is run given =
      let whole = encodes file number p named asking w numbers h encoding is in
      record {
        is = run_at file number p named asking w numbers h encoding is run given.of;
        shows = given.shows;
        stays = given.stays.replay;
        short = given.short asking (node_of w) h.values whole
            (comes_once file.automaton p asking (moment_maker file.automaton p asking) w.start w.past comes);
      }

  -- where a number leaves the range, it is one of the run's replay
  lost : (w : Pending Fact) (numbers : List ℤ) → (h : HasValues file.automaton p asking w numbers) → Limited numbers → (encoding : MomentEncoding)
      → NodeIs file.automaton p asking.silent (candidate_of w.start) w.past encoding
      → LeavesRange file number encoding numbers → RunLeaves file number asking (record { pending = w; numbers = numbers })
  lost w numbers h limited encoding is leaves =
      let whole = encodes file number p named asking w numbers h encoding is in
      let within = all_within numbers (subst (AllByRecursion (λ z. pos 0 ≤ℤ z)) (sym h.are) (known_naturals h.values)) limited in
      let a = encoding.plan.task.automaton.now in
      let q = encoding.plan.task.pattern.now in
      let moments_in =
      moments_stay a q asking.silent (candidate_of w.start) w.past encoding.draft.moments.items (ap (λ (k : Known). k.moments) whole.encodes.draft.known)
      numbers within in
      record {
        leaves = λ run at replay.
            (let same = naturals_once at.values h.values (sym at.are ∙ h.are) in
            let own = subst (λ (vs : List ℕ). MomentRunOf file number asking (node_of w) vs run) same at.is in
            leaves.leaves run (run_so file number encoding numbers asking (node_of w) h.values run whole own)
            (record { moments = moments_in; replay = replay }));
      }

  found_there : (budget count start : ℕ) (facts : List Fact) (numbers : List ℤ) → (n : NodeOf moments budget count (WholeNodeAt moments start facts numbers))
      → (place : ℕ) → place ≡ count → NodeOf moments budget place (FoundAt moments (record { pending = n.word; numbers = numbers }))
  found_there budget count start facts numbers n place same =
      subst (λ (k : ℕ). NodeOf moments budget k (FoundAt moments (record { pending = n.word; numbers = numbers }))) (sym same)
      (record { before = n.before; number_is = n.number_is; within = n.within; word = n.word; visited = n.visited; holds = (refl, n.holds.whole) })

  at_node : (budget count start : ℕ) (facts : List Fact) (numbers : List ℤ) → (n : NodeOf moments budget count (WholeNodeAt moments start facts numbers))
      → Limited numbers
      → (encoding : MomentEncoding) → NodeIs file.automaton p asking.silent (candidate_of n.word.start) n.word.past encoding
      → (Keeps : List TreeNode → Type 0) (end : MomentEnd) → EndsAtNode file number encoding numbers count end
      → EndsIn moments file number asking budget Keeps end
  at_node budget count start facts numbers n limited encoding is Keeps (Refuted c leaves) g = absurd g
  at_node budget count start facts numbers n limited encoding is Keeps (Spent c) g = absurd g
  at_node budget count start facts numbers n limited encoding is Keeps (FoundRun c run) g =
      let has = has_values budget count start facts numbers n limited encoding is in
      record {
        found = record { pending = n.word; numbers = numbers };
        node = found_there budget count start facts numbers n c g.0;
        shown =
            shown n.word numbers (comes_found budget count start facts numbers n) has encoding is run g.1;
      }
  at_node budget count start facts numbers n limited encoding is Keeps (Overflow place where_at) g =
      let has = has_values budget count start facts numbers n limited encoding is in
      let lost_here : LostAt moments file number asking budget place kind.Run =
      record {
        found = record { pending = n.word; numbers = numbers };
        is = found_there budget count start facts numbers n place g.0;
        leaves =
            lost n.word numbers has limited encoding is g.2;
      } in
      subst (LostAt moments file number asking budget place) (sym g.1) lost_here

  -- how the visit ends at that node
  pub ends_there : (budget count start : ℕ) (facts : List Fact) (numbers : List ℤ) → NodeOf moments budget count (WholeNodeAt moments start facts numbers)
      → Limited numbers
      → (kept : MomentKept) → IsKeptAt file.automaton p asking.silent (candidate_of start) (reverse facts) kept
      → (Keeps : List TreeNode → Type 0) (end : MomentEnd)
      → ((encoding : MomentEncoding) → kept.node ≡ Some encoding → EndsAtNode file number encoding numbers count end)
      → EndsIn moments file number asking budget Keeps end
  ends_there budget count start facts numbers n limited kept at Keeps end h =
      at_node budget count start facts numbers n limited at.node (kept_is budget count start facts numbers n kept at at.node at.is) Keeps end
      (h at.node at.is)

-- where the visit itself leaves the range
pub lost_at : (s : Search Fact) (file : File) (number : ℕ) (asking : Asking) (budget node : ℕ) (place : PlaceKind)
    → NodeOf s budget node (λ w. IsOutOfRangeAt s w place) → LostAt s file number asking budget node place
lost_at s file number asking budget node (kind.Pivot pivot) h = h
lost_at s file number asking budget node kind.Leaf h = h
lost_at s file number asking budget node kind.Run h = absurd h.holds

-- ---- the visit of a tree
asking_is : (rest : Bool) (silent : List ℕ) (asking : Asking) → asking.rest ≡ rest → asking.silent ≡ silent
    → record { rest = rest; silent = silent } ≡ asking
asking_is rest silent asking r s =
    ap (λ (b : Bool). record { rest = b; silent = silent }) (sym r) ∙ ap (λ (places : List ℕ). record { rest = asking.rest; silent = places }) (sym s)

-- its search is that of the pattern's moments
pub same_search : (t : MomentTree) (file : File) (number : ℕ) (rest : Bool) (silent : List ℕ)
    → OfPattern file number (λ p. search_of_moments t ≡ moments_of file.automaton p (asking_of t)) → asking_of t ≡ record { rest = rest; silent = silent }
    → (asking : Asking) → asking.rest ≡ rest → asking.silent ≡ silent
    → (p : Pattern) → slice_get file.patterns number ≡ Some p → search_of_moments t ≡ moments_of file.automaton p asking
same_search t file number rest silent same own asking r s p named =
    same p named ∙ ap (λ (k : Asking). moments_of file.automaton p k) (own ∙ asking_is rest silent asking r s)

-- an end of the visit of one search is that of the other
pub tree_end : (s t : Search Fact) (budget : ℕ) (Keeps : List TreeNode → Type 0) (e f : TreeEnd Fact) → s ≡ t → e ≡ f → IsTreeEnd s budget Keeps e
    → IsTreeEnd t budget Keeps f
tree_end s t budget Keeps e f same is h = subst (λ (r : Search Fact). IsTreeEnd r budget Keeps f) same (subst (IsTreeEnd s budget Keeps) is h)
