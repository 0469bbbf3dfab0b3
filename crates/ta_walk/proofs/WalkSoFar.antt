-- what is known at each node of a visit
use Rattle.ta_walk.proofs.Common.{◌≡◌, ℕ, ◌+◌, ◌≤◌, true, false, List, [], ◌∷◌, ◌++◌, length, arith, refl, subst, Ok, length-append, AllByRecursion, Node}
use Rattle.ta_walk.proofs.Common.{Pending, Search, parts, here_at, AllWithin, AllGoOn, Visits, NodeAt, TreeIs, IsUnbounded}
use Rattle.ta_encode.specs.declared.cursor_place.Place.{Place}
use Rattle.ta_encode.proofs.TreesLeft.{here_first, here_is, later_words}
use Rattle.ta_walk.proofs.WordsVisited.{roots_wait, left_wait}

-- before a node, behind these
pub record WalkSoFar {E : Type 0} (s : Search E) (place : Place E) (done : ℕ) (found : List Node) : Type 0 where
  pub pending : List (Pending E)
  pub within : AllWithin s place pending
  pub visits : Visits s s.roots found pending
  pub counted : length found ≡ done

-- a visit goes on by one node
pub visits_more : {E : Type 0} (s : Search E) (ws : List (Pending E)) (ns : List Node) (w : Pending E) (rest : List (Pending E)) (n : Node)
    → Visits s ws ns (w ∷ rest) → NodeAt s w n → Visits s ws (ns ++ n ∷ []) (parts s w n ++ rest)
visits_more s ws [] w rest n visits stands = subst (λ (us : List (Pending _)). Visits s us (n ∷ []) (parts s w n ++ rest)) visits (stands, refl)
visits_more s [] (m ∷ ms) w rest n visits stands = absurd visits
visits_more s (v ∷ ws) (m ∷ ms) w rest n visits stands = (visits.0, visits_more s (parts s v m ++ ws) ms w rest n visits.1 stands)

-- the same, at the word of the place
record AtHere {E : Type 0} (s : Search E) (place : Place E) (found : List Node) : Type 0 where
  pub words : List (Pending E)
  pub within : AllWithin s place (here_at place ∷ words)
  pub visits : Visits s s.roots found (here_at place ∷ words)

at_here : {E : Type 0} (s : Search E) (place : Place E) (done : ℕ) (found : List Node) → WalkSoFar s place done found → AtHere s place found
at_here s place done found so = record {
  words = later_words s place so.pending so.within;
  within = here_first s place so.pending so.within;
  visits = subst (λ (ws : List (Pending _)). Visits s s.roots found ws) (here_is s place so.pending so.within) so.visits;
}

-- each node adds at most one bound to a word
pub walk_few : {E : Type 0} (s : Search E) (place : Place E) (done : ℕ) (found : List Node) → AllByRecursion IsUnbounded s.roots → WalkSoFar s place done found
    → length place.cursor.bounds.items ≤ done
walk_few s place done found none so =
    let at = at_here s place done found so in
    let few = (left_wait s 0 s.roots found (here_at place ∷ at.words) (roots_wait s none) at.visits).0.few in
    omega arith

went_on : {E : Type 0} (s : Search E) (new : Place E) (ws : List (Pending E)) → AllGoOn s new ws (Ok true) → AllWithin s new ws
went_on s new [] goes = absurd (cc)
went_on s new (w ∷ ws) goes = goes.1

ended : {E : Type 0} (s : Search E) (new : Place E) (ws : List (Pending E)) → AllGoOn s new ws (Ok false) → ws ≡ []
ended s new [] goes = refl
ended s new (w ∷ ws) goes = absurd (let e = goes.0 in cc)

-- it goes on to the next node
pub walk_goes : {E : Type 0} (s : Search E) (place new : Place E) (done : ℕ) (found : List Node) (m : Node) → WalkSoFar s place done found
    → NodeAt s (here_at place) m →
    ((w : Pending E) (words : List (Pending E)) → AllWithin s place (w ∷ words) → AllGoOn s new (parts s w m ++ words) (Ok true)) →
    WalkSoFar s new (done + 1) (found ++ m ∷ [])
walk_goes s place new done found m so stands goes =
    let at = at_here s place done found so in
    let counted = so.counted in
    record {
      pending = parts s (here_at place) m ++ at.words;
      within = went_on s new (parts s (here_at place) m ++ at.words) (goes (here_at place) at.words at.within);
      visits = visits_more s s.roots found (here_at place) at.words m at.visits stands;
      counted = omega (arith, length-append found (m ∷ []));
    }

-- no word is left
pub walk_refutes : {E : Type 0} (s : Search E) (place new : Place E) (done budget : ℕ) (found : List Node) (m : Node) → WalkSoFar s place done found
    → NodeAt s (here_at place) m →
    ((w : Pending E) (words : List (Pending E)) → AllWithin s place (w ∷ words) → AllGoOn s new (parts s w m ++ words) (Ok false)) →
    done + 1 ≤ budget → TreeIs s budget (found ++ m ∷ []) (done + 1)
walk_refutes s place new done budget found m so stands goes within =
    let at = at_here s place done found so in
    let counted = so.counted in
    let none = ended s new (parts s (here_at place) m ++ at.words) (goes (here_at place) at.words at.within) in
    record {
      visits = subst (λ (ws : List (Pending _)). Visits s s.roots (found ++ m ∷ []) ws) none
          (visits_more s s.roots found (here_at place) at.words m at.visits stands);
      counted = omega (arith, length-append found (m ∷ []));
      within = within;
    }
