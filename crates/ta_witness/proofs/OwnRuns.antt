-- a run of an ending is, less the mark of an added event, a run of the pattern itself
use Rattle.ta_witness.proofs.Common.{slice_get_left, point_of, Value, unit_steps-append}
use Rattle.ta_witness.proofs.RestCommon.{◌≡◌, inl, inr, ℕ, zero, suc, ◌+◌, ◌<◌, ℤ, Bool, true, false, List, [], ◌∷◌, ◌++◌, length, length-append, append-nil}
use Rattle.ta_witness.proofs.RestCommon.{cond}
use Rattle.ta_witness.proofs.RestCommon.{take, get_or, arith, sym, ap, ◌∙◌, refl, subst, slice_get, Some, IsBitSet, slice_index, cases_Bool, false≢true}
use Rattle.ta_witness.proofs.RestCommon.{same_Some}
use Rattle.ta_witness.proofs.RestCommon.{slice_get-get_or, slice_get_within, AllByRecursion, at_set, bit_set, bit_true, each_at, each_from, each_front}
use Rattle.ta_witness.proofs.RestCommon.{Automaton}
use Rattle.ta_witness.proofs.RestCommon.{Pattern, File, has_bit, At, Config, Holds, after_earlier, pattern_within, Endings, IsEnding, LastMoved, RestAdded}
use Rattle.ta_witness.proofs.RestCommon.{events_below, EndingsOf, AtRest, ComeAfterEarlier, RestOccurs, back_of, endings_rest, moved_count, Run, RunLine, Step}
use Rattle.ta_witness.proofs.RestCommon.{Mark, Fits, LineFits, ConditionStays, LineStays, NumbersStay, ReplayStays, Shows, ValuesAfter, IsFirstConfig}
use Rattle.ta_witness.proofs.RestCommon.{MarkedOnce}
use Rattle.ta_witness.proofs.RestCommon.{MarksAt, ShowsPattern, unit_steps, OwnRunsRest, OccursAtRest, ending_run, marked_at_end, Event}
use Rattle.std.proofs.lemmas.Nat.Bits.{bit_at_ones}
use Rattle.ta_base.proofs.Lists.{slice_get_right, none_of_empty}
use Rattle.ta_automaton.specs.declared.condition.Condition.{Condition}
use Rattle.ta_automaton.proofs.Trails.{run_length}
use Rattle.ta_counter.specs.Configs.{naturals}
use Rattle.ta_rest.proofs.EndingShapes.{ending_last}
use Rattle.ta_witness.proofs.Ends.{begins_same, ends_same}
use Rattle.std.proofs.lemmas.List.{take-append-le}
use Rattle.ta_automaton.specs.Runs as runs

-- the pattern of an ending
pub ending_at : (ps qs : List Pattern) → Endings ps qs → (k : ℕ) (q : Pattern) → slice_get qs k ≡ Some q → (p : Pattern) × (slice_get ps k ≡ Some p)
    × IsEnding p q
ending_at ps [] h k q at = absurd (cc)
ending_at [] (r ∷ qs) h k q at = absurd h
ending_at (p ∷ ps) (r ∷ qs) h zero q at = (p, refl, subst (IsEnding p) (same_Some r q at) h.0)
ending_at (p ∷ ps) (r ∷ qs) h (suc k) q at = ending_at ps qs h.1 k q at

-- a pattern whose last event is moved
marked_moved : (lines : List RunLine) (first : Config) (later : List Config) (e : ℕ) (event other : Event) → other.condition ≡ event.condition
    → MarkedOnce lines first later e event → MarkedOnce lines first later e other
marked_moved lines first later e event other same m = record {
  line = m.line;
  marked = m.marked;
  once = m.once;
  happens = (m.happens.0, m.happens.1, subst (λ (c : Condition). Holds c m.happens.0) (sym same) m.happens.2);
}

shows_moved : (a : Automaton) (p q : Pattern) (run : Run) → IsEnding p q → LastMoved p.events q.events → ComeAfterEarlier p → ShowsPattern a q run
    → ShowsPattern a p run
shows_moved a p q run h m early s = record {
  first = s.first;
  later = s.later;
  begins = s.begins;
  follows = s.follows;
  start = subst (λ (c : Condition). Holds c s.first) h.start s.start;
  kept_empty = λ k c at l set. s.kept_empty k c at l (subst (λ n. IsBitSet n l) (sym h.empty) set);
  marked = λ e event at.
      let w = back_of p.events q.events m e event at in
      marked_moved run.lines s.first s.later e w.0 event w.2 (s.marked e w.0 w.1);
  in_order = λ e f i event at set mark.
      let w = back_of p.events q.events m e event at in
      elim w.3 [
        | inl last ↦ (
            let below : f < e = early e event at f set in
            let after = (ending_last p q h).last e w.0 last w.1 in
            s.in_order e f i w.0 w.1 (subst (λ n. IsBitSet n f) (sym after) (at_set (events_below e) f (bit_at_ones e f below))) mark)
        | inr same ↦ s.in_order e f i w.0 w.1 (subst (λ n. IsBitSet n f) same set) mark
      ];
}

line_moved : (a : Automaton) (p q : Pattern) → LastMoved p.events q.events → (line : RunLine) → LineFits a q line → LineFits a p line
line_moved a p q m (Step r factor) fits = fits
line_moved a p q m (Mark e) fits = let c = moved_count p.events q.events m in omega arith

lines_moved : (a : Automaton) (p q : Pattern) → LastMoved p.events q.events → (lines : List RunLine) → AllByRecursion (LineFits a q) lines
    → AllByRecursion (LineFits a p) lines
lines_moved a p q m [] fits = tt
lines_moved a p q m (line ∷ lines) fits = (line_moved a p q m line fits.0, lines_moved a p q m lines fits.1)

line_stays_moved : (a : Automaton) (p q : Pattern) → LastMoved p.events q.events → (values : List ℤ) (line : RunLine) → LineStays a q values line
    → LineStays a p values line
line_stays_moved a p q m values (Step r factor) stays = stays
line_stays_moved a p q m values (Mark e) stays = λ event at.
    let w = back_of p.events q.events m e event at in
    subst (ConditionStays (point_of values)) (sym w.2) (stays w.0 w.1)

stays_moved : (a : Automaton) (p q : Pattern) (run : Run) → IsEnding p q → LastMoved p.events q.events → NumbersStay a q run → NumbersStay a p run
stays_moved a p q run h m s = record {
  resilience = s.resilience;
  processes = s.processes;
  sum = s.sum;
  start = λ first starts. subst (ConditionStays (point_of first)) h.start (s.start first starts);
  lines = λ i line values at reached. line_stays_moved a p q m values line (s.lines i line values at reached);
}

-- a pattern that got an event
last_line : (lines : List RunLine) → MarksAt (lines ++ Mark 0 ∷ []) (length lines) 0
last_line lines = slice_get_right lines (Mark 0 ∷ []) (length lines) 0 (omega arith)

-- no line before the mark is one
unmarked : (a : Automaton) (p q : Pattern) (run : Run) → RestAdded p.events q.events → ShowsPattern a q (marked_at_end run) → (i e : ℕ) → MarksAt run.lines i e
    → e < length q.events → ⊥
unmarked a p q run m s i e at b =
    let one : length q.events ≡ 1 = ap (λ (xs : List Event). length xs) m.is in
    let zero_is : e ≡ 0 = omega arith in
    let event : slice_get q.events 0 ≡ Some m.event = ap (λ (xs : List Event). slice_get xs 0) m.is in
    let mark = s.marked 0 m.event event in
    let here = mark.once i (slice_get_left run.lines (Mark 0 ∷ []) i (Mark 0) (subst (MarksAt run.lines i) zero_is at)) in
    let there = mark.once (length run.lines) (last_line run.lines) in
    let within = slice_get_within run.lines i (Mark e) at in
    omega arith

shows_added : (a : Automaton) (p q : Pattern) (run : Run) → IsEnding p q → RestAdded p.events q.events → ShowsPattern a q (marked_at_end run)
    → ShowsPattern a p run
shows_added a p q run h m s =
    let steps : unit_steps (run.lines ++ Mark 0 ∷ []) ≡ unit_steps run.lines = unit_steps-append run.lines (Mark 0 ∷ []) ∙ append-nil (unit_steps run.lines) in
    record {
      first = s.first;
      later = s.later;
      begins = record { parameters = s.begins.parameters; counts = s.begins.counts };
      follows = subst (λ (rules : List ℕ). runs.Run a s.first rules s.later) steps s.follows;
      start = subst (λ (c : Condition). Holds c s.first) h.start s.start;
      kept_empty = λ k c at l set. s.kept_empty k c at l (subst (λ n. IsBitSet n l) (sym h.empty) set);
      marked = λ e event at. absurd (none_of_empty p.events m.none e event at);
      in_order = λ e f i event at set mark. absurd (none_of_empty p.events m.none e event at);
    }

line_added : (a : Automaton) (p q : Pattern) (run : Run) → RestAdded p.events q.events → ShowsPattern a q (marked_at_end run) → (i : ℕ) (line : RunLine)
    → slice_get run.lines i ≡ Some line → LineFits a q line → LineFits a p line
line_added a p q run m s i (Step r factor) at fits = fits
line_added a p q run m s i (Mark e) at fits = absurd (unmarked a p q run m s i e at fits)

line_stays_added : (a : Automaton) (p q : Pattern) → RestAdded p.events q.events → (values : List ℤ) (line : RunLine) → LineStays a q values line
    → LineStays a p values line
line_stays_added a p q m values (Step r factor) stays = stays
line_stays_added a p q m values (Mark e) stays = λ event at. absurd (none_of_empty p.events m.none e event at)

stays_added : (a : Automaton) (p q : Pattern) (run : Run) → IsEnding p q → RestAdded p.events q.events → NumbersStay a q (marked_at_end run)
    → NumbersStay a p run
stays_added a p q run h m s = record {
  resilience = s.resilience;
  processes = s.processes;
  sum = s.sum;
  start = λ first starts. subst (ConditionStays (point_of first)) h.start (s.start first starts);
  lines = λ i line values at reached.
      let within = slice_get_within run.lines i line at in
      let front : take i (run.lines ++ Mark 0 ∷ []) ≡ take i run.lines = take-append-le i run.lines (Mark 0 ∷ []) (omega arith) in
      line_stays_added a p q m values line
      (s.lines i line values (slice_get_left run.lines (Mark 0 ∷ []) i line at)
      (subst (λ (ls : List RunLine). ValuesAfter a (marked_at_end run) ls values) (sym front)
      (record { first = reached.first; starts = reached.starts; places = reached.places; changed = reached.changed })));
}

-- what a pattern's own run needs: it fits, it shows the pattern, and no number leaves the range
record Accepted (a : Automaton) (p : Pattern) (run : Run) : Type 0 where
  lines : AllByRecursion (LineFits a p) run.lines
  shows : ShowsPattern a p run
  stays : NumbersStay a p run

-- either way
accepted_moved : (a : Automaton) (p q : Pattern) (run : Run) → IsEnding p q → LastMoved p.events q.events → ComeAfterEarlier p → Accepted a q run
    → Accepted a p run
accepted_moved a p q run h m early s = record {
  lines = lines_moved a p q m run.lines s.lines;
  shows = shows_moved a p q run h m early s.shows;
  stays = stays_moved a p q run h m s.stays;
}

accepted_added : (a : Automaton) (p q : Pattern) (run : Run) → IsEnding p q → RestAdded p.events q.events → Accepted a q (marked_at_end run) → Accepted a p run
accepted_added a p q run h m s = record {
  lines = each_from (LineFits a p) run.lines
      (λ i line at. line_added a p q run m s.shows i line at
      (each_at (LineFits a q) run.lines i line (each_front (LineFits a q) run.lines (Mark 0 ∷ []) s.lines) at));
  shows = shows_added a p q run h m s.shows;
  stays = stays_added a p q run h m s.stays;
}

-- a pattern without events has its bit in the mask, and no other has
accepted_own : (file ending : File) (added : ℕ) → EndingsOf file ending added → (run : Run) (p q : Pattern) → slice_get file.patterns run.pattern ≡ Some p
    → IsEnding p q → Accepted file.automaton q (ending_run added run) → Accepted file.automaton p run
accepted_own file ending added ends run p q named h s = elim (cases_Bool (has_bit added run.pattern)) [
  | inl t ↦ (
      let w = (ends.added run.pattern).0 (bit_set added run.pattern t) in
      let same : w.0 ≡ p = same_Some w.0 p (sym w.1 ∙ named) in
      let none : p.events ≡ [] = ap (λ (x : Pattern). x.events) (sym same) ∙ w.2 in
      let marked = subst (λ (r : Run). Accepted file.automaton q r) (ap (λ b. cond b (marked_at_end run) run) t) s in
      elim h.events [
        | inl m ↦ absurd (let size = ap (λ (xs : List Event). length xs) (sym m.was ∙ none) in omega (arith, length-append m.front (m.last ∷ [])))
        | inr m ↦ accepted_added file.automaton p q run h m marked
      ])
  | inr f ↦ (
      let plain = subst (λ (r : Run). Accepted file.automaton q r) (ap (λ b. cond b (marked_at_end run) run) f) s in
      elim h.events [
        | inl m ↦ accepted_moved file.automaton p q run h m
            (after_earlier (length file.automaton.parameters + length file.automaton.shared + length file.automaton.locations) (length file.automaton.locations)
            p (pattern_within file run.pattern p named)) plain
        | inr m ↦ absurd (false≢true (sym f ∙ bit_true added run.pattern ((ends.added run.pattern).1 (p, named, m.none))))
      ])
]

-- both runs have the same steps, and begin alike
pub record SameSteps (r s : Run) : Type 0 where
  pub parameters : r.parameters ≡ s.parameters
  pub counts : r.counts ≡ s.counts
  pub pattern : r.pattern ≡ s.pattern
  pub steps : unit_steps r.lines ≡ unit_steps s.lines

pub ending_steps : (added : ℕ) (run : Run) → SameSteps (ending_run added run) run
ending_steps added run = both (has_bit added run.pattern) where
  both : (b : Bool) → SameSteps (cond b (marked_at_end run) run) run
  both true = record { parameters = refl; counts = refl; pattern = refl; steps = unit_steps-append run.lines (Mark 0 ∷ []) ∙ append-nil (unit_steps run.lines) }
  both false = record { parameters = refl; counts = refl; pattern = refl; steps = refl }

begins_moved : (a : Automaton) (r s : Run) (c : Config) → SameSteps r s → IsFirstConfig a s c → IsFirstConfig a r c
begins_moved a r s c same b = record {
  parameters = b.parameters ∙ ap naturals (sym same.parameters);
  counts = λ j l at. b.counts j l at ∙ ap (λ (zs : List ℤ). slice_index (naturals zs) j) (sym same.counts);
}

-- the run of the pattern itself begins as that of its ending
pub begins_own : (added : ℕ) (run : Run) (a : Automaton) (c : Config) → IsFirstConfig a (ending_run added run) c → IsFirstConfig a run c
begins_own added run a c b =
    let same = ending_steps added run in
    record {
      parameters = b.parameters ∙ ap naturals same.parameters;
      counts = λ j l initial. b.counts j l initial ∙ ap (λ (zs : List ℤ). slice_index (naturals zs) j) same.counts;
    }

-- where an ending comes to rest in its run, the file's own pattern does in its own
pub own_occurs : (file ending : File) (added : ℕ) → EndingsOf file ending added → (run : Run) (p q : Pattern) → slice_get file.patterns run.pattern ≡ Some p
    → slice_get ending.patterns run.pattern ≡ Some q → OccursAtRest ending.automaton q (ending_run added run) → OccursAtRest file.automaton p run
own_occurs file ending added ends run p q named at o =
    let r = ending_run added run in
    let same = ending_steps added run in
    let w = ending_at file.patterns ending.patterns ends.patterns run.pattern q at in
    let is : IsEnding p q = subst (λ (x : Pattern). IsEnding x q) (same_Some w.0 p (sym w.1 ∙ named)) w.2 in
    let there : OccursAtRest file.automaton q r = subst (λ (a : Automaton). OccursAtRest a q r) ends.automaton o in
    record {
      first = there.first;
      begins = begins_own added run file.automaton there.first there.begins;
      occurs = (endings_rest file.automaton p q is there.first (unit_steps run.lines)).1
          (subst (RestOccurs file.automaton q there.first) same.steps there.occurs);
    }

-- wherever the one shows a pattern it ends where the other does
end_alike : (a : Automaton) (p q : Pattern) (r s : Run) → SameSteps r s → (x : ShowsPattern a p r) (y : ShowsPattern a q s) (c d : Config)
    → At x.first x.later (length (unit_steps r.lines)) c → At y.first y.later (length (unit_steps s.lines)) d → c ≡ d
end_alike a p q r s same x y c d at there =
    let follows = subst (λ (rules : List ℕ). runs.Run a x.first rules x.later) same.steps x.follows in
    let here = subst (λ (rules : List ℕ). At x.first x.later (length rules) c) same.steps at in
    ends_same a x.first y.first (unit_steps s.lines) x.later y.later follows y.follows
    (begins_same a r x.first y.first x.follows.initial y.follows.initial x.begins (begins_moved a r s y.first same y.begins)) (length (unit_steps s.lines))
    c d here there

-- a run that shows a pattern has an end
end_there : (a : Automaton) (p : Pattern) (r : Run) (x : ShowsPattern a p r) → (c : Config) × At x.first x.later (length (unit_steps r.lines)) c
end_there a p r x =
    let n = length (unit_steps r.lines) in (
      get_or (x.first ∷ x.later) n x.first,
      slice_get-get_or (x.first ∷ x.later) n x.first
          (omega (arith, run_length a x.first (unit_steps r.lines) x.later x.follows.steps)),
    )

-- wherever a run shows a pattern its end is at rest, whatever rest is
AlwaysRests : (Automaton → Config → Type 0) → Automaton → Pattern → Run → Type 0
AlwaysRests Rests a q r = (x : ShowsPattern a q r) (c : Config) → At x.first x.later (length (unit_steps r.lines)) c → Rests a c

rests_alike : (Rests : Automaton → Config → Type 0) (a : Automaton) (p q : Pattern) (r s : Run) → SameSteps r s → ShowsPattern a q r → AlwaysRests Rests a q r
    → AlwaysRests Rests a p s
unfolding AlwaysRests
rests_alike Rests a p q r s same x rests y d there =
    let end = end_there a q r x in
    subst (Rests a) (end_alike a q p r s same x y end.0 d end.1 there) (rests x end.0 end.1)

-- the run fits the file, it shows the pattern that it names, no number of its replay leaves the range, and its last configuration rests
pub record ComesToAny (Rests : Automaton → Config → Type 0) (file : File) (run : Run) : Type 0 where
  pub fits : Fits file run
  pub shows : Shows file run
  pub stays : ReplayStays file run
  pub rests : (shown : Shows file run) (c : Config) → At shown.shows.first shown.shows.later (length (unit_steps run.lines)) c → Rests file.automaton c

-- a run of an ending that comes to rest is, less the mark of an added event, one of the file's own pattern that does
pub own_comes : (Rests : Automaton → Config → Type 0) (file ending : File) (added : ℕ) → EndingsOf file ending added → (run : Run)
    → ComesToAny Rests ending (ending_run added run) → ComesToAny Rests file run
unfolding AlwaysRests
own_comes Rests file ending added ends run c =
    let r = ending_run added run in
    let same = ending_steps added run in
    let q = c.fits.pattern in
    let at : slice_get ending.patterns run.pattern ≡ Some q = ap (slice_get ending.patterns) (sym same.pattern) ∙ c.fits.named in
    let w = ending_at file.patterns ending.patterns ends.patterns run.pattern q at in
    let p = w.0 in
    let alike : c.shows.pattern ≡ q = same_Some c.shows.pattern q (sym c.shows.named ∙ c.fits.named) in
    let shown : ShowsPattern ending.automaton q r = subst (λ (x : Pattern). ShowsPattern ending.automaton x r) alike c.shows.shows in
    let all : Accepted ending.automaton q r = record { lines = c.fits.lines; shows = shown; stays = c.stays q c.fits.named } in
    let there : Accepted file.automaton q r = subst (λ (a : Automaton). Accepted a q r) ends.automaton all in
    let own : Accepted file.automaton p run = accepted_own file ending added ends run p q w.1 w.2 there in
    let rest : AlwaysRests Rests ending.automaton q r = (λ x d end. c.rests (record { pattern = q; named = c.fits.named; shows = x }) d end) in
    let rests : AlwaysRests Rests file.automaton q r = subst (λ (a : Automaton). AlwaysRests Rests a q r) ends.automaton rest in
    record {
      fits = record {
        pattern = p;
        named = w.1;
        parameters = ap (λ (zs : List ℤ). length zs) (sym same.parameters) ∙ c.fits.parameters ∙ ap (λ (a : Automaton). length a.parameters) ends.automaton;
        parameters_natural = subst (AllByRecursion Value) same.parameters c.fits.parameters_natural;
        counts = ap (λ (zs : List ℤ). length zs) (sym same.counts) ∙ c.fits.counts ∙ ap (λ (a : Automaton). length a.initial) ends.automaton;
        counts_natural = subst (AllByRecursion Value) same.counts c.fits.counts_natural;
        lines = own.lines;
      };
      shows = record { pattern = p; named = w.1; shows = own.shows };
      stays = λ x named. subst (λ (z : Pattern). NumbersStay file.automaton z run) (same_Some p x (sym w.1 ∙ named)) own.stays;
      rests = λ other d end. rests_alike Rests file.automaton other.pattern q r run same there.shows rests other.shows d end;
    }

pub own_rest : OwnRunsRest
own_rest file ending added ends run c =
    let own = own_comes AtRest file ending added ends run (record { fits = c.fits; shows = c.shows; stays = c.stays; rests = c.rests }) in
    record { fits = own.fits; shows = own.shows; stays = own.stays; rests = own.rests }
