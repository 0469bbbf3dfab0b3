-- Values that are admitted, and why values aren't.
use Rattle.ta_smt.proofs.Common.{◌≡◌, ◌≢◌, ℕ, ◌≤◌, ◌^◌, ℤ, pos, Bool, true, false, List, [], ◌∷◌, length, map, reverse, slice_get, get_or, unsigned_abs, Some}
use Rattle.ta_smt.proofs.Common.{arith, refl, sym, ap, subst, ◌∙◌, length-append, All, AllByRecursion, slice_index, false≢true, length-map, all_at, PassedTo}
use Rattle.ta_smt.proofs.Common.{same_pattern, AllBelow, StaysInRange, RowHolds, Solves, point_of, Row, System, File, Pattern, RowFails, RowOutOfRange}
use Rattle.ta_smt.proofs.Common.{RowPasses, RowsOver, Value, Element, LegalWord, is_complete, AreRowsOf, SystemOf, pattern_search, LinearRow, bound_row}
use Rattle.ta_smt.proofs.Common.{system_rows, word_rows, rows_count, solution_back, unbounded, AdmitFault, AdmitFaultOf, Admits, AdmitsAreExact, AskedWord}
use Rattle.ta_smt.proofs.Common.{IsCompleteWord, IsIncomplete, SystemStays, SystemAsked, asked, IsValuesText, BadRow, CheckFault, IsChecked, PassesCheck}
use Rattle.ta_smt.proofs.Common.{RowFault, RowStops, RunFault, IsRunOfValues, WordFault, LineFault, solution_of as solves_of, Automaton}
use Rattle.ta_encode.specs.Search.{Pending}
use Rattle.ta_words.specs.declared.narrow_task.NarrowTask.{NarrowTask}
use Rattle.ta_encode.proofs.RowCounts.{few_rows}
use Rattle.ta_replay.specs.declared.run.Run.{Run}
use Rattle.ta_replay.specs.Replays.{ReplayStays}
use Rattle.ta_witness.specs.Witness.{IsSolution, WitnessOf}
use Rattle.ta_witness.proofs.WitnessOnce.{one_witness}
use Rattle.ta_smt.specs.declared.fault.AdmitFault.TheVariants as fault
use Rattle.ta_smt.specs.Admit.{solution_of}
use Rattle.ta_smt.proofs.Forms.{rows_stay}
use Rattle.ta_smt.proofs.Solutions.{holds_same, naturals_from, points}
use Rattle.ta_smt.proofs.ValueTexts.{not_both, values_once}
use Rattle.std.proofs.lemmas.List.Elements.{All-from_recursion}
use Rattle.ta_base.proofs.Each.{each_from}

-- the word as it is pending, without bounds
abbrev pub pending : AskedWord → Pending Element
pending word = record { start = word.start; past = reverse word.elements; bounds = [] }

-- two systems of a word: they have the same unknowns, and rows for the same linear ones
pub record Twins (s z : System) : Type 0 where
  pub unknowns : s.unknowns ≡ z.unknowns
  pub linear : List LinearRow
  pub is : AreRowsOf linear s.rows
  pub are : AreRowsOf linear z.rows

pub twins : (file : File) (word : AskedWord) (s z : System) → SystemAsked file word s → SystemAsked file word z → Twins s z
twins file word s z is are =
    let same = same_pattern file word.pattern are.pattern is.pattern are.named is.named in
    let of = subst (λ (p : Pattern). SystemOf file.automaton p word.start (reverse word.elements) [] z) same are.is in
    record {
      unknowns = is.is.unknowns ∙ sym of.unknowns;
      linear = system_rows file.automaton is.pattern word.start (reverse word.elements) [];
      is = is.is.rows;
      are = of.rows;
    }

-- the rows of every system of a word stay where those of one do
pub stay_alike : (file : File) (word : AskedWord) (values : List ℤ) (s z : System) → SystemAsked file word s → SystemAsked file word z → SystemStays values s
    → SystemStays values z
stay_alike file word values s z is are stay = let t = twins file word s z is are in rows_stay t.linear s.rows z.rows t.is t.are (point_of values) stay

-- values that pass the check are a solution
pub solves : (system : System) (values : List ℤ) → AllByRecursion Value values → IsChecked system values → Solves system (map unsigned_abs values)
solves system values natural checked =
    let are = naturals_from values natural in
    let same : (x : ℕ) → point_of values x ≡ pos (slice_index (map unsigned_abs values) x) = λ x. ap (λ zs. point_of zs x) are
    ∙ points (map unsigned_abs values) x in
    record {
      count = length-map values unsigned_abs ∙ checked.counted;
      rows_hold = All-from_recursion (RowHolds (λ x. pos (slice_index (map unsigned_abs values) x))) system.rows
          (each_from (RowHolds (λ x. pos (slice_index (map unsigned_abs values) x))) system.rows
          (λ j row at. holds_same (point_of values) (λ x. pos (slice_index (map unsigned_abs values) x)) same row (checked.pass j row at).holds));
    }

pub solution_from : (file : File) (word : AskedWord) (values : List ℤ) (complete : IsCompleteWord file word)
    → ((p : Pattern) → slice_get file.patterns word.pattern ≡ Some p → LegalWord file.automaton p word.start (reverse word.elements))
    → AllByRecursion Value values → PassesCheck file word values → IsSolution file (solution_of word values)
solution_from file word values complete legal natural passes =
    let p = complete.pattern in
    let same = same_pattern file word.pattern passes.is.pattern p passes.is.named complete.named in
    let of = subst (λ (q : Pattern). SystemOf file.automaton q word.start (reverse word.elements) [] passes.system) same passes.is.is in
    record {
      pattern = p;
      named = complete.named;
      values = map unsigned_abs values;
      are = naturals_from values natural;
      solved = record {
        legal = legal p complete.named;
        complete = complete.complete;
        solves = unbounded file.automaton p [] (pending word) (map unsigned_abs values)
            (solves_of (pattern_search file.automaton p []) (pending word) passes.system (map unsigned_abs values) of
            (solves passes.system values natural passes.checked));
      };
    }

-- what is admitted
pub admits : (file : File) (word : AskedWord) (bytes : List ℕ) (values : List ℤ) (run : Run) → IsValuesText values bytes → PassesCheck file word values
    → IsSolution file (solution_of word values) → IsRunOfValues file word values run → Admits file word bytes run
admits file word bytes values run spelled passes solution shown = record {
  values = values;
  spelled = spelled;
  solution = solution;
  rows_stay = λ z is. stay_alike file word values passes.system z passes.is is (λ j row at. (passes.checked.pass j row at).stays);
  witness = shown.witness;
  fits = shown.fits;
  shows = shown.shows;
  stays = shown.stays;
  short = shown.short;
}

-- why values aren't admitted, part by part
pub line_fault : (file : File) (word : AskedWord) (bytes : List ℕ) (found : AdmitFault) → IsCompleteWord file word → LineFault bytes found
    → AdmitFaultOf file word bytes found
line_fault file word bytes (fault.Line n) complete bad = record { complete = complete; first = bad }
line_fault file word bytes fault.Memory complete bad = tt
line_fault file word bytes _ complete bad = absurd bad

pub word_fault : (file : File) (word : AskedWord) (bytes : List ℕ) (values : List ℤ) (found : AdmitFault) → IsCompleteWord file word → IsValuesText values bytes
    → WordFault file word values found → AdmitFaultOf file word bytes found
word_fault file word bytes values fault.Memory complete spelled bad = tt
word_fault file word bytes values (fault.Count n) complete spelled bad = record
    { of = record { system = bad.system; is = bad.is; complete = complete }; values = values; spelled = spelled; counted = bad.fault.0; other = bad.fault.1 }
word_fault file word bytes values (fault.Row k) complete spelled bad = record
    { of = record { system = bad.system; is = bad.is; complete = complete }; values = values; spelled = spelled; counted = bad.fault.0; stops = bad.fault.1 }
word_fault file word bytes values (fault.Overflow k) complete spelled bad = record
    { of = record { system = bad.system; is = bad.is; complete = complete }; values = values; spelled = spelled; counted = bad.fault.0; stops = bad.fault.1 }
word_fault file word bytes values _ complete spelled bad = absurd bad.fault

pub run_fault : (file : File) (word : AskedWord) (bytes : List ℕ) (values : List ℤ) (found : AdmitFault) → IsCompleteWord file word → IsValuesText values bytes
    → PassesCheck file word values → IsSolution file (solution_of word values) → RunFault file word values found → AdmitFaultOf file word bytes found
run_fault file word bytes values fault.Run complete spelled passes solution bad = record {
  of = record { system = passes.system; is = passes.is; complete = complete };
  values = values;
  spelled = spelled;
  pass = passes.checked.pass;
  solution =
      solution;
  leaves = bad;
}
run_fault file word bytes values fault.Memory complete spelled passes solution bad = tt
run_fault file word bytes values _ complete spelled passes solution bad = absurd bad

-- a solution has as many values as there are unknowns, and each row of a system holds at them
pub solution_counts : (file : File) (word : AskedWord) (values : List ℤ) (s : System) → SystemAsked file word s → IsSolution file (solution_of word values)
    → (length values ≡ s.unknowns) × All (RowHolds (point_of values)) s.rows
solution_counts file word values s is solution =
    let same = same_pattern file word.pattern is.pattern solution.pattern is.named solution.named in
    let of = subst (λ (p : Pattern). SystemOf file.automaton p word.start (reverse word.elements) [] s) same is.is in
    let solved = solution_back (pattern_search file.automaton solution.pattern []) (pending word) s solution.values of
    (record { count = solution.solved.solves.count; rows_hold = solution.solved.solves.rows_hold }) in
    let alike : (x : ℕ) → pos (slice_index solution.values x) ≡ point_of values x = λ x. sym (ap (λ zs. point_of zs x) solution.are ∙ points solution.values x)
    in (
      ap length solution.are ∙ length-map solution.values pos ∙ solved.count,
      λ k d b. holds_same (λ x. pos (slice_index solution.values x)) (point_of values) alike (get_or s.rows k d) (solved.rows_hold k d b),
    )

-- admitted values have no error
no_fault : (file : File) (word : AskedWord) (bytes : List ℕ) (run : Run) (found : AdmitFault) → Admits file word bytes run → found ≢ fault.Memory
    → AdmitFaultOf file word bytes found → ⊥
no_fault file word bytes run fault.Incomplete is none bad =
    let same = same_pattern file word.pattern is.solution.pattern bad.pattern is.solution.named bad.named in
    false≢true (sym bad.incomplete ∙ subst (λ (p : Pattern). is_complete p (reverse word.elements) ≡ true) same is.solution.solved.complete)
no_fault file word bytes run (fault.Line n) is none bad = not_both is.values bytes n is.spelled bad.first
no_fault file word bytes run (fault.Count n) is none bad =
    let same = values_once is.values bad.values bytes is.spelled bad.spelled in
    bad.other (bad.counted ∙ ap length (sym same) ∙ (solution_counts file word is.values bad.of.system bad.of.is is.solution).0)
no_fault file word bytes run (fault.Row k) is none bad =
    let same = values_once is.values bad.values bytes is.spelled bad.spelled in
    let holds = (solution_counts file word is.values bad.of.system bad.of.is is.solution).1 in
    bad.stops.bad.fails (subst (λ vs. RowHolds (point_of vs) bad.stops.item) same
    (all_at (RowHolds (point_of is.values)) bad.of.system.rows k bad.stops.item holds bad.stops.at))
no_fault file word bytes run (fault.Overflow k) is none bad =
    let same = values_once is.values bad.values bytes is.spelled bad.spelled in
    bad.stops.bad (subst (λ vs. StaysInRange (point_of vs) bad.stops.item.form.constant bad.stops.item.form.terms) same
    (is.rows_stay bad.of.system bad.of.is k bad.stops.item bad.stops.at))
no_fault file word bytes run fault.Run is none bad =
    let same = values_once is.values bad.values bytes is.spelled bad.spelled in
    let mine = subst (λ vs. WitnessOf file (solution_of word vs) run) same is.witness in
    let runs = one_witness file (solution_of word bad.values) run bad.leaves.run bad.solution mine bad.leaves.is in
    bad.leaves.leaves (subst (ReplayStays file) runs is.stays)
no_fault file word bytes run fault.Memory is none bad = none refl

one_run : (file : File) (word : AskedWord) (bytes : List ℕ) (run other : Run) → Admits file word bytes run → Admits file word bytes other → other ≡ run
one_run file word bytes run other is are =
    let same = values_once are.values is.values bytes are.spelled is.spelled in
    let theirs = subst (λ vs. WitnessOf file (solution_of word vs) other) same are.witness in
    one_witness file (solution_of word is.values) other run is.solution theirs is.witness

pub admits_are_exact : AdmitsAreExact
admits_are_exact file word bytes run is =
    ((λ found none bad. no_fault file word bytes run found is none bad), (λ other are. one_run file word bytes run other is are))

-- the checks of rows, one by one
pub row_stops : (point : ℕ → ℤ) (rows : List Row) (i : ℕ) (row : Row) (found : AdmitFault) → slice_get rows i ≡ Some row
    → PassedTo (λ j (r : Row). RowPasses point r) rows i → BadRow point row i found → RowFault point rows found
row_stops point rows i row (fault.Row k) at before bad = subst (λ n. RowStops point (RowFails point) rows n) (sym bad.0) record
    { item = row; at = at; before = before; bad = bad.1 }
row_stops point rows i row (fault.Overflow k) at before bad = subst (λ n. RowStops point (RowOutOfRange point) rows n) (sym bad.0) record
    { item = row; at = at; before = before; bad = bad.1 }
row_stops point rows i row _ at before bad = absurd bad

pub rows_over : (n : ℕ) (rows : List Row) → AllBelow n rows → RowsOver n rows
rows_over n [] below = tt
rows_over n (r ∷ rs) below = (below.0, rows_over n rs below.1)

-- the system of a word has few rows
pub few_in_word : (t : NarrowTask) (start : ℕ) (elements : List Element) (s : System) → LegalWord t.automaton.now t.pattern.now start (reverse elements)
    → SystemOf t.automaton.now t.pattern.now start (reverse elements) [] s → length s.rows ≤ 2 ^ 32
few_in_word t start elements s legal is =
    let a = t.automaton.now in
    let p = t.pattern.now in
    let rows = rows_count (system_rows a p start (reverse elements) []) s.rows is.rows in
    let words = length-append (word_rows a p start (reverse elements)) (map bound_row []) in
    let few = few_rows a t.narrow p start (reverse elements) t.over legal in
    omega arith

pub system_asked : (file : File) (number start : ℕ) (elements : List Element) (s : System) (t : NarrowTask) → t.automaton.now ≡ file.automaton
    → slice_get file.patterns number ≡ Some t.pattern.now → SystemOf t.automaton.now t.pattern.now start (reverse elements) [] s
    → SystemAsked file (asked number start elements) s
system_asked file number start elements s t same named is = record
    { pattern = t.pattern.now; named = named; is = subst (λ (a : Automaton). SystemOf a t.pattern.now start (reverse elements) [] s) same is }

pub word_stops : (file : File) (word : AskedWord) (values : List ℤ) (s : System) (found : AdmitFault) → SystemAsked file word s → CheckFault s values found
    → WordFault file word values found
word_stops file word values s fault.Memory is bad = tt
word_stops file word values s (fault.Count n) is bad = record { system = s; is = is; fault = bad }
word_stops file word values s (fault.Row k) is bad = record { system = s; is = is; fault = bad }
word_stops file word values s (fault.Overflow k) is bad = record { system = s; is = is; fault = bad }
word_stops file word values s _ is bad = absurd bad

-- whether a word is complete
pub complete_is : (file : File) (word : AskedWord) (t : NarrowTask) (r : Bool) → slice_get file.patterns word.pattern ≡ Some t.pattern.now
    → r ≡ is_complete t.pattern.now (reverse word.elements) → r ≡ true → IsCompleteWord file word
complete_is file word t r named told is = record { pattern = t.pattern.now; named = named; complete = sym told ∙ is }

pub incomplete_is : (file : File) (word : AskedWord) (t : NarrowTask) (r : Bool) → slice_get file.patterns word.pattern ≡ Some t.pattern.now
    → r ≡ is_complete t.pattern.now (reverse word.elements) → r ≡ false → IsIncomplete file word
incomplete_is file word t r named told is = record { pattern = t.pattern.now; named = named; incomplete = sym told ∙ is }
