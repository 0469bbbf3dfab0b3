-- The lines of runs that fit a file.
use Rattle.ta_replay.proofs.Common.{ℕ, ℤ, ◌+◌, ◌-◌, ◌<◌, ◌≡◌, List, [], ◌∷◌, ◌++◌, length, map, take, drop, refl, sym, ap, subst, ◌∙◌, Some, None}
use Rattle.ta_replay.proofs.Common.{length-append, take-append-drop, length-take-le, length-drop, arith, codes, AllByRecursion, length-map, each_append}
use Rattle.ta_replay.proofs.Common.{each_back, each_front, each_get_or, each_map, avoids_known, differ, each_below, Automaton, Pattern, File, Name, Value, Run}
use Rattle.ta_replay.proofs.Common.{RunLine, Fits, LineFits, Slot, name_at, valued_line, parameter_slot, start_slot, parameter_slots, start_slots, slots}
use Rattle.ta_replay.proofs.Common.{value_lines, line_of, lines_of, head_line, run_lines, Avoids, IsWord, slice_get}
use Rattle.ta_replay.proofs.Statements.{word_of}

-- a line is no end
abbrev pub IsNoEnd : List ℕ → Type 0
IsNoEnd line = line ≡ codes "end" → ⊥

-- a slot has a name, its word has no line feed, and its line is no end
pub record IsAsked (slot : Slot) : Type 0 where
  pub named : IsWord slot.name
  pub clear : Avoids 10 slot.word
  pub no_end : (value : ℤ) → IsNoEnd (valued_line slot.word slot.name value)

-- each slot of an automaton is so
pub asked : (a : Automaton) → AllByRecursion IsAsked (slots a)
asked a =
    let names = a.shape.names_legal in
    let parameters = each_front Name a.parameters a.shared (each_front Name (a.parameters ++ a.shared) a.locations names) in
    let locations = each_back Name (a.parameters ++ a.shared) a.locations names in
    let parameter_is : (n : List ℕ) → Name n → IsAsked (parameter_slot n) = λ n is. record {
      named = word_of n is;
      clear = avoids_known 10 (codes "parameter ") refl;
      no_end = λ v. differ 0 (valued_line (codes "parameter ") n v) (codes "end")
          refl;
    } in
    let start_is : (l : ℕ) → l < length a.locations → IsAsked (start_slot a l) = λ l within. record {
      named = word_of (name_at a.locations l) (each_get_or Name a.locations l [] locations within);
      clear = avoids_known 10 (codes "start ") refl;
      no_end =
          λ v. differ 0 (valued_line (codes "start ") (name_at a.locations l) v) (codes "end") refl;
    } in
    each_append IsAsked (parameter_slots a) (start_slots a)
    (each_map parameter_slot Name IsAsked a.parameters parameter_is parameters)
    (each_map (start_slot a) (λ l. l < length a.locations) IsAsked a.initial start_is (each_below 0 (length a.locations) a.initial a.shape.initial_rises))

-- there are as many slots as parameters and initial locations
pub length-slots : (a : Automaton) → length (slots a) ≡ length a.parameters + length a.initial
length-slots a = length-append (parameter_slots a) (start_slots a) ∙ ap (λ n. n + length (start_slots a)) (length-map a.parameters parameter_slot)
    ∙ ap (λ n. length a.parameters + n) (length-map a.initial (start_slot a))

-- the values of a run
abbrev pub values_of : Run → List ℤ
values_of run = run.parameters ++ run.counts

pub values_count : (file : File) (run : Run) → Fits file run → length (values_of run) ≡ length (slots file.automaton)
values_count file run fits = length-append run.parameters run.counts ∙ ap (λ n. n + length run.counts) fits.parameters
    ∙ ap (λ n. length file.automaton.parameters + n) fits.counts ∙ sym (length-slots file.automaton)

pub values_natural : (file : File) (run : Run) → Fits file run → AllByRecursion Value (values_of run)
values_natural file run fits = each_append Value run.parameters run.counts fits.parameters_natural fits.counts_natural

-- the lines behind the first, of values, steps and marks
abbrev pub behind_head : Automaton → Pattern → List ℤ → List RunLine → List (List ℕ)
behind_head a p values lines = value_lines (slots a) values ++ (map (line_of a p) lines ++ (codes "end" ∷ []))

pub run_lines_are : (file : File) (run : Run) (p : Pattern) → slice_get file.patterns run.pattern ≡ Some p
    → run_lines file run ≡ head_line file run.pattern ∷ behind_head file.automaton p (values_of run) run.lines
run_lines_are file run p named = ap
    (λ o. head_line file run.pattern ∷ (value_lines (slots file.automaton) (values_of run) ++ (lines_of file.automaton o run.lines ++ (codes "end" ∷ []))))
    named

-- the run of a pattern with these values, steps and marks
pub run_of : Automaton → ℕ → List ℤ → List RunLine → Run
run_of a k values lines = record { pattern = k; parameters = take (length a.parameters) values; counts = drop (length a.parameters) values; lines = lines }

-- it fits, and these are its lines
pub run_of_fits : (file : File) (k : ℕ) (p : Pattern) (values : List ℤ) (lines : List RunLine) → slice_get file.patterns k ≡ Some p
    → length values ≡ length (slots file.automaton) → AllByRecursion Value values → AllByRecursion (LineFits file.automaton p) lines
    → Fits file (run_of file.automaton k values lines)
unfolding run_of
run_of_fits file k p values lines named count natural fit =
    let a = file.automaton in
    let m = length a.parameters in
    let all = count ∙ length-slots a in
    let parted = subst (AllByRecursion Value) (sym (take-append-drop m values)) natural in
    record {
      pattern = p;
      named = named;
      parameters = length-take-le m values (omega arith);
      parameters_natural = each_front Value (take m values) (drop m values) parted;
      counts = length-drop m values ∙ (let left : length values - m ≡ length a.initial = omega arith in left);
      counts_natural = each_back Value (take m values) (drop m values) parted;
      lines = fit;
    }

pub run_of_lines : (file : File) (k : ℕ) (p : Pattern) (values : List ℤ) (lines : List RunLine) → slice_get file.patterns k ≡ Some p
    → run_lines file (run_of file.automaton k values lines) ≡ head_line file k ∷ behind_head file.automaton p values lines
unfolding run_of
run_of_lines file k p values lines named =
    run_lines_are file (run_of file.automaton k values lines) p named
    ∙ ap (λ vs. head_line file k ∷ behind_head file.automaton p vs lines) (take-append-drop (length file.automaton.parameters) values)

-- the line at the place of a value
pub value_behind : (ss : List Slot) (vs : List ℤ) (body ls : List (List ℕ)) (line : List ℕ) (later : List (List ℕ)) (slot : Slot) → length vs ≡ length ss
    → AllByRecursion Value vs → slice_get ss (length ls) ≡ Some slot → value_lines ss vs ++ body ≡ ls ++ (line ∷ later) → (v : ℤ) × Value v
    × (line ≡ valued_line slot.word slot.name v)
value_behind [] vs body ls line later slot all natural next e = cc
value_behind (s ∷ ss) [] body ls line later slot all natural next e = absurd (omega arith)
value_behind (s ∷ ss) (v ∷ vs) body [] line later slot all natural next e =
    let same : s ≡ slot = cc in
    let head : line ≡ valued_line s.word s.name v = cc in
    (v, natural.0, head ∙ ap (λ t. valued_line t.word t.name v) same)
value_behind (s ∷ ss) (v ∷ vs) body (l ∷ ls) line later slot all natural next e =
    let tail : value_lines ss vs ++ body ≡ ls ++ (line ∷ later) = cc in
    value_behind ss vs body ls line later slot (omega arith) natural.1 next tail

-- a line behind those of the values
pub body_behind : (Q : List ℕ → Type 0) (ss : List Slot) (vs : List ℤ) (body ls : List (List ℕ)) (line : List ℕ) (later : List (List ℕ)) → length vs ≡ length ss
    → AllByRecursion Q body → slice_get ss (length ls) ≡ None → value_lines ss vs ++ body ≡ ls ++ (line ∷ later) → Q line
body_behind Q [] vs body ls line later all each past e = (each_back Q ls (line ∷ later) (subst (AllByRecursion Q) e each)).0
body_behind Q (s ∷ ss) [] body ls line later all each past e = absurd (omega arith)
body_behind Q (s ∷ ss) (v ∷ vs) body [] line later all each past e = cc
body_behind Q (s ∷ ss) (v ∷ vs) body (l ∷ ls) line later all each past e =
    let tail : value_lines ss vs ++ body ≡ ls ++ (line ∷ later) = cc in
    body_behind Q ss vs body ls line later (omega arith) each past tail

-- a property of the lines of steps and marks and of the end
pub each_of_body : (Q : List ℕ → Type 0) (a : Automaton) (p : Pattern) (lines : List RunLine) → AllByRecursion (LineFits a p) lines
    → ((l : RunLine) → LineFits a p l → Q (line_of a p l)) → Q (codes "end") → AllByRecursion Q (map (line_of a p) lines ++ (codes "end" ∷ []))
each_of_body Q a p lines fit step end = each_append Q (map (line_of a p) lines) (codes "end" ∷ []) (each_map (line_of a p) (LineFits a p) Q lines step fit)
    (end, tt)
