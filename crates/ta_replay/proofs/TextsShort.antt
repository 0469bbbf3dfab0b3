-- The text of a run is short where the run has few lines.
use Rattle.ta_replay.proofs.Common.{ℕ, ℤ, zero, suc, pos, negsuc, ◌+◌, ◌*◌, ◌<◌, ◌≤◌, ◌^◌, ◌≡◌, List, [], ◌∷◌, ◌++◌, length, map, arith, length-append, codes}
use Rattle.ta_replay.proofs.Common.{lit<, lit≤, ap, subst, sym, signed_decimal, ints, length-map, AllByRecursion, each_append, each_back, each_front}
use Rattle.ta_replay.proofs.Common.{rises_length, pattern_within, Automaton, Event, Pattern, File, EachFrom, Name, EventWithin, PatternWithin, event_name}
use Rattle.ta_replay.proofs.Common.{pattern_name, RuleWithin, name_of, Value, Run, RunLine, Step, Mark, Fits, LineFits, steps_count, Slot, name_at, named_line}
use Rattle.ta_replay.proofs.Common.{valued_line, parameter_slot, start_slot, parameter_slots, start_slots, slots, value_lines, line_of, head_line, run_lines}
use Rattle.ta_replay.proofs.Common.{lines_text, run_text, marks_count}
use Rattle.std.proofs.lemmas.Fmt.{length-decimal-le_wide}
use Rattle.ta_replay.proofs.RunFacts.{behind_head, run_lines_are, values_natural, values_of}

-- names of at most 64 bytes, and one of them by its number
abbrev IsShortName : List ℕ → Type 0
IsShortName name = length name ≤ 64

name_short : (names : List (List ℕ)) (i : ℕ) → AllByRecursion IsShortName names → length (name_at names i) ≤ 64
name_short [] i each = lit≤ tt
name_short (n ∷ ns) zero each = each.0
name_short (n ∷ ns) (suc i) each = name_short ns i each.1

short_names : {X : Type 0} (f : X → List ℕ) (P : X → Type 0) (xs : List X) → ((x : X) → P x → Name (f x)) → AllByRecursion P xs
    → AllByRecursion IsShortName (map f xs)
short_names f P [] gives each = tt
short_names f P (x ∷ xs) gives each = ((gives x each.0).limit, short_names f P xs gives each.1)

short_each : (names : List (List ℕ)) → AllByRecursion Name names → AllByRecursion IsShortName names
short_each [] each = tt
short_each (n ∷ ns) each = (each.0.limit, short_each ns each.1)

short_events : (places k : ℕ) (events : List Event) → EachFrom (EventWithin places) k events → AllByRecursion IsShortName (map event_name events)
short_events places k [] each = tt
short_events places k (e ∷ es) each = (each.0.name.limit, short_events places (k + 1) es each.1)

-- a number below 2^127 has at most 39 digits
number_short : (z : ℤ) → Value z → length (signed_decimal z) ≤ 39
number_short (pos k) value =
    let below : k < 2 ^ 127 = value.fits in
    let large : 2 ^ 127 < 10 ^ 39 = lit< tt in
    let larger : 2 ^ 127 < 10 ^ 64 = lit< tt in
    length-decimal-le_wide 39 k (omega arith) (omega arith) (omega arith)
number_short (negsuc k) value = let low = value.natural in absurd (omega (arith, ints))

-- a line of at most 120 bytes
abbrev pub IsShortLine : List ℕ → Type 0
IsShortLine line = length line ≤ 120

named_short : (word name : List ℕ) → length word ≤ 10 → length name ≤ 64 → IsShortLine (named_line word name)
named_short word name few short = omega (arith, length-append word name)

valued_short : (word name : List ℕ) (z : ℤ) → length word ≤ 10 → length name ≤ 64 → Value z → IsShortLine (valued_line word name z)
valued_short word name z few short value = omega
    (arith, length-append word (name ++ (32 ∷ signed_decimal z)), length-append name (32 ∷ signed_decimal z), number_short z value)

-- the lines of values
record IsShortSlot (slot : Slot) : Type 0 where
  few : length slot.word ≤ 10
  short : length slot.name ≤ 64

values_short : (ss : List Slot) (vs : List ℤ) → AllByRecursion IsShortSlot ss → AllByRecursion Value vs → AllByRecursion IsShortLine (value_lines ss vs)
values_short [] vs each natural = tt
values_short (s ∷ ss) [] each natural = tt
values_short (s ∷ ss) (v ∷ vs) each natural = (valued_short s.word s.name v each.0.few each.0.short natural.0, values_short ss vs each.1 natural.1)

values_few : (ss : List Slot) (vs : List ℤ) → length (value_lines ss vs) ≤ length ss
values_few [] vs = lit≤ tt
values_few (s ∷ ss) [] = omega arith
values_few (s ∷ ss) (v ∷ vs) = omega (arith, values_few ss vs)

parameters_short : (names : List (List ℕ)) → AllByRecursion IsShortName names → AllByRecursion IsShortSlot (map parameter_slot names)
parameters_short [] each = tt
parameters_short (n ∷ ns) each = (record { few = lit≤ tt; short = each.0 }, parameters_short ns each.1)

starts_short : (a : Automaton) (ls : List ℕ) → AllByRecursion IsShortName a.locations → AllByRecursion IsShortSlot (map (start_slot a) ls)
starts_short a [] each = tt
starts_short a (l ∷ ls) each = (record { few = lit≤ tt; short = name_short a.locations l each }, starts_short a ls each)

-- the lines of steps and marks
steps_short : (a : Automaton) (p : Pattern) (lines : List RunLine) → AllByRecursion IsShortName (map name_of a.rules)
    → AllByRecursion IsShortName (map event_name p.events) → AllByRecursion (LineFits a p) lines → AllByRecursion IsShortLine (map (line_of a p) lines)
steps_short a p [] rules events fit = tt
steps_short a p (Step rule factor ∷ lines) rules events fit =
    let fits = fit.0 in
    let least = fits.1 in (
      valued_short (codes "step ") (name_at (map name_of a.rules) rule) factor (lit≤ tt) (name_short (map name_of a.rules) rule rules) record
          { natural = omega (arith, ints); fits = fits.2 },
      steps_short a p lines rules events fit.1,
    )
steps_short a p (Mark event ∷ lines) rules events fit = (
  named_short (codes "mark ") (name_at (map event_name p.events) event) (lit≤ tt) (name_short (map event_name p.events) event events),
  steps_short a p lines
      rules events fit.1,
)

-- each line is a step or a mark
pub lines_counted : (lines : List RunLine) → length lines ≡ steps_count lines + marks_count lines
lines_counted [] = omega arith
lines_counted (Step rule factor ∷ lines) = omega (arith, lines_counted lines)
lines_counted (Mark event ∷ lines) = omega (arith, lines_counted lines)

text_short : (ls : List (List ℕ)) → AllByRecursion IsShortLine ls → length (lines_text ls) ≤ 121 * length ls
text_short [] each = lit≤ tt
text_short (l ∷ ls) each = let here = each.0 in omega (arith, length-append l (10 ∷ lines_text ls), text_short ls each.1)

-- the text of a run of few lines has at most 16 MiB
pub run_text_short : (file : File) (run : Run) → Fits file run → length run.lines ≤ 100000 → length (run_text file run) ≤ 16777216
run_text_short file run fits few =
    let a = file.automaton in
    let p = fits.pattern in
    let limits = a.shape.limits in
    let names = short_each (a.parameters ++ a.shared ++ a.locations) a.shape.names_legal in
    let parameters = each_front IsShortName a.parameters a.shared (each_front IsShortName (a.parameters ++ a.shared) a.locations names) in
    let locations = each_back IsShortName (a.parameters ++ a.shared) a.locations names in
    let rules = short_names name_of (RuleWithin (length a.shared) (length a.locations) (length a.rise) (length a.fall)) a.rules (λ r is. is.name)
    a.shape.rules_within in
    let within = pattern_within file run.pattern p fits.named in
    let events = short_events (length a.parameters + length a.shared + length a.locations) 0 p.events within.events in
    let patterns = short_names pattern_name (PatternWithin (length a.parameters + length a.shared + length a.locations) (length a.locations)) file.patterns
    (λ q is. is.name) file.shape.within in
    let slots_are = each_append IsShortSlot (parameter_slots a) (start_slots a) (parameters_short a.parameters parameters) (starts_short a a.initial locations)
    in
    let values = values_short (slots a) (values_of run) slots_are (values_natural file run fits) in
    let body = each_append IsShortLine (map (line_of a p) run.lines) (codes "end" ∷ []) (steps_short a p run.lines rules events fits.lines) (lit≤ tt, tt) in
    let head = named_short (codes "run ") (name_at (map pattern_name file.patterns) run.pattern) (lit≤ tt)
    (name_short (map pattern_name file.patterns) run.pattern patterns) in
    let all : AllByRecursion IsShortLine (head_line file run.pattern ∷ behind_head a p (values_of run) run.lines) =
    (head, each_append IsShortLine (value_lines (slots a) (values_of run)) (map (line_of a p) run.lines ++ (codes "end" ∷ [])) values body) in
    let are = run_lines_are file run p fits.named in
    let text = text_short (run_lines file run) (subst (AllByRecursion IsShortLine) (sym are) all) in
    let counted = ap (λ (ls : List (List ℕ)). length ls) are in
    let behind = length-append (value_lines (slots a) (values_of run)) (map (line_of a p) run.lines ++ (codes "end" ∷ [])) in
    let last = length-append (map (line_of a p) run.lines) (codes "end" ∷ []) in
    let mapped = length-map run.lines (line_of a p) in
    let value_count = values_few (slots a) (values_of run) in
    let slot_count = length-append (parameter_slots a) (start_slots a) in
    let parameter_count = length-map a.parameters parameter_slot in
    let start_count = length-map a.initial (start_slot a) in
    let initial = rises_length 0 (length a.locations) a.initial (omega arith) a.shape.initial_rises in
    let few_parameters = limits.parameters_limit in
    let few_locations = limits.locations_limit in
    omega (arith, text, counted, behind, last, mapped, value_count, slot_count, parameter_count, start_count, initial)
