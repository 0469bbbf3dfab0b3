-- The lines of a run, as they are written.
use Rattle.ta_replay.proofs.Common.{ℕ, ℤ, zero, suc, pos, ◌+◌, ◌<◌, ◌≡◌, List, [], ◌∷◌, ◌++◌, length, map, drop, get_or, refl, sym, ap, ◌∙◌, Some, append_assoc}
use Rattle.ta_replay.proofs.Common.{append-nil, arith, codes, ◌≤◌, option_map, signed_decimal, slice_get-map, slice_get_read, get_or_from_slice_get}
use Rattle.ta_replay.proofs.Common.{at_drop_all, length-map, Automaton, Pattern, RunLine, Slot, name_at, parameter_slot, parameter_slots, start_slots, slots}
use Rattle.ta_replay.proofs.Common.{valued_line, value_lines, line_of, head_line, lines_text, run_text, Run, File, pattern_name, slice_get}
use Rattle.ta_replay.proofs.ListSteps.{lines_text-append}
use Rattle.ta_replay.proofs.ValueLines.{value_lines-append}
use Rattle.ta_replay.proofs.RunFacts.{behind_head, run_lines_are}

-- the lines of the values that are left
lines_left : (ss : List Slot) (vs : List ℤ) (i : ℕ) (slot : Slot) → slice_get ss i ≡ Some slot → i < length vs
    → value_lines (drop i ss) (drop i vs) ≡ valued_line slot.word slot.name (get_or vs i (pos 0)) ∷ value_lines (drop (suc i) ss) (drop (suc i) vs)
lines_left [] vs i slot next within = cc
lines_left (s ∷ ss) [] i slot next within = absurd (omega arith)
lines_left (s ∷ ss) (v ∷ vs) zero slot next within = let same : s ≡ slot = cc in ap (λ t. valued_line t.word t.name v ∷ value_lines ss vs) same
lines_left (s ∷ ss) (v ∷ vs) (suc i) slot next within = lines_left ss vs i slot next (omega arith)

-- one value more is written
pub value_written : (ss : List Slot) (vs : List ℤ) (i : ℕ) (slot : Slot) (v : ℤ) (begun old new : List ℕ) → slice_get ss i ≡ Some slot → i < length vs
    → v ≡ get_or vs i (pos 0) → new ≡ old ++ (valued_line slot.word slot.name v ++ (10 ∷ [])) → old ++ lines_text (value_lines (drop i ss) (drop i vs)) ≡ begun
    → new ++ lines_text (value_lines (drop (i + 1) ss) (drop (i + 1) vs)) ≡ begun
value_written ss vs i slot v begun old new next within is written so_far =
    let line = valued_line slot.word slot.name v in
    let next_place : i + 1 ≡ suc i = omega arith in
    let rest = lines_text (value_lines (drop (suc i) ss) (drop (suc i) vs)) in
    let left = lines_left ss vs i slot next within ∙ ap (λ z. valued_line slot.word slot.name z ∷ value_lines (drop (suc i) ss) (drop (suc i) vs)) (sym is) in
    ap (λ n. new ++ lines_text (value_lines (drop n ss) (drop n vs))) next_place ∙ ap (λ xs. xs ++ rest) written ∙ append_assoc old (line ++ (10 ∷ [])) rest
    ∙ ap (λ xs. old ++ xs) (append_assoc line (10 ∷ []) rest) ∙ ap (λ ls. old ++ lines_text ls) (sym left) ∙ so_far

-- the line of a value, as it is written
written_line : (word name : List ℕ) (v : ℤ) → word ++ (name ++ (32 ∷ (signed_decimal v ++ (10 ∷ [])))) ≡ valued_line word name v ++ (10 ∷ [])
written_line word name v = sym (append_assoc word (name ++ (32 ∷ signed_decimal v)) (10 ∷ [])
    ∙ ap (λ xs. word ++ xs) (append_assoc name (32 ∷ signed_decimal v) (10 ∷ [])))

-- the value of one item more is written
pub item_written : {X : Type 0} (f : X → Slot) (xs items : List X) (i : ℕ) (x : X) (vs : List ℤ) (name begun old new : List ℕ) → items ≡ xs → i < length items
    → x ≡ get_or items i x → name ≡ (f x).name → i < length vs → new ≡ old
    ++ ((f x).word ++ (name ++ (32 ∷ (signed_decimal (get_or vs i (pos 0)) ++ (10 ∷ []))))) → old
    ++ lines_text (value_lines (drop i (map f xs)) (drop i vs)) ≡ begun → new ++ lines_text (value_lines (drop (i + 1) (map f xs)) (drop (i + 1) vs)) ≡ begun
item_written f xs items i x vs name begun old new same within is called in_values written so_far =
    let v = get_or vs i (pos 0) in
    let next = ap (λ ys. slice_get (map f ys) i) (sym same) ∙ slice_get-map f items i
    ∙ ap (option_map f) (slice_get_read items (length items) i x refl within is) in
    value_written (map f xs) vs i (f x) v begun old new next in_values refl
    (written ∙ ap (λ n. old ++ ((f x).word ++ (n ++ (32 ∷ (signed_decimal v ++ (10 ∷ [])))))) called
    ∙ ap (λ ys. old ++ ys) (written_line (f x).word (f x).name v)) so_far

-- all steps and marks are written, and then the end
pub end_written : (a : Automaton) (p : Pattern) (lines : List RunLine) (i : ℕ) (begun old new : List ℕ) → length lines ≤ i → new ≡ old
    ++ (codes "end" ++ (10 ∷ [])) → old ++ lines_text (map (line_of a p) (drop i lines)) ≡ begun ++ lines_text (map (line_of a p) lines) → new ≡ begun
    ++ lines_text (map (line_of a p) lines ++ (codes "end" ∷ []))
end_written a p lines i begun old new all written so_far =
    let last : List ℕ = codes "end" ++ (10 ∷ []) in
    let none = at_drop_all (λ ls. lines_text (map (line_of a p) ls)) lines i all in
    let whole : old ≡ begun ++ lines_text (map (line_of a p) lines) = sym (append-nil old) ∙ ap (λ xs. old ++ xs) (sym none) ∙ so_far in
    written ∙ ap (λ xs. xs ++ last) whole ∙ append_assoc begun (lines_text (map (line_of a p) lines)) last
    ∙ ap (λ xs. begun ++ xs) (sym (lines_text-append (map (line_of a p) lines) (codes "end" ∷ [])))

-- the whole text of a run is written
pub run_written : (file : File) (run : Run) (p : Pattern) (t1 t2 t3 t4 : List ℕ) → slice_get file.patterns run.pattern ≡ Some p
    → length run.parameters ≡ length file.automaton.parameters → t1 ≡ codes "run " ++ (p.name ++ (10 ∷ [])) → t2 ≡ t1
    ++ lines_text (value_lines (parameter_slots file.automaton) run.parameters) → t3 ≡ t2 ++ lines_text (value_lines (start_slots file.automaton) run.counts)
    → t4 ≡ t3 ++ lines_text (map (line_of file.automaton p) run.lines ++ (codes "end" ∷ [])) → t4 ≡ run_text file run
run_written file run p t1 t2 t3 t4 named count e1 e2 e3 e4 =
    let a = file.automaton in
    let ps = value_lines (parameter_slots a) run.parameters in
    let cs = value_lines (start_slots a) run.counts in
    let body = map (line_of a p) run.lines ++ (codes "end" ∷ []) in
    let named_so : name_at (map pattern_name file.patterns) run.pattern ≡ p.name = get_or_from_slice_get (map pattern_name file.patterns) run.pattern p.name []
    (slice_get-map pattern_name file.patterns run.pattern ∙ ap (option_map pattern_name) named) in
    let head = lines_text (head_line file run.pattern ∷ []) in
    let first : t1 ≡ head = e1 ∙ ap (λ n. codes "run " ++ (n ++ (10 ∷ []))) (sym named_so) in
    let values = value_lines-append (parameter_slots a) (start_slots a) run.parameters run.counts (count ∙ sym (length-map a.parameters parameter_slot)) in
    let joined : t4 ≡ ((head ++ lines_text ps) ++ lines_text cs) ++ lines_text body = e4
    ∙ ap (λ t. t ++ lines_text body) (e3 ∙ ap (λ t. t ++ lines_text cs) (e2 ∙ ap (λ t. t ++ lines_text ps) first)) in
    let grouped = append_assoc (head ++ lines_text ps) (lines_text cs) (lines_text body) ∙ append_assoc head (lines_text ps) (lines_text cs ++ lines_text body)
    ∙ ap (λ xs. head ++ xs) (sym (append_assoc (lines_text ps) (lines_text cs) (lines_text body))) in
    let lines = ap (λ xs. head ++ (xs ++ lines_text body)) (sym (lines_text-append ps cs) ∙ ap lines_text (sym values))
    ∙ ap (λ xs. head ++ xs) (sym (lines_text-append (value_lines (slots a) (run.parameters ++ run.counts)) body)) in
    joined ∙ grouped ∙ lines ∙ sym (lines_text-append (head_line file run.pattern ∷ []) (behind_head a p (run.parameters ++ run.counts) run.lines))
    ∙ ap lines_text (sym (run_lines_are file run p named))
