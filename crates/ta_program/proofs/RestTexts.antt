-- Reports of `rest` of a file with one text have the same sample and the same verdicts: without the word `rest` in front of the verdicts
-- they are reports of `verify` with one text.
use Rattle.ta_program.proofs.Common.{◌≡◌, ◌∙◌, ◌<◌, ◌^◌, ◌++◌, ℕ, true, false, List, [], ◌∷◌, length, refl, sym, ap, inl, inr, arith, codes}
use Rattle.ta_program.proofs.Common.{AllByRecursion, File, Pattern, Verdict, Overflow, Safe, Spent, Unsafe, VerdictFits, ReportSample, Pick}
use Rattle.ta_program.proofs.Common.{append_assoc, picked, rest_text, run_text}
use Rattle.std.proofs.Common.{lit<, ℤ}
use Rattle.std.proofs.lemmas.List.{append_cancel_left}
use Rattle.std.specs.Fmt.{signed_decimal}
use Rattle.std.specs.Prelude.{decimal}
use Rattle.ta_automaton.specs.Names.{Name}
use Rattle.ta_base.proofs.DecimalDigits.{between, number_clear}
use Rattle.ta_base.proofs.Each.{each_front, each_weaker, word_avoids}
use Rattle.ta_base.proofs.Lists.{apart_third, avoids-append, avoids_known, first_byte, heads_apart}
use Rattle.ta_base.specs.Bytes.{Avoids}
use Rattle.ta_replay.proofs.Decimals.{number_avoids}
use Rattle.ta_replay.proofs.RunFronts.{run_front}
use Rattle.ta_replay.proofs.Statements.{word_of}
use Rattle.ta_report.specs.Report.{PlaceFits, ReportsAreDistinct, SampleFits, overflow_text, place_text, rest_word, run_part, sample_line}
use Rattle.ta_report.specs.Report.{sample_text, spent_text, told_line, told_lines, values_text, verdict_text}
use Rattle.ta_report.specs.declared.verdict.ReportKind.{ReportKind}
use Rattle.ta_report.specs.declared.verdict.ReportKind.TheVariants.{Leaf, Pivot, Run}
use Rattle.ta_report.specs.declared.verdict.ReportSample.TheVariants as sample

-- ---- what is said of the parameters and of a pattern stands in one line
place_clear : (kind : ReportKind) → PlaceFits kind → Avoids 10 (place_text kind)
place_clear (Pivot pivot) fits = avoids-append 10 (codes "pivot ") (decimal pivot) (avoids_known 10 (codes "pivot ") refl) (number_clear pivot fits)
place_clear Leaf fits = avoids_known 10 (codes "leaf") refl
place_clear Run fits = avoids_known 10 (codes "run") refl

spent_clear : (n : ℕ) → n < 2 ^ 64 → Avoids 10 (spent_text n)
spent_clear n fits = between (codes "unknown, ") _ n (avoids_known 10 (codes "unknown, ") refl) fits (avoids_known 10 (codes " nodes spent") refl)

overflow_clear : (n : ℕ) (kind : ReportKind) → (n < 2 ^ 64) × PlaceFits kind → Avoids 10 (overflow_text n kind)
overflow_clear n kind fits =
    let place = avoids-append 10 (codes ", ") (place_text kind) (avoids_known 10 (codes ", ") refl) (place_clear kind fits.1) in
    between (codes "unknown, outside 128 bits at node ") _ n (avoids_known 10 (codes "unknown, outside 128 bits at node ") refl) fits.0 place

values_clear : (ns : List (List ℕ)) (vs : List ℤ) → AllByRecursion Name ns → AllByRecursion (λ v. Avoids 10 (signed_decimal v)) vs
    → Avoids 10 (values_text ns vs)
values_clear [] vs are clear = tt
values_clear (n ∷ ns) [] are clear = tt
values_clear (n ∷ ns) (v ∷ vs) are clear =
    let value = avoids-append 10 (signed_decimal v) (values_text ns vs) clear.0 (values_clear ns vs are.1 clear.1) in
    let behind = avoids-append 10 (codes "=") (signed_decimal v ++ values_text ns vs) (avoids_known 10 (codes "=") refl) value in
    avoids-append 10 (codes " ") (n ++ (codes "=" ++ (signed_decimal v ++ values_text ns vs))) (avoids_known 10 (codes " ") refl)
    (avoids-append 10 n (codes "=" ++ (signed_decimal v ++ values_text ns vs)) (word_avoids 10 n refl (word_of n are.0)) behind)

sample_clear : (file : File) (x : ReportSample) → SampleFits file x → Avoids 10 (sample_text file x)
sample_clear file (sample.Sample values) fits =
    let a = file.automaton in
    let names = each_front Name a.parameters a.shared (each_front Name (a.parameters ++ a.shared) a.locations a.shape.names_legal) in
    let clear = each_weaker _ (λ (v : ℤ). Avoids 10 (signed_decimal v)) values (λ v is. number_avoids 10 v (lit< tt) is) fits.1 in
    avoids-append 10 (codes "sample") (values_text a.parameters values) (avoids_known 10 (codes "sample") refl)
    (values_clear a.parameters values names clear)
sample_clear file sample.Empty fits = avoids_known 10 (codes "none") refl
sample_clear file (sample.Spent n) fits = spent_clear n fits
sample_clear file (sample.Overflow n kind) fits = overflow_clear n kind fits

verdict_clear : (file : File) (v : Verdict) → VerdictFits file v → Avoids 10 (rest_word v ++ verdict_text v)
verdict_clear file (Safe n l) fits = between (codes "rest safe, ") _ n (avoids_known 10 (codes "rest safe, ") refl) fits.0
    (between (codes " nodes, ") _ l (avoids_known 10 (codes " nodes, ") refl) fits.1 (avoids_known 10 (codes " leaves") refl))
verdict_clear file (Unsafe n run) fits = between (codes "rest unsafe, ") _ n (avoids_known 10 (codes "rest unsafe, ") refl) fits.0
    (avoids_known 10 (codes " nodes") refl)
verdict_clear file (Spent n) fits = spent_clear n fits
verdict_clear file (Overflow n kind) fits = overflow_clear n kind fits

-- ---- a line is determined, and so is what stands behind it
line_same : (a b r s : List ℕ) → Avoids 10 a → Avoids 10 b → (a ++ codes "\n") ++ r ≡ (b ++ codes "\n") ++ s → (a ≡ b) × (r ≡ s)
line_same a b r s clear other e = first_byte 10 a b r s clear other (sym (append_assoc a (codes "\n") r) ∙ e ∙ append_assoc b (codes "\n") s)

sample_same : (file : File) (x y : ReportSample) (r s : List ℕ) → SampleFits file x → SampleFits file y → sample_line file x ++ r ≡ sample_line file y ++ s
    → (sample_line file x ≡ sample_line file y) × (r ≡ s)
sample_same file x y r s fx fy e =
    let behind = append_cancel_left (codes "parameters: ") ((sample_text file x ++ codes "\n") ++ r) ((sample_text file y ++ codes "\n") ++ s) e in
    let parts = line_same (sample_text file x) (sample_text file y) r s (sample_clear file x fx) (sample_clear file y fy) behind in
    (ap (λ (t : List ℕ). codes "parameters: " ++ (t ++ codes "\n")) parts.0, parts.1)

-- two verdicts have the word, or neither
word_same : (v w : Verdict) → rest_word v ++ verdict_text v ≡ rest_word w ++ verdict_text w → verdict_text v ≡ verdict_text w
word_same (Safe m k) (Safe n l) e = append_cancel_left (codes "rest ") (verdict_text (Safe m k)) (verdict_text (Safe n l)) e
word_same (Safe m k) (Unsafe n s) e = append_cancel_left (codes "rest ") (verdict_text (Safe m k)) (verdict_text (Unsafe n s)) e
word_same (Unsafe m r) (Safe n l) e = append_cancel_left (codes "rest ") (verdict_text (Unsafe m r)) (verdict_text (Safe n l)) e
word_same (Unsafe m r) (Unsafe n s) e = append_cancel_left (codes "rest ") (verdict_text (Unsafe m r)) (verdict_text (Unsafe n s)) e
word_same (Safe m k) _ e = heads_apart 114 117 _ _ (inl (lit< tt)) e
word_same (Unsafe m r) _ e = heads_apart 114 117 _ _ (inl (lit< tt)) e
word_same _ (Safe n l) e = heads_apart 117 114 _ _ (inr (lit< tt)) e
word_same _ (Unsafe n s) e = heads_apart 117 114 _ _ (inr (lit< tt)) e
word_same (Spent m) (Spent n) e = e
word_same (Spent m) (Overflow n k) e = e
word_same (Overflow m k) (Spent n) e = e
word_same (Overflow m k) (Overflow n l) e = e

-- behind lines that are the same stand the same runs, or none
runs_same : (file : File) (v w : Verdict) (r s : List ℕ) → VerdictFits file v → VerdictFits file w → verdict_text v ≡ verdict_text w
    → run_part file v ++ r ≡ run_part file w ++ s → (run_part file v ≡ run_part file w) × (r ≡ s)
runs_same file (Unsafe m run) (Unsafe n other) r s fv fw t e =
    let parts = run_front file run other r s fv.1 fw.1 e in
    (ap (run_text file) parts.0, parts.1)
runs_same file (Unsafe m run) (Safe n l) r s fv fw t e = heads_apart 117 115 _ _ (inr (lit< tt)) t
runs_same file (Unsafe m run) (Spent n) r s fv fw t e = apart_third 117 110 115 107 _ _ (inr (lit< tt)) t
runs_same file (Unsafe m run) (Overflow n k) r s fv fw t e = apart_third 117 110 115 107 _ _ (inr (lit< tt)) t
runs_same file (Safe n l) (Unsafe m run) r s fv fw t e = heads_apart 115 117 _ _ (inl (lit< tt)) t
runs_same file (Spent n) (Unsafe m run) r s fv fw t e = apart_third 117 110 107 115 _ _ (inl (lit< tt)) t
runs_same file (Overflow n k) (Unsafe m run) r s fv fw t e = apart_third 117 110 107 115 _ _ (inl (lit< tt)) t
runs_same file (Safe m k) (Safe n l) r s fv fw t e = (refl, e)
runs_same file (Safe m k) (Spent n) r s fv fw t e = (refl, e)
runs_same file (Safe m k) (Overflow n l) r s fv fw t e = (refl, e)
runs_same file (Spent m) (Safe n l) r s fv fw t e = (refl, e)
runs_same file (Spent m) (Spent n) r s fv fw t e = (refl, e)
runs_same file (Spent m) (Overflow n l) r s fv fw t e = (refl, e)
runs_same file (Overflow m k) (Safe n l) r s fv fw t e = (refl, e)
runs_same file (Overflow m k) (Spent n) r s fv fw t e = (refl, e)
runs_same file (Overflow m k) (Overflow n l) r s fv fw t e = (refl, e)

told_flat : (p : Pattern) (v : Verdict) (r : List ℕ)
    → told_line true p v ++ r ≡ codes "pattern " ++ (p.name ++ (codes ": " ++ (((rest_word v ++ verdict_text v) ++ codes "\n") ++ r)))
told_flat p v r =
    ap (λ (t : List ℕ). codes "pattern " ++ t)
    (append_assoc p.name (codes ": " ++ (rest_word v ++ (verdict_text v ++ codes "\n"))) r
    ∙ ap (λ (t : List ℕ). p.name ++ (codes ": " ++ (t ++ r))) (sym (append_assoc (rest_word v) (verdict_text v) (codes "\n"))))

-- the line of a pattern without the word, its run, and what stands behind it
told_same : (file : File) (p : Pattern) (v w : Verdict) (r s : List ℕ) → VerdictFits file v → VerdictFits file w
    → told_line true p v ++ (run_part file v ++ r) ≡ told_line true p w ++ (run_part file w ++ s)
    → (told_line false p v ≡ told_line false p w) × (run_part file v ≡ run_part file w) × (r ≡ s)
told_same file p v w r s fv fw e =
    let named = append_cancel_left (codes "pattern ") _ _ (sym (told_flat p v (run_part file v ++ r)) ∙ e ∙ told_flat p w (run_part file w ++ s)) in
    let told = append_cancel_left (codes ": ") _ _ (append_cancel_left p.name _ _ named) in
    let parts = line_same (rest_word v ++ verdict_text v) (rest_word w ++ verdict_text w) (run_part file v ++ r) (run_part file w ++ s)
    (verdict_clear file v fv) (verdict_clear file w fw) told in
    let words = word_same v w parts.0 in
    let runs = runs_same file v w r s fv fw words parts.1 in
    (ap (λ (t : List ℕ). codes "pattern " ++ (p.name ++ (codes ": " ++ (t ++ codes "\n")))) words, runs.0, runs.1)

lines_same : (file : File) (ps : List Pattern) (vs ws : List Verdict) → length vs ≡ length ps → length ws ≡ length ps → AllByRecursion (VerdictFits file) vs
    → AllByRecursion (VerdictFits file) ws → told_lines true file ps vs ≡ told_lines true file ps ws
    → told_lines false file ps vs ≡ told_lines false file ps ws
lines_same file [] vs ws cv cw fv fw e = refl
lines_same file (p ∷ ps) [] ws cv cw fv fw e = absurd (omega arith)
lines_same file (p ∷ ps) (v ∷ vs) [] cv cw fv fw e = absurd (omega arith)
lines_same file (p ∷ ps) (v ∷ vs) (w ∷ ws) cv cw fv fw e =
    let parts = told_same file p v w (told_lines true file ps vs) (told_lines true file ps ws) fv.0 fw.0 e in
    let later = lines_same file ps vs ws (omega arith) (omega arith) fv.1 fw.1 parts.2 in
    ap (λ (t : List ℕ). t ++ (run_part file v ++ told_lines false file ps vs)) parts.0
    ∙ ap (λ (t : List ℕ). told_line false p w ++ (t ++ told_lines false file ps vs)) parts.1
    ∙ ap (λ (t : List ℕ). told_line false p w ++ (run_part file w ++ t)) later

pub rest_reports_distinct : ReportsAreDistinct → (file : File) (pick : Pick) (x y : ReportSample) (vs ws : List Verdict)
    → length vs ≡ length (picked pick file.patterns) → length ws ≡ length (picked pick file.patterns) → SampleFits file x → SampleFits file y
    → AllByRecursion (VerdictFits file) vs → AllByRecursion (VerdictFits file) ws → rest_text file pick x vs ≡ rest_text file pick y ws
    → (x ≡ y) × (vs ≡ ws)
rest_reports_distinct lines_differ file pick x y vs ws cv cw fx fy fv fw e =
    let ps = picked pick file.patterns in
    let behind = append_cancel_left (codes "\n") _ _ (append_cancel_left file.automaton.name _ _ (append_cancel_left (codes "automaton ") _ _ e)) in
    let parts = sample_same file x y (told_lines true file ps vs) (told_lines true file ps ws) fx fy behind in
    let lines = lines_same file ps vs ws cv cw fv fw parts.1 in
    lines_differ file pick x y vs ws cv cw fx fy fv fw
    (ap (λ (t : List ℕ). codes "automaton " ++ (file.automaton.name ++ (codes "\n" ++ (t ++ told_lines false file ps vs)))) parts.0
    ∙ ap (λ (t : List ℕ). codes "automaton " ++ (file.automaton.name ++ (codes "\n" ++ (sample_line file y ++ t)))) lines)
