-- Reports of a file with one text have the same sample and the same verdicts.
use Rattle.ta_report.proofs.Common.{ℕ, ℤ, ◌<◌, ◌^◌, ◌≡◌, List, [], ◌∷◌, ◌++◌, length, codes, decimal, refl, sym, ap, ◌∙◌, append_assoc, arith, inl, inr, lit<}
use Rattle.ta_report.proofs.Common.{lit≤, signed_decimal, append_cancel_left, AllByRecursion, number_other, number_same, apart_third, first_byte, heads_apart}
use Rattle.ta_report.proofs.Common.{Pattern, File, Value, run_text, number_avoids, run_front, ReportKind, Pivot, Leaf, Run, ReportSample, Verdict, Safe, Unsafe}
use Rattle.ta_report.proofs.Common.{Spent, Overflow, PlaceFits, ReportsAreDistinct, SampleFits, VerdictFits, picked, overflow_text, place_text, run_part}
use Rattle.ta_report.proofs.Common.{sample_line, sample_text, spent_text, values_text, verdict_line, verdict_lines, verdict_text}
use Rattle.ta_replay.specs.declared.run.Run.{Run as RunOf}
use Rattle.ta_replay.proofs.Decimals.{number_same as value_once}
use Rattle.ta_base.proofs.Lists.{behind_three}
use Rattle.ta_report.specs.declared.verdict.ReportSample.TheVariants as sample

-- the place in front of a line's end is determined
pub place_same : (j k : ReportKind) (r s : List ℕ) → PlaceFits j → PlaceFits k → place_text j ++ (10 ∷ r) ≡ place_text k ++ (10 ∷ s) → (j ≡ k) × (r ≡ s)
place_same (Pivot m) (Pivot n) r s fj fk e =
    let parts = number_same 10 m n r s (lit< tt) fj fk (append_cancel_left (codes "pivot ") _ _ e) in
    (ap Pivot parts.0, parts.1)
place_same (Pivot m) Leaf r s fj fk e = heads_apart 112 108 _ _ (inr (lit< tt)) e
place_same (Pivot m) Run r s fj fk e = heads_apart 112 114 _ _ (inl (lit< tt)) e
place_same Leaf (Pivot n) r s fj fk e = heads_apart 108 112 _ _ (inl (lit< tt)) e
place_same Leaf Leaf r s fj fk e = (refl, append_cancel_left (codes "leaf\n") r s e)
place_same Leaf Run r s fj fk e = heads_apart 108 114 _ _ (inl (lit< tt)) e
place_same Run (Pivot n) r s fj fk e = heads_apart 114 112 _ _ (inr (lit< tt)) e
place_same Run Leaf r s fj fk e = heads_apart 114 108 _ _ (inr (lit< tt)) e
place_same Run Run r s fj fk e = (refl, append_cancel_left (codes "run\n") r s e)

-- what is said of a budget that is spent, and what stands behind it
spent_flat : (n : ℕ) (t : List ℕ) → spent_text n ++ (10 ∷ t) ≡ codes "unknown, " ++ (decimal n ++ (codes " nodes spent\n" ++ t))
spent_flat n t = ap (λ tail. codes "unknown, " ++ tail) (append_assoc (decimal n) (codes " nodes spent") (10 ∷ t))

overflow_flat : (x : ℕ) (i : ReportKind) (t : List ℕ) → overflow_text x i ++ (10 ∷ t) ≡ codes "unknown, outside 128 bits at node "
    ++ (decimal x ++ (codes ", " ++ (place_text i ++ (10 ∷ t))))
overflow_flat x i t = ap (λ tail. codes "unknown, outside 128 bits at node " ++ tail) (append_assoc (decimal x) (codes ", " ++ place_text i) (10 ∷ t))

spent_same : (m n : ℕ) (r s : List ℕ) → m < 2 ^ 64 → n < 2 ^ 64 → spent_text m ++ (10 ∷ r) ≡ spent_text n ++ (10 ∷ s) → (m ≡ n) × (r ≡ s)
spent_same m n r s fm fn e =
    let first = number_same 32 m n _ _ (lit< tt) fm fn (append_cancel_left (codes "unknown, ") _ _ (sym (spent_flat m r) ∙ e ∙ spent_flat n s)) in
    (first.0, append_cancel_left (codes "nodes spent\n") r s first.1)

spent_other : (m n : ℕ) (j : ReportKind) (r s : List ℕ) → m < 2 ^ 64 → spent_text m ++ (10 ∷ r) ≡ overflow_text n j ++ (10 ∷ s) → ⊥
spent_other m n j r s fm e = number_other m 111 _ _ fm (lit≤ tt) (append_cancel_left (codes "unknown, ") _ _ (sym (spent_flat m r) ∙ e))

overflow_same : (m n : ℕ) (j k : ReportKind) (r s : List ℕ) → (m < 2 ^ 64) × PlaceFits j → (n < 2 ^ 64) × PlaceFits k → overflow_text m j
    ++ (10 ∷ r) ≡ overflow_text n k ++ (10 ∷ s) → (m ≡ n) × (j ≡ k) × (r ≡ s)
overflow_same m n j k r s fm fn e =
    let first = number_same 44 m n _ _ (lit< tt) fm.0 fn.0
    (append_cancel_left (codes "unknown, outside 128 bits at node ") _ _ (sym (overflow_flat m j r) ∙ e ∙ overflow_flat n k s)) in
    let second = place_same j k r s fm.1 fn.1 (append_cancel_left (codes " ") _ _ first.1) in
    (first.0, second.0, second.1)

-- a value in front of a byte below the digits is determined, and so is what stands behind it
value_same : (low : ℕ) (y z : ℤ) (r s : List ℕ) → low < 48 → Value y → Value z → signed_decimal y ++ (low ∷ r) ≡ signed_decimal z ++ (low ∷ s) → (y ≡ z)
    × (r ≡ s)
value_same low y z r s below is are e =
    let parts = first_byte low (signed_decimal y) (signed_decimal z) r s (number_avoids low y below is) (number_avoids low z below are) e in
    (value_once y z is are parts.0, parts.1)

-- the values in front of a line's end are determined
values_same : (ns : List (List ℕ)) (vs ws : List ℤ) (r s : List ℕ) → length vs ≡ length ns → length ws ≡ length ns → AllByRecursion Value vs
    → AllByRecursion Value ws → values_text ns vs ++ (10 ∷ r) ≡ values_text ns ws ++ (10 ∷ s) → (vs ≡ ws) × (r ≡ s)
values_same [] [] [] r s cv cw fv fw e = (refl, append_cancel_left (codes "\n") r s e)
values_same [] [] (w ∷ ws) r s cv cw fv fw e = absurd (omega arith)
values_same [] (v ∷ vs) ws r s cv cw fv fw e = absurd (omega arith)
values_same (n ∷ ns) [] ws r s cv cw fv fw e = absurd (omega arith)
values_same (n ∷ ns) (v ∷ vs) [] r s cv cw fv fw e = absurd (omega arith)
values_same (n ∷ []) (v ∷ []) (w ∷ []) r s cv cw fv fw e =
    let parts = value_same 10 v w r s (lit< tt) fv.0 fw.0
    (behind_three (codes " ") n (codes "=") (signed_decimal v) (signed_decimal w) [] [] (10 ∷ r) (10 ∷ s) e) in
    (ap (λ x. x ∷ []) parts.0, parts.1)
values_same (n ∷ []) (v ∷ u ∷ vs) (w ∷ ws) r s cv cw fv fw e = absurd (omega arith)
values_same (n ∷ []) (v ∷ []) (w ∷ x ∷ ws) r s cv cw fv fw e = absurd (omega arith)
values_same (n ∷ m ∷ ns) (v ∷ []) (w ∷ ws) r s cv cw fv fw e = absurd (omega arith)
values_same (n ∷ m ∷ ns) (v ∷ u ∷ vs) (w ∷ []) r s cv cw fv fw e = absurd (omega arith)
values_same (n ∷ m ∷ ns) (v ∷ u ∷ vs) (w ∷ x ∷ ws) r s cv cw fv fw e =
    let parts = value_same 32 v w _ _ (lit< tt) fv.0 fw.0
    (behind_three (codes " ") n (codes "=") (signed_decimal v) (signed_decimal w) (values_text (m ∷ ns) (u ∷ vs)) (values_text (m ∷ ns) (x ∷ ws)) (10 ∷ r)
    (10 ∷ s) e) in
    let rest = values_same (m ∷ ns) (u ∷ vs) (x ∷ ws) r s (omega arith) (omega arith) fv.1 fw.1 (ap (λ t. 32 ∷ t) parts.1) in
    (ap (λ y. y ∷ u ∷ vs) parts.0 ∙ ap (λ ys. w ∷ ys) rest.0, rest.1)

-- the sample in front of a line's end is determined
sample_same : (file : File) (x y : ReportSample) (r s : List ℕ) → SampleFits file x → SampleFits file y → sample_text file x ++ (10 ∷ r) ≡ sample_text file y
    ++ (10 ∷ s) → (x ≡ y) × (r ≡ s)
sample_same file (sample.Sample vs) (sample.Sample ws) r s fx fy e =
    let names = file.automaton.parameters in
    let parts = values_same names vs ws r s fx.0 fy.0 fx.1 fy.1
    (append_cancel_left (codes "sample") _ _
    (sym (append_assoc (codes "sample") (values_text names vs) (10 ∷ r)) ∙ e ∙ append_assoc (codes "sample") (values_text names ws) (10 ∷ s))) in
    (ap sample.Sample parts.0, parts.1)
sample_same file (sample.Sample vs) sample.Empty r s fx fy e = heads_apart 115 110 _ _ (inr (lit< tt)) e
sample_same file (sample.Sample vs) (sample.Spent n) r s fx fy e = heads_apart 115 117 _ _ (inl (lit< tt)) e
sample_same file (sample.Sample vs) (sample.Overflow n j) r s fx fy e = heads_apart 115 117 _ _ (inl (lit< tt)) e
sample_same file sample.Empty (sample.Sample ws) r s fx fy e = heads_apart 110 115 _ _ (inl (lit< tt)) e
sample_same file sample.Empty sample.Empty r s fx fy e = (refl, append_cancel_left (codes "none\n") r s e)
sample_same file sample.Empty (sample.Spent n) r s fx fy e = heads_apart 110 117 _ _ (inl (lit< tt)) e
sample_same file sample.Empty (sample.Overflow n j) r s fx fy e = heads_apart 110 117 _ _ (inl (lit< tt)) e
sample_same file (sample.Spent m) (sample.Sample ws) r s fx fy e = heads_apart 117 115 _ _ (inr (lit< tt)) e
sample_same file (sample.Spent m) sample.Empty r s fx fy e = heads_apart 117 110 _ _ (inr (lit< tt)) e
sample_same file (sample.Spent m) (sample.Spent n) r s fx fy e = let parts = spent_same m n r s fx fy e in (ap sample.Spent parts.0, parts.1)
sample_same file (sample.Spent m) (sample.Overflow n j) r s fx fy e = absurd (spent_other m n j r s fx e)
sample_same file (sample.Overflow m j) (sample.Sample ws) r s fx fy e = heads_apart 117 115 _ _ (inr (lit< tt)) e
sample_same file (sample.Overflow m j) sample.Empty r s fx fy e = heads_apart 117 110 _ _ (inr (lit< tt)) e
sample_same file (sample.Overflow m j) (sample.Spent n) r s fx fy e = absurd (spent_other n m j s r fy (sym e))
sample_same file (sample.Overflow m j) (sample.Overflow n k) r s fx fy e =
    let parts = overflow_same m n j k r s fx fy e in
    (ap (λ z. sample.Overflow z j) parts.0 ∙ ap (λ i. sample.Overflow n i) parts.1, parts.2)

-- the line of the parameters, and what stands behind it
pub sample_flat : (file : File) (x : ReportSample) (r : List ℕ) → sample_line file x ++ r ≡ (codes "parameters: " ++ sample_text file x) ++ (10 ∷ r)
sample_flat file x r = ap (λ tail. codes "parameters: " ++ tail) (append_assoc (sample_text file x) (codes "\n") r)
    ∙ sym (append_assoc (codes "parameters: ") (sample_text file x) (10 ∷ r))

sample_line_same : (file : File) (x y : ReportSample) (r s : List ℕ) → SampleFits file x → SampleFits file y → sample_line file x ++ r ≡ sample_line file y ++ s
    → (x ≡ y) × (r ≡ s)
sample_line_same file x y r s fx fy e =
    let behind = append_cancel_left (codes "parameters: ") _ _
    (sym (append_assoc (codes "parameters: ") (sample_text file x) (10 ∷ r)) ∙ sym (sample_flat file x r) ∙ e ∙ sample_flat file y s
    ∙ append_assoc (codes "parameters: ") (sample_text file y) (10 ∷ s)) in
    sample_same file x y r s fx fy behind

-- what is said of an unsafe pattern, and what stands behind it
unsafe_flat : (n : ℕ) (run : RunOf) (t : List ℕ) → verdict_text (Unsafe n run) ++ (10 ∷ t) ≡ codes "unsafe, " ++ (decimal n ++ (codes " nodes\n" ++ t))
unsafe_flat n run t = ap (λ tail. codes "unsafe, " ++ tail) (append_assoc (decimal n) (codes " nodes") (10 ∷ t))

-- the verdict in front of a line's end is determined, and so is what stands behind its run
verdict_same : (file : File) (v w : Verdict) (r s : List ℕ) → VerdictFits file v → VerdictFits file w → verdict_text v
    ++ (10 ∷ (run_part file v ++ r)) ≡ verdict_text w ++ (10 ∷ (run_part file w ++ s)) → (v ≡ w) × (r ≡ s)
verdict_same file (Safe m k) (Safe n l) r s fv fw e =
    let flat : (x y : ℕ) (t : List ℕ) → verdict_text (Safe x y) ++ (10 ∷ t) ≡ codes "safe, "
    ++ (decimal x ++ (codes " nodes, " ++ (decimal y ++ (codes " leaves\n" ++ t)))) =
    λ x y t. ap (λ tail. codes "safe, " ++ tail)
    (append_assoc (decimal x) (codes " nodes, " ++ (decimal y ++ codes " leaves")) (10 ∷ t)
    ∙ ap (λ tail. decimal x ++ (codes " nodes, " ++ tail)) (append_assoc (decimal y) (codes " leaves") (10 ∷ t))) in
    let first = number_same 32 m n _ _ (lit< tt) fv.0 fw.0 (append_cancel_left (codes "safe, ") _ _ (sym (flat m k r) ∙ e ∙ flat n l s)) in
    let second = number_same 32 k l _ _ (lit< tt) fv.1 fw.1 (append_cancel_left (codes "nodes, ") _ _ first.1) in
    (ap (λ x. Safe x k) first.0 ∙ ap (λ y. Safe n y) second.0, append_cancel_left (codes "leaves\n") r s second.1)
verdict_same file (Unsafe m run) (Unsafe n other) r s fv fw e =
    let first = number_same 32 m n _ _ (lit< tt) fv.0 fw.0
    (append_cancel_left (codes "unsafe, ") _ _ (sym (unsafe_flat m run (run_text file run ++ r)) ∙ e ∙ unsafe_flat n other (run_text file other ++ s))) in
    let second = run_front file run other r s fv.1 fw.1 (append_cancel_left (codes "nodes\n") _ _ first.1) in
    (ap (λ x. Unsafe x run) first.0 ∙ ap (λ y. Unsafe n y) second.0, second.1)
verdict_same file (Spent m) (Spent n) r s fv fw e = let parts = spent_same m n r s fv fw e in (ap Spent parts.0, parts.1)
verdict_same file (Spent m) (Overflow n j) r s fv fw e = absurd (spent_other m n j r s fv e)
verdict_same file (Overflow m j) (Spent n) r s fv fw e = absurd (spent_other n m j s r fw (sym e))
verdict_same file (Overflow m j) (Overflow n k) r s fv fw e =
    let parts = overflow_same m n j k r s fv fw e in
    (ap (λ x. Overflow x j) parts.0 ∙ ap (λ i. Overflow n i) parts.1, parts.2)
verdict_same file (Safe m k) _ r s fv fw e = heads_apart 115 117 _ _ (inl (lit< tt)) e
verdict_same file _ (Safe n l) r s fv fw e = heads_apart 117 115 _ _ (inr (lit< tt)) e
verdict_same file (Unsafe m run) _ r s fv fw e = apart_third 117 110 115 107 _ _ (inr (lit< tt)) e
verdict_same file _ (Unsafe n run) r s fv fw e = apart_third 117 110 107 115 _ _ (inl (lit< tt)) e

-- a line, and what stands behind it
line_flat : (p : Pattern) (v : Verdict) (r : List ℕ) → verdict_line p v ++ r ≡ codes "pattern " ++ (p.name ++ (codes ": " ++ (verdict_text v ++ (10 ∷ r))))
line_flat p v r =
    ap (λ tail. codes "pattern " ++ tail)
    (append_assoc p.name (codes ": " ++ (verdict_text v ++ (10 ∷ []))) r
    ∙ ap (λ tail. p.name ++ (codes ": " ++ tail)) (append_assoc (verdict_text v) (10 ∷ []) r))

-- the verdict of a line is determined, and so is what stands behind its run
line_same : (file : File) (p : Pattern) (v w : Verdict) (r s : List ℕ) → VerdictFits file v → VerdictFits file w → verdict_line p v
    ++ (run_part file v ++ r) ≡ verdict_line p w ++ (run_part file w ++ s) → (v ≡ w) × (r ≡ s)
line_same file p v w r s fv fw e =
    let named = append_cancel_left (codes "pattern ") _ _ (sym (line_flat p v (run_part file v ++ r)) ∙ e ∙ line_flat p w (run_part file w ++ s)) in
    let told = append_cancel_left p.name _ _ named in
    verdict_same file v w r s fv fw (append_cancel_left (codes ": ") _ _ told)

-- the verdicts of lines are determined
lines_same : (file : File) (ps : List Pattern) (vs ws : List Verdict) → length vs ≡ length ps → length ws ≡ length ps → AllByRecursion (VerdictFits file) vs
    → AllByRecursion (VerdictFits file) ws → verdict_lines file ps vs ≡ verdict_lines file ps ws → vs ≡ ws
lines_same file [] [] [] cv cw fv fw e = refl
lines_same file [] [] (w ∷ ws) cv cw fv fw e = cc
lines_same file [] (v ∷ vs) ws cv cw fv fw e = absurd (omega arith)
lines_same file (p ∷ ps) [] ws cv cw fv fw e = absurd (omega arith)
lines_same file (p ∷ ps) (v ∷ vs) [] cv cw fv fw e = absurd (omega arith)
lines_same file (p ∷ ps) (v ∷ vs) (w ∷ ws) cv cw fv fw e =
    let parts = line_same file p v w (verdict_lines file ps vs) (verdict_lines file ps ws) fv.0 fw.0 e in
    let rest = lines_same file ps vs ws (omega arith) (omega arith) fv.1 fw.1 parts.1 in
    ap (λ x. x ∷ vs) parts.0 ∙ ap (λ xs. w ∷ xs) rest

pub reports_distinct : ReportsAreDistinct
reports_distinct file pick x y vs ws cv cw fx fy fv fw e =
    let lines = append_cancel_left (codes "\n") _ _ (append_cancel_left file.automaton.name _ _ (append_cancel_left (codes "automaton ") _ _ e)) in
    let parts = sample_line_same file x y _ _ fx fy lines in
    (parts.0, lines_same file (picked pick file.patterns) vs ws cv cw fv fw parts.1)
