use Rattle.ta_report.proofs.Common.{◌≡◌, ◌∙◌, sym, ap, subst, List, ℕ, [], ◌∷◌, ◌++◌, length, Bool, append-nil, append_assoc, refl, inl, inr, zip_first}
use Rattle.ta_report.proofs.Common.{zip_second, iter_rest, string_bytes, AllByRecursion, File, Pattern, Verdict, VerdictFits, run_part, told_line, told_lines}
use Rattle.ta_report.proofs.report.write_patterns.Goals as goal

-- a line more, and its run
line_more : (rest : Bool) (file : File) (before after text : List ℕ) (p : Pattern) (v : Verdict) (ps qs : List Pattern) (vs ws : List Verdict) → before
    ++ told_lines rest file ps vs ≡ text → ps ≡ p ∷ qs → vs ≡ v ∷ ws → after ≡ before ++ (told_line rest p v ++ run_part file v) → after
    ++ told_lines rest file qs ws ≡ text
line_more rest file before after text p v ps qs vs ws so_far first second wrote =
    ap (λ bytes. bytes ++ told_lines rest file qs ws) wrote
    ∙ append_assoc before (told_line rest p v ++ run_part file v) (told_lines rest file qs ws)
    ∙ ap (λ bytes. before ++ bytes) (append_assoc (told_line rest p v) (run_part file v) (told_lines rest file qs ws))
    ∙ sym (ap (λ left. before ++ told_lines rest file left vs) first ∙ ap (λ left. before ++ told_lines rest file (p ∷ qs) left) second) ∙ so_far

-- no line where no pattern or no verdict is left
no_pattern : (rest : Bool) (file : File) (ps : List Pattern) (vs : List Verdict) → length ps ≡ 0 → told_lines rest file ps vs ≡ []
no_pattern rest file [] vs e = refl
no_pattern rest file (p ∷ ps) vs e = cc

no_verdict : (rest : Bool) (file : File) (ps : List Pattern) (vs : List Verdict) → length vs ≡ 0 → told_lines rest file ps vs ≡ []
no_verdict rest file [] vs e = refl
no_verdict rest file (p ∷ ps) [] e = refl
no_verdict rest file (p ∷ ps) (v ∷ vs) e = cc

pub write_pattern-requires : goal.write_pattern-requires
write_pattern-requires c = (subst (AllByRecursion (VerdictFits c.args.file.now)) c.in-Some.ensures.steps.1 c.loop-pattern.invariant.0).0

pub loop-pattern-preserved : goal.loop-pattern-preserved
loop-pattern-preserved c =
    let file = c.args.file.now in
    let turn = c.in-Some.ensures.steps in
    let before = string_bytes c.loop-pattern.text in
    let after = string_bytes c.write_pattern.new.text in
    let left = subst (AllByRecursion (VerdictFits file)) turn.1 c.loop-pattern.invariant.0 in (
      left.1,
      line_more c.args.rest file before after _ c.in-Some.pattern.now c.in-Some.verdict.now _ _ _ _ c.loop-pattern.invariant.1 turn.0 turn.1
          c.in_ok-write_pattern.ensures,
    )

pub returns : goal.returns
returns c =
    let none : told_lines c.args.rest c.args.file.now (iter_rest (zip_first c.loop-pattern.pattern-iterator))
    (iter_rest (zip_second c.loop-pattern.pattern-iterator)) ≡ [] =
    elim c.in-None.ensures.steps [
      | inl e ↦ no_pattern c.args.rest c.args.file.now _ _ e.1.0
      | inr e ↦ no_verdict c.args.rest c.args.file.now _
          _ e.1.0
    ] in
    sym (append-nil (string_bytes c.loop-pattern.text)) ∙ ap (λ left. string_bytes c.loop-pattern.text ++ left) (sym none) ∙ c.loop-pattern.invariant.1
