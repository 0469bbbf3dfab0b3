-- A text is that of a run, or has a first error at a line.
use Rattle.ta_replay.proofs.Common.{◌≡◌, ◌⊎◌, ℕ, zero, suc, ◌+◌, ◌<◌, List, [], ◌∷◌, ◌++◌, length, inl, inr, ⊎_elim, refl, sym, ap, ◌∙◌, append_assoc}
use Rattle.ta_replay.proofs.Common.{append-nil, length-append, arith, File, Run, Fits, run_lines, lines_text, LinesGoOn, IsTrailingRun, IsUnfinishedRun}
use Rattle.ta_replay.proofs.Common.{IsMisformed, Avoids, SplitAt}
use Rattle.ta_base.proofs.ByteLists.{split_or}
use Rattle.ta_replay.specs.declared.fault.RunFault.TheVariants as fault
use Rattle.ta_replay.specs.Answers.{HasRunText, HasTextFault}

lines_push : (ls : List (List ℕ)) (line behind : List ℕ) → lines_text ls ++ (line ++ (10 ∷ behind)) ≡ lines_text (ls ++ line ∷ []) ++ behind
lines_push [] line behind = sym (append_assoc line (10 ∷ []) behind)
lines_push (l ∷ ls) line behind = append_assoc l (10 ∷ lines_text ls) (line ++ (10 ∷ behind)) ∙ ap (λ (x : List ℕ). l ++ (10 ∷ x)) (lines_push ls line behind)
    ∙ sym (append_assoc l (10 ∷ lines_text (ls ++ line ∷ [])) behind)

module _ (file : File) (bytes : List ℕ) (no_run : ¬ HasRunText file bytes) (no_fault : ¬ HasTextFault file bytes) where
  malformed : (ls : List (List ℕ)) (rest : List ℕ) → bytes ≡ lines_text ls ++ rest → IsTrailingRun file ls rest
      ⊎ (IsUnfinishedRun file ls rest ⊎ IsMisformed file ls rest) → ⊥
  malformed ls rest text why = no_fault (fault.Line (length ls + 1), (λ e. cc), record { ls = ls; rest = rest; text = text; fault = why; place = refl })

  -- the lines are a whole run
  whole : (run : Run) (ls : List (List ℕ)) (behind : List ℕ) → Fits file run → run_lines file run ≡ ls → bytes ≡ lines_text ls ++ behind → ⊥
  whole run ls [] fits same text = no_run (run, record { fits = fits; text = text ∙ append-nil (lines_text ls) ∙ ap lines_text (sym same) })
  whole run ls (b ∷ behind) fits same text = malformed ls (b ∷ behind) text
      (inl (record { whole = record { run = run; fits = fits; lines = same }; some = λ e. cc }))

  -- a run goes on with one more line, which is its last or not
  named : (ls : List (List ℕ)) (behind : List ℕ) (run : Run) (later : List (List ℕ)) → Fits file run → run_lines file run ≡ ls ++ later → bytes ≡ lines_text ls
      ++ behind → (LinesGoOn file ls → ⊥) → ⊥
  named ls behind run [] fits lines text go_on = whole run ls behind fits (lines ∙ append-nil ls) text
  named ls behind run (next ∷ later) fits lines text go_on = go_on (inr (record { run = run; next = next; later = later; fits = fits; lines = lines }))

  -- behind lines that a run begins with, with fewer than n bytes left
  going : (n : ℕ) (ls : List (List ℕ)) (left : List ℕ) → length left < n → bytes ≡ lines_text ls ++ left → LinesGoOn file ls → ⊥
  going zero ls left few text begun = absurd (omega arith)
  going (suc n) ls left few text begun =
      ⊎_elim
      (λ (none : Avoids 10 left). malformed ls left text (inr (inl (record { begun = begun; no_feed = none }))))
      (λ (c : (line : List ℕ) × (behind : List ℕ) × SplitAt 10 left line behind).
      let here : bytes ≡ lines_text ls ++ (c.0 ++ (10 ∷ c.1)) = text ∙ ap (λ (x : List ℕ). lines_text ls ++ x) c.2.split in
      let after : bytes ≡ lines_text (ls ++ c.0 ∷ []) ++ c.1 = here ∙ lines_push ls c.0 c.1 in
      let shorter : length c.1 < n = omega (arith, ap length c.2.split, length-append c.0 (10 ∷ c.1)) in
      malformed ls left text (inr (inr (record {
        line = c.0;
        behind = c.1;
        begun = begun;
        next = c.2.split;
        no_feed = c.2.first;
        other = λ form.
            no_fault (
              fault.Name (length ls + 1),
              (λ e. cc),
              record {
                ls = ls;
                line = c.0;
                behind = c.1;
                text = here;
                begun = begun;
                form = form;
                unnamed = λ run later fits lines.
                    named (ls ++ c.0 ∷ []) c.1 run later fits (lines ∙ sym (append_assoc ls (c.0 ∷ []) later)) after
                    (λ on. going n (ls ++ c.0 ∷ []) c.1 shorter after on);
                place = refl;
              },
            );
      }))))
      (split_or 10 left)

  pub text_answers : ⊥
  text_answers = going (suc (length bytes)) [] bytes (omega arith) refl (inl refl)
