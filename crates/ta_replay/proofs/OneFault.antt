-- A text has one first error.
use Rattle.ta_replay.proofs.Common.{ℕ, ◌+◌, ◌≡◌, ◌⊎◌, List, [], ◌∷◌, ◌++◌, length, refl, sym, ap, subst, ◌∙◌, inl, inr, append_assoc, append-nil}
use Rattle.ta_replay.proofs.Common.{AllByRecursion, each_back, first_byte, not_parted, File, Run, RunFault, Fits, run_lines, lines_text, FormAt, LinesGoOn}
use Rattle.ta_replay.proofs.Common.{IsTrailingRun, IsUnfinishedRun, IsMisformed, IsMalformedRun, IsMisnamed, TextFault, Avoids}
use Rattle.ta_replay.specs.declared.fault.RunFault.TheVariants as fault
use Rattle.ta_replay.proofs.OneRun.{run_clear, run_formed, not_longer, begun_clear, fault_clear, formed_clear}

-- a run begins with the lines, or they are none
Begun : File → List (List ℕ) → Type 0
Begun file ls = (ls ≡ []) ⊎ ((run : Run) × (later : List (List ℕ)) × Fits file run × (run_lines file run ≡ ls ++ later))

-- where no run goes on with the next line of the text
Stops : File → List (List ℕ) → List ℕ → Type 0
Stops file ls rest = (run : Run) (line behind : List ℕ) (later : List (List ℕ)) → Fits file run → run_lines file run ≡ ls ++ (line ∷ later) → rest ≡ line
    ++ (10 ∷ behind) → ⊥

-- what is known of the lines before an error
record Stands (file : File) (bytes : List ℕ) (ls : List (List ℕ)) (rest : List ℕ) : Type 0 where
  text : bytes ≡ lines_text ls ++ rest
  begun : Begun file ls
  clean : AllByRecursion (Avoids 10) ls
  stops : Stops file ls rest

-- lines that a run goes on from are begun
begun_of : (file : File) (ls : List (List ℕ)) → LinesGoOn file ls → Begun file ls
unfolding Begun
begun_of file ls (inl none) = inl none
begun_of file ls (inr front) = inr (front.run, front.next ∷ front.later, front.fits, front.lines)

-- a line of a run, where the run goes on with it
next_clear : (file : File) (run : Run) (ls : List (List ℕ)) (line : List ℕ) (later : List (List ℕ)) → Fits file run → run_lines file run ≡ ls ++ (line ∷ later)
    → Avoids 10 line
next_clear file run ls line later fits e = (each_back (Avoids 10) ls (line ∷ later) (subst (AllByRecursion (Avoids 10)) e (run_clear file run fits))).0

-- before a line of another form, or none
malformed_stands : (file : File) (bytes : List ℕ) (ls : List (List ℕ)) (rest : List ℕ) → bytes ≡ lines_text ls ++ rest → IsTrailingRun file ls rest
    ⊎ (IsUnfinishedRun file ls rest ⊎ IsMisformed file ls rest) → Stands file bytes ls rest
unfolding Begun Stops
malformed_stands file bytes ls rest text (inl trailing) =
    let whole = trailing.whole in
    record {
      text = text;
      begun = inr (whole.run, [], whole.fits, whole.lines ∙ sym (append-nil ls));
      clean = fault_clear file ls rest (inl trailing);
      stops = λ run line behind later fits e next. not_longer file run whole.run line later fits whole.fits
          (e ∙ ap (λ xs. xs ++ (line ∷ later)) (sym whole.lines));
    }
malformed_stands file bytes ls rest text (inr (inl unfinished)) = record {
  text = text;
  begun = begun_of file ls unfinished.begun;
  clean = begun_clear file ls unfinished.begun;
  stops = λ run line behind later fits e next. not_parted 10 line behind rest unfinished.no_feed next;
}
malformed_stands file bytes ls rest text (inr (inr misformed)) = record {
  text = text;
  begun = begun_of file ls misformed.begun;
  clean = begun_clear file ls misformed.begun;
  stops = λ run line behind later fits e next.
      let same = first_byte 10 line misformed.line behind misformed.behind (next_clear file run ls line later fits e) misformed.no_feed
      (sym next ∙ misformed.next) in
      misformed.other (subst (FormAt file.automaton (length ls)) same.0 (run_formed file run ls line later fits e));
}

-- before a line of another name
misnamed_stands : (file : File) (bytes : List ℕ) (n : ℕ) (bad : IsMisnamed file bytes n) → Stands file bytes bad.ls (bad.line ++ (10 ∷ bad.behind))
unfolding Stops
misnamed_stands file bytes n bad = record {
  text = bad.text;
  begun = begun_of file bad.ls bad.begun;
  clean = begun_clear file bad.ls bad.begun;
  stops = λ run line behind later fits e next.
      let same = first_byte 10 line bad.line behind bad.behind (next_clear file run bad.ls line later fits e)
      (formed_clear file.automaton (length bad.ls) bad.line bad.form) (sym next) in
      bad.unnamed run later fits (e ∙ ap (λ l. bad.ls ++ (l ∷ later)) same.0);
}

-- of two lists of lines at the front of one text, one begins with the other
Overlap : List (List ℕ) → List (List ℕ) → List ℕ → List ℕ → Type 0
Overlap ls ms x y = ((ls ≡ ms) × (x ≡ y)) ⊎
    (((line : List ℕ) × (more : List (List ℕ)) × (ms ≡ ls ++ (line ∷ more)) × (x ≡ line ++ (10 ∷ (lines_text more ++ y))))
    ⊎ ((line : List ℕ) × (more : List (List ℕ)) × (ls ≡ ms ++ (line ∷ more)) × (y ≡ line ++ (10 ∷ (lines_text more ++ x)))))

overlap_more : (l m : List ℕ) (ls ms : List (List ℕ)) (x y : List ℕ) → l ≡ m → Overlap ls ms x y → Overlap (l ∷ ls) (m ∷ ms) x y
unfolding Overlap
overlap_more l m ls ms x y e (inl same) = let tail = same.0 in inl (cc, same.1)
overlap_more l m ls ms x y e (inr (inl (line, more, tail, text))) = inr (inl (line, more, cc, text))
overlap_more l m ls ms x y e (inr (inr (line, more, tail, text))) = inr (inr (line, more, cc, text))

overlap : (ls ms : List (List ℕ)) (x y : List ℕ) → AllByRecursion (Avoids 10) ls → AllByRecursion (Avoids 10) ms → lines_text ls ++ x ≡ lines_text ms ++ y
    → Overlap ls ms x y
unfolding Overlap
overlap [] [] x y plain clean e = inl (refl, e)
overlap [] (m ∷ ms) x y plain clean e = inr (inl (m, ms, refl, e ∙ append_assoc m (10 ∷ lines_text ms) y))
overlap (l ∷ ls) [] x y plain clean e = inr (inr (l, ls, refl, sym e ∙ append_assoc l (10 ∷ lines_text ls) x))
overlap (l ∷ ls) (m ∷ ms) x y plain clean e =
    let parts = first_byte 10 l m (lines_text ls ++ x) (lines_text ms ++ y) plain.0 clean.0
    (sym (append_assoc l (10 ∷ lines_text ls) x) ∙ e ∙ append_assoc m (10 ∷ lines_text ms) y) in
    overlap_more l m ls ms x y parts.0 (overlap ls ms x y plain.1 clean.1 parts.1)

-- no text stops before lines that are begun
no_stop : (file : File) (ls ms : List (List ℕ)) (x line behind : List ℕ) (more : List (List ℕ)) → Stops file ls x → Begun file ms → ms ≡ ls ++ (line ∷ more)
    → x ≡ line ++ (10 ∷ behind) → ⊥
unfolding Begun Stops
no_stop file [] ms x line behind more stops (inl none) e text = let empty = sym none ∙ e in cc
no_stop file (l ∷ ls) ms x line behind more stops (inl none) e text = let empty = sym none ∙ e in cc
no_stop file ls ms x line behind more stops (inr (run, later, fits, lines)) e text =
    stops run line behind (more ++ later) fits (lines ∙ ap (λ xs. xs ++ later) e ∙ append_assoc ls (line ∷ more) later) text

-- a text stops at one place
one_stop : (file : File) (bytes : List ℕ) (ls ms : List (List ℕ)) (x y : List ℕ) → Stands file bytes ls x → Stands file bytes ms y → (ls ≡ ms) × (x ≡ y)
unfolding Overlap
one_stop file bytes ls ms x y a b = stop_of (overlap ls ms x y a.clean b.clean (sym a.text ∙ b.text))
  where
    stop_of : Overlap ls ms x y → (ls ≡ ms) × (x ≡ y)
    stop_of (inl same) = same
    stop_of (inr (inl (line, more, tail, text))) = absurd (no_stop file ls ms x line (lines_text more ++ y) more a.stops b.begun tail text)
    stop_of (inr (inr (line, more, tail, text))) = absurd (no_stop file ms ls y line (lines_text more ++ x) more b.stops a.begun tail text)

-- malformed at one line
pub one_malformed : (file : File) (bytes : List ℕ) (m n : ℕ) → IsMalformedRun file bytes m → IsMalformedRun file bytes n → m ≡ n
one_malformed file bytes m n a b =
    let same = one_stop file bytes a.ls b.ls a.rest b.rest (malformed_stands file bytes a.ls a.rest a.text a.fault)
    (malformed_stands file bytes b.ls b.rest b.text b.fault) in
    a.place ∙ ap (λ ls. length ls + 1) same.0 ∙ sym b.place

-- misnamed at one line
pub one_misnamed : (file : File) (bytes : List ℕ) (m n : ℕ) → IsMisnamed file bytes m → IsMisnamed file bytes n → m ≡ n
one_misnamed file bytes m n a b =
    let same = one_stop file bytes a.ls b.ls (a.line ++ (10 ∷ a.behind)) (b.line ++ (10 ∷ b.behind)) (misnamed_stands file bytes m a)
    (misnamed_stands file bytes n b) in
    a.place ∙ ap (λ ls. length ls + 1) same.0 ∙ sym b.place

-- at one place a text has one error
one_kind : (file : File) (ls : List (List ℕ)) (rest line behind : List ℕ) → IsTrailingRun file ls rest
    ⊎ (IsUnfinishedRun file ls rest ⊎ IsMisformed file ls rest) → LinesGoOn file ls → FormAt file.automaton (length ls) line → rest ≡ line ++ (10 ∷ behind) → ⊥
one_kind file ls rest line behind (inl trailing) (inl none) form next = let whole = trailing.whole.lines ∙ none in cc
one_kind file ls rest line behind (inl trailing) (inr front) form next =
    let whole = trailing.whole in
    not_longer file front.run whole.run front.next front.later front.fits whole.fits
    (front.lines ∙ ap (λ xs. xs ++ (front.next ∷ front.later)) (sym whole.lines))
one_kind file ls rest line behind (inr (inl unfinished)) begun form next = not_parted 10 line behind rest unfinished.no_feed next
one_kind file ls rest line behind (inr (inr misformed)) begun form next =
    let same = first_byte 10 line misformed.line behind misformed.behind (formed_clear file.automaton (length ls) line form) misformed.no_feed
    (sym next ∙ misformed.next) in
    misformed.other (subst (FormAt file.automaton (length ls)) same.0 form)

-- no text is malformed and misnamed
pub not_both : (file : File) (bytes : List ℕ) (m n : ℕ) → IsMalformedRun file bytes m → IsMisnamed file bytes n → ⊥
not_both file bytes m n a b =
    let same = one_stop file bytes a.ls b.ls a.rest (b.line ++ (10 ∷ b.behind)) (malformed_stands file bytes a.ls a.rest a.text a.fault)
    (misnamed_stands file bytes n b) in
    one_kind file a.ls a.rest b.line b.behind a.fault (subst (LinesGoOn file) (sym same.0) b.begun)
    (subst (λ ls. FormAt file.automaton (length ls) b.line) (sym same.0) b.form) same.1

-- a malformed text is refused so, or there was no memory
pub malformed_only : (file : File) (bytes : List ℕ) (e : RunFault) (n : ℕ) → TextFault file bytes e → IsMalformedRun file bytes n → (e ≡ fault.Line n)
    ⊎ (e ≡ fault.Memory)
malformed_only file bytes (fault.Line m) n is bad = inl (ap fault.Line (one_malformed file bytes m n is bad))
malformed_only file bytes (fault.Name m) n is bad = absurd (not_both file bytes n m bad is)
malformed_only file bytes fault.Memory n is bad = inr refl
malformed_only file bytes _ n is bad = absurd is

-- a misnamed text is refused so, or there was no memory
pub misnamed_only : (file : File) (bytes : List ℕ) (e : RunFault) (n : ℕ) → TextFault file bytes e → IsMisnamed file bytes n → (e ≡ fault.Name n)
    ⊎ (e ≡ fault.Memory)
misnamed_only file bytes (fault.Line m) n is bad = absurd (not_both file bytes m n is bad)
misnamed_only file bytes (fault.Name m) n is bad = inl (ap fault.Name (one_misnamed file bytes m n is bad))
misnamed_only file bytes fault.Memory n is bad = inr refl
misnamed_only file bytes _ n is bad = absurd is
