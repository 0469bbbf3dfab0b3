-- A word and its values have one error.
use Rattle.ta_smt.proofs.Common.{◌≡◌, ℕ, ℤ, true, List, length, reverse, arith, refl, sym, ap, subst, ◌∙◌, false≢true, same_pattern, point_of, Row, File}
use Rattle.ta_smt.proofs.Common.{Pattern, RowFails, RowOutOfRange, RowPasses, RowsPass, is_complete, AdmitFault, AdmitFaultOf, AskedWord, FirstBadRow}
use Rattle.ta_smt.proofs.Common.{IsCompleteWord, IsIncomplete, AdmittedRunOutOfRange, WrongCount, RowStops, NoChild, NoWhole, Spelling, WholeFaultOf}
use Rattle.ta_smt.proofs.Common.{WordFaultOf, FirstStranger, ◌≢◌}
use Rattle.ta_replay.proofs.FirstBad.{BothBad, RowClash, fails_clash, leaves_clash, meets, no_stop_at, not_both_bad}
use Rattle.ta_smt.specs.declared.fault.AdmitFault.TheVariants as fault
use Rattle.ta_smt.specs.declared.fault.WordFault.{WordFault}
use Rattle.ta_smt.specs.declared.fault.WordFault.TheVariants as word_fault
use Rattle.ta_smt.specs.Determined.{AdmitFaultsAreDetermined, WholeFaultsAreDetermined, WordFaultsAreDetermined}
use Rattle.ta_smt.proofs.Admitted.{solution_counts, twins}
use Rattle.ta_smt.proofs.Forms.{Alike, fails_alike, leaves_alike, rows_pass, rows_stop}
use Rattle.ta_smt.proofs.Spelled.{stranger_once}
use Rattle.ta_smt.proofs.ValueTexts.{bad_line_once, not_both, values_once}
use Rattle.ta_smt.proofs.WordsNamed.{no_word_fault, one_named}

-- a way in which a row is bad: no row that passes is so, and it is a matter of the row's numbers
record IsBadness (Bad : (ℕ → ℤ) → Row → Type 0) : Type 0 where
  clash : (point : ℕ → ℤ) → RowClash point (Bad point)
  alike : (point : ℕ → ℤ) (r q : Row) → Alike r q → Bad point r → Bad point q

failing : IsBadness RowFails
failing = record { clash = fails_clash; alike = fails_alike }

leaving : IsBadness RowOutOfRange
leaving = record { clash = leaves_clash; alike = leaves_alike }

-- a row is bad in both ways
BadTwice : ((ℕ → ℤ) → Row → Type 0) → ((ℕ → ℤ) → Row → Type 0) → Type 0
BadTwice Bad Worse = (point : ℕ → ℤ) × BothBad (Bad point) (Worse point)

module _ (file : File) (word : AskedWord) (bytes : List ℕ) where
  -- a word is complete or not
  not_complete : IsIncomplete file word → IsCompleteWord file word → ⊥
  not_complete a b =
      let same = same_pattern file word.pattern b.pattern a.pattern b.named a.named in
      false≢true (sym a.incomplete ∙ subst (λ (p : Pattern). is_complete p (reverse word.elements) ≡ true) same b.complete)

  -- the values are as many as the unknowns, or not
  count_or_row : (n k : ℕ) (Bad : (ℕ → ℤ) → Row → Type 0) → WrongCount file word bytes n → FirstBadRow file word bytes Bad k → ⊥
  count_or_row n k Bad a b =
      let same = values_once a.values b.values bytes a.spelled b.spelled in
      let t = twins file word b.of.system a.of.system b.of.is a.of.is in
      a.other (a.counted ∙ ap length same ∙ b.counted ∙ t.unknowns)

  count_or_run : (n : ℕ) → WrongCount file word bytes n → AdmittedRunOutOfRange file word bytes → ⊥
  count_or_run n a b =
      let same = values_once a.values b.values bytes a.spelled b.spelled in
      a.other (a.counted ∙ ap length same ∙ (solution_counts file word b.values a.of.system a.of.is b.solution).0)

  -- all rows pass, or not
  row_or_run : (k : ℕ) (Bad : (ℕ → ℤ) → Row → Type 0) → IsBadness Bad → FirstBadRow file word bytes Bad k → AdmittedRunOutOfRange file word bytes → ⊥
  row_or_run k Bad is a b =
      let same = values_once b.values a.values bytes b.spelled a.spelled in
      let t = twins file word b.of.system a.of.system b.of.is a.of.is in
      let pass : RowsPass (point_of a.values) b.of.system.rows = subst (λ vs. RowsPass (point_of vs) b.of.system.rows) same b.pass in
      no_stop_at (λ j row. RowPasses (point_of a.values) row) (λ j row. Bad (point_of a.values) row) a.of.system.rows k
      (λ j row. is.clash (point_of a.values) row)
      (rows_pass t.linear b.of.system.rows a.of.system.rows t.is t.are (point_of a.values) pass) a.stops

  -- one row is the first bad one, in whatever way
  one_row : (j k : ℕ) (Bad Worse : (ℕ → ℤ) → Row → Type 0) → IsBadness Bad → IsBadness Worse → FirstBadRow file word bytes Bad j
      → FirstBadRow file word bytes Worse k → (j ≡ k) × BadTwice Bad Worse
  unfolding BadTwice
  one_row j k Bad Worse is are a b =
      let point = point_of a.values in
      let same = values_once b.values a.values bytes b.spelled a.spelled in
      let t = twins file word b.of.system a.of.system b.of.is a.of.is in
      let stops : RowStops point (Worse point) b.of.system.rows k = subst (λ vs. RowStops (point_of vs) (Worse (point_of vs)) b.of.system.rows k) same b.stops
      in
      let there = rows_stop t.linear b.of.system.rows a.of.system.rows t.is t.are point (Worse point) (are.alike point) k stops in
      let met = meets (λ i row. RowPasses point row) (λ i row. Bad point row) (λ i row. Worse point row) a.of.system.rows j k (λ i row. is.clash point row)
      (λ i row. are.clash point row) a.stops there in
      (met.same, (point, (met.item, met.bad, met.worse)))

  -- no row both fails and leaves the range
  fails_or_leaves : (j k : ℕ) → FirstBadRow file word bytes RowFails j → FirstBadRow file word bytes RowOutOfRange k → ⊥
  unfolding BadTwice
  fails_or_leaves j k a b = let both = (one_row j k RowFails RowOutOfRange failing leaving a b).1 in not_both_bad both.0 both.1

  one_fault : (e f : AdmitFault) → e ≢ fault.Memory → f ≢ fault.Memory → AdmitFaultOf file word bytes e → AdmitFaultOf file word bytes f → e ≡ f
  one_fault fault.Incomplete fault.Incomplete some other a b = refl
  one_fault fault.Incomplete (fault.Line n) some other a b = absurd (not_complete a b.complete)
  one_fault (fault.Line n) fault.Incomplete some other a b = absurd (not_complete b a.complete)
  one_fault (fault.Line m) (fault.Line n) some other a b = ap fault.Line (bad_line_once bytes m n a.first b.first)
  one_fault (fault.Count m) (fault.Count n) some other a b = ap fault.Count
      (a.counted ∙ ap length (values_once a.values b.values bytes a.spelled b.spelled) ∙ sym b.counted)
  one_fault (fault.Count n) (fault.Row k) some other a b = absurd (count_or_row n k RowFails a b)
  one_fault (fault.Count n) (fault.Overflow k) some other a b = absurd (count_or_row n k RowOutOfRange a b)
  one_fault (fault.Count n) fault.Run some other a b = absurd (count_or_run n a b)
  one_fault (fault.Row k) (fault.Count n) some other a b = absurd (count_or_row n k RowFails b a)
  one_fault (fault.Row j) (fault.Row k) some other a b = ap fault.Row (one_row j k RowFails RowFails failing failing a b).0
  one_fault (fault.Row j) (fault.Overflow k) some other a b = absurd (fails_or_leaves j k a b)
  one_fault (fault.Row k) fault.Run some other a b = absurd (row_or_run k RowFails failing a b)
  one_fault (fault.Overflow k) (fault.Count n) some other a b = absurd (count_or_row n k RowOutOfRange b a)
  one_fault (fault.Overflow j) (fault.Row k) some other a b = absurd (fails_or_leaves k j b a)
  one_fault (fault.Overflow j) (fault.Overflow k) some other a b = ap fault.Overflow (one_row j k RowOutOfRange RowOutOfRange leaving leaving a b).0
  one_fault (fault.Overflow k) fault.Run some other a b = absurd (row_or_run k RowOutOfRange leaving a b)
  one_fault fault.Run (fault.Count n) some other a b = absurd (count_or_run n b a)
  one_fault fault.Run (fault.Row k) some other a b = absurd (row_or_run k RowFails failing b a)
  one_fault fault.Run (fault.Overflow k) some other a b = absurd (row_or_run k RowOutOfRange leaving b a)
  one_fault fault.Run fault.Run some other a b = refl
  one_fault fault.Memory f some other a b = absurd (some refl)
  one_fault e fault.Memory some other a b = absurd (other refl)
  one_fault fault.Incomplete _ some other a b = absurd (not_complete a b.of.complete)
  one_fault (fault.Line m) _ some other a b = absurd (not_both b.values bytes m b.spelled a.first)
  one_fault _ fault.Incomplete some other a b = absurd (not_complete b a.of.complete)
  one_fault _ (fault.Line m) some other a b = absurd (not_both a.values bytes m a.spelled b.first)

pub admit_faults_once : AdmitFaultsAreDetermined
admit_faults_once = one_fault

-- no start set is both beyond the guards and within
beyond_or_within : (file : File) (spelled : Spelling) (k : ℕ) → WordFaultOf file spelled word_fault.Start → NoChild file spelled k → ⊥
beyond_or_within file spelled k a b = let beyond = a.beyond in let within = b.begins in omega arith

one_child : (file : File) (spelled : Spelling) (j k : ℕ) → NoChild file spelled j → NoChild file spelled k → j ≡ k
one_child file spelled j k a b =
    let same = one_named file spelled.name b.number a.number b.pattern a.pattern b.named a.named in
    stranger_once file.automaton a.pattern spelled.start spelled.elements j k a.stranger
    (subst (λ (p : Pattern). FirstStranger file.automaton p spelled.start spelled.elements k) same b.stranger)

pub word_faults_once : WordFaultsAreDetermined
word_faults_once file spelled word_fault.Pattern word_fault.Pattern a b = refl
word_faults_once file spelled word_fault.Pattern word_fault.Start a b = absurd (a b.number b.pattern b.named)
word_faults_once file spelled word_fault.Pattern (word_fault.Element k) a b = absurd (a b.number b.pattern b.named)
word_faults_once file spelled word_fault.Start word_fault.Pattern a b = absurd (b a.number a.pattern a.named)
word_faults_once file spelled word_fault.Start word_fault.Start a b = refl
word_faults_once file spelled word_fault.Start (word_fault.Element k) a b = absurd (beyond_or_within file spelled k a b)
word_faults_once file spelled (word_fault.Element k) word_fault.Pattern a b = absurd (b a.number a.pattern a.named)
word_faults_once file spelled (word_fault.Element k) word_fault.Start a b = absurd (beyond_or_within file spelled k b a)
word_faults_once file spelled (word_fault.Element j) (word_fault.Element k) a b = ap word_fault.Element (one_child file spelled j k a b)
word_faults_once file spelled word_fault.Incomplete f a b = absurd a
word_faults_once file spelled _ word_fault.Incomplete a b = absurd b

-- why a file hasn't a complete word: it hasn't the word, or the word isn't complete
data Lacks (file : File) (spelled : Spelling) (e : WordFault) : Type 0 where
  NoWord : WordFaultOf file spelled e → Lacks file spelled e
  NotWhole : e ≡ word_fault.Incomplete → NoWhole file spelled → Lacks file spelled e

lacks : (file : File) (spelled : Spelling) (e : WordFault) → WholeFaultOf file spelled e → Lacks file spelled e
lacks file spelled word_fault.Incomplete h = NotWhole refl h
lacks file spelled _ h = NoWord h

lacks_once : (file : File) (spelled : Spelling) (e f : WordFault) → Lacks file spelled e → Lacks file spelled f → e ≡ f
lacks_once file spelled e f (NoWord a) (NoWord b) = word_faults_once file spelled e f a b
lacks_once file spelled e f (NoWord a) (NotWhole is b) = absurd (no_word_fault file spelled b.word e b.is a)
lacks_once file spelled e f (NotWhole is a) (NoWord b) = absurd (no_word_fault file spelled a.word f a.is b)
lacks_once file spelled e f (NotWhole is a) (NotWhole are b) = is ∙ sym are

pub whole_faults_once : WholeFaultsAreDetermined
whole_faults_once file spelled e f a b = lacks_once file spelled e f (lacks file spelled e a) (lacks file spelled f b)
