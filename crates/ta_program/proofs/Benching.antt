-- what `bench` makes and says
use Rattle.ta_program.proofs.Common.{true, ◌≡◌, ◌∙◌, ◌≤◌, ◌+◌, ◌++◌, ◌⊎◌, inl, inr, List, ℕ, length, false, refl, sym, ap, subst, arith}
use Rattle.ta_program.proofs.Common.{slice_get, Some, Result, Ok, Err, IfOk, File, Pattern, CertFault}
use Rattle.ta_program.proofs.Common.{Certificate, CertificateFor, Subject, CheckerFeedAnswers, IsExactCheck, Checker, Verdict}
use Rattle.ta_program.proofs.Common.{Safe, Unsafe, Spent, Overflow, VerdictHolds, Writes, Answer, claiming, subject_of, no_longer_certificate}
use Rattle.ta_program.proofs.Common.{BUDGET, IsCertified, SaysBench, bench_status, bench_text, family_text, CertificateOf, safe_numbers, AreVerdicts}
use Rattle.ta_program.proofs.Common.{is_unsafe, concat, drop, take, take-append-drop, AllByRecursion, each_at, held}
use Rattle.std.proofs.lemmas.List.Folds.{concat-append}
use Rattle.std.specs.declared.alloc.AllocError.{AllocError}
use Rattle.ta_automaton.specs.Runs as runs
use Rattle.ta_base.specs.declared.limits.TheConstants.{FILE_BYTES}
use Rattle.ta_cert.specs.declared.fault.CertFault.TheVariants as cert_fault
use Rattle.ta_maker.specs.FamilyLaws.{IsFlawless}
use Rattle.ta_maker.specs.Made.{IsFamilyNumber, Makes}
use Rattle.ta_maker.specs.declared.fault.MakerFault.{MakerFault}
use Rattle.ta_maker.specs.declared.fault.MakerFault.TheVariants as maker_fault
use Rattle.ta_meaning.specs.FirstFault.{FirstFault}
use Rattle.ta_base.specs.LimitRows.{narrow}
use Rattle.ta_meaning.specs.Reading.{Legal}
use Rattle.ta_program.proofs.UnsafePrinted.{unsafe_occurs}
use Rattle.ta_syntax.specs.declared.fault.FileFault.{FileFault}
use Rattle.ta_syntax.specs.declared.fault.FileFault.TheVariants as file_fault
use Rattle.ta_rest.specs.declared.claim.Claim.TheVariants as claim

-- ---- only want of memory hinders
pub made_memory : (k : ℕ) (f : MakerFault) → IsFamilyNumber k → Makes k (Err f) → f ≡ maker_fault.Memory
made_memory k maker_fault.Memory is h = refl
made_memory k maker_fault.Range is (inl none) = let low = is.low in absurd (omega (arith, low, none))
made_memory k maker_fault.Range is (inr more) = let high = is.high in absurd (omega (arith, high, more))

pub family_fits : (k : ℕ) (bytes : List ℕ) → IsFlawless k → bytes ≡ family_text k → length bytes ≤ FILE_BYTES
unfolding family_text
family_fits k bytes fine are = subst (λ (bs : List ℕ). length bs ≤ FILE_BYTES) (sym are) (omega (arith, fine.short))

pub read_memory : (k : ℕ) (bytes : List ℕ) (e : FileFault) → IsFlawless k → bytes ≡ family_text k
    → (e ≡ file_fault.Memory) ⊎ FirstFault narrow bytes e → e ≡ file_fault.Memory
unfolding family_text
read_memory k bytes e fine are (inl memory) = memory
read_memory k bytes e fine are (inr first) = absurd (fine.no_fault e (subst (λ (bs : List ℕ). FirstFault narrow bs e) are first))

pub feed_memory : (file : File) (text piece rest : List ℕ) (new : Checker) (f : CertFault) → subject_of new ≡ claiming claim.Safe file narrow.line_bytes
    → CheckerFeedAnswers text piece new (Err f) → IsCertified file ((text ++ piece) ++ rest) → f ≡ cert_fault.Memory
feed_memory file text piece rest new cert_fault.Memory same h c = refl
feed_memory file text piece rest new f same h c =
    absurd (no_longer_certificate (subject_of new) (text ++ piece) f h rest c.0
    (subst (λ (s : Subject). CertificateFor s ((text ++ piece) ++ rest) c.0) (sym same) c.1))

pub finish_memory : (file : File) (text : List ℕ) (f : CertFault) → IsExactCheck (claiming claim.Safe file narrow.line_bytes) text (Err f)
    → IsCertified file text
    → f ≡ cert_fault.Memory
finish_memory file text f exact c = let h : false ≡ true = exact.certificate c.0 c.1 in absurd (cc)

pub split_pieces : (k : ℕ) (pieces : List (List ℕ)) → concat pieces ≡ concat (take (k + 1) pieces) ++ concat (drop (k + 1) pieces)
split_pieces k pieces = ap concat (sym (take-append-drop (k + 1) pieces)) ∙ concat-append (take (k + 1) pieces) (drop (k + 1) pieces)

-- ---- the first verdict
not_unsafe : (file : File) (p : Pattern) (v : Verdict) → slice_get file.patterns 0 ≡ Some p → runs.Safe file.automaton p → VerdictHolds file BUDGET 0 p v
    → is_unsafe v ≡ false
not_unsafe file p (Safe nodes leaves) named safe h = refl
not_unsafe file p (Unsafe nodes run) named safe h =
    let known = unsafe_occurs file BUDGET 0 p nodes run named h in absurd (safe known.first _ known.occurs)
not_unsafe file p (Spent nodes) named safe h = refl
not_unsafe file p (Overflow node kind) named safe h = refl

-- verdicts with the text of their certificate, of which the first is said
pub says_bench : (k : ℕ) (file : File) → Legal narrow (family_text k) file → AllByRecursion (runs.Safe file.automaton) file.patterns → (vs : List Verdict)
    → AreVerdicts file BUDGET vs
    → (text : List ℕ) → CertificateOf file BUDGET vs text → Certificate file narrow.line_bytes text (safe_numbers file vs) → (p : Pattern) (v : Verdict)
    → slice_get file.patterns 0 ≡ Some p → slice_get vs 0 ≡ Some v
    → (answer : Answer) → Writes (bench_status v) (bench_text k p v) answer → SaysBench k answer
says_bench k file legal each vs are text certificate accepted p v named given answer writes =
    record {
      pattern = p;
      verdict = v;
      is = record {
        file = file;
        legal = legal;
        named = named;
        safe = each;
        verdicts = vs;
        are = are;
        given = given;
        not_unsafe = not_unsafe file p v named (each_at (runs.Safe file.automaton) file.patterns 0 p each named)
            (held (VerdictHolds file BUDGET) file.patterns vs are.hold 0 p v named given);
        text = text;
        certificate = certificate;
        accepted = accepted;
      };
      writes = writes;
    }

-- and an answer that says so, if it is one
pub says_ok : (k : ℕ) (file : File) → Legal narrow (family_text k) file → AllByRecursion (runs.Safe file.automaton) file.patterns → (vs : List Verdict)
    → AreVerdicts file BUDGET vs
    → (text : List ℕ) → CertificateOf file BUDGET vs text → Certificate file narrow.line_bytes text (safe_numbers file vs) → (p : Pattern) (v : Verdict)
    → slice_get file.patterns 0 ≡ Some p → slice_get vs 0 ≡ Some v
    → (result : Result Answer AllocError) → IfOk result (Writes (bench_status v) (bench_text k p v)) → IfOk result (SaysBench k)
says_ok k file legal each vs are text certificate accepted p v named given (Ok answer) writes = says_bench k file legal each vs are text certificate accepted p
    v named given answer writes
says_ok k file legal each vs are text certificate accepted p v named given (Err e) writes = tt
