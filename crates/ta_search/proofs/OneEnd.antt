-- a template has one end of its search
use Rattle.ta_search.proofs.Common.{◌≡◌, ◌∙◌, ◌⊎◌, inl, inr, ℕ, ◌<◌, ◌≤◌, Bool, true, List, [], ◌∷◌, length, Some, slice_get, refl, sym, ap, subst, arith}
use Rattle.ta_search.proofs.Common.{false≢true}
use Rattle.ta_search.proofs.Common.{AllByRecursion, each_at, File, Pattern, Verdict, Safe, Unsafe, Spent, Overflow, FileFault, CertificateOf}
use Rattle.ta_search.proofs.Common.{CertificatesAreDetermined, AreVerdicts, SamplesAreDetermined, VerdictsAreDetermined, is_unknown, Outcome, Tried, Template}
use Rattle.ta_search.proofs.Common.{filled_text, HasVerdicts, IsOfPattern, IsRefusedFilling, IsSampled, IsUnknown, IsUnsafe, OutcomeHolds, is_safe}
use Rattle.ta_search.proofs.Common.{is_unsampled, safe_before, AreTried, IsTried, SearchesAreDetermined, is_found, vectors, Terms}
use Rattle.ta_base.specs.declared.limits.Limits.{Limits}
use Rattle.ta_meaning.specs.Laws.{FilesAreUnique, FirstFaultsAreUnique}
use Rattle.ta_report.specs.declared.verdict.ReportSample.{ReportSample}
use Rattle.ta_report.specs.declared.verdict.ReportSample.TheVariants as sample
use Rattle.ta_search.specs.declared.outcome.Outcome.TheVariants as outcome
use Rattle.ta_report.specs.declared.pick.Pick.TheVariants.{All}

-- the laws of the crates below on which it rests
pub record Laws : Type 0 where
  pub files : FilesAreUnique
  pub faults : FirstFaultsAreUnique
  pub samples : SamplesAreDetermined
  pub verdicts : VerdictsAreDetermined
  pub certificates : CertificatesAreDetermined

-- ---- what an outcome comes from

-- the first pattern whose verdict isn't Safe gives it
record Decided (file : File) (vs : List Verdict) (o : Outcome) : Type 0 where
  p : Pattern
  v : Verdict
  pattern : slice_get file.patterns (safe_before vs) ≡ Some p
  verdict : slice_get vs (safe_before vs) ≡ Some v
  is : IsOfPattern file p v o

-- or all are Safe
record Proved (file : File) (terms : Terms) (vs : List Verdict) (o : Outcome) : Type 0 where
  text : List ℕ
  all : AllByRecursion (λ v. is_safe v ≡ true) vs
  certificate : CertificateOf file terms.budget vs text
  is : o ≡ outcome.Safe text

record ByVerdicts (file : File) (terms : Terms) (o : Outcome) : Type 0 where
  verdicts : List Verdict
  are : AreVerdicts file terms.budget verdicts
  gives : Decided file verdicts o ⊎ Proved file terms verdicts o

abbrev BySample : File → Terms → ReportSample → Outcome → Type 0
BySample file terms (sample.Sample values) o = ByVerdicts file terms o
BySample file terms sample.Empty o = o ≡ outcome.Empty
BySample file terms (sample.Spent count) o = o ≡ outcome.SampleUnknown (sample.Spent count)
BySample file terms (sample.Overflow node kind) o = o ≡ outcome.SampleUnknown (sample.Overflow node kind)

record ByText (bytes : List ℕ) (terms : Terms) (o : Outcome) : Type 0 where
  file : File
  s : ReportSample
  sampled : IsSampled bytes terms file s
  gives : BySample file terms s o

record ByFault (l : Limits) (bytes : List ℕ) (o : Outcome) : Type 0 where
  e : FileFault
  refused : IsRefusedFilling l bytes e
  is : o ≡ outcome.Refused e

record ByLength (l : Limits) (bytes : List ℕ) (o : Outcome) : Type 0 where
  long : l.bytes < length bytes
  is : o ≡ outcome.Long

abbrev By : List ℕ → Terms → Outcome → Type 0
By bytes terms o = ByLength terms.limits bytes o ⊎ (ByFault terms.limits bytes o ⊎ ByText bytes terms o)

unsampled : (file : File) (terms : Terms) (s : ReportSample) → is_unsampled s ≡ true → BySample file terms s (outcome.SampleUnknown s)
unsampled file terms (sample.Sample values) said = absurd (false≢true said)
unsampled file terms sample.Empty said = absurd (false≢true said)
unsampled file terms (sample.Spent count) said = refl
unsampled file terms (sample.Overflow node kind) said = refl

of_unknown : (file : File) (p : Pattern) (v : Verdict) (name : List ℕ) → is_unknown v ≡ true → name ≡ p.name → IsOfPattern file p v (outcome.Unknown name v)
of_unknown file p (Safe nodes leaves) name said named = absurd (false≢true said)
of_unknown file p (Unsafe nodes run) name said named = absurd (false≢true said)
of_unknown file p (Spent nodes) name said named = ap (λ (n : List ℕ). outcome.Unknown n (Spent nodes)) named
of_unknown file p (Overflow node kind) name said named = ap (λ (n : List ℕ). outcome.Unknown n (Overflow node kind)) named

by_verdicts :
    {bytes : List ℕ} {terms : Terms} {file : File} {verdicts : List Verdict} (o : Outcome) → HasVerdicts bytes terms file verdicts
    → Decided file verdicts o ⊎ Proved file terms verdicts o → By bytes terms o
by_verdicts {bytes} {terms} {file} {verdicts} o judged gives = inr (inr (record {
  file = file;
  s = sample.Sample judged.values;
  sampled = judged.sampled;
  gives = record { verdicts = verdicts; are = judged.verdicts; gives = gives };
}))

by_unsafe : (bytes : List ℕ) (terms : Terms) (name run : List ℕ) → IsUnsafe bytes terms name run → By bytes terms (outcome.Unsafe name run)
by_unsafe bytes terms name run h =
    let is = ap (λ (n : List ℕ). outcome.Unsafe n run) h.named ∙ ap (outcome.Unsafe h.p.name) h.shown in
    by_verdicts (outcome.Unsafe name run) h.judged
    (inl (record { p = h.p; v = Unsafe h.nodes h.run; pattern = h.decides.pattern; verdict = h.decides.verdict; is = is }))

by_unknown : (bytes : List ℕ) (terms : Terms) (name : List ℕ) (v : Verdict) → IsUnknown bytes terms name v → By bytes terms (outcome.Unknown name v)
by_unknown bytes terms name v h =
    by_verdicts (outcome.Unknown name v) h.judged
    (inl (record { p = h.p; v = v; pattern = h.decides.pattern; verdict = h.decides.verdict; is = of_unknown h.file h.p v name h.unknown h.named }))

by : (bytes : List ℕ) (terms : Terms) (o : Outcome) → OutcomeHolds bytes terms o → By bytes terms o
by bytes terms outcome.Long h = inl (record { long = h; is = refl })
by bytes terms (outcome.Refused e) h = inr (inl (record { e = e; refused = h; is = refl }))
by bytes terms outcome.Empty h = inr (inr (record { file = h.file; s = sample.Empty; sampled = h.sampled; gives = refl }))
by bytes terms (outcome.SampleUnknown s) h = let has = h.0 in inr
    (inr (record { file = has.file; s = s; sampled = has.sampled; gives = unsampled has.file terms s h.1 }))
by bytes terms (outcome.Unsafe name run) h = by_unsafe bytes terms name run h
by bytes terms (outcome.Unknown name v) h = by_unknown bytes terms name v h
by bytes terms (outcome.Safe certificate) h = by_verdicts (outcome.Safe certificate) h.judged
    (inr (record { text = certificate; all = h.all; certificate = h.certificate; is = refl }))

-- ---- which is one
pattern_once : (file : File) (p : Pattern) (v : Verdict) (a b : Outcome) → IsOfPattern file p v a → IsOfPattern file p v b → a ≡ b
pattern_once file p (Safe nodes leaves) a b h k = absurd h
pattern_once file p (Unsafe nodes run) a b h k = h ∙ sym k
pattern_once file p (Spent nodes) a b h k = h ∙ sym k
pattern_once file p (Overflow node kind) a b h k = h ∙ sym k

not_safe : (file : File) (p : Pattern) (v : Verdict) (o : Outcome) → IsOfPattern file p v o → is_safe v ≡ true → ⊥
not_safe file p (Safe nodes leaves) o is safe = is
not_safe file p (Unsafe nodes run) o is safe = false≢true safe
not_safe file p (Spent nodes) o is safe = false≢true safe
not_safe file p (Overflow node kind) o is safe = false≢true safe

decided_once : (file : File) (vs : List Verdict) (a b : Outcome) → Decided file vs a → Decided file vs b → a ≡ b
decided_once file vs a b h k =
    let patterns = sym h.pattern ∙ k.pattern in
    let verdicts = sym h.verdict ∙ k.verdict in
    let p : h.p ≡ k.p = cc in
    let v : h.v ≡ k.v = cc in
    let first = subst (λ (q : Pattern). IsOfPattern file q h.v a) p h.is in
    pattern_once file k.p k.v a b (subst (λ (w : Verdict). IsOfPattern file k.p w a) v first) k.is

never_both : (file : File) (terms : Terms) (vs : List Verdict) (a b : Outcome) → Decided file vs a → Proved file terms vs b → ⊥
never_both file terms vs a b h k = not_safe file h.p h.v a h.is (each_at (λ v. is_safe v ≡ true) vs (safe_before vs) h.v k.all h.verdict)

gives_once :
    Laws → (file : File) (terms : Terms) (vs : List Verdict) (a b : Outcome) → AreVerdicts file terms.budget vs → Decided file vs a ⊎ Proved file terms vs a
    → Decided file vs b ⊎ Proved file terms vs b → a ≡ b
gives_once laws file terms vs a b are (inl h) (inl k) = decided_once file vs a b h k
gives_once laws file terms vs a b are (inl h) (inr k) = absurd (never_both file terms vs a b h k)
gives_once laws file terms vs a b are (inr h) (inl k) = absurd (never_both file terms vs b a k h)
gives_once laws file terms vs a b are (inr h) (inr k) =
    h.is ∙ ap (λ (text : List ℕ). outcome.Safe text) (laws.certificates file All terms.budget vs vs h.text k.text are are h.certificate k.certificate)
    ∙ sym k.is

verdicts_give : Laws → (file : File) (terms : Terms) (a b : Outcome) → ByVerdicts file terms a → ByVerdicts file terms b → a ≡ b
verdicts_give laws file terms a b h k =
    let same = laws.verdicts file All terms.budget h.verdicts k.verdicts h.are k.are in
    gives_once laws file terms k.verdicts a b k.are (subst (λ (vs : List Verdict). Decided file vs a ⊎ Proved file terms vs a) same h.gives) k.gives

sample_gives : Laws → (file : File) (terms : Terms) (s : ReportSample) (a b : Outcome) → BySample file terms s a → BySample file terms s b → a ≡ b
sample_gives laws file terms (sample.Sample values) a b h k = verdicts_give laws file terms a b h k
sample_gives laws file terms sample.Empty a b h k = h ∙ sym k
sample_gives laws file terms (sample.Spent count) a b h k = h ∙ sym k
sample_gives laws file terms (sample.Overflow node kind) a b h k = h ∙ sym k

text_gives : Laws → (bytes : List ℕ) (terms : Terms) (a b : Outcome) → ByText bytes terms a → ByText bytes terms b → a ≡ b
text_gives laws bytes terms a b h k =
    let mine = h.sampled in
    let yours = k.sampled in
    let legal = mine.legal in
    let other = yours.legal in
    let files = laws.files terms.limits bytes h.file k.file legal.means other.means in
    let moved = subst (λ (file : File). IsSampled bytes terms file h.s) files mine in
    let samples = laws.samples k.file terms.budget.nodes h.s k.s moved.sample yours.sample in
    let gives = subst (λ (file : File). BySample file terms h.s a) files h.gives in
    sample_gives laws k.file terms k.s a b (subst (λ (s : ReportSample). BySample k.file terms s a) samples gives) k.gives

refused_once : Laws → (l : Limits) (bytes : List ℕ) (a b : Outcome) → ByFault l bytes a → ByFault l bytes b → a ≡ b
refused_once laws l bytes a b h k =
    let mine = h.refused in
    let yours = k.refused in
    h.is ∙ ap (λ (e : FileFault). outcome.Refused e) (laws.faults l bytes h.e k.e mine.first yours.first) ∙ sym k.is

not_legal : (bytes : List ℕ) (terms : Terms) (a b : Outcome) → ByFault terms.limits bytes a → ByText bytes terms b → ⊥
not_legal bytes terms a b h k = let refused = h.refused in let sampled = k.sampled in let legal = sampled.legal in legal.no_fault h.e refused.first

-- one number is not above another and at most that
not_over : {most size : ℕ} → most < size → size ≤ most → ⊥
not_over over within = omega (arith, over, within)

outcome_once : Laws → (bytes : List ℕ) (terms : Terms) (a b : Outcome) → By bytes terms a → By bytes terms b → a ≡ b
outcome_once laws bytes terms a b (inl h) (inl k) = h.is ∙ sym k.is
outcome_once laws bytes terms a b (inl h) (inr (inl k)) = let refused = k.refused in absurd (not_over h.long refused.within)
outcome_once laws bytes terms a b (inl h) (inr (inr k)) = let sampled = k.sampled in absurd (not_over h.long sampled.within)
outcome_once laws bytes terms a b (inr (inl h)) (inl k) = let refused = h.refused in absurd (not_over k.long refused.within)
outcome_once laws bytes terms a b (inr (inl h)) (inr (inl k)) = refused_once laws terms.limits bytes a b h k
outcome_once laws bytes terms a b (inr (inl h)) (inr (inr k)) = absurd (not_legal bytes terms a b h k)
outcome_once laws bytes terms a b (inr (inr h)) (inl k) = let sampled = h.sampled in absurd (not_over k.long sampled.within)
outcome_once laws bytes terms a b (inr (inr h)) (inr (inl k)) = absurd (not_legal bytes terms b a k h)
outcome_once laws bytes terms a b (inr (inr h)) (inr (inr k)) = text_gives laws bytes terms a b h k

-- ---- one end
tried_once : Laws → (t : Template) (terms : Terms) (v : List ℕ) (x y : Tried) → IsTried t terms v x → IsTried t terms v y → x ≡ y
tried_once laws t terms v x y h k =
    let values : x.values ≡ y.values = h.values ∙ sym k.values in
    let bytes = filled_text t v in
    let outcomes = outcome_once laws bytes terms x.outcome y.outcome (by bytes terms x.outcome h.holds) (by bytes terms y.outcome k.holds) in
    λ i. record { values = values i; outcome = outcomes i }

-- two lists of what was tried, and what two searches found
record Same (xs ys : List Tried) (found other : Bool) : Type 0 where
  lists : xs ≡ ys
  ends : found ≡ other

all_once :
    Laws → (t : Template) (terms : Terms) (vs : List (List ℕ)) (xs ys : List Tried) (found other : Bool) → AreTried t terms vs xs found
    → AreTried t terms vs ys other → Same xs ys found other
all_once laws t terms [] [] [] found other h k = record { lists = refl; ends = h ∙ sym k }
all_once laws t terms [] [] (y ∷ ys) found other h k = absurd k
all_once laws t terms [] (x ∷ xs) ys found other h k = absurd h
all_once laws t terms (v ∷ vs) [] ys found other h k = absurd h
all_once laws t terms (v ∷ vs) (x ∷ xs) [] found other h k = absurd k
all_once laws t terms (v ∷ vs) (x ∷ xs) (y ∷ ys) found other h k =
    let first = tried_once laws t terms v x y h.0 k.0 in
    let safe : is_found x.outcome ≡ is_found y.outcome = ap (λ (z : Tried). is_found z.outcome) first in
    elim h.1 [
      | inl mine ↦ elim k.1 [
        | inl yours ↦ record {
          lists = ap (λ (z : Tried). z ∷ xs) first ∙ ap (λ (zs : List Tried). y ∷ zs) (mine.last ∙ sym yours.last);
          ends = mine.has_found
              ∙ sym yours.has_found;
        }
        | inr yours ↦ absurd (false≢true (sym yours.0 ∙ sym safe ∙ mine.safe))
      ]
      | inr mine ↦ elim k.1 [
        | inl yours ↦ absurd (false≢true (sym mine.0 ∙ safe ∙ yours.safe))
        | inr yours ↦
            let rest = all_once laws t terms vs xs ys found other mine.1 yours.1 in
            record { lists = ap (λ (z : Tried). z ∷ xs) first ∙ ap (λ (zs : List Tried). y ∷ zs) rest.lists; ends = rest.ends }
      ]
    ]

pub searches_once : Laws → SearchesAreDetermined
searches_once laws t terms a b h k =
    let same = all_once laws t terms (vectors t.holes) a.tried b.tried a.found b.found h k in
    λ i. record { tried = same.lists i; found = same.ends i }
