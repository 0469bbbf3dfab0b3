-- what a judge makes of a certificate that was put
use Rattle.ta_program.proofs.Common.{◌≡◌, ◌∙◌, ◌+◌, ℕ, suc, List, [], ◌∷◌, length, map, Option, None, Some, slice_get, refl, ap, subst, inl, inr, arith}
use Rattle.ta_program.proofs.Common.{AllByRecursion, Pattern, range_with_len, AllClaimsHold, Subject, Verdict, Told, with_text, answered, Decides, IsSo}
use Rattle.ta_program.proofs.Common.{Meaning, Performs, State, in_files, seen, FileMeans, Kind, Answer, SafeOne, safe_ones, tree_size, with_safe, SaysOrFails}
use Rattle.ta_check.specs.Subjects.{claimed_with}

-- a name means in told files what it meant in others in which its bytes are the same
pub is_kept : {A F : Type 0} (kind : Kind A F) (told later : Told) (name : List ℕ) (value : A) → later name ≡ told name
    → FileMeans kind (in_files told) name value → FileMeans kind (in_files later) name value
is_kept kind told later name value same is = record {
  bytes = is.bytes;
  had = record { seen = same ∙ is.had.seen; within = is.had.within };
  means = is.means;
}

-- ---- what is claimed of patterns
module _ (subject : Subject) where
  one_holds : (number : ℕ) (p : Pattern) (size : Option ℕ) (rest : List SafeOne) → slice_get subject.file.patterns number ≡ Some p
      → ((nodes : ℕ) → size ≡ Some nodes → claimed_with subject.claim subject.silent subject.file.automaton p)
      → AllClaimsHold subject (map (λ one. one.number) rest) → AllClaimsHold subject (map (λ one. one.number) (with_safe number p size rest))
  one_holds number p None rest named safe all = all
  one_holds number p (Some nodes) rest named safe all = (record { pattern = p; named = named; safe = safe nodes refl }, all)

  -- it holds of those that verdicts say are safe, if it holds wherever one says so
  pub ones_hold : (number : ℕ) (ps : List Pattern) (vs : List Verdict)
      → ((k : ℕ) (p : Pattern) (v : Verdict) (nodes : ℕ) → slice_get ps k ≡ Some p → slice_get vs k ≡ Some v → tree_size v ≡ Some nodes
      → claimed_with subject.claim subject.silent subject.file.automaton p)
      → ((k : ℕ) (p : Pattern) → slice_get ps k ≡ Some p → slice_get subject.file.patterns (number + k) ≡ Some p)
      → AllClaimsHold subject (map (λ one. one.number) (safe_ones number ps vs))
  ones_hold number [] vs safe at = tt
  ones_hold number (p ∷ ps) [] safe at = tt
  ones_hold number (p ∷ ps) (v ∷ vs) safe at =
      let here : number + 0 ≡ number = omega arith in
      one_holds number p (tree_size v) (safe_ones (number + 1) ps vs) (subst (λ (k : ℕ). slice_get subject.file.patterns k ≡ Some p) here (at 0 p refl))
      (λ nodes is. safe 0 p v nodes refl refl is)
      (ones_hold (number + 1) ps vs (λ k q w nodes named given is. safe (suc k) q w nodes named given is)
      (λ k q named. let there : number + suc k ≡ (number + 1) + k = omega arith in subst (λ (n : ℕ). slice_get subject.file.patterns n ≡ Some q) there
      (at (suc k) q named)))

  -- it holds of all, if it holds of each
  pub each_holds : (number : ℕ) (ps : List Pattern) → AllByRecursion (claimed_with subject.claim subject.silent subject.file.automaton) ps
      → ((k : ℕ) (p : Pattern) → slice_get ps k ≡ Some p → slice_get subject.file.patterns (number + k) ≡ Some p)
      → AllClaimsHold subject (range_with_len number (length ps))
  each_holds number [] each at = tt
  each_holds number (p ∷ ps) each at =
      let here : number + 0 ≡ number = omega arith in (
        record { pattern = p; named = subst (λ (k : ℕ). slice_get subject.file.patterns k ≡ Some p) here (at 0 p refl); safe = each.0 },
        each_holds (number + 1) ps each.1
            (λ k q named. let there : number + suc k ≡ (number + 1) + k = omega arith in subst (λ (n : ℕ). slice_get subject.file.patterns n ≡ Some q) there
            (at (suc k) q named)),
      )

-- ---- a run that does what leaves the number 0 and one text in told files ends so, 6 and 7 aside
pub says_or_fails : (m : Meaning) → Decides m → (told : Told) (text : List ℕ) → IsSo m (in_files told) 0
    → ((answer : Answer) → m.answers (in_files told) answer → answer.text ≡ text) → (number : ℕ) (before after : State) → before.shelf.files ≡ Some told
    → Performs m number before after → SaysOrFails text number before after
says_or_fails m decides told text so one number before after is h = elim (h.exact decides told is 0 so) [
  | inl zero_is ↦
      let a = answered m (seen before.shelf.files h.ends.read) number before after h.ends.made h.ends.end (omega (arith, zero_is)) in
      let seen_told = subst (λ (o : Option Told). m.answers (seen o h.ends.read) a.answer) is a.holds.holds in
      inl (zero_is, a.written ∙ ap (with_text before.out.written) (one a.answer (decides.answers told h.ends.read a.answer seen_told)))
  | inr other ↦ inr other
]
