-- what a report of verdicts ends with where known files hold a legal FILE
use Rattle.ta_program.specs.Values.{limits_of}
use Rattle.ta_program.proofs.Common.{Budget, ◌≡◌, ◌≢◌, ◌≤◌, ℕ, suc, Bool, true, false, List, [], ◌∷◌, Option, None, Some, slice_get, refl, sym, subst, ◌∙◌, inl}
use Rattle.ta_program.proofs.Common.{inr, arith, IsSome, list_any, File, Verdict, Told, answered, Decides, Meaning, Performs, State, in_files, seen, Answer}
use Rattle.ta_program.proofs.Common.{is_unknown, is_unsafe, Runs, HindersCertificate, LongCertificate, long_line, IsFile, Completes, EndsSo, Reports}
use Rattle.ta_program.proofs.Common.{verify_meaning, request_of, HindersRest, IsDecidedAtRest, LongAtRest, LongRest, RestReports, rest_meaning, FileEndings}
use Rattle.ta_program.proofs.Common.{IsEnds, verdicts_number, EndingVerdictHolds, VerdictHolds, held_by, some_at, slice_get_within, false_from_ne_true}
use Rattle.ta_program.proofs.Common.{AreSilent, RestBudget, resting, rest_quietly, ◌⊎◌, HoldsSame, at_ends, file_kind, may_put}
use Rattle.ta_program.proofs.Clauses.{as_rest, as_verify, hinders_told, kinds_of_two, passes_legal, quiet, same_file}
use Rattle.ta_program.proofs.Meanings.{hinders_long, verify_decides}
use Rattle.ta_program.proofs.RestMeanings.{hinders_rest, rest_decides}
use Rattle.ta_program.proofs.Same.{hinders_so, same_so, same_told}
use Rattle.ta_program.proofs.SilentPlaces.{silent_number, silent_once}
use Rattle.ta_program.proofs.Common.{RestWords, rest_picked, picked, IsDecided, IsPick, Pick, ReportSample, VerifyWords, false≢true, picked_meaning}
use Rattle.ta_program.proofs.Common.{report_number, tells_nothing}
use Rattle.ta_program.proofs.PatternPicks.{pick_number, pick_once}
use Rattle.ta_program.proofs.StrictNumbers.{number_two}
use Rattle.ta_report.proofs.Picks.{picked_there}

-- none of some verdicts leaves a pattern unknown
none_unknown : (vs : List Verdict) → ((k : ℕ) (v : Verdict) → slice_get vs k ≡ Some v → is_unknown v ≡ true → ⊥) → list_any is_unknown vs ≡ false
none_unknown [] never = refl
none_unknown (v ∷ vs) never =
    let head = false_from_ne_true (is_unknown v) (never 0 v refl) in
    let tail = none_unknown vs (λ k w given. never (suc k) w given) in
    rw (head, tail) refl

-- so their number isn't 2
never_two : (vs : List Verdict) → verdicts_number vs ≡ 2 → ((k : ℕ) (v : Verdict) → slice_get vs k ≡ Some v → is_unknown v ≡ true → ⊥) → ⊥
never_two vs two never =
    let unknown = kinds_of_two (list_any is_unsafe vs) (list_any is_unknown vs) two in
    let e : true ≡ false = sym unknown ∙ none_unknown vs never in
    cc

-- what is answered of told files
pub record AnsweredTold (m : Meaning) (told : Told) (number : ℕ) : Type 0 where
  pub answer : Answer
  pub numbered : number ≡ answer.number
  pub holds : m.answers (in_files told) answer

-- it is so by what is seen in them and in the calls
answered_told : (m : Meaning) (told : Told) (number : ℕ) (before after : State) → before.shelf.files ≡ Some told → Performs m number before after → Decides m
    → number ≤ 2 → AnsweredTold m told number
answered_told m told number before after is h decides low =
    let a = answered m (seen before.shelf.files h.ends.read) number before after h.ends.made h.ends.end low in
    record {
      answer = a.answer;
      numbered = a.numbered;
      holds = decides.answers told h.ends.read a.answer (subst (λ (o : Option Told). m.answers (seen o h.ends.read) a.answer) is a.holds.holds);
    }

-- a report that tells something does not end with 2 because of that
never_empty : (all : Bool) (s : ReportSample) (vs : List Verdict) → report_number all s vs ≡ 2 → (all ≡ true → tells_nothing s vs ≡ false)
    → verdicts_number vs ≡ 2
never_empty all s vs two tells = elim (number_two all s vs two) [
  | inl strict ↦ absurd (false≢true (sym (tells strict.0) ∙ strict.1))
  | inr own ↦ own
]

-- where a certificate is asked for that is too long, it hinders
hinders_where : (file : File) (pick : Pick) (budget : Budget) (out : Option (List ℕ)) → IsSome out → LongCertificate file pick budget → (line : List ℕ)
    × HindersCertificate file pick budget out 4 line
hinders_where file pick budget None some long = absurd (cc)
hinders_where file pick budget (Some out) some long = (long_line out, record { numbered = refl; said = refl; long = long })

rest_hinders_where : (file : File) (ends : FileEndings) (budget : RestBudget) (pick : Pick) (out : Option (List ℕ)) → IsSome out
    → LongRest file ends budget pick → (line : List ℕ) × HindersRest file ends budget pick out 4 line
rest_hinders_where file ends budget pick None some long = absurd (cc)
rest_hinders_where file ends budget pick (Some out) some long = (long_line out, record { numbered = refl; said = refl; long = long })

-- of `verify`
module _ (told : Told) (asked : VerifyWords) (file : File) (pick : Pick) (number : ℕ) (before after : State) (is : before.shelf.files ≡ Some told)
    (is_file : IsFile (limits_of asked.wide) (in_files told) asked.file file) (is_pick : IsPick file asked.pattern pick)
    (h : Performs (verify_meaning asked) number before after)
  where
    decided_then : (f : File) (k : Pick) (answer : Answer) → f ≡ file → k ≡ pick → Reports asked f k answer → IsDecided asked file pick → number ≡ answer.number
        → number ≢ 2
    decided_then f k answer same one reports decided numbered two =
        let moved = subst (λ (x : File). Reports asked x k answer) same reports in
        let r = subst (λ (x : Pick). Reports asked file x answer) one moved in
        let number_is = never_empty asked.all r.sample r.verdicts (sym r.numbered ∙ sym numbered ∙ two)
        (λ all. decided.tells all r.sample r.verdicts r.is_sample r.are) in
        never_two r.verdicts number_is (λ place v given unknown.
        let by = held_by (VerdictHolds file asked.budget) pick file.patterns r.verdicts r.are.hold place v given in
        decided.known place by.0 v by.1 unknown by.3)

    decided : IsDecided asked file pick → number ≢ 2
    decided decides two =
        let a = answered_told (verify_meaning asked) told number before after is h (verify_decides asked) (omega (arith, two)) in
        let answers = a.holds in
        let found = answers.2.1 in
        let same : answers.0 ≡ file = same_file (limits_of asked.wide) told asked.file file answers.0 answers.1 is_file in
        let there : IsPick file asked.pattern found.0 = subst (λ (x : File). IsPick x asked.pattern found.0) same found.1 in
        decided_then answers.0 found.0 a.answer same (pick_once file asked.pattern found.0 pick there is_pick) found.2 decides a.numbered two

    -- with 4 the pattern does not hinder
    picked_long : (f : File) → f ≡ file → number ≡ 4 → (line : List ℕ) → (picked_meaning asked f).refuses (in_files told) number line → IsSome asked.out
        × (LongCertificate file pick asked.budget ⊎ HoldsSame told asked.file asked.out)
    picked_long f same four line refuses = elim refuses [
      | inl own ↦ let three = pick_number asked.file f asked.pattern number line own in absurd (omega (arith, three, four))
      | inr later ↦
          let there : IsPick file asked.pattern later.0 = subst (λ (x : File). IsPick x asked.pattern later.0) same later.1 in
          let one = pick_once file asked.pattern later.0 pick there is_pick in
          let long = hinders_long f later.0 asked.budget asked.out number line later.2 in
          let moved = subst (λ (x : File). LongCertificate x later.0 asked.budget) same long.2 in
          (long.1, inl (subst (λ (x : Pick). LongCertificate file x asked.budget) one moved))
    ]

    -- with 4 the certificate that is asked for is too long, or its file holds what was read
    fits_picked : number ≡ 4 → IsSome asked.out × (LongCertificate file pick asked.budget ⊎ HoldsSame told asked.file asked.out)
    fits_picked four =
        let hinders = hinders_told (verify_meaning asked) told number before after is h (verify_decides asked) (omega (arith, four)) (omega (arith, four)) in
        elim hinders.1 [
          | inl own ↦ let three : number ≡ 3 = own.numbered in absurd (omega (arith, three, four))
          | inr rest ↦ elim rest.2 [
            | inl holds ↦ let same = same_told told asked.file asked.out number hinders.0 holds in (same.0, inr same.1)
            | inr later ↦ picked_long rest.0 (same_file (limits_of asked.wide) told asked.file file rest.0 rest.1 is_file) four hinders.0 later.1
          ]
        ]

    pub verify_ends : EndsSo number asked.out (IsDecided asked file pick) (LongCertificate file pick asked.budget) (HoldsSame told asked.file asked.out)
    verify_ends = record {
      known = decided;
      fits = fits_picked;
      long = λ some long.
          let hinders = hinders_where file pick asked.budget asked.out some long in
          h.exact (verify_decides asked) told is 4
          (hinders_so (file_kind (limits_of asked.wide)) told asked.file (picked_meaning asked) file is_file asked.out hinders.0
          (inr (pick, is_pick, hinders.1)));
      same = λ same. h.exact (verify_decides asked) told is 4
          (same_so (file_kind (limits_of asked.wide)) told asked.file (picked_meaning asked) file is_file asked.out same);
    }

-- of `rest`
module _ (told : Told) (asked : RestWords) (file : File) (places : List ℕ) (pick : Pick) (number : ℕ) (before after : State)
    (is : before.shelf.files ≡ Some told) (is_file : IsFile (limits_of asked.verify.wide) (in_files told) asked.verify.file file)
    (silent : AreSilent file.automaton asked.silent places)
    (is_pick : IsPick file asked.verify.pattern pick) (h : Performs (rest_meaning asked) number before after) where
  abbrev budget : RestBudget
  budget = resting asked.verify.budget places

  decided_at_ends : (ends : FileEndings) → IsEnds file ends → (answer : Answer) → RestReports asked file ends budget pick answer
      → IsDecidedAtRest asked file budget pick → number ≡ answer.number → number ≢ 2
  decided_at_ends ends are answer r decided numbered two =
      let number_is = never_empty asked.verify.all r.sample r.verdicts (sym r.numbered ∙ sym numbered ∙ two)
      (λ all. decided.tells all ends are r.sample r.verdicts r.is_sample r.are) in
      never_two r.verdicts number_is (λ place v given unknown.
      let by = held_by (EndingVerdictHolds file ends.ending ends.added budget) pick ends.ending.patterns r.verdicts r.are.hold place v given in
      let own = some_at (picked pick file.patterns) place (omega (arith, slice_get_within r.verdicts place v given, r.are.each)) in
      decided.known ends are place own.0 by.0 v own.1 by.1 unknown (by.3 own.0 (picked_there pick file.patterns place own.0 own.1)))

  known_then :
      (f : File) (ends : FileEndings) (others : List ℕ) (k : Pick) (answer : Answer) → f ≡ file → IsEnds f ends → AreSilent f.automaton asked.silent others
      → IsPick f asked.verify.pattern k → RestReports asked f ends (resting asked.verify.budget others) k answer → IsDecidedAtRest asked file budget pick
      → number ≡ answer.number → number ≢ 2
  known_then f ends others k answer same are quiet found reports decided numbered two =
      let one : others ≡ places = silent_once file.automaton asked.silent others places
      (subst (λ (x : File). AreSilent x.automaton asked.silent others) same quiet) silent in
      let picks : k ≡ pick = pick_once file asked.verify.pattern k pick (subst (λ (x : File). IsPick x asked.verify.pattern k) same found) is_pick in
      let own = subst (λ (x : File). RestReports asked x ends (resting asked.verify.budget others) k answer) same reports in
      let there = subst (λ (ps : List ℕ). RestReports asked file ends (resting asked.verify.budget ps) k answer) one own in
      let r = subst (λ (q : Pick). RestReports asked file ends budget q answer) picks there in
      decided_at_ends ends (subst (λ (x : File). IsEnds x ends) same are) answer r decided numbered two

  known_at_rest : IsDecidedAtRest asked file budget pick → number ≢ 2
  known_at_rest decided two =
      let a = answered_told (rest_meaning asked) told number before after is h (rest_decides asked) (omega (arith, two)) in
      let answers = a.holds in
      let found = answers.2.1 in
      let quiet = found.2 in
      let one = quiet.2 in
      known_then answers.0 found.0 quiet.0 one.0 a.answer (same_file (limits_of asked.verify.wide) told asked.verify.file file answers.0 answers.1 is_file)
      found.1
      quiet.1 one.1 one.2
      decided a.numbered two

  abbrev LongOrSame : Type 0
  LongOrSame = IsSome asked.verify.out × (LongAtRest file budget pick ⊎ HoldsSame told asked.verify.file asked.verify.out)

  -- with 4 the pattern does not hinder
  pick_long : (f : File) (ends : FileEndings) → f ≡ file → IsEnds f ends → number ≡ 4 → (line : List ℕ)
      → (rest_picked asked f ends budget).refuses (in_files told) number line → LongOrSame
  pick_long f ends same are four line refuses = elim refuses [
    | inl own ↦ let three = pick_number asked.verify.file f asked.verify.pattern number line own in absurd (omega (arith, three, four))
    | inr later ↦
        let one : later.0 ≡ pick = pick_once file asked.verify.pattern later.0 pick
        (subst (λ (x : File). IsPick x asked.verify.pattern later.0) same later.1) is_pick in
        let long = hinders_rest f ends budget later.0 asked.verify.out number line later.2 in
        let there : LongAtRest f budget later.0 = record { ends = ends; are_ends = are; long = long.2 } in
        (long.1, inl (subst (λ (x : File). LongAtRest x budget pick) same (subst (λ (k : Pick). LongAtRest f budget k) one there)))
  ]

  -- nor do a cycle and the names
  long_then : (f : File) (ends : FileEndings) → f ≡ file → IsEnds f ends → number ≡ 4 → (line : List ℕ)
      → (rest_quietly asked f ends).refuses (in_files told) number line → LongOrSame
  long_then f ends same are four line refuses = elim refuses [
    | inl own ↦ let three = silent_number asked.verify.file f.automaton asked.silent number line own in absurd (omega (arith, three, four))
    | inr later ↦
        let quiet : later.0 ≡ places = silent_once file.automaton asked.silent later.0 places
        (subst (λ (x : File). AreSilent x.automaton asked.silent later.0) same later.1) silent in
        pick_long f ends same are four line
        (subst (λ (others : List ℕ). (rest_picked asked f ends (resting asked.verify.budget others)).refuses (in_files told) number line) quiet later.2)
  ]

  fits_at_rest : number ≡ 4 → LongOrSame
  fits_at_rest four =
      let hinders = hinders_told (rest_meaning asked) told number before after is h (rest_decides asked) (omega (arith, four)) (omega (arith, four)) in
      elim hinders.1 [
        | inl own ↦ let three : number ≡ 3 = own.numbered in absurd (omega (arith, three, four))
        | inr rest ↦ elim rest.2 [
          | inl holds ↦ let same = same_told told asked.verify.file asked.verify.out number hinders.0 holds in (same.0, inr same.1)
          | inr ended ↦ elim ended.1 [
            | inl cycle ↦ let three : number ≡ 3 = cycle.numbered in absurd (omega (arith, three, four))
            | inr later ↦ long_then rest.0 later.0 (same_file (limits_of asked.verify.wide) told asked.verify.file file rest.0 rest.1 is_file) later.1 four
                hinders.0
                later.2
          ]
        ]
      ]

  pub rest_ends : EndsSo number asked.verify.out (IsDecidedAtRest asked file budget pick) (LongAtRest file budget pick)
      (HoldsSame told asked.verify.file asked.verify.out)
  rest_ends = record {
    known = known_at_rest;
    fits = fits_at_rest;
    long = λ some long.
        let hinders = rest_hinders_where file long.ends budget pick asked.verify.out some long.long in
        h.exact (rest_decides asked) told is 4
        (hinders_so (file_kind (limits_of asked.verify.wide)) told asked.verify.file (at_ends asked.verify.file (may_put asked.verify.out) (rest_quietly asked))
        file
        is_file
        asked.verify.out hinders.0 (inr (long.ends, long.are_ends, inr (places, silent, inr (pick, is_pick, hinders.1)))));
    same = λ same. h.exact (rest_decides asked) told is 4
        (same_so (file_kind (limits_of asked.verify.wide)) told asked.verify.file (at_ends asked.verify.file (may_put asked.verify.out) (rest_quietly asked))
        file is_file
        asked.verify.out same);
  }

pub completes : (words : List (List ℕ)) (number : ℕ) (before after : State) → Runs (request_of words) number before after → Completes number words before after
completes words number before after h = record {
  passes = passes_legal (request_of words) number before after h;
  calm = λ shelf out six. elim ((quiet (request_of words) number before after h).failed six) [ inl faulted ↦ shelf faulted | inr failed ↦ out failed ];
  verify = λ told asked file pick is asks is_file is_pick. verify_ends told asked file pick number before after is is_file is_pick
      (as_verify words number before after h asked asks);
  rest = λ told asked file places pick is asks is_file silent is_pick. rest_ends told asked file places pick number before after is is_file silent is_pick
      (as_rest words number before after h asked asks);
}
