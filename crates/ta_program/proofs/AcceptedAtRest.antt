-- what `rest` puts `rest-check` accepts
use Rattle.ta_base.specs.declared.limits.Limits.{Limits}
use Rattle.ta_program.specs.Values.{limits_of}
use Rattle.ta_program.proofs.Common.{Bool, true, None, ◌≡◌, ◌∙◌, ◌≤◌, ◌+◌, ℕ, List, [], ◌∷◌, length, map, Option, Some, slice_get, refl, sym, ap, subst, inl}
use Rattle.ta_program.proofs.Common.{Automaton, File, Pattern, Verdict, Endings, IsEnding, RestSafe, EachHolds, EndingVerdictHolds, some_at, slice_get_within}
use Rattle.ta_program.proofs.Common.{arith, Told, WhereTold, is_more, sub_told, IsSo, Performs, State, HoldsText, in_files, seen, FileMeans, Answer, SafeOne}
use Rattle.ta_program.proofs.Common.{as_many, first_picked, held_by, Pick, picked, safe_among, safe_ones, tree_size, with_safe, CERTIFICATE, IsFile}
use Rattle.ta_program.proofs.Common.{certificate_kind, file_kind, SaysOrFails, WrittenAtRestIsAccepted, rest_check_meaning, FileEndings, IsEnds, endings_count}
use Rattle.ta_program.proofs.Common.{AllQuietRestSafe, QuietRestCertificate, AreSilent, RestBudget, claiming_with, resting}
use Rattle.ta_verdict.proofs.rest.VerdictsTold.{ending_of_own}
use Rattle.ta_rest.specs.declared.claim.Claim.TheVariants as claim
use Rattle.ta_check.specs.Subjects.{claimed_with}
use Rattle.ta_rest.proofs.EndingLaws.{endings_rest}
use Rattle.ta_rest.proofs.QuietResting.{quiet_endings}
use Rattle.ta_rest.specs.Quiet.{QuietRestSafe}
use Rattle.ta_program.proofs.Accepted.{told_before}
use Rattle.ta_check.proofs.Accepting.{one_list}
use Rattle.ta_program.proofs.ProofsSaid.{says_plain}
use Rattle.ta_program.specs.CheckWords.{no_options}
use Rattle.ta_program.specs.RestWords.{RestCheckWords}
use Rattle.ta_program.specs.Proofs.{rest_check_text}
use Rattle.ta_verdict.proofs.rest.RestSaid.{tree_claims}
use Rattle.ta_verdict.specs.Rest.Said.{IsLoudByWords}
use Rattle.ta_program.proofs.SilentPlaces.{silent_once}
use Rattle.ta_program.proofs.Accepting.{is_kept, ones_hold, says_or_fails}
use Rattle.ta_program.proofs.Clauses.{as_rest_check, loud_by_words, rests_report, same_file}
use Rattle.ta_program.proofs.EndsOnce.{ends_once}
use Rattle.ta_program.proofs.RestMeanings.{rest_check_decides}
use Rattle.ta_program.proofs.WordsDiffer.{rest_said}
use Rattle.ta_report.proofs.Picks.{picked_there}

-- what is claimed of a pattern is so of its ending
ending_claimed :
    (silent : List ℕ) (a b : Automaton) (p ending : Pattern) → b ≡ a → IsEnding p ending → claimed_with claim.RestSafe silent a p
    → claimed_with claim.RestSafe silent b ending
ending_claimed [] a b p ending same is safe =
    subst (λ (c : Automaton). RestSafe c ending) (sym same) (λ first rules occurs. safe first rules ((endings_rest a p ending is first rules).1 occurs))
ending_claimed (place ∷ silent) a b p ending same is safe =
    subst (λ (c : Automaton). QuietRestSafe c (place ∷ silent) ending) (sym same) (λ first rules occurs.
    safe first rules ((quiet_endings a (place ∷ silent) p ending is first rules).1 occurs))

-- the endings of the patterns that are said to be safe at rest are safe at rest
module _ (file ending : File) (added : ℕ) (budget : RestBudget) (loud : IsLoudByWords budget) (same : ending.automaton ≡ file.automaton) where
  safe_at : (pick : Pick) (vs : List Verdict) → Endings file.patterns ending.patterns
      → EachHolds (EndingVerdictHolds file ending added budget) (first_picked pick) (picked pick ending.patterns) vs
      → (k : ℕ) (p : Pattern) (v : Verdict) (size : ℕ) → slice_get (picked pick ending.patterns) k ≡ Some p → slice_get vs k ≡ Some v → tree_size v ≡ Some size
      → claimed_with claim.RestSafe budget.silent ending.automaton p
  safe_at pick vs are hold k p v size named given sized =
      let number = first_picked pick + k in
      let here = picked_there pick ending.patterns k p named in
      let own = some_at file.patterns number (omega (arith, slice_get_within ending.patterns number p here, endings_count file.patterns ending.patterns are)) in
      let is = ending_of_own file.patterns ending.patterns are number own.0 p own.1 here in
      let by = held_by (EndingVerdictHolds file ending added budget) pick ending.patterns vs hold k v given in
      let both : Some by.0 ≡ Some p = sym by.1 ∙ named in
      let one : by.0 ≡ p = cc in
      let said = subst (λ (q : Pattern). EndingVerdictHolds file ending added budget number q v) one by.3 own.0 own.1 in
      ending_claimed budget.silent file.automaton ending.automaton own.0 p same is (tree_claims file ending added budget loud number own.0 p v size sized said)

-- they have the numbers of the patterns themselves
alike_one : (number : ℕ) (p q : Pattern) (size : Option ℕ) (xs ys : List SafeOne) → map (λ one. one.number) xs ≡ map (λ one. one.number) ys
    → map (λ one. one.number) (with_safe number q size xs) ≡ map (λ one. one.number) (with_safe number p size ys)
alike_one number p q None xs ys same = same
alike_one number p q (Some nodes) xs ys same = ap (λ (ns : List ℕ). number ∷ ns) same

alike_ones : (number : ℕ) (ps qs : List Pattern) (vs : List Verdict) → length vs ≡ length ps → length vs ≡ length qs
    → map (λ one. one.number) (safe_ones number qs vs) ≡ map (λ one. one.number) (safe_ones number ps vs)
alike_ones number [] [] vs e f = refl
alike_ones number [] (q ∷ qs) vs e f = absurd (omega (arith, e, f))
alike_ones number (p ∷ ps) [] vs e f = absurd (omega (arith, e, f))
alike_ones number (p ∷ ps) (q ∷ qs) [] e f = refl
alike_ones number (p ∷ ps) (q ∷ qs) (v ∷ vs) e f = alike_one number p q (tree_size v) (safe_ones (number + 1) qs vs) (safe_ones (number + 1) ps vs)
    (alike_ones (number + 1) ps qs vs (omega (arith, e)) (omega (arith, f)))

-- `rest-check` of such files, with these names
module _ (is_wide : Bool) (name out : List ℕ) (names : Option (List ℕ)) (told : Told) (file : File) (ends : FileEndings) (silent numbers text : List ℕ)
    (is_file : IsFile (limits_of is_wide) (in_files told) name file) (are_ends : IsEnds file ends) (are_silent : AreSilent file.automaton names silent)
    (held : told out ≡ Some text) (within : length text ≤ CERTIFICATE.bytes)
    (accepted : QuietRestCertificate ends.ending silent (limits_of is_wide).line_bytes text numbers)
    (safe : AllQuietRestSafe ends.ending silent numbers) where
  abbrev checked_so : RestCheckWords
  checked_so = record { file = name; other = out; wide = is_wide; silent = names; options = no_options }

  abbrev l : Limits
  l = limits_of is_wide

  is_certificate : FileMeans (certificate_kind (claiming_with claim.RestSafe ends.ending silent l.line_bytes)) (in_files told) out numbers
  is_certificate = record { bytes = text; had = record { seen = held; within = within }; means = record { accepted = accepted; safe = safe } }

  is_so : IsSo (rest_check_meaning checked_so) (in_files told) 0
  is_so = inl (
    record { number = 0; text = rest_check_text file numbers; puts = [] },
    refl,
    (file, is_file, (ends, are_ends, (silent, are_silent, (numbers, is_certificate, says_plain true file numbers)))),
  )

  -- what it says, where it answers
  says_just_these : (answer : Answer) → (rest_check_meaning checked_so).answers (in_files told) answer
      → answer.text ≡ rest_check_text file numbers
  says_just_these answer (other, is, (found_ends, are, (places, quiet, (found, proved, says)))) =
      let same : other ≡ file = same_file l told name file other is is_file in
      let one : found_ends ≡ ends = ends_once file found_ends ends (subst (λ (f : File). IsEnds f found_ends) same are) are_ends in
      let there : places ≡ silent = silent_once file.automaton names places silent (subst (λ (f : File). AreSilent f.automaton names places) same quiet)
      are_silent in
      let texts : proved.bytes ≡ text = (let e : Some proved.bytes ≡ Some text = sym proved.had.seen ∙ held in cc) in
      let first = subst (λ (ps : List ℕ). QuietRestCertificate found_ends.ending ps l.line_bytes proved.bytes found) there proved.means.accepted in
      let second = subst (λ (t : List ℕ). QuietRestCertificate found_ends.ending silent l.line_bytes t found) texts first in
      let moved = subst (λ (e : FileEndings). QuietRestCertificate e.ending silent l.line_bytes text found) one second in
      says.tells.told ∙ ap (λ (f : File). rest_check_text f found) same
      ∙ ap (rest_check_text file) (one_list (claiming_with claim.RestSafe ends.ending silent l.line_bytes) text found numbers moved accepted)

  rest_checks : (second : ℕ) (begun ended : State) → begun.shelf.files ≡ Some told → Performs (rest_check_meaning checked_so) second begun ended
      → SaysOrFails (rest_check_text file numbers) second begun ended
  rest_checks second begun ended is h = says_or_fails (rest_check_meaning checked_so) (rest_check_decides checked_so) told
      (rest_check_text file numbers) is_so says_just_these second begun ended is h

pub written_at_rest_is_accepted : WrittenAtRestIsAccepted
written_at_rest_is_accepted words first before after h asked out is given low told after_told again checked second begun ended begun_told done =
    let name = asked.verify.file in
    let l = limits_of asked.verify.wide in
    let names = asked.silent in
    let written = (rests_report words first before after h).certificate asked out is given low in
    let c = written.such in
    let r = c.report in
    let ending = r.ends.ending in
    let endings = r.are_ends.endings in
    let said = rest_said words asked is in
    let files = told_before (HoldsText out c.text) before.shelf.files told
    (subst (λ (o : Option Told). WhereTold (HoldsText out c.text) before.shelf.files o) after_told c.stands) in
    let read = written.read in
    let is_first : IsFile l (in_files files.0) name r.file = is_more (file_kind l) (seen (Some files.0) read) (in_files files.0) (sub_told files.0 read) name
    r.file
    (subst (λ (o : Option Told). IsFile l (seen o read) name r.file) files.1 r.is_file) in
    let is_now = is_kept (file_kind l) files.0 told name r.file (files.2.others name (said.differs name out refl given)) is_first in
    let loud = loud_by_words words first before after h asked is r.file r.silent r.are_silent in
    let pick = r.pick in
    let at = safe_at r.file ending r.ends.added (resting asked.verify.budget r.silent) loud endings.automaton pick r.verdicts endings.patterns r.are.hold in
    let safe = ones_hold (claiming_with claim.RestSafe ending r.silent l.line_bytes) (first_picked pick) (picked pick ending.patterns) r.verdicts at
    (picked_there pick ending.patterns) in
    let many = as_many (EndingVerdictHolds r.file ending r.ends.added (resting asked.verify.budget r.silent)) (first_picked pick) (picked pick ending.patterns)
    r.verdicts r.are.hold in
    let performs = as_rest_check again second begun ended done
    (record { file = name; other = out; wide = asked.verify.wide; silent = names; options = no_options }) checked
    in
    let accepted = rest_checks asked.verify.wide name out names told r.file r.ends r.silent (safe_among ending pick r.verdicts) c.text is_now r.are_ends
    r.are_silent
    files.2.held
    c.within c.accepted safe second begun ended begun_told performs in
    record {
      file = r.file;
      is_file = is_now;
      pick = r.pick;
      sample = r.sample;
      verdicts = r.verdicts;
      reported = r.wrote;
      accepted = subst (λ (ns : List ℕ). SaysOrFails (rest_check_text r.file ns) second begun ended)
          (alike_ones (first_picked pick) (picked pick r.file.patterns) (picked pick ending.patterns) r.verdicts r.are.each many) accepted;
    }
