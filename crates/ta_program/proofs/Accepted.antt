-- what `verify` puts `check` accepts
use Rattle.ta_base.specs.declared.limits.Limits.{Limits}
use Rattle.ta_program.specs.Values.{limits_of}
use Rattle.ta_program.proofs.Common.{Bool, tree_safe, ◌≡◌, ◌∙◌, ◌≤◌, ℕ, List, [], length, Option, None, Some, refl, sym, ap, subst, inl, File, AllSafe}
use Rattle.ta_program.proofs.Common.{Certificate}
use Rattle.ta_program.proofs.Common.{Told, WhereTold, is_more, sub_told, IsSo, Performs, State, HoldsText, in_files, seen, Answer, FileMeans, claiming}
use Rattle.ta_program.proofs.Common.{CERTIFICATE, check_meaning, IsFile, certificate_kind, file_kind, SaysOrFails, WrittenIsAccepted, VerdictHolds, safe_among}
use Rattle.ta_program.proofs.Common.{first_picked, picked, ◌+◌, false}
use Rattle.ta_rest.specs.declared.claim.Claim.TheVariants as claim
use Rattle.ta_check.proofs.Accepting.{one_list}
use Rattle.ta_program.proofs.ProofsSaid.{says_plain}
use Rattle.ta_program.specs.CheckWords.{CheckWords, no_options}
use Rattle.ta_program.specs.Proofs.{check_text}
use Rattle.ta_program.proofs.Accepting.{is_kept, ones_hold, says_or_fails}
use Rattle.ta_program.proofs.Clauses.{as_check, certificate_written, same_file}
use Rattle.ta_program.proofs.Meanings.{check_decides}
use Rattle.ta_program.proofs.WordsDiffer.{out_differs}
use Rattle.ta_report.proofs.Picks.{picked_there}
use Rattle.ta_verdict.proofs.VerdictsMade.{held_at}

-- `check` of such files
module _ (is_wide : Bool) (name out : List ℕ) (told : Told) (file : File) (numbers text : List ℕ)
    (is_file : IsFile (limits_of is_wide) (in_files told) name file)
    (held : told out ≡ Some text) (within : length text ≤ CERTIFICATE.bytes) (accepted : Certificate file (limits_of is_wide).line_bytes text numbers)
    (safe : AllSafe file numbers) where
  abbrev checked_so : CheckWords
  checked_so = record { file = name; other = out; wide = is_wide; options = no_options }

  abbrev l : Limits
  l = limits_of is_wide

  is_certificate : FileMeans (certificate_kind (claiming claim.Safe file l.line_bytes)) (in_files told) out numbers
  is_certificate = record { bytes = text; had = record { seen = held; within = within }; means = record { accepted = accepted; safe = safe } }

  is_so : IsSo (check_meaning checked_so) (in_files told) 0
  is_so = inl (
    record { number = 0; text = check_text file numbers; puts = [] },
    refl,
    (file, is_file, (numbers, is_certificate, says_plain false file numbers)),
  )

  -- what it says, where it answers
  says_just_these : (answer : Answer) → (check_meaning checked_so).answers (in_files told) answer → answer.text ≡ check_text file numbers
  says_just_these answer (other, is, (found, proved, says)) =
      let same : other ≡ file = same_file l told name file other is is_file in
      let texts : proved.bytes ≡ text = (let e : Some proved.bytes ≡ Some text = sym proved.had.seen ∙ held in cc) in
      let moved : Certificate file l.line_bytes text found = subst (λ (f : File). Certificate f l.line_bytes text found) same
      (subst (λ (t : List ℕ). Certificate other l.line_bytes t found) texts proved.means.accepted) in
      says.tells.told ∙ ap (λ (f : File). check_text f found) same
      ∙ ap (check_text file) (one_list (claiming claim.Safe file l.line_bytes) text found numbers moved accepted)

  pub checks : (second : ℕ) (begun ended : State) → begun.shelf.files ≡ Some told → Performs (check_meaning checked_so) second begun ended
      → SaysOrFails (check_text file numbers) second begun ended
  checks second begun ended is h = says_or_fails (check_meaning checked_so) (check_decides checked_so) told (check_text file numbers) is_so
      says_just_these second begun ended is h

-- told files behind told files
pub told_before : (P : Told → Told → Type 0) (files : Option Told) (told : Told) → WhereTold P files (Some told) → (first : Told) × (files ≡ Some first)
    × P first told
told_before P None told h = absurd h
told_before P (Some first) told h = (first, refl, h)

pub written_is_accepted : WrittenIsAccepted
written_is_accepted words first before after h asked out is given low told after_told again checked second begun ended begun_told done =
    let name = asked.file in
    let l = limits_of asked.wide in
    let budget = asked.budget in
    let written = certificate_written words first before after h asked out is given low in
    let c = written.such in
    let r = c.report in
    let files = told_before (HoldsText out c.text) before.shelf.files told
    (subst (λ (o : Option Told). WhereTold (HoldsText out c.text) before.shelf.files o) after_told c.stands) in
    let read = written.read in
    let is_first : IsFile l (in_files files.0) name r.file = is_more (file_kind l) (seen (Some files.0) read) (in_files files.0) (sub_told files.0 read) name
    r.file
    (subst (λ (o : Option Told). IsFile l (seen o read) name r.file) files.1 r.is_file) in
    let is_now = is_kept (file_kind l) files.0 told name r.file (files.2.others name (out_differs words asked out is given)) is_first in
    let safe = ones_hold (claiming claim.Safe r.file l.line_bytes) (first_picked r.pick) (picked r.pick r.file.patterns) r.verdicts
    (λ k p v nodes named given size.
    tree_safe r.file budget (first_picked r.pick + k) p v nodes size
    (held_at (VerdictHolds r.file budget) (first_picked r.pick) (picked r.pick r.file.patterns) r.verdicts r.are.hold k p v named given))
    (picked_there r.pick r.file.patterns) in
    record {
      file = r.file;
      is_file = is_now;
      pick = r.pick;
      sample = r.sample;
      verdicts = r.verdicts;
      reported = r.wrote;
      accepted = checks asked.wide name out told r.file (safe_among r.file r.pick r.verdicts) c.text is_now files.2.held c.within c.accepted safe second begun
          ended
          begun_told (as_check again second begun ended done (record { file = name; other = out; wide = asked.wide; options = no_options }) checked);
    }
