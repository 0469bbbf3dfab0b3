-- what `rest` and `rest-check` say grows with what is seen, and known files leave one number
use Rattle.ta_base.specs.declared.limits.Limits.{Limits}
use Rattle.ta_program.specs.Values.{limits_of}
use Rattle.ta_program.proofs.Common.{true, ◌≡◌, ◌∙◌, ℕ, List, [], length, Option, None, Some, refl, sym, ap, subst, inl, inr, arith, IsSome, cases_order}
use Rattle.ta_program.proofs.Common.{Automaton, File, FirstLongerCycle, claiming_with, one_legal, Verdict, RestCertificateOf, Told, Decides, IsSo, Meaning}
use Rattle.ta_program.proofs.Common.{put_bytes, in_files, Answer, finds, replies, after_monotone, finds_monotone, finds_one, no_hindrance, one_number}
use Rattle.ta_program.proofs.Common.{replies_monotone, replies_one, settles_monotone, Monotone, whole_one, PassesWhere, may_put, certificate_kind, file_kind}
use Rattle.ta_program.proofs.Common.{HindersRest, LongRest, RestReports, rest_meaning, rest_report_meaning, quietly_meaning, rest_check_meaning}
use Rattle.ta_program.proofs.Common.{rest_proved_meaning, AreSilent, LegalSilently, NamesHinder, CycleHinders, FileEndings, IsEnds, LegalAtRest, with_ends}
use Rattle.ta_program.proofs.Common.{RestBudget, resting, rest_picked, rest_quietly, with_silent, at_ends, spared_decides, spared_passes, AreRestVerdicts}
use Rattle.ta_program.proofs.Common.{LegalRest, Pick, Put, ReportSample, RestWords, report_number}
use Rattle.ta_program.specs.Rest.{PutsRest}
use Rattle.ta_program.proofs.PatternPicks.{pick_monotone, pick_one, pick_passes}
use Rattle.ta_verdict.proofs.SamplesMade.{samples_once}
use Rattle.ta_rest.specs.declared.claim.Claim.TheVariants.{RestSafe}
use Rattle.ta_verdict.proofs.rest.VerdictsOnce.{verdicts_once}
use Rattle.ta_verdict.proofs.rest.CertificatesOnce.{rest_certificates_once}
use Rattle.ta_check.proofs.Accepting.{one_list}
use Rattle.ta_program.proofs.ProofsSaid.{says_number}
use Rattle.ta_program.specs.Proofs.{SaysProofs}
use Rattle.ta_program.specs.RestWords.{RestCheckWords}
use Rattle.ta_program.proofs.EndsOnce.{ends_once}
use Rattle.ta_program.proofs.SilentPlaces.{silent_fits, silent_number, silent_once}
use Rattle.ta_program.proofs.Meanings.{file_decides, second_passes}

-- a longer cycle has one first rule, and there is none where there are endings
cycle_number : (name : List ℕ) (file : File) (number other : ℕ) (line words : List ℕ) → CycleHinders name file number line → CycleHinders name file other words
    → number ≡ other
cycle_number name file number other line words h k = h.numbered ∙ sym k.numbered

pub no_cycle : (name : List ℕ) (file : File) (ends : FileEndings) (number : ℕ) (line : List ℕ) → IsEnds file ends → ¬ CycleHinders name file number line
no_cycle name file ends number line is h =
    let cycle = h.first.cycle in
    cycle.apart (is.loops h.rule h.first.rule h.first.named cycle.walk cycle.back)

pub cycle_rule : (a : Automaton) (r q : ℕ) → FirstLongerCycle a r → FirstLongerCycle a q → r ≡ q
cycle_rule a r q x y = elim (cases_order r q) [
  | inl same ↦ same
  | inr other ↦ elim other [ inl less ↦ absurd (y.first r x.rule less x.named x.cycle) | inr more ↦ absurd (x.first q y.rule more y.named y.cycle) ]
]

-- of commands that look for the endings of FILE
module _ (l : Limits) (name : List ℕ) (puts : List (List ℕ)) (rest : File → FileEndings → Meaning)
    (rests : (file : File) (ends : FileEndings) → Monotone (rest file ends))
  where
    pub ends_monotone : (file : File) → Monotone (finds (IsEnds file) (CycleHinders name file) puts (rest file))
    ends_monotone file = finds_monotone (IsEnds file) (CycleHinders name file) puts (rest file) (rests file)

    pub ends_decides : ((file : File) (ends : FileEndings) → IsEnds file ends → (told : Told) (number other : ℕ) → IsSo (rest file ends) (in_files told) number
        → IsSo (rest file ends) (in_files told) other → number ≡ other) → Decides (with_ends l name puts rest)
    ends_decides ones =
        file_decides l name puts (λ file. finds (IsEnds file) (CycleHinders name file) puts (rest file)) ends_monotone (λ file told.
        finds_one (IsEnds file) (CycleHinders name file) puts (rest file) (in_files told) (cycle_number name file)
        (λ ends number line is. no_cycle name file ends number line is) (λ d e is are number other so so'.
        ones file d is told number other so (subst (λ (x : FileEndings). IsSo (rest file x) (in_files told) other) (sym (ends_once file d e is are)) so')))

    -- a legal FILE without longer cycles is never refused with 3, if what comes then never is
    pub ends_passes_where : (L : Told → Type 0) →
        ((told : Told) → L told → (legal : LegalAtRest l name told)
        × ((ends : FileEndings) (line : List ℕ) → ¬ (rest legal.file ends).refuses (in_files told) 3 line)) → PassesWhere L (with_ends l name puts rest)
    ends_passes_where L at_rest told line given refuses =
        let legal = (at_rest told given).0 in
        let never = (at_rest told given).1 in
        elim refuses [
          | inl own ↦ no_hindrance (file_kind l) name puts (λ file. finds (IsEnds file) (CycleHinders name file) puts (rest file)) ends_monotone told
              (λ bytes f fault legal found. legal.no_fault fault found) legal.file 3 line legal.is_file own
          | inr r ↦
              let is = legal.is_file in
              let same : r.0 ≡ legal.file = one_legal l is.bytes r.0 legal.file
              (subst (λ (bytes : List ℕ). (file_kind l).means bytes r.0) (whole_one told name l.bytes r.1.bytes is.bytes r.1.had is.had) r.1.means)
              is.means in
              elim r.2 [
                | inl cycle ↦
                    let here = subst (λ (f : File). CycleHinders name f 3 line) same cycle in
                    let found = here.first.cycle in
                    found.apart (legal.loops here.rule here.first.rule here.first.named found.walk found.back)
                | inr later ↦ never later.0 line (subst (λ (f : File). (rest f later.0).refuses (in_files told) 3 line) same later.2)
              ]
        ]

-- of commands that look for the places of names
module _ (name : List ℕ) (names : Option (List ℕ)) (puts : List (List ℕ)) (file : File) (rest : List ℕ → Meaning) where
  pub names_monotone : ((places : List ℕ) → Monotone (rest places)) → Monotone (with_silent name names puts file rest)
  names_monotone rests = finds_monotone (AreSilent file.automaton names) (NamesHinder name file.automaton names) puts rest rests

  pub names_one :
      (told : Told)
      → ((places : List ℕ) (number other : ℕ) → IsSo (rest places) (in_files told) number → IsSo (rest places) (in_files told) other → number ≡ other)
      → (number other : ℕ) → IsSo (with_silent name names puts file rest) (in_files told) number
      → IsSo (with_silent name names puts file rest) (in_files told) other
      → number ≡ other
  names_one told ones =
      let a = file.automaton in
      finds_one (AreSilent a names) (NamesHinder name a names) puts rest (in_files told)
      (λ number other line words h k. silent_number name a names number line h ∙ sym (silent_number name a names other words k))
      (λ places number line is. silent_fits name a names places number line is)
      (λ d e is are number other so so'.
      ones d number other so (subst (λ (places : List ℕ). IsSo (rest places) (in_files told) other) (sym (silent_once a names d e is are)) so'))

  -- names that may be silent don't hinder with 3, if what comes then doesn't
  pub names_pass :
      (told : Told) (places : List ℕ) → AreSilent file.automaton names places → (line : List ℕ)
      → ((found : List ℕ) → ¬ (rest found).refuses (in_files told) 3 line) → ¬ (with_silent name names puts file rest).refuses (in_files told) 3 line
  names_pass told places are line never refuses = elim refuses [
    | inl own ↦ silent_fits name file.automaton names places 3 line are own
    | inr r ↦ never r.0 r.2
  ]

-- of what `rest` is asked for
module _ (asked : RestWords) where
  pub rest_report_monotone : (file : File) (ends : FileEndings) (budget : RestBudget) (pick : Pick) → Monotone (rest_report_meaning asked file ends budget pick)
  rest_report_monotone file ends budget pick = settles_monotone (may_put asked.verify.out) (RestReports asked file ends budget pick)
      (HindersRest file ends budget pick asked.verify.out)

  pub rest_picked_monotone : (file : File) (ends : FileEndings) (budget : RestBudget) → Monotone (rest_picked asked file ends budget)
  rest_picked_monotone file ends budget = pick_monotone asked.verify.file asked.verify.pattern (may_put asked.verify.out) file
      (rest_report_meaning asked file ends budget) (rest_report_monotone file ends budget)

  pub rest_quietly_monotone : (file : File) (ends : FileEndings) → Monotone (rest_quietly asked file ends)
  rest_quietly_monotone file ends =
      names_monotone asked.verify.file asked.silent (may_put asked.verify.out) file (λ places. rest_picked asked file ends (resting asked.verify.budget places))
      (λ places. rest_picked_monotone file ends (resting asked.verify.budget places))

-- only a certificate that is too long hinders a report at rest, with 4
pub hinders_rest : (file : File) (ends : FileEndings) (budget : RestBudget) (pick : Pick) (out : Option (List ℕ)) (number : ℕ) (line : List ℕ)
    → HindersRest file ends budget pick out number line → (number ≡ 4) × IsSome out × LongRest file ends budget pick
hinders_rest file ends budget pick None number line h = absurd h
hinders_rest file ends budget pick (Some out) number line h = (h.numbered, refl, h.long)

-- no certificate is both put and too long
not_both :
    (file : File) (ends : FileEndings) (budget : RestBudget) (pick : Pick) → IsEnds file ends → (vs : List Verdict)
    → AreRestVerdicts file ends.ending ends.added pick budget vs
    → (out : Option (List ℕ)) (puts : List Put) (number : ℕ) (line : List ℕ) → PutsRest ends.ending pick budget vs out puts
    → HindersRest file ends budget pick out number line → ⊥
not_both file ends budget pick is vs are None puts number line p h = h
not_both file ends budget pick is vs are (Some out) puts number line p h =
    let long = h.long in
    let verdicts = verdicts_once file ends.ending ends.added pick budget is.endings vs long.verdicts are long.are in
    let own = subst (λ (ws : List Verdict). RestCertificateOf ends.ending pick budget ws (put_bytes p.put)) verdicts p.certificate in
    let same = rest_certificates_once ends.ending pick budget long.verdicts (put_bytes p.put) long.text own long.certificate in
    let within = p.within in
    let longer = long.longer in
    omega (arith, ap length same)

-- a report has one number
number_once :
    (asked : RestWords) (file : File) (ends : FileEndings) (budget : RestBudget) (pick : Pick) → IsEnds file ends → (answer other : Answer)
    → RestReports asked file ends budget pick answer → RestReports asked file ends budget pick other → answer.number ≡ other.number
number_once asked file ends budget pick is answer other a b =
    let samples = samples_once file budget.nodes a.sample b.sample a.is_sample b.is_sample in
    let verdicts = verdicts_once file ends.ending ends.added pick budget is.endings a.verdicts b.verdicts a.are b.are in
    a.numbered ∙ ap (λ (s : ReportSample). report_number asked.verify.all s a.verdicts) samples ∙ ap (report_number asked.verify.all b.sample) verdicts
    ∙ sym b.numbered

rest_one : (asked : RestWords) (file : File) (ends : FileEndings) → IsEnds file ends → (budget : RestBudget) (pick : Pick) (told : Told) (number other : ℕ)
    → IsSo (rest_report_meaning asked file ends budget pick) (in_files told) number
    → IsSo (rest_report_meaning asked file ends budget pick) (in_files told) other → number ≡ other
rest_one asked file ends is budget pick told number other so so' = elim so [
  | inl a ↦ elim so' [
    | inl b ↦ sym a.1 ∙ number_once asked file ends budget pick is a.0 b.0 a.2 b.2 ∙ b.1
    | inr r ↦ absurd (not_both file ends budget pick is a.2.verdicts a.2.are asked.verify.out a.0.puts other r.0 a.2.puts r.1)
  ]
  | inr q ↦ elim so' [
    | inl b ↦ absurd (not_both file ends budget pick is b.2.verdicts b.2.are asked.verify.out b.0.puts number q.0 b.2.puts q.1)
    | inr r ↦ (hinders_rest file ends budget pick asked.verify.out number q.0 q.1).0 ∙ sym (hinders_rest file ends budget pick asked.verify.out other r.0 r.1).0
  ]
]

pub rest_decides : (asked : RestWords) → Decides (rest_meaning asked)
rest_decides asked =
    let puts = may_put asked.verify.out in
    let quietly = rest_quietly asked in
    let monotone = rest_quietly_monotone asked in
    spared_decides (file_kind (limits_of asked.verify.wide)) asked.verify.file puts (at_ends asked.verify.file puts quietly)
    (ends_monotone (limits_of asked.verify.wide) asked.verify.file puts quietly monotone)
    (λ bytes file fault legal found. legal.no_fault fault found)
    (ends_decides (limits_of asked.verify.wide) asked.verify.file puts quietly monotone (λ file ends is told.
    names_one asked.verify.file asked.silent puts file (λ places. rest_picked asked file ends (resting asked.verify.budget places)) told (λ places.
    pick_one asked.verify.file asked.verify.pattern puts file (rest_report_meaning asked file ends (resting asked.verify.budget places)) told (λ pick.
    rest_one asked file ends is (resting asked.verify.budget places) pick told))))

-- where the names may be silent and the pattern is there, neither they nor the certificate hinder with 3
pub rest_passes : (asked : RestWords) → PassesWhere (LegalRest asked) (rest_meaning asked)
rest_passes asked told line legal =
    let puts = may_put asked.verify.out in
    spared_passes (file_kind (limits_of asked.verify.wide)) asked.verify.file puts (at_ends asked.verify.file puts (rest_quietly asked)) (in_files told) line
    (ends_passes_where (limits_of asked.verify.wide) asked.verify.file puts (rest_quietly asked) (rest_quietly_monotone asked) (LegalRest asked) (λ told legal.
    let quiet = legal.silently in (
      record { file = quiet.file; is_file = quiet.is_file; loops = quiet.loops },
      λ ends line. names_pass asked.verify.file asked.silent puts quiet.file (λ places. rest_picked asked quiet.file ends (resting asked.verify.budget places))
          told quiet.places quiet.are_silent line (λ places.
          pick_passes asked.verify.file asked.verify.pattern puts quiet.file (rest_report_meaning asked quiet.file ends (resting asked.verify.budget places))
          told legal.pick legal.is_pick line (λ found hinders.
          let four = (hinders_rest quiet.file ends (resting asked.verify.budget places) found asked.verify.out 3 line hinders).0 in
          absurd (omega (arith, four)))),
    )) told line legal)

-- of what `rest-check` is asked for
module _ (asked : RestCheckWords) where
  pub rest_proved_monotone : (file : File) (ends : FileEndings) (silent : List ℕ) → Monotone (rest_proved_meaning asked file ends silent)
  rest_proved_monotone file ends silent =
      after_monotone (certificate_kind (claiming_with RestSafe ends.ending silent (limits_of asked.wide).line_bytes)) asked.other [] (λ numbers. replies []
      (SaysProofs true file asked.options numbers))
      (λ numbers. replies_monotone [] (SaysProofs true file asked.options numbers))

  pub quietly_monotone : (file : File) (ends : FileEndings) → Monotone (quietly_meaning asked file ends)
  quietly_monotone file ends = names_monotone asked.file asked.silent [] file (rest_proved_meaning asked file ends) (rest_proved_monotone file ends)

  proved_one : (file : File) (ends : FileEndings) (silent : List ℕ) (told : Told) (number other : ℕ)
      → IsSo (rest_proved_meaning asked file ends silent) (in_files told) number
      → IsSo (rest_proved_meaning asked file ends silent) (in_files told) other → number ≡ other
  proved_one file ends silent told =
      let options = asked.options in
      one_number (certificate_kind (claiming_with RestSafe ends.ending silent (limits_of asked.wide).line_bytes)) asked.other [] (λ numbers. replies []
      (SaysProofs true file options numbers))
      (λ numbers. replies_monotone [] (SaysProofs true file options numbers)) told
      (λ bytes numbers fault proves found. found.no_certificate numbers proves.accepted)
      (λ bytes v w m n. replies_one [] (SaysProofs true file options v) (SaysProofs true file options w) (in_files told)
      (λ a b x y. says_number true file options v w (one_list
      (claiming_with RestSafe ends.ending silent (limits_of asked.wide).line_bytes) bytes v w m.accepted n.accepted) a b x y))

  pub rest_check_decides : Decides (rest_check_meaning asked)
  rest_check_decides =
      ends_decides (limits_of asked.wide) asked.file [] (quietly_meaning asked) quietly_monotone (λ file ends is told.
      names_one asked.file asked.silent [] file (rest_proved_meaning asked file ends) told (λ places. proved_one file ends places told))

  -- where the names may be silent neither they nor CERT hinder with 3
  pub rest_check_passes : PassesWhere (LegalSilently (limits_of asked.wide) asked.file asked.silent) (rest_check_meaning asked)
  rest_check_passes =
      ends_passes_where (limits_of asked.wide) asked.file [] (quietly_meaning asked) quietly_monotone
      (LegalSilently (limits_of asked.wide) asked.file asked.silent)
      (λ told legal. (
        record { file = legal.file; is_file = legal.is_file; loops = legal.loops },
        λ ends line. names_pass asked.file asked.silent [] legal.file (rest_proved_meaning asked legal.file ends) told legal.places legal.are_silent line
            (λ places.
            second_passes (certificate_kind (claiming_with RestSafe ends.ending places (limits_of asked.wide).line_bytes)) asked.other
            (λ numbers. replies [] (SaysProofs true legal.file asked.options numbers)) refl (λ numbers view line none. none) (in_files told) line),
      ))
