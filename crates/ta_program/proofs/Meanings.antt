-- what each command says grows with what is seen, and known files leave one number
use Rattle.ta_base.specs.LimitRows.{narrow}
use Rattle.ta_base.specs.declared.limits.Limits.{Limits}
use Rattle.ta_program.specs.Values.{limits_of}
use Rattle.ta_program.proofs.Common.{Budget, ◌≡◌, ◌∙◌, ℕ, List, [], length, slice_get, Option, None, Some, refl, sym, ap, subst, inl, inr, arith, Bool, IsSome}
use Rattle.ta_program.proofs.Common.{File, Pattern, one_legal, Verdict, Told, Decides, IsSo, Meaning, put_bytes, View, in_files, Answer, Kind, Writes, after}
use Rattle.ta_program.proofs.Common.{replies, after_monotone, decides, no_hindrance, one_number, replies_monotone, replies_one, settles_monotone, Monotone}
use Rattle.ta_program.proofs.Common.{IsAskedFor, LegalFile, Passes, PassesWhere, ask, ask_where, claiming, BUDGET, IsBench, SaysBench, bench_meaning}
use Rattle.ta_program.proofs.Common.{bench_status, family_text, check_meaning, proved_meaning, SaysShort, compress_meaning, long_kind, short_meaning}
use Rattle.ta_program.proofs.Common.{certificate_kind, file_kind, run_kind, SaysShown, replay_meaning, shown_meaning, HindersCertificate, LongCertificate}
use Rattle.ta_program.proofs.Common.{may_put, Reports, report_meaning, verify_meaning, AreVerdicts, option_map, spared_decides, spared_passes, All}
use Rattle.ta_program.proofs.Common.{AreVerdictsOn, LegalPicked, Pick, Put, ReportSample, VerifyWords, picked_meaning, report_number, false, whole_one}
use Rattle.ta_check.proofs.Accepting.{one_list}
use Rattle.ta_program.proofs.ProofsSaid.{says_number}
use Rattle.ta_program.specs.Proofs.{SaysProofs}
use Rattle.ta_program.specs.CheckWords.{CheckWords, ReplayWords}
use Rattle.ta_program.specs.Values.{TwoNames}
use Rattle.ta_program.specs.Version.{version_meaning, version_text}
use Rattle.ta_program.proofs.PatternPicks.{pick_monotone, pick_one, pick_passes}
use Rattle.ta_program.specs.Certified.{PutsCertificate}
use Rattle.ta_verdict.proofs.SamplesMade.{samples_once}
use Rattle.ta_rest.specs.declared.claim.Claim.TheVariants as claim
use Rattle.ta_verdict.proofs.CertificatesOnce.{certificates_once}
use Rattle.ta_verdict.proofs.VerdictsOnce.{verdicts_once}

pub proved_monotone : (asked : CheckWords) (file : File) → Monotone (proved_meaning asked file)
proved_monotone asked file = after_monotone (certificate_kind (claiming claim.Safe file (limits_of asked.wide).line_bytes)) asked.other []
    (λ numbers. replies [] (SaysProofs false file asked.options numbers)) (λ numbers. replies_monotone [] (SaysProofs false file asked.options numbers))

pub shown_monotone : (file : File) (json : Bool) (name : List ℕ) → Monotone (shown_meaning file json name)
shown_monotone file json name = after_monotone (run_kind file) name [] (λ run. replies [] (SaysShown file json run))
    (λ run. replies_monotone [] (SaysShown file json run))

pub short_monotone : (file : File) (name : List ℕ) → Monotone (short_meaning file name)
short_monotone file name = after_monotone (long_kind file) name [] (λ run. replies [] (SaysShort file run)) (λ run. replies_monotone [] (SaysShort file run))

-- of a command that reads FILE first
pub file_decides : (l : Limits) (name : List ℕ) (puts : List (List ℕ)) (rest : File → Meaning) → ((file : File) → Monotone (rest file))
    → ((file : File) (told : Told) (number other : ℕ) → IsSo (rest file) (in_files told) number → IsSo (rest file) (in_files told) other → number ≡ other)
    → Decides (after (file_kind l) name puts rest)
file_decides l name puts rest rests ones =
    decides (after (file_kind l) name puts rest) (after_monotone (file_kind l) name puts rest rests) (λ told.
    one_number (file_kind l) name puts rest rests told (λ bytes file fault legal found. legal.no_fault fault found) (λ bytes v w m n number other so so'.
    ones w told number other (subst (λ (file : File). IsSo (rest file) (in_files told) number) (one_legal l bytes v w m n) so) so'))

pub report_monotone : (asked : VerifyWords) (file : File) (pick : Pick) → Monotone (report_meaning asked file pick)
report_monotone asked file pick = settles_monotone (may_put asked.out) (Reports asked file pick) (HindersCertificate file pick asked.budget asked.out)

pub picked_monotone : (asked : VerifyWords) (file : File) → Monotone (picked_meaning asked file)
picked_monotone asked file = pick_monotone asked.file asked.pattern (may_put asked.out) file (report_meaning asked file) (report_monotone asked file)

-- only a certificate that is too long hinders a report, with 4
pub hinders_long : (file : File) (pick : Pick) (budget : Budget) (out : Option (List ℕ)) (number : ℕ) (line : List ℕ)
    → HindersCertificate file pick budget out number line → (number ≡ 4) × IsSome out × LongCertificate file pick budget
hinders_long file pick budget None number line h = absurd h
hinders_long file pick budget (Some out) number line h = (h.numbered, refl, h.long)

-- no certificate is both put and too long
not_both :
    (file : File) (pick : Pick) (budget : Budget) (vs : List Verdict) → AreVerdictsOn file pick budget vs
    → (out : Option (List ℕ)) (puts : List Put) (number : ℕ) (line : List ℕ)
    → PutsCertificate file pick budget vs out puts → HindersCertificate file pick budget out number line → ⊥
not_both file pick budget vs are None puts number line p h = h
not_both file pick budget vs are (Some out) puts number line p h =
    let long = h.long in
    let same = certificates_once file pick budget vs long.verdicts (put_bytes p.put) long.text are long.are p.certificate long.certificate in
    let within = p.within in
    let longer = long.longer in
    omega (arith, ap length same)

-- a report has one number
number_once :
    (asked : VerifyWords) (file : File) (pick : Pick) (answer other : Answer) → Reports asked file pick answer → Reports asked file pick other
    → answer.number ≡ other.number
number_once asked file pick answer other a b =
    let samples = samples_once file asked.budget.nodes a.sample b.sample a.is_sample b.is_sample in
    let verdicts = verdicts_once file pick asked.budget a.verdicts b.verdicts a.are b.are in
    a.numbered ∙ ap (λ (s : ReportSample). report_number asked.all s a.verdicts) samples ∙ ap (report_number asked.all b.sample) verdicts ∙ sym b.numbered

reports_one : (asked : VerifyWords) (file : File) (pick : Pick) (told : Told) (number other : ℕ) → IsSo (report_meaning asked file pick) (in_files told) number
    → IsSo (report_meaning asked file pick) (in_files told) other → number ≡ other
reports_one asked file pick told number other so so' = elim so [
  | inl a ↦ elim so' [
    | inl b ↦ sym a.1 ∙ number_once asked file pick a.0 b.0 a.2 b.2 ∙ b.1
    | inr r ↦ absurd (not_both file pick asked.budget a.2.verdicts a.2.are asked.out a.0.puts other r.0 a.2.puts r.1)
  ]
  | inr q ↦ elim so' [
    | inl b ↦ absurd (not_both file pick asked.budget b.2.verdicts b.2.are asked.out b.0.puts number q.0 b.2.puts q.1)
    | inr r ↦ (hinders_long file pick asked.budget asked.out number q.0 q.1).0 ∙ sym (hinders_long file pick asked.budget asked.out other r.0 r.1).0
  ]
]

-- a legal FILE is never refused with 3 by a command that reads FILE first, if what it does then is never refused with 3
pub file_passes : (l : Limits) (name : List ℕ) (puts : List (List ℕ)) (rest : File → Meaning) → ((file : File) → Monotone (rest file))
    → ((file : File) (told : Told) (line : List ℕ) → ¬ (rest file).refuses (in_files told) 3 line)
    → Passes (Some (name, l)) (after (file_kind l) name puts rest)
file_passes l name puts rest rests never told line (file, is) refuses =
    elim refuses [
      | inl own ↦ no_hindrance (file_kind l) name puts rest rests told (λ bytes f fault legal found. legal.no_fault fault found) file 3 line is own
      | inr r ↦ never r.0 told line r.2
    ]

-- a second file is refused with another number
pub second_passes : {A F : Type 0} (kind : Kind A F) (name : List ℕ) (rest : A → Meaning) → kind.limit.number ≡ 4
    → ((value : A) (view : View) (line : List ℕ) → ¬ (rest value).refuses view 3 line) → (view : View) (line : List ℕ)
    → ¬ (after kind name [] rest).refuses view 3 line
second_passes kind name rest four never view line refuses =
    elim refuses [
      | inl own ↦ let numbered = own.numbered in absurd (omega (arith, four, numbered))
      | inr r ↦ never r.0 view line r.2
    ]

-- what was read of words is what they ask for
pub asked_where : {C W : Type 0} (seen : C → W) (legal : W → Told → Type 0) (says : W → Meaning) → ((w : W) → Decides (says w))
    → ((w : W) → PassesWhere (legal w) (says w)) → (result : Option C) (words : Option W) → option_map seen result ≡ words
    → IsAskedFor (λ c. says (seen c)) (ask_where legal says words) result
asked_where seen legal says decides passes None words is = subst (λ (o : Option _). IsAskedFor (λ c. says (seen c)) (ask_where legal says o) None) is
    (λ number before after none. none)
asked_where seen legal says decides passes (Some c) words is = subst (λ (o : Option _). IsAskedFor (λ c. says (seen c)) (ask_where legal says o) (Some c)) is
    (λ number before after performs. record { performs = performs; decides = decides (seen c); passes = passes (seen c) })

pub asked_for : {C W : Type 0} (seen : C → W) (file : W → Option (List ℕ × Limits)) (says : W → Meaning) → ((w : W) → Decides (says w))
    → ((w : W) → Passes (file w) (says w)) → (result : Option C) (words : Option W) → option_map seen result ≡ words
    → IsAskedFor (λ c. says (seen c)) (ask file says words) result
asked_for seen file says = asked_where seen (λ w told. LegalFile told (file w)) says

pub check_decides : (asked : CheckWords) → Decides (check_meaning asked)
check_decides asked =
    let options = asked.options in
    file_decides (limits_of asked.wide) asked.file [] (proved_meaning asked) (proved_monotone asked) (λ file told.
    one_number (certificate_kind (claiming claim.Safe file (limits_of asked.wide).line_bytes)) asked.other []
    (λ numbers. replies [] (SaysProofs false file options numbers))
    (λ numbers. replies_monotone [] (SaysProofs false file options numbers)) told
    (λ bytes numbers fault proves found. found.no_certificate numbers proves.accepted)
    (λ bytes v w m n. replies_one [] (SaysProofs false file options v) (SaysProofs false file options w) (in_files told)
    (λ a b x y. says_number false file options v w (one_list (claiming claim.Safe file (limits_of asked.wide).line_bytes) bytes v w m.accepted n.accepted) a b x
    y)))

pub check_passes : (asked : CheckWords) → Passes (Some (asked.file, limits_of asked.wide)) (check_meaning asked)
check_passes asked =
    file_passes (limits_of asked.wide) asked.file [] (proved_meaning asked) (proved_monotone asked)
    (λ file told. second_passes (certificate_kind (claiming claim.Safe file (limits_of asked.wide).line_bytes)) asked.other (λ numbers. replies []
    (SaysProofs false file asked.options numbers)) refl
    (λ numbers view line none. none) (in_files told))

pub compress_decides : (asked : TwoNames) → Decides (compress_meaning asked)
compress_decides asked =
    let run = asked.other in
    file_decides (limits_of asked.wide) asked.file [] (λ file. short_meaning file run) (λ file. short_monotone file run) (λ file told.
    one_number (long_kind file) run [] (λ long. replies [] (SaysShort file long)) (λ long. replies_monotone [] (SaysShort file long)) told
    (λ bytes long fault able found. found.compresses_nothing long able)
    (λ bytes v w m n. replies_one [] (SaysShort file v) (SaysShort file w) (in_files told) (λ a b x y. x.writes.numbered ∙ sym y.writes.numbered)))

pub compress_passes : (asked : TwoNames) → Passes (Some (asked.file, limits_of asked.wide)) (compress_meaning asked)
compress_passes asked =
    let run = asked.other in
    file_passes (limits_of asked.wide) asked.file [] (λ file. short_meaning file run) (λ file. short_monotone file run)
    (λ file told. second_passes (long_kind file) run (λ long. replies [] (SaysShort file long)) refl (λ long view line none. none) (in_files told))

pub replay_decides : (asked : ReplayWords) → Decides (replay_meaning asked)
replay_decides asked =
    let run = asked.other in
    let json = asked.json in
    file_decides (limits_of asked.wide) asked.file [] (λ file. shown_meaning file json run) (λ file. shown_monotone file json run) (λ file told.
    one_number (run_kind file) run [] (λ shown. replies [] (SaysShown file json shown)) (λ shown. replies_monotone [] (SaysShown file json shown)) told
    (λ bytes shown fault shows found. found.shows_nothing shown shows)
    (λ bytes v w m n. replies_one [] (SaysShown file json v) (SaysShown file json w) (in_files told) (λ a b x y. x.writes.numbered ∙ sym y.writes.numbered)))

pub replay_passes : (asked : ReplayWords) → Passes (Some (asked.file, limits_of asked.wide)) (replay_meaning asked)
replay_passes asked =
    let run = asked.other in
    let json = asked.json in
    file_passes (limits_of asked.wide) asked.file [] (λ file. shown_meaning file json run) (λ file. shown_monotone file json run)
    (λ file told. second_passes (run_kind file) run (λ shown. replies [] (SaysShown file json shown)) refl (λ shown view line none. none) (in_files told))

pub verify_decides : (asked : VerifyWords) → Decides (verify_meaning asked)
verify_decides asked =
    spared_decides (file_kind (limits_of asked.wide)) asked.file (may_put asked.out) (picked_meaning asked) (picked_monotone asked)
    (λ bytes file fault legal found. legal.no_fault fault found)
    (file_decides (limits_of asked.wide) asked.file (may_put asked.out) (picked_meaning asked) (picked_monotone asked) (λ file told.
    pick_one asked.file asked.pattern (may_put asked.out) file (report_meaning asked file) told (λ pick. reports_one asked file pick told)))

pub verify_passes : (asked : VerifyWords) → PassesWhere (LegalPicked (limits_of asked.wide) asked.file asked.pattern) (verify_meaning asked)
verify_passes asked told line legal =
    spared_passes (file_kind (limits_of asked.wide)) asked.file (may_put asked.out) (picked_meaning asked) (in_files told) line (λ refuses.
    elim refuses [
      | inl own ↦ no_hindrance (file_kind (limits_of asked.wide)) asked.file (may_put asked.out) (picked_meaning asked) (picked_monotone asked) told
          (λ bytes f fault means found. means.no_fault fault found) legal.file 3 line legal.is_file own
      | inr r ↦
          let is = legal.is_file in
          let same : r.0 ≡ legal.file = one_legal (limits_of asked.wide) is.bytes r.0 legal.file
          (subst (λ (bytes : List ℕ). (file_kind (limits_of asked.wide)).means bytes r.0)
          (whole_one told asked.file (limits_of asked.wide).bytes r.1.bytes is.bytes r.1.had is.had)
          r.1.means) is.means in
          pick_passes asked.file asked.pattern (may_put asked.out) legal.file (report_meaning asked legal.file) told legal.pick legal.is_pick line
          (λ found hinders. let four = (hinders_long legal.file found asked.budget asked.out 3 line hinders).0 in absurd (omega (arith, four)))
          (subst (λ (f : File). (picked_meaning asked f).refuses (in_files told) 3 line) same r.2)
    ])

-- two files of one number have one verdict on their pattern
bench_one : (k : ℕ) (p q : Pattern) (v w : Verdict) → IsBench k p v → IsBench k q w → v ≡ w
bench_one k p q v w a b =
    let files : a.file ≡ b.file = one_legal narrow (family_text k) a.file b.file a.legal b.legal in
    let are : AreVerdicts b.file BUDGET a.verdicts = subst (λ (f : File). AreVerdicts f BUDGET a.verdicts) files a.are in
    let lists : a.verdicts ≡ b.verdicts = verdicts_once b.file All BUDGET a.verdicts b.verdicts are b.are in
    let e : Some v ≡ Some w = sym a.given ∙ ap (λ vs. slice_get vs 0) lists ∙ b.given in
    cc

pub bench_decides : (k : ℕ) → Decides (bench_meaning k)
bench_decides k =
    decides (bench_meaning k) (replies_monotone [] (SaysBench k)) (λ told.
    replies_one [] (SaysBench k) (SaysBench k) (in_files told)
    (λ a b x y. x.writes.numbered ∙ ap bench_status (bench_one k x.pattern y.pattern x.verdict y.verdict x.is y.is) ∙ sym y.writes.numbered))

pub bench_passes : (k : ℕ) → Passes None (bench_meaning k)
bench_passes k told line legal none = none

pub version_decides : Decides version_meaning
version_decides =
    decides version_meaning (replies_monotone [] (Writes 0 version_text))
    (λ told. replies_one [] (Writes 0 version_text) (Writes 0 version_text) (in_files told) (λ a b x y. x.numbered ∙ sym y.numbered))

pub version_passes : Passes None version_meaning
version_passes told line legal none = none
