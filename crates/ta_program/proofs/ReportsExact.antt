-- A report gives exactly the verdicts that hold, and exactly what holds of the parameters.
use Rattle.ta_program.proofs.Common.{◌≡◌, ◌⊎◌, ◌∙◌, ◌+◌, ℕ, zero, suc, Bool, true, false, List, [], ◌∷◌, Option, Some, refl, sym, ap, inl, inr}
use Rattle.ta_program.proofs.Common.{None, subst, arith, AllByRecursion, File, Pattern, Verdict, VerdictHolds, VerdictFits, IsSample}
use Rattle.ta_program.proofs.Common.{ReportSample, View, as_many, held_entry, report_of, slice_get, Runs, State, request_of, verify_meaning}
use Rattle.ta_program.proofs.Common.{Pick, All, One, picked, HasName, IsPick, VerifyWords, EndingVerdictHolds, RestReportHolds}
use Rattle.ta_program.proofs.Common.{RestWords, endings_count, resting}
use Rattle.ta_program.proofs.Clauses.{as_verify, gives_rest, gives_some, holds_file, reported, run_of}
use Rattle.ta_program.proofs.RestTexts.{rest_reports_distinct}
use Rattle.ta_program.specs.Reported.{EachReported, EachReportedAtRest, GivesSample, GivesVerdict, IsReportOf, ReportsExactly}
use Rattle.ta_program.specs.Reporting.{ReportHolds}
use Rattle.ta_automaton.specs.Patterns.{pattern_name}
use Rattle.ta_base.proofs.Each.{distinct_map_at}
use Rattle.ta_report.proofs.Picks.{entry_there, picked_count}
use Rattle.ta_report.specs.Json.{JsonIsDistinct}
use Rattle.ta_report.specs.Picked.{entry_of, first_picked, listed}
use Rattle.ta_report.specs.Report.{ReportsAreDistinct}
use Rattle.ta_verdict.proofs.SamplesMade.{samples_once}
use Rattle.ta_verdict.proofs.VerdictsOnce.{verdicts_once}
use Rattle.ta_verdict.proofs.rest.VerdictsOnce.{verdicts_once as rest_verdicts_once}
use Rattle.ta_verdict.specs.Rest.Verdicts.{RestVerdictHolds}
use Rattle.ta_verdict.specs.Verdicts.{EachHolds}
use Rattle.std.specs.Prelude.{◌↔◌}

-- ---- a verdict that holds in place of another
abbrev put_at : ℕ → Verdict → List Verdict → List Verdict
put_at k v [] = []
put_at zero v (w ∷ ws) = v ∷ ws
put_at (suc k) v (w ∷ ws) = w ∷ put_at k v ws

still_hold : (Fact : ℕ → Pattern → Verdict → Type 0) (n k : ℕ) (ps : List Pattern) (vs : List Verdict) (p : Pattern) (v : Verdict) → EachHolds Fact n ps vs
    → slice_get ps k ≡ Some p → Fact (n + k) p v → EachHolds Fact n ps (put_at k v vs)
still_hold Fact n k [] vs p v h at fact = absurd (cc)
still_hold Fact n k (q ∷ ps) [] p v h at fact = absurd h
still_hold Fact n zero (q ∷ ps) (w ∷ vs) p v h at fact =
    let same : p ≡ q = cc in
    let here : n + 0 ≡ n = omega arith in
    (subst (λ (r : Pattern). Fact n r v) same (subst (λ (m : ℕ). Fact m p v) here fact), h.1)
still_hold Fact n (suc k) (q ∷ ps) (w ∷ vs) p v h at fact =
    let there : n + suc k ≡ (n + 1) + k = omega arith in
    (h.0, still_hold Fact (n + 1) k ps vs p v h.1 at (subst (λ (m : ℕ). Fact m p v) there fact))

still_fit : (file : File) (k : ℕ) (v : Verdict) (vs : List Verdict) → AllByRecursion (VerdictFits file) vs → VerdictFits file v
    → AllByRecursion (VerdictFits file) (put_at k v vs)
still_fit file k v [] all fit = tt
still_fit file zero v (w ∷ vs) all fit = (fit, all.1)
still_fit file (suc k) v (w ∷ vs) all fit = (all.0, still_fit file k v vs all.1 fit)

put_there : (Fact : ℕ → Pattern → Verdict → Type 0) (n k : ℕ) (ps : List Pattern) (vs : List Verdict) (p : Pattern) (v : Verdict) → EachHolds Fact n ps vs
    → slice_get ps k ≡ Some p → slice_get (put_at k v vs) k ≡ Some v
put_there Fact n k [] vs p v h at = absurd (cc)
put_there Fact n k (q ∷ ps) [] p v h at = absurd h
put_there Fact n zero (q ∷ ps) (w ∷ vs) p v h at = refl
put_there Fact n (suc k) (q ∷ ps) (w ∷ vs) p v h at = put_there Fact (n + 1) k ps vs p v h.1 at

-- ---- a pattern with the name that is given is picked
pub record PlaceOf (pick : Pick) (ps : List Pattern) (number : ℕ) (p : Pattern) : Type 0 where
  place : ℕ
  at : slice_get (picked pick ps) place ≡ Some p
  number_is : first_picked pick + place ≡ number

one_named : (ps : List Pattern) (number : ℕ) (p : Pattern) → slice_get ps number ≡ Some p → PlaceOf (One number) ps number p
one_named ps number p at = record { place = 0; at = ap (λ (o : Option Pattern). slice_get (listed o) 0) at; number_is = omega arith }

all_named : (ps : List Pattern) (number : ℕ) (p : Pattern) → slice_get ps number ≡ Some p → PlaceOf All ps number p
all_named ps number p at = record { place = number; at = at; number_is = omega arith }

picks_named : (file : File) (name : Option (List ℕ)) (pick : Pick) → IsPick file name pick → (number : ℕ) (p : Pattern)
    → slice_get file.patterns number ≡ Some p
    → HasName name p → (pick ≡ All) ⊎ (pick ≡ One number)
picks_named file None pick is number p at named = inl is
picks_named file (Some name) pick is number p at named =
    let same = distinct_map_at pattern_name file.patterns is.number number is.pattern p file.shape.distinct is.is.at at (is.is.named ∙ sym named) in
    inr (is.one ∙ ap One same)

named_place : (pick : Pick) (number : ℕ) → (pick ≡ All) ⊎ (pick ≡ One number) → (ps : List Pattern) (p : Pattern) → slice_get ps number ≡ Some p
    → PlaceOf pick ps number p
named_place pick number picks ps p at = elim picks [
  | inl all ↦ subst (λ (k : Pick). PlaceOf k ps number p) (sym all) (all_named ps number p at)
  | inr one ↦ subst (λ (k : Pick). PlaceOf k ps number p) (sym one) (one_named ps number p at)
]

-- ---- a verdict that holds is the one that was given, if no other verdicts hold
given : (Fact : ℕ → Pattern → Verdict → Type 0) (file : File) (pick : Pick) (ps : List Pattern) (vs : List Verdict)
    → ((ws : List Verdict) → EachHolds Fact (first_picked pick) (picked pick ps) ws → AllByRecursion (VerdictFits file) ws → vs ≡ ws)
    → EachHolds Fact (first_picked pick) (picked pick ps) vs → AllByRecursion (VerdictFits file) vs → (number : ℕ) (p : Pattern) (v : Verdict)
    → PlaceOf pick ps number p → VerdictFits file v → Fact number p v → entry_of pick vs number ≡ Some v
given Fact file pick ps vs once hold all number p v there fit holds =
    let k = there.place in
    let first = first_picked pick in
    let fact = subst (λ (m : ℕ). Fact m p v) (sym there.number_is) holds in
    let others = once (put_at k v vs) (still_hold Fact first k (picked pick ps) vs p v hold there.at fact) (still_fit file k v vs all fit) in
    let here = ap (λ (xs : List Verdict). slice_get xs k) others ∙ put_there Fact first k (picked pick ps) vs p v hold there.at in
    subst (λ (m : ℕ). entry_of pick vs m ≡ Some v) there.number_is (entry_there pick ps vs k p v there.at here)

same_some : (x y : Pattern) → Some x ≡ Some y → x ≡ y
same_some x y e = cc

-- ---- two reports with one text
module _ (lines_differ : ReportsAreDistinct) (json_differs : JsonIsDistinct) where
  same_parts : (rest json : Bool) (file : File) (pick : Pick) (x y : ReportSample) (vs ws : List Verdict) (text : List ℕ)
      → IsReportOf rest json file pick x vs text → IsReportOf rest json file pick y ws text → (x ≡ y) × (vs ≡ ws)
  same_parts false false file pick x y vs ws text a b =
      lines_differ file pick x y vs ws a.count b.count a.sample_fits b.sample_fits a.fit b.fit (sym a.is ∙ b.is)
  same_parts true false file pick x y vs ws text a b =
      rest_reports_distinct lines_differ file pick x y vs ws a.count b.count a.sample_fits b.sample_fits a.fit b.fit (sym a.is ∙ b.is)
  same_parts rest true file pick x y vs ws text a b =
      json_differs rest file pick x y vs ws a.count b.count a.sample_fits b.sample_fits a.fit b.fit (sym a.is ∙ b.is)

  -- a report that is known gives its verdicts alone, and what it says of the parameters
  module _ (rest json : Bool) (file : File) (pick : Pick) (sample : ReportSample) (vs : List Verdict) (text : List ℕ)
      (made : IsReportOf rest json file pick sample vs text) where
    verdict_told : (number : ℕ) (v : Verdict) → GivesVerdict rest json file pick number v text ↔ (entry_of pick vs number ≡ Some v)
    verdict_told number v = (
      λ gives.
          let same = same_parts rest json file pick gives.sample sample gives.verdicts vs text gives.report made in
          ap (λ (xs : List Verdict). entry_of pick xs number) (sym same.1) ∙ gives.at,
      λ at. record { sample = sample; verdicts = vs; report = made; at = at },
    )

    sample_told : (nodes : ℕ) → IsSample file nodes sample → (x : ReportSample) → GivesSample rest json file pick x text ↔ IsSample file nodes x
    sample_told nodes is x = (
      λ gives.
          let same = same_parts rest json file pick x sample gives.verdicts vs text gives.report made in
          subst (λ (y : ReportSample). IsSample file nodes y) (sym same.0) is,
      λ holds.
          let same = samples_once file nodes sample x is holds in
          record { verdicts = vs; report = subst (λ (y : ReportSample). IsReportOf rest json file pick y vs text) same made },
    )

  pub reports_exactly : (number : ℕ) (view : View) (asked : VerifyWords) (written written' : Option (List ℕ)) → ReportHolds number view asked written written'
      → EachReported asked view written written'
  reports_exactly number view asked written written' r =
      let file = r.file in
      let pick = r.pick in
      let Fact = VerdictHolds file asked.budget in
      let text = report_of false asked.json file pick r.sample r.verdicts in
      let made : IsReportOf false asked.json file pick r.sample r.verdicts text = record {
        sample_fits = r.is_sample.fits;
        count = as_many Fact (first_picked pick) (picked pick file.patterns) r.verdicts r.are.hold;
        fit = r.are.fit;
        is = refl;
      } in
      record {
        file = file;
        holds = holds_file view asked.file r.file r.is_file;
        pick = pick;
        is_pick = r.is_pick;
        text = text;
        gained = r.wrote;
        verdict = λ k p v at named fit.
            let told = verdict_told false asked.json file pick r.sample r.verdicts text made k v in (
              λ gives. held_entry Fact pick file.patterns r.verdicts r.are.hold k p v at (told.0 gives),
              λ holds. told.1 (given Fact file pick file.patterns r.verdicts
                  (λ ws hold fits. verdicts_once file pick asked.budget r.verdicts ws r.are (record { hold = hold; fit = fits })) r.are.hold r.are.fit
                  k p v (named_place pick k (picks_named file asked.pattern pick r.is_pick k p at named) file.patterns p at) fit holds),
            );
        parameters = sample_told false asked.json file pick r.sample r.verdicts text made asked.budget.nodes r.is_sample;
      }

  pub rests_exactly : (number : ℕ) (view : View) (asked : RestWords) (written written' : Option (List ℕ)) → RestReportHolds number view asked written written'
      → EachReportedAtRest asked view written written'
  rests_exactly number view asked written written' r =
      let file = r.file in
      let ending = r.ends.ending in
      let pick = r.pick in
      let budget = resting asked.verify.budget r.silent in
      let Fact = EndingVerdictHolds file ending r.ends.added budget in
      let text = report_of true asked.verify.json file pick r.sample r.verdicts in
      let made : IsReportOf true asked.verify.json file pick r.sample r.verdicts text = record {
        sample_fits = r.is_sample.fits;
        count = r.are.each;
        fit = r.are.fit;
        is = refl;
      } in
      let counts = picked_count pick ending.patterns file.patterns (endings_count file.patterns ending.patterns r.are_ends.endings.patterns) in
      let once : (ws : List Verdict) → EachHolds Fact (first_picked pick) (picked pick ending.patterns) ws → AllByRecursion (VerdictFits file) ws
      → r.verdicts ≡ ws =
      λ ws hold fits. rest_verdicts_once file ending r.ends.added pick budget r.are_ends.endings r.verdicts ws r.are (record {
        each = as_many Fact (first_picked pick) (picked pick ending.patterns) ws hold ∙ counts;
        hold = hold;
        fit = fits;
      }) in
      record {
        file = file;
        holds = holds_file view asked.verify.file r.file r.is_file;
        ends = r.ends;
        are_ends = r.are_ends;
        silent = r.silent;
        are_silent = r.are_silent;
        pick = pick;
        is_pick = r.is_pick;
        text = text;
        gained = r.wrote;
        verdict = λ k own p v at there named fit.
            let told = verdict_told true asked.verify.json file pick r.sample r.verdicts text made k v in (
              λ gives. held_entry Fact pick ending.patterns r.verdicts r.are.hold k p v there (told.0 gives) own at,
              λ holds. told.1 (given Fact file pick ending.patterns r.verdicts once r.are.hold r.are.fit k p v
                  (named_place pick k (picks_named file asked.verify.pattern pick r.is_pick k own at named) ending.patterns p there) fit
                  (λ other is. subst (λ (q : Pattern). RestVerdictHolds file ending r.ends.added budget k q p v) (same_some own other (sym at ∙ is)) holds)),
            );
        parameters = sample_told true asked.verify.json file pick r.sample r.verdicts text made asked.verify.budget.nodes r.is_sample;
      }

  -- `verify` and `rest` with status 0, 1 or 2
  pub reported_exactly : (words : List (List ℕ)) (number : ℕ) (before after : State) → Runs (request_of words) number before after
      → ReportsExactly (run_of words number before after)
  reported_exactly words number before after h = record {
    verify = λ asked is low.
        gives_some words number before after h (verify_meaning asked) (as_verify words number before after h asked is) low
        (λ view. EachReported asked view before.out.written after.out.written)
        (λ view made a. reports_exactly number view asked before.out.written after.out.written (reported words number before after h asked view made a));
    rest = λ asked is low.
        gives_rest words number before after h asked is low (λ view. EachReportedAtRest asked view before.out.written after.out.written)
        (λ view r. rests_exactly number view asked before.out.written after.out.written r);
  }
