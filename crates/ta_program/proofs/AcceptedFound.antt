-- what `search` puts `check` accepts
use Rattle.ta_program.specs.SearchWords.{terms_of}
use Rattle.ta_program.specs.Values.{limits_of}
use Rattle.ta_program.proofs.Common.{Terms, ◌≡◌, ◌≤◌, ℕ, List, [], ◌∷◌, ◌++◌, length, Bool, Option, Some, refl, sym, subst, inl, inr, arith, IsSome}
use Rattle.ta_program.proofs.Common.{range_with_len, claiming, SearchEnd, Tried, Template, filled_text, AreTried, IsSearchEnd, LastIsFound, vectors, Told}
use Rattle.ta_program.proofs.Common.{WhereTold, is_more, sub_told, in_files, seen, IsFile, FoundIsAccepted, HoldFound, IsTemplate, template_kind}
use Rattle.ta_rest.specs.declared.claim.Claim.TheVariants as claim
use Rattle.ta_search.specs.declared.outcome.Outcome.{Outcome}
use Rattle.ta_search.specs.Outcomes.{OutcomeHolds}
use Rattle.ta_program.proofs.Accepted.{checks, told_before}
use Rattle.ta_program.proofs.Accepting.{each_holds, is_kept}
use Rattle.ta_program.proofs.Clauses.{as_check, searches}
use Rattle.ta_program.proofs.WordsDiffer.{names_apart}
use Rattle.ta_program.specs.CheckWords.{no_options}
use Rattle.ta_base.proofs.Lists.{no_end, get_from_none}

-- the outcome of the last vector that was tried holds
last_holds : (t : Template) (terms : Terms) (vs : List (List ℕ)) (before : List Tried) (x : Tried) (found : Bool)
    → AreTried t terms vs (before ++ x ∷ []) found → OutcomeHolds (filled_text t x.values) terms x.outcome
last_holds t terms [] [] x found h = absurd h
last_holds t terms [] (b ∷ before) x found h = absurd h
last_holds t terms (v ∷ vs) [] x found h = subst (λ (values : List ℕ). OutcomeHolds (filled_text t values) terms x.outcome) (sym h.0.values) h.0.holds
last_holds t terms (v ∷ vs) (b ∷ before) x found h = elim h.1 [
  | inl ends ↦ absurd (no_end before x (sym ends.last))
  | inr more ↦ last_holds t terms vs before x found more.1
]

-- the text that was found is no longer than a file may be
found_within : (t : Template) (terms : Terms) (end : SearchEnd) → IsSearchEnd t terms end → (l : LastIsFound t terms.limits end)
    → length (filled_text t l.last.values) ≤ terms.limits.bytes
found_within t terms end is l =
    let tried = subst (λ (xs : List Tried). AreTried t terms (vectors t.holes) xs end.found) l.whole is in
    let holds = last_holds t terms (vectors t.holes) l.before l.last end.found tried in
    let safe = subst (λ (o : Outcome). OutcomeHolds (filled_text t l.last.values) terms o) l.said holds in
    safe.judged.sampled.within

pub found_is_accepted : FoundIsAccepted
found_is_accepted words before after h asked out filled is out_is filled_is told after_told again checked second begun ended begun_told done =
    let name = asked.file in
    let l = limits_of asked.wide in
    let searched = searches words 0 before after h asked is (omega arith) in
    let s = searched.such in
    let t = s.template in
    let found = s.found refl in
    let last = found.last in
    let text = filled_text t last.last.values in
    let file = last.found.file in
    let apart = names_apart words asked is in
    let files = told_before (HoldFound asked.filled asked.out text last.certificate) before.shelf.files told
    (subst (λ (o : Option Told). WhereTold (HoldFound asked.filled asked.out text last.certificate) before.shelf.files o) after_told found.stands) in
    let holds = files.2 in
    let read = searched.read in
    let is_first : IsTemplate l (in_files files.0) name t = is_more (template_kind l) (seen (Some files.0) read) (in_files files.0) (sub_told files.0 read) name
    t
    (subst (λ (o : Option Told). IsTemplate l (seen o read) name t) files.1 s.is_template) in
    let same : told name ≡ files.0 name = holds.others name (λ given. apart.filled name name refl given refl) (λ given. apart.out name name refl given refl) in
    let held : told filled ≡ Some text = holds.first filled filled_is in
    let is_file : IsFile l (in_files told) filled file = record
    { bytes = text; had = record { seen = held; within = found_within t (terms_of asked) s.end s.is_end last }; means = last.found.legal } in
    let safe = each_holds (claiming claim.Safe file l.line_bytes) 0 file.patterns last.found.safe (get_from_none file.patterns) in
    let short = found.within (subst (λ (o : Option (List ℕ)). IsSome o) (sym out_is) refl) in
    record {
      template = t;
      is_template = is_kept (template_kind l) files.0 told name t same is_first;
      end = s.end;
      reported = s.wrote;
      last = last;
      held = held;
      is_file = is_file;
      accepted = checks asked.wide filled out told file (range_with_len 0 (length file.patterns)) last.certificate is_file (holds.second out out_is) short
          last.found.accepted safe second begun ended begun_told
          (as_check again second begun ended done (record { file = filled; other = out; wide = asked.wide; options = no_options }) checked);
    }
