use Rattle.ta_program.proofs.Common.{codes, ℕ, List, ◌∷◌, ◌≡◌, ◌≢◌, refl, NoCommand, request_of, map}
use Rattle.ta_base.proofs.ByteLists.{other_name}
use Rattle.ta_program.proofs.running.obey.Goals as goal

-- the name of no row is no command's
no_row :
    (word : List ℕ) (words : List (List ℕ))
    → word ≢ codes "admit" → word ≢ codes "bench" → word ≢ codes "check" → word ≢ codes "compress" → word ≢ codes "count"
    → word ≢ codes "export" → word ≢ codes "replay" → word ≢ codes "rest" → word ≢ codes "rest-check" → word ≢ codes "search" → word ≢ codes "show"
    → word ≢ codes "verify" → word ≢ codes "version"
    → request_of (word ∷ words) ≡ NoCommand
no_row word words admit bench check compress count export replay rest text search show verify version =
    rw (
      other_name word (codes "admit") admit,
      other_name word (codes "bench") bench,
      other_name word (codes "check") check,
      other_name word (codes "compress")
          compress,
      other_name word (codes "count") count,
      other_name word (codes "export") export,
      other_name word (codes "replay") replay,
      other_name word (codes "rest") rest,
      other_name word
          (codes "rest-check") text,
      other_name word (codes "search") search,
      other_name word (codes "show") show,
      other_name word (codes "verify") verify,
      other_name word (codes "version") version,
    ) refl

pub returns-in_default-name : goal.returns-in_default-name
returns-in_default-name g c =
    let h = c.in_default-name in
    let word = c.in-Some.name.now.now in
    let none : request_of (word ∷ map (λ w. w.now) c.in-Some.words.now) ≡ NoCommand = no_row word (map (λ w. w.now) c.in-Some.words.now) h.not-admit h.not-bench
    h.not-check h.not-compress h.not-count h.not-export h.not-replay h.not-rest h.not-text h.not-search h.not-show h.not-verify h.not-version in
    rw (c.in-Some.ensures.cases.0, none)
    (record { five = c.refuse-in_default-name.ensures.five; shelf = refl; out = refl; told = c.refuse-in_default-name.ensures.told })

pub returns-in-admit : goal.returns-in-admit
returns-in-admit g c = rw (c.in-Some.ensures.cases.0, c.in-admit.is) c.attempt.ensures

pub returns-in-bench : goal.returns-in-bench
returns-in-bench g c = rw (c.in-Some.ensures.cases.0, c.in-bench.is) c.attempt-in-bench.ensures

pub returns-in-check : goal.returns-in-check
returns-in-check g c = rw (c.in-Some.ensures.cases.0, c.in-check.is) c.attempt-in-check.ensures

pub returns-in-compress : goal.returns-in-compress
returns-in-compress g c = rw (c.in-Some.ensures.cases.0, c.in-compress.is) c.attempt-in-compress.ensures

pub returns-in-count : goal.returns-in-count
returns-in-count g c = rw (c.in-Some.ensures.cases.0, c.in-count.is) c.attempt-in-count.ensures

pub returns-in-export : goal.returns-in-export
returns-in-export g c = rw (c.in-Some.ensures.cases.0, c.in-export.is) c.attempt-in-export.ensures

pub returns-in-replay : goal.returns-in-replay
returns-in-replay g c = rw (c.in-Some.ensures.cases.0, c.in-replay.is) c.attempt-in-replay.ensures

pub returns-in-rest : goal.returns-in-rest
returns-in-rest g c = rw (c.in-Some.ensures.cases.0, c.in-rest.is) c.attempt_staging.ensures

pub returns-in-text : goal.returns-in-text
returns-in-text g c = rw (c.in-Some.ensures.cases.0, c.in-text.is) c.attempt-in-text.ensures

pub returns-in-search : goal.returns-in-search
returns-in-search g c = rw (c.in-Some.ensures.cases.0, c.in-search.is) c.attempt-in-search.ensures

pub returns-in-show : goal.returns-in-show
returns-in-show g c = rw (c.in-Some.ensures.cases.0, c.in-show.is) c.attempt-in-show.ensures

pub returns-in-verify : goal.returns-in-verify
returns-in-verify g c = rw (c.in-Some.ensures.cases.0, c.in-verify.is) c.attempt_staging-in-verify.ensures

pub returns-in-version : goal.returns-in-version
returns-in-version g c = rw (c.in-Some.ensures.cases.0, c.in-version.is) c.attempt-in-version.ensures
