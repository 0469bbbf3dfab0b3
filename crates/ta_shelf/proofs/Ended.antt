-- how a command ends, by what its judgement, its files and its text answered
use Rattle.ta_shelf.proofs.ShellCommon.{◌≡◌, ◌∙◌, ◌++◌, ◌∷◌, [], ℕ, List, ap, append_assoc, Event, puts, Result, Ok, Err, refl, subst, inl, inr, arith}
use Rattle.ta_shelf.proofs.ShellCommon.{Contains, contains_cases, Answer, Refusal, Refused, ReadFailed, PutFailed, Memory, AnswerHolds, JudgementHolds, Meaning}
use Rattle.ta_shelf.proofs.ShellCommon.{End, State, Tells, Done, NoMemory, Stopped, Unbegun, Unput, Unread, Unwritten, refusal_line, refusal_number, ReadCause}
use Rattle.ta_shelf.proofs.ShellCommon.{View, PutCall, Put, PutsWithin, names_put, BeginCause, BeginRefuses, StagedBy, result_seen, Settled, SettledCause, Halt}
use Rattle.ta_shelf.proofs.ShellCommon.{Unpublished, Unstaged}
use Rattle.ta_shelf.proofs.OutputCalls.{Within, of_stages_within, staging_within}
use Rattle.ta_shelf.specs.Finishing.{TellsEnd}
use Rattle.ta_shelf.specs.declared.putting.Halt.TheVariants as halt

-- a log that grew by tries, by reads, and by what was made
pub grown_by : (first second third fourth : List Event) (tried : List PutCall) (read made : List Event) → second ≡ first ++ puts tried → third ≡ second ++ read
    → fourth ≡ third ++ made → fourth ≡ first ++ (puts tried ++ (read ++ made))
grown_by first second third fourth tried read made one two three =
    three ∙ ap (λ (events : List Event). events ++ made) (two ∙ ap (λ (events : List Event). events ++ read) one) ∙ append_assoc (first ++ puts tried) read made
    ∙ append_assoc first (puts tried) (read ++ made)

-- what else is the same where a refusal is told
pub record Only (refusal : Refusal) (number : ℕ) (before after : State) : Type 0 where
  pub numbered : number ≡ refusal_number refusal
  pub nothing : after.out ≡ before.out
  pub told : Tells (refusal_line refusal) before.err after.err

-- a file could not be begun
pub not_begun : (m : Meaning) (view : View) (refusal : Refusal) (number : ℕ) (before after : State) → BeginRefuses m.puts (Err refusal)
    → BeginCause (Err refusal) before.shelf.faults after.shelf.faults → after.shelf.files ≡ before.shelf.files → Only refusal number before after
    → End m view number before after []
not_begun m view (Refused n name why) number before after refuses cause kept only = absurd refuses
not_begun m view (ReadFailed name) number before after refuses cause kept only = absurd refuses
not_begun m view (PutFailed name) number before after refuses cause kept only =
    Unbegun (record {
      six = only.numbered;
      name = name.now;
      among = refuses;
      kept = kept;
      staging = tt;
      faulted = cause;
      nothing = only.nothing;
      told =
          only.told;
    })
not_begun m view Memory number before after refuses cause kept only =
    NoMemory (record { seven = only.numbered; stopped = inl (record { kept = kept; staging = tt }, only.nothing); no_fault = cause; told = only.told })

-- the judgement refused
pub refused : (m : Meaning) (view : View) (refusal : Refusal) (number : ℕ) (before after : State) → JudgementHolds m view (Err refusal)
    → ReadCause {T = Answer} (Err refusal) before.shelf.faults after.shelf.faults → after.shelf.files ≡ before.shelf.files → Only refusal number before after
    → End m view number before after []
refused m view (Refused n name why) number before after judges cause kept only =
    let same : number ≡ n = only.numbered in
    let three = judges.0 in
    let four = judges.1 in
    Stopped (record {
      three = omega arith;
      four = omega arith;
      line = refusal_line (Refused n name why);
      holds = rw same judges.2;
      kept = kept;
      let_go = inl
          refl;
      no_fault = cause;
      nothing = only.nothing;
      told = only.told;
    })
refused m view (ReadFailed name) number before after judges cause kept only =
    Unread (record { six = only.numbered; name = name.now; read = judges; kept = kept; none = refl; faulted = cause; nothing = only.nothing; told = only.told })
refused m view (PutFailed name) number before after judges cause kept only = absurd judges
refused m view Memory number before after judges cause kept only =
    NoMemory (record { seven = only.numbered; stopped = inl (record { kept = kept; staging = tt }, only.nothing); no_fault = cause; told = only.told })

-- the names of files that are put are among those that may be
pub within_puts : (names : List (List ℕ)) (puts : List Put) → PutsWithin names puts → Within (names_put puts) names
within_puts names [] within name among = absurd (none_there name among)
  where
    none_there : (name : List ℕ) → Contains {X = List ℕ} [] name → ⊥
    none_there name among = let below = among.1 in omega arith
within_puts names (put ∷ puts) within name among =
    elim (contains_cases name put.name (names_put puts) among)
    [ inl is ↦ subst (Contains names) is within.0 | inr later ↦ within_puts names puts within.1 name later ]

module _ (m : Meaning) (view : View) (answer : Answer) (holds : AnswerHolds m view answer) (number : ℕ) (before after : State) (made : List PutCall) where
  may : Within (names_put answer.puts) m.puts
  may = within_puts m.puts answer.puts holds.within

  unstaged : Unstaged (names_put answer.puts) before.shelf.files after.shelf.files made → Unstaged m.puts before.shelf.files after.shelf.files made
  unstaged u = record { kept = u.kept; staging = staging_within (names_put answer.puts) m.puts made may u.staging }

  unpublished : (name : List ℕ) → Unpublished (names_put answer.puts) answer.puts name answer.text before.shelf.files after.shelf.files before.out after.out
      made → Unpublished m.puts answer.puts name answer.text before.shelf.files after.shelf.files before.out after.out made
  unpublished name u =
      let s = u.refused in
      record {
        stopped = u.stopped;
        refused = record {
          front = s.front;
          name = s.name;
          why = s.why;
          behind = s.behind;
          all = s.all;
          named = may s.name s.named;
          before = of_stages_within
              (names_put answer.puts) m.puts s.front may s.before;
          after = staging_within (names_put answer.puts) m.puts s.behind may s.after;
        };
        written = u.written;
        calm = u.calm;
      }

  -- the files and the text of the answer were put, or not
  pub settled : (result : Result (Unit {0}) Halt) → Settled answer.puts answer.text result before.shelf.files after.shelf.files before.out after.out made
      → SettledCause result before.shelf.faults after.shelf.faults → TellsEnd answer.number result number before.err after.err
      → End m view number before after made
  settled (Ok u) s cause told =
      Done (record {
        answer = answer;
        holds = holds;
        numbered = told.0;
        stand = s.0;
        whole = s.1;
        no_fault = cause;
        written = s.2;
        calm = s.3;
        silent = told.1;
      })
  settled (Err halt.Unwritten) s cause told =
      Unwritten (record { six = told.0; answer = answer; holds = holds; unstaged = unstaged s.0; no_fault = cause; begun = s.1; failed = s.2; told = told.1 })
  settled (Err (halt.Unput name)) s cause told =
      Unput (record {
        six = told.0;
        answer = answer;
        holds = holds;
        name = name.now;
        among = may name.now s.0;
        halted = elim s.1
            [ inl u ↦ inl (unstaged u.0, u.1) | inr u ↦ inr (unpublished name.now u) ];
        faulted = cause;
        told = told.1;
      })
  settled (Err halt.Memory) s cause told =
      NoMemory (record {
        seven = told.0;
        stopped = elim s
            [ inl u ↦ inl (unstaged u.0, u.1) | inr u ↦ inr (record { answer = answer; holds = holds; name = u.0; stopped = unpublished u.0 u.1 }) ];
        no_fault =
            cause;
        told = told.1;
      })

-- a command that stages its output gave no answer
pub refused_staging : {T : Type 0} (m : Meaning) (view : View) (named bytes : T → List ℕ) (lost : List ℕ) (refusal : Refusal) (number : ℕ)
    (before after : State) (made : List PutCall) → JudgementHolds m view (result_seen {T = T} bytes lost (Err refusal))
    → StagedBy {T = T} m.puts named bytes (Err refusal) before.shelf.faults after.shelf.faults made → after.shelf.files ≡ before.shelf.files
    → Only refusal number before after → End m view number before after made
refused_staging m view named bytes lost (Refused n name why) number before after made judges staged kept only =
    let same : number ≡ n = only.numbered in
    let three = judges.0 in
    let four = judges.1 in
    Stopped (record {
      three = omega arith;
      four = omega arith;
      line = refusal_line (Refused n name why);
      holds = rw same judges.2;
      kept = kept;
      let_go =
          staged.0;
      no_fault = staged.1;
      nothing = only.nothing;
      told = only.told;
    })
refused_staging m view named bytes lost (ReadFailed name) number before after made judges staged kept only =
    Unread (record {
      six = only.numbered;
      name = name.now;
      read = judges;
      kept = kept;
      none = staged.0;
      faulted = staged.1;
      nothing = only.nothing;
      told =
          only.told;
    })
refused_staging m view named bytes lost (PutFailed name) number before after made judges staged kept only =
    Unbegun (record {
      six = only.numbered;
      name = name.now;
      among = staged.0;
      kept = kept;
      staging = staged.1;
      faulted = staged.2;
      nothing = only.nothing;
      told
          = only.told;
    })
refused_staging m view named bytes lost Memory number before after made judges staged kept only =
    NoMemory (record { seven = only.numbered; stopped = inl (record { kept = kept; staging = staged.0 }, only.nothing); no_fault = staged.1; told = only.told })
