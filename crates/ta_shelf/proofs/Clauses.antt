-- from how a command ends to what is said of each
use Rattle.ta_shelf.proofs.ShellCommon.{◌≡◌, ◌≢◌, ◌∙◌, ◌≤◌, ◌⊎◌, ◌++◌, ℕ, List, [], ◌∷◌, Option, Some, None, refl, sym, subst, inl, inr, rules, arith, Contains}
use Rattle.ta_shelf.proofs.ShellCommon.{Call, PutCall, Acts, OthersStay, Told, WhereTold, Put, Decides, Exact, Meaning, IsAnswered, End, Ends, SinkFaltered}
use Rattle.ta_shelf.proofs.ShellCommon.{FailureTold, IsHindered, LetGo, Performs, Quiet, State, Telling, Done, NoMemory, Stopped, Unbegun, Unput, Unread}
use Rattle.ta_shelf.proofs.ShellCommon.{Unwritten, HoldsEither, HoldsPut, KeptBut, Stand, StopAt, PutsWithin, View, seen, with_text, Calm, Spares, put_bytes}
use Rattle.ta_shelf.proofs.ShellCommon.{ap, append-nil, map, reads, puts, Event, Grew, AreStaging, AreOfStages, PutWhole, PutText, put_text, StopsPublishing}
use Rattle.ta_shelf.proofs.ShellCommon.{TellsFile, published, names_put, each_append, Answer}
use Rattle.ta_shelf.proofs.Ended.{within_puts}
use Rattle.ta_shelf.proofs.OutputCalls.{of_stages_within, staging_of_stages}
use Rattle.ta_shelf.proofs.Settling.{whole_of_stages}
use Rattle.ta_shelf.specs.Counts.{Faulted}

-- the ends by their numbers
by_number : {P : Type 0} (m : Meaning) (view : View) (number : ℕ) (before after : State) (made : List PutCall) → End m view number before after made
    → (number ≤ 2 → IsAnswered m view number before after made → P) → (3 ≤ number → number ≤ 4 → IsHindered m view number before after made → P)
    → (6 ≤ number → P) → P
by_number m view number before after made (Done a) low middle high = let below = a.holds.low in let same = a.numbered in low (omega arith) a
by_number m view number before after made (Stopped h) low middle high = middle h.three h.four h
by_number m view number before after made (Unread h) low middle high = let six = h.six in high (omega arith)
by_number m view number before after made (Unbegun h) low middle high = let six = h.six in high (omega arith)
by_number m view number before after made (Unput h) low middle high = let six = h.six in high (omega arith)
by_number m view number before after made (Unwritten h) low middle high = let six = h.six in high (omega arith)
by_number m view number before after made (NoMemory h) low middle high = let seven = h.seven in high (omega arith)

-- with 0, 1 and 2 an answer was written whole
pub answered : (m : Meaning) (view : View) (number : ℕ) (before after : State) (made : List PutCall) → End m view number before after made → number ≤ 2
    → IsAnswered m view number before after made
answered m view number before after made end low = by_number m view number before after made end (λ same a. a) (λ three four h. absurd (omega arith))
    (λ six. absurd (omega arith))

-- no command ends with 5
pub never_five : (m : Meaning) (number : ℕ) (before after : State) → Ends m number before after → number ≢ 5
never_five m number before after e five = by_number m (seen before.shelf.files e.read) number before after e.made e.end (λ low a. omega arith)
    (λ three four h. omega arith) (λ six. omega arith)

-- with 3 and 4 something hinders
pub hindered : (m : Meaning) (number : ℕ) (before after : State) (e : Ends m number before after) → 3 ≤ number → number ≤ 4 → (line : List ℕ)
    × m.refuses (seen before.shelf.files e.read) number line
hindered m number before after e three four = by_number m (seen before.shelf.files e.read) number before after e.made e.end (λ low a. absurd (omega arith))
    (λ above below h. (h.line, h.holds)) (λ six. absurd (omega arith))

still : (number : ℕ) (before after : State) → number ≢ 6 → after.shelf.faults ≡ before.shelf.faults → after.out ≡ before.out → Quiet number before after
still number before after other no_fault nothing =
    record {
      nothing_written = λ above below. rw nothing refl;
      memory = λ seven. inl (rw nothing refl);
      shelf_kept = λ o. no_fault;
      out_calm = λ o. rw nothing
          (refl, refl);
      failed = λ six. absurd (other six);
    }

failing : (number : ℕ) (before after : State) → number ≡ 6 → Faulted before.shelf.faults after.shelf.faults ⊎ SinkFaltered before.out after.out
    → Quiet number before after
failing number before after six failed =
    record {
      nothing_written = λ above below. absurd (omega (arith, six));
      memory = λ seven. absurd (omega (arith, six, seven));
      shelf_kept = λ other. absurd
          (other six);
      out_calm = λ other. absurd (other six);
      failed = λ _. failed;
    }

-- a text was written whole, and then there was no memory
wrote_then : (number : ℕ) (before after : State) (text : List ℕ) → number ≡ 7 → after.shelf.faults ≡ before.shelf.faults
    → after.out.written ≡ with_text before.out.written text → Calm before.out after.out → Quiet number before after
wrote_then number before after text seven no_fault written calm =
    record {
      nothing_written = λ above below. absurd (omega (arith, seven));
      memory = λ _. inr (text, written);
      shelf_kept = λ other. no_fault;
      out_calm = λ
          other. calm;
      failed = λ six. absurd (omega (arith, six, seven));
    }

quiet : (m : Meaning) (view : View) (number : ℕ) (before after : State) (made : List PutCall) → End m view number before after made → Quiet number before after
quiet m view number before after made (Done a) =
    let low = a.holds.low in
    let same = a.numbered in
    record {
      nothing_written = λ above below. absurd (omega arith);
      memory = λ seven. absurd (omega arith);
      shelf_kept = λ other. a.no_fault;
      out_calm = λ
          other. a.calm;
      failed = λ six. absurd (omega arith);
    }
quiet m view number before after made (Stopped h) = let four = h.four in still number before after (λ six. omega arith) h.no_fault h.nothing
quiet m view number before after made (Unread h) = failing number before after h.six (inl h.faulted)
quiet m view number before after made (Unbegun h) = failing number before after h.six (inl h.faulted)
quiet m view number before after made (Unput h) = failing number before after h.six (inl h.faulted)
quiet m view number before after made (Unwritten h) = failing number before after h.six (inr h.failed)
quiet m view number before after made (NoMemory h) =
    let seven = h.seven in
    elim h.stopped [
      | inl u ↦ still number before after (λ six. omega arith) h.no_fault u.1
      | inr u ↦ wrote_then number before after u.answer.text h.seven
          h.no_fault u.stopped.written u.stopped.calm
    ]

-- files that are kept twice are kept
kept_then : (names : List (List ℕ)) (before middle after : Option Told) → KeptBut names before middle → KeptBut names middle after → KeptBut names before after
kept_then [] before middle after h k = k ∙ h
kept_then (name ∷ names) None None None h k = tt
kept_then (name ∷ names) None None (Some a) h k = absurd k
kept_then (name ∷ names) None (Some m) after h k = absurd h
kept_then (name ∷ names) (Some b) None after h k = absurd h
kept_then (name ∷ names) (Some b) (Some m) None h k = absurd k
kept_then (name ∷ names) (Some b) (Some m) (Some a) h k = λ other outside. k other outside ∙ h other outside

kept_same : (names : List (List ℕ)) (before after : Option Told) → after ≡ before → KeptBut names before after
kept_same [] before after e = e
kept_same (name ∷ names) None after e = subst (KeptBut (name ∷ names) None) (sym e) tt
kept_same (name ∷ names) (Some b) after e = subst (KeptBut (name ∷ names) (Some b)) (sym e) (λ other outside. refl)

-- a change of one file among these
kept_others : (names : List (List ℕ)) (name : List ℕ) (before after : Option Told) → Contains names name → WhereTold (OthersStay name) before after
    → KeptBut names before after
kept_others [] name before after among stays = absurd (search rules)
kept_others (first ∷ names) name None None among stays = tt
kept_others (first ∷ names) name None (Some a) among stays = absurd stays
kept_others (first ∷ names) name (Some b) None among stays = absurd stays
kept_others (first ∷ names) name (Some b) (Some a) among stays = λ other outside. stays other (λ e. outside (subst (Contains (first ∷ names)) (sym e) among))

holds_others : (put : Put) (before after : Option Told) → WhereTold (HoldsPut put) before after → WhereTold (OthersStay put.name) before after
holds_others put None None h = tt
holds_others put None (Some a) h = absurd h
holds_others put (Some b) None h = absurd h
holds_others put (Some b) (Some a) h = h.others

kept_stand : (names : List (List ℕ)) (puts : List Put) (before after : Option Told) → PutsWithin names puts → Stand puts before after
    → KeptBut names before after
kept_stand names [] before after within stand = kept_same names before after stand
kept_stand names (put ∷ puts) before after within stand =
    kept_then names before stand.0 after (kept_stand names puts before stand.0 within.1 stand.1)
    (kept_others names put.name stand.0 after within.0 (holds_others put stand.0 after stand.2))

either_others : (name text : List ℕ) (before after : Option Told) → WhereTold (HoldsEither name text) before after → WhereTold (OthersStay name) before after
either_others name text None None h = tt
either_others name text None (Some a) h = absurd h
either_others name text (Some b) None h = absurd h
either_others name text (Some b) (Some a) h = h.others

kept_stop : (names : List (List ℕ)) (name : List ℕ) (puts : List Put) (before after : Option Told) → PutsWithin names puts → StopAt name puts before after
    → KeptBut names before after
kept_stop names name [] before after within stop = absurd stop
kept_stop names name (put ∷ puts) before after within stop =
    elim stop [
      | inl h ↦ kept_stop names name puts before after within.1 h
      | inr h ↦ kept_then names before h.0 after (kept_stand names puts before h.0 within.1 h.1)
          (kept_others names put.name h.0 after within.0 (either_others put.name (put_bytes put) h.0 after h.3))
    ]

-- every file stays but those that the command may put
kept : (m : Meaning) (view : View) (number : ℕ) (before after : State) (made : List PutCall) → End m view number before after made
    → KeptBut m.puts before.shelf.files after.shelf.files
kept m view number before after made (Done a) = kept_stand m.puts a.answer.puts _ _ a.holds.within a.stand
kept m view number before after made (Stopped h) = kept_same m.puts _ _ h.kept
kept m view number before after made (Unread h) = kept_same m.puts _ _ h.kept
kept m view number before after made (Unbegun h) = kept_same m.puts _ _ h.kept
kept m view number before after made (Unput h) = elim h.halted
    [ inl u ↦ kept_same m.puts _ _ u.0.kept | inr u ↦ kept_stop m.puts h.name h.answer.puts _ _ h.holds.within u.stopped ]
kept m view number before after made (Unwritten h) = kept_same m.puts _ _ h.unstaged.kept
kept m view number before after made (NoMemory h) = elim h.stopped
    [ inl u ↦ kept_same m.puts _ _ u.0.kept | inr u ↦ kept_stop m.puts u.name u.answer.puts _ _ u.holds.within u.stopped.stopped ]

-- of told files the number is the one that is so, 6 and 7 aside
exact : (m : Meaning) (calls : List Call) (number : ℕ) (before after : State) (made : List PutCall)
    → End m (seen before.shelf.files calls) number before after made → Decides m → Exact m before.shelf.files number
exact m calls number before after made (Done a) decides told is expected so =
    inl (a.numbered ∙ decides.one told a.answer.number expected
    (inl (a.answer, refl, decides.answers told calls a.answer (subst (λ (o : Option Told). m.answers (seen o calls) a.answer) is a.holds.holds))) so)
exact m calls number before after made (Stopped h) decides told is expected so =
    inl (decides.one told number expected
    (inr (h.line, decides.refuses told calls number h.line (subst (λ (o : Option Told). m.refuses (seen o calls) number h.line) is h.holds))) so)
exact m calls number before after made (Unread h) decides told is expected so = inr (inl h.six)
exact m calls number before after made (Unbegun h) decides told is expected so = inr (inl h.six)
exact m calls number before after made (Unput h) decides told is expected so = inr (inl h.six)
exact m calls number before after made (Unwritten h) decides told is expected so = inr (inl h.six)
exact m calls number before after made (NoMemory h) decides told is expected so = inr (inr h.seven)

telling_six : (m : Meaning) (number : ℕ) (before after : State) → number ≡ 6 → FailureTold m before after → Telling m number before after
telling_six m number before after is told = record
    { silent = λ low. absurd (omega arith); hindered = λ three four. absurd (omega arith); failed = λ six. told; memory = λ seven. absurd (omega arith) }

module _ (m : Meaning) (number : ℕ) (before after : State) (e : Ends m number before after) where
  -- the calls, of which something holds
  pub acts : (Such : List Call → List PutCall → Type 0) → Such e.read e.made → Acts m.puts Such before.shelf.calls after.shelf.calls
  acts Such such = record { tried = e.tried; read = e.read; made = e.made; grown = e.grown; tries = e.tries; such = such }

  -- what is told goes with the number
  told_by : End m (seen before.shelf.files e.read) number before after e.made → Telling m number before after
  told_by (Done a) =
      let below = a.holds.low in
      let same = a.numbered in
      record {
        silent = λ low. a.silent;
        hindered = λ three four. absurd (omega arith);
        failed = λ six. absurd (omega arith);
        memory = λ seven. absurd
            (omega arith);
      }
  told_by (Stopped h) =
      let above = h.three in
      let below = h.four in
      record {
        silent = λ low. absurd (omega arith);
        hindered = λ three four. acts _ (h.line, h.let_go, h.holds, h.told);
        failed = λ six. absurd (omega arith);
        memory = λ seven. absurd (omega arith);
      }
  told_by (Unread h) = telling_six m number before after h.six (inr (h.faulted, inl (acts _ (h.none, h.name, h.read, h.told))))
  told_by (Unbegun h) = telling_six m number before after h.six (inr (h.faulted, inr (h.name, h.among, h.told)))
  told_by (Unput h) = telling_six m number before after h.six (inr (h.faulted, inr (h.name, h.among, h.told)))
  told_by (Unwritten h) = telling_six m number before after h.six (inl (h.failed, h.told))
  told_by (NoMemory h) =
      let is = h.seven in
      record {
        silent = λ low. absurd (omega arith);
        hindered = λ three four. absurd (omega arith);
        failed = λ six. absurd (omega arith);
        memory = λ seven.
            h.told;
      }

  -- no file changes but behind a publishing
  spared : End m (seen before.shelf.files e.read) number before after e.made → Spares m.puts number before.shelf after.shelf
  spared (Done a) three = let low = a.holds.low in let same = a.numbered in absurd (omega arith)
  spared (Stopped h) three = inl h.kept
  spared (Unread h) three = inl h.kept
  spared (Unbegun h) three = inl h.kept
  spared (Unput h) three = elim h.halted [ inl u ↦ inl u.0.kept | inr u ↦ inr (acts _ u.refused) ]
  spared (Unwritten h) three = inl h.unstaged.kept
  spared (NoMemory h) three = elim h.stopped [ inl u ↦ inl u.0.kept | inr u ↦ inr (acts _ u.stopped.refused) ]

-- no name stands in none
none_there : (name : List ℕ) → Contains {X = List ℕ} [] name → ⊥
none_there name among = let below = among.1 in omega arith

none_staging : (calls : List PutCall) → AreStaging [] calls → calls ≡ []
none_staging [] are = refl
none_staging (call ∷ calls) are = absurd (none_there call.name are.0.0)

none_made : (puts : List Put) (calls : List PutCall) → PutsWithin [] puts → PutWhole (map put_text puts) calls → calls ≡ []
none_made [] calls within whole = whole
none_made (put ∷ puts) calls within whole = absurd (none_there put.name within.0)

-- of a command without outputs the calls of an answer read, and no others are made
pub grew_alone : (m : Meaning) (number : ℕ) (before after : State) (e : Ends m number before after) → m.puts ≡ [] → number ≤ 2 → (Such : List Call → Type 0)
    → Such e.read → Grew Such before.shelf.calls after.shelf.calls
grew_alone m number before after e none low Such such =
    let a = answered m (seen before.shelf.files e.read) number before after e.made e.end low in
    let tried : e.tried ≡ [] = none_staging e.tried (subst (λ (names : List (List ℕ)). AreStaging names e.tried) none e.tries) in
    let made : e.made ≡ [] = none_made a.answer.puts e.made (subst (λ (names : List (List ℕ)). PutsWithin names a.answer.puts) none a.holds.within) a.whole in
    record {
      added = e.read;
      grown = e.grown ∙ ap (λ (calls : List PutCall). before.shelf.calls ++ (puts calls ++ (reads e.read ++ puts e.made))) tried
          ∙ ap (λ (calls : List PutCall). before.shelf.calls ++ (reads e.read ++ puts calls)) made
          ∙ ap (λ (events : List Event). before.shelf.calls ++ events) (append-nil (reads e.read));
      such = such;
    }

-- one file is told so
pub tells_file : (file : PutText) (calls : List PutCall) → PutWhole (file ∷ []) calls → TellsFile file.name file.text calls
tells_file file calls whole =
    let stages = whole.3 in
    record {
      pieces = stages.pieces;
      text = stages.text;
      all = whole.2 ∙ ap (λ (inner : List PutCall). whole.0 ++ (inner ++ published file.name ∷ [])) whole.4
          ∙ ap (λ (staged : List PutCall). staged ++ published file.name ∷ []) stages.all;
    }

stops_of_stages : (names : List (List ℕ)) (calls : List PutCall) → StopsPublishing names calls → AreOfStages names calls
stops_of_stages names calls s = subst (AreOfStages names) (sym s.all)
    (each_append _ s.front _ s.before ((s.named, tt), staging_of_stages names s.behind s.after))

-- what was let go leaves each file
let_go_staging : (names : List (List ℕ)) (line : List ℕ) (made : List PutCall) → LetGo names line made → AreStaging names made
let_go_staging names line made h = elim h [ inl none ↦ subst (AreStaging names) (sym none) tt | inr some ↦ some.0 ]

-- the calls that change files are of the command's outputs, whatever the end
pub made_of_stages : (m : Meaning) (view : View) (number : ℕ) (before after : State) (made : List PutCall) → End m view number before after made
    → AreOfStages m.puts made
made_of_stages m view number before after made (Done a) = of_stages_within (names_put a.answer.puts) m.puts made
    (within_puts m.puts a.answer.puts a.holds.within) (whole_of_stages a.answer.puts made a.whole)
made_of_stages m view number before after made (Stopped h) = staging_of_stages m.puts made (let_go_staging m.puts h.line made h.let_go)
made_of_stages m view number before after made (Unread h) = subst (AreOfStages m.puts) (sym h.none) tt
made_of_stages m view number before after made (Unbegun h) = staging_of_stages m.puts made h.staging
made_of_stages m view number before after made (Unput h) = elim h.halted
    [ inl u ↦ staging_of_stages m.puts made u.0.staging | inr u ↦ stops_of_stages m.puts made u.refused ]
made_of_stages m view number before after made (Unwritten h) = staging_of_stages m.puts made h.unstaged.staging
made_of_stages m view number before after made (NoMemory h) = elim h.stopped
    [ inl u ↦ staging_of_stages m.puts made u.0.staging | inr u ↦ stops_of_stages m.puts made u.stopped.refused ]

-- an answer holds, or no call changed a file
pub held_or_staged : (m : Meaning) (view : View) (number : ℕ) (before after : State) (made : List PutCall) → End m view number before after made
    → ((answer : Answer) × m.answers view answer) ⊎ AreStaging m.puts made
held_or_staged m view number before after made (Done a) = inl (a.answer, a.holds.holds)
held_or_staged m view number before after made (Stopped h) = inr (let_go_staging m.puts h.line made h.let_go)
held_or_staged m view number before after made (Unread h) = inr (subst (AreStaging m.puts) (sym h.none) tt)
held_or_staged m view number before after made (Unbegun h) = inr h.staging
held_or_staged m view number before after made (Unput h) = inl (h.answer, h.holds.holds)
held_or_staged m view number before after made (Unwritten h) = inl (h.answer, h.holds.holds)
held_or_staged m view number before after made (NoMemory h) = elim h.stopped [ inl u ↦ inr u.0.staging | inr u ↦ inl (u.answer, u.holds.holds) ]

-- with 3, 4 and 5 every file stays
pub kept_refused : (m : Meaning) (number : ℕ) (before after : State) → Ends m number before after → 3 ≤ number → number ≤ 5
    → after.shelf.files ≡ before.shelf.files
kept_refused m number before after e three five = by_number m (seen before.shelf.files e.read) number before after e.made e.end (λ low a. absurd (omega arith))
    (λ above below h. h.kept) (λ six. absurd (omega arith))

pub performs : (m : Meaning) (number : ℕ) (before after : State) → Ends m number before after → Performs m number before after
performs m number before after e = record {
  ends = e;
  quiet = quiet m (seen before.shelf.files e.read) number before after e.made e.end;
  telling = told_by m number before after e e.end;
  kept = kept m (seen before.shelf.files e.read) number before after e.made e.end;
  spared = spared m number before after e e.end;
  exact = exact m e.read number before after e.made e.end;
}
