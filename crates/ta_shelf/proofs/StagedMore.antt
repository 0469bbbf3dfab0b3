-- a file that is staged while its bytes are made
use Rattle.ta_shelf.proofs.Common.{Bytes}
use Rattle.ta_shelf.proofs.ShellCommon.{◌≡◌, ◌∙◌, ◌+◌, ◌<◌, Bor, inr, ℕ, List, [], ◌∷◌, ◌++◌, Option, Some, None, Ok, Err, refl, sym, ap, subst, arith, length}
use Rattle.ta_shelf.proofs.ShellCommon.{length-append, concat, concat_more, contains_here, each_append, IfSome, Event, PutCall, Puts, Changed, AreStaging}
use Rattle.ta_shelf.proofs.ShellCommon.{Stages, added, begun, Step, PutFault, Faulted, Contains, Told, LostByFault, CERTIFICATE_BYTES, Refusal, Refused}
use Rattle.ta_shelf.proofs.ShellCommon.{ReadFailed, PutFailed, Memory, SaysLong, SettlesFile, StagedBy, IsOutputOf, OutputStaged, StagedOutput, Unasked, Staged}
use Rattle.ta_shelf.proofs.ShellCommon.{Lost, output_puts, ShelfState, StagedFile, Begun, IsStagedBy, LeavesRoom, StagedInPart, StagedSoFar}
use Rattle.ta_shelf.proofs.OutputCalls.{added-append, changed_then, changed_weaker, stages_staging}

-- the call that adds bytes, and all are taken
abbrev add_call : List ℕ → List ℕ → PutCall
add_call name bytes = record { name = name; step = Step.Add; bytes = bytes; answer = Ok tt }

-- a staged file with bytes more
pub stages_more : (name text more : List ℕ) (made : List PutCall) → Stages name text made → Stages name (text ++ more) (made ++ add_call name more ∷ [])
stages_more name text more made s = record {
  pieces = s.pieces ++ more ∷ [];
  text = ap (λ (bytes : List ℕ). bytes ++ more) s.text ∙ sym (concat_more s.pieces more);
  all = ap (λ (calls : List PutCall). calls ++ add_call name more ∷ []) s.all
      ∙ ap (λ (calls : List PutCall). begun name ∷ calls) (sym (added-append name s.pieces (more ∷ [])));
}

module _ {T : Type 0} (named bytes : T → List ℕ) where
  staging_by : (name : List ℕ) (stage : Option T) (room : Option ℕ) (text : List ℕ) (made : List PutCall) → IsStagedBy named bytes name stage room text made
      → AreStaging (name ∷ []) made
  staging_by name None room text made is = is
  staging_by name (Some s) None text made is = is.1
  staging_by name (Some s) (Some r) text made is = stages_staging name text made is.2

  named_by : (name : List ℕ) (stage : Option T) (room : Option ℕ) (text : List ℕ) (made : List PutCall) → IsStagedBy named bytes name stage room text made
      → IfSome stage (λ s. named s ≡ name)
  named_by name None room text made is = tt
  named_by name (Some s) None text made is = is.0
  named_by name (Some s) (Some r) text made is = is.0

  outgrown_by : (name : List ℕ) (stage : Option T) (room : Option ℕ) (text other : List ℕ) (made : List PutCall)
      → IsStagedBy named bytes name stage room text made → IsStagedBy named bytes name stage None other made
  outgrown_by name None room text other made is = is
  outgrown_by name (Some s) None text other made is = is
  outgrown_by name (Some s) (Some r) text other made is = (is.0, stages_staging name text made is.2)

  taken_by : (name : List ℕ) (old new : T) (room : Option ℕ) (left : ℕ) (text more : List ℕ) (made : List PutCall) → LeavesRoom room text
      → LeavesRoom (Some left) (text ++ more) → named new ≡ named old → bytes new ≡ bytes old ++ more → IsStagedBy named bytes name (Some old) room text made
      → IsStagedBy named bytes name (Some new) (Some left) (text ++ more) (made ++ add_call (named old) more ∷ [])
  taken_by name old new None left text more made before now same holds is =
      let size = length-append text more in
      absurd (omega (arith, before, now, size))
  taken_by name old new (Some room) left text more made before now same holds is = (
    same ∙ is.0,
    holds ∙ ap (λ (t : List ℕ). t ++ more) is.1,
    subst (λ (n : List ℕ). Stages name (text ++ more) (made ++ add_call n more ∷ [])) (sym is.0) (stages_more name text more made is.2),
  )

  -- there are too many bytes
  pub outgrown : (begun : Begun) (file : StagedFile T) (shelf : ShelfState) (text more : List ℕ) → LeavesRoom None (text ++ more)
      → StagedSoFar named bytes begun file shelf text → StagedSoFar named bytes begun (record { stage = file.stage; room = None }) shelf (text ++ more)
  outgrown begun file shelf text more out h = record {
    log = changed_weaker (IsStagedBy named bytes begun.name file.stage file.room text) (IsStagedBy named bytes begun.name file.stage None (text ++ more))
        begun.before.calls shelf.calls h.log (λ made is. outgrown_by begun.name file.stage file.room text (text ++ more) made is);
    room = out;
    cause = h.cause;
    kept = h.kept;
  }

  -- what a stage took, once it is known that there is one
  module _ (begun : Begun) (file : StagedFile T) (old : T) (is : file.stage ≡ Some old) (before : ShelfState) (text : List ℕ)
      (h : StagedSoFar named bytes begun file before text) where
    log_of : Changed (IsStagedBy named bytes begun.name (Some old) file.room text) begun.before.calls before.calls
    log_of = subst (λ (o : Option T). Changed (IsStagedBy named bytes begun.name o file.room text) begun.before.calls before.calls) is h.log

    calm : before.faults ≡ begun.before.faults
    calm = subst (λ (o : Option T). LostByFault o begun.before.faults before.faults) is h.cause

    named_as : named old ≡ begun.name
    named_as = named_by begun.name (Some old) file.room text log_of.made log_of.such

    -- the bytes are taken
    pub taken : (new : T) (left : ℕ) (more : List ℕ) (calls : List Event) (faults : ℕ) (files : Option Told) → LeavesRoom (Some left) (text ++ more)
        → named new ≡ named old → bytes new ≡ bytes old ++ more → calls ≡ before.calls ++ Puts (add_call (named old) more) ∷ [] → faults ≡ before.faults
        → files ≡ before.files → StagedSoFar named bytes begun (record { stage = Some new; room = Some left })
        (record { files = files; calls = calls; faults = faults }) (text ++ more)
    taken new left more calls faults files room same holds grown quiet kept = record {
      log = changed_then (IsStagedBy named bytes begun.name (Some old) file.room text) (IsStagedBy named bytes begun.name (Some new) (Some left) (text ++ more))
          begun.before.calls before.calls calls (add_call (named old) more) log_of grown
          (λ made by. taken_by begun.name old new file.room left text more made h.room room same holds by);
      room = room;
      cause = quiet ∙ calm;
      kept = kept ∙ h.kept;
    }

    refused : (fault : PutFault) (more : List ℕ) (calls : List Event) → calls ≡ before.calls
        ++ Puts (record { name = named old; step = Step.Add; bytes = more; answer = Err fault }) ∷ []
        → Changed (AreStaging (begun.name ∷ [])) begun.before.calls calls
    refused fault more calls grown =
        changed_then (IsStagedBy named bytes begun.name (Some old) file.room text) (AreStaging (begun.name ∷ [])) begun.before.calls before.calls calls _ log_of
        grown
        (λ made by. each_append _ made _ (staging_by begun.name (Some old) file.room text made by)
        ((subst (Contains (begun.name ∷ [])) (sym named_as) (contains_here begun.name []), tt), tt))

    -- the shelf failed, and what was staged is let go
    pub lost : (room : Option ℕ) (more : List ℕ) (fault : PutFault) (middle last : List Event) (faults : ℕ) (files : Option Told)
        → LeavesRoom room (text ++ more) → middle ≡ before.calls ++ Puts (record { name = named old; step = Step.Add; bytes = more; answer = Err fault }) ∷ []
        → (gone : List ℕ) → gone ≡ named old → last ≡ middle ++ Puts (record { name = gone; step = Step.Abandon; bytes = []; answer = Ok tt }) ∷ []
        → Faulted before.faults faults → files ≡ before.files
        → StagedSoFar named bytes begun (record { stage = None; room = room }) (record { files = files; calls = last; faults = faults }) (text ++ more)
    lost room more fault middle last faults files leaves one gone same two faulted kept = record {
      log = changed_then (AreStaging (begun.name ∷ [])) (AreStaging (begun.name ∷ [])) begun.before.calls middle last _ (refused fault more middle one) two
          (λ made are. each_append _ made _ are ((subst (Contains (begun.name ∷ [])) (sym (same ∙ named_as)) (contains_here begun.name []), tt), tt));
      room = leaves;
      cause = subst (λ (n : ℕ). Faulted n faults) calm faulted;
      kept = kept ∙ h.kept;
    }

    -- memory ran out
    pub stopped : (new : T) (room : Option ℕ) (more : List ℕ) (fault : PutFault) (calls : List Event) (faults : ℕ) (files : Option Told) → named new ≡ named old
        → calls ≡ before.calls ++ Puts (record { name = named old; step = Step.Add; bytes = more; answer = Err fault }) ∷ [] → faults ≡ before.faults
        → files ≡ before.files → StagedInPart named begun (record { stage = Some new; room = room }) (record { files = files; calls = calls; faults = faults })
    stopped new room more fault calls faults files same grown quiet kept = record
        { log = refused fault more calls grown; named = same ∙ named_as; cause = quiet ∙ calm; kept = kept ∙ h.kept }

  -- what is staged so far is staged in part
  pub in_part : (begun : Begun) (file : StagedFile T) (shelf : ShelfState) (text : List ℕ) → StagedSoFar named bytes begun file shelf text
      → StagedInPart named begun file shelf
  in_part begun file shelf text h = record {
    log = changed_weaker (IsStagedBy named bytes begun.name file.stage file.room text) (AreStaging (begun.name ∷ [])) begun.before.calls shelf.calls h.log
        (λ made by. staging_by begun.name file.stage file.room text made by);
    named = named_by begun.name file.stage file.room text h.log.made h.log.such;
    cause = h.cause;
    kept = h.kept;
  }

  -- the output of a file that is whole
  puts_whole : (name : List ℕ) (begun : List ℕ) (stage : Option T) (output : StagedOutput T) (left : ℕ) (written : List ℕ) (made : List PutCall)
      → IsOutputOf name stage output → IsStagedBy named bytes begun stage (Some left) written made
      → output_puts bytes output written ≡ record { name = name; content = Bytes written } ∷ []
  puts_whole name begun None Unasked left written made is by = absurd is
  puts_whole name begun None (Staged who s) left written made is by = absurd is
  puts_whole name begun None (Lost who) left written made is by = λ i. record { name = is i; content = Bytes written } ∷ []
  puts_whole name begun (Some took) Unasked left written made is by = absurd is
  puts_whole name begun (Some took) (Staged who s) left written made is by =
      let holds : bytes s ≡ written = ap bytes is.1 ∙ by.1 in
      let called : who.now ≡ name = is.0 in
      λ i. record { name = called i; content = Bytes (holds i) } ∷ []
  puts_whole name begun (Some took) (Lost who) left written made is by = absurd is

  staged_whole : (name : List ℕ) (stage : Option T) (output : StagedOutput T) (left : ℕ) (written : List ℕ) (made : List PutCall) (before after : ℕ)
      → IsOutputOf name stage output → LostByFault stage before after → IsStagedBy named bytes name stage (Some left) written made
      → OutputStaged named bytes output before after made
  staged_whole name None Unasked left written made before after is lost by = absurd is
  staged_whole name None (Staged who s) left written made before after is lost by = absurd is
  staged_whole name None (Lost who) left written made before after is lost by = (subst (λ (n : List ℕ). AreStaging (n ∷ []) made) (sym is) by, lost)
  staged_whole name (Some took) Unasked left written made before after is lost by = absurd is
  staged_whole name (Some took) (Staged who s) left written made before after is lost by =
      let called : who.now ≡ name = is.0 in
      let same : s ≡ took = is.1 in (
        ap named same ∙ by.0 ∙ sym called,
        subst (λ (n : List ℕ). Stages n (bytes s) made) (sym called) (subst (λ (t : List ℕ). Stages name t made) (sym (ap bytes same ∙ by.1)) by.2),
        lost,
      )
  staged_whole name (Some took) (Lost who) left written made before after is lost by = absurd is

  module _ (begun : Begun) (file : StagedFile T) (shelf : ShelfState) (written : List ℕ) (h : StagedSoFar named bytes begun file shelf written) where
    room_of : (room : Option ℕ) → file.room ≡ room → LeavesRoom room written
    room_of room is = subst (λ (r : Option ℕ). LeavesRoom r written) is h.room

    by_room : (room : Option ℕ) → file.room ≡ room → IsStagedBy named bytes begun.name file.stage room written h.log.made
    by_room room is = subst (λ (r : Option ℕ). IsStagedBy named bytes begun.name file.stage r written h.log.made) is h.log.such

    -- a file within its limit is put
    pub settles_whole : (number : ℕ) (text : List ℕ) (name : List ℕ) (output : StagedOutput T) (left : ℕ) → file.room ≡ Some left
        → IsOutputOf name file.stage output → SettlesFile bytes number text name written (Ok (record { number = number; text = text; output = output }))
    settles_whole number text name output left is out =
        let fits = room_of (Some left) is in
        (refl, refl, puts_whole name begun.name file.stage output left written h.log.made out (by_room (Some left) is), omega (arith, fits))

    pub log_whole : (outs : List (List ℕ)) (number : ℕ) (text : List ℕ) (name : List ℕ) (output : StagedOutput T) (left : ℕ) → begun.name ≡ name
        → file.room ≡ Some left → IsOutputOf name file.stage output
        → Changed (StagedBy outs named bytes (Ok (record { number = number; text = text; output = output })) begun.before.faults shelf.faults)
        begun.before.calls shelf.calls
    log_whole outs number text name output left called is out = record {
      made = h.log.made;
      grown = h.log.grown;
      such = staged_whole name file.stage output left written h.log.made begun.before.faults shelf.faults out h.cause
          (subst (λ (n : List ℕ). IsStagedBy named bytes n file.stage (Some left) written h.log.made) called (by_room (Some left) is));
    }

    -- one that is too long is not
    pub too_long : file.room ≡ None → CERTIFICATE_BYTES < length written
    too_long is = room_of None is

  -- what a refusal says that a certificate is too long
  pub settles_long : (number : ℕ) (text name written : List ℕ) (refusal : Refusal) → SaysLong name refusal → CERTIFICATE_BYTES < length written
      → SettlesFile {T = T} bytes number text name written (Err refusal)
  settles_long number text name written (Refused n who why) says longer = (says, longer)
  settles_long number text name written (ReadFailed who) says longer = absurd says
  settles_long number text name written (PutFailed who) says longer = absurd says
  settles_long number text name written Memory says longer = absurd says

  long_by : (name : List ℕ) (refusal : Refusal) (before after : ℕ) (made : List PutCall) → SaysLong name refusal → after ≡ before → AreStaging (name ∷ []) made
      → StagedBy {T = T} (name ∷ []) named bytes (Err refusal) before after made
  long_by name (Refused n who why) before after made says quiet are = (inr (are, name, contains_here name [], says.1), quiet)
  long_by name (ReadFailed who) before after made says quiet are = absurd says
  long_by name (PutFailed who) before after made says quiet are = absurd says
  long_by name Memory before after made says quiet are = absurd says

  -- a file that is begun is let go, where there is one
  module _ (begun : Begun) (file : StagedFile T) (before : ShelfState) (h : StagedInPart named begun file before) (name : List ℕ) (called : begun.name ≡ name)
    where
      part_log : Changed (AreStaging (name ∷ [])) begun.before.calls before.calls
      part_log = subst (λ (n : List ℕ). Changed (AreStaging (n ∷ [])) begun.before.calls before.calls) called h.log

      gone_log : (stage : T) → file.stage ≡ Some stage → (calls : List Event) → calls ≡ before.calls
          ++ Puts (record { name = named stage; step = Step.Abandon; bytes = []; answer = Ok tt }) ∷ []
          → Changed (AreStaging (name ∷ [])) begun.before.calls calls
      gone_log stage is calls grown =
          let mine : named stage ≡ begun.name = subst (λ (o : Option T). IfSome o (λ s. named s ≡ begun.name)) is h.named in
          changed_then (AreStaging (name ∷ [])) (AreStaging (name ∷ [])) begun.before.calls before.calls calls _ part_log grown
          (λ made are. each_append _ made _ are ((subst (Contains (name ∷ [])) (sym (mine ∙ called)) (contains_here name []), tt), tt))

      calm_of : (stage : T) → file.stage ≡ Some stage → before.faults ≡ begun.before.faults
      calm_of stage is = subst (λ (o : Option T). LostByFault o begun.before.faults before.faults) is h.cause

      pub log_gone : (stage : T) → file.stage ≡ Some stage → (calls : List Event) (faults : ℕ) → calls ≡ before.calls
          ++ Puts (record { name = named stage; step = Step.Abandon; bytes = []; answer = Ok tt }) ∷ [] → faults ≡ before.faults
          → Changed (StagedBy {T = T} (name ∷ []) named bytes (Err Memory) begun.before.faults faults) begun.before.calls calls
      log_gone stage is calls faults grown quiet =
          changed_weaker (AreStaging (name ∷ [])) (StagedBy {T = T} (name ∷ []) named bytes (Err Memory) begun.before.faults faults) begun.before.calls calls
          (gone_log stage is calls grown)
          (λ made are. (are, quiet ∙ calm_of stage is))

      pub log_long : (stage : T) → file.stage ≡ Some stage → (refusal : Refusal) → SaysLong name refusal → (calls : List Event) (faults : ℕ)
          → calls ≡ before.calls ++ Puts (record { name = named stage; step = Step.Abandon; bytes = []; answer = Ok tt }) ∷ [] → faults ≡ before.faults
          → Changed (StagedBy {T = T} (name ∷ []) named bytes (Err refusal) begun.before.faults faults) begun.before.calls calls
      log_long stage is refusal says calls faults grown quiet =
          changed_weaker (AreStaging (name ∷ [])) (StagedBy {T = T} (name ∷ []) named bytes (Err refusal) begun.before.faults faults) begun.before.calls calls
          (gone_log stage is calls grown)
          (λ made are. long_by name refusal begun.before.faults faults made says (quiet ∙ calm_of stage is) are)

      pub log_lost : file.stage ≡ None → (who : Bor (List ℕ)) → who.now ≡ name
          → Changed (StagedBy {T = T} (name ∷ []) named bytes (Err (PutFailed who)) begun.before.faults before.faults) begun.before.calls before.calls
      log_lost is who same =
          let faulted : Faulted begun.before.faults before.faults = subst (λ (o : Option T). LostByFault o begun.before.faults before.faults) is h.cause in
          changed_weaker (AreStaging (name ∷ [])) (StagedBy {T = T} (name ∷ []) named bytes (Err (PutFailed who)) begun.before.faults before.faults)
          begun.before.calls before.calls part_log
          (λ made are. (subst (Contains (name ∷ [])) (sym same) (contains_here name []), are, faulted))
