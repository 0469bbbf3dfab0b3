-- logs of calls that change files
use Rattle.ta_shelf.proofs.ShellCommon.{◌≡◌, ◌∙◌, ℕ, List, [], ◌∷◌, ◌++◌, Result, Ok, Err, Refusal, Refused, ReadFailed, PutFailed, Memory, BeginRefuses, refl}
use Rattle.ta_shelf.proofs.ShellCommon.{sym, ap, subst, append_assoc, append-nil, ◌+◌, ◌<◌, length, take, take_more, get_or, concat, concat_more, AddsOr}
use Rattle.ta_shelf.proofs.ShellCommon.{PutFault, Contains, Contains-append_left, Contains-append_right, contains_here, each_append, each_weaker, Event}
use Rattle.ta_shelf.proofs.ShellCommon.{PutCall, Puts, puts, Changed, AreStaging, AreOfStages, LeavesFiles, IsOfStage, Stages, added, begun, Step}
use Rattle.ta_shelf.specs.declared.entry.Step.TheVariants.{Create, Append, Begin, Add, Publish, Abandon}

pub puts-append : (first later : List PutCall) → puts (first ++ later) ≡ puts first ++ puts later
puts-append [] later = refl
puts-append (call ∷ first) later = ap (λ (events : List Event). Puts call ∷ events) (puts-append first later)

-- one call
pub changed_one : (Such : List PutCall → Type 0) (before after : List Event) (call : PutCall) → after ≡ before ++ Puts call ∷ [] → Such (call ∷ [])
    → Changed Such before after
changed_one Such before after call grown such = record { made = call ∷ []; grown = grown; such = such }

-- some calls, and then others
pub changed_both : (First Second Such : List PutCall → Type 0) (before middle after : List Event) → Changed First before middle → Changed Second middle after
    → ((first second : List PutCall) → First first → Second second → Such (first ++ second)) → Changed Such before after
changed_both First Second Such before middle after one other so = record {
  made = one.made ++ other.made;
  grown = other.grown ∙ ap (λ (events : List Event). events ++ puts other.made) one.grown ∙ append_assoc before (puts one.made) (puts other.made)
      ∙ ap (λ (events : List Event). before ++ events) (sym (puts-append one.made other.made));
  such = so one.made other.made one.such other.such;
}

-- some calls, and then one
pub changed_then : (First Such : List PutCall → Type 0) (before middle after : List Event) (call : PutCall) → Changed First before middle → after ≡ middle
    ++ Puts call ∷ [] → ((first : List PutCall) → First first → Such (first ++ call ∷ [])) → Changed Such before after
changed_then First Such before middle after call one more so =
    changed_both First (λ calls. calls ≡ call ∷ []) Such before middle after one (changed_one (λ calls. calls ≡ call ∷ []) middle after call more refl)
    (λ first second such is. subst (λ (calls : List PutCall). Such (first ++ calls)) (sym is) (so first such))

-- calls of which something else holds
pub changed_weaker : (First Such : List PutCall → Type 0) (before after : List Event) → Changed First before after
    → ((calls : List PutCall) → First calls → Such calls) → Changed Such before after
changed_weaker First Such before after one so = record { made = one.made; grown = one.grown; such = so one.made one.such }

-- names that stand in more names
abbrev pub Within : List (List ℕ) → List (List ℕ) → Type 0
Within names more = (name : List ℕ) → Contains names name → Contains more name

pub within_first : (name : List ℕ) (names : List (List ℕ)) → Within (name ∷ []) (name ∷ names)
within_first name names other among = Contains-append_left (name ∷ []) names other among

pub within_later : (name : List ℕ) (names : List (List ℕ)) → Within names (name ∷ names)
within_later name names other among = Contains-append_right (name ∷ []) names other among

pub staging_within : (names more : List (List ℕ)) (calls : List PutCall) → Within names more → AreStaging names calls → AreStaging more calls
staging_within names more calls within are = each_weaker _ _ calls (λ call is. (within call.name is.0, is.1)) are

pub of_stages_within : (names more : List (List ℕ)) (calls : List PutCall) → Within names more → AreOfStages names calls → AreOfStages more calls
of_stages_within names more calls within are = each_weaker _ _ calls (λ call is. (within call.name is.0, is.1)) are

of_stage : (step : Step) → LeavesFiles step → IsOfStage step
of_stage Create leaves = leaves
of_stage Append leaves = leaves
of_stage Begin leaves = tt
of_stage Add leaves = tt
of_stage Publish leaves = absurd leaves
of_stage Abandon leaves = tt

pub staging_of_stages : (names : List (List ℕ)) (calls : List PutCall) → AreStaging names calls → AreOfStages names calls
staging_of_stages names calls are = each_weaker _ _ calls (λ call is. (is.0, of_stage call.step is.1)) are

-- calls that add are of a file in the making
pub added_staging : (name : List ℕ) (pieces : List (List ℕ)) → AreStaging (name ∷ []) (added name pieces)
added_staging name [] = tt
added_staging name (piece ∷ pieces) = ((contains_here name [], tt), added_staging name pieces)

pub stages_staging : (name bytes : List ℕ) (calls : List PutCall) → Stages name bytes calls → AreStaging (name ∷ []) calls
stages_staging name bytes calls stages = subst (AreStaging (name ∷ [])) (sym stages.all) ((contains_here name [], tt), added_staging name stages.pieces)

-- a piece more is added
pub added-append : (name : List ℕ) (first later : List (List ℕ)) → added name (first ++ later) ≡ added name first ++ added name later
added-append name [] later = refl
added-append name (piece ∷ first) later = ap (λ (calls : List PutCall). record { name = name; step = Step.Add; bytes = piece; answer = Ok tt } ∷ calls)
    (added-append name first later)

-- a name that can't be begun stands in more names
pub begin_within : (names more : List (List ℕ)) (result : Result (Unit {0}) Refusal) → Within names more → BeginRefuses names result → BeginRefuses more result
begin_within names more (Ok u) within h = tt
begin_within names more (Err (Refused number name why)) within h = h
begin_within names more (Err (ReadFailed name)) within h = h
begin_within names more (Err (PutFailed name)) within h = within name.now h
begin_within names more (Err Memory) within h = tt

-- one more piece
pub added_more : (start : List ℕ) (pieces : List (List ℕ)) (count : ℕ) (piece now after : List ℕ) → now ≡ start ++ concat (take count pieces)
    → count < length pieces → get_or pieces count piece ≡ piece → after ≡ now ++ piece → after ≡ start ++ concat (take (count + 1) pieces)
added_more start pieces count piece now after so_far below is more =
    let next : take (count + 1) pieces ≡ take count pieces ++ piece ∷ [] = take_more pieces count piece below
    ∙ ap (λ (p : List ℕ). take count pieces ++ p ∷ []) is in
    more ∙ ap (λ (bytes : List ℕ). bytes ++ piece) so_far ∙ append_assoc start (concat (take count pieces)) piece
    ∙ ap (λ (bytes : List ℕ). start ++ bytes) (sym (ap concat next ∙ concat_more (take count pieces) piece))

pub grown_more : (name : List ℕ) (pieces : List (List ℕ)) (count : ℕ) (piece : List ℕ) (before now after : List Event) → now ≡ before
    ++ puts (added name (take count pieces)) → count < length pieces → get_or pieces count piece ≡ piece → after ≡ now
    ++ Puts (record { name = name; step = Step.Add; bytes = piece; answer = Ok tt }) ∷ [] → after ≡ before ++ puts (added name (take (count + 1) pieces))
grown_more name pieces count piece before now after so_far below is more =
    let next : take (count + 1) pieces ≡ take count pieces ++ piece ∷ [] = take_more pieces count piece below
    ∙ ap (λ (p : List ℕ). take count pieces ++ p ∷ []) is in
    let call : PutCall = record { name = name; step = Step.Add; bytes = piece; answer = Ok tt } in
    more ∙ ap (λ (events : List Event). events ++ Puts call ∷ []) so_far ∙ append_assoc before (puts (added name (take count pieces))) (Puts call ∷ [])
    ∙ ap (λ (events : List Event). before ++ events)
    (sym (ap (λ (ps : List (List ℕ)). puts (added name ps)) next ∙ ap puts (added-append name (take count pieces) (piece ∷ []))
    ∙ puts-append (added name (take count pieces)) (call ∷ [])))

pub refused_adding : (name : List ℕ) (pieces : List (List ℕ)) (own bytes : List ℕ) (fault : PutFault) (before now : List Event) {after : List Event}
    → now ≡ before ++ puts (added name pieces) → own ≡ name → after ≡ now
    ++ Puts (record { name = own; step = Step.Add; bytes = bytes; answer = Err fault }) ∷ [] → Changed (AreStaging (name ∷ [])) before after
refused_adding name pieces own bytes fault before now {after} so_far is more =
    changed_then (λ calls. calls ≡ added name pieces) (AreStaging (name ∷ [])) before now after
    (record { name = own; step = Step.Add; bytes = bytes; answer = Err fault }) (record { made = added name pieces; grown = so_far; such = refl }) more
    (λ first same. each_append _ first _ (subst (AreStaging (name ∷ [])) (sym same) (added_staging name pieces))
    ((subst (Contains (name ∷ [])) (sym is) (contains_here name []), tt), tt))

-- begun, and filled
pub added_all : (name bytes : List ℕ) (before now after : List Event) → now ≡ before ++ Puts (begun name) ∷ [] → Changed (AddsOr (Ok tt) name bytes) now after
    → Changed (Stages name bytes) before after
added_all name bytes before now after first adds = record {
  made = begun name ∷ adds.made;
  grown = adds.grown ∙ ap (λ (events : List Event). events ++ puts adds.made) first ∙ append_assoc before (Puts (begun name) ∷ []) (puts adds.made);
  such = record { pieces = adds.such.0; text = adds.such.1; all = ap (λ (calls : List PutCall). begun name ∷ calls) adds.such.2 };
}

-- begun, and let go behind a refusal
pub changed_behind : (name : List ℕ) (before now then after : List Event) → now ≡ before ++ Puts (begun name) ∷ [] → Changed (AreStaging (name ∷ [])) now then
    → after ≡ then ++ Puts (record { name = name; step = Step.Abandon; bytes = []; answer = Ok tt }) ∷ [] → Changed (AreStaging (name ∷ [])) before after
changed_behind name before now then after first adds last =
    let mine = contains_here name [] in
    changed_both (AreStaging (name ∷ [])) (AreStaging (name ∷ [])) (AreStaging (name ∷ [])) before now after
    (changed_one (AreStaging (name ∷ [])) before now (begun name) first ((mine, tt), tt))
    (changed_then (AreStaging (name ∷ [])) (AreStaging (name ∷ [])) now then after _ adds last (λ calls are. each_append _ calls _ are ((mine, tt), tt)))
    (λ one other are are'. each_append _ one other are are')
