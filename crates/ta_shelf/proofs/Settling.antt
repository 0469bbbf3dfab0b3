-- files of an answer, one around the other
use Rattle.ta_shelf.proofs.Common.{take-length}
use Rattle.ta_shelf.proofs.ShellCommon.{◌≡◌, ◌∙◌, ◌⊎◌, ℕ, List, [], ◌∷◌, ◌++◌, Option, Result, Ok, Err, refl, sym, ap, subst, inl, inr, append_assoc, Bor}
use Rattle.ta_shelf.proofs.ShellCommon.{Changed, Event, Puts, puts, Contains, contains_here, each_append, PutCall, Told, Put, map, names_put, put_bytes}
use Rattle.ta_shelf.proofs.ShellCommon.{put_text, AreOfStages, AreStaging, PutWhole, StopsPublishing, Stages, published, Step, Halt, length, arith, with_text}
use Rattle.ta_shelf.proofs.ShellCommon.{SinkState, Tells, Unpublished, Unstaged, PublishRefused, PublishesOne, Settled, WritesText}
use Rattle.ta_shelf.proofs.OutputCalls.{of_stages_within, puts-append, stages_staging, staging_of_stages, staging_within, within_first, within_later}
use Rattle.ta_shelf.specs.declared.putting.Halt.TheVariants as halt

-- the call that lets a file go
abbrev pub let_go : List ℕ → PutCall
let_go name = record { name = name; step = Step.Abandon; bytes = []; answer = Ok tt }

-- calls that put files whole are of their stages
pub whole_of_stages : (puts : List Put) (calls : List PutCall) → PutWhole (map put_text puts) calls → AreOfStages (names_put puts) calls
whole_of_stages [] calls whole = subst (AreOfStages []) (sym whole) tt
whole_of_stages (put ∷ puts) calls whole =
    let names = names_put (put ∷ puts) in
    let first = of_stages_within (put.name ∷ []) names whole.0 (within_first put.name (names_put puts))
    (staging_of_stages (put.name ∷ []) whole.0 (stages_staging put.name (put_bytes put) whole.0 whole.3)) in
    let inner = of_stages_within (names_put puts) names whole.1 (within_later put.name (names_put puts)) (whole_of_stages puts whole.1 whole.4) in
    let last : AreOfStages names (published put.name ∷ []) = ((contains_here put.name (names_put puts), tt), tt) in
    subst (AreOfStages names) (sym whole.2)
    (each_append _ whole.0 (whole.1 ++ published put.name ∷ []) first (each_append _ whole.1 (published put.name ∷ []) inner last))

module _ (put : Put) (puts : List Put) (text : List ℕ) (files : Option Told) (out out' : SinkState) (staged : List PutCall) where
  abbrev names : List (List ℕ)
  names = names_put (put ∷ puts)

  here : Contains names put.name
  here = contains_here put.name (names_put puts)

  module _ (stages : AreStaging (put.name ∷ []) staged) where
    first_staging : AreStaging names staged
    first_staging = staging_within (put.name ∷ []) names staged (within_first put.name (names_put puts)) stages

    first_of_stages : AreOfStages names staged
    first_of_stages = staging_of_stages names staged first_staging

    -- a refused publishing behind all others
    refused_last : (inner last : List PutCall) (middle after : Option Told) → AreOfStages (names_put puts) inner
        → PublishRefused put.name (put_bytes put) middle after last → StopsPublishing names (staged ++ (inner ++ last))
    refused_last inner last middle after whole r = record {
      front = staged ++ inner;
      name = put.name;
      why = r.why;
      behind = [];
      all = ap (λ (calls : List PutCall). staged ++ (inner ++ calls)) r.call ∙ sym (append_assoc staged inner _);
      named = here;
      before = each_append _ staged inner first_of_stages (of_stages_within (names_put puts) names inner (within_later put.name (names_put puts)) whole);
      after = tt;
    }

    -- what was let go behind a refusal within
    inner_staging : (inner : List PutCall) → AreStaging (names_put puts) inner → AreStaging names (staged ++ (inner ++ let_go put.name ∷ []))
    inner_staging inner are = each_append _ staged (inner ++ let_go put.name ∷ []) first_staging
        (each_append _ inner (let_go put.name ∷ []) (staging_within (names_put puts) names inner (within_later put.name (names_put puts)) are) ((here, tt), tt))

    unstaged_around : (inner : List PutCall) (after : Option Told) → Unstaged (names_put puts) files after inner
        → Unstaged names files after (staged ++ (inner ++ let_go put.name ∷ []))
    unstaged_around inner after u = record { kept = u.kept; staging = inner_staging inner u.staging }

    stops_around : (inner : List PutCall) → StopsPublishing (names_put puts) inner → StopsPublishing names (staged ++ (inner ++ let_go put.name ∷ []))
    stops_around inner s =
        let later = within_later put.name (names_put puts) in
        let call : PutCall = record { name = s.name; step = Step.Publish; bytes = []; answer = Err s.why } in
        record {
          front = staged ++ s.front;
          name = s.name;
          why = s.why;
          behind = s.behind ++ let_go put.name ∷ [];
          all = ap (λ (calls : List PutCall). staged ++ (calls ++ let_go put.name ∷ [])) s.all
              ∙ ap (λ (calls : List PutCall). staged ++ calls) (append_assoc s.front (call ∷ s.behind) (let_go put.name ∷ []))
              ∙ sym (append_assoc staged s.front _);
          named = later s.name s.named;
          before = each_append _ staged s.front first_of_stages (of_stages_within (names_put puts) names s.front later s.before);
          after = each_append _ s.behind (let_go put.name ∷ []) (staging_within (names_put puts) names s.behind later s.after) ((here, tt), tt);
        }

    unpublished_around : (name : List ℕ) (inner : List PutCall) (after : Option Told) → Unpublished (names_put puts) puts name text files after out out' inner
        → Unpublished names (put ∷ puts) name text files after out out' (staged ++ (inner ++ let_go put.name ∷ []))
    unpublished_around name inner after u = record { stopped = inl u.stopped; refused = stops_around inner u.refused; written = u.written; calm = u.calm }

    -- what halts within halts around
    pub halts_around : (found : Halt) (inner : List PutCall) (after : Option Told) → Settled puts text (Err found) files after out out' inner
        → Settled (put ∷ puts) text (Err found) files after out out' (staged ++ (inner ++ let_go put.name ∷ []))
    halts_around halt.Unwritten inner after h = (unstaged_around inner after h.0, h.1, h.2)
    halts_around (halt.Unput name) inner after h = (
      within_later put.name (names_put puts) name.now h.0,
      elim h.1
          [ inl u ↦ inl (unstaged_around inner after u.0, u.1) | inr u ↦ inr (unpublished_around name.now inner after u) ],
    )
    halts_around halt.Memory inner after h =
        elim h [ inl u ↦ inl (unstaged_around inner after u.0, u.1) | inr u ↦ inr (u.0, unpublished_around u.0 inner after u.1) ]

    -- the file can't be made
    pub not_staged : (name : List ℕ) → name ≡ put.name → Tells text out out' → Contains names name
        × ((Unstaged names files files staged × Tells text out out') ⊎ Unpublished names (put ∷ puts) name text files files out out' staged)
    not_staged name is told = (subst (Contains names) (sym is) here, inl (record { kept = refl; staging = first_staging }, told))

    pub no_memory : (out' ≡ out) → Settled (put ∷ puts) text (Err halt.Memory) files files out out' staged
    no_memory same = inl (record { kept = refl; staging = first_staging }, same)

  module _ (stages : Stages put.name (put_bytes put) staged) where
    unpublished_last : (name : List ℕ) (inner last : List PutCall) (middle after : Option Told) → put.name ≡ name
        → Settled puts text (Ok tt) files middle out out' inner → PublishRefused put.name (put_bytes put) middle after last
        → Unpublished names (put ∷ puts) name text files after out out' (staged ++ (inner ++ last))
    unpublished_last name inner last middle after is inside r = record {
      stopped = inr (middle, inside.0, is, r.held);
      refused = refused_last (stages_staging put.name (put_bytes put) staged stages) inner last middle after (whole_of_stages puts inner inside.1) r;
      written = inside.2;
      calm = inside.3;
    }

    -- the others stand, and it is published
    pub publishes_around : (result : Result (Unit {0}) Halt) (inner last : List PutCall) (middle after : Option Told)
        → Settled puts text (Ok tt) files middle out out' inner → PublishesOne result put.name (put_bytes put) middle after last
        → Settled (put ∷ puts) text result files after out out' (staged ++ (inner ++ last))
    publishes_around (Ok u) inner last middle after inside p =
        ((middle, inside.0, p.0), (staged, inner, ap (λ (calls : List PutCall). staged ++ (inner ++ calls)) p.1, stages, inside.1), inside.2, inside.3)
    publishes_around (Err halt.Unwritten) inner last middle after inside p = absurd p
    publishes_around (Err (halt.Unput who)) inner last middle after inside p =
        (subst (Contains names) (sym p.0) here, inr (unpublished_last who.now inner last middle after (sym p.0) inside p.1))
    publishes_around (Err halt.Memory) inner last middle after inside p = inr (put.name, unpublished_last put.name inner last middle after refl inside p)

-- what writing a text answers says how much of it was written
pub tells_text : (result : Result (Unit {0}) Halt) (text : List ℕ) (out out' : SinkState) → WritesText result text out out' → Tells text out out'
tells_text (Ok u) text out out' w = written_whole text out out' w.0
  where
    written_whole : (text : List ℕ) (out out' : SinkState) → out'.written ≡ with_text out.written text → Tells text out out'
    written_whole text out out' w = record
        { begun = record { count = length text; within = omega arith; added = w ∙ ap (with_text out.written) (sym (take-length text)) }; whole = inl w }
tells_text (Err halt.Unwritten) text out out' w = record { begun = w.0; whole = inr w.1 }
tells_text (Err (halt.Unput name)) text out out' w = absurd w
tells_text (Err halt.Memory) text out out' w = absurd w

-- the same over a log
grown_three : (first second third fourth : List Event) (a b c : List PutCall) → second ≡ first ++ puts a → third ≡ second ++ puts b → fourth ≡ third ++ puts c
    → fourth ≡ first ++ puts (a ++ (b ++ c))
grown_three first second third fourth a b c one two three =
    three ∙ ap (λ (events : List Event). events ++ puts c) (two ∙ ap (λ (events : List Event). events ++ puts b) one)
    ∙ ap (λ (events : List Event). events ++ puts c) (append_assoc first (puts a) (puts b)) ∙ append_assoc first (puts a ++ puts b) (puts c)
    ∙ ap (λ (events : List Event). first ++ events)
    (append_assoc (puts a) (puts b) (puts c) ∙ ap (λ (events : List Event). puts a ++ events) (sym (puts-append b c)) ∙ sym (puts-append a (b ++ c)))

pub log_published : (put : Put) (puts' : List Put) (text : List ℕ) (result : Result (Unit {0}) Halt) (files middle after : Option Told) (out out' : SinkState)
    (first second third fourth : List Event) → Changed (Stages put.name (put_bytes put)) first second
    → Changed (Settled puts' text (Ok tt) files middle out out') second third → Changed (PublishesOne result put.name (put_bytes put) middle after) third fourth
    → Changed (Settled (put ∷ puts') text result files after out out') first fourth
log_published put puts' text result files middle after out out' first second third fourth one two three = record {
  made = one.made ++ (two.made ++ three.made);
  grown = grown_three first second third fourth one.made two.made three.made one.grown two.grown three.grown;
  such = publishes_around put puts' text files out out' one.made one.such result two.made three.made middle after two.such three.such;
}

pub log_halted : (put : Put) (puts' : List Put) (text : List ℕ) (found : Halt) (files after : Option Told) (out out' : SinkState)
    (first second third fourth : List Event) → Changed (Stages put.name (put_bytes put)) first second
    → Changed (Settled puts' text (Err found) files after out out') second third → fourth ≡ third ++ Puts (let_go put.name) ∷ []
    → Changed (Settled (put ∷ puts') text (Err found) files after out out') first fourth
log_halted put puts' text found files after out out' first second third fourth one two three = record {
  made = one.made ++ (two.made ++ let_go put.name ∷ []);
  grown = grown_three first second third fourth one.made two.made (let_go put.name ∷ []) one.grown two.grown three;
  such = halts_around put puts' text files out out' one.made (stages_staging put.name (put_bytes put) one.made one.such) found two.made after two.such;
}

pub log_unstaged : (put : Put) (puts' : List Put) (text : List ℕ) (who : Bor (List ℕ)) (result : Result (Unit {0}) Halt) (files : Option Told)
    (out out' : SinkState) (first second : List Event) → who.now ≡ put.name → Changed (AreStaging (put.name ∷ [])) first second
    → WritesText result text out out' → Changed (Settled (put ∷ puts') text (Err (halt.Unput who)) files files out out') first second
log_unstaged put puts' text who result files out out' first second is one wrote = record {
  made = one.made;
  grown = one.grown;
  such = not_staged put puts' text files out out' one.made one.such who.now is (tells_text result text out out' wrote);
}

pub log_unmade : (put : Put) (puts' : List Put) (text : List ℕ) (files : Option Told) (out : SinkState) (first second : List Event)
    → Changed (AreStaging (put.name ∷ [])) first second → Changed (Settled (put ∷ puts') text (Err halt.Memory) files files out out) first second
log_unmade put puts' text files out first second one = record
    { made = one.made; grown = one.grown; such = no_memory put puts' text files out out one.made one.such refl }

-- the same of a list that isn't empty, and of what its calls answer
pub all_published : (whole : List Put) (put : Put) (puts' : List Put) (text name bytes : List ℕ) (result : Result (Unit {0}) Halt)
    (files begun middle after : Option Told) (out out' : SinkState) (first second third fourth : List Event) → whole ≡ put ∷ puts' → begun ≡ files
    → name ≡ put.name → bytes ≡ put_bytes put → Changed (Stages put.name (put_bytes put)) first second
    → Changed (Settled puts' text (Ok tt) begun middle out out') second third → Changed (PublishesOne result name bytes middle after) third fourth
    → Changed (Settled whole text result files after out out') first fourth
all_published whole put puts' text name bytes result files begun middle after out out' first second third fourth is kept named own one two three =
    let settled = subst (λ (f : Option Told). Changed (Settled puts' text (Ok tt) f middle out out') second third) kept two in
    let called = subst (λ (n : List ℕ). Changed (PublishesOne result n bytes middle after) third fourth) named three in
    let ours = subst (λ (b : List ℕ). Changed (PublishesOne result put.name b middle after) third fourth) own called in
    subst (λ (p : List Put). Changed (Settled p text result files after out out') first fourth) (sym is)
    (log_published put puts' text result files middle after out out' first second third fourth one settled ours)

pub all_halted : (whole : List Put) (put : Put) (puts' : List Put) (text name : List ℕ) (found : Halt) (files begun middle after : Option Told)
    (out out' : SinkState) (first second third fourth : List Event) → whole ≡ put ∷ puts' → begun ≡ files → after ≡ middle → name ≡ put.name
    → Changed (Stages put.name (put_bytes put)) first second → Changed (Settled puts' text (Err found) begun middle out out') second third
    → fourth ≡ third ++ Puts (record { name = name; step = Step.Abandon; bytes = []; answer = Ok tt }) ∷ []
    → Changed (Settled whole text (Err found) files after out out') first fourth
all_halted whole put puts' text name found files begun middle after out out' first second third fourth is kept same named one two three =
    let settled = subst (λ (f : Option Told). Changed (Settled puts' text (Err found) f middle out out') second third) kept two in
    let gone = subst (λ (n : List ℕ). fourth ≡ third ++ Puts (let_go n) ∷ []) named three in
    let there = subst (λ (f : Option Told). Changed (Settled puts' text (Err found) files f out out') second third) (sym same) settled in
    subst (λ (p : List Put). Changed (Settled p text (Err found) files after out out') first fourth) (sym is)
    (log_halted put puts' text found files after out out' first second third fourth one there gone)

pub all_unstaged : (whole : List Put) (put : Put) (puts' : List Put) (text : List ℕ) (who : Bor (List ℕ)) (result : Result (Unit {0}) Halt)
    (files after : Option Told) (out out' : SinkState) (first second : List Event) → whole ≡ put ∷ puts' → after ≡ files → who.now ≡ put.name
    → Changed (AreStaging (put.name ∷ [])) first second → WritesText result text out out'
    → Changed (Settled whole text (Err (halt.Unput who)) files after out out') first second
all_unstaged whole put puts' text who result files after out out' first second is kept named one wrote =
    let there = subst (λ (f : Option Told). Changed (Settled (put ∷ puts') text (Err (halt.Unput who)) files f out out') first second) (sym kept)
    (log_unstaged put puts' text who result files out out' first second named one wrote) in
    subst (λ (p : List Put). Changed (Settled p text (Err (halt.Unput who)) files after out out') first second) (sym is) there

pub all_unmade : (whole : List Put) (put : Put) (puts' : List Put) (text : List ℕ) (files after : Option Told) (out : SinkState) (first second : List Event)
    → whole ≡ put ∷ puts' → after ≡ files → Changed (AreStaging (put.name ∷ [])) first second
    → Changed (Settled whole text (Err halt.Memory) files after out out) first second
all_unmade whole put puts' text files after out first second is kept one =
    let there = subst (λ (f : Option Told). Changed (Settled (put ∷ puts') text (Err halt.Memory) files f out out) first second) (sym kept)
    (log_unmade put puts' text files out first second one) in
    subst (λ (p : List Put). Changed (Settled p text (Err halt.Memory) files after out out) first second) (sym is) there
