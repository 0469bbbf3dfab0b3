-- commands that read one file after the other
use Rattle.ta_shelf.proofs.ShellCommon.{◌≡◌, ◌∙◌, ◌≤◌, ◌⊎◌, Bor, List, [], ◌++◌, ℕ, Option, Some, Result, Ok, Err, refl, sym, ap, subst, inl, inr, append_assoc}
use Rattle.ta_shelf.proofs.ShellCommon.{take, append-nil, Call, Event, Grew, reads, Told, Answer, Refusal, Refused, ReadFailed, PutFailed, Memory, Decides}
use Rattle.ta_shelf.proofs.ShellCommon.{IsSo, JudgementHolds, Meaning, Says, PutsWithin, file_line, phrase_text, IsUnreadable, ReadsFile, Absent, Begins, View}
use Rattle.ta_shelf.proofs.ShellCommon.{in_files, seen, ReadingGoesOn, Hinders, FileIsAtFault, IsBroken, FileMeans, Kind, Stage, after, finds, replies, settles}
use Rattle.ta_shelf.specs.Stages.{MeantBy}
use Rattle.ta_shelf.specs.declared.phrase.Phrase.{Phrase}
use Rattle.ta_shelf.proofs.CallLemmas.{reads-append}
use Rattle.ta_shelf.proofs.Views.{Monotone, Sub, begins_some, has_more, not_absent, not_longer, sub_told, sub_within, whole_one}

unreadable_more : (v w : View) → Sub v w → (name : List ℕ) (limit : ℕ) (Such : List ℕ → Type 0) (words : List ℕ) → IsUnreadable v name limit Such words
    → IsUnreadable w name limit Such words
unreadable_more v w sub name limit Such words h = elim h [
  | inl absent ↦ inl (sub name Absent absent.0, absent.1)
  | inr longer ↦ inr (
    record { bytes = longer.0.bytes; seen = sub name (Begins longer.0.bytes) longer.0.seen; more = longer.0.more; such = longer.0.such },
    longer.1,
  )
]

module _ {A F : Type 0} (kind : Kind A F) where
  pub is_more : (v w : View) → Sub v w → (name : List ℕ) (value : A) → FileMeans kind v name value → FileMeans kind w name value
  is_more v w sub name value h = record { bytes = h.bytes; had = has_more v w sub name kind.limit.bytes h.bytes h.had; means = h.means }

  fault_more : (v w : View) → Sub v w → (name words : List ℕ) → FileIsAtFault kind v name words ⊎ IsBroken kind v name words → FileIsAtFault kind w name words
      ⊎ IsBroken kind w name words
  fault_more v w sub name words h = elim h [
    | inl f ↦ inl (record {
      bytes = f.bytes;
      had = has_more v w sub name kind.limit.bytes f.bytes f.had;
      fault = f.fault;
      found = f.found;
      words_are =
          f.words_are;
    })
    | inr b ↦ inr (record {
      bytes = b.bytes;
      seen = sub name (Begins b.bytes) b.seen;
      within = b.within;
      fault = b.fault;
      found = b.found;
      hopeless =
          b.hopeless;
      words_are = b.words_are;
    })
  ]

  wrong_more : (v w : View) → Sub v w → (name words : List ℕ) → IsUnreadable v name kind.limit.bytes (ReadingGoesOn kind) words
      ⊎ (FileIsAtFault kind v name words ⊎ IsBroken kind v name words) → IsUnreadable w name kind.limit.bytes (ReadingGoesOn kind) words
      ⊎ (FileIsAtFault kind w name words ⊎ IsBroken kind w name words)
  wrong_more v w sub name words h = elim h [
    | inl unreadable ↦ inl (unreadable_more v w sub name kind.limit.bytes (ReadingGoesOn kind) words unreadable)
    | inr f ↦ inr (fault_more v w sub name words f)
  ]

  hinders_more : (v w : View) → Sub v w → (name : List ℕ) (number : ℕ) (line : List ℕ) → Hinders kind v name number line → Hinders kind w name number line
  hinders_more v w sub name number line h = record { numbered = h.numbered; words = h.words; said = h.said; wrong = wrong_more v w sub name h.words h.wrong }

  module _ (name : List ℕ) (puts : List (List ℕ)) (rest : A → Meaning) (rests : (value : A) → Monotone (rest value)) where
    pub after_monotone : Monotone (after kind name puts rest)
    after_monotone = record {
      answers = λ v w sub answer h. (h.0, is_more v w sub name h.0 h.1, (rests h.0).answers v w sub answer h.2);
      refuses = λ v w sub number line h. elim h [
        | inl own ↦ inl (hinders_more v w sub name number line own)
        | inr r ↦ inr
            (r.0, is_more v w sub name r.0 r.1, (rests r.0).refuses v w sub number line r.2)
      ];
      reads = λ v w sub other h. elim h [ inl own ↦ inl own | inr r ↦ inr (r.0, is_more v w sub name r.0 r.1, (rests r.0).reads v w sub other r.2) ];
    }

    module _ {T : Type 0} (value : T → A) (files : Option Told) where
      -- the file is no use, or failed to be read
      pub stage_refused : (3 ≤ kind.limit.number) → (kind.limit.number ≤ 4) → (refusal : Refusal) (calls : List Call)
          → Stage {T = T} kind value files name (Err refusal) calls → Says (after kind name puts rest) files (Err refusal) calls
      stage_refused three four (Refused number who why) calls s = record
          { opened = inl s.reading; judges = (rw s.yields.numbered three, rw s.yields.numbered four, inl s.yields) }
      stage_refused three four (ReadFailed who) calls s = record { opened = inl s.reading; judges = inl s.yields }
      stage_refused three four (PutFailed who) calls s = absurd s.yields
      stage_refused three four Memory calls s = record { opened = inl s.reading; judges = tt }

      module _ (given : T) (first second : List Call) (s : Stage kind value files name (Ok given) first) where
        is_of : FileMeans kind (seen files (first ++ second)) name (value given)
        is_of = record {
          bytes = s.yields.0;
          had = has_more (seen files first) (seen files (first ++ second)) (sub_within files [] first second) name
              kind.limit.bytes s.yields.0 s.yields.2;
          means = s.yields.3;
        }

        later : Sub (seen files second) (seen files (first ++ second))
        later = λ other sight h. subst (λ (calls : List Call). seen files (first ++ calls) other sight) (append-nil second)
            (sub_within files first second [] other sight h)

        judged : (result : Result Answer Refusal) → ((v : A) → (rest v).puts ≡ puts) → JudgementHolds (rest (value given)) (seen files second) result
            → JudgementHolds (after kind name puts rest) (seen files (first ++ second)) result
        judged (Ok answer) same h = record {
          low = h.low;
          holds = (value given, is_of, (rests (value given)).answers _ _ later answer h.holds);
          within = subst
              (λ (ps : List (List ℕ)). PutsWithin ps answer.puts) (same (value given)) h.within;
        }
        judged (Err (Refused number who why)) same h = (h.0, h.1, inr (value given, is_of, (rests (value given)).refuses _ _ later number _ h.2))
        judged (Err (ReadFailed who)) same h = inr (value given, is_of, (rests (value given)).reads _ _ later who.now h)
        judged (Err (PutFailed who)) same h = absurd h
        judged (Err Memory) same h = tt

        -- the file is read, and then comes the rest
        pub stage_then : (result : Result Answer Refusal) → ((v : A) → (rest v).puts ≡ puts) → Says (rest (value given)) files result second
            → Says (after kind name puts rest) files result (first ++ second)
        stage_then result same says = record {
          opened = inr (record {
            first = first;
            second = second;
            all = refl;
            bytes = s.yields.0;
            spells = s.yields.1;
            value = value given;
            means = s.yields.3;
            then = says.opened;
          });
          judges = judged result same says.judges;
        }

      -- the same over logs
      pub grew_then : (given : T) (result : Result Answer Refusal) (before middle last : List Event) → ((v : A) → (rest v).puts ≡ puts)
          → Grew (Stage kind value files name (Ok given)) before middle → Grew (Says (rest (value given)) files result) middle last
          → Grew (Says (after kind name puts rest) files result) before last
      grew_then given result before middle last same s r = record {
        added = s.added ++ r.added;
        grown = r.grown ∙ ap (λ (calls : List Event). calls ++ reads r.added) s.grown ∙ append_assoc before (reads s.added) (reads r.added)
            ∙ ap (λ (events : List Event). before ++ events) (sym (reads-append s.added r.added));
        such = stage_then given s.added r.added s.such result same r.such;
      }

      pub grew_refused : (3 ≤ kind.limit.number) → (kind.limit.number ≤ 4) → (refusal : Refusal) (before last : List Event)
          → Grew (Stage {T = T} kind value files name (Err refusal)) before last → Grew (Says (after kind name puts rest) files (Err refusal)) before last
      grew_refused three four refusal before last s = record { added = s.added; grown = s.grown; such = stage_refused three four refusal s.added s.such }

    module _ (told : Told) (fits : (bytes : List ℕ) (value : A) (fault : F) → kind.means bytes value → kind.at_fault bytes fault → ⊥) where
      -- a file that means a value is no hindrance
      pub no_hindrance : (v : A) (number : ℕ) (line : List ℕ) → FileMeans kind (in_files told) name v → Hinders kind (in_files told) name number line → ⊥
      no_hindrance v number line is h = elim h.wrong [
        | inl u ↦ elim u [
          | inl absent ↦ not_absent told name kind.limit.bytes is.bytes is.had absent.0
          | inr longer ↦ not_longer told name kind.limit.bytes
              (ReadingGoesOn kind) is.bytes is.had longer.0
        ]
        | inr wrong ↦ elim wrong [
          | inl f ↦ fits f.bytes v f.fault
              (subst (λ (bytes : List ℕ). kind.means bytes v) (whole_one told name kind.limit.bytes is.bytes f.bytes is.had f.had) is.means) f.found
          | inr b ↦
              let same = begins_some told name kind.limit.bytes is.bytes b.bytes is.had b.seen in
              b.hopeless same.0 v (subst (λ (bytes : List ℕ). kind.means bytes v) same.1 is.means)
        ]
      ]

      -- either the file hinders, or the rest is so
      fate : (number : ℕ) → IsSo (after kind name puts rest) (in_files told) number → ((line : List ℕ) × Hinders kind (in_files told) name number line)
          ⊎ ((v : A) × FileMeans kind (in_files told) name v × IsSo (rest v) (in_files told) number)
      fate number so = elim so [
        | inl a ↦ inr (a.2.0, a.2.1, inl (a.0, a.1, a.2.2))
        | inr r ↦ elim r.1 [ inl own ↦ inl (r.0, own) | inr h ↦ inr (h.0, h.1, inr (r.0, h.2)) ]
      ]

      pub one_number : ((bytes : List ℕ) (v w : A) → kind.means bytes v → kind.means bytes w → (number other : ℕ) → IsSo (rest v) (in_files told) number
          → IsSo (rest w) (in_files told) other → number ≡ other) → (number other : ℕ) → IsSo (after kind name puts rest) (in_files told) number
          → IsSo (after kind name puts rest) (in_files told) other → number ≡ other
      one_number agree number other so so' = elim (fate number so) [
        | inl h ↦ elim (fate other so') [ inl k ↦ h.1.numbered ∙ sym k.1.numbered | inr k ↦ absurd (no_hindrance k.0 number h.0 k.1 h.1) ]
        | inr h ↦ elim (fate other so') [
          | inl k ↦ absurd (no_hindrance h.0 other k.0 h.1 k.1)
          | inr k ↦ agree k.1.bytes h.0 k.0
              (subst (λ (bytes : List ℕ). kind.means bytes h.0) (whole_one told name kind.limit.bytes h.1.bytes k.1.bytes h.1.had k.1.had) h.1.means) k.1.means
              number other h.2 k.2
        ]
      ]

pub replies_monotone : (puts : List (List ℕ)) (Such : Answer → Type 0) → Monotone (replies puts Such)
replies_monotone puts Such = record { answers = λ v w sub answer h. h; refuses = λ v w sub number line h. h; reads = λ v w sub name h. h }

pub settles_monotone : (puts : List (List ℕ)) (Such : Answer → Type 0) (Wrong : ℕ → List ℕ → Type 0) → Monotone (settles puts Such Wrong)
settles_monotone puts Such Wrong = record { answers = λ v w sub answer h. h; refuses = λ v w sub number line h. h; reads = λ v w sub name h. h }

-- what is found without reading
module _ {A : Type 0} (Is : A → Type 0) (Wrong : ℕ → List ℕ → Type 0) (puts : List (List ℕ)) (rest : A → Meaning) where
  pub finds_monotone : ((value : A) → Monotone (rest value)) → Monotone (finds Is Wrong puts rest)
  finds_monotone rests = record {
    answers = λ v w sub answer h. (h.0, h.1, (rests h.0).answers v w sub answer h.2);
    refuses = λ v w sub number line h. elim h [ inl own ↦ inl own | inr r ↦ inr (r.0, r.1, (rests r.0).refuses v w sub number line r.2) ];
    reads = λ v w sub other h. (h.0, h.1, (rests h.0).reads v w sub other h.2);
  }

  -- either something hinders, or the rest is so
  found : (view : View) (number : ℕ) → IsSo (finds Is Wrong puts rest) view number → ((line : List ℕ) × Wrong number line)
      ⊎ ((v : A) × Is v × IsSo (rest v) view number)
  found view number so = elim so [
    | inl a ↦ inr (a.2.0, a.2.1, inl (a.0, a.1, a.2.2))
    | inr r ↦ elim r.1 [ inl own ↦ inl (r.0, own) | inr h ↦ inr (h.0, h.1, inr (r.0, h.2)) ]
  ]

  -- one number, where what hinders has one, nothing that is so hinders, and the rest of what is so has one
  pub finds_one : (view : View) → ((number other : ℕ) (line words : List ℕ) → Wrong number line → Wrong other words → number ≡ other)
      → ((v : A) (number : ℕ) (line : List ℕ) → Is v → ¬ Wrong number line)
      → ((v w : A) → Is v → Is w → (number other : ℕ) → IsSo (rest v) view number → IsSo (rest w) view other → number ≡ other) → (number other : ℕ)
      → IsSo (finds Is Wrong puts rest) view number → IsSo (finds Is Wrong puts rest) view other → number ≡ other
  finds_one view wrong fits agree number other so so' = elim (found view number so) [
    | inl h ↦ elim (found view other so') [ inl k ↦ wrong number other h.0 k.0 h.1 k.1 | inr k ↦ absurd (fits k.0 number h.0 k.1 h.1) ]
    | inr h ↦ elim (found view other so') [ inl k ↦ absurd (fits h.0 other k.0 h.1 k.1) | inr k ↦ agree h.0 k.0 h.1 k.1 number other h.2 k.2 ]
  ]

  -- something hinders, and nothing is read
  pub finds_wrong : (files : Option Told) (number : ℕ) (who : Bor (List ℕ)) (why : Phrase) → 3 ≤ number → number ≤ 4
      → Wrong number (file_line who.now (phrase_text why)) → Says (finds Is Wrong puts rest) files (Err (Refused number who why)) []
  finds_wrong files number who why three four wrong = record { opened = inl refl; judges = (three, four, inl wrong) }

  -- there was no memory, and nothing is read
  pub finds_memory : (files : Option Told) → Says (finds Is Wrong puts rest) files (Err Memory) []
  finds_memory files = record { opened = inl refl; judges = tt }

  judged_found : (view : View) (v : A) (result : Result Answer Refusal) → Is v → ((w : A) → (rest w).puts ≡ puts) → JudgementHolds (rest v) view result
      → JudgementHolds (finds Is Wrong puts rest) view result
  judged_found view v (Ok answer) is same h = record
      { low = h.low; holds = (v, is, h.holds); within = subst (λ (ps : List (List ℕ)). PutsWithin ps answer.puts) (same v) h.within }
  judged_found view v (Err (Refused number who why)) is same h = (h.0, h.1, inr (v, is, h.2))
  judged_found view v (Err (ReadFailed who)) is same h = (v, is, h)
  judged_found view v (Err (PutFailed who)) is same h = absurd h
  judged_found view v (Err Memory) is same h = tt

  -- a value is so, and then comes the rest
  pub finds_then : (files : Option Told) (v : A) (result : Result Answer Refusal) (calls : List Call) → Is v → ((w : A) → (rest w).puts ≡ puts)
      → Says (rest v) files result calls → Says (finds Is Wrong puts rest) files result calls
  finds_then files v result calls is same says = record
      { opened = inr (v, is, says.opened); judges = judged_found (seen files calls) v result is same says.judges }

  pub grew_found : (files : Option Told) (v : A) (result : Result Answer Refusal) (before last : List Event) → Is v → ((w : A) → (rest w).puts ≡ puts)
      → Grew (Says (rest v) files result) before last → Grew (Says (finds Is Wrong puts rest) files result) before last
  grew_found files v result before last is same h = record { added = h.added; grown = h.grown; such = finds_then files v result h.added is same h.such }

-- told files leave one number where a meaning grows and leaves one
pub decides : (m : Meaning) → Monotone m → ((told : Told) (number other : ℕ) → IsSo m (in_files told) number → IsSo m (in_files told) other → number ≡ other)
    → Decides m
decides m monotone one = record {
  answers = λ told calls answer. monotone.answers (seen (Some told) calls) (in_files told) (sub_told told calls) answer;
  refuses = λ told calls number line. monotone.refuses (seen (Some told) calls) (in_files told) (sub_told told calls) number line;
  one = one;
}

-- of replies with one number
pub replies_one : (puts : List (List ℕ)) (Such Other : Answer → Type 0) (view : View)
    → ((answer other : Answer) → Such answer → Other other → answer.number ≡ other.number) → (number other : ℕ) → IsSo (replies puts Such) view number
    → IsSo (replies puts Other) view other → number ≡ other
replies_one puts Such Other view same number other so so' = elim so [
  | inl a ↦ elim so' [ inl b ↦ sym a.1 ∙ same a.0 b.0 a.2 b.2 ∙ b.1 | inr r ↦ absurd r.1 ]
  | inr r ↦ absurd r.1
]

-- from the bytes of a file to what they mean
module _ {A F T : Type 0} (kind : Kind A F) (value : T → A) (files : Option Told) (name : List ℕ) (before last : List Event) where
  -- of a kind that is read whole before it is judged
  whole_unreadable : ((bytes : List ℕ) → ReadingGoesOn kind bytes) → (view : View) (words : List ℕ)
      → IsUnreadable view name kind.limit.bytes (λ bytes. Unit {0}) words → IsUnreadable view name kind.limit.bytes (ReadingGoesOn kind) words
  whole_unreadable never view words h = elim h [
    | inl absent ↦ inl absent
    | inr longer ↦ inr (
      record { bytes = longer.0.bytes; seen = longer.0.seen; more = longer.0.more; such = never (take kind.limit.bytes longer.0.bytes) },
      longer.1,
    )
  ]

  unread : ((bytes : List ℕ) → ReadingGoesOn kind bytes) → (refusal : Refusal) (calls : List Call) → ReadsFile files name kind.limit (Err refusal) calls
      → Stage {T = T} kind value files name (Err refusal) calls
  unread never (Refused number who why) calls h = record {
    reading = h.reading;
    yields = record {
      numbered = h.gives.0;
      words = phrase_text why;
      said = ap (λ (n : List ℕ). file_line n (phrase_text why)) h.gives.1;
      wrong = inl (whole_unreadable never (seen files calls) (phrase_text why) h.gives.2);
    };
  }
  unread never (ReadFailed who) calls h = record { reading = h.reading; yields = h.gives }
  unread never (PutFailed who) calls h = absurd h.gives
  unread never Memory calls h = record { reading = h.reading; yields = tt }

  pub grew_unread : ((bytes : List ℕ) → ReadingGoesOn kind bytes) → (refusal : Refusal) → Grew (ReadsFile files name kind.limit (Err refusal)) before last
      → Grew (Stage {T = T} kind value files name (Err refusal)) before last
  grew_unread never refusal h = record { added = h.added; grown = h.grown; such = unread never refusal h.added h.such }

  module _ (bytes : List ℕ) (h : Grew (ReadsFile files name kind.limit (Ok bytes)) before last) where
    pub grew_means : (given : T) → kind.means bytes (value given) → Grew (Stage kind value files name (Ok given)) before last
    grew_means given means = record
        { added = h.added; grown = h.grown; such = record { reading = h.such.reading; yields = (bytes, h.such.gives.1, h.such.gives.0, means) } }

    pub grew_memory : Grew (Stage {T = T} kind value files name (Err Memory)) before last
    grew_memory = record { added = h.added; grown = h.grown; such = record { reading = h.such.reading; yields = tt } }

    pub grew_fault : (who : Bor (List ℕ)) (why : Phrase) (fault : F) → who.now ≡ name → kind.at_fault bytes fault → phrase_text why ≡ kind.words fault
        → (number : ℕ) → number ≡ kind.limit.number → Grew (Stage {T = T} kind value files name (Err (Refused number who why))) before last
    grew_fault who why fault named found words number numbered = record {
      added = h.added;
      grown = h.grown;
      such = record {
        reading = h.such.reading;
        yields = record {
          numbered = numbered;
          words = phrase_text why;
          said = ap (λ (n : List ℕ). file_line n (phrase_text why)) named;
          wrong = inr (inl (record { bytes = bytes; had = h.such.gives.0; fault = fault; found = found; words_are = words }));
        };
      };
    }

    -- its bytes are at a fault, or there was no memory
    pub grew_meant : (refusal : Refusal) → MeantBy {T = T} kind value name bytes (Err refusal)
        → Grew (Stage {T = T} kind value files name (Err refusal)) before last
    grew_meant (Refused number who why) m = grew_fault who why m.2 m.1 m.3 m.4 number m.0
    grew_meant (ReadFailed who) m = absurd m
    grew_meant (PutFailed who) m = absurd m
    grew_meant Memory m = grew_memory

-- nothing more is read
pub grew_none : (m : Meaning) (files : Option Told) (result : Result Answer Refusal) (calls : List Event) → Says m files result []
    → Grew (Says m files result) calls calls
grew_none m files result calls says = record { added = []; grown = sym (append-nil calls); such = says }
