-- a file is read, and outputs are compared with it
use Rattle.ta_shelf.proofs.Common.{holds_read, AreApart, AreSparing, AreUnlike, Destroys, HoldsFirst, MeetsFirst, Protects, true≢false}
use Rattle.ta_shelf.proofs.ShellCommon.{◌≡◌, ◌∙◌, ◌≤◌, ◌⊎◌, List, [], ◌∷◌, ◌++◌, ℕ, Option, Some, Result, Ok, Err, refl, sym, ap, subst, inl, inr, arith}
use Rattle.ta_shelf.proofs.ShellCommon.{append_assoc, Call, Event, Grew, reads, Told, Answer, Refusal, Refused, ReadFailed, PutFailed, Memory, Decides, IsSo}
use Rattle.ta_shelf.proofs.ShellCommon.{JudgementHolds, Meaning, Says, PutsWithin, ReadsFile, IsReading, View, Whole, in_files, seen, Hinders, FileMeans, Kind}
use Rattle.ta_shelf.proofs.ShellCommon.{Stage, after}
use Rattle.ta_shelf.proofs.CallLemmas.{reads-append}
use Rattle.ta_shelf.specs.Stages.{Then}
use Rattle.ta_shelf.specs.Sparing.{Differ, HoldsRead, SparedStage, SparedYields}
use Rattle.ta_shelf.specs.Sparing.{spared, sparing}
use Rattle.ta_shelf.proofs.Compared.{sub_before, sub_behind, unlike_more}
use Rattle.ta_shelf.proofs.Parted.{apart_more, destroys_more}
use Rattle.ta_shelf.proofs.Read.{after_monotone, no_hindrance}
use Rattle.ta_shelf.proofs.Views.{Monotone, Sub, has_more, sub_told}

-- what differs in one view differs in another, and what holds in one holds in the other
pub differ_more : (v w : View) → Sub v w → (name : List ℕ) (outs : List (List ℕ)) → Differ v name outs → Differ w name outs
differ_more v w sub name outs d = record
    { bytes = d.bytes; held = sub name (Whole d.bytes) d.held; unlike = unlike_more v w sub outs d.bytes d.unlike; apart = apart_more v w sub outs d.apart }

pub holds_read_more : (v w : View) → Sub v w → (name : List ℕ) (outs : List (List ℕ)) (number : ℕ) (line : List ℕ) → HoldsRead v name outs number line
    → HoldsRead w name outs number line
holds_read_more v w sub name outs number line h = record
    { numbered = h.numbered; bytes = h.bytes; held = sub name (Whole h.bytes) h.held; first = destroys_more v w sub outs h.bytes line h.first }

pub sparing_monotone : (name : List ℕ) (outs : List (List ℕ)) (rest : Meaning) → Monotone rest → Monotone (sparing name outs rest)
sparing_monotone name outs rest m = record {
  answers = λ v w sub answer h. (differ_more v w sub name outs h.0, m.answers v w sub answer h.1);
  refuses = λ v w sub number line h. elim h [
    | inl own ↦ inl (holds_read_more v w sub name outs number line own)
    | inr r ↦ inr (differ_more v w sub name outs r.0, m.refuses v w sub number line r.1)
  ];
  reads = λ v w sub other h. elim h [ inl own ↦ inl own | inr r ↦ inr (differ_more v w sub name outs r.0, m.reads v w sub other r.1) ];
}

-- told files show one content of a name
same_bytes : (told : Told) (name bytes other : List ℕ) → in_files told name (Whole bytes) → in_files told name (Whole other) → bytes ≡ other
same_bytes told name bytes other h k = let e : Some bytes ≡ Some other = sym h ∙ k in cc

-- in told files outputs that hold others don't hold the same
none_first : (told : Told) (outs : List (List ℕ)) (bytes words line : List ℕ) → AreUnlike (in_files told) outs bytes
    → HoldsFirst (in_files told) outs bytes words line → ⊥
none_first told [] bytes words line are h = h
none_first told (out ∷ outs) bytes words line are (inl own) = are.0 own.0
none_first told (out ∷ outs) bytes words line are (inr later) = none_first told outs bytes words line are.1 later.1

-- in told files names that lead to different places don't lead to the same
none_meets : (told : Told) (outs : List (List ℕ)) (line : List ℕ) → AreApart (in_files told) outs → MeetsFirst (in_files told) outs line → ⊥
none_meets told [] line are h = h
none_meets told (out ∷ []) line are h = h
none_meets told (out ∷ other ∷ more) line are h = true≢false (sym (are.0.0.1 (h.0.0 refl)))

none_destroys : (told : Told) (outs : List (List ℕ)) (bytes line : List ℕ) → AreUnlike (in_files told) outs bytes → AreApart (in_files told) outs
    → Destroys (in_files told) outs bytes line → ⊥
none_destroys told outs bytes line are apart (inl own) = none_first told outs bytes holds_read line are own
none_destroys told outs bytes line are apart (inr later) = none_meets told outs line apart later.1

pub apart : (told : Told) (name : List ℕ) (outs : List (List ℕ)) (number : ℕ) (line : List ℕ) → Differ (in_files told) name outs
    → HoldsRead (in_files told) name outs number line → ⊥
apart told name outs number line d h =
    none_destroys told outs h.bytes line (subst (AreUnlike (in_files told) outs) (same_bytes told name d.bytes h.bytes d.held h.held) d.unlike) d.apart h.first

-- and one is the first
one_first : (told : Told) (outs : List (List ℕ)) (bytes words line other : List ℕ) → HoldsFirst (in_files told) outs bytes words line
    → HoldsFirst (in_files told) outs bytes words other → line ≡ other
one_first told [] bytes words line other h k = absurd h
one_first told (out ∷ outs) bytes words line other (inl h) (inl k) = h.1 ∙ sym k.1
one_first told (out ∷ outs) bytes words line other (inl h) (inr k) = absurd (k.0 h.0)
one_first told (out ∷ outs) bytes words line other (inr h) (inl k) = absurd (h.0 k.0)
one_first told (out ∷ outs) bytes words line other (inr h) (inr k) = one_first told outs bytes words line other h.1 k.1

one_meets : (told : Told) (outs : List (List ℕ)) (line other : List ℕ) → MeetsFirst (in_files told) outs line → MeetsFirst (in_files told) outs other
    → line ≡ other
one_meets told [] line other h k = absurd h
one_meets told (out ∷ []) line other h k = absurd h
one_meets told (out ∷ second ∷ more) line other h k = h.1 ∙ sym k.1

one_destroys : (told : Told) (outs : List (List ℕ)) (bytes line other : List ℕ) → Destroys (in_files told) outs bytes line
    → Destroys (in_files told) outs bytes other → line ≡ other
one_destroys told outs bytes line other (inl h) (inl k) = one_first told outs bytes holds_read line other h k
one_destroys told outs bytes line other (inl h) (inr k) = absurd (none_first told outs bytes holds_read line k.0 h)
one_destroys told outs bytes line other (inr h) (inl k) = absurd (none_first told outs bytes holds_read other h.0 k)
one_destroys told outs bytes line other (inr h) (inr k) = one_meets told outs line other h.1 k.1

pub one_holds_line : (told : Told) (name : List ℕ) (outs : List (List ℕ)) (number other : ℕ) (line words : List ℕ)
    → HoldsRead (in_files told) name outs number line → HoldsRead (in_files told) name outs other words → line ≡ words
one_holds_line told name outs number other line words h k =
    one_destroys told outs k.bytes line words
    (subst (λ (bytes : List ℕ). Destroys (in_files told) outs bytes line) (same_bytes told name h.bytes k.bytes h.held k.held) h.first) k.first

module _ {A F : Type 0} (kind : Kind A F) (name : List ℕ) (outs : List (List ℕ)) (rest : A → Meaning) where
  -- what is answered is so without the comparison
  pub spared_answer : (view : View) (answer : Answer) → (spared kind name outs rest).answers view answer → (after kind name outs rest).answers view answer
  spared_answer view answer h = (h.0, h.1, h.2.1)

  -- what hinders is that an output holds what was read, or it hinders without the comparison
  pub spared_refuses :
      (view : View) (number : ℕ) (line : List ℕ) → (spared kind name outs rest).refuses view number line
      → ((value : A) × FileMeans kind view name value × HoldsRead view name outs number line) ⊎ (after kind name outs rest).refuses view number line
  spared_refuses view number line h = elim h [
    | inl own ↦ inr (inl own)
    | inr r ↦ elim r.2 [ inl holds ↦ inl (r.0, r.1, holds) | inr later ↦ inr (inr (r.0, r.1, later.1)) ]
  ]

  -- never with 3, where nothing hinders so without the comparison
  pub spared_passes : (view : View) (line : List ℕ) → ¬ (after kind name outs rest).refuses view 3 line → ¬ (spared kind name outs rest).refuses view 3 line
  spared_passes view line never h = elim (spared_refuses view 3 line h)
      [ inl own ↦ (let four = own.2.numbered in absurd (omega (arith, four))) | inr other ↦ never other ]

  module _ (rests : (value : A) → Monotone (rest value)) where
    spared_rests : (value : A) → Monotone (sparing name outs (rest value))
    spared_rests value = sparing_monotone name outs (rest value) (rests value)

    pub spared_monotone : Monotone (spared kind name outs rest)
    spared_monotone = after_monotone kind name outs (λ value. sparing name outs (rest value)) spared_rests

    module _ (fits : (bytes : List ℕ) (value : A) (fault : F) → kind.means bytes value → kind.at_fault bytes fault → ⊥) (told : Told) where
      -- what is so: an output holds what was read, or outputs don't and it is so without the comparison, or the file hinders
      fate :
          (number : ℕ) → IsSo (spared kind name outs rest) (in_files told) number
          → ((line : List ℕ) × (value : A) × FileMeans kind (in_files told) name value × HoldsRead (in_files told) name outs number line)
          ⊎ (IsSo (after kind name outs rest) (in_files told) number
          × (Differ (in_files told) name outs ⊎ ((line : List ℕ) × Hinders kind (in_files told) name number line)))
      fate number so = elim so [
        | inl a ↦ inr (inl (a.0, a.1, spared_answer (in_files told) a.0 a.2), inl a.2.2.0)
        | inr r ↦ elim r.1 [
          | inl own ↦ inr (inr (r.0, inl own), inr (r.0, own))
          | inr h ↦ elim h.2 [
            | inl holds ↦ inl (r.0, h.0, h.1, holds)
            | inr later ↦ inr (inr (r.0, inr (h.0, h.1, later.1)), inl later.0)
          ]
        ]
      ]

      never_both : (number other : ℕ) (line : List ℕ) (value : A) → FileMeans kind (in_files told) name value → HoldsRead (in_files told) name outs number line
          → (Differ (in_files told) name outs ⊎ ((words : List ℕ) × Hinders kind (in_files told) name other words)) → ⊥
      never_both number other line value is holds h = elim h [
        | inl differ ↦ apart told name outs number line differ holds
        | inr hinders ↦ no_hindrance kind name outs rest rests told fits value other hinders.0 is hinders.1
      ]

      pub spared_one : ((number other : ℕ) → IsSo (after kind name outs rest) (in_files told) number → IsSo (after kind name outs rest) (in_files told) other
          → number ≡ other) → (number other : ℕ) → IsSo (spared kind name outs rest) (in_files told) number
          → IsSo (spared kind name outs rest) (in_files told) other → number ≡ other
      spared_one agree number other so so' = elim (fate number so) [
        | inl h ↦ elim (fate other so') [
          | inl k ↦ h.3.numbered ∙ sym k.3.numbered
          | inr k ↦ absurd (never_both number other h.0 h.1 h.2 h.3 k.1)
        ]
        | inr h ↦ elim (fate other so') [
          | inl k ↦ absurd (never_both other number k.0 k.1 k.2 k.3 h.1)
          | inr k ↦ agree number other h.0 k.0
        ]
      ]

    -- told files leave one number where they do without the comparison
    pub spared_decides : ((bytes : List ℕ) (value : A) (fault : F) → kind.means bytes value → kind.at_fault bytes fault → ⊥)
        → Decides (after kind name outs rest) → Decides (spared kind name outs rest)
    spared_decides fits d = record {
      answers = λ told calls answer. spared_monotone.answers (seen (Some told) calls) (in_files told) (sub_told told calls) answer;
      refuses = λ told calls number line. spared_monotone.refuses (seen (Some told) calls) (in_files told) (sub_told told calls) number line;
      one = λ told. spared_one fits told (d.one told);
    }

-- reading a file, and comparing outputs with it
module _ {A F T : Type 0} (kind : Kind A F) (value : T → A) (files : Option Told) (name : List ℕ) (outs : List (List ℕ)) where
  -- the file is no use
  unread : (refusal : Refusal) (calls : List Call) → Stage {T = T} kind value files name (Err refusal) calls
      → SparedStage {T = T} kind value files name outs (Err refusal) calls
  unread (Refused number who why) calls s = record { opened = inl s.reading; yields = inl s.yields }
  unread (ReadFailed who) calls s = record { opened = inl s.reading; yields = inl s.yields }
  unread (PutFailed who) calls s = absurd s.yields
  unread Memory calls s = record { opened = inl s.reading; yields = tt }

  pub grew_unspared : (refusal : Refusal) (before last : List Event) → Grew (Stage {T = T} kind value files name (Err refusal)) before last
      → Grew (SparedStage {T = T} kind value files name outs (Err refusal)) before last
  grew_unspared refusal before last s = record { added = s.added; grown = s.grown; such = unread refusal s.added s.such }

  -- the file means a value, and outputs are compared with its bytes
  module _ (bytes : List ℕ) (first second : List Call) (r : ReadsFile files name kind.limit (Ok bytes) first) (means : A) (is : kind.means bytes means) where
    opened : AreSparing outs second → Then kind name (λ v. AreSparing outs) (first ++ second)
    opened are = record { first = first; second = second; all = refl; bytes = bytes; spells = r.gives.1; value = means; means = is; then = are }

    is_of : FileMeans kind (seen files (first ++ second)) name means
    is_of = record {
      bytes = bytes;
      had = has_more (seen files first) (seen files (first ++ second)) (sub_before files first second) name kind.limit.bytes bytes
          r.gives.0;
      means = is;
    }

    held : seen files (first ++ second) name (Whole bytes)
    held = sub_before files first second name (Whole bytes) r.gives.0.seen

    compared : (given : T) → value given ≡ means → Protects files outs bytes (Ok tt) second
        → SparedStage kind value files name outs (Ok given) (first ++ second)
    compared given same c = record {
      opened = inr (opened c.sparing);
      yields = (
        subst (FileMeans kind (seen files (first ++ second)) name) (sym same) is_of,
        record {
          bytes = bytes;
          held = held;
          unlike = unlike_more (seen files second) (seen files (first ++ second)) (sub_behind files first second) outs bytes c.protects.0;
          apart = apart_more (seen files second) (seen files (first ++ second)) (sub_behind files first second) outs c.protects.1;
        },
      );
    }

    unspared : (refusal : Refusal) → Protects files outs bytes (Err refusal) second
        → SparedStage {T = T} kind value files name outs (Err refusal) (first ++ second)
    unspared (Refused number who why) c = record {
      opened = inr (opened c.sparing);
      yields = inr (
        means,
        is_of,
        record {
          numbered = c.protects.0;
          bytes = bytes;
          held = held;
          first = destroys_more (seen files second) (seen files (first ++ second))
              (sub_behind files first second) outs bytes _ c.protects.1;
        },
      );
    }
    unspared (ReadFailed who) c = record { opened = inr (opened c.sparing); yields = inr (means, is_of, c.protects) }
    unspared (PutFailed who) c = absurd c.protects
    unspared Memory c = record { opened = inr (opened c.sparing); yields = tt }

  -- the same over logs
  module _ (bytes : List ℕ) (before middle last : List Event) (now : Option Told) (kept : now ≡ files)
      (r : Grew (ReadsFile files name kind.limit (Ok bytes)) before middle) where
    both : (added : List Call) → last ≡ middle ++ reads added → last ≡ before ++ reads (r.added ++ added)
    both added grown = grown ∙ ap (λ (events : List Event). events ++ reads added) r.grown ∙ append_assoc before (reads r.added) (reads added)
        ∙ ap (λ (events : List Event). before ++ events) (sym (reads-append r.added added))

    pub grew_compared : (given : T) → kind.means bytes (value given) → Grew (Protects now outs bytes (Ok tt)) middle last
        → Grew (SparedStage kind value files name outs (Ok given)) before last
    grew_compared given is c = record {
      added = r.added ++ c.added;
      grown = both c.added c.grown;
      such = compared bytes r.added c.added r.such (value given) is given refl (subst (λ (o : Option Told). Protects o outs bytes (Ok tt) c.added) kept c.such);
    }

    pub grew_holds : (refusal : Refusal) (given : T) → kind.means bytes (value given) → Grew (Protects now outs bytes (Err refusal)) middle last
        → Grew (SparedStage {T = T} kind value files name outs (Err refusal)) before last
    grew_holds refusal given is c = record {
      added = r.added ++ c.added;
      grown = both c.added c.grown;
      such = unspared bytes r.added c.added r.such (value given) is refusal
          (subst (λ (o : Option Told). Protects o outs bytes (Err refusal) c.added) kept c.such);
    }

  -- and then comes what the value asks for, which reads nothing more
  module _ (rest : A → Meaning) (calls : List Call) where
    opens : IsReading name calls ⊎ Then kind name (λ v. AreSparing outs) calls → (spared kind name outs rest).opens calls
    opens (inl reading) = inl reading
    opens (inr t) = inr (record {
      first = t.first;
      second = t.second;
      all = t.all;
      bytes = t.bytes;
      spells = t.spells;
      value = t.value;
      means = t.means;
      then =
          inl t.then;
    })

    hinders : 3 ≤ kind.limit.number → kind.limit.number ≤ 4 → (refusal : Refusal) → SparedYields {T = T} kind value (seen files calls) name outs (Err refusal)
        → JudgementHolds (spared kind name outs rest) (seen files calls) (Err refusal)
    hinders three four (Refused number who why) (inl own) = let is : number ≡ kind.limit.number = own.numbered in
        (omega (arith, is, three), omega (arith, is, four), inl own)
    hinders three four (Refused number who why) (inr h) = let is : number ≡ 4 = h.2.numbered in (omega (arith, is), omega (arith, is), inr (h.0, h.1, inl h.2))
    hinders three four (ReadFailed who) (inl own) = inl own
    hinders three four (ReadFailed who) (inr h) = inr (h.0, h.1, inl h.2)
    hinders three four (PutFailed who) y = absurd y
    hinders three four Memory y = tt

    module _ (rests : (v : A) → Monotone (rest v)) (puts : (v : A) → (rest v).puts ≡ outs) (given : T)
        (is : FileMeans kind (seen files calls) name (value given)) (differ : Differ (seen files calls) name outs) where
      none_before : Sub (seen files []) (seen files calls)
      none_before = sub_before files [] calls

      judged : (result : Result Answer Refusal) → JudgementHolds (rest (value given)) (seen files []) result
          → JudgementHolds (spared kind name outs rest) (seen files calls) result
      judged (Ok answer) h = record {
        low = h.low;
        holds = (value given, is, (differ, (rests (value given)).answers _ _ none_before answer h.holds));
        within =
            subst (λ (ps : List (List ℕ)). PutsWithin ps answer.puts) (puts (value given)) h.within;
      }
      judged (Err (Refused number who why)) h = (h.0, h.1, inr (value given, is, inr (differ, (rests (value given)).refuses _ _ none_before number _ h.2)))
      judged (Err (ReadFailed who)) h = inr (value given, is, inr (differ, (rests (value given)).reads _ _ none_before who.now h))
      judged (Err (PutFailed who)) h = absurd h
      judged (Err Memory) h = tt

  pub grew_kept : (rest : A → Meaning) → 3 ≤ kind.limit.number → kind.limit.number ≤ 4 → (refusal : Refusal) (before last : List Event)
      → Grew (SparedStage {T = T} kind value files name outs (Err refusal)) before last
      → Grew (Says (spared kind name outs rest) files (Err refusal)) before last
  grew_kept rest three four refusal before last s = record {
    added = s.added;
    grown = s.grown;
    such = record
        { opened = opens rest s.added s.such.opened; judges = hinders rest s.added three four refusal s.such.yields };
  }

  pub grew_spared : (rest : A → Meaning) → ((v : A) → Monotone (rest v)) → ((v : A) → (rest v).puts ≡ outs)
      → (given : T) (result : Result Answer Refusal) (before last : List Event) → Grew (SparedStage kind value files name outs (Ok given)) before last
      → Says (rest (value given)) files result [] → Grew (Says (spared kind name outs rest) files result) before last
  grew_spared rest rests puts given result before last s says = record {
    added = s.added;
    grown = s.grown;
    such = record {
      opened = opens rest s.added s.such.opened;
      judges = judged rest s.added rests puts given s.such.yields.0 s.such.yields.1 result says.judges;
    };
  }
