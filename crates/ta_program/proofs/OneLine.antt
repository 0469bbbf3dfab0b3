-- Known files refuse a command with one number and one line.
use Rattle.ta_program.proofs.Common.{◌≡◌, ◌∙◌, ◌+◌, ◌-◌, ◌<◌, ◌≤◌, ◌⊎◌, ℕ, List, ◌++◌, length, length-append, take, Option, None, Some, sym, ap, subst, inl}
use Rattle.ta_program.proofs.Common.{inr, arith, take-append-add, take-append-le, none_not_some, one_content, Told, Meaning, file_line, longer_than, missing}
use Rattle.ta_program.proofs.Common.{IsUnreadable, HasMore, in_files, ReadingGoesOn, Hinders, FileIsAtFault, IsBroken, Kind, after, finds, replies, settles}
use Rattle.ta_program.proofs.Common.{Answer, no_hindrance, Monotone, whole_one, HinderAlike, HinderOnce, one_holds_line, spared}
use Rattle.ta_shelf.proofs.Spared.{apart as never_both}

-- the faults of a kind are of those of which bytes have one, and bytes that are broken stay so, whatever comes behind
pub record Settled {A F : Type 0} (kind : Kind A F) : Type 1 where
  pub First : List ℕ → F → Type 0
  pub one : (bytes : List ℕ) (e f : F) → First bytes e → First bytes f → e ≡ f
  pub of_fault : (bytes : List ℕ) (f : F) → kind.at_fault bytes f → First bytes f
  pub of_broken : (bytes : List ℕ) (f : F) → kind.broken bytes f → First bytes f
  pub lasts : (bytes more : List ℕ) (f : F) → kind.broken bytes f → kind.broken (bytes ++ more) f

-- a told file that is longer than its limit, and what is allowed of it isn't broken
record Long {A F : Type 0} (kind : Kind A F) (file : Option (List ℕ)) : Type 0 where
  content : List ℕ
  held : file ≡ Some content
  longer : kind.limit.bytes < length content
  goes_on : ReadingGoesOn kind (take kind.limit.bytes content)

-- a told file with a fault that is found within its limit
record Faulty {A F : Type 0} (kind : Kind A F) (First : List ℕ → F → Type 0) (file : Option (List ℕ)) (words : List ℕ) : Type 0 where
  content : List ℕ
  held : file ≡ Some content
  fault : F
  first : First content fault
  place : (length content ≤ kind.limit.bytes) ⊎ kind.broken (take kind.limit.bytes content) fault
  said : words ≡ kind.words fault

-- why a told file is no use
data Cause {A F : Type 0} (kind : Kind A F) (First : List ℕ → F → Type 0) (file : Option (List ℕ)) (words : List ℕ) : Type 0 where
  NoFile : file ≡ None → words ≡ missing → Cause kind First file words
  TooLong : Long kind file → words ≡ longer_than kind.limit.bytes → Cause kind First file words
  AtFault : Faulty kind First file words → Cause kind First file words

module _ {A F : Type 0} (kind : Kind A F) (settled : Settled kind) where
  long : (told : Told) (name : List ℕ) → HasMore (in_files told) name kind.limit.bytes (ReadingGoesOn kind) → Long kind (told name)
  long told name h =
      let more = h.more in
      let rest = h.seen.rest in
      record {
        content = h.bytes ++ rest;
        held = h.seen.held;
        longer = omega (arith, more, length-append h.bytes rest);
        goes_on = subst (ReadingGoesOn kind) (sym (take-append-le kind.limit.bytes h.bytes rest (omega (arith, more)))) h.such;
      }

  faulty : (told : Told) (name words : List ℕ) → FileIsAtFault kind (in_files told) name words → Faulty kind settled.First (told name) words
  faulty told name words h = record
      { content = h.bytes; held = h.had.seen; fault = h.fault; first = settled.of_fault h.bytes h.fault h.found; place = inl h.had.within; said = h.words_are }

  broken : (told : Told) (name words : List ℕ) → IsBroken kind (in_files told) name words → Faulty kind settled.First (told name) words
  broken told name words h =
      let rest = h.seen.rest in
      let within = h.within in
      let left = kind.limit.bytes - length h.bytes in
      let parts : length h.bytes + left ≡ kind.limit.bytes = omega (arith, within) in
      let front : take kind.limit.bytes (h.bytes ++ rest) ≡ h.bytes ++ take left rest = ap (λ (n : ℕ). take n (h.bytes ++ rest)) (sym parts)
      ∙ take-append-add h.bytes rest left in
      record {
        content = h.bytes ++ rest;
        held = h.seen.held;
        fault = h.fault;
        first = settled.of_broken (h.bytes ++ rest) h.fault (settled.lasts h.bytes rest h.fault h.found);
        place = inr (subst (λ (bytes : List ℕ). kind.broken bytes h.fault) (sym front) (settled.lasts h.bytes (take left rest) h.fault h.found));
        said = h.words_are;
      }

  cause : (told : Told) (name words : List ℕ) → IsUnreadable (in_files told) name kind.limit.bytes (ReadingGoesOn kind) words
      ⊎ (FileIsAtFault kind (in_files told) name words ⊎ IsBroken kind (in_files told) name words) → Cause kind settled.First (told name) words
  cause told name words h = elim h [
    | inl u ↦ elim u [ inl absent ↦ NoFile absent.0 absent.1 | inr longer ↦ TooLong (long told name longer.0) longer.1 ]
    | inr f ↦ elim f [ inl at ↦ AtFault (faulty told name words at) | inr b ↦ AtFault (broken told name words b) ]
  ]

  -- no file both is too long and has a fault within its limit
  apart : (file : Option (List ℕ)) (words : List ℕ) → Long kind file → Faulty kind settled.First file words → ⊥
  apart file words l f =
      let same = one_content file l.content f.content l.held f.held in
      elim f.place [
        | inl within ↦ let longer = l.longer in omega (arith, longer, within, ap length same)
        | inr broken ↦ l.goes_on f.fault (subst (λ (bytes : List ℕ). kind.broken (take kind.limit.bytes bytes) f.fault) (sym same) broken)
      ]

  one_cause : (file : Option (List ℕ)) (words other : List ℕ) → Cause kind settled.First file words → Cause kind settled.First file other → words ≡ other
  one_cause file words other (NoFile none is) (NoFile again are) = is ∙ sym are
  one_cause file words other (NoFile none is) (TooLong l are) = absurd (none_not_some file l.content none l.held)
  one_cause file words other (NoFile none is) (AtFault f) = absurd (none_not_some file f.content none f.held)
  one_cause file words other (TooLong l is) (NoFile none are) = absurd (none_not_some file l.content none l.held)
  one_cause file words other (TooLong l is) (TooLong m are) = is ∙ sym are
  one_cause file words other (TooLong l is) (AtFault f) = absurd (apart file other l f)
  one_cause file words other (AtFault f) (NoFile none are) = absurd (none_not_some file f.content none f.held)
  one_cause file words other (AtFault f) (TooLong l are) = absurd (apart file words l f)
  one_cause file words other (AtFault f) (AtFault g) =
      let same = one_content file f.content g.content f.held g.held in
      let faults = settled.one g.content f.fault g.fault (subst (λ (bytes : List ℕ). settled.First bytes f.fault) same f.first) g.first in
      f.said ∙ ap kind.words faults ∙ sym g.said

  hinder_once : (told : Told) (name : List ℕ) (number other : ℕ) (line words : List ℕ) → Hinders kind (in_files told) name number line
      → Hinders kind (in_files told) name other words → (number ≡ other) × (line ≡ words)
  hinder_once told name number other line words h k = (
    h.numbered ∙ sym k.numbered,
    h.said ∙ ap (file_line name) (one_cause (told name) h.words k.words (cause told name h.words h.wrong) (cause told name k.words k.wrong)) ∙ sym k.said,
  )

  module _ (name : List ℕ) (puts : List (List ℕ)) (rest : A → Meaning) (rests : (value : A) → Monotone (rest value)) (told : Told) (n : ℕ)
      (limited : kind.limit.number ≡ n) (three : 3 ≤ n) (four : n ≤ 4)
      (fits : (bytes : List ℕ) (value : A) (fault : F) → kind.means bytes value → kind.at_fault bytes fault → ⊥) where
    in_range : ((value : A) (number : ℕ) (line : List ℕ) → (rest value).refuses (in_files told) number line → (3 ≤ number) × (number ≤ 4))
        → (number : ℕ) (line : List ℕ) → (after kind name puts rest).refuses (in_files told) number line → (3 ≤ number) × (number ≤ 4)
    in_range later number line refuses = elim refuses [
      | inl own ↦ let is : number ≡ n = own.numbered ∙ limited in (omega (arith, is, three), omega (arith, is, four))
      | inr r ↦ later r.0 number line r.2
    ]

    alike : ((bytes : List ℕ) (v w : A) → kind.means bytes v → kind.means bytes w → HinderAlike (rest v) (rest w) told)
        → HinderAlike (after kind name puts rest) (after kind name puts rest) told
    alike agree number other line words h k = elim h [
      | inl own ↦ elim k [
        | inl again ↦ hinder_once told name number other line words own again
        | inr r ↦ absurd (no_hindrance kind name puts rest rests told fits r.0 number line r.1 own)
      ]
      | inr r ↦ elim k [
        | inl own ↦ absurd (no_hindrance kind name puts rest rests told fits r.0 other words r.1 own)
        | inr s ↦
            let same = whole_one told name kind.limit.bytes r.1.bytes s.1.bytes r.1.had s.1.had in
            agree s.1.bytes r.0 s.0 (subst (λ (bytes : List ℕ). kind.means bytes r.0) same r.1.means) s.1.means number other line words r.2 s.2
      ]
    ]

    -- a file is read, of which one fault is told, and then comes what its value asks for
    pub after_once : ((value : A) → HinderOnce (rest value) told) → ((bytes : List ℕ) (v w : A) → kind.means bytes v → kind.means bytes w → v ≡ w)
        → HinderOnce (after kind name puts rest) told
    after_once later unique = record {
      ranged = in_range (λ value. (later value).ranged);
      one = alike (λ bytes v w m n. subst (λ (u : A). HinderAlike (rest u) (rest w) told) (sym (unique bytes v w m n)) (later w).one);
    }

    -- a file is read, and nothing hinders then
    pub after_last : ((value : A) (number : ℕ) (line : List ℕ) → ¬ (rest value).refuses (in_files told) number line)
        → HinderOnce (after kind name puts rest) told
    after_last none = record {
      ranged = in_range (λ value number line refuses. absurd (none value number line refuses));
      one = alike (λ bytes v w m n number other line words refuses. absurd (none v number line refuses));
    }

-- outputs are compared with what was read before
module _ {A F : Type 0} (kind : Kind A F) (name : List ℕ) (outs : List (List ℕ)) (rest : A → Meaning) (rests : (value : A) → Monotone (rest value))
    (told : Told) (fits : (bytes : List ℕ) (value : A) (fault : F) → kind.means bytes value → kind.at_fault bytes fault → ⊥)
    (once : HinderOnce (after kind name outs rest) told) where
  spared_ranged : (number : ℕ) (line : List ℕ) → (spared kind name outs rest).refuses (in_files told) number line → (3 ≤ number) × (number ≤ 4)
  spared_ranged number line (inl own) = once.ranged number line (inl own)
  spared_ranged number line (inr (value, is, inl holds)) = let four : number ≡ 4 = holds.numbered in (omega (arith, four), omega (arith, four))
  spared_ranged number line (inr (value, is, inr (differ, later))) = once.ranged number line (inr (value, is, later))

  spared_alike : (number other : ℕ) (line words : List ℕ) → (spared kind name outs rest).refuses (in_files told) number line
      → (spared kind name outs rest).refuses (in_files told) other words → (number ≡ other) × (line ≡ words)
  spared_alike number other line words (inl own) (inl again) = once.one number other line words (inl own) (inl again)
  spared_alike number other line words (inl own) (inr (value, is, inl holds)) = absurd
      (no_hindrance kind name outs rest rests told fits value number line is own)
  spared_alike number other line words (inl own) (inr (value, is, inr (differ, later))) = once.one number other line words (inl own) (inr (value, is, later))
  spared_alike number other line words (inr (value, is, inl holds)) (inl own) = absurd
      (no_hindrance kind name outs rest rests told fits value other words is own)
  spared_alike number other line words (inr (value, is, inl holds)) (inr (value', are, inl again)) =
      (holds.numbered ∙ sym again.numbered, one_holds_line told name outs number other line words holds again)
  spared_alike number other line words (inr (value, is, inl holds)) (inr (value', are, inr (differ, later))) = absurd
      (never_both told name outs number line differ holds)
  spared_alike number other line words (inr (value, is, inr (differ, later))) (inl own) = once.one number other line words (inr (value, is, later)) (inl own)
  spared_alike number other line words (inr (value, is, inr (differ, later))) (inr (value', are, inl holds)) = absurd
      (never_both told name outs other words differ holds)
  spared_alike number other line words (inr (value, is, inr (differ, later))) (inr (value', are, inr (differ', later'))) = once.one number other line words
      (inr (value, is, later)) (inr (value', are, later'))

  pub spared_once : HinderOnce (spared kind name outs rest) told
  spared_once = record { ranged = spared_ranged; one = spared_alike }

-- something is looked for, and then comes what it asks for
module _ {A : Type 0} (Is : A → Type 0) (Wrong : ℕ → List ℕ → Type 0) (puts : List (List ℕ)) (rest : A → Meaning) (told : Told) where
  pub finds_once : ((number : ℕ) (line : List ℕ) → Wrong number line → (3 ≤ number) × (number ≤ 4))
      → ((number other : ℕ) (line words : List ℕ) → Wrong number line → Wrong other words → (number ≡ other) × (line ≡ words))
      → ((value : A) (number : ℕ) (line : List ℕ) → Is value → ¬ Wrong number line) → ((v w : A) → Is v → Is w → w ≡ v)
      → ((value : A) → HinderOnce (rest value) told) → HinderOnce (finds Is Wrong puts rest) told
  finds_once ranged once fits unique later = record {
    ranged = λ number line h. elim h [ inl own ↦ ranged number line own | inr r ↦ (later r.0).ranged number line r.2 ];
    one = λ number other line words h k. elim h [
      | inl own ↦ elim k [ inl again ↦ once number other line words own again | inr r ↦ absurd (fits r.0 number line r.1 own) ]
      | inr r ↦ elim k [
        | inl own ↦ absurd (fits r.0 other words r.1 own)
        | inr s ↦ (later r.0).one number other line words r.2 (subst (λ (v : A). (rest v).refuses (in_files told) other words) (unique r.0 s.0 r.1 s.1) s.2)
      ]
    ];
  }

-- nothing more is read, and nothing hinders
pub replies_hinder : (puts : List (List ℕ)) (Such : Answer → Type 0) (told : Told) → HinderOnce (replies puts Such) told
replies_hinder puts Such told = record { ranged = λ number line none. absurd none; one = λ number other line words none. absurd none }

-- or something may hinder, with one number and one line
pub settles_once : (puts : List (List ℕ)) (Such : Answer → Type 0) (Wrong : ℕ → List ℕ → Type 0) (told : Told)
    → ((number : ℕ) (line : List ℕ) → Wrong number line → (3 ≤ number) × (number ≤ 4))
    → ((number other : ℕ) (line words : List ℕ) → Wrong number line → Wrong other words → (number ≡ other) × (line ≡ words))
    → HinderOnce (settles puts Such Wrong) told
settles_once puts Such Wrong told ranged once = record { ranged = ranged; one = once }
