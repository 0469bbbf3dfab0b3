-- the patterns that are picked
use Rattle.ta_program.proofs.Common.{◌≡◌, ◌∙◌, ℕ, zero, suc, inl, inr, List, [], Option, None, Some, Err, refl, sym, ap, subst, arith, slice_get}
use Rattle.ta_program.proofs.Common.{AllByRecursion, Automaton}
use Rattle.ta_program.proofs.Common.{File, Pattern, Refusal, Refused, ReadFailed, PutFailed, Memory, Meaning, Says, ReadCause, file_line, finds_monotone}
use Rattle.ta_program.proofs.Common.{finds_one, finds_wrong, phrase_text, IsSo, Monotone, Told, in_files, Pick, One, picked, PickRefused}
use Rattle.ta_program.proofs.Common.{EachPicked, HasName, IsPick, PickHinders, with_pick, HinderOnce}
use Rattle.ta_automaton.specs.Patterns.{pattern_name}
use Rattle.ta_base.proofs.Each.{distinct_map_at}
use Rattle.ta_report.specs.Picked.{listed}
use Rattle.ta_program.proofs.OneLine.{finds_once}

-- they are picked in one way
pub pick_once : (file : File) (given : Option (List ℕ)) (pick other : Pick) → IsPick file given pick → IsPick file given other → pick ≡ other
pick_once file None pick other is are = is ∙ sym are
pick_once file (Some name) pick other is are =
    let same = distinct_map_at pattern_name file.patterns is.number are.number is.pattern are.pattern file.shape.distinct is.is.at are.is.at
    (is.is.named ∙ sym are.is.named) in
    is.one ∙ ap One same ∙ sym are.one

-- a file that has the pattern isn't refused
pub pick_fits : (name : List ℕ) (file : File) (given : Option (List ℕ)) (pick : Pick) (number : ℕ) (line : List ℕ) → IsPick file given pick
    → ¬ PickHinders name file given number line
pick_fits name file None pick number line is h = h
pick_fits name file (Some pattern) pick number line is h = h.none is.number is.pattern is.is

pub pick_number : (name : List ℕ) (file : File) (given : Option (List ℕ)) (number : ℕ) (line : List ℕ) → PickHinders name file given number line → number ≡ 3
pick_number name file None number line h = absurd h
pick_number name file (Some pattern) number line h = h.numbered

pick_line : (name : List ℕ) (file : File) (given : Option (List ℕ)) (number other : ℕ) (line words : List ℕ) → PickHinders name file given number line
    → PickHinders name file given other words → line ≡ words
pick_line name file None number other line words h k = absurd h
pick_line name file (Some pattern) number other line words h k = h.said ∙ sym k.said

-- a refusal is told of, and nothing more is read
pub pick_refused :
    (name : List ℕ) (file : File) (given : Option (List ℕ)) (puts : List (List ℕ)) (rest : Pick → Meaning) (files : Option Told) (refusal : Refusal)
    → PickRefused name file given refusal → Says (with_pick name given puts file rest) files (Err refusal) []
pick_refused name file given puts rest files (Refused number who why) h =
    let three = pick_number name file given number (file_line who.now (phrase_text why)) h in
    finds_wrong (IsPick file given) (PickHinders name file given) puts rest files number who why (omega (arith, three)) (omega (arith, three)) h
pick_refused name file given puts rest files (ReadFailed who) h = absurd h
pick_refused name file given puts rest files (PutFailed who) h = absurd h
pick_refused name file given puts rest files Memory h = absurd h

pub pick_cause : (T : Type 0) (name : List ℕ) (file : File) (given : Option (List ℕ)) (refusal : Refusal) (count : ℕ) → PickRefused name file given refusal
    → ReadCause {T = T} (Err refusal) count count
pick_cause T name file given (Refused number who why) count h = refl
pick_cause T name file given (ReadFailed who) count h = absurd h
pick_cause T name file given (PutFailed who) count h = absurd h
pick_cause T name file given Memory count h = absurd h

-- of commands that pick patterns
module _ (name : List ℕ) (given : Option (List ℕ)) (puts : List (List ℕ)) (file : File) (rest : Pick → Meaning) where
  pub pick_monotone : ((pick : Pick) → Monotone (rest pick)) → Monotone (with_pick name given puts file rest)
  pick_monotone rests = finds_monotone (IsPick file given) (PickHinders name file given) puts rest rests

  pub pick_one :
      (told : Told)
      → ((pick : Pick) (number other : ℕ) → IsSo (rest pick) (in_files told) number → IsSo (rest pick) (in_files told) other → number ≡ other)
      → (number other : ℕ) → IsSo (with_pick name given puts file rest) (in_files told) number
      → IsSo (with_pick name given puts file rest) (in_files told) other
      → number ≡ other
  pick_one told ones =
      finds_one (IsPick file given) (PickHinders name file given) puts rest (in_files told)
      (λ number other line words h k. pick_number name file given number line h ∙ sym (pick_number name file given other words k))
      (λ pick number line is. pick_fits name file given pick number line is)
      (λ d e is are number other so so'.
      ones d number other so (subst (λ (pick : Pick). IsSo (rest pick) (in_files told) other) (sym (pick_once file given d e is are)) so'))

  -- a pattern that the file has doesn't hinder with 3, if what comes then doesn't
  pub pick_passes :
      (told : Told) (pick : Pick) → IsPick file given pick → (line : List ℕ)
      → ((found : Pick) → ¬ (rest found).refuses (in_files told) 3 line) → ¬ (with_pick name given puts file rest).refuses (in_files told) 3 line
  pick_passes told pick is line never refuses = elim refuses [
    | inl own ↦ pick_fits name file given pick 3 line is own
    | inr r ↦ never r.0 r.2
  ]

  pub picks_once : (told : Told) → ((pick : Pick) → HinderOnce (rest pick) told) → HinderOnce (with_pick name given puts file rest) told
  picks_once told later =
      finds_once (IsPick file given) (PickHinders name file given) puts rest told
      (λ number line h. let is = pick_number name file given number line h in (omega (arith, is), omega (arith, is)))
      (λ number other line words h k. (
        pick_number name file given number line h ∙ sym (pick_number name file given other words k),
        pick_line name file given number other line words h k,
      ))
      (λ pick number line is. pick_fits name file given pick number line is)
      (λ d e is are. sym (pick_once file given d e is are))
      later

-- what holds of each picked pattern
pub each_picked_of :
    (Fact : Automaton → Pattern → Type 0) (file : File) (given : Option (List ℕ)) (pick : Pick) → IsPick file given pick
    → AllByRecursion (Fact file.automaton) (picked pick file.patterns) → EachPicked Fact given file
each_picked_of Fact file None pick is all = subst (λ (p : Pick). AllByRecursion (Fact file.automaton) (picked p file.patterns)) is all
each_picked_of Fact file (Some name) pick is all =
    let one = subst (λ (p : Pick). AllByRecursion (Fact file.automaton) (picked p file.patterns)) is.one all in
    let here = subst (λ (o : Option Pattern). AllByRecursion (Fact file.automaton) (listed o)) is.is.at one in
    (is.number, is.pattern, is.is.at, is.is.named, here.0)

-- a picked pattern has the name that is given
one_picked : (o : Option Pattern) (p q : Pattern) (place : ℕ) → o ≡ Some q → slice_get (listed o) place ≡ Some p → p ≡ q
one_picked None p q place is at = absurd (cc)
one_picked (Some r) p q zero is at = let a : r ≡ q = cc in let b : r ≡ p = cc in sym b ∙ a
one_picked (Some r) p q (suc place) is at = absurd (cc)

pub picked_name :
    (file : File) (given : Option (List ℕ)) (pick : Pick) → IsPick file given pick → (place : ℕ) (p : Pattern)
    → slice_get (picked pick file.patterns) place ≡ Some p → HasName given p
picked_name file None pick is place p at = tt
picked_name file (Some name) pick is place p at =
    let one = subst (λ (k : Pick). slice_get (picked k file.patterns) place ≡ Some p) is.one at in
    ap pattern_name (one_picked (slice_get file.patterns is.number) p is.pattern place is.is.at one) ∙ is.is.named
