-- silent places, and the names of them that are given
use Rattle.ta_base.specs.LimitRows.{narrow}
use Rattle.ta_program.specs.Kinds.{file_limit}
use Rattle.ta_program.proofs.Common.{◌≡◌, ◌∙◌, ℕ, List, [], ◌∷◌, Option, None, Some, Result, Ok, Err, refl, sym, ap, subst, arith, Automaton, Pattern, Refusal}
use Rattle.ta_program.proofs.Common.{Refused, ReadFailed, PutFailed, Memory, Meaning, Says, SaysOfFile, ReadCause, file_line, finds, finds_memory, finds_wrong}
use Rattle.ta_program.proofs.Common.{phrase_text, Told, Run, IsFirstConfig, unit_steps, length}
use Rattle.ta_check.specs.Subjects.{claimed_with}
use Rattle.ta_rest.specs.declared.claim.Claim.TheVariants as claim
use Rattle.ta_automaton.specs.Runs.{Config}
use Rattle.ta_witness.specs.Resting.{OccursAtQuietRest}
use Rattle.ta_rest.specs.Quiet.{QuietRestSafe}
use Rattle.ta_rest.proofs.QuietResting.{rest_is, rest_safe_is}
use Rattle.ta_witness.specs.Runs.{OccursAtRest}
use Rattle.ta_witness.proofs.Ends.{end_whole}
use Rattle.ta_verdict.specs.Rest.Said.{occurs_with}
use Rattle.ta_moments.specs.Silent.{IsSilentIn, silent_in}
use Rattle.ta_moments.specs.declared.fault.SilentFault.{SilentFault}
use Rattle.ta_moments.specs.declared.fault.SilentFault.TheVariants as fault
use Rattle.ta_program.specs.Inside.Found.{SilentRefused, TellsSilent}
use Rattle.ta_program.specs.SilentNames.{AreSilent, NamesHinder, RestOccursBut, RestSafeBut, silent_fault_text}

ok_once : (r : Result (List ℕ) SilentFault) (xs ys : List ℕ) → r ≡ Ok xs → r ≡ Ok ys → xs ≡ ys
ok_once r xs ys is are = cc

err_once : (r : Result (List ℕ) SilentFault) (f g : SilentFault) → r ≡ Err f → r ≡ Err g → f ≡ g
err_once r f g is are = cc

not_both : (r : Result (List ℕ) SilentFault) (xs : List ℕ) (f : SilentFault) → r ≡ Ok xs → r ≡ Err f → ⊥
not_both r xs f is fails = cc

-- names have one list of places
pub silent_once : (a : Automaton) (names : Option (List ℕ)) (places others : List ℕ) → AreSilent a names places → AreSilent a names others → places ≡ others
silent_once a None places others is are = is ∙ sym are
silent_once a (Some names) places others is are = ok_once (silent_in a names) places others is are

-- names that may be silent don't hinder
pub silent_fits : (name : List ℕ) (a : Automaton) (names : Option (List ℕ)) (places : List ℕ) (number : ℕ) (line : List ℕ) → AreSilent a names places
    → ¬ NamesHinder name a names number line
silent_fits name a None places number line is h = h
silent_fits name a (Some names) places number line is h = not_both (silent_in a names) places h.fault is h.found

pub silent_number : (name : List ℕ) (a : Automaton) (names : Option (List ℕ)) (number : ℕ) (line : List ℕ) → NamesHinder name a names number line → number ≡ 3
silent_number name a None number line h = absurd h
silent_number name a (Some names) number line h = h.numbered

pub silent_line : (name : List ℕ) (a : Automaton) (names : Option (List ℕ)) (number other : ℕ) (line words : List ℕ) → NamesHinder name a names number line
    → NamesHinder name a names other words → line ≡ words
silent_line name a None number other line words h k = absurd h
silent_line name a (Some names) number other line words h k =
    let same = err_once (silent_in a names) h.fault k.fault h.found k.found in
    h.said ∙ ap (λ (f : SilentFault). file_line name (silent_fault_text f)) same ∙ sym k.said

-- what is claimed of a pattern with silent places is so with the names of these
quiet_of : (places : List ℕ) (a : Automaton) (p : Pattern) → claimed_with claim.RestSafe places a p → QuietRestSafe a places p
quiet_of [] a p safe = (rest_safe_is a p).0 safe
quiet_of (place ∷ places) a p safe = safe

pub safe_but : (names : Option (List ℕ)) (a : Automaton) (p : Pattern) (places : List ℕ) → AreSilent a names places → claimed_with claim.RestSafe places a p
    → RestSafeBut names a p
safe_but None a p places is safe = subst (λ (ps : List ℕ). claimed_with claim.RestSafe ps a p) is safe
safe_but (Some names) a p places is safe = (places, is, quiet_of places a p safe)

-- a pattern comes to rest in the steps of a run, from a first configuration with its parameters and start counts
pub record HappensBut (names : Option (List ℕ)) (a : Automaton) (p : Pattern) (run : Run) : Type 0 where
  pub first : Config
  pub begins : IsFirstConfig a run first
  pub happens : RestOccursBut names a p first (unit_steps run.lines)

quiet_occurs : (places : List ℕ) (a : Automaton) (p : Pattern) (run : Run) → occurs_with places a p run → OccursAtQuietRest a places p run
quiet_occurs [] a p run o =
    let c = o.occurs in
    let steps = unit_steps run.lines in
    record {
      first = o.first;
      begins = o.begins;
      occurs = record {
        occurs = c.occurs;
        at_end = c.at_end;
        rests = λ d at. (rest_is a d (end_whole a o.first steps c.occurs.later c.occurs.run (length steps) d at)).0 (c.rests d at);
      };
    }
quiet_occurs (place ∷ places) a p run o = o

pub occurs_but : (names : Option (List ℕ)) (a : Automaton) (p : Pattern) (run : Run) (places : List ℕ) → AreSilent a names places → occurs_with places a p run
    → HappensBut names a p run
occurs_but None a p run places is o =
    let c : OccursAtRest a p run = subst (λ (ps : List ℕ). occurs_with ps a p run) is o in
    record { first = c.first; begins = c.begins; happens = c.occurs }
occurs_but (Some names) a p run places is o =
    let c = quiet_occurs places a p run o in
    record { first = c.first; begins = c.begins; happens = (places, is, c.occurs) }

-- no names have no places
pub none_silent : (a : Automaton) (names : Option (List ℕ)) (places : List ℕ) → names ≡ None → AreSilent a names places → places ≡ []
none_silent a None places none is = is
none_silent a (Some names) places none is = absurd (cc)

-- a refusal of names
hinders_by : (name : List ℕ) (a : Automaton) (names : List ℕ) (f : SilentFault) (refusal : Refusal) → silent_in a names ≡ Err f
    → SaysOfFile (file_limit narrow) name (silent_fault_text f) refusal → SilentRefused name a (Some names) refusal
hinders_by name a names f (Refused number who why) is says = record {
  numbered = says.0;
  fault = f;
  found = is;
  said = ap (λ (n : List ℕ). file_line n (phrase_text why)) says.1 ∙ ap (file_line name) says.2;
}
hinders_by name a names f (ReadFailed who) is says = absurd says
hinders_by name a names f (PutFailed who) is says = absurd says
hinders_by name a names f Memory is says = absurd says

pub silent_refused : (name : List ℕ) (a : Automaton) (names : List ℕ) (f : SilentFault) (refusal : Refusal) → IsSilentIn a names (Err f)
    → TellsSilent name f refusal → SilentRefused name a (Some names) refusal
silent_refused name a names fault.Unknown refusal is says = hinders_by name a names fault.Unknown refusal is says
silent_refused name a names fault.WrongKind refusal is says = hinders_by name a names fault.WrongKind refusal is says
silent_refused name a names (fault.Subtracted guard) refusal is says = hinders_by name a names (fault.Subtracted guard) refusal is says
silent_refused name a names fault.Memory refusal is says = subst (SilentRefused name a (Some names)) (sym says) tt

-- it is told of, and nothing more is read
pub names_refused : (name : List ℕ) (a : Automaton) (names : Option (List ℕ)) (puts : List (List ℕ)) (rest : List ℕ → Meaning) (files : Option Told)
    (refusal : Refusal) → SilentRefused name a names refusal → Says (finds (AreSilent a names) (NamesHinder name a names) puts rest) files (Err refusal) []
names_refused name a names puts rest files (Refused number who why) h =
    let three = silent_number name a names number (file_line who.now (phrase_text why)) h in
    finds_wrong (AreSilent a names) (NamesHinder name a names) puts rest files number who why (omega (arith, three)) (omega (arith, three)) h
names_refused name a names puts rest files (ReadFailed who) h = absurd h
names_refused name a names puts rest files (PutFailed who) h = absurd h
names_refused name a names puts rest files Memory h = finds_memory (AreSilent a names) (NamesHinder name a names) puts rest files

pub names_cause : (T : Type 0) (name : List ℕ) (a : Automaton) (names : Option (List ℕ)) (refusal : Refusal) (count : ℕ) → SilentRefused name a names refusal
    → ReadCause {T = T} (Err refusal) count count
names_cause T name a names (Refused number who why) count h = refl
names_cause T name a names (ReadFailed who) count h = absurd h
names_cause T name a names (PutFailed who) count h = absurd h
names_cause T name a names Memory count h = refl
