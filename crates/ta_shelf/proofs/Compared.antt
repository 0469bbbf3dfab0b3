-- outputs that are compared with bytes
use Rattle.ta_shelf.proofs.Common.{Bool, false, true, true≢false, ComparesBy, AreUnlike, Compares, HoldsFirst, SparesBy}
use Rattle.ta_shelf.proofs.ShellCommon.{◌≡◌, ◌∙◌, ◌++◌, ◌∷◌, [], ℕ, List, Option, None, Some, Result, Ok, Err, refl, sym, ap, subst, inl, inr, append_assoc}
use Rattle.ta_shelf.proofs.ShellCommon.{append-nil, IfSome, Contains-append_left, Contains-append_right, each_append, each_weaker, Call, Event, Grew, reads}
use Rattle.ta_shelf.proofs.ShellCommon.{Refusal, Refused, ReadFailed, PutFailed, Memory, Told, Unlike, View, Whole, seen, where_told}
use Rattle.ta_shelf.specs.Compare.{HoldsSo, TellsOther}
use Rattle.ta_shelf.proofs.CallLemmas.{reads-append}
use Rattle.ta_shelf.specs.Sparing.{AreComparing, IsComparing}
use Rattle.ta_shelf.proofs.ReadCalls.{all_of, sees_whole}
use Rattle.ta_shelf.proofs.Views.{Sub, sub_within}

-- no call
pub none_compared : (names : List (List ℕ)) → AreComparing names []
none_compared [] = refl
none_compared (name ∷ names) = ([], [], refl, inl refl, none_compared names)

-- the calls of one comparison
pub one_compared : (name : List ℕ) (calls : List Call) → IsComparing name calls → AreComparing (name ∷ []) calls
one_compared name calls is = (calls, [], sym (append-nil calls), inr is, refl)

-- some, and then others
pub both_compared : (names more : List (List ℕ)) (calls later : List Call) → AreComparing names calls → AreComparing more later
    → AreComparing (names ++ more) (calls ++ later)
both_compared [] more calls later none are = subst (λ (cs : List Call). AreComparing more (cs ++ later)) (sym none) are
both_compared (name ∷ names) more calls later h are =
    (h.0, h.1 ++ later, ap (λ (cs : List Call). cs ++ later) h.2 ∙ append_assoc h.0 h.1 later, h.3, both_compared names more h.1 later h.4 are)

tells_comparing : (name bytes : List ℕ) (calls : List Call) → TellsOther name bytes calls → IsComparing name calls
tells_comparing name bytes calls (inl (inl stops)) = inl (inr (stops.read, _, stops.ends))
tells_comparing name bytes calls (inl (inr none)) = inr none
tells_comparing name bytes calls (inr (read, inl whole)) = inl (inr (read, _, whole.0))
tells_comparing name bytes calls (inr (read, inr first)) = inl (inl first.0.in_order)

unlike_there : (files : Option Told) (name bytes : List ℕ) → IfSome files (λ m. HoldsSo (m name) bytes (Ok false)) → where_told files name (Unlike bytes)
unlike_there None name bytes told = tt
unlike_there (Some m) name bytes told = told

-- the file of a name holds others
pub compared_other : (files : Option Told) (name bytes words : List ℕ) (before after : List Event) (same : Bool) → same ≡ false
    → IfSome files (λ m. HoldsSo (m name) bytes (Ok same)) → Grew (ComparesBy name bytes (Ok same)) before after
    → Grew (Compares files (name ∷ []) bytes words (Ok tt)) before after
compared_other files name bytes words before after true is told log = absurd (true≢false is)
compared_other files name bytes words before after false is told log = record {
  added = log.added;
  grown = log.grown;
  such = record {
    comparing = one_compared name log.added (tells_comparing name bytes log.added log.such);
    spares = ((all_of (TellsOther name bytes) log.added log.such, unlike_there files name bytes told), tt);
  };
}

-- the file of a name holds them
pub compared_same : (files : Option Told) (name bytes : List ℕ) (before after : List Event) (same : Bool) → same ≡ true
    → IfSome files (λ m. HoldsSo (m name) bytes (Ok same)) → Grew (ComparesBy name bytes (Ok same)) before after
    → Grew (λ calls. AreComparing (name ∷ []) calls × seen files calls name (Whole bytes)) before after
compared_same files name bytes before after false is told log = absurd (true≢false (sym is))
compared_same files name bytes before after true is told log = record {
  added = log.added;
  grown = log.grown;
  such = (one_compared name log.added (inl (inr (bytes, _, log.such))), sees_whole files name 0 bytes log.added log.such told);
}

-- what is seen in some calls is seen in more of them
pub unlike_more : (v w : View) → Sub v w → (names : List (List ℕ)) (bytes : List ℕ) → AreUnlike v names bytes → AreUnlike w names bytes
unlike_more v w sub names bytes are = each_weaker _ _ names (λ name is. sub name (Unlike bytes) is) are

pub holds_more : (v w : View) → Sub v w → (names : List (List ℕ)) (bytes words line : List ℕ) → HoldsFirst v names bytes words line
    → HoldsFirst w names bytes words line
holds_more v w sub [] bytes words line h = h
holds_more v w sub (name ∷ names) bytes words line (inl own) = inl (sub name (Whole bytes) own.0, own.1)
holds_more v w sub (name ∷ names) bytes words line (inr later) = inr (sub name (Unlike bytes) later.0, holds_more v w sub names bytes words line later.1)

-- the first of some names is the first of more, where those before them hold others
holds_behind : (view : View) (names more : List (List ℕ)) (bytes words line : List ℕ) → AreUnlike view names bytes → HoldsFirst view more bytes words line
    → HoldsFirst view (names ++ more) bytes words line
holds_behind view [] more bytes words line are h = h
holds_behind view (name ∷ names) more bytes words line are h = inr (are.0, holds_behind view names more bytes words line are.1 h)

-- seen in calls before others, and behind others
pub sub_before : (files : Option Told) (calls later : List Call) → Sub (seen files calls) (seen files (calls ++ later))
sub_before files calls later = sub_within files [] calls later

pub sub_behind : (files : Option Told) (calls later : List Call) → Sub (seen files later) (seen files (calls ++ later))
sub_behind files calls later name sight s = subst (λ (cs : List Call). seen files (calls ++ cs) name sight) (append-nil later)
    (sub_within files calls later [] name sight s)

-- outputs are spared, and then others
module _ (files : Option Told) (names more : List (List ℕ)) (bytes words : List ℕ) (calls later : List Call)
    (first : SparesBy (seen files calls) names bytes words (Ok tt)) where
  still : AreUnlike (seen files (calls ++ later)) names bytes
  still = unlike_more (seen files calls) (seen files (calls ++ later)) (sub_before files calls later) names bytes first

  both_spared : (result : Result (Unit {0}) Refusal) → SparesBy (seen files later) more bytes words result
      → SparesBy (seen files (calls ++ later)) (names ++ more) bytes words result
  both_spared (Ok u) second = each_append _ names more still
      (unlike_more (seen files later) (seen files (calls ++ later)) (sub_behind files calls later) more bytes second)
  both_spared (Err (Refused number name why)) second = (
    second.0,
    holds_behind (seen files (calls ++ later)) names more bytes words _ still
        (holds_more (seen files later) (seen files (calls ++ later)) (sub_behind files calls later) more bytes words _ second.1),
  )
  both_spared (Err (ReadFailed name)) second = Contains-append_right names more name.now second
  both_spared (Err (PutFailed name)) second = second
  both_spared (Err Memory) second = tt

-- an output failed to be spared, and the others weren't looked at
module _ (view : View) (names more : List (List ℕ)) (bytes words : List ℕ) where
  holds_before : (firsts : List (List ℕ)) (line : List ℕ) → HoldsFirst view firsts bytes words line → HoldsFirst view (firsts ++ more) bytes words line
  holds_before [] line h = absurd h
  holds_before (name ∷ firsts) line (inl own) = inl own
  holds_before (name ∷ firsts) line (inr later) = inr (later.0, holds_before firsts line later.1)

  first_spared : (refusal : Refusal) → SparesBy view names bytes words (Err refusal) → SparesBy view (names ++ more) bytes words (Err refusal)
  first_spared (Refused number name why) h = (h.0, holds_before names _ h.1)
  first_spared (ReadFailed name) h = Contains-append_left names more name.now h
  first_spared (PutFailed name) h = h
  first_spared Memory h = tt

-- outputs are compared, and then others
pub compares_both : (files now : Option Told) (names more : List (List ℕ)) (bytes words : List ℕ) (result : Result (Unit {0}) Refusal)
    (before middle after : List Event) → now ≡ files → Grew (Compares files names bytes words (Ok tt)) before middle
    → Grew (Compares now more bytes words result) middle after → Grew (Compares files (names ++ more) bytes words result) before after
compares_both files now names more bytes words result before middle after same one other =
    let there = subst (λ (o : Option Told). Compares o more bytes words result other.added) same other.such in
    record {
      added = one.added ++ other.added;
      grown = other.grown ∙ ap (λ (events : List Event). events ++ reads other.added) one.grown ∙ append_assoc before (reads one.added) (reads other.added)
          ∙ ap (λ (events : List Event). before ++ events) (sym (reads-append one.added other.added));
      such = record {
        comparing = both_compared names more one.added other.added one.such.comparing there.comparing;
        spares = both_spared files names more bytes words one.added other.added one.such.spares result there.spares;
      };
    }
