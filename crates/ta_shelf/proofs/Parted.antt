-- outputs that are asked where they lead
use Rattle.ta_shelf.proofs.Common.{Bool, false, true, ShelfFault, holds_read, AreApart, AreSparing, AreUnlike, Compares, Destroys, MeetsFirst, Protects}
use Rattle.ta_shelf.proofs.Common.{SparesBy}
use Rattle.ta_shelf.proofs.ShellCommon.{
  ◌≡◌,
  ◌∙◌,
  ◌++◌,
  ◌∷◌,
  [],
  ℕ,
  List,
  Option,
  None,
  Some,
  Result,
  Ok,
  Err,
  refl,
  sym,
  ap,
  subst,
  inl,
  inr,
  append_assoc,
  append-nil,
  IfSome,
  Call,
  Event,
  Grew,
  Leads,
  Reads,
  reads,
  Refusal,
  Refused,
  ReadFailed,
  PutFailed,
  Memory,
  Told,
  View,
  seen,
  where_told,
  each_weaker,
}
use Rattle.ta_shelf.specs.Place.{LeadsSo, asks_place}
use Rattle.ta_shelf.proofs.CallLemmas.{reads-append}
use Rattle.ta_shelf.specs.Sparing.{AreAsking, Parts, PartsBy, ProtectsBy}
use Rattle.ta_shelf.proofs.Compared.{holds_more, sub_before, sub_behind, unlike_more}
use Rattle.ta_shelf.proofs.ReadCalls.{all_of}
use Rattle.ta_shelf.proofs.Views.{Sub}

-- no call
pub none_asked : (names : List (List ℕ)) → AreAsking names []
none_asked [] = refl
none_asked (name ∷ []) = refl
none_asked (name ∷ other ∷ more) = inl refl

-- what is seen in some calls is seen in more of them
pub apart_more : (v w : View) → Sub v w → (names : List (List ℕ)) → AreApart v names → AreApart w names
apart_more v w sub [] are = tt
apart_more v w sub (name ∷ names) are = (each_weaker _ _ names (λ other is. sub other (Leads name false) is) are.0, apart_more v w sub names are.1)

pub meets_more : (v w : View) → Sub v w → (names : List (List ℕ)) (line : List ℕ) → MeetsFirst v names line → MeetsFirst w names line
meets_more v w sub [] line h = h
meets_more v w sub (name ∷ []) line h = h
meets_more v w sub (name ∷ other ∷ more) line h = (sub other (Leads name true) h.0, h.1)

pub destroys_more : (v w : View) → Sub v w → (names : List (List ℕ)) (bytes line : List ℕ) → Destroys v names bytes line → Destroys w names bytes line
destroys_more v w sub names bytes line (inl own) = inl (holds_more v w sub names bytes holds_read line own)
destroys_more v w sub names bytes line (inr later) = inr (unlike_more v w sub names bytes later.0, meets_more v w sub names line later.1)

leads_there : (files : Option Told) (name other : List ℕ) (same : Bool) → IfSome files (λ m. LeadsSo name other (Ok same))
    → where_told files name (Leads other same)
leads_there None name other same told = tt
leads_there (Some m) name other same told = told

-- it is asked where two names lead
pub asked_place : (files : Option Told) (name other : List ℕ) (before after : List Event) (same answer : Bool) → same ≡ answer
    → IfSome files (λ m. LeadsSo name other (Ok same)) → after ≡ before ++ Reads (asks_place name other (Ok same)) ∷ []
    → Grew (λ calls. AreAsking (other ∷ name ∷ []) calls × seen files calls name (Leads other answer)) before after
asked_place files name other before after same answer is told log = subst
    (λ (b : Bool). Grew (λ calls. AreAsking (other ∷ name ∷ []) calls × seen files calls name (Leads other b)) before after) is (record {
      added = asks_place name other (Ok same) ∷ [];
      grown = log;
      such = (inr (Ok same, refl), (all_of _ _ refl, leads_there files name other same told));
    })

-- it can't be told
pub untold_place : (files : Option Told) (name other : List ℕ) (before after : List Event) (answer : Result Bool ShelfFault) (refusal : Refusal)
    → ((view : View) → PartsBy view (other ∷ name ∷ []) (Err refusal)) → after ≡ before ++ Reads (asks_place name other answer) ∷ []
    → Grew (Parts files (other ∷ name ∷ []) (Err refusal)) before after
untold_place files name other before after answer refusal is log = record {
  added = asks_place name other answer ∷ [];
  grown = log;
  such = record { asking = inr (answer, refl); parts = is (seen files (asks_place name other answer ∷ [])) };
}

-- outputs are compared, and then asked where they lead
module _ (files : Option Told) (names : List (List ℕ)) (bytes : List ℕ) (calls later : List Call)
    (first : SparesBy (seen files calls) names bytes holds_read (Ok tt)) where
  still : AreUnlike (seen files (calls ++ later)) names bytes
  still = unlike_more (seen files calls) (seen files (calls ++ later)) (sub_before files calls later) names bytes first

  both_protect : (result : Result (Unit {0}) Refusal) → PartsBy (seen files later) names result → ProtectsBy (seen files (calls ++ later)) names bytes result
  both_protect (Ok u) second = (still, apart_more (seen files later) (seen files (calls ++ later)) (sub_behind files calls later) names second)
  both_protect (Err (Refused number name why)) second =
      (second.0, inr (still, meets_more (seen files later) (seen files (calls ++ later)) (sub_behind files calls later) names _ second.1))
  both_protect (Err (ReadFailed name)) second = second
  both_protect (Err (PutFailed name)) second = second
  both_protect (Err Memory) second = tt

pub protects_both : (files now : Option Told) (names : List (List ℕ)) (bytes : List ℕ) (result : Result (Unit {0}) Refusal) (before middle after : List Event)
    → now ≡ files → Grew (Compares files names bytes holds_read (Ok tt)) before middle → Grew (Parts now names result) middle after
    → Grew (Protects files names bytes result) before after
protects_both files now names bytes result before middle after same one other =
    let there = subst (λ (o : Option Told). Parts o names result other.added) same other.such in
    record {
      added = one.added ++ other.added;
      grown = other.grown ∙ ap (λ (events : List Event). events ++ reads other.added) one.grown ∙ append_assoc before (reads one.added) (reads other.added)
          ∙ ap (λ (events : List Event). before ++ events) (sym (reads-append one.added other.added));
      such = record {
        sparing = (one.added, other.added, refl, one.such.comparing, there.asking);
        protects = both_protect files names bytes one.added other.added one.such.spares result there.parts;
      };
    }

-- a comparison found something, and nothing more is asked
protects_so : (view : View) (names : List (List ℕ)) (bytes : List ℕ) (refusal : Refusal) → SparesBy view names bytes holds_read (Err refusal)
    → ProtectsBy view names bytes (Err refusal)
protects_so view names bytes (Refused number name why) h = (h.0, inl h.1)
protects_so view names bytes (ReadFailed name) h = h
protects_so view names bytes (PutFailed name) h = h
protects_so view names bytes Memory h = tt

pub protects_first : (files : Option Told) (names : List (List ℕ)) (bytes : List ℕ) (refusal : Refusal) (before after : List Event)
    → Grew (Compares files names bytes holds_read (Err refusal)) before after → Grew (Protects files names bytes (Err refusal)) before after
protects_first files names bytes refusal before after one = record {
  added = one.added;
  grown = one.grown;
  such = record {
    sparing = (one.added, [], sym (append-nil one.added), one.such.comparing, none_asked names);
    protects = protects_so (seen files one.added) names bytes refusal one.such.spares;
  };
}
