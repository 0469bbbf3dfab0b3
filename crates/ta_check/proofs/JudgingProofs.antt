-- a position that begins a proof
use Rattle.ta_automaton.specs.Narrow.{IsNarrow}
use Rattle.ta_check.proofs.Common.{◌≢◌, ◌≡◌, inl, inr, ℕ, ◌<◌, List, [], ◌∷◌, ◌++◌, length, reverse, Some, slice_get, sym, ap, ◌∙◌, subst, refl, arith}
use Rattle.ta_check.proofs.Common.{reverse-append, slice_get_cases, In, Pattern, Search, AllWithin, Kind, Subject, fact_of, kind_of, search_of, Position}
use Rattle.ta_check.proofs.Common.{Standing, BeginsProof, NothingIsLeft, IsKeptIn, IsPositionAt, none-some, place_of}
use Rattle.ta_check.proofs.JudgingHeads.{free_back}
use Rattle.ta_check.proofs.JudgingNodes.{Head, SameHead, head_kept, head_of, kind_at}
use Rattle.ta_check.proofs.Searches.{search_same}

-- a position that has just begun the proof of a pattern
pub record Began (subject : Subject) (old : Position) (k : ℕ) (new : Position) (p : Pattern) (kind : Kind) : Type 0 where
  pub same : SameHead old new
  pub proved : new.proved.items ≡ old.proved.items ++ k ∷ []
  pub current : new.current ≡ Some k
  pub first : AllWithin (search_of kind subject old.orders p) (place_of kind new) (search_of kind subject old.orders p).roots
  pub kept : IsKeptIn kind subject p new

-- the first place of a tree is before the first word of its search
pub first_of : (kind : Kind) (subject : Subject) (s new : Position) (p : Pattern) (tree : Search (fact_of kind)) → tree ≡ search_of kind subject s.orders p
    → AllWithin tree (place_of kind new) tree.roots → AllWithin (search_of kind subject s.orders p) (place_of kind new)
    (search_of kind subject s.orders p).roots
first_of kind subject s new p tree same within = subst (λ (q : Search (fact_of kind)). AllWithin q (place_of kind new) q.roots) same within

pub pattern_exists : (subject : Subject) (k : ℕ) → k < length subject.file.patterns → (p : Pattern) × (slice_get subject.file.patterns k ≡ Some p)
pattern_exists subject k within = elim ((slice_get_cases subject.file.patterns k).1)
    [ inl found ↦ (found.0, found.2) | inr past ↦ absurd (let beyond = past.0 in omega arith) ]

began_at : (subject : Subject) (old new : Position) (at : Standing) (k : ℕ) (p : Pattern) → slice_get subject.file.patterns k ≡ Some p
    → (at.version ≢ 3 → IsNarrow subject.file.automaton) → at.begun ≡ reverse old.proved.items → Head old at → Began subject old k new p (kind_of at.version)
    → IsPositionAt subject new (record at { begun = k ∷ at.begun; pending = (search_of (kind_of at.version) subject old.orders p).roots })
began_at subject old new at k p named narrow begun first began =
    let head = head_kept old new at began.same first in
    record {
      version = head.version;
      narrow = narrow;
      pairs = head.pairs;
      waiting = head.waiting;
      may = λ pair some. absurd (none-some pair (sym head.none ∙ some));
      begun = ap (λ ns. k ∷ ns) begun ∙ sym (reverse-append old.proved.items (k ∷ [])) ∙ ap reverse (sym began.proved);
      place = inr (record {
        number = k;
        current = began.current;
        older = at.begun;
        begun = refl;
        pattern = p;
        named = named;
        within = subst (λ (xs : List (ℕ × ℕ)). AllWithin (search_of (kind_of at.version) subject xs p) (place_of (kind_of at.version) new)
            (search_of (kind_of at.version) subject old.orders p).roots) (sym began.same.orders) began.first;
        kept = began.kept;
      });
    }

-- the line of a pattern that had no proof
begins_with : (subject : Subject) (old : Position) (at : Standing) (k : ℕ) (p : Pattern) → slice_get subject.file.patterns k ≡ Some p
    → (In k (reverse old.proved.items) → ⊥) → IsPositionAt subject old at → NothingIsLeft at
    → BeginsProof subject at k (record at { begun = k ∷ at.begun; pending = (search_of (kind_of at.version) subject old.orders p).roots })
begins_with subject old at k p named fresh is free = record {
  free = free;
  search = search_of (kind_of at.version) subject old.orders p;
  searched = search_same (kind_of at.version) subject at.pairs old.orders k p named is.pairs;
  new = λ before. fresh (subst (In k) is.begun before);
  leads = refl;
}

-- a proof that may begin begins
pub begins : (kind : Kind) (subject : Subject) (old new : Position) (at : Standing) (k : ℕ) (p : Pattern) → kind_of old.version ≡ kind
    → slice_get subject.file.patterns k ≡ Some p → (In k (reverse old.proved.items) → ⊥) → IsPositionAt subject old at → NothingIsLeft at
    → Began subject old k new p kind → (after : Standing) × BeginsProof subject at k after × IsPositionAt subject new after
begins kind subject old new at k p of named fresh is free began =
    let head = head_of subject old at (sym is.waiting ∙ free.none) is in (
      record at { begun = k ∷ at.begun; pending = (search_of (kind_of at.version) subject old.orders p).roots },
      begins_with subject old at k p named fresh is
          free,
      began_at subject old new at k p named is.narrow is.begun head (subst (Began subject old k new p) (sym (kind_at old at kind head of)) began),
    )

-- a search that begins with nothing
abbrev BeginsEmpty : Subject → Position → Pattern → Kind → Type 0
BeginsEmpty subject old p kind = (search_of kind subject old.orders p).roots ≡ []

pub empty_of : (kind : Kind) (subject : Subject) (s : Position) (p : Pattern) (tree : Search (fact_of kind)) → tree ≡ search_of kind subject s.orders p
    → tree.roots ≡ [] → (search_of kind subject s.orders p).roots ≡ []
empty_of kind subject s p tree same none = sym (ap (λ (q : Search (fact_of kind)). q.roots) same) ∙ none

-- a proof that has nothing to refute has ended
pub begins_none : (kind : Kind) (subject : Subject) (old new : Position) (at : Standing) (k : ℕ) (p : Pattern) → kind_of old.version ≡ kind
    → slice_get subject.file.patterns k ≡ Some p → (In k (reverse old.proved.items) → ⊥) → IsPositionAt subject old at → NothingIsLeft at → SameHead old new
    → new.current ≡ old.current → new.proved.items ≡ old.proved.items ++ k ∷ [] → (search_of kind subject old.orders p).roots ≡ [] → (after : Standing)
    × BeginsProof subject at k after × IsPositionAt subject new after
begins_none kind subject old new at k p of named fresh is free same current proved none =
    let first = head_of subject old at (sym is.waiting ∙ free.none) is in
    let head = head_kept old new at same first in
    let empty = subst (BeginsEmpty subject old p) (sym (kind_at old at kind first of)) none in (
      record at { begun = k ∷ at.begun; pending = (search_of (kind_of at.version) subject old.orders p).roots },
      begins_with subject old at k p named fresh is free,
      record {
        version = head.version;
        narrow = is.narrow;
        pairs = head.pairs;
        waiting = head.waiting;
        may = λ pair some. absurd (none-some pair (sym head.none ∙ some));
        begun = ap (λ ns. k ∷ ns) is.begun ∙ sym (reverse-append old.proved.items (k ∷ [])) ∙ ap reverse (sym proved);
        place = inl (record { current = current ∙ (free_back subject old at is free).nowhere; left = empty });
      },
    )
