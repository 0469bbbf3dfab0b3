-- Listing names one after another: the mask so far, and what is left.
use Rattle.ta_meaning.proofs.Common.{◌≡◌, ℕ, ◌*◌, ◌%◌, ◌^◌, ◌<◌, ◌≤◌, inl, inr, false, ◌||◌, List, [], ◌∷◌, ◌++◌, length, map, Decides, Contains, slice_get}
use Rattle.ta_meaning.proofs.Common.{Some, IsBitSet, bit_or, w128, refl, sym, ap, subst, ◌∙◌, arith, bytes_eq, mod-eq_of_lt, false≢true, false_from_ne_true}
use Rattle.ta_meaning.proofs.Common.{eqb_tells, Decides-like, Decides-or, bit_at_set_same, bit_at_set_other, append-nil, Contains-append_left, Contains-push}
use Rattle.ta_meaning.proofs.Common.{Contains-push_cases, slice_get_within, same_Some, bytes_eq-Decides, at_set, no_bit, set_at, distinct_at, each_append}
use Rattle.ta_meaning.proofs.Common.{contains_at, plain_name, Spelled, FileFault, Distinct, has_name, ListedMask, where_, else_, First, used_faults}
use Rattle.ta_meaning.proofs.Common.{listed_faults, append_assoc, All-from_recursion, All-contains, empty_before}
use Rattle.std.proofs.lemmas.Nat.{or_lt, pow_below, pow_pos}
use Rattle.ta_scope.proofs.Reaching.{bit_of}
use Rattle.ta_meaning.proofs.Answering.{where-false, append-left-leads, else-left-leads, else-right-leads, else-none, where-leads}
use Rattle.ta_meaning.proofs.UsedNames.{rightly_used}
use Rattle.ta_base.proofs.Members.{contains_cases, contains_from}
use Rattle.ta_syntax.specs.declared.fault.FileFault.TheVariants as fault

-- the test decides the relation
pub has_name-Decides : (names : List (List ℕ)) (n : List ℕ) → Decides (has_name names n) (Contains names n)
has_name-Decides [] n = ((λ e. absurd (false≢true e)), λ c. absurd (let b = c.1 in omega arith))
has_name-Decides (m ∷ names) n =
    Decides-like (bytes_eq m n || has_name names n) (contains_from n m names) (contains_cases n m names)
    (Decides-or (bytes_eq m n) (has_name names n) (bytes_eq-Decides m n) (has_name-Decides names n))

-- ---- masks

pub no_mask : (names : List (List ℕ)) → ListedMask names [] 0
no_mask names = record {
  bits = record {
    known = tt;
    bits = λ i. ((λ b. absurd (no_bit i b)), λ w. absurd (let c = (w.2).1 in omega arith));
  };
  below = pow_pos (length names);
}

module _ (names before : List (List ℕ)) (mask i : ℕ) (n : List ℕ) (distinct : Distinct names) (few : length names ≤ 128) (old : ListedMask names before mask)
    (named : slice_get names i ≡ Some n) where
  within : i < length names
  within = slice_get_within names i n named

  set_here : IsBitSet (bit_or mask (bit_of i)) i
  set_here = at_set _ i (bit_at_set_same w128 mask i (let b = within in omega arith))

  still_set : (j : ℕ) → IsBitSet mask j → IsBitSet (bit_or mask (bit_of i)) j
  still_set j b = elim (eqb_tells j i) [
    | inl e ↦ subst (λ k. IsBitSet (bit_or mask (bit_of i)) k) (sym e.1) set_here
    | inr ne ↦ at_set _ j (bit_at_set_other w128 mask i (let b = within in omega arith) j ne.1 ∙ set_at mask j b)
  ]

  names_bit : (j : ℕ) → IsBitSet (bit_or mask (bit_of i)) j → (m : List ℕ) × (slice_get names j ≡ Some m) × Contains (before ++ n ∷ []) m
  names_bit j b = elim (eqb_tells j i) [
    | inl e ↦ (n, ap (slice_get names) e.1 ∙ named, Contains-push before n)
    | inr ne ↦ (
        let w = (old.bits.bits j).0 (at_set mask j (sym (bit_at_set_other w128 mask i (let b = within in omega arith) j ne.1) ∙ set_at _ j b)) in
        (w.0, w.1, Contains-append_left before (n ∷ []) w.0 w.2))
  ]

  bit_named : (j : ℕ) (m : List ℕ) → slice_get names j ≡ Some m → Contains (before ++ n ∷ []) m → IsBitSet (bit_or mask (bit_of i)) j
  bit_named j m at c = elim (Contains-push_cases before n m c) [
    | inl earlier ↦ still_set j ((old.bits.bits j).1 (m, at, earlier))
    | inr e ↦ subst (λ k. IsBitSet (bit_or mask (bit_of i)) k) (sym (distinct_at names j i m distinct at (named ∙ ap Some e))) set_here
  ]

  -- a mask with the bit of one more name
  pub one_more_name : ListedMask names (before ++ n ∷ []) (bit_or mask (bit_of i))
  one_more_name = record {
    bits = record {
      known = each_append (Contains names) before (n ∷ []) old.bits.known (contains_at names i n named, tt);
      bits = λ j. (names_bit j, λ w. bit_named j w.0 w.1 w.2);
    };
    below = or_lt (length names) mask (bit_of i) old.below
        (let b = within in let small : 2 ^ i < 2 ^ length names = pow_below i (length names) b in let fits : 2 ^ i < 2 ^ 128 = pow_below i 128 (omega arith) in
        let is : 2 ^ i % 340282366920938463463374607431768211456 ≡ 2 ^ i = mod-eq_of_lt fits in omega arith);
  }

-- ---- listing

-- names are listed, each of which is known, and the rest of them is left
pub record ListedTo (declared allowed : List (List ℕ)) (all rest : List Spelled) (mask : ℕ) : Type 0 where
  pub before : List (List ℕ)
  pub faults : listed_faults declared allowed [] all ≡ listed_faults declared allowed before rest
  pub names_are : map plain_name all ≡ before ++ map plain_name rest
  pub mask_is : ListedMask allowed before mask

pub listing_begins : (declared allowed : List (List ℕ)) (all : List Spelled) → ListedTo declared allowed all all 0
listing_begins declared allowed all = record { before = []; faults = refl; names_are = refl; mask_is = no_mask allowed }

module _ (declared allowed : List (List ℕ)) (all : List Spelled) (n : Spelled) (rest : List Spelled) (mask : ℕ)
    (to : ListedTo declared allowed all (n ∷ rest) mask) where
  -- a name in error by itself was not listed before
  not_listed : (e : FileFault) (later : List FileFault) → ((m : List ℕ) → Contains allowed m → Contains declared m) → used_faults declared allowed n ≡ e ∷ later
      → has_name to.before n.name ≡ false
  not_listed e later sub is = false_from_ne_true (has_name to.before n.name) (λ t.
      let known : Contains allowed n.name = All-contains (Contains allowed) to.before n.name
      (All-from_recursion (Contains allowed) to.before to.mask_is.bits.known) ((has_name-Decides to.before n.name).0 t) in
      let none = rightly_used declared allowed n ((has_name-Decides declared n.name).1 (sub n.name known)) ((has_name-Decides allowed n.name).1 known) in
      absurd (cc))

  first_used : (e : FileFault) → ((m : List ℕ) → Contains allowed m → Contains declared m) → First (used_faults declared allowed n) e
      → First (else_ (where_ (has_name to.before n.name) (fault.Duplicate n.at)) (used_faults declared allowed n)) e
  first_used e sub w = else-right-leads _ _ e (where-false (has_name to.before n.name) (fault.Duplicate n.at) (not_listed e w.0 sub w.1)) w

  pub listing_stops : (e : FileFault) → ((m : List ℕ) → Contains allowed m → Contains declared m) → First (used_faults declared allowed n) e
      → First (listed_faults declared allowed [] all) e
  listing_stops e sub first = rw to.faults (append-left-leads _ _ e (first_used e sub first))

  pub listing_repeats : (i : ℕ) → slice_get allowed i ≡ Some n.name → IsBitSet mask i → First (listed_faults declared allowed [] all) (fault.Duplicate n.at)
  listing_repeats i named b =
      let w = (to.mask_is.bits.bits i).0 b in
      let again : Contains to.before n.name = subst (Contains to.before) (same_Some w.0 n.name (sym w.1 ∙ named)) w.2 in
      rw to.faults (append-left-leads _ _ _
      (else-left-leads _ _ _ (where-leads (has_name to.before n.name) (fault.Duplicate n.at) ((has_name-Decides to.before n.name).1 again))))

  pub listing_goes_on : (i : ℕ) → Distinct allowed → length allowed ≤ 128 → used_faults declared allowed n ≡ [] → slice_get allowed i ≡ Some n.name
      → (IsBitSet mask i → ⊥) → ListedTo declared allowed all rest (bit_or mask (1 * 2 ^ i % 340282366920938463463374607431768211456))
  listing_goes_on i distinct few none named new =
      let fresh : has_name to.before n.name ≡ false = false_from_ne_true (has_name to.before n.name)
      (λ t. new ((to.mask_is.bits.bits i).1 (n.name, named, (has_name-Decides to.before n.name).0 t))) in
      record {
        before = to.before ++ n.name ∷ [];
        faults = to.faults ∙ empty_before _ _ (else-none _ _ (where-false (has_name to.before n.name) (fault.Duplicate n.at) fresh) none);
        names_are = to.names_are ∙ sym (append_assoc to.before (n.name ∷ []) (map plain_name rest));
        mask_is = one_more_name allowed to.before mask i n.name distinct few to.mask_is named;
      }

pub listing_ends : (declared allowed : List (List ℕ)) (all : List Spelled) (mask : ℕ) → ListedTo declared allowed all [] mask
    → (listed_faults declared allowed [] all ≡ []) × ListedMask allowed (map plain_name all) mask
listing_ends declared allowed all mask to =
    (to.faults, subst (λ (z : List (List ℕ)). ListedMask allowed z mask) (sym (to.names_are ∙ append-nil to.before)) to.mask_is)
