-- the masks of a word, element by element
use Rattle.ta_words.proofs.Common.{◌≡◌, ℕ, ◌-◌, ◌*◌, ◌%◌, ◌<◌, ◌≤◌, ◌^◌, List, [], ◌∷◌, length, Bool, true, false, not, ◌&&◌, ◌||◌, Some, arith, sym, ap, ◌∙◌}
use Rattle.ta_words.proofs.Common.{refl, ◌==◌, all_below-same, first_numbers, has_none, and_then, first_bits_below, Automaton, Pattern, Rule, has_bit}
use Rattle.ta_words.proofs.Common.{all_below, implies, IsSeen, has_event, has_rise, has_fallen, is_complete, may_fire, Element, Event, Rise, Fall, Seen}
use mathlib.Core.Bool.{and_assoc}

pub none_seen : (start : ℕ) → IsSeen (record { events = 0; rises = 0; fallen = start }) start []
unfolding has_event has_rise has_fallen
none_seen start = record { events = λ e b. has_none e; rises = λ i b. has_none i; fallen = λ j. refl }

pub event_seen : (seen : Seen) (mask e start : ℕ) (past : List Element) → ((i : ℕ) → i < 128 → has_bit mask i ≡ ((e == i) || has_bit seen.events i))
    → IsSeen seen start past → IsSeen (record { events = mask; rises = seen.rises; fallen = seen.fallen }) start (Event e ∷ past)
unfolding has_event has_rise has_fallen
event_seen seen mask e start past h is = record {
  events = λ i b. h i b ∙ ap (λ x. (e == i) || x) (is.events i b);
  rises = is.rises;
  fallen = is.fallen;
}

pub rise_seen : (seen : Seen) (mask r start : ℕ) (past : List Element) → ((i : ℕ) → i < 128 → has_bit mask i ≡ ((r == i) || has_bit seen.rises i))
    → IsSeen seen start past → IsSeen (record { events = seen.events; rises = mask; fallen = seen.fallen }) start (Rise r ∷ past)
unfolding has_event has_rise has_fallen
rise_seen seen mask r start past h is = record {
  events = is.events;
  rises = λ i b. h i b ∙ ap (λ x. (r == i) || x) (is.rises i b);
  fallen = is.fallen;
}

pub fall_seen : (seen : Seen) (mask falls start : ℕ) (past : List Element) → ((j : ℕ) → has_bit mask j ≡ (has_bit falls j || has_bit seen.fallen j))
    → IsSeen seen start past → IsSeen (record { events = seen.events; rises = seen.rises; fallen = mask }) start (Fall falls ∷ past)
unfolding has_event has_rise has_fallen
fall_seen seen mask falls start past h is = record {
  events = is.events;
  rises = is.rises;
  fallen = λ j. h j ∙ ap (λ x. has_bit falls j || x) (is.fallen j);
}

-- tests of sets, by the masks
pub named_events : (n mask : ℕ) (seen : Seen) (start : ℕ) (past : List Element) → n ≤ 128 → IsSeen seen start past
    → all_below n (λ f. implies (has_bit mask f) (has_bit seen.events f)) ≡ all_below n (λ f. implies (has_bit mask f) (has_event past f))
named_events n mask seen start past h is = all_below-same n _ _ (λ f b. ap (implies (has_bit mask f)) (is.events f (omega arith)))

pub named_rises : (n mask : ℕ) (seen : Seen) (start : ℕ) (past : List Element) → n ≤ 128 → IsSeen seen start past
    → all_below n (λ f. implies (has_bit mask f) (has_bit seen.rises f)) ≡ all_below n (λ f. implies (has_bit mask f) (has_rise past f))
named_rises n mask seen start past h is = all_below-same n _ _ (λ f b. ap (implies (has_bit mask f)) (is.rises f (omega arith)))

pub named_falls : (n mask : ℕ) (seen : Seen) (start : ℕ) (past : List Element) → IsSeen seen start past
    → all_below n (λ f. implies (has_bit mask f) (not (has_bit seen.fallen f))) ≡ all_below n (λ f. implies (has_bit mask f) (not (has_fallen start past f)))
named_falls n mask seen start past is = all_below-same n _ _ (λ f b. ap (λ x. implies (has_bit mask f) (not x)) (is.fallen f))

-- a rule is allowed if it moves outside the empty locations and is unlocked
pub allowed : (a : Automaton) (p : Pattern) (start : ℕ) (past : List Element) (rule : Rule) (x y : Bool)
    → x ≡ (not (rule.from == rule.to) && (not (has_bit p.empty rule.from) && not (has_bit p.empty rule.to)))
    → y ≡ (all_below (length a.rise) (λ i. implies (has_bit rule.rise i) (has_rise past i))
    && all_below (length a.fall) (λ j. implies (has_bit rule.fall j) (not (has_fallen start past j))))
    → (x && y) ≡ may_fire a p start past (Some rule)
allowed a p start past rule x y e f =
    let moves = not (rule.from == rule.to) in
    let from_outside = not (has_bit p.empty rule.from) in
    let to_outside = not (has_bit p.empty rule.to) in
    let risen = all_below (length a.rise) (λ i. implies (has_bit rule.rise i) (has_rise past i)) in
    let standing = all_below (length a.fall) (λ j. implies (has_bit rule.fall j) (not (has_fallen start past j))) in
    ap (λ b. b && y) e ∙ ap (λ b. (moves && (from_outside && to_outside)) && b) f
    ∙ (and_assoc moves (from_outside && to_outside) (risen && standing) ∙ ap (λ b. moves && b) (and_assoc from_outside to_outside (risen && standing)))

pub ready : (seen : Seen) (event after from n start : ℕ) (past : List Element) (r : Bool) → IsSeen seen start past → event < 128 → from ≡ after → after < 2 ^ n
    → n ≤ 128 → has_bit seen.events event ≡ false
    → ((k : ℕ) → from < 2 ^ k → r ≡ all_below k (λ f. implies (has_bit from f) (has_bit seen.events f)))
    → r ≡ (not (has_event past event) && all_below n (λ f. implies (has_bit after f) (has_event past f)))
ready seen event after from n start past r is below same within few none told =
    let bound : from < 2 ^ n = rw same within in
    and_then (not (has_event past event)) r _ (ap not (sym (is.events event below) ∙ none))
    (told n bound ∙ named_events n from seen start past few is ∙ ap (λ m. all_below n (λ f. implies (has_bit m f) (has_event past f))) same)

pub unlocked : (seen : Seen) (rises falls rise fall from to start : ℕ) (past : List Element) (x y : Bool) → IsSeen seen start past → rises ≤ 128 → from ≡ rise
    → to ≡ fall → rise < 2 ^ rises → fall < 2 ^ falls → x ≡ true
    → ((k : ℕ) → from < 2 ^ k → x ≡ all_below k (λ i. implies (has_bit from i) (has_bit seen.rises i)))
    → ((k : ℕ) → to < 2 ^ k → y ≡ all_below k (λ j. implies (has_bit to j) (not (has_bit seen.fallen j))))
    → y ≡ (all_below rises (λ i. implies (has_bit rise i) (has_rise past i)) && all_below falls (λ j. implies (has_bit fall j) (not (has_fallen start past j))))
unlocked seen rises falls rise fall from to start past x y is few same equal within inside t told said =
    let bound : from < 2 ^ rises = rw same within in
    let limit : to < 2 ^ falls = rw equal inside in
    and_then _ y _
    (sym (sym t ∙ told rises bound ∙ named_rises rises from seen start past few is
    ∙ ap (λ m. all_below rises (λ i. implies (has_bit m i) (has_rise past i))) same))
    (said falls limit ∙ named_falls falls to seen start past is ∙ ap (λ m. all_below falls (λ j. implies (has_bit m j) (not (has_fallen start past j)))) equal)

-- where a rise guard of a rule is not in the word
pub locked : (seen : Seen) (rises rise from start : ℕ) (past : List Element) (x z : Bool) → IsSeen seen start past → rises ≤ 128 → from ≡ rise
    → rise < 2 ^ rises
    → x ≡ false
    → ((k : ℕ) → from < 2 ^ k → x ≡ all_below k (λ i. implies (has_bit from i) (has_bit seen.rises i)))
    → x ≡ (all_below rises (λ i. implies (has_bit rise i) (has_rise past i)) && z)
locked seen rises rise from start past x z is few same within t told =
    let bound : from < 2 ^ rises = rw same within in
    t ∙ ap (λ b. b && z) (sym (sym (sym t ∙ told rises bound ∙ named_rises rises from seen start past few is
    ∙ ap (λ m. all_below rises (λ i. implies (has_bit m i) (has_rise past i))) same)))

pub complete : (seen : Seen) (p : Pattern) (n start : ℕ) (past : List Element) (r : Bool) → IsSeen seen start past → n ≡ length p.events → length p.events ≤ 8
    → ((k : ℕ) → ((1 * 2 ^ n) % 340282366920938463463374607431768211456) - 1 < 2 ^ k
    → r ≡ all_below k (λ f. implies (has_bit ((1 * 2 ^ n) % 340282366920938463463374607431768211456 - 1) f) (has_bit seen.events f)))
    → r ≡ is_complete p past
complete seen p n start past r is same few told =
    let small : n < 128 = omega arith in
    told n (first_bits_below 128 n small) ∙ first_numbers 128 n (has_bit seen.events) small
    ∙ all_below-same n (has_bit seen.events) (has_event past) (λ e b. is.events e (omega arith)) ∙ ap (λ k. all_below k (has_event past)) same
