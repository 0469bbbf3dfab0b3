-- the elements of a word with a solution may end: their events exist, and one rule is the single step of a Fall
use Rattle.ta_witness.proofs.Common.{◌≡◌, inl, inr, ℕ, zero, suc, ◌+◌, ◌<◌, ◌≤◌, pos, List, [], ◌∷◌, ◌++◌, map, length, drop, reverse, eqb, true, Some}
use Rattle.ta_witness.proofs.Common.{slice_get, arith, refl, sym, ap, ◌∙◌, subst, append-nil, nat_tests, eqb_tells, slice_get_within, only_item, reverse_onto}
use Rattle.ta_witness.proofs.Common.{AllHold-left, Automaton, Pattern, In, times_in, Element, Event, Rise, Fall, LegalWord, allowed_rules, children, may_fire}
use Rattle.ta_witness.proofs.Common.{in_children, Meaning, Single, meanings, counts_after, AllHold, fall_rows, word_rows, one_single, singles_hold}
use Rattle.ta_witness.proofs.Common.{AllHold-right, unfolded, unfolded-may, allowed_may, EachMayEnd, IsSingle, MayEnd, length-append, replicate}
use Rattle.ta_base.proofs.Lists.{none_repeated}
use Rattle.ta_base.proofs.Members.{in_append, in_replicate}
use Rattle.ta_base.proofs.Times.{times-passed, times-some}
use Rattle.ta_encode.proofs.Segment.{EachMay, may_exists}
use Rattle.ta_witness.proofs.Backward.{values_of}
use Rattle.ta_witness.proofs.Lookups.{OtherElement, newer, single_value, value_for}

in_list : (al ws : List ℕ) (x : ℕ) → In x (unfolded al ws) → In x al
in_list [] ws x h = absurd h
in_list (q ∷ al) [] x h = absurd h
in_list (q ∷ al) (w ∷ ws) x h = elim (in_append x (replicate w q) (unfolded al ws) h) [ inl i ↦ inl (in_replicate x w q i) | inr i ↦ inr (in_list al ws x i) ]

-- where the unfolded list is one rule, which is once in the list, its value is 1
one_value : (al ws : List ℕ) (r : ℕ) → unfolded al ws ≡ r ∷ [] → times_in r al ≤ 1 → value_for al ws r ≡ 1
unfolding value_for times_in
one_value [] ws r e most = absurd (cc)
one_value (q ∷ al) [] r e most = absurd (cc)
one_value (q ∷ al) (zero ∷ ws) r e most = elim (eqb_tells q r) [
  | inl s ↦ absurd (let more = times-some r al (in_list al ws r (subst (In r) (sym e) (inl refl))) in let b : 1 + times_in r al ≤ 1 = (rw s.0 at most) in omega
      arith)
  | inr ne ↦ rw ne.0 (one_value al ws r e (let b : 0 + times_in r al ≤ 1 = (rw ne.0 at most) in omega arith))
]
one_value (q ∷ al) (suc n ∷ ws) r e most =
    let first : q ≡ r = cc in
    let rest : replicate n q ++ unfolded al ws ≡ [] = cc in
    let none = none_repeated n q (unfolded al ws) rest in
    let s : eqb q r ≡ true = grind (arith, nat_tests) in
    rw s (ap suc none)

-- a Fall has a single step
has_single : (a : Automaton) (p : Pattern) (start mask : ℕ) (past : List Element) (vs : List ℕ)
    → AllHold vs (fall_rows a p start past (meanings a p start past ++ counts_after a p start past) (meanings a p start (Fall mask ∷ past)) mask) → (r : ℕ)
    × IsSingle a (values_of a p start (Fall mask ∷ past) vs) (length past) r
unfolding allowed_rules
has_single a p start mask past vs h =
    let before = meanings a p start past ++ counts_after a p start past in
    let al = allowed_rules a p start past in
    let ws = drop (length before) vs in
    let one = only_item (unfolded al ws) (one_single before al vs (singles_hold a p start past before (meanings a p start (Fall mask ∷ past)) mask vs h)) in
    let r = one.0 in
    let may : may_fire a p start past (slice_get a.rules r) ≡ true =
    (subst (EachMay a p start past) one.1 (unfolded-may a p start past al ws (allowed_may a p start past))).0 in
    let rule = may_exists a p start past r may in
    let exists = slice_get_within a.rules r rule.0 rule.1 in
    let most : times_in r al ≡ 1 = times-passed (λ q. may_fire a p start past (slice_get a.rules q)) r 0 (length a.rules) may (omega arith) (omega arith) in
    (r, record { exists = exists; one = single_value a p start mask past vs r ∙ ap pos (one_value al ws r one.1 (omega (arith, most))) })

-- newer elements change no value of an older one's unknowns
newer_all : (a : Automaton) (p : Pattern) (start : ℕ) (more past : List Element) (vs : List ℕ) (m : Meaning) → ((n : ℕ) → length past ≤ n → OtherElement n m)
    → values_of a p start (more ++ past) vs m ≡ values_of a p start past vs m
newer_all a p start [] past vs m h = refl
newer_all a p start (x ∷ more) past vs m h = newer a p start x (more ++ past) (map pos vs) m
    (h (length (more ++ past)) (omega (arith, length-append more past))) ∙ newer_all a p start more past vs m h

older_rows : (a : Automaton) (p : Pattern) (start : ℕ) (more past : List Element) (vs : List ℕ) → AllHold vs (word_rows a p start (more ++ past))
    → AllHold vs (word_rows a p start past)
unfolding word_rows
older_rows a p start [] past vs h = h
older_rows a p start (Event e ∷ more) past vs h = older_rows a p start more past vs (AllHold-left vs (word_rows a p start (more ++ past)) _ h)
older_rows a p start (Rise i ∷ more) past vs h = older_rows a p start more past vs (AllHold-left vs (word_rows a p start (more ++ past)) _ h)
older_rows a p start (Fall mask ∷ more) past vs h = older_rows a p start more past vs (AllHold-left vs (word_rows a p start (more ++ past)) _ h)

older_legal : (a : Automaton) (p : Pattern) (start : ℕ) (more past : List Element) → LegalWord a p start (more ++ past) → LegalWord a p start past
older_legal a p start [] past h = h
older_legal a p start (x ∷ more) past h = older_legal a p start more past h.1

event_exists : (a : Automaton) (p : Pattern) (start : ℕ) (past : List Element) (e : ℕ) → In (Event e) (children a p [] start past) → e < length p.events
event_exists a p start past e h = elim (in_children a p [] start past (Event e) h) [
  | inl c ↦ (let same : e ≡ c.0 = same_event e c.0 c.1 in let b = c.4 in omega arith)
  | inr (inl c) ↦ absurd (let q = c.1 in cc)
  | inr (inr c) ↦ absurd (let q = c.1 in cc)
] where
  same_event : (x y : ℕ) → Event x ≡ Event y → x ≡ y
  same_event x y q = cc

-- the newest element may end, by the values of a longer word
newest_ends : (a : Automaton) (p : Pattern) (start : ℕ) (more : List Element) (x : Element) (past : List Element) (vs : List ℕ) → LegalWord a p start (x ∷ past)
    → AllHold vs (word_rows a p start (x ∷ past)) → MayEnd a p (values_of a p start (more ++ (x ∷ past)) vs) (length past) x
unfolding word_rows
newest_ends a p start more (Event e) past vs legal h = event_exists a p start past e legal.0
newest_ends a p start more (Rise i) past vs legal h = tt
newest_ends a p start more (Fall mask) past vs legal h =
    let w = has_single a p start mask past vs (AllHold-right vs (word_rows a p start past) _ h) in
    let same = newer_all a p start more (Fall mask ∷ past) vs (Single (length past) w.0) (λ n b e. omega arith) in
    (w.0, record { exists = w.1.exists; one = same ∙ w.1.one })

ends_onto : (a : Automaton) (p : Pattern) (start : ℕ) (word past : List Element) (vs : List ℕ) → LegalWord a p start (reverse word ++ past)
    → AllHold vs (word_rows a p start (reverse word ++ past)) → (k : ℕ) (element : Element) → slice_get word k ≡ Some element
    → MayEnd a p (values_of a p start (reverse word ++ past) vs) (length past + k) element
ends_onto a p start [] past vs legal h k element at = absurd (cc)
ends_onto a p start (x ∷ word) past vs legal h zero element at =
    let same : x ≡ element = cc in
    let onto = reverse_onto x word past in
    let now : LegalWord a p start (x ∷ past) = older_legal a p start (reverse word) (x ∷ past) (subst (LegalWord a p start) onto legal) in
    let rows = older_rows a p start (reverse word) (x ∷ past) vs (subst (λ (xs : List Element). AllHold vs (word_rows a p start xs)) onto h) in
    let ends = newest_ends a p start (reverse word) x past vs now rows in
    let number : length past ≡ length past + 0 = omega arith in
    subst (λ (y : Element). MayEnd a p (values_of a p start (reverse (x ∷ word) ++ past) vs) (length past + 0) y) same
    (subst (λ (xs : List Element). MayEnd a p (values_of a p start xs vs) (length past + 0) x) (sym onto)
    (subst (λ (n : ℕ). MayEnd a p (values_of a p start (reverse word ++ (x ∷ past)) vs) n x) number ends))
ends_onto a p start (x ∷ word) past vs legal h (suc k) element at =
    let onto = reverse_onto x word past in
    let ends = ends_onto a p start word (x ∷ past) vs (subst (LegalWord a p start) onto legal)
    (subst (λ (xs : List Element). AllHold vs (word_rows a p start xs)) onto h) k element at in
    let number : suc (length past) + k ≡ length past + suc k = omega arith in
    subst (λ (xs : List Element). MayEnd a p (values_of a p start xs vs) (length past + suc k) element) (sym onto)
    (subst (λ (n : ℕ). MayEnd a p (values_of a p start (reverse word ++ (x ∷ past)) vs) n element) number ends)

pub each_ends : (a : Automaton) (p : Pattern) (start : ℕ) (word : List Element) (vs : List ℕ) → LegalWord a p start (reverse word)
    → AllHold vs (word_rows a p start (reverse word)) → EachMayEnd a p (values_of a p start (reverse word) vs) word
each_ends a p start word vs legal h k element at =
    let none = append-nil (reverse word) in
    let ends = ends_onto a p start word [] vs (subst (LegalWord a p start) (sym none) legal)
    (subst (λ (xs : List Element). AllHold vs (word_rows a p start xs)) (sym none) h) k element at in
    let number : 0 + k ≡ k = omega arith in
    subst (λ (xs : List Element). MayEnd a p (values_of a p start xs vs) k element) none
    (subst (λ (n : ℕ). MayEnd a p (values_of a p start (reverse word ++ []) vs) n element) number ends)
