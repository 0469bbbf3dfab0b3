-- what is to be asked may be asked
use Rattle.ta_moments.proofs.Common.{◌≡◌, ◌⊎◌, inl, inr, ℕ, ◌<◌, List, [], ◌∷◌, ◌&&◌, length, slice_get, Some, None, Option, Bool, true, false, not, cond}
use Rattle.ta_moments.proofs.Common.{arith, ap, refl, subst, length-append, and_parts, same_Some, range_with_len, In, in_filter, in_map, in_numbers, Automaton}
use Rattle.ta_moments.proofs.Common.{Pattern, Question, OfGuard, OfOrder, OfStuck, Fact, may_be_stuck, Vector, guards, end_vector, Asking, Exists, Known}
use Rattle.ta_moments.proofs.Common.{known_at, sym, find, option_map, option_or, is_open, GuardAtEnd, RuleAtEnd, Values, are_settled, first_order, guard_to_ask}
use Rattle.ta_moments.proofs.Common.{guards_at_end, is_guard_open, is_needed, is_order_open, is_rule_open, order_to_ask, parts_at, rule_to_ask, rules_at_end}
use Rattle.ta_moments.specs.Questions.{QuestionsMayBeAsked, fails_at_end}
use Rattle.ta_moments.specs.Questions.{would_fire}

-- what is found passes, and stands in the list
pub find_passes : {X : Type 0} (test : X → Bool) (xs : List X) (x : X) → find test xs ≡ Some x → (test x ≡ true) × In x xs
find_passes test [] x e = absurd (cc)
find_passes {X = X} test (y ∷ xs) x e = by_test (test y) refl (λ h. find_passes test xs x h) e where
  by_test : (b : Bool) → test y ≡ b → (find test xs ≡ Some x → (test x ≡ true) × In x xs) → cond b (Some y) (find test xs) ≡ Some x → (test x ≡ true)
      × In x (y ∷ xs)
  by_test true t later h = let same : y ≡ x = same_Some y x h in (subst (λ (z : X). test z ≡ true) same t, inl (sym same))
  by_test false t later h = let w = later h in (w.0, inr w.1)

or_some : {X : Type 0} (o other : Option X) (x : X) → option_or o other ≡ Some x → (o ≡ Some x) ⊎ (other ≡ Some x)
or_some None other x e = inr e
or_some (Some y) other x e = inl e

map_some : {X Y : Type 0} (f : X → Y) (o : Option X) (y : Y) → option_map f o ≡ Some y → (x : X) × (o ≡ Some x) × (f x ≡ y)
map_some f None y e = absurd (cc)
map_some f (Some x) y e = (x, refl, same_Some (f x) y e)

-- a question that may be asked
abbrev MayBeAsked : Automaton → Pattern → Asking → Known → List Fact → Question → Type 0
MayBeAsked a p asking k past question = (is_open past question ≡ true) × Exists a p asking k question

guard_found : (past : List Fact) (values : Values) (end : Vector) (gs : List GuardAtEnd) (guard : GuardAtEnd) → guard_to_ask past values end gs ≡ Some guard
    → (is_guard_open past values end guard ≡ true) × In guard gs
guard_found past values end gs guard e = elim
    (or_some (find (λ g. is_guard_open past values end g && fails_at_end values g) gs) (find (is_guard_open past values end) gs) guard e) [
      | inl h ↦ (
          let w = find_passes (λ g. is_guard_open past values end g && fails_at_end values g) gs guard h in
          ((and_parts (is_guard_open past values end guard) (fails_at_end values guard) w.0).0, w.1))
      | inr h ↦ find_passes (is_guard_open past values end) gs guard h
    ]

guard_asked : (a : Automaton) (p : Pattern) (asking : Asking) (k : Known) (past : List Fact) (values : Values) (end : Vector) (guard : GuardAtEnd)
    → guard_to_ask past values end (guards_at_end a p end) ≡ Some guard → MayBeAsked a p asking k past (OfGuard guard.number)
guard_asked a p asking k past values end guard e =
    let found = guard_found past values end (guards_at_end a p end) guard e in
    let parts = and_parts (is_open past (OfGuard guard.number)) (is_needed values end guard) found.0 in
    let from = in_map _ guard (range_with_len 0 (length (guards a))) found.1 in
    let within = in_numbers from.0 0 (length (guards a)) from.1 in
    let same : guard.number ≡ from.0 = ap (λ (x : GuardAtEnd). x.number) from.2 in
    (parts.0, (let less = within.1 in omega (arith, less, same, length-append a.rise a.fall)))

order_asked : (a : Automaton) (p : Pattern) (asking : Asking) (k : Known) (moving : List ℕ) (past : List Fact) (values : Values) (ys : List ℕ)
    → ((y : ℕ) → In y ys → y < length k.moments) → (question : Question) → first_order moving past values k.moments ys ≡ Some question
    → MayBeAsked a p asking k past question
order_asked a p asking k moving past values [] within question e = absurd (cc)
order_asked a p asking k moving past values (y ∷ ys) within question e =
    let test = is_order_open moving past values k.moments y in
    elim (or_some (option_map (λ x. OfOrder x y) (find test (range_with_len 0 y))) (first_order moving past values k.moments ys) question e) [
      | inl h ↦ (
          let w = map_some (λ x. OfOrder x y) (find test (range_with_len 0 y)) question h in
          let x = w.0 in
          let found = find_passes test (range_with_len 0 y) x w.1 in
          let parts = and_parts (is_open past (OfOrder x y)) (not (are_settled moving values (slice_get k.moments x) (slice_get k.moments y))) found.0 in
          let less = in_numbers x 0 y found.1 in
          subst (MayBeAsked a p asking k past) w.2 (parts.0, ((let b = less.1 in omega (arith, b)), within y (inl refl))))
      | inr h ↦ order_asked a p asking k moving past values ys (λ z i. within z (inr i)) question h
    ]

rule_asked : (a : Automaton) (p : Pattern) (asking : Asking) (k : Known) (past : List Fact) (values : Values) (end : Vector) (b : Bool) → asking.rest ≡ b
    → (rule : RuleAtEnd) → rule_to_ask past values (cond b (rules_at_end a p asking.silent end) []) ≡ Some rule
    → MayBeAsked a p asking k past (OfStuck rule.number)
rule_asked a p asking k past values end false rest rule e = absurd (cc)
rule_asked a p asking k past values end true rest rule e =
    let found = find_passes (is_rule_open past values) (rules_at_end a p asking.silent end) rule e in
    let parts = and_parts (is_open past (OfStuck rule.number)) (would_fire values rule) found.0 in
    let from = in_map _ rule _ found.1 in
    let may = in_filter (λ r. may_be_stuck p (slice_get a.rules r)) from.0 (range_with_len 0 (length a.rules)) from.1 in
    let same : from.0 ≡ rule.number = sym (ap (λ (x : RuleAtEnd). x.number) from.2) in
    (parts.0, (rest, subst (λ (r : ℕ). may_be_stuck p (slice_get a.rules r) ≡ true) same may.0))

pub may_be_asked : QuestionsMayBeAsked
may_be_asked a p asking node values question e =
    let k = known_at a p asking node in
    let past = node.past in
    let end = end_vector a p node.candidate in
    let moving = (parts_at a p asking node).moving in
    let rules = (parts_at a p asking node).rules in
    let orders = order_to_ask moving past values k.moments in
    let stuck = option_map (λ (rule : RuleAtEnd). OfStuck rule.number) (rule_to_ask past values rules) in
    elim (or_some (option_map (λ (guard : GuardAtEnd). OfGuard guard.number) (guard_to_ask past values end (guards_at_end a p end))) (option_or orders stuck)
    question e) [
      | inl h ↦ (
          let w = map_some (λ (guard : GuardAtEnd). OfGuard guard.number) (guard_to_ask past values end (guards_at_end a p end)) question h in
          subst (MayBeAsked a p asking k past) w.2 (guard_asked a p asking k past values end w.0 w.1))
      | inr h ↦ elim (or_some orders stuck question h) [
        | inl order ↦ order_asked a p asking k moving past values (range_with_len 0 (length k.moments))
            (λ y i. (let w = in_numbers y 0 (length k.moments) i in let b = w.1 in omega (arith, b))) question order
        | inr rest ↦ (
            let w = map_some (λ (rule : RuleAtEnd). OfStuck rule.number) (rule_to_ask past values rules) question rest in
            subst (MayBeAsked a p asking k past) w.2 (rule_asked a p asking k past values end asking.rest refl w.0 w.1))
      ]
    ]
