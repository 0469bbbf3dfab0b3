-- Reading lists with commas, and blocks behind their keywords.
use Rattle.ta_syntax.proofs.Common.{◌≡◌, ℕ, zero, suc, ◌+◌, ◌<◌, Bool, true, false, cond, List, [], ◌∷◌, ◌++◌, length, refl, sym, ap, subst, ◌∙◌, append_assoc}
use Rattle.ta_syntax.proofs.Common.{length-append, arith, append-nil, listed, further, each, Offsets, unplaced, offset_of, Kind, Mark, Token, FileFault, Err}
use Rattle.ta_syntax.proofs.Common.{Production, nothing, both, stands, first, many, wrong, Parsed, a_mark, maybe, Step, Took, Halts, TookSome, TookUpTo}
use Rattle.ta_syntax.proofs.Common.{BeginsWithKind, IsOther, with_mark}
use Rattle.ta_syntax.proofs.Steps.{then, stay, respell, first_of_both, past, chosen, not_chosen, take_mark, stands_mark, other_mark, stops, stops_in}
use Rattle.ta_syntax.proofs.Steps.{maybe_taken}
use Rattle.ta_syntax.proofs.Steps.{maybe_skipped}
use Rattle.ta_syntax.specs.declared.tokens.Kind.TheVariants as kind
use Rattle.ta_syntax.specs.declared.tokens.Mark.TheVariants as mark
use Rattle.ta_syntax.specs.declared.fault.FileFault.TheVariants as fault
use Rattle.ta_syntax.specs.FileGrammar as grammar

-- ---- past the limit

pub past_many : (g : Production) (end at : ℕ) (tokens : List Token) → stands (first g) tokens ≡ true → at ≡ offset_of end tokens
    → Halts (grammar.items 0 g) end tokens (fault.TooMany at)
past_many g end at tokens s at_is = (
  (many, tokens),
  ap (λ (z : Bool). let r : Parsed = Err (cond z many wrong, tokens) in r) s,
  ap (λ (z : ℕ). fault.TooMany z) at_is,
)

pub past_wrong : (g : Production) (end at : ℕ) (tokens : List Token) → stands (first g) tokens ≡ false → at ≡ offset_of end tokens
    → Halts (grammar.items 0 g) end tokens (fault.Syntax at)
past_wrong g end at tokens s at_is = (
  (wrong, tokens),
  ap (λ (z : Bool). let r : Parsed = Err (cond z many wrong, tokens) in r) s,
  ap (λ (z : ℕ). fault.Syntax z) at_is,
)

-- ---- the items so far, each with its comma

abbrev pub separated : {A B : Type 0} → (Mark → B) → (A → List B) → List A → List B
separated fixed item [] = []
separated fixed item (x ∷ xs) = item x ++ fixed mark.Comma ∷ separated fixed item xs

separated-push : {A B : Type 0} (fixed : Mark → B) (item : A → List B) (xs : List A) (x : A) → (separated fixed item xs ++ item x)
    ++ fixed mark.Comma ∷ [] ≡ separated fixed item (xs ++ x ∷ [])
separated-push fixed item [] x = refl
separated-push fixed item (y ∷ xs) x =
    append_assoc (item y ++ fixed mark.Comma ∷ separated fixed item xs) (item x) (fixed mark.Comma ∷ [])
    ∙ append_assoc (item y) (fixed mark.Comma ∷ separated fixed item xs) (item x ++ fixed mark.Comma ∷ [])
    ∙ ap (λ z. item y ++ fixed mark.Comma ∷ z) (sym (append_assoc (separated fixed item xs) (item x) (fixed mark.Comma ∷ [])) ∙ separated-push fixed item xs x)

further-push : {A B : Type 0} (fixed : Mark → B) (item : A → List B) (xs : List A) (x : A)
    → further fixed item (xs ++ x ∷ []) ≡ fixed mark.Comma ∷ (separated fixed item xs ++ item x)
further-push fixed item [] x = ap (λ z. fixed mark.Comma ∷ z) (append-nil (item x))
further-push fixed item (y ∷ xs) x = ap (λ z. fixed mark.Comma ∷ (item y ++ z)) (further-push fixed item xs x)
    ∙ ap (λ z. fixed mark.Comma ∷ z) (sym (append_assoc (item y) (fixed mark.Comma ∷ separated fixed item xs) (item x)))

listed-push : {A B : Type 0} (fixed : Mark → B) (item : A → List B) (xs : List A) (x : A) → separated fixed item xs ++ item x ≡ listed fixed item (xs ++ x ∷ [])
listed-push fixed item [] x = sym (append-nil (item x))
listed-push fixed item (y ∷ xs) x = append_assoc (item y) (fixed mark.Comma ∷ separated fixed item xs) (item x)
    ∙ ap (λ z. item y ++ z) (sym (further-push fixed item xs x))

each-push : {A B : Type 0} (f : A → List B) (xs : List A) (x : A) → each f xs ++ f x ≡ each f (xs ++ x ∷ [])
each-push f [] x = sym (append-nil (f x))
each-push f (y ∷ xs) x = append_assoc (f y) (each f xs) (f x) ∙ ap (λ z. f y ++ z) (each-push f xs x)

-- what the loop keeps: so many items may still come
pub record ListSoFar {A : Type 0} (g : Production) (spelled : A → List Kind) (stated : A → List Offsets) (limit : ℕ) (items : List A)
    (tokens rest : List Token) : Type 0 where
  pub left : ℕ
  pub few : length items + left ≡ limit
  pub step : Step (grammar.items limit g) tokens rest (grammar.items left g) (separated kind.Fixed spelled items) (separated unplaced stated items)

module _ {A : Type 0} (g : Production) (spelled : A → List Kind) (stated : A → List Offsets) (limit : ℕ) (tokens : List Token) where
  pub list_begins : ListSoFar g spelled stated limit [] tokens tokens
  list_begins = record { left = limit; few = omega arith; step = stay }

  pub list_past : (end : ℕ) (items : List A) (rest : List Token) (e : FileFault) → length items ≡ limit → ListSoFar g spelled stated limit items tokens rest
      → Halts (grammar.items 0 g) end rest e → Halts (grammar.items limit g) end tokens e
  list_past end items rest e full so_far h = let none : 0 ≡ so_far.left = omega (arith, so_far.few) in
      stops end e so_far.step (subst (λ (n : ℕ). Halts (grammar.items n g) end rest e) none h)

  -- one more may come
  step_item : (items : List A) (rest : List Token) (left : ℕ) → length items + left ≡ limit → length items < limit
      → Step (grammar.items limit g) tokens rest (grammar.items left g) (separated kind.Fixed spelled items) (separated unplaced stated items)
      → (n : ℕ) × (length items + suc n ≡ limit)
      × Step (grammar.items limit g) tokens rest (both g (maybe mark.Comma (grammar.items n g))) (separated kind.Fixed spelled items)
      (separated unplaced stated items)
  step_item items rest zero few more s = absurd (omega arith)
  step_item items rest (suc n) few more s = (n, few, s)

  pub list_stops : (end : ℕ) (items : List A) (rest : List Token) (e : FileFault) → length items < limit → ListSoFar g spelled stated limit items tokens rest
      → Halts g end rest e → Halts (grammar.items limit g) end tokens e
  list_stops end items rest e more so_far h = let s = step_item items rest so_far.left so_far.few more so_far.step in stops_in end e s.2 h

  pub list_goes_on : (items : List A) (x : A) (rest after after_comma : List Token) → length items < limit → ListSoFar g spelled stated limit items tokens rest
      → Took g (spelled x) (stated x) rest after → BeginsWithKind after (kind.Fixed mark.Comma) after_comma
      → ListSoFar g spelled stated limit (items ++ x ∷ []) tokens after_comma
  list_goes_on items x rest after after_comma more so_far took b =
      let s = step_item items rest so_far.left so_far.few more so_far.step in
      record {
        left = s.0;
        few = omega (arith, s.1, length-append items (x ∷ []));
        step = respell (then (then s.2 (past took)) (maybe_taken mark.Comma b)) (separated-push kind.Fixed spelled items x)
            (separated-push unplaced stated items x);
      }

  pub list_ends : (items : List A) (x : A) (rest after : List Token) → length items < limit → ListSoFar g spelled stated limit items tokens rest
      → Took g (spelled x) (stated x) rest after → IsOther after mark.Comma
      → TookSome limit (items ++ x ∷ []) (grammar.items limit g) (listed kind.Fixed spelled (items ++ x ∷ [])) (listed unplaced stated (items ++ x ∷ [])) tokens
      after
  list_ends items x rest after more so_far took other =
      let s = step_item items rest so_far.left so_far.few more so_far.step in
      record {
        some = omega (arith, length-append items (x ∷ []));
        few = omega (arith, length-append items (x ∷ []));
        took = respell (then (then s.2 (past took)) (maybe_skipped mark.Comma other))
            (append-nil (separated kind.Fixed spelled items ++ spelled x) ∙ listed-push kind.Fixed spelled items x)
            (append-nil (separated unplaced stated items ++ stated x) ∙ listed-push unplaced stated items x);
      }

-- ---- blocks

-- what the loop keeps: so many blocks may still come
pub record BlocksSoFar {A : Type 0} (m : Mark) (g : Production) (body : A → List Kind) (stated : A → List Offsets) (limit : ℕ) (items : List A)
    (tokens rest : List Token) : Type 0 where
  pub left : ℕ
  pub few : length items + left ≡ limit
  pub step : Step (grammar.blocks limit m g) tokens rest (grammar.blocks left m g) (each (with_mark (kind.Fixed m) body) items)
      (each (with_mark [] stated) items)

module _ {A : Type 0} (m : Mark) (g : Production) (body : A → List Kind) (stated : A → List Offsets) (limit : ℕ) (tokens : List Token) where
  pub blocks_begin : BlocksSoFar m g body stated limit [] tokens tokens
  blocks_begin = record { left = limit; few = omega arith; step = stay }

  past_block : (end at : ℕ) (rest inner : List Token) → BeginsWithKind rest (kind.Fixed m) inner → at ≡ offset_of end rest
      → Halts (grammar.blocks 0 m g) end rest (fault.TooMany at)
  past_block end at rest inner b at_is = (
    (many, rest),
    ap (λ (z : Bool). let r : Parsed = cond z (Err (cond z many wrong, rest)) (Rattle.std.proofs.Common.Ok rest) in r) (stands_mark m b),
    ap (λ (z : ℕ). fault.TooMany z) at_is,
  )

  pub blocks_past : (end at : ℕ) (items : List A) (rest inner : List Token) → length items ≡ limit → BlocksSoFar m g body stated limit items tokens rest
      → BeginsWithKind rest (kind.Fixed m) inner → at ≡ offset_of end rest → Halts (grammar.blocks limit m g) end tokens (fault.TooMany at)
  blocks_past end at items rest inner full so_far b at_is = let none : 0 ≡ so_far.left = omega (arith, so_far.few) in
      stops end (fault.TooMany at) so_far.step
      (subst (λ (n : ℕ). Halts (grammar.blocks n m g) end rest (fault.TooMany at)) none (past_block end at rest inner b at_is))

  -- one more comes
  step_block : (left : ℕ) (items : List A) (rest inner : List Token) → length items + left ≡ limit → length items < limit
      → BeginsWithKind rest (kind.Fixed m) inner → (n : ℕ) × (length items + suc n ≡ limit)
      × Step (grammar.blocks left m g) rest inner (both g (grammar.blocks n m g)) (kind.Fixed m ∷ []) ([] ∷ [])
  step_block zero items rest inner few more b = absurd (omega arith)
  step_block (suc n) items rest inner few more b = (
    n,
    few,
    then (chosen {a = both (both (a_mark m) g) (grammar.blocks n m g)} {b = nothing} (stands_mark m b)) (first_of_both (past (take_mark m b))),
  )

  pub blocks_stop : (end : ℕ) (items : List A) (rest inner : List Token) (e : FileFault) → length items < limit
      → BlocksSoFar m g body stated limit items tokens rest → BeginsWithKind rest (kind.Fixed m) inner → Halts g end inner e
      → Halts (grammar.blocks limit m g) end tokens e
  blocks_stop end items rest inner e more so_far b h = let s = step_block so_far.left items rest inner so_far.few more b in
      stops_in end e (then so_far.step s.2) h

  pub blocks_go_on : (items : List A) (x : A) (rest inner after : List Token) → length items < limit → BlocksSoFar m g body stated limit items tokens rest
      → BeginsWithKind rest (kind.Fixed m) inner → Took g (body x) (stated x) inner after → BlocksSoFar m g body stated limit (items ++ x ∷ []) tokens after
  blocks_go_on items x rest inner after more so_far b took =
      let s = step_block so_far.left items rest inner so_far.few more b in
      record {
        left = s.0;
        few = omega (arith, s.1, length-append items (x ∷ []));
        step = respell (then so_far.step (then s.2 (past took))) (each-push (with_mark (kind.Fixed m) body) items x) (each-push (with_mark [] stated) items x);
      }

  no_block : (left : ℕ) (rest : List Token) → IsOther rest m → Took (grammar.blocks left m g) [] [] rest rest
  no_block zero rest o = not_chosen (other_mark m rest o)
  no_block (suc n) rest o = not_chosen (other_mark m rest o)

  pub blocks_end : (items : List A) (rest : List Token) → BlocksSoFar m g body stated limit items tokens rest → IsOther rest m
      → TookUpTo limit items (grammar.blocks limit m g) (each (with_mark (kind.Fixed m) body) items) (each (with_mark [] stated) items) tokens rest
  blocks_end items rest so_far other = record {
    few = omega (arith, so_far.few);
    took = respell (then so_far.step (no_block so_far.left rest other)) (append-nil (each (with_mark (kind.Fixed m) body) items))
        (append-nil (each (with_mark [] stated) items));
  }
