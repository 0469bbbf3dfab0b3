-- Steps of reading, and how they go together.
use Rattle.ta_syntax.proofs.Common.{◌≡◌, ℕ, ◌≤◌, Bool, true, false, cond, List, [], ◌∷◌, ◌++◌, refl, sym, ap, subst, ◌∙◌, append_assoc, arith, length}
use Rattle.ta_syntax.proofs.Common.{length-append, AllByRecursion, relation_kind, sign_kind, Offsets, IsPlaced, at_first, kinds, offset_of, Kind, Mark}
use Rattle.ta_syntax.proofs.Common.{Relation, Sign, Token, FileFault, Ok, Err, Class, wrong, code, mark_code, has, only, names, numbers, stands, followed_by}
use Rattle.ta_syntax.proofs.Common.{parse, Production, one, both, choose, a_mark, a_name, a_number, signs, relations, maybe, Step, Took, Halts, BeginsWithKind}
use Rattle.ta_syntax.proofs.Common.{IsOther, IsUnexpected, NoNumber, IsUnnamed}
use Rattle.ta_syntax.specs.Reading.{NoName, NoRelation}
pub use Rattle.ta_syntax.proofs.Counting.{kinds-append}
use Rattle.ta_syntax.proofs.FileSpans.{only_is, sign_is, relation_is, no_mark}
use Rattle.ta_syntax.specs.declared.tokens.Kind.TheVariants as kind
use Rattle.ta_syntax.specs.declared.tokens.Mark.TheVariants as mark
use Rattle.ta_syntax.specs.declared.tokens.Relation.TheVariants as relation
use Rattle.ta_syntax.specs.declared.sums.Sign.TheVariants as sign
use Rattle.ta_syntax.specs.declared.fault.FileFault.TheVariants as fault

-- ---- lists

pub placed-append : (x y : List Offsets) (a b : List Token) → IsPlaced x a → IsPlaced y b → IsPlaced (x ++ y) (a ++ b)
placed-append [] y [] b p q = q
placed-append [] y (t ∷ a) b p q = absurd p
placed-append (o ∷ x) y [] b p q = absurd p
placed-append (o ∷ x) y (t ∷ a) b p q = (p.0, placed-append x y a b p.1 q)

-- ---- steps go together

pub then : {g h k : Production} {tokens mid rest : List Token} {text more : List Kind} {x y : List Offsets} → Step g tokens mid h text x
    → Step h mid rest k more y
    → Step g tokens rest k (text ++ more) (x ++ y)
then {rest = rest} {text = text} {x = x} {y = y} a b = record {
  goes = a.goes ∙ b.goes;
  front = a.front ++ b.front;
  split = a.split ∙ ap (λ (z : List Token). a.front ++ z) b.split ∙ sym (append_assoc a.front b.front rest);
  spelled = kinds-append a.front b.front ∙ ap (λ (z : List Kind). z ++ kinds b.front) a.spelled ∙ ap (λ (z : List Kind). text ++ z) b.spelled;
  placed = placed-append x y a.front b.front a.placed b.placed;
}

-- nothing is taken
pub goes_as : {g h : Production} {tokens : List Token} → parse g tokens ≡ parse h tokens → Step g tokens tokens h [] []
goes_as e = record { goes = e; front = []; split = refl; spelled = refl; placed = tt }

pub stay : {g : Production} {tokens : List Token} → Step g tokens tokens g [] []
stay = goes_as refl

pub respell : {g h : Production} {tokens rest : List Token} {text text' : List Kind} {x x' : List Offsets} → Step g tokens rest h text x → text ≡ text' → x ≡ x'
    → Step g tokens rest h text' x'
respell a e f = record { goes = a.goes; front = a.front; split = a.split; spelled = a.spelled ∙ e; placed = subst (λ z. IsPlaced z a.front) f a.placed }

placed_first : (end at : ℕ) (x : List Offsets) (front rest : List Token) → at ≡ offset_of end (front ++ rest) → IsPlaced x front
    → IsPlaced (at_first at x) front
placed_first end at [] front rest e p = p
placed_first end at (o ∷ x) [] rest e p = absurd p
placed_first end at (o ∷ x) (t ∷ front) rest e p = ((e, p.0), p.1)

-- the first token has this offset, too
pub also_at : {g h : Production} {tokens rest : List Token} {text : List Kind} {x : List Offsets} (end at : ℕ) → at ≡ offset_of end tokens
    → Step g tokens rest h text x → Step g tokens rest h text (at_first at x)
also_at {rest = rest} {x = x} end at e a = record {
  goes = a.goes;
  front = a.front;
  split = a.split;
  spelled = a.spelled;
  placed = placed_first end at x a.front rest (e ∙ ap (λ (z : List Token). offset_of end z) a.split) a.placed;
}

-- the first of two
pub first_of_both : {a b h : Production} {tokens rest : List Token} {text : List Kind} {x : List Offsets} → Step a tokens rest h text x
    → Step (both a b) tokens rest (both h b) text x
first_of_both {b = b} s = record { goes = ap (followed_by (parse b)) s.goes; front = s.front; split = s.split; spelled = s.spelled; placed = s.placed }

pub past : {a b : Production} {tokens rest : List Token} {text : List Kind} {x : List Offsets} → Took a text x tokens rest
    → Step (both a b) tokens rest b text x
past {b = b} s = record { goes = ap (followed_by (parse b)) s.goes; front = s.front; split = s.split; spelled = s.spelled; placed = s.placed }

pub chosen : {c : Class} {a b : Production} {tokens : List Token} → stands c tokens ≡ true → Step (choose c a b) tokens tokens a [] []
chosen {a = a} {b = b} {tokens = tokens} e = goes_as (ap (λ (z : Bool). cond z (parse a tokens) (parse b tokens)) e)

pub not_chosen : {c : Class} {a b : Production} {tokens : List Token} → stands c tokens ≡ false → Step (choose c a b) tokens tokens b [] []
not_chosen {a = a} {b = b} {tokens = tokens} e = goes_as (ap (λ (z : Bool). cond z (parse a tokens) (parse b tokens)) e)

pub step_shorter : {g h : Production} {tokens rest : List Token} {text : List Kind} {x : List Offsets} → Step g tokens rest h text x
    → length rest ≤ length tokens
step_shorter {rest = rest} s = omega (arith, ap length s.split, length-append s.front rest)

-- ---- single tokens

pub same_mark : (m : Mark) → has (only m) (mark_code m) ≡ true
same_mark mark.Semicolon = refl
same_mark _ = refl

pub take : {tokens rest : List Token} (c : Class) (k : Kind) (x : Offsets) (b : BeginsWithKind tokens k rest) → has c (code k) ≡ true
    → AllByRecursion (λ a. a ≡ offset_of 0 tokens) x → Took (one c) (k ∷ []) (x ∷ []) tokens rest
take {tokens = tokens} {rest = rest} c k x b h p = record {
  goes = subst (λ (z : List Token). parse (one c) z ≡ Ok rest) (sym b.split)
      (ap (λ (z : Bool). cond z (Ok rest) (Err (wrong, b.first ∷ rest))) (ap (λ (z : Kind). has c (code z)) b.is ∙ h));
  front = b.first ∷ [];
  split = b.split;
  spelled = ap (λ (z : Kind). z ∷ []) b.is;
  placed = (subst (λ (z : List Token). AllByRecursion (λ a. a ≡ offset_of 0 z) x) b.split p, tt);
}

pub take_mark : {tokens rest : List Token} (m : Mark) → BeginsWithKind tokens (kind.Fixed m) rest → Took (a_mark m) (kind.Fixed m ∷ []) ([] ∷ []) tokens rest
take_mark m b = take (only m) (kind.Fixed m) [] b (same_mark m) tt

-- of tokens that are there, the offset of the first is the same whatever the end
same_offset : (end at : ℕ) (tokens rest : List Token) (k : Kind) → BeginsWithKind tokens k rest → at ≡ offset_of end tokens → at ≡ offset_of 0 tokens
same_offset end at tokens rest k b e = e ∙ ap (λ (z : List Token). offset_of end z) b.split ∙ sym (ap (λ (z : List Token). offset_of 0 z) b.split)

pub take_mark_at : {tokens rest : List Token} (m : Mark) (end at : ℕ) → BeginsWithKind tokens (kind.Fixed m) rest → at ≡ offset_of end tokens
    → Took (a_mark m) (kind.Fixed m ∷ []) ((at ∷ []) ∷ []) tokens rest
take_mark_at {tokens = tokens} {rest = rest} m end at b e = take (only m) (kind.Fixed m) (at ∷ []) b (same_mark m)
    (same_offset end at tokens rest (kind.Fixed m) b e, tt)

pub take_name : {tokens rest : List Token} (n : List ℕ) (end at : ℕ) → BeginsWithKind tokens (kind.Name n) rest → at ≡ offset_of end tokens
    → Took a_name (kind.Name n ∷ []) ((at ∷ []) ∷ []) tokens rest
take_name {tokens = tokens} {rest = rest} n end at b e = take names (kind.Name n) (at ∷ []) b refl (same_offset end at tokens rest (kind.Name n) b e, tt)

pub take_number : {tokens rest : List Token} (d : List ℕ) (end at : ℕ) → BeginsWithKind tokens (kind.Number d) rest → at ≡ offset_of end tokens
    → Took a_number (kind.Number d ∷ []) ((at ∷ []) ∷ []) tokens rest
take_number {tokens = tokens} {rest = rest} d end at b e = take numbers (kind.Number d) (at ∷ []) b refl
    (same_offset end at tokens rest (kind.Number d) b e, tt)

relation_in : (r : Relation) → has relations (code (relation_kind r)) ≡ true
relation_in relation.Less = refl
relation_in _ = refl

pub take_relation : {tokens rest : List Token} (r : Relation) → BeginsWithKind tokens (relation_kind r) rest
    → Took (one relations) (relation_kind r ∷ []) ([] ∷ []) tokens rest
take_relation r b = take relations (relation_kind r) [] b (relation_in r) tt

sign_in : (s : Sign) → has signs (code (sign_kind s)) ≡ true
sign_in sign.Plus = refl
sign_in sign.Minus = refl

pub take_sign : {tokens rest : List Token} (s : Sign) → BeginsWithKind tokens (sign_kind s) rest → Took (one signs) (sign_kind s ∷ []) ([] ∷ []) tokens rest
take_sign s b = take signs (sign_kind s) [] b (sign_in s) tt

pub stands_kind : (c : Class) (k : Kind) (tokens rest : List Token) → BeginsWithKind tokens k rest → has c (code k) ≡ true → stands c tokens ≡ true
stands_kind c k tokens rest b h = ap (stands c) b.split ∙ ap (λ (z : Kind). has c (code z)) b.is ∙ h

pub stands_mark : {tokens rest : List Token} (m : Mark) → BeginsWithKind tokens (kind.Fixed m) rest → stands (only m) tokens ≡ true
stands_mark {tokens = tokens} {rest = rest} m b = stands_kind (only m) (kind.Fixed m) tokens rest b (same_mark m)

pub stands_sign : {tokens rest : List Token} (s : Sign) → BeginsWithKind tokens (sign_kind s) rest → stands signs tokens ≡ true
stands_sign {tokens = tokens} {rest = rest} s b = stands_kind signs (sign_kind s) tokens rest b (sign_in s)

-- where a test that holds is absurd
refuted : (b : Bool) → (b ≡ true → ⊥) → b ≡ false
refuted true f = absurd (f refl)
refuted false f = refl

pub other_mark : (m : Mark) (tokens : List Token) → IsOther tokens m → stands (only m) tokens ≡ false
other_mark m [] o = refl
other_mark m (t ∷ ts) o = refuted (has (only m) (code t.kind)) (λ h. o t ts refl (only_is m t.kind h))

pub other_name : (tokens : List Token) → NoName (kinds tokens) → stands names tokens ≡ false
other_name [] o = refl
other_name (t ∷ ts) o = by_kind t.kind o
  where
    by_kind : (k : Kind) → NoName (k ∷ kinds ts) → has names (code k) ≡ false
    by_kind (kind.Name n) o = absurd o
    by_kind (kind.Number n) o = refl
    by_kind (kind.Fixed m) o = refuted (has names (mark_code m)) (no_mark m 0 refl)

pub other_number : (tokens : List Token) → NoNumber (kinds tokens) → stands numbers tokens ≡ false
other_number [] o = refl
other_number (t ∷ ts) o = by_kind t.kind o
  where
    by_kind : (k : Kind) → NoNumber (k ∷ kinds ts) → has numbers (code k) ≡ false
    by_kind (kind.Name n) o = refl
    by_kind (kind.Number n) o = absurd o
    by_kind (kind.Fixed m) o = refuted (has numbers (mark_code m)) (no_mark m 1 refl)

pub other_relation : (tokens : List Token) → NoRelation (kinds tokens) → stands relations tokens ≡ false
other_relation [] o = refl
other_relation (t ∷ ts) o = refuted (has relations (code t.kind)) (λ h.
    let x = relation_is t.kind h in o x.0 (kinds ts) (kinds ts, ap (λ (z : Kind). z ∷ kinds ts) (sym x.1)))

pub not_sign : (tokens : List Token) → IsOther tokens mark.Plus → IsOther tokens mark.Minus → stands signs tokens ≡ false
not_sign [] p m = refl
not_sign (t ∷ ts) p m = refuted (has signs (code t.kind)) (λ h. let x = sign_is t.kind h in by_sign x.0 x.1)
  where
    by_sign : (s : Sign) → t.kind ≡ sign_kind s → ⊥
    by_sign sign.Plus e = p t ts refl e
    by_sign sign.Minus e = m t ts refl e

-- ---- where reading stops

pub halts_as : (end : ℕ) (g h : Production) (tokens mid : List Token) (e : FileFault)
    → ((stop : Rattle.ta_syntax.specs.Reading.Stopped) → parse h mid ≡ Err stop → parse g tokens ≡ Err stop) → Halts h end mid e → Halts g end tokens e
halts_as end g h tokens mid fault.Memory f x = tt
halts_as end g h tokens mid _ f x = (x.0, f x.0 x.1, x.2)

pub stops : {g h : Production} {tokens mid : List Token} {text : List Kind} {x : List Offsets} (end : ℕ) (e : FileFault) → Step g tokens mid h text x
    → Halts h end mid e → Halts g end tokens e
stops {g = g} {h = h} {tokens = tokens} {mid = mid} end e s = halts_as end g h tokens mid e (λ stop p. s.goes ∙ p)

pub stops_first : (a b : Production) (end : ℕ) (tokens : List Token) (e : FileFault) → Halts a end tokens e → Halts (both a b) end tokens e
stops_first a b end tokens e = halts_as end (both a b) a tokens tokens e (λ stop p. ap (followed_by (parse b)) p)

-- in the first of two parts that are still to come
pub stops_in : {g a b : Production} {tokens mid : List Token} {text : List Kind} {x : List Offsets} (end : ℕ) (e : FileFault)
    → Step g tokens mid (both a b) text x → Halts a end mid e → Halts g end tokens e
stops_in {a = a} {b = b} {mid = mid} end e s h = stops end e s (stops_first a b end mid e h)

-- the same with the productions given
pub halts_by : (g h : Production) {tokens mid : List Token} {text : List Kind} {x : List Offsets} (end : ℕ) (e : FileFault) → Step g tokens mid h text x
    → Halts h end mid e → Halts g end tokens e
halts_by g h end e s = stops end e s

pub halts_in : (g a b : Production) {tokens mid : List Token} {text : List Kind} {x : List Offsets} (end : ℕ) (e : FileFault)
    → Step g tokens mid (both a b) text x → Halts a end mid e → Halts g end tokens e
halts_in g a b {mid = mid} end e s h = stops end e s (stops_first a b end mid e h)

pub wrong_token : (c : Class) (end at : ℕ) (tokens : List Token) → stands c tokens ≡ false → at ≡ offset_of end tokens
    → Halts (one c) end tokens (fault.Syntax at)
wrong_token c end at [] e p = ((wrong, []), refl, ap (λ (z : ℕ). fault.Syntax z) p)
wrong_token c end at (t ∷ ts) e p = ((wrong, t ∷ ts), ap (λ (z : Bool). cond z (Ok ts) (Err (wrong, t ∷ ts))) e, ap (λ (z : ℕ). fault.Syntax z) p)

pub mark_stops : (m : Mark) (end : ℕ) (tokens : List Token) (e : FileFault) → IsUnexpected end tokens m e → Halts (a_mark m) end tokens e
mark_stops m end tokens (fault.Syntax at) h = wrong_token (only m) end at tokens (other_mark m tokens h.0) h.1
mark_stops m end tokens _ h = absurd h

pub name_stops : (end : ℕ) (tokens : List Token) (e : FileFault) → IsUnnamed end tokens e → Halts a_name end tokens e
name_stops end tokens fault.Memory h = tt
name_stops end tokens (fault.Syntax at) h = wrong_token names end at tokens (other_name tokens h.0) h.1
name_stops end tokens _ h = absurd h

pub number_stops : (end at : ℕ) (tokens : List Token) → NoNumber (kinds tokens) → at ≡ offset_of end tokens → Halts a_number end tokens (fault.Syntax at)
number_stops end at tokens h e = wrong_token numbers end at tokens (other_number tokens h) e

pub relation_stops : (end at : ℕ) (tokens : List Token) → NoRelation (kinds tokens) → at ≡ offset_of end tokens
    → Halts (one relations) end tokens (fault.Syntax at)
relation_stops end at tokens h e = wrong_token relations end at tokens (other_relation tokens h) e

-- a part behind its mark
pub maybe_taken : {p : Production} {tokens rest : List Token} (m : Mark) → BeginsWithKind tokens (kind.Fixed m) rest
    → Step (maybe m p) tokens rest p (kind.Fixed m ∷ []) ([] ∷ [])
maybe_taken m b = then (chosen (stands_mark m b)) (past (take_mark m b))

pub maybe_skipped : {p : Production} {tokens : List Token} (m : Mark) → IsOther tokens m → Took (maybe m p) [] [] tokens tokens
maybe_skipped {tokens = tokens} m o = not_chosen (other_mark m tokens o)
