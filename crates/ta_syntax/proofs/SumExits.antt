-- What is known where a reader of sums returns.
use Rattle.ta_syntax.proofs.Common.{◌≡◌, ℕ, zero, suc, Bool, cond, ◌-◌, ◌<◌, ◌≤◌, false, List, [], ◌∷◌, ◌++◌, Some, None, refl, sym, ap, subst, ◌∙◌, arith}
use Rattle.ta_syntax.proofs.Common.{append-nil, Terms, Term, Factor, sign_kind, sum_kinds, term_kinds, factor_kinds, IsSum, AreTerms, IsTerm, IsFactor}
use Rattle.ta_syntax.proofs.Common.{plain_sum, plain_terms, sum_depth, term_depth, factor_depth, signed_sum, unplaced_sign, sum_term_stated, kinds, offset_of}
use Rattle.ta_syntax.proofs.Common.{Token, Sign, FileFault, Digits, Spelled, TreeSum, TreeTerm, TreeFactor, Named, Nested, TreeSum-F, roll-TreeSum}
use Rattle.ta_syntax.proofs.Common.{roll-TreeTerm, Err, Production, both, one, repeat, stands, deep, wrong, numbers, names, Parsed, factor, nested_with}
use Rattle.ta_syntax.proofs.Common.{term_with, sum_with, signs, a_name, Step, Halts, BeginsWithKind, IsOther, IsUnexpected, IsUnnamed, NoNumber}
use Rattle.ta_syntax.specs.Productions.{parse_one}
use Rattle.ta_syntax.specs.Reading.{TookFactor, TookTerm, TookSum, LeadingSign}
use Rattle.ta_syntax.proofs.Parsing.{repeat_again, repeat_ends}
use Rattle.ta_syntax.proofs.Steps.{then, respell, also_at, first_of_both, past, chosen, not_chosen, goes_as, take_mark, take_name, take_number, take_sign}
use Rattle.ta_syntax.proofs.Steps.{stands_mark, stands_sign, stands_kind, other_mark, other_number, stops, stops_in, mark_stops, name_stops, maybe_taken}
use Rattle.ta_syntax.proofs.Steps.{maybe_skipped}
use Rattle.ta_syntax.proofs.SumSteps.{plain_sum_roll, plain_number, plain_times, plain_alone, plain_named, plain_nested, stated_number, stated_times}
use Rattle.ta_syntax.proofs.SumSteps.{stated_alone, stated_named, stated_nested, stated_sum_roll, pairs, spell_term, sum_kinds_of, before_of, sum_of-push}
use Rattle.ta_syntax.proofs.SumSteps.{before_of-push, pairs-push, are-push, is_sum-push, depth-push}
use Rattle.ta_syntax.specs.declared.tokens.Kind.TheVariants as kind
use Rattle.ta_syntax.specs.declared.tokens.Mark.TheVariants as mark
use Rattle.ta_syntax.specs.declared.sums.Sign.TheVariants as sign
use Rattle.ta_syntax.specs.declared.fault.FileFault.TheVariants as fault

-- ---- factors

-- a name comes
step_name : (left : ℕ) (tokens : List Token) → IsOther tokens mark.Open → Step (factor left) tokens tokens a_name [] []
step_name zero tokens other = not_chosen (other_mark mark.Open tokens other)
step_name (suc n) tokens other = not_chosen (other_mark mark.Open tokens other)

-- a parenthesis comes, which may be opened
step_open : (left : ℕ) (tokens rest : List Token) → 0 < left → BeginsWithKind tokens (kind.Fixed mark.Open) rest
    → Step (factor left) tokens tokens (nested_with (factor (left - 1))) [] []
step_open zero tokens rest some b = absurd (omega arith)
step_open (suc n) tokens rest some b = let e : n ≡ suc n - 1 = omega arith in
    subst (λ (m : ℕ). Step (factor (suc n)) tokens tokens (nested_with (factor m)) [] []) e (chosen (stands_mark mark.Open b))

pub took_named : (left end : ℕ) (tokens rest : List Token) (n : Spelled) → IsOther tokens mark.Open → BeginsWithKind tokens (kind.Name n.name) rest
    → n.at ≡ offset_of end tokens → TookFactor left (Named n) tokens rest
took_named left end tokens rest n other b at_is = record {
  is = subst IsFactor (sym (plain_named n)) n.legal;
  shallow = subst (λ (f : Factor). factor_depth f ≤ left) (sym (plain_named n)) (omega arith);
  took = respell (then (step_name left tokens other) (take_name n.name end n.at b at_is)) (ap factor_kinds (sym (plain_named n))) (sym (stated_named n));
}

pub unnamed_stops : (left end : ℕ) (tokens : List Token) (e : FileFault) → IsOther tokens mark.Open → IsUnnamed end tokens e → Halts (factor left) end tokens e
unnamed_stops left end tokens e other h = stops end e (step_name left tokens other) (name_stops end tokens e h)

pub too_deep : (left end at : ℕ) (tokens rest : List Token) → left ≡ 0 → BeginsWithKind tokens (kind.Fixed mark.Open) rest → at ≡ offset_of end tokens
    → Halts (factor left) end tokens (fault.TooDeep at)
too_deep zero end at tokens rest none b at_is = (
  (deep, tokens),
  ap (λ (z : Bool). let r : Parsed = cond z (Err (cond z deep wrong, tokens)) (parse_one names tokens) in r) (stands_mark mark.Open b),
  ap (λ (z : ℕ). fault.TooDeep z) at_is,
)
too_deep (suc n) end at tokens rest none b at_is = absurd (omega arith)

pub nested_stops : (left end : ℕ) (tokens rest : List Token) (e : FileFault) → 0 < left → BeginsWithKind tokens (kind.Fixed mark.Open) rest
    → Halts (sum_with (factor (left - 1))) end rest e → Halts (factor left) end tokens e
nested_stops left end tokens rest e some b h = stops_in end e (then (step_open left tokens rest some b) (past (take_mark mark.Open b))) h

pub close_stops : (left end : ℕ) (tokens rest after_sum : List Token) (s : TreeSum) (e : FileFault) → 0 < left
    → BeginsWithKind tokens (kind.Fixed mark.Open) rest → TookSum (left - 1) s rest after_sum → IsUnexpected end after_sum mark.Close e
    → Halts (factor left) end tokens e
close_stops left end tokens rest after_sum s e some b took other =
    stops end e (then (then (step_open left tokens rest some b) (past (take_mark mark.Open b))) (past took.took)) (mark_stops mark.Close end after_sum e other)

pub took_nested : (left : ℕ) (tokens rest after_sum rest2 : List Token) (s : TreeSum) → 0 < left → BeginsWithKind tokens (kind.Fixed mark.Open) rest
    → TookSum (left - 1) s rest after_sum → BeginsWithKind after_sum (kind.Fixed mark.Close) rest2 → TookFactor left (Nested s) tokens rest2
took_nested left tokens rest after_sum rest2 s some b took close = record {
  is = subst IsFactor (sym (plain_nested s)) took.is;
  shallow = subst (λ (f : Factor). factor_depth f ≤ left) (sym (plain_nested s)) (let h : sum_depth (plain_sum s) ≤ left - 1 = took.shallow in omega arith);
  took = respell (then (then (then (step_open left tokens rest some b) (past (take_mark mark.Open b))) (past took.took)) (take_mark mark.Close close))
      (ap factor_kinds (sym (plain_nested s))) (sym (stated_nested s));
}

-- ---- terms

pub took_number : (left end at : ℕ) (tokens rest : List Token) (d : Digits) → BeginsWithKind tokens (kind.Number d.text) rest → d.at ≡ offset_of end tokens
    → at ≡ offset_of end tokens → IsOther rest mark.Star → TookTerm left (roll-TreeTerm (record { at = at; factor = Some d; body = None })) tokens rest
took_number left end at tokens rest d b d_is at_is other = record {
  is = subst IsTerm (sym (plain_number at d)) d.legal;
  shallow = subst (λ (t : Term). term_depth t ≤ left) (sym (plain_number at d)) (omega arith);
  took = respell
      (also_at end at at_is (then (then (chosen (stands_kind numbers (kind.Number d.text) tokens rest b refl)) (past (take_number d.text end d.at b d_is)))
      (maybe_skipped mark.Star other)))
      (ap term_kinds (sym (plain_number at d))) (sym (stated_number at d));
}

-- after the number and the star
step_star : (left end : ℕ) (tokens rest after_star : List Token) (d : Digits) → BeginsWithKind tokens (kind.Number d.text) rest
    → d.at ≡ offset_of end tokens → BeginsWithKind rest (kind.Fixed mark.Star) after_star
    → Step (term_with (factor left)) tokens after_star (factor left) (kind.Number d.text ∷ kind.Fixed mark.Star ∷ []) ((d.at ∷ []) ∷ [] ∷ [])
step_star left end tokens rest after_star d b d_is star =
    then (then (chosen (stands_kind numbers (kind.Number d.text) tokens rest b refl)) (past (take_number d.text end d.at b d_is))) (maybe_taken mark.Star star)

pub took_times : (left end at : ℕ) (tokens rest after_star rest2 : List Token) (d : Digits) (f : TreeFactor) → BeginsWithKind tokens (kind.Number d.text) rest
    → d.at ≡ offset_of end tokens → at ≡ offset_of end tokens → BeginsWithKind rest (kind.Fixed mark.Star) after_star → TookFactor left f after_star rest2
    → TookTerm left (roll-TreeTerm (record { at = at; factor = Some d; body = Some f })) tokens rest2
took_times left end at tokens rest after_star rest2 d f b d_is at_is star took = record {
  is = subst IsTerm (sym (plain_times at d f)) (d.legal, took.is);
  shallow = subst (λ (t : Term). term_depth t ≤ left) (sym (plain_times at d f)) took.shallow;
  took = respell (also_at end at at_is (then (step_star left end tokens rest after_star d b d_is star) took.took))
      (ap term_kinds (sym (plain_times at d f))) (sym (stated_times at d f));
}

pub times_stops : (left end : ℕ) (tokens rest after_star : List Token) (d : Digits) (e : FileFault) → BeginsWithKind tokens (kind.Number d.text) rest
    → d.at ≡ offset_of end tokens → BeginsWithKind rest (kind.Fixed mark.Star) after_star → Halts (factor left) end after_star e
    → Halts (term_with (factor left)) end tokens e
times_stops left end tokens rest after_star d e b d_is star h = stops end e (step_star left end tokens rest after_star d b d_is star) h

step_factor : (left : ℕ) (tokens : List Token) → NoNumber (kinds tokens) → Step (term_with (factor left)) tokens tokens (factor left) [] []
step_factor left tokens free = not_chosen (other_number tokens free)

pub took_alone : (left end at : ℕ) (tokens rest : List Token) (f : TreeFactor) → NoNumber (kinds tokens) → at ≡ offset_of end tokens
    → TookFactor left f tokens rest → TookTerm left (roll-TreeTerm (record { at = at; factor = None; body = Some f })) tokens rest
took_alone left end at tokens rest f free at_is took = record {
  is = subst IsTerm (sym (plain_alone at f)) took.is;
  shallow = subst (λ (t : Term). term_depth t ≤ left) (sym (plain_alone at f)) took.shallow;
  took = respell (also_at end at at_is (then (step_factor left tokens free) took.took)) (ap term_kinds (sym (plain_alone at f))) (sym (stated_alone at f));
}

pub alone_stops : (left end : ℕ) (tokens : List Token) (e : FileFault) → NoNumber (kinds tokens) → Halts (factor left) end tokens e
    → Halts (term_with (factor left)) end tokens e
alone_stops left end tokens e free h = stops end e (step_factor left tokens free) h

-- ---- sums

abbrev more_of_sum : ℕ → Production
more_of_sum left = repeat signs (both (one signs) (term_with (factor left)))

-- what the loop keeps
pub record SumSoFar (left : ℕ) (tokens rest : List Token) (s : Sign) (items : List (Sign × TreeTerm)) : Type 0 where
  pub are : AreTerms (plain_terms items)
  pub shallow : sum_depth (plain_terms items) ≤ left
  pub step : Step (sum_with (factor left)) tokens rest (both (term_with (factor left)) (repeat signs (both (one signs) (term_with (factor left)))))
      (before_of sign_kind (pairs spell_term items) s) (before_of unplaced_sign (pairs sum_term_stated items) s)

pub sum_begins : (left : ℕ) (tokens rest : List Token) (s : Sign) → LeadingSign tokens s rest → SumSoFar left tokens rest s []
sum_begins left tokens rest sign.Plus h = record {
  are = tt;
  shallow = omega arith;
  step = subst (λ (x : List Token). Step (sum_with (factor left)) tokens x (both (term_with (factor left)) (more_of_sum left)) [] []) h.1
      (past (maybe_skipped mark.Minus h.0));
}
sum_begins left tokens rest sign.Minus h = record { are = tt; shallow = omega arith; step = past (maybe_taken mark.Minus h) }

pub sum_stops : (left end : ℕ) (tokens rest : List Token) (s : Sign) (items : List (Sign × TreeTerm)) (e : FileFault) → SumSoFar left tokens rest s items
    → Halts (term_with (factor left)) end rest e → Halts (sum_with (factor left)) end tokens e
sum_stops left end tokens rest s items e so_far h = stops_in end e so_far.step h

pushed : {B : Type 0} (signed : Sign → B) (f : TreeTerm → List B) (items : List (Sign × TreeTerm)) (s : Sign) (t : TreeTerm)
    → before_of signed (pairs f items) s ++ f t ≡ signed_sum signed (pairs f (items ++ (s, t) ∷ []))
pushed signed f items s t = sym (ap (signed_sum signed) (pairs-push f items (s, t)) ∙ sum_of-push signed (pairs f items) s (f t))

pushed_before : {B : Type 0} (signed : Sign → B) (f : TreeTerm → List B) (items : List (Sign × TreeTerm)) (s s' : Sign) (t : TreeTerm)
    → (before_of signed (pairs f items) s ++ f t) ++ signed s' ∷ [] ≡ before_of signed (pairs f (items ++ (s, t) ∷ [])) s'
pushed_before signed f items s s' t =
    ap (λ x. x ++ signed s' ∷ []) (sym (sum_of-push signed (pairs f items) s (f t)))
    ∙ sym (before_of-push signed (pairs f items) (s, f t) s')
    ∙ ap (λ x. before_of signed x s') (sym (pairs-push f items (s, t)))

step_sign : (left : ℕ) (s : Sign) (tokens rest : List Token) → BeginsWithKind tokens (sign_kind s) rest
    → Step (more_of_sum left) tokens rest (both (term_with (factor left)) (more_of_sum left)) (sign_kind s ∷ []) ([] ∷ [])
step_sign left s tokens rest b = then (goes_as (repeat_again signs (both (one signs) (term_with (factor left))) tokens refl (stands_sign s b)))
    (first_of_both (past (take_sign s b)))

pub sum_goes_on : (left : ℕ) (tokens rest after_term after_sign : List Token) (s s' : Sign) (items : List (Sign × TreeTerm)) (t : TreeTerm)
    → SumSoFar left tokens rest s items → TookTerm left t rest after_term → BeginsWithKind after_term (sign_kind s') after_sign
    → SumSoFar left tokens after_sign s' (items ++ (s, t) ∷ [])
sum_goes_on left tokens rest after_term after_sign s s' items t so_far took b = record {
  are = are-push items (s, t) so_far.are took.is;
  shallow = depth-push items (s, t) left so_far.shallow took.shallow;
  step = respell (then (then so_far.step (past took.took)) (step_sign left s' after_term after_sign b))
      (pushed_before sign_kind spell_term items s s' t) (pushed_before unplaced_sign sum_term_stated items s s' t);
}

pub sum_ends : (left : ℕ) (tokens rest after_term : List Token) (s : Sign) (items : List (Sign × TreeTerm)) (t : TreeTerm)
    (made : TreeSum-F TreeFactor TreeSum TreeTerm) → made.terms.items ≡ items ++ (s, t) ∷ [] → SumSoFar left tokens rest s items
    → TookTerm left t rest after_term → stands signs after_term ≡ false → TookSum left (roll-TreeSum made) tokens after_term
sum_ends left tokens rest after_term s items t made e so_far took ends =
    let plain : plain_sum (roll-TreeSum made) ≡ plain_terms (items ++ (s, t) ∷ []) = plain_sum_roll made ∙ ap plain_terms e in
    record {
      is = subst IsSum (sym plain) (is_sum-push items (s, t) so_far.are took.is);
      shallow = subst (λ (ts : Terms). sum_depth ts ≤ left) (sym plain) (depth-push items (s, t) left so_far.shallow took.shallow);
      took = respell
          (then (then so_far.step (past took.took)) (goes_as (repeat_ends signs (both (one signs) (term_with (factor left))) after_term ends)))
          (pushed_end spell_term sign_kind ∙ sym (ap sum_kinds plain ∙ sum_kinds_of (items ++ (s, t) ∷ [])))
          (pushed_end sum_term_stated unplaced_sign ∙ sym
          (stated_sum_roll made ∙ ap (λ (x : List (Sign × TreeTerm)). signed_sum unplaced_sign (pairs sum_term_stated x)) e));
    }
  where
    pushed_end : {B : Type 0} (f : TreeTerm → List B) (signed : Sign → B) → (before_of signed (pairs f items) s ++ f t)
        ++ [] ≡ signed_sum signed (pairs f (items ++ (s, t) ∷ []))
    pushed_end f signed = append-nil (before_of signed (pairs f items) s ++ f t) ∙ pushed signed f items s t
