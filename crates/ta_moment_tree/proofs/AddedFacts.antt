-- what a fact adds, as the code has it
use Rattle.ta_moment_tree.proofs.Common.{◌≡◌, ◌∙◌, ℕ, ◌+◌, ◌++◌, ◌∷◌, [], List, true, arith, ap, sym, refl, append-nil, Automaton, Pattern, false≢true}
use Rattle.ta_moment_tree.proofs.Common.{IsBehind, Fact, Never, First, Stands, Last, Before, After, Same, Vacant, Fails, UnknownForm, Known, Moment, Vector}
use Rattle.ta_moment_tree.proofs.Common.{with_fact, with_more, Added, is_plain, known_of, vector_of, moment_of, moments_of, plain_rows, AddsForms, Draft}
use Rattle.ta_moment_tree.specs.declared.moment.Moment.{Moment as Kept}
use Rattle.ta_moment_tree.proofs.Adding.{adds_forms}
use Rattle.ta_moment_tree.proofs.Beginning.{moments_more}

pub known_same : (k l : Known) → k.unknowns ≡ l.unknowns → k.moments ≡ l.moments → k.rows ≡ l.rows → k ≡ l
known_same k l e g h = λ i. record { unknowns = e i; moments = g i; rows = h i }

plain_same : (a : Automaton) (p : Pattern) (silent : List ℕ) (end : Vector) (k : Known) (fact : Fact) → is_plain fact ≡ true
    → with_more k 0 [] (plain_rows a p silent k.unknowns end k.moments fact) ≡ with_fact a p silent end k fact
plain_same a p silent end k (Never g) h = refl
plain_same a p silent end k (First g) h = absurd (false≢true h)
plain_same a p silent end k (Stands g) h = refl
plain_same a p silent end k (Last g) h = absurd (false≢true h)
plain_same a p silent end k (Before x y) h = refl
plain_same a p silent end k (After x y) h = refl
plain_same a p silent end k (Same x y) h = refl
plain_same a p silent end k (Vacant r) h = refl
plain_same a p silent end k (Fails r g) h = refl

pub behind_none : {X : Type 0} (xs ys : List X) → ys ≡ xs → IsBehind xs ys
behind_none xs ys e = record { more = []; is = e ∙ sym (append-nil xs) }

pub plain_known : (a : Automaton) (p : Pattern) (silent : List ℕ) (draft : Draft) (fact : Fact) (more : Draft) → is_plain fact ≡ true
    → more.unknowns ≡ draft.unknowns → more.end.items ≡ draft.end.items → more.moments.items ≡ draft.moments.items
    → AddsForms (plain_rows a p silent draft.unknowns (vector_of draft.end.items) (moments_of draft.moments.items) fact) draft.rows.items more.rows.items
    → Added a p silent draft fact more
plain_known a p silent draft fact more plain e g h adds = record {
  known = known_same (known_of more)
      (with_more (known_of draft) 0 [] (plain_rows a p silent draft.unknowns (vector_of draft.end.items) (moments_of draft.moments.items) fact)) (omega arith)
      (ap moments_of h ∙ sym (append-nil (moments_of draft.moments.items))) (adds_forms _ _ _ adds)
      ∙ plain_same a p silent (vector_of draft.end.items) (known_of draft) fact plain;
  end = g;
  rows = record { more = adds.more; is = adds.is };
  moments = behind_none draft.moments.items more.moments.items h;
}

pub moment_known : (a : Automaton) (p : Pattern) (silent : List ℕ) (draft : Draft) (fact : Fact) (more : Draft) (n : ℕ) (moment : Kept) (is : Moment)
    (fs : List UnknownForm) → with_more (known_of draft) n (is ∷ []) fs ≡ with_fact a p silent (vector_of draft.end.items) (known_of draft) fact
    → more.unknowns ≡ draft.unknowns + n → more.end.items ≡ draft.end.items → more.moments.items ≡ draft.moments.items ++ moment ∷ [] → moment_of moment ≡ is
    → AddsForms fs draft.rows.items more.rows.items → Added a p silent draft fact more
moment_known a p silent draft fact more n moment is fs same e g h m adds = record {
  known = known_same (known_of more) (with_more (known_of draft) n (is ∷ []) fs) e (ap moments_of h ∙ moments_more draft.moments.items moment _ is refl m)
      (adds_forms fs _ _ adds) ∙ same;
  end = g;
  rows = record { more = adds.more; is = adds.is };
  moments = record { more = moment ∷ []; is = h };
}
