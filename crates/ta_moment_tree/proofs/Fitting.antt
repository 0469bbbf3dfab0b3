-- what is known at a node fits
use Rattle.ta_moment_tree.proofs.Common.{◌∙◌, ℕ, ◌∷◌, [], List, Option, range_with_len, length, arith, ap, sym, subst, In, AllByRecursion, Automaton, Pattern}
use Rattle.ta_moment_tree.proofs.Common.{each_at, each_append, each_map_all, candidates, Fact, Never, First, Stands, Last, Before, After, Same, Vacant, Fails}
use Rattle.ta_moment_tree.proofs.Common.{Known, Moment, Point, Vector, early, late, end_vector, event_vector, with_fact, VectorSpeaks, Added, known_of}
use Rattle.ta_moment_tree.proofs.Common.{SmallVector, vector_of, MomentsSpeak, SmallMoments, Draft, IsDraft}
unfoldable use Rattle.ta_moments.specs.Moments.{known}
use Rattle.ta_moments.proofs.Speaking.{Spoken, spoken}
use Rattle.ta_moment_tree.specs.Draft.{DraftFits}
use Rattle.ta_moment_tree.proofs.Beginning.{after_small, before_small, end_small, event_small, first_small, vector_more_small}

abbrev Small : Moment → Type 0
Small m = SmallVector 3 (early m) × SmallVector 3 (late m)

more_small : (a : Automaton) (p : Pattern) (silent : List ℕ) (end : Vector) (k : Known) (fact : Fact) → SmallVector 1 end → AllByRecursion Small k.moments
    → AllByRecursion Small (with_fact a p silent end k fact).moments
more_small a p silent end k (Never g) e h = each_append Small k.moments [] h tt
more_small a p silent end k (First g) e h =
    (let s = vector_more_small 1 3 _ (omega arith) (first_small a p k.unknowns g) in each_append Small k.moments _ h ((s, s), tt))
more_small a p silent end k (Stands g) e h = each_append Small k.moments [] h tt
more_small a p silent end k (Last g) e h = each_append Small k.moments _ h
    ((vector_more_small 2 3 _ (omega arith) (before_small a p end k.unknowns g e), after_small a p end k.unknowns g e), tt)
more_small a p silent end k (Before x y) e h = each_append Small k.moments [] h tt
more_small a p silent end k (After x y) e h = each_append Small k.moments [] h tt
more_small a p silent end k (Same x y) e h = each_append Small k.moments [] h tt
more_small a p silent end k (Vacant r) e h = each_append Small k.moments [] h tt
more_small a p silent end k (Fails r g) e h = each_append Small k.moments [] h tt

known_small : (a : Automaton) (p : Pattern) (silent : List ℕ) (c : Option ℕ) (past : List Fact) → AllByRecursion Small (known a p silent c past).moments
unfolding known
known_small a p silent c [] = each_map_all Small (λ e. Point (event_vector a p e)) (range_with_len 0 (length p.events))
    (λ e. (let s = vector_more_small 1 3 _ (omega arith) (event_small a p e) in (s, s)))
known_small a p silent c (fact ∷ past) = more_small a p silent (end_vector a p c) (known a p silent c past) fact (end_small a p c)
    (known_small a p silent c past)

small_moments : (ms : List Moment) → AllByRecursion Small ms → SmallMoments ms
small_moments ms h = record { early_small = λ x m at. (each_at Small ms x m h at).0; late_small = λ x m at. (each_at Small ms x m h at).1 }

moments_speak : (a : Automaton) (p : Pattern) (end : Vector) (k : Known) → Spoken a p end k → MomentsSpeak k.unknowns k.moments
moments_speak a p end k s = record { early_speaks = λ x m at. (s.moments x m at).0; late_speaks = λ x m at. (s.moments x m at).1 }

pub draft_fits : (a : Automaton) (p : Pattern) (silent : List ℕ) (c : Option ℕ) (past : List Fact) (draft : Draft) → In c (candidates p)
    → IsDraft a p silent c past draft → DraftFits a draft
draft_fits a p silent c past draft listed is =
    let s = spoken a p silent c listed past in
    record {
      small = subst (λ (v : Vector). SmallVector 1 v) (sym is.end) (end_small a p c);
      speaks = subst (λ (v : Vector). VectorSpeaks draft.unknowns v) (sym is.end)
          (subst (λ (k : Known). VectorSpeaks k.unknowns (end_vector a p c)) (sym is.known) s.ends);
      short = is.short;
      moments = subst (λ (k : Known). SmallMoments k.moments) (sym is.known) (small_moments _ (known_small a p silent c past));
      moments_speak = subst (λ (k : Known). MomentsSpeak k.unknowns k.moments) (sym is.known) (moments_speak a p (end_vector a p c) _ s);
    }

pub draft_added : (a : Automaton) (p : Pattern) (silent : List ℕ) (c : Option ℕ) (past : List Fact) (fact : Fact) (before after : Draft)
    → IsDraft a p silent c past before → Added a p silent before fact after → IsDraft a p silent c (fact ∷ past) after
unfolding known
draft_added a p silent c past fact before after is added = record {
  known = added.known ∙ ap (λ (v : Vector). with_fact a p silent v (known_of before) fact) is.end
      ∙ ap (λ (k : Known). with_fact a p silent (end_vector a p c) k fact) is.known;
  end = ap vector_of added.end ∙ is.end;
  short = (let same = ap length added.end in let short = is.short in omega arith);
}
