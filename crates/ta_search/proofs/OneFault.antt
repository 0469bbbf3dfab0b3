-- A text is that of one template at most, or has one first error.
use Rattle.ta_search.proofs.Common.{ℕ, ◌+◌, ◌≤◌, ◌≡◌, ◌⊎◌, ◌++◌, inl, inr, false, List, [], ◌∷◌, length, codes, None, Some, refl, sym, ap, subst, ◌∙◌}
use Rattle.ta_search.proofs.Common.{length-append, append_assoc, arith, bytes_eq, false≢true, mul-le, same_Some, AllByRecursion, Distinct, Avoids, each_back}
use Rattle.ta_search.proofs.Common.{first_byte, not_parted, Hole, Template, TemplateFault, AreHoles, HoleInRange, IsSpelledHole, head_text, hole_line}
use Rattle.ta_search.proofs.Common.{hole_lines, hole_names, is_among, unknown_place, value_count, vector_count, FirstTemplateFault, HasHole, IsOtherLine}
use Rattle.ta_search.proofs.Common.{AddsHole, HoleRefused}
use Rattle.ta_search.specs.declared.fault.TemplateFault.TheVariants as fault
use Rattle.ta_search.specs.Templates.{template_text}
use Rattle.ta_search.proofs.HoleLines.{line_avoids, no_begin, one_hole}
use Rattle.ta_base.proofs.ByteLists.{other_name}
use Rattle.std.proofs.lemmas.Bool.{or_from}

-- ---- the next hole of legal ones
name_at : (P : List ℕ → Type 0) (hs : List Hole) (g : Hole) (later : List Hole) → AllByRecursion P (hole_names (hs ++ (g ∷ later))) → P g.name
name_at P [] g later each = each.0
name_at P (h ∷ hs) g later each = name_at P hs g later each.1

fresh_front : (hs : List Hole) (g : Hole) (later : List Hole) → Distinct (hole_names (hs ++ (g ∷ later))) → is_among hs g.name ≡ false
fresh_front [] g later d = refl
fresh_front (h ∷ hs) g later d =
    or_from (bytes_eq g.name h.name) (is_among hs g.name) (other_name g.name h.name (λ same. name_at (λ n. h.name ≡ n → ⊥) hs g later d.0 (sym same)))
    (fresh_front hs g later d.1)

some_value : (h : Hole) → HoleInRange h → 1 ≤ value_count h
some_value h range = let some = range.some in omega arith

some_vector : (hs : List Hole) → AllByRecursion HoleInRange hs → 1 ≤ vector_count hs
some_vector [] each = omega arith
some_vector (h ∷ hs) each = let one = mul-le 1 1 (value_count h) (vector_count hs) (some_value h each.0) (some_vector hs each.1) in omega arith

vectors_front : (hs : List Hole) (g : Hole) (later : List Hole) → AllByRecursion HoleInRange (hs ++ (g ∷ later))
    → vector_count (hs ++ g ∷ []) ≤ vector_count (hs ++ (g ∷ later))
vectors_front [] g later each = mul-le (value_count g) 1 (value_count g) (vector_count later) (omega arith) (some_vector later each.1)
vectors_front (h ∷ hs) g later each = mul-le (value_count h) (vector_count (hs ++ g ∷ [])) (value_count h) (vector_count (hs ++ (g ∷ later))) (omega arith)
    (vectors_front hs g later each.1)

adds_next : (hs : List Hole) (g : Hole) (later : List Hole) → AreHoles (hs ++ (g ∷ later)) → AddsHole hs (hole_line g) g
adds_next hs g later are =
    let vectors = vectors_front hs g later are.ranges in
    let most = are.vectors in
    let few = are.few in
    record {
      spelled = (each_back IsSpelledHole hs (g ∷ later) are.spelled).0;
      text = refl;
      fresh = fresh_front hs g later are.distinct;
      range = (each_back HoleInRange hs (g ∷ later) are.ranges).0;
      few = omega (arith, length-append hs (g ∷ []), length-append hs (g ∷ later));
      vectors = omega arith;
    }

-- ---- two heads of one text
record Beyond (hs gs : List Hole) (r s : List ℕ) : Type 0 where
  next : Hole
  later : List Hole
  more : gs ≡ hs ++ (next ∷ later)
  text : r ≡ hole_line next ++ (10 ∷ (hole_lines later ++ s))

Compared : List Hole → List Hole → List ℕ → List ℕ → Type 0
Compared hs gs r s = ((hs ≡ gs) × (r ≡ s)) ⊎ (Beyond hs gs r s ⊎ Beyond gs hs s r)

beyond_more : (h g : Hole) (hs gs : List Hole) (r s : List ℕ) → h ≡ g → Beyond hs gs r s → Beyond (h ∷ hs) (g ∷ gs) r s
beyond_more h g hs gs r s e b = record
    { next = b.next; later = b.later; more = ap (λ x. x ∷ gs) (sym e) ∙ ap (λ (xs : List Hole). h ∷ xs) b.more; text = b.text }

compared_more : (h g : Hole) (hs gs : List Hole) (r s : List ℕ) → h ≡ g → Compared hs gs r s → Compared (h ∷ hs) (g ∷ gs) r s
unfolding Compared
compared_more h g hs gs r s e (inl same) = inl (ap (λ x. x ∷ hs) e ∙ ap (λ (xs : List Hole). g ∷ xs) same.0, same.1)
compared_more h g hs gs r s e (inr (inl b)) = inr (inl (beyond_more h g hs gs r s e b))
compared_more h g hs gs r s e (inr (inr b)) = inr (inr (beyond_more g h gs hs s r (sym e) b))

compare : (hs gs : List Hole) (r s : List ℕ) → AllByRecursion IsSpelledHole hs → AllByRecursion IsSpelledHole gs → hole_lines hs ++ r ≡ hole_lines gs ++ s
    → Compared hs gs r s
unfolding Compared
compare [] [] r s is are e = inl (refl, e)
compare [] (g ∷ gs) r s is are e = inr (inl (record { next = g; later = gs; more = refl; text = e ∙ append_assoc (hole_line g) (10 ∷ hole_lines gs) s }))
compare (h ∷ hs) [] r s is are e = inr (inr (record { next = h; later = hs; more = refl; text = sym e ∙ append_assoc (hole_line h) (10 ∷ hole_lines hs) r }))
compare (h ∷ hs) (g ∷ gs) r s is are e =
    let parts = first_byte 10 (hole_line h) (hole_line g) (hole_lines hs ++ r) (hole_lines gs ++ s) (line_avoids h is.0) (line_avoids g are.0)
    (sym (append_assoc (hole_line h) (10 ∷ hole_lines hs) r) ∙ e ∙ append_assoc (hole_line g) (10 ∷ hole_lines gs) s) in
    compared_more h g hs gs r s (one_hole h g is.0 are.0 parts.0) (compare hs gs r s is.1 are.1 parts.1)

-- no hole may stand next
Stops : List Hole → List ℕ → Type 0
Stops hs r = (h : Hole) (behind : List ℕ) → AddsHole hs (hole_line h) h → r ≡ hole_line h ++ (10 ∷ behind) → ⊥

not_beyond : (hs gs : List Hole) (r s : List ℕ) → AreHoles gs → Stops hs r → Beyond hs gs r s → ⊥
unfolding Stops
not_beyond hs gs r s are stops b = stops b.next (hole_lines b.later ++ s) (adds_next hs b.next b.later (subst AreHoles b.more are)) b.text

one_place : (hs gs : List Hole) (r s : List ℕ) → AreHoles hs → AreHoles gs → Stops hs r → Stops gs s → hole_lines hs ++ r ≡ hole_lines gs ++ s → (hs ≡ gs)
    × (r ≡ s)
unfolding Compared
one_place hs gs r s is are stops ends e = elim (compare hs gs r s is.spelled are.spelled e) [
  | inl same ↦ same
  | inr (inl b) ↦ absurd (not_beyond hs gs r s are stops b)
  | inr (inr b) ↦ absurd (not_beyond gs hs s r is ends b)
]

-- ---- what stands where the lines of legal holes end

-- the line `begin` and a body
IsBegun : List ℕ → List ℕ → Type 0
IsBegun body r = r ≡ codes "begin" ++ (10 ∷ body)

-- the line of a hole
record IsHole (h : Hole) (r : List ℕ) : Type 0 where
  spelled : IsSpelledHole h
  behind : List ℕ
  text : r ≡ hole_line h ++ (10 ∷ behind)

begin_avoids : Avoids 10 (codes "begin")
begin_avoids = (λ e. cc, (λ e. cc, (λ e. cc, (λ e. cc, (λ e. cc, tt)))))

hole_or_body : (h : Hole) (body r : List ℕ) → IsHole h r → IsBegun body r → ⊥
unfolding IsBegun
hole_or_body h body r is begun = no_begin h
    (first_byte 10 (hole_line h) (codes "begin") is.behind body (line_avoids h is.spelled) begin_avoids (sym is.text ∙ begun)).0

OtherLine : List ℕ → Type 0
OtherLine r = Avoids 10 r ⊎ IsOtherLine r

line_or_hole : (h : Hole) (r : List ℕ) → OtherLine r → IsHole h r → ⊥
unfolding OtherLine
line_or_hole h r (inl none) is = not_parted 10 (hole_line h) is.behind r none is.text
line_or_hole h r (inr other) is = other.no_hole h is.spelled
    (first_byte 10 other.line (hole_line h) other.behind is.behind other.no_feed (line_avoids h is.spelled) (sym other.next ∙ is.text)).0

line_or_body : (body r : List ℕ) → OtherLine r → IsBegun body r → ⊥
unfolding OtherLine IsBegun
line_or_body body r (inl none) begun = not_parted 10 (codes "begin") body r none begun
line_or_body body r (inr other) begun = other.no_begin
    (first_byte 10 other.line (codes "begin") other.behind body other.no_feed begin_avoids (sym other.next ∙ begun)).0

one_body : (body other r : List ℕ) → IsBegun body r → IsBegun other r → body ≡ other
unfolding IsBegun
one_body body other r is are = (first_byte 10 (codes "begin") (codes "begin") body other begin_avoids begin_avoids (sym is ∙ are)).1

hole_once : (h g : Hole) (r : List ℕ) → IsHole h r → IsHole g r → h ≡ g
hole_once h g r is are = one_hole h g is.spelled are.spelled
    (first_byte 10 (hole_line h) (hole_line g) is.behind are.behind (line_avoids h is.spelled) (line_avoids g are.spelled) (sym is.text ∙ are.text)).0

-- why no hole stands next
data Ends (hs : List Hole) (r : List ℕ) (e : TemplateFault) : Type 0 where
  at_line : OtherLine r → e ≡ fault.Line (length hs + 1) → Ends hs r e
  at_hole : (h : Hole) → IsHole h r → HoleRefused hs h e (length hs + 1) → Ends hs r e
  at_body : (body : List ℕ) (place : ℕ) → IsBegun body r → unknown_place hs body ≡ Some place → e ≡ fault.UnknownHole (length (head_text hs) + place)
      → Ends hs r e

-- a refused hole may not stand next
not_adds : (hs : List Hole) (h : Hole) (e : TemplateFault) (n : ℕ) → HoleRefused hs h e n → AddsHole hs (hole_line h) h → ⊥
not_adds hs h (fault.Repeated k) n bad adds = false≢true (sym adds.fresh ∙ bad.1)
not_adds hs h (fault.Range k) n (same, fresh, inl less) adds = let some = adds.range.some in omega arith
not_adds hs h (fault.Range k) n (same, fresh, inr large) adds = let small = adds.range.small in omega arith
not_adds hs h (fault.TooMany k) n (same, fresh, range, inl five) adds = let few = adds.few in omega arith
not_adds hs h (fault.TooMany k) n (same, fresh, range, inr many) adds = let few = adds.vectors in omega arith
not_adds hs h (fault.Line k) n bad adds = bad
not_adds hs h (fault.UnknownHole k) n bad adds = bad
not_adds hs h fault.Memory n bad adds = bad

body_stops : (hs : List Hole) (body r : List ℕ) → IsBegun body r → Stops hs r
unfolding Stops
body_stops hs body r begun h behind adds e = hole_or_body h body r (record { spelled = adds.spelled; behind = behind; text = e }) begun

stops : (hs : List Hole) (r : List ℕ) (e : TemplateFault) → Ends hs r e → Stops hs r
unfolding Stops
stops hs r e (at_line other same) h behind adds text = line_or_hole h r other (record { spelled = adds.spelled; behind = behind; text = text })
stops hs r e (at_hole g is bad) h behind adds text =
    not_adds hs g e (length hs + 1) bad
    (subst (λ x. AddsHole hs (hole_line x) x) (sym (hole_once g h r is (record { spelled = adds.spelled; behind = behind; text = text }))) adds)
stops hs r e (at_body body place begun unknown same) h behind adds text = body_stops hs body r begun h behind adds text

-- a hole is refused for one reason
refused_once : (hs : List Hole) (h : Hole) (e f : TemplateFault) (n : ℕ) → HoleRefused hs h e n → HoleRefused hs h f n → e ≡ f
refused_once hs h (fault.Repeated k) (fault.Repeated j) n bad worse = ap (λ i. fault.Repeated i) (bad.0 ∙ sym worse.0)
refused_once hs h (fault.Repeated k) (fault.Range j) n bad worse = absurd (false≢true (sym worse.1 ∙ bad.1))
refused_once hs h (fault.Repeated k) (fault.TooMany j) n bad worse = absurd (false≢true (sym worse.1 ∙ bad.1))
refused_once hs h (fault.Range k) (fault.Repeated j) n bad worse = absurd (false≢true (sym bad.1 ∙ worse.1))
refused_once hs h (fault.Range k) (fault.Range j) n bad worse = ap (λ i. fault.Range i) (bad.0 ∙ sym worse.0)
refused_once hs h (fault.Range k) (fault.TooMany j) n (same, fresh, inl less) worse = let some = worse.2.some in absurd (omega arith)
refused_once hs h (fault.Range k) (fault.TooMany j) n (same, fresh, inr large) worse = let small = worse.2.small in absurd (omega arith)
refused_once hs h (fault.TooMany k) (fault.Repeated j) n bad worse = absurd (false≢true (sym bad.1 ∙ worse.1))
refused_once hs h (fault.TooMany k) (fault.Range j) n bad (same, fresh, inl less) = let some = bad.2.some in absurd (omega arith)
refused_once hs h (fault.TooMany k) (fault.Range j) n bad (same, fresh, inr large) = let small = bad.2.small in absurd (omega arith)
refused_once hs h (fault.TooMany k) (fault.TooMany j) n bad worse = ap (λ i. fault.TooMany i) (bad.0 ∙ sym worse.0)
refused_once hs h (fault.Line k) f n bad worse = absurd bad
refused_once hs h (fault.UnknownHole k) f n bad worse = absurd bad
refused_once hs h fault.Memory f n bad worse = absurd bad
refused_once hs h e (fault.Line k) n bad worse = absurd worse
refused_once hs h e (fault.UnknownHole k) n bad worse = absurd worse
refused_once hs h e fault.Memory n bad worse = absurd worse

ends_once : (hs : List Hole) (r : List ℕ) (e f : TemplateFault) → Ends hs r e → Ends hs r f → e ≡ f
ends_once hs r e f (at_line other same) (at_line others so) = same ∙ sym so
ends_once hs r e f (at_line other same) (at_hole h is bad) = absurd (line_or_hole h r other is)
ends_once hs r e f (at_line other same) (at_body body place begun unknown so) = absurd (line_or_body body r other begun)
ends_once hs r e f (at_hole h is bad) (at_line other same) = absurd (line_or_hole h r other is)
ends_once hs r e f (at_hole h is bad) (at_hole g are worse) = refused_once hs h e f (length hs + 1) bad
    (subst (λ x. HoleRefused hs x f (length hs + 1)) (sym (hole_once h g r is are)) worse)
ends_once hs r e f (at_hole h is bad) (at_body body place begun unknown so) = absurd (hole_or_body h body r is begun)
ends_once hs r e f (at_body body place begun unknown so) (at_line other same) = absurd (line_or_body body r other begun)
ends_once hs r e f (at_body body place begun unknown so) (at_hole h is bad) = absurd (hole_or_body h body r is begun)
ends_once hs r e f (at_body body place begun unknown so) (at_body other at start strange same) =
    let bodies = one_body body other r begun start in
    let places = same_Some place at (sym unknown ∙ ap (unknown_place hs) bodies ∙ strange) in
    so ∙ ap (λ n. fault.UnknownHole (length (head_text hs) + n)) places ∙ sym same

-- ---- of a text
record Placed (bytes : List ℕ) (e : TemplateFault) : Type 0 where
  hs : List Hole
  rest : List ℕ
  holes : AreHoles hs
  text : bytes ≡ hole_lines hs ++ rest
  ends : Ends hs rest e

behind_head : (bytes : List ℕ) (hs : List Hole) (body : List ℕ) → bytes ≡ head_text hs ++ body → bytes ≡ hole_lines hs ++ (codes "begin" ++ (10 ∷ body))
behind_head bytes hs body e = e ∙ append_assoc (hole_lines hs) (codes "begin" ++ (10 ∷ [])) body
    ∙ ap (λ xs. hole_lines hs ++ xs) (append_assoc (codes "begin") (10 ∷ []) body)

placed_hole : (bytes : List ℕ) (number : ℕ) (hs : List Hole) (h : Hole) (e : TemplateFault) → HasHole bytes number hs h → HoleRefused hs h e (length hs + 1)
    → Placed bytes e
placed_hole bytes number hs h e has bad = record {
  hs = hs;
  rest = hole_line h ++ (10 ∷ has.behind);
  holes = has.begins.holes;
  text = has.begins.text;
  ends = at_hole h (record { spelled = has.spelled; behind = has.behind; text = refl }) bad;
}

placed : (bytes : List ℕ) (e : TemplateFault) → FirstTemplateFault bytes e → Placed bytes e
unfolding IsBegun OtherLine
placed bytes (fault.Line k) is = record
    { hs = is.hs; rest = is.rest; holes = is.begins.holes; text = is.begins.text; ends = at_line is.fault (ap (λ n. fault.Line n) is.begins.place) }
placed bytes (fault.Repeated k) is = placed_hole bytes k is.hs is.h (fault.Repeated k) is.has (is.has.begins.place, is.before)
placed bytes (fault.Range k) is = placed_hole bytes k is.hs is.h (fault.Range k) is.has (is.has.begins.place, is.fresh, is.range)
placed bytes (fault.TooMany k) is = placed_hole bytes k is.hs is.h (fault.TooMany k) is.has (is.has.begins.place, is.fresh, is.range, is.many)
placed bytes (fault.UnknownHole k) is = record {
  hs = is.hs;
  rest = codes "begin" ++ (10 ∷ is.body);
  holes = is.holes;
  text = behind_head bytes is.hs is.body is.text;
  ends = at_body is.body is.place refl is.first (ap (λ n. fault.UnknownHole n) is.at);
}
placed bytes fault.Memory is = absurd is

-- a text has one first error at most
pub one_fault : (bytes : List ℕ) (e f : TemplateFault) → FirstTemplateFault bytes e → FirstTemplateFault bytes f → e ≡ f
one_fault bytes e f is are =
    let p = placed bytes e is in
    let q = placed bytes f are in
    let same = one_place p.hs q.hs p.rest q.rest p.holes q.holes (stops p.hs p.rest e p.ends) (stops q.hs q.rest f q.ends) (sym p.text ∙ q.text) in
    ends_once p.hs p.rest e f p.ends (subst (λ x. Ends p.hs x f) (sym same.1) (subst (λ hs. Ends hs q.rest f) (sym same.0) q.ends))

-- a template's text
begun : (t : Template) → template_text t ≡ hole_lines t.holes ++ (codes "begin" ++ (10 ∷ t.body))
begun t = behind_head (template_text t) t.holes t.body refl

begun_stops : (t : Template) → Stops t.holes (codes "begin" ++ (10 ∷ t.body))
unfolding IsBegun
begun_stops t = body_stops t.holes t.body (codes "begin" ++ (10 ∷ t.body)) refl

pub one_template : (t u : Template) → template_text t ≡ template_text u → (t.holes ≡ u.holes) × (t.body ≡ u.body)
unfolding IsBegun
one_template t u e =
    let same = one_place t.holes u.holes (codes "begin" ++ (10 ∷ t.body)) (codes "begin" ++ (10 ∷ u.body)) t.legal u.legal (begun_stops t) (begun_stops u)
    (sym (begun t) ∙ e ∙ begun u) in
    (same.0, one_body t.body u.body (codes "begin" ++ (10 ∷ t.body)) refl same.1)

no_end : (t : Template) (r : List ℕ) (e : TemplateFault) → r ≡ codes "begin" ++ (10 ∷ t.body) → Ends t.holes r e → ⊥
unfolding IsBegun
no_end t r e is (at_line other same) = line_or_body t.body r other is
no_end t r e is (at_hole h hole bad) = hole_or_body h t.body r hole is
no_end t r e is (at_body body place start unknown same) =
    let bodies = one_body body t.body r start is in
    let none : Some place ≡ None = sym unknown ∙ ap (unknown_place t.holes) bodies ∙ t.known in
    absurd (cc)

-- a template's text has no error
pub no_fault : (t : Template) (e : TemplateFault) → FirstTemplateFault (template_text t) e → ⊥
no_fault t e is =
    let p = placed (template_text t) e is in
    let same = one_place t.holes p.hs (codes "begin" ++ (10 ∷ t.body)) p.rest t.legal p.holes (begun_stops t) (stops p.hs p.rest e p.ends)
    (sym (begun t) ∙ p.text) in
    no_end t p.rest e (sym same.1) (subst (λ hs. Ends hs p.rest e) (sym same.0) p.ends)
