-- What the reader of a template has read, and what is left.
use Rattle.ta_search.proofs.Common.{ℕ, ◌+◌, ◌≡◌, ◌++◌, inl, inr, false, List, [], ◌∷◌, length, codes, refl, sym, ap, subst, ◌∙◌, append_assoc, arith, bytes_eq}
use Rattle.ta_search.proofs.Common.{or_parts, map-append, Distinct, SplitAt, Avoids, differs, each_push, Hole, TemplateFault, AreHoles, HoleInRange}
use Rattle.ta_search.proofs.Common.{IsSpelledHole, head_text, hole_line, hole_lines, hole_names, is_among, BeginsWithHoles, FaultOf, AddsHole, LineRefused}
use Rattle.ta_search.specs.declared.fault.TemplateFault.TheVariants as fault

-- the lines of these holes, which are legal, are read
pub record Read (bytes : List ℕ) (hs : List Hole) (rest : List ℕ) : Type 0 where
  pub holes : AreHoles hs
  pub text : bytes ≡ hole_lines hs ++ rest

pub read_none : (bytes : List ℕ) → Read bytes [] bytes
read_none bytes = record {
  holes = record { spelled = tt; ranges = tt; distinct = tt; few = omega arith; vectors = omega arith };
  text = refl;
}

distinct_push : (hs : List Hole) (h : Hole) → Distinct (hole_names hs) → is_among hs h.name ≡ false → Distinct (hole_names hs ++ h.name ∷ [])
distinct_push [] h d fresh = (tt, tt)
distinct_push (g ∷ hs) h d fresh =
    let parts = or_parts (bytes_eq h.name g.name) (is_among hs h.name) fresh in
    (each_push (λ n. g.name ≡ n → ⊥) (hole_names hs) h.name d.0 (differs h.name g.name parts.0), distinct_push hs h d.1 parts.1)

-- legal holes with one more
pub holes_push : (hs : List Hole) (line : List ℕ) (h : Hole) → AreHoles hs → AddsHole hs line h → AreHoles (hs ++ h ∷ [])
holes_push hs line h are adds = record {
  spelled = each_push IsSpelledHole hs h are.spelled adds.spelled;
  ranges = each_push HoleInRange hs h are.ranges adds.range;
  distinct = subst (λ (ns : List (List ℕ)). Distinct ns) (sym (map-append (λ (g : Hole). g.name) hs (h ∷ []))) (distinct_push hs h are.distinct adds.fresh);
  few = adds.few;
  vectors = adds.vectors;
}

-- the lines of holes with one more
pub lines_push : (hs : List Hole) (h : Hole) (behind : List ℕ) → hole_lines hs ++ (hole_line h ++ (10 ∷ behind)) ≡ hole_lines (hs ++ h ∷ []) ++ behind
lines_push [] h behind = sym (append_assoc (hole_line h) (10 ∷ []) behind)
lines_push (g ∷ hs) h behind =
    append_assoc (hole_line g) (10 ∷ hole_lines hs) (hole_line h ++ (10 ∷ behind))
    ∙ ap (λ xs. hole_line g ++ (10 ∷ xs)) (lines_push hs h behind)
    ∙ sym (append_assoc (hole_line g) (10 ∷ hole_lines (hs ++ h ∷ [])) behind)

pub read_more : (bytes rest line behind : List ℕ) (hs : List Hole) (h : Hole) → Read bytes hs rest → SplitAt 10 rest line behind → AddsHole hs line h
    → Read bytes (hs ++ h ∷ []) behind
read_more bytes rest line behind hs h read parted adds = record {
  holes = holes_push hs line h read.holes adds;
  text = read.text ∙ ap (λ xs. hole_lines hs ++ xs) (parted.split ∙ ap (λ xs. xs ++ (10 ∷ behind)) adds.text) ∙ lines_push hs h behind;
}

begins : (bytes : List ℕ) (hs : List Hole) (rest next : List ℕ) (number : ℕ) → Read bytes hs rest → rest ≡ next → number ≡ length hs + 1
    → BeginsWithHoles bytes hs next number
begins bytes hs rest next number read e counted = record { holes = read.holes; text = read.text ∙ ap (λ xs. hole_lines hs ++ xs) e; place = counted }

-- the text ends in a line
pub read_unfinished : (bytes rest : List ℕ) (hs : List Hole) (number : ℕ) → Read bytes hs rest → Avoids 10 rest → number ≡ length hs + 1
    → FaultOf bytes (fault.Line number)
read_unfinished bytes rest hs number read none counted = record
    { hs = hs; rest = rest; begins = begins bytes hs rest rest number read refl counted; fault = inl none }

has_hole : (line behind : List ℕ) (rest : List ℕ) (h : Hole) → SplitAt 10 rest line behind → line ≡ hole_line h → rest ≡ hole_line h ++ (10 ∷ behind)
has_hole line behind rest h parted e = parted.split ∙ ap (λ xs. xs ++ (10 ∷ behind)) e

-- a line is refused
pub read_refused : (bytes rest line behind : List ℕ) (hs : List Hole) (number : ℕ) (e : TemplateFault) → Read bytes hs rest → SplitAt 10 rest line behind
    → (line ≡ codes "begin" → ⊥) → number ≡ length hs + 1 → LineRefused hs line number e → FaultOf bytes e
read_refused bytes rest line behind hs number (fault.Line k) read parted other counted bad = record {
  hs = hs;
  rest = rest;
  begins = begins bytes hs rest rest k read refl (bad.0 ∙ counted);
  fault = inr (record { line = line; behind = behind; next = parted.split; no_feed = parted.first; no_hole = bad.1; no_begin = other });
}
read_refused bytes rest line behind hs number (fault.Repeated k) read parted other counted (h, spelled, text, bad) = record {
  hs = hs;
  h = h;
  has = record {
    behind = behind;
    begins = begins bytes hs rest (hole_line h ++ (10 ∷ behind)) k read (has_hole line behind rest h parted text)
        (bad.0 ∙ counted);
    spelled = spelled;
  };
  before = bad.1;
}
read_refused bytes rest line behind hs number (fault.Range k) read parted other counted (h, spelled, text, bad) = record {
  hs = hs;
  h = h;
  has = record {
    behind = behind;
    begins = begins bytes hs rest (hole_line h ++ (10 ∷ behind)) k read (has_hole line behind rest h parted text)
        (bad.0 ∙ counted);
    spelled = spelled;
  };
  fresh = bad.1;
  range = bad.2;
}
read_refused bytes rest line behind hs number (fault.TooMany k) read parted other counted (h, spelled, text, bad) = record {
  hs = hs;
  h = h;
  has = record {
    behind = behind;
    begins = begins bytes hs rest (hole_line h ++ (10 ∷ behind)) k read (has_hole line behind rest h parted text)
        (bad.0 ∙ counted);
    spelled = spelled;
  };
  fresh = bad.1;
  range = bad.2;
  many = bad.3;
}
read_refused bytes rest line behind hs number (fault.UnknownHole k) read parted other counted (h, spelled, text, bad) = absurd bad
read_refused bytes rest line behind hs number fault.Memory read parted other counted bad = tt

-- the text up to the body
pub head_read : (bytes rest line behind : List ℕ) (hs : List Hole) → Read bytes hs rest → SplitAt 10 rest line behind → line ≡ codes "begin"
    → bytes ≡ head_text hs ++ behind
head_read bytes rest line behind hs read parted e =
    read.text ∙ ap (λ xs. hole_lines hs ++ xs) (parted.split ∙ ap (λ xs. xs ++ (10 ∷ behind)) e ∙ sym (append_assoc (codes "begin") (10 ∷ []) behind))
    ∙ sym (append_assoc (hole_lines hs) (codes "begin" ++ (10 ∷ [])) behind)
