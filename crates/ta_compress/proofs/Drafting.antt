-- a draft grows line by line
use Rattle.ta_compress.proofs.Common.{◌≡◌, inl, inr, ℕ, ◌<◌, ℤ, pos, ◌+ℤ◌, List, [], ◌∷◌, ◌++◌, length, map, arith, sym, ap, ◌∙◌, refl, subst, slice_get}
use Rattle.ta_compress.proofs.Common.{append_assoc, append-nil, fun_ext, ints, ext_get_or, length-replicate, one_times, replicate_zeros, split_last, point_of}
use Rattle.ta_compress.proofs.Common.{Automaton, rule_change, total, times_in, total-append, IsOf, GuardsAre, StartsAt, ArrangedOf, AreRuleCounts, count_at}
use Rattle.ta_compress.proofs.Common.{Run, RunLine, Mark, line_change, Draft, unit, value_after, Switches, Drops, step_line, CutPiece, AreCut, IsPiece}
use Rattle.ta_compress.proofs.Common.{IsShortened, Still, SwitchesAt, DropsAt, units, lines_in, counts_of, Advances, IsFirstDraft, Closes, CountsStep, DraftAt}
use Rattle.ta_compress.proofs.Common.{OneMore, DraftIsReady, RepeatsRule, zeros, length-append}
use Rattle.ta_base.proofs.Times.{times-push}
use Rattle.ta_base.proofs.Totals.{one_if-number}
use Rattle.ta_counter.specs.declared.config.Config.{Config}
use Rattle.ta_compress.proofs.Cutting.{mark-value}
use Rattle.ta_compress.proofs.Rearranging.{count_in, counts_length}
use Rattle.ta_compress.proofs.Steady.{units-append}
use Rattle.ta_base.proofs.Lists.{heads}
use Rattle.std.proofs.lemmas.List.{append_cancel_left}

-- counts that say how often each rule is in a list
pub counts_are : (a : Automaton) (xs : List ℕ) (counts : List ℤ) → length counts ≡ length a.rules
    → ((r : ℕ) → r < length a.rules → count_at counts r ≡ pos (times_in r xs)) → counts ≡ counts_of a xs
counts_are a xs counts long each = ext_get_or (pos 0) counts (counts_of a xs) (long ∙ sym (counts_length a xs))
    (λ r b. (let w : r < length a.rules = omega arith in each r w ∙ sym (count_in a xs r w)))

-- one more piece
pub cut_push : (a : Automaton) (first : List ℤ) (piece : CutPiece) (added : List RunLine) (pieces : List CutPiece) (done lines short : List RunLine)
    → AreCut a first done lines pieces short → IsPiece a first (done ++ lines) piece → IsShortened a piece added []
    → AreCut a first done (lines ++ lines_in piece) (pieces ++ piece ∷ []) (short ++ added)
cut_push a first piece added [] done lines short cut is sh =
    let here = subst (λ (ls : List RunLine). IsPiece a first ls piece) (ap (λ (ls : List RunLine). done ++ ls) cut.0 ∙ append-nil done) is in
    let whole : lines ++ lines_in piece ≡ lines_in piece ++ [] = ap (λ (ls : List RunLine). ls ++ lines_in piece) cut.0 ∙ sym (append-nil (lines_in piece)) in
    let short_is : added ≡ short ++ added = ap (λ (ls : List RunLine). ls ++ added) (sym cut.1) in
    (here, [], whole, [], subst (λ (ls : List RunLine). IsShortened a piece ls []) short_is sh, (refl, refl))
cut_push a first piece added (q ∷ qs) done lines short cut is sh =
    let behind = cut.1 in
    let rest = cut.3 in
    let old = cut.4 in
    let there = subst (λ (ls : List RunLine). IsPiece a first ls piece)
    (ap (λ (ls : List RunLine). done ++ ls) cut.2 ∙ sym (append_assoc done (lines_in q) behind)) is in
    let more = cut_push a first piece added qs (done ++ lines_in q) behind rest cut.5 there sh in
    let new : IsShortened a q (short ++ added) (rest ++ added) = record {
      steps = old.steps;
      arranged = old.arranged;
      is = ap (λ (ls : List RunLine). ls ++ added) old.is ∙ append_assoc (map step_line old.steps) (q.kept ++ rest) added
          ∙ ap (λ (ls : List RunLine). map step_line old.steps ++ ls) (append_assoc q.kept rest added);
    } in (
      cut.0,
      behind ++ lines_in piece,
      ap (λ (ls : List RunLine). ls ++ lines_in piece) cut.2 ∙ append_assoc (lines_in q) behind (lines_in piece),
      rest
          ++ added,
      new,
      more,
    )

-- a switch that doesn't come behind still steps
pub still_push : (a : Automaton) (first : List ℤ) (done : List RunLine) (rules : List ℕ) (r : ℕ) → Still a first done rules
    → (SwitchesAt a first (done ++ units rules) r → ⊥) → Still a first done (rules ++ r ∷ [])
still_push a first done rules r still none front q behind is switches = elim (split_last rules r front q behind is) [
  | inl same ↦ (
      let tail : q ≡ r = heads q r behind [] (append_cancel_left rules (q ∷ behind) (r ∷ []) (ap (λ (xs : List ℕ). xs ++ q ∷ behind) (sym same) ∙ sym is)) in
      none (subst (λ (x : ℕ). SwitchesAt a first (done ++ units rules) x) tail
      (subst (λ (xs : List ℕ). SwitchesAt a first (done ++ units xs) q) same switches)))
  | inr w ↦ still front q w.0 w.1 switches
]

-- where a unit step leads
pub unit-value : (a : Automaton) (first : List ℤ) (done : List RunLine) (r i : ℕ)
    → value_after a first (done ++ unit r ∷ []) i ≡ (value_after a first done i +ℤ rule_change a (slice_get a.rules r) i)
unfolding total
unit-value a first done r i = omega (arith, ints, total-append (line_change a i) done (unit r ∷ []), one_times (rule_change a (slice_get a.rules r) i))

moved_on : (a : Automaton) (first : List ℤ) (done : List RunLine) (r : ℕ) (old new : Draft) → DraftAt a first done old
    → RepeatsRule a r old.config.values.items 1 new.config.values.items → (i : ℕ)
    → point_of new.config.values.items i ≡ value_after a first (done ++ unit r ∷ []) i
moved_on a first done r old new d moved i = omega
    (arith, ints, moved i, d.reached i, unit-value a first done r i, one_times (rule_change a (slice_get a.rules r) i))

-- what a piece adds to the lines
closed_short : (a : Automaton) (piece : CutPiece) (counts : List ℤ) (old new : Draft) (c : Closes a counts piece.kept old new) → counts ≡ counts_of a piece.body
    → IsShortened a piece (map step_line c.steps ++ piece.kept) []
closed_short a piece counts old new c same = record {
  steps = c.steps;
  arranged = subst (λ (xs : List ℤ). ArrangedOf a xs c.steps) same c.arranged;
  is = ap (λ (ls : List RunLine). map step_line c.steps ++ ls) (sym (append-nil piece.kept));
}

pub no_counts : (a : Automaton) (counts : List ℤ) → counts ≡ zeros a → (r : ℕ) → count_at counts r ≡ pos 0
no_counts a counts is r = ap (λ (xs : List ℤ). count_at xs r) is ∙ replicate_zeros (length a.rules) r

pub zero_counts : (a : Automaton) (counts : List ℤ) → counts ≡ zeros a → AreRuleCounts a counts
zero_counts a counts is = record {
  each_rule = ap (λ (xs : List ℤ). length xs) is ∙ length-replicate (length a.rules) (pos 0);
  natural = λ r. omega (arith, ints, no_counts a counts is r);
}

-- a draft whose last piece is closed
closed : (a : Automaton) (first : List ℤ) (done : List RunLine) (piece : CutPiece) (counts : List ℤ) (old new : Draft) → (d : DraftAt a first done old)
    → DraftIsReady a new → (whole : List RunLine) → ((i : ℕ) → point_of new.config.values.items i ≡ value_after a first whole i) → whole ≡ d.written
    ++ lines_in piece → IsPiece a first d.written piece → Closes a counts piece.kept old new → counts ≡ counts_of a piece.body → DraftAt a first whole new
unfolding times_in
closed a first done piece counts old new d ready whole reached is p c same = record {
  ready = ready;
  reached = reached;
  pieces = d.pieces ++ piece ∷ [];
  written = d.written ++ lines_in piece;
  open_ = [];
  done_is = is ∙ sym (append-nil (d.written ++ lines_in piece));
  cut = subst (λ (ls : List RunLine). AreCut a first [] (d.written ++ lines_in piece) (d.pieces ++ piece ∷ []) ls) (sym c.lines)
      (cut_push a first piece (map step_line c.steps ++ piece.kept) d.pieces [] d.written old.lines.items d.cut p (closed_short a piece counts old new c same));
  still = λ front r behind e switches. omega (arith, ap length e, length-append front (r ∷ behind));
  counted = λ r b. no_counts a new.counts.items c.none_left r;
}

counted_push : (a : Automaton) (r : ℕ) (xs : List ℕ) (counts more : List ℤ) → ((q : ℕ) → q < length a.rules → count_at counts q ≡ pos (times_in q xs))
    → OneMore r counts more → (q : ℕ) → q < length a.rules → count_at more q ≡ pos (times_in q (xs ++ r ∷ []))
counted_push a r xs counts more each one q b = omega (arith, ints, one.counted q, each q b, times-push q xs r, one_if-number r q)

-- a unit step more
pub advance : (a : Automaton) (first : List ℤ) (done : List RunLine) (r : ℕ) (old new : Draft) → DraftAt a first done old → Advances a r old new
    → DraftAt a first (done ++ unit r ∷ []) new
advance a first done r old new d step = by_case step.counted where
  before : value_after a first (d.written ++ units d.open_) ≡ point_of old.config.values.items
  before = fun_ext (λ i. ap (λ (ls : List RunLine). value_after a first ls i) (sym d.done_is) ∙ sym (d.reached i))

  after : value_after a first ((d.written ++ units d.open_) ++ unit r ∷ []) ≡ point_of new.config.values.items
  after = fun_ext (λ i. ap (λ (ls : List RunLine). value_after a first (ls ++ unit r ∷ []) i) (sym d.done_is)
      ∙ sym (moved_on a first done r old new d step.moved i))

  switches_here : SwitchesAt a first (d.written ++ units d.open_) r → Switches a (point_of old.config.values.items) (point_of new.config.values.items)
  switches_here s = subst (λ (f : ℕ → ℤ). Switches a f (point_of new.config.values.items)) before
      (subst (λ (g : ℕ → ℤ). Switches a (value_after a first (d.written ++ units d.open_)) g) after s)

  switches_there : Switches a (point_of old.config.values.items) (point_of new.config.values.items) → SwitchesAt a first (d.written ++ units d.open_) r
  switches_there s = subst (λ (g : ℕ → ℤ). Switches a (value_after a first (d.written ++ units d.open_)) g) (sym after)
      (subst (λ (f : ℕ → ℤ). Switches a f (point_of new.config.values.items)) (sym before) s)

  drops_here : DropsAt a first (d.written ++ units d.open_) r → Drops a (point_of old.config.values.items) (point_of new.config.values.items)
  drops_here s = subst (λ (f : ℕ → ℤ). Drops a f (point_of new.config.values.items)) before
      (subst (λ (g : ℕ → ℤ). Drops a (value_after a first (d.written ++ units d.open_)) g) after s)

  drops_there : Drops a (point_of old.config.values.items) (point_of new.config.values.items) → DropsAt a first (d.written ++ units d.open_) r
  drops_there s = subst (λ (g : ℕ → ℤ). Drops a (value_after a first (d.written ++ units d.open_)) g) (sym after)
      (subst (λ (f : ℕ → ℤ). Drops a f (point_of new.config.values.items)) (sym before) s)

  longer : done ++ unit r ∷ [] ≡ d.written ++ (units d.open_ ++ unit r ∷ [])
  longer = ap (λ (ls : List RunLine). ls ++ unit r ∷ []) d.done_is ∙ append_assoc d.written (units d.open_) (unit r ∷ [])

  by_case : CountsStep a r (point_of old.config.values.items) (point_of new.config.values.items) old new → DraftAt a first (done ++ unit r ∷ []) new
  by_case (inl g) = record {
    ready = step.ready;
    reached = moved_on a first done r old new d step.moved;
    pieces = d.pieces;
    written = d.written;
    open_ = d.open_ ++ r ∷ [];
    done_is = longer ∙ ap (λ (ls : List RunLine). d.written ++ ls) (sym (units-append d.open_ (r ∷ [])));
    cut = subst (λ (ls : List RunLine). AreCut a first [] d.written d.pieces ls) (sym g.lines) d.cut;
    still = still_push a first d.written d.open_ r d.still (λ s. g.still (switches_here s));
    counted = counted_push a r d.open_ old.counts.items new.counts.items d.counted g.counted;
  }
  by_case (inr (inl f)) =
      let piece : CutPiece = record { body = d.open_; kept = unit r ∷ [] } in
      let is : IsPiece a first d.written piece = inr (inl (record { rule = r; kept = refl; still = d.still; drops = drops_there f.drops })) in
      closed a first done piece old.counts.items old new d step.ready (done ++ unit r ∷ []) (moved_on a first done r old new d step.moved) longer is f.closes
      (counts_are a d.open_ old.counts.items d.ready.counts.each_rule d.counted)
  by_case (inr (inr s)) =
      let piece : CutPiece = record { body = d.open_ ++ r ∷ []; kept = [] } in
      let is : IsPiece a first d.written piece = inr
      (inr (record {
        front = d.open_;
        rule = r;
        body = refl;
        kept = refl;
        still = d.still;
        switches = switches_there s.switches;
        drops_none = λ x.
            s.drops_none (drops_here x);
      })) in
      let whole : done ++ unit r ∷ [] ≡ d.written ++ lines_in piece = longer
      ∙ ap (λ (ls : List RunLine). d.written ++ ls) (sym (units-append d.open_ (r ∷ [])) ∙ sym (append-nil (units (d.open_ ++ r ∷ [])))) in
      closed a first done piece s.counts old new d step.ready (done ++ unit r ∷ []) (moved_on a first done r old new d step.moved) whole is s.closes
      (counts_are a (d.open_ ++ r ∷ []) s.counts (s.counted.each_rule ∙ d.ready.counts.each_rule)
      (counted_push a r d.open_ old.counts.items s.counts d.counted s.counted))

-- a mark more
pub marked : (a : Automaton) (first : List ℤ) (done : List RunLine) (e : ℕ) (old new : Draft) → DraftAt a first done old → DraftIsReady a new
    → new.config ≡ old.config → Closes a old.counts.items (Mark e ∷ []) old new → DraftAt a first (done ++ Mark e ∷ []) new
marked a first done e old new d ready same c =
    let piece : CutPiece = record { body = d.open_; kept = Mark e ∷ [] } in
    let is : IsPiece a first d.written piece = inl (record { event = e; kept = refl; still = d.still }) in
    closed a first done piece old.counts.items old new d ready (done ++ Mark e ∷ [])
    (λ i. ap (λ (x : Config). point_of x.values.items i) same ∙ d.reached i ∙ sym (mark-value a first done e i))
    (ap (λ (ls : List RunLine). ls ++ Mark e ∷ []) d.done_is ∙ append_assoc d.written (units d.open_) (Mark e ∷ [])) is c
    (counts_are a d.open_ old.counts.items d.ready.counts.each_rule d.counted)

-- the draft at the first configuration
pub begun : (a : Automaton) (run : Run) (draft : Draft) → StartsAt a run.parameters run.counts draft.config.values.items → IsOf a draft.config
    → GuardsAre a (point_of draft.config.values.items) draft.guards → draft.counts.items ≡ zeros a → draft.lines.items ≡ [] → IsFirstDraft a run draft
unfolding total times_in
begun a run draft starts is guards none empty = record {
  starts = starts;
  stay = guards.stay;
  at = record {
    ready = record {
      is_of = is;
      guards = guards;
      counts = zero_counts a draft.counts.items none;
    };
    reached = λ place. omega (arith, ints);
    pieces = [];
    written = [];
    open_ = [];
    done_is = refl;
    cut = (refl, empty);
    still = λ front r behind e switches. omega (arith, ap length e, length-append front (r ∷ behind));
    counted = λ r b. no_counts a draft.counts.items none r;
  };
  room = λ r. omega (arith, ints, no_counts a draft.counts.items none r);
}
