-- the orders that are found are those that a judge accepts
use Rattle.ta_walk.proofs.Common.{inl, inr, ℕ, zero, suc, ◌<◌, ◌≤◌, ◌^◌, List, [], ◌∷◌, ◌++◌, length, map, sym, subst, arith, codes, decimal, length-append}
use Rattle.ta_walk.proofs.Common.{map-append, row_short, each_push, Automaton, IsOrder, order_lines, pair_of, line_text, ArePairs, Order, Good, IsImplied}
use Rattle.ta_walk.proofs.Common.{IsPair, ChainLeads, IsShown, few_multipliers, AreSoundOrders, FoundAfter, FoundBefore, FoundOrdersAreSound, IsTaken}
use Rattle.ta_walk.proofs.Common.{RefutedPair, TryAnswers}
use Rattle.ta_cert.specs.Laws.{AreShort}
use Rattle.ta_implied.proofs.Joining.{good_behind}
use Rattle.ta_walk.proofs.TableausInRange.{multipliers_fit}
use Rattle.ta_walk.proofs.PairSystems.{few_of_pair}
use Rattle.ta_walk.proofs.NodesShort.{pairs_short}
use Rattle.ta_walk.proofs.NodesWritten.{are_pairs}
use Rattle.ta_cert.specs.declared.line.Line.TheVariants as line
use Rattle.ta_cert.specs.declared.line.Node.TheVariants as node

shown_of : (a : Automaton) (o : Order) → RefutedPair a o.before o.after o.multipliers → IsShown a (pair_of o) o.multipliers
shown_of a o r = record { system = r.system; is = r.is; leaf = r.refuted.multipliers.leaf; stays = r.stays }

implied_of : (a : Automaton) (o : Order) → RefutedPair a o.before o.after o.multipliers → IsImplied a (pair_of o)
implied_of a o r = record { system = r.system; is = r.is; multipliers = o.multipliers; leaf = r.refuted.multipliers.leaf }

-- guards are few
guard_fits : (a : Automaton) (guard : ℕ) → guard < length a.rise → guard < 2 ^ 32
guard_fits a guard below = let few = a.shape.limits.rise_limit in omega arith

leaf_pairs : (a : Automaton) (o : Order) → RefutedPair a o.before o.after o.multipliers → ArePairs 0 o.multipliers
leaf_pairs a o r =
    let few = few_of_pair a o.before o.after r.system r.is in
    are_pairs 0 (length r.system.rows) o.multipliers (omega arith) r.refuted.multipliers.leaf.multipliers
    (λ k from inside. multipliers_fit r.system o.multipliers r.refuted k inside)

order_of : (a : Automaton) (o : Order) → IsPair a (pair_of o) → RefutedPair a o.before o.after o.multipliers → IsOrder o
order_of a o is r = record {
  before = guard_fits a o.before is.before;
  after = guard_fits a o.after is.after;
  leaf = (r.refuted.multipliers.some, leaf_pairs a o r);
}

-- the lines of an order are short
guards_short : (o : Order) → IsOrder o → length (line_text (line.Tree (node.Order o.before o.after))) ≤ 8192
guards_short o is = omega (arith, length-append (decimal o.before) (codes " " ++ decimal o.after), row_short o.before is.before, row_short o.after is.after)

leaf_short : (a : Automaton) (o : Order) → RefutedPair a o.before o.after o.multipliers → length (line_text (line.Tree (node.Leaf o.multipliers))) ≤ 8192
leaf_short a o r =
    let few = few_of_pair a o.before o.after r.system r.is in
    omega (arith, few.unknowns, pairs_short 0 o.multipliers (leaf_pairs a o r), few_multipliers r.system o.multipliers r.refuted)

short_push : (limit : ℕ) (os : List Order) (o : Order) → 8192 ≤ limit → AreShort limit (order_lines os)
    → length (line_text (line.Tree (node.Order o.before o.after))) ≤ 8192 → length (line_text (line.Tree (node.Leaf o.multipliers))) ≤ 8192
    → AreShort limit (order_lines (os ++ o ∷ []))
short_push limit [] o room short guards leaf = (omega (arith, room, guards), (omega (arith, room, leaf), tt))
short_push limit (p ∷ ps) o room short guards leaf = (short.0, (short.1.0, short_push limit ps o room short.1.1 guards leaf))

-- one more order
sound_push : (a : Automaton) (os : List Order) (o : Order) → AreSoundOrders a os → IsTaken a os o.before o.after o.multipliers → AreSoundOrders a (os ++ o ∷ [])
sound_push a os o sound taken =
    let r = taken.refuted in
    let is = order_of a o taken.may.is r in
    record {
      good = subst (Good a) (sym (map-append pair_of os (o ∷ []))) (good_behind a (map pair_of os) (pair_of o) sound.good taken.may (implied_of a o r));
      shown = each_push (λ (p : Order). IsShown a (pair_of p) p.multipliers) os o sound.shown (shown_of a o r);
      writable = each_push IsOrder os o sound.writable is;
      short = λ limit room. short_push limit os o room (sound.short limit room) (guards_short o is) (leaf_short a o r);
    }

tried_sound : (a : Automaton) (os : List Order) (before after : ℕ) (found : List Order) → AreSoundOrders a os → TryAnswers a os before after found
    → AreSoundOrders a found
tried_sound a os before after found sound (inl t) = subst (AreSoundOrders a) (sym t.whole)
    (sound_push a os (record { before = before; after = after; multipliers = t.multipliers }) sound t.taken)
tried_sound a os before after found sound (inr t) = subst (AreSoundOrders a) (sym t.same) sound

before_sound : (a : Automaton) (os : List Order) (after count : ℕ) (found : List Order) → AreSoundOrders a os → FoundBefore a os after count found
    → AreSoundOrders a found
before_sound a os after zero found sound f = subst (AreSoundOrders a) (sym f) sound
before_sound a os after (suc before) found sound (next, f, t) = tried_sound a next before after found (before_sound a os after before next sound f) t

none_sound : (a : Automaton) → AreSoundOrders a []
none_sound a = record {
  good = record { pairs_are = tt; implied = tt; distinct = tt; acyclic = λ more guard leads. nothing more guard guard leads };
  shown = tt;
  writable = tt;
  short = λ limit room. tt;
}
  where
    nothing : (more first last : ℕ) → ChainLeads [] more first last → ⊥
    nothing zero first last leads = leads
    nothing (suc more) first last leads = leads.1

after_sound : (a : Automaton) (count : ℕ) (found : List Order) → FoundAfter a count found → AreSoundOrders a found
after_sound a zero found f = subst (AreSoundOrders a) (sym f) (none_sound a)
after_sound a (suc after) found (next, f, t) = before_sound a next after (length a.rise) found (after_sound a after next f) t

pub orders_sound : FoundOrdersAreSound
orders_sound a os f = after_sound a (length a.rise) os f
