-- the guards of one rule, numbered one after another
use Rattle.ta_meaning.proofs.Common.{Limits, ◌≡◌, ◌⊎◌, inl, inr, ℕ, List, [], ◌∷◌, ◌++◌, map, length, true, false, arith, sym, ap, ◌∙◌, refl, subst, append-nil}
use Rattle.ta_meaning.proofs.Common.{length-map, slice_get_within, true≢false, AllByRecursion, each_at, each_push, each_weaker, PlainComparison}
use Rattle.ta_meaning.proofs.Common.{plain_comparison, TreeComparison, FileFault, Names, guard_names, Linear, UsesNames, Guards, falls, with_row, with_guard}
use Rattle.ta_meaning.proofs.Common.{with_guards, rows_of, NamesGuards, FirstOrMemory, in_guards, guard_faults, guards_faults, guards_then, guards_so_far}
use Rattle.ta_meaning.proofs.Common.{GuardsKept, GuardNumbered, GuardsNumbered, AmongGuards, WithNumber, NumberFits, linear_of, GuardList, GuardMasks}
use Rattle.ta_meaning.proofs.Common.{GuardNumber, append_assoc, empty_before}
use Rattle.ta_meaning.proofs.Answering.{append-left-first}
use Rattle.ta_meaning.proofs.GuardSteps.{Extends, with_row_cases, guard_falls, guard_rises, extends_guard, guards_append, rows_append, rows_one, among_extends}
use Rattle.ta_meaning.proofs.GuardSteps.{among_number, mask_kind, mask_other, no_rows, guards_counted}
use Rattle.ta_meaning.specs.declared.guards.GuardNumber.TheVariants as number

-- a guard's number fits its mask
pub number_fits : (l : Limits) (ns : Names) (before after : GuardList) (c : PlainComparison) (n : GuardNumber) → GuardNumbered l ns before c after n
    → NumberFits n
number_fits l ns before after c (number.Rise n) h =
    let within = slice_get_within (guards_so_far ns after).rise n h.row h.numbered.1 in
    let count = length-map after.rise.items (linear_of (length (guard_names ns))) in
    let limit = h.kept.rise_limit in
    let few = l.few_rises in
    omega arith
number_fits l ns before after c (number.Fall n) h =
    let within = slice_get_within (guards_so_far ns after).fall n h.row h.numbered.1 in
    let count = length-map after.fall.items (linear_of (length (guard_names ns))) in
    let limit = h.kept.fall_limit in
    let few = l.few_falls in
    omega arith

-- the masks of one more row
masks_more : (l : Limits) (ns : Names) (before after : GuardList) (c : PlainComparison) (rows : List Linear) (masks more : GuardMasks) (n : GuardNumber)
    (h : GuardNumbered l ns before c after n) → WithNumber masks n more
    → NamesGuards (guards_so_far ns before).rise rows masks.rise → NamesGuards (guards_so_far ns before).fall rows masks.fall
    → NamesGuards (guards_so_far ns after).rise (rows ++ h.row ∷ []) more.rise × NamesGuards (guards_so_far ns after).fall (rows ++ h.row ∷ []) more.fall
masks_more l ns before after c rows masks more (number.Rise n) h bits rise fall =
    let parameters = length ns.parameters in
    let g = guards_so_far ns before in
    let k = guards_so_far ns after in
    let grown : k ≡ record { rise = with_row g.rise h.row; fall = g.fall } = h.guards ∙ guard_rises parameters g h.row h.numbered.0 in
    let rise_grown : (k.rise ≡ g.rise) ⊎ (k.rise ≡ g.rise ++ h.row ∷ []) = elim (with_row_cases g.rise h.row) [
      | inl e ↦ inl (ap (λ (z : Guards). z.rise) grown ∙ e)
      | inr e ↦ inr (ap (λ (z : Guards). z.rise) grown ∙ e)
    ] in
    let fall_same : k.fall ≡ g.fall = ap (λ (z : Guards). z.fall) grown in (
      mask_kind g.rise k.rise rows h.row masks.rise n more.rise rise_grown h.kept.rise_distinct h.numbered.1 rise bits.0,
      subst (λ (m : ℕ). NamesGuards k.fall (rows ++ h.row ∷ []) m) (sym bits.1)
          (mask_other k.fall rows h.row masks.fall
          (λ i e. true≢false (sym (each_at (λ (r : Linear). falls parameters r ≡ true) k.fall i h.row h.kept.fall_kind e) ∙ h.numbered.0))
          (subst (λ (zs : List Linear). NamesGuards zs rows masks.fall) (sym fall_same) fall)),
    )
masks_more l ns before after c rows masks more (number.Fall n) h bits rise fall =
    let parameters = length ns.parameters in
    let g = guards_so_far ns before in
    let k = guards_so_far ns after in
    let grown : k ≡ record { rise = g.rise; fall = with_row g.fall h.row } = h.guards ∙ guard_falls parameters g h.row h.numbered.0 in
    let fall_grown : (k.fall ≡ g.fall) ⊎ (k.fall ≡ g.fall ++ h.row ∷ []) = elim (with_row_cases g.fall h.row) [
      | inl e ↦ inl (ap (λ (z : Guards). z.fall) grown ∙ e)
      | inr e ↦ inr (ap (λ (z : Guards). z.fall) grown ∙ e)
    ] in
    let rise_same : k.rise ≡ g.rise = ap (λ (z : Guards). z.rise) grown in (
      subst (λ (m : ℕ). NamesGuards k.rise (rows ++ h.row ∷ []) m) (sym bits.0)
          (mask_other k.rise rows h.row masks.rise
          (λ i e. true≢false (sym h.numbered.0 ∙ each_at (λ (r : Linear). falls parameters r ≡ false) k.rise i h.row h.kept.rise_kind e))
          (subst (λ (zs : List Linear). NamesGuards zs rows masks.rise) (sym rise_same) rise)),
      mask_kind g.fall k.fall rows h.row masks.fall n more.fall fall_grown h.kept.fall_distinct h.numbered.1 fall bits.1,
    )

pub numbered_none : (l : Limits) (ns : Names) (guards : GuardList) → GuardsKept l ns guards
    → GuardsNumbered l ns guards [] guards (record { rise = 0; fall = 0 })
numbered_none l ns guards kept = record {
  kept = kept;
  guards = refl;
  known = tt;
  rise = no_rows (guards_so_far ns guards).rise;
  fall = no_rows (guards_so_far ns guards).fall;
  among = tt;
}

numbered_more : (l : Limits) (ns : Names) (first before after : GuardList) (cs : List PlainComparison) (c : PlainComparison) (masks more : GuardMasks)
    (n : GuardNumber)
    → GuardsNumbered l ns first cs before masks → GuardNumbered l ns before c after n → WithNumber masks n more
    → GuardsNumbered l ns first (cs ++ c ∷ []) after more
numbered_more l ns first before after cs c masks more n all h bits =
    let parameters = length ns.parameters in
    let names = guard_names ns in
    let rows : rows_of names (cs ++ c ∷ []) ≡ rows_of names cs ++ h.row ∷ [] =
    rows_append names cs (c ∷ []) ∙ ap (λ (zs : List Linear). rows_of names cs ++ zs) (rows_one names c ∙ h.one_row) in
    let g = guards_so_far ns before in
    let k = guards_so_far ns after in
    let masks_now = masks_more l ns before after c (rows_of names cs) masks more n h bits all.rise all.fall in
    let old = each_weaker (AmongGuards parameters g) (AmongGuards parameters k) (rows_of names cs)
    (λ r a. among_extends parameters g k r (subst (λ (z : Guards). Extends g z) (sym h.guards) (extends_guard parameters g h.row)) a) all.among in
    record {
      kept = h.kept;
      guards = h.guards ∙ ap (λ (z : Guards). with_guard parameters z h.row) all.guards
          ∙ sym (ap (with_guards parameters (guards_so_far ns first)) rows ∙ guards_append parameters (guards_so_far ns first) (rows_of names cs) (h.row ∷ []));
      known = each_push (UsesNames names) cs c all.known h.known;
      rise = subst (λ (zs : List Linear). NamesGuards k.rise zs more.rise) (sym rows) masks_now.0;
      fall = subst (λ (zs : List Linear). NamesGuards k.fall zs more.fall) (sym rows) masks_now.1;
      among = subst (λ (zs : List Linear). AllByRecursion (AmongGuards parameters k) zs) (sym rows)
          (each_push (AmongGuards parameters k) (rows_of names cs) h.row old (among_number parameters k h.row n h.numbered));
    }

-- the comparisons so far are numbered, and the errors of all are those of the comparisons left
pub record GuardsReading (l : Limits) (ns : Names) (first now : GuardList) (all left : List TreeComparison) (masks : GuardMasks) : Type 0 where
  pub done : List PlainComparison
  pub split : map plain_comparison all ≡ done ++ map plain_comparison left
  pub numbered : GuardsNumbered l ns first done now masks
  pub faults : guards_faults l (length ns.parameters) (in_guards ns) (guards_so_far ns first) all ≡ guards_faults l (length ns.parameters) (in_guards ns)
      (guards_so_far ns now) left

pub reading_begins : (l : Limits) (ns : Names) (guards : GuardList) (all : List TreeComparison) → GuardsKept l ns guards
    → GuardsReading l ns guards guards all all (record { rise = 0; fall = 0 })
reading_begins l ns guards all kept = record { done = []; split = refl; numbered = numbered_none l ns guards kept; faults = refl }

pub reading_more : (l : Limits) (ns : Names) (first before after : GuardList) (all left : List TreeComparison) (c : TreeComparison) (masks more : GuardMasks)
    (n : GuardNumber) → GuardsReading l ns first before all (c ∷ left) masks
    → guard_faults l (length ns.parameters) (in_guards ns) (guards_so_far ns before) c ≡ [] → GuardNumbered l ns before (plain_comparison c) after n
    → WithNumber masks n more → GuardsReading l ns first after all left more
reading_more l ns first before after all left c masks more n reading none h bits =
    let parameters = length ns.parameters in
    let g = guards_so_far ns before in
    record {
      done = reading.done ++ plain_comparison c ∷ [];
      split = reading.split ∙ sym (append_assoc reading.done (plain_comparison c ∷ []) (map plain_comparison left));
      numbered = numbered_more l ns first before after reading.done (plain_comparison c) masks more n reading.numbered h bits;
      faults = reading.faults
          ∙ empty_before (guard_faults l parameters (in_guards ns) g c)
          (guards_faults l parameters (in_guards ns) (guards_then l parameters (in_guards ns) g c) left)
          none
          ∙ ap (λ (z : Guards). guards_faults l parameters (in_guards ns) z left) (guards_counted l parameters (in_guards ns) g c none)
          ∙ ap (λ (rows : List Linear). guards_faults l parameters (in_guards ns) (with_guards parameters g rows) left) h.one_row
          ∙ ap (λ (z : Guards). guards_faults l parameters (in_guards ns) z left) (sym h.guards);
    }

pub reading_stops : (l : Limits) (ns : Names) (first before : GuardList) (all left : List TreeComparison) (c : TreeComparison) (masks : GuardMasks)
    (e : FileFault)
    → GuardsReading l ns first before all (c ∷ left) masks
    → FirstOrMemory (guard_faults l (length ns.parameters) (in_guards ns) (guards_so_far ns before) c) e
    → FirstOrMemory (guards_faults l (length ns.parameters) (in_guards ns) (guards_so_far ns first) all) e
reading_stops l ns first before all left c masks e reading h =
    subst (λ (fs : List FileFault). FirstOrMemory fs e) (sym reading.faults)
    (append-left-first (guard_faults l (length ns.parameters) (in_guards ns) (guards_so_far ns before) c) _ e h)

pub reading_ends : (l : Limits) (ns : Names) (first now : GuardList) (all left : List TreeComparison) (masks : GuardMasks) → left ≡ []
    → GuardsReading l ns first now all left masks
    → (guards_faults l (length ns.parameters) (in_guards ns) (guards_so_far ns first) all ≡ []) × GuardsNumbered l ns first (map plain_comparison all) now masks
reading_ends l ns first now all left masks none reading =
    let r = subst (λ (cs : List TreeComparison). GuardsReading l ns first now all cs masks) none reading in (
      r.faults,
      subst (λ (cs : List PlainComparison). GuardsNumbered l ns first cs now masks) (sym (r.split ∙ append-nil r.done)) r.numbered,
    )
