-- the parts of one rule
use Rattle.ta_meaning.proofs.Common.{Limits, ◌≡◌, ℕ, ℤ, ◌<◌, ◌^◌, List, [], ◌∷◌, ◌++◌, map, length, slice_get, Some, arith, sym, subst, slice_get_within}
use Rattle.ta_meaning.proofs.Common.{length-map, Row, plain_comparison, plain_update, TreeRule, FileFault, Name, Rule, Names, all_names, guard_names, Linear}
use Rattle.ta_meaning.proofs.Common.{Guards, NamesGuards, rows_of, FirstOrMemory, declared_faults, used_faults, in_guards, guards_faults, updates_faults}
use Rattle.ta_meaning.proofs.Common.{rule_faults, linear_of, guards_so_far, GuardsNumbered, UpdatesRead, RuleRead, GuardList, GuardMasks, empty_both}
use Rattle.ta_meaning.proofs.Declared.{declared-legal}
use Rattle.ta_meaning.proofs.Answering.{append-left-first, append-right-first}
use Rattle.ta_meaning.proofs.GuardSteps.{mask_fits}

-- ---- the first error of a rule

abbrev from_faults : Names → TreeRule → List FileFault
from_faults ns r = used_faults (all_names ns) ns.locations r.from

abbrev to_faults : Names → TreeRule → List FileFault
to_faults ns r = used_faults (all_names ns) ns.locations r.to

abbrev pub when_faults : Limits → Names → Guards → TreeRule → List FileFault
when_faults l ns g r = guards_faults l (length ns.parameters) (in_guards ns) g r.guards

pub first_declared : (l : Limits) (ns : Names) (names : List (List ℕ)) (g : Guards) (r : TreeRule) (e : FileFault)
    → FirstOrMemory (declared_faults names r.name) e
    → FirstOrMemory (rule_faults l ns names g r) e
first_declared l ns names g r e h = append-left-first (declared_faults names r.name) _ e h

pub first_from : (l : Limits) (ns : Names) (names : List (List ℕ)) (g : Guards) (r : TreeRule) (e : FileFault) → declared_faults names r.name ≡ []
    → FirstOrMemory (from_faults ns r) e → FirstOrMemory (rule_faults l ns names g r) e
first_from l ns names g r e a h = append-right-first (declared_faults names r.name) _ e a (append-left-first (from_faults ns r) _ e h)

pub first_to : (l : Limits) (ns : Names) (names : List (List ℕ)) (g : Guards) (r : TreeRule) (e : FileFault) → declared_faults names r.name ≡ []
    → from_faults ns r ≡ []
    → FirstOrMemory (to_faults ns r) e → FirstOrMemory (rule_faults l ns names g r) e
first_to l ns names g r e a b h = append-right-first (declared_faults names r.name) _ e a
    (append-right-first (from_faults ns r) _ e b (append-left-first (to_faults ns r) _ e h))

pub first_guards : (l : Limits) (ns : Names) (names : List (List ℕ)) (g : Guards) (r : TreeRule) (e : FileFault) → declared_faults names r.name ≡ []
    → from_faults ns r ≡ []
    → to_faults ns r ≡ [] → FirstOrMemory (when_faults l ns g r) e → FirstOrMemory (rule_faults l ns names g r) e
first_guards l ns names g r e a b c h =
    append-right-first (declared_faults names r.name) _ e a
    (append-right-first (from_faults ns r) _ e b (append-right-first (to_faults ns r) _ e c (append-left-first (when_faults l ns g r) _ e h)))

pub first_updates : (l : Limits) (ns : Names) (names : List (List ℕ)) (g : Guards) (r : TreeRule) (e : FileFault) → declared_faults names r.name ≡ []
    → from_faults ns r ≡ []
    → to_faults ns r ≡ [] → when_faults l ns g r ≡ [] → FirstOrMemory (updates_faults ns [] r.updates) e → FirstOrMemory (rule_faults l ns names g r) e
first_updates l ns names g r e a b c d h =
    append-right-first (declared_faults names r.name) _ e a
    (append-right-first (from_faults ns r) _ e b
    (append-right-first (to_faults ns r) _ e c (append-right-first (when_faults l ns g r) (updates_faults ns [] r.updates) e d h)))

pub none_in_rule : (l : Limits) (ns : Names) (names : List (List ℕ)) (g : Guards) (r : TreeRule) → declared_faults names r.name ≡ [] → from_faults ns r ≡ []
    → to_faults ns r ≡ [] → when_faults l ns g r ≡ [] → updates_faults ns [] r.updates ≡ [] → rule_faults l ns names g r ≡ []
none_in_rule l ns names g r a b c d e =
    empty_both (declared_faults names r.name) _ a
    (empty_both (from_faults ns r) _ b (empty_both (to_faults ns r) _ c (empty_both (when_faults l ns g r) (updates_faults ns [] r.updates) d e)))

-- ---- a rule without errors

pub rows_fit : (places : ℕ) (rows : List Row) (linears : List Linear) (mask : ℕ) → NamesGuards (map (linear_of places) rows) linears mask
    → mask < 2 ^ length rows
rows_fit places rows linears mask names = subst (λ (n : ℕ). mask < 2 ^ n) (length-map rows (linear_of places))
    (mask_fits (map (linear_of places) rows) linears mask names)

pub rule_read : (l : Limits) (ns : Names) (names names_after : List (List ℕ)) (before after : GuardList) (r : TreeRule) (masks : GuardMasks)
    (updates : List (ℕ × ℤ))
    (rule : Rule)
    → declared_faults names r.name ≡ [] → names_after ≡ names ++ r.name.name ∷ [] → slice_get ns.locations rule.from ≡ Some r.from.name
    → slice_get ns.locations rule.to ≡ Some r.to.name
    → GuardsNumbered l ns before (map plain_comparison r.guards) after masks → UpdatesRead ns (map plain_update r.updates) updates
    → rule.name ≡ r.name.name → rule.rise ≡ masks.rise → rule.fall ≡ masks.fall → rule.updates ≡ updates → RuleRead l ns names before r names_after after rule
rule_read l ns names names_after before after r masks updates rule none declared from to guards read named rise fall same =
    let places = length (guard_names ns) in
    let rows = rows_of (guard_names ns) (map plain_comparison r.guards) in
    let rise_names = subst (λ (m : ℕ). NamesGuards (guards_so_far ns after).rise rows m) (sym rise) guards.rise in
    let fall_names = subst (λ (m : ℕ). NamesGuards (guards_so_far ns after).fall rows m) (sym fall) guards.fall in
    let all = subst (λ (us : List (ℕ × ℤ)). UpdatesRead ns (map plain_update r.updates) us) (sym same) read in
    record {
      declared = declared;
      kept = guards.kept;
      guards = guards.guards;
      so_far = record {
        means = record {
          name = named;
          from = from;
          to = to;
          known = guards.known;
          rise = rise_names;
          fall = fall_names;
          updates = all.means;
        };
        among = guards.among;
        within = record {
          name = subst (λ (n : List ℕ). Name n) (sym named) (declared-legal names r.name none);
          from = slice_get_within ns.locations rule.from r.from.name from;
          to = slice_get_within ns.locations rule.to r.to.name to;
          rise_mask = rows_fit places after.rise.items rows rule.rise rise_names;
          fall_mask = rows_fit places after.fall.items rows rule.fall fall_names;
          updates_limit = (let few = all.few in let count = length-map r.updates plain_update in let limit = r.few_updates in omega arith);
          updates = all.each;
          variables_distinct = all.distinct;
        };
      };
    }
