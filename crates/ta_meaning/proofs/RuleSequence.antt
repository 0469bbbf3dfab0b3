-- rules read one after another, and the guards of all of them
use Rattle.ta_meaning.proofs.Common.{Limits, pairwise_push, ◌≡◌, ℕ, ◌≤◌, List, [], ◌∷◌, ◌++◌, map, length, Bool, true, false, arith, sym, ap, ◌∙◌, refl, subst}
use Rattle.ta_meaning.proofs.Common.{append-nil, map_push, true≢false, cond-true, cond-false, AllByRecursion, distinct_push, distinct_unmap, each_at}
use Rattle.ta_meaning.proofs.Common.{each_weaker, Row, PlainRule, plain_rule, TreeRule, FileFault, Distinct, RiseRow, FallRow, RuleWithin, name_of, Rule, Names}
use Rattle.ta_meaning.proofs.Common.{guard_names, all_names, Linear, Pairwise, RowOf, Guards, no_guards, falls, has_row, with_guards, rows_of, guards_after}
use Rattle.ta_meaning.proofs.Common.{NamesGuards, MeansRule, guards_of, FirstOrMemory, in_guards, declared_faults, guards_with, rule_faults, rules_faults}
use Rattle.ta_meaning.proofs.Common.{used_faults, guards_faults, updates_faults, ResolvedGuards, ResolvedRules, linear_of, guards_so_far, GuardsKept}
use Rattle.ta_meaning.proofs.Common.{AmongGuards, RuleSoFar, RuleRead, GuardList, append_assoc, empty_before, empty_left, empty_right}
use Rattle.ta_base.proofs.Pairwise.{pairwise_with, pairwise_each}
use Rattle.ta_meaning.proofs.Declared.{declared-new}
use Rattle.ta_meaning.proofs.Answering.{append-left-first}
use Rattle.ta_meaning.proofs.NormalTerms.{linear_row}
use Rattle.ta_meaning.proofs.GuardRows.{at_has}
use Rattle.ta_meaning.proofs.GuardNumbers.{Normal, guards_same, rise_normal, fall_normal}
use Rattle.ta_meaning.proofs.GuardSteps.{Extends, extends_guards, guards_with_rows, among_extends, mask_later}
use Rattle.ta_meaning.proofs.ListedNames.{has_name-at}
use Rattle.ta_meaning.proofs.RuleSteps.{rows_fit}

-- ---- pairs
pairwise_rows : (places : ℕ) (rows : List Row) → AllByRecursion (Normal places) rows → Pairwise RowOf (map (linear_of places) rows) rows
pairwise_rows places [] h = tt
pairwise_rows places (r ∷ rows) h = (linear_row r places h.0, pairwise_rows places rows h.1)

-- ---- later guards
kind_later : (parameters : ℕ) (kind : Bool) (guards more after rows : List Linear) (mask : ℕ) → after ≡ guards ++ more → Distinct after
    → AllByRecursion (λ (r : Linear). falls parameters r ≡ kind) after
    → ((r : Linear) → falls parameters r ≡ kind → has_row rows r ≡ true → has_row guards r ≡ true) → NamesGuards guards rows mask → NamesGuards after rows mask
kind_later parameters kind guards more after rows mask grown distinct kinds among names =
    let kinds_all = subst (λ (zs : List Linear). AllByRecursion (λ (r : Linear). falls parameters r ≡ kind) zs) grown kinds in
    subst (λ (zs : List Linear). NamesGuards zs rows mask) (sym grown)
    (mask_later guards more rows mask (subst (λ (zs : List Linear). Distinct zs) grown distinct) (λ i r at has.
    among r (each_at (λ (q : Linear). falls parameters q ≡ kind) (guards ++ more) i r kinds_all at) has) names)

-- each of some rows is among the guards of its kind
among_row : (parameters : ℕ) (g : Guards) (rows : List Linear) (r : Linear) → AllByRecursion (AmongGuards parameters g) rows → has_row rows r ≡ true
    → AmongGuards parameters g r
among_row parameters g rows r among has = let w = at_has rows r has in each_at (AmongGuards parameters g) rows w.0 r among w.1

-- a rule keeps its meaning when guards come after its own
rule_later : (l : Limits) (ns : Names) (before after : GuardList) (r : PlainRule) (rule : Rule) → Extends (guards_so_far ns before) (guards_so_far ns after)
    → GuardsKept l ns after → RuleSoFar ns before r rule → RuleSoFar ns after r rule
rule_later l ns before after r rule x kept h =
    let parameters = length ns.parameters in
    let places = length (guard_names ns) in
    let g = guards_so_far ns before in
    let k = guards_so_far ns after in
    let rows = rows_of (guard_names ns) r.guards in
    let rise_names = kind_later parameters false g.rise x.rise_more k.rise rows rule.rise x.rise kept.rise_distinct kept.rise_kind
    (λ q kind has. sym (cond-false (falls parameters q) (has_row g.fall q) (has_row g.rise q) kind) ∙ among_row parameters g rows q h.among has) h.means.rise in
    let fall_names = kind_later parameters true g.fall x.fall_more k.fall rows rule.fall x.fall kept.fall_distinct kept.fall_kind
    (λ q kind has. sym (cond-true (falls parameters q) (has_row g.fall q) (has_row g.rise q) kind) ∙ among_row parameters g rows q h.among has) h.means.fall in
    record {
      means = record {
        name = h.means.name;
        from = h.means.from;
        to = h.means.to;
        known = h.means.known;
        rise = rise_names;
        fall = fall_names;
        updates = h.means.updates;
      };
      among = each_weaker (AmongGuards parameters g) (AmongGuards parameters k) rows (λ q a. among_extends parameters g k q x a) h.among;
      within = record {
        name = h.within.name;
        from = h.within.from;
        to = h.within.to;
        rise_mask = rows_fit places after.rise.items rows rule.rise rise_names;
        fall_mask = rows_fit places after.fall.items rows rule.fall fall_names;
        updates_limit = h.within.updates_limit;
        updates = h.within.updates;
        variables_distinct = h.within.variables_distinct;
      };
    }

guards_after_push : (parameters : ℕ) (names : List (List ℕ)) (g : Guards) (rules : List PlainRule) (r : PlainRule)
    → guards_after parameters names g (rules ++ r ∷ []) ≡ with_guards parameters (guards_after parameters names g rules) (rows_of names r.guards)
guards_after_push parameters names g [] r = refl
guards_after_push parameters names g (q ∷ rules) r = guards_after_push parameters names (with_guards parameters g (rows_of names q.guards)) rules r

-- ---- rules one after another

-- the rules so far are read, and the errors of all are those of the rules left
pub record RulesReading (l : Limits) (ns : Names) (all left : List TreeRule) (names : List (List ℕ)) (guards : GuardList) (rules : List Rule) : Type 0 where
  pub faults : rules_faults l ns [] no_guards all ≡ rules_faults l ns names (guards_so_far ns guards) left
  pub kept : GuardsKept l ns guards
  pub done : List PlainRule
  pub split : map plain_rule all ≡ done ++ map plain_rule left
  pub guards_are : guards_so_far ns guards ≡ guards_of ns done
  pub so_far : Pairwise (RuleSoFar ns guards) done rules
  pub names_are : names ≡ map name_of rules
  pub distinct : Distinct names

pub no_guards_kept : (l : Limits) (ns : Names) (guards : GuardList) → guards.rise.items ≡ [] → guards.fall.items ≡ [] → GuardsKept l ns guards
no_guards_kept l ns guards r f =
    let places = length (guard_names ns) in
    let parameters = length ns.parameters in
    let shared = length ns.shared in
    record {
      rise_limit = subst (λ (zs : List Row). length zs ≤ l.rises) (sym r) (omega arith);
      fall_limit = subst (λ (zs : List Row). length zs ≤ l.falls) (sym f) (omega arith);
      rise_rows = subst (λ (zs : List Row). AllByRecursion (RiseRow parameters shared) zs) (sym r) tt;
      fall_rows = subst (λ (zs : List Row). AllByRecursion (FallRow parameters shared) zs) (sym f) tt;
      rise_distinct = subst (λ (zs : List Row). Distinct (map (linear_of places) zs)) (sym r) tt;
      fall_distinct = subst (λ (zs : List Row). Distinct (map (linear_of places) zs)) (sym f) tt;
      rise_kind = subst (λ (zs : List Row). AllByRecursion (λ (q : Linear). falls parameters q ≡ false) (map (linear_of places) zs)) (sym r) tt;
      fall_kind = subst (λ (zs : List Row). AllByRecursion (λ (q : Linear). falls parameters q ≡ true) (map (linear_of places) zs)) (sym f) tt;
    }

pub rules_begin : (l : Limits) (ns : Names) (all left : List TreeRule) (names : List (List ℕ)) (guards : GuardList) (rules : List Rule) → left ≡ all
    → names ≡ []
    → guards.rise.items ≡ [] → guards.fall.items ≡ [] → rules ≡ [] → RulesReading l ns all left names guards rules
rules_begin l ns all left names guards rules left_is n r f e =
    let places = length (guard_names ns) in
    let none : guards_so_far ns guards ≡ no_guards = guards_same (guards_so_far ns guards) no_guards (ap (map (linear_of places)) r)
    (ap (map (linear_of places)) f) in
    record {
      faults = ap (λ (ms : List (List ℕ)). rules_faults l ns ms no_guards all) (sym n) ∙ ap (λ (g : Guards). rules_faults l ns names g all) (sym none)
          ∙ ap (rules_faults l ns names (guards_so_far ns guards)) (sym left_is);
      kept = no_guards_kept l ns guards r f;
      done = [];
      split = ap (map plain_rule) (sym left_is);
      guards_are = none;
      so_far = subst (λ (zs : List Rule). Pairwise (RuleSoFar ns guards) [] zs) (sym e) tt;
      names_are = n ∙ sym (ap (map name_of) e);
      distinct = subst (λ (ms : List (List ℕ)). Distinct ms) (sym n) tt;
    }

-- the guards of a rule without errors have none
guards_fine : (l : Limits) (ns : Names) (names : List (List ℕ)) (g : Guards) (r : TreeRule) → rule_faults l ns names g r ≡ []
    → guards_faults l (length ns.parameters) (in_guards ns) g r.guards ≡ []
guards_fine l ns names g r none =
    let name = declared_faults names r.name in
    let from = used_faults (all_names ns) ns.locations r.from in
    let to = used_faults (all_names ns) ns.locations r.to in
    let when = guards_faults l (length ns.parameters) (in_guards ns) g r.guards in
    let do_ = updates_faults ns [] r.updates in
    empty_left when do_ (empty_right to (when ++ do_) (empty_right from (to ++ (when ++ do_)) (empty_right name (from ++ (to ++ (when ++ do_))) none)))

pub rules_more : (l : Limits) (ns : Names) (all left : List TreeRule) (r : TreeRule) (names names_after : List (List ℕ)) (before after : GuardList)
    (rules : List Rule)
    (rule : Rule) → RulesReading l ns all (r ∷ left) names before rules
    → rule_faults l ns names (guards_so_far ns before) r ≡ [] → RuleRead l ns names before r names_after after rule
    → RulesReading l ns all left names_after after (rules ++ rule ∷ [])
rules_more l ns all left r names names_after before after rules rule reading none read =
    let parameters = length ns.parameters in
    let g = guards_so_far ns before in
    let k = guards_so_far ns after in
    let x : Extends g k = subst (λ (z : Guards). Extends g z) (sym read.guards) (extends_guards parameters g (rows_of (guard_names ns) (plain_rule r).guards))
    in
    let old = pairwise_with (RuleSoFar ns before) (RuleSoFar ns after) reading.done rules (λ q z h. rule_later l ns before after q z x read.kept h)
    reading.so_far
    in
    let declared = empty_left (declared_faults names r.name) _ none in
    record {
      faults = reading.faults
          ∙ empty_before (rule_faults l ns names g r) (rules_faults l ns (names ++ r.name.name ∷ []) (guards_with l parameters (in_guards ns) g r.guards) left)
          none
          ∙ ap (λ (z : Guards). rules_faults l ns (names ++ r.name.name ∷ []) z left)
          (guards_with_rows l parameters (in_guards ns) g r.guards (guards_fine l ns names g r none) ∙ sym read.guards)
          ∙ ap (λ (ms : List (List ℕ)). rules_faults l ns ms k left) (sym read.declared);
      kept = read.kept;
      done = reading.done ++ plain_rule r ∷ [];
      split = reading.split ∙ sym (append_assoc reading.done (plain_rule r ∷ []) (map plain_rule left));
      guards_are = read.guards ∙ ap (λ (z : Guards). with_guards parameters z (rows_of (guard_names ns) (plain_rule r).guards)) reading.guards_are
          ∙ sym (guards_after_push parameters (guard_names ns) no_guards reading.done (plain_rule r));
      so_far = pairwise_push (RuleSoFar ns after) reading.done rules (plain_rule r) rule old read.so_far;
      names_are = read.declared ∙ ap (λ (ms : List (List ℕ)). ms ++ r.name.name ∷ []) reading.names_are
          ∙ ap (λ (n : List ℕ). map name_of rules ++ n ∷ []) (sym read.so_far.means.name) ∙ sym (map_push name_of rules rule);
      distinct = subst (λ (ms : List (List ℕ)). Distinct ms) (sym read.declared)
          (distinct_push names r.name.name reading.distinct (λ i e. true≢false (sym (has_name-at names r.name.name i e) ∙ declared-new names r.name declared)));
    }

pub rules_stop : (l : Limits) (ns : Names) (all left : List TreeRule) (r : TreeRule) (names : List (List ℕ)) (guards : GuardList) (rules : List Rule)
    (e : FileFault)
    → RulesReading l ns all (r ∷ left) names guards rules
    → FirstOrMemory (rule_faults l ns names (guards_so_far ns guards) r) e → FirstOrMemory (rules_faults l ns [] no_guards all) e
rules_stop l ns all left r names guards rules e reading h =
    subst (λ (fs : List FileFault). FirstOrMemory fs e) (sym reading.faults) (append-left-first (rule_faults l ns names (guards_so_far ns guards) r) _ e h)

pub rules_end : (l : Limits) (ns : Names) (all left : List TreeRule) (names : List (List ℕ)) (guards : GuardList) (rules : List Rule) → left ≡ []
    → RulesReading l ns all left names guards rules
    → (rules_faults l ns [] no_guards all ≡ []) × ResolvedRules l ns (map plain_rule all) guards.rise.items guards.fall.items rules
rules_end l ns all left names guards rules none reading =
    let r = subst (λ (rs : List TreeRule). RulesReading l ns all rs names guards rules) none reading in
    let places = length (guard_names ns) in
    let plain : map plain_rule all ≡ r.done = r.split ∙ append-nil r.done in
    let same : guards_of ns (map plain_rule all) ≡ guards_so_far ns guards = ap (guards_of ns) plain ∙ sym r.guards_are in (
      r.faults,
      record {
        guards = subst (λ (z : Guards). ResolvedGuards l ns z guards.rise.items guards.fall.items) (sym same) (record {
          rise_of = pairwise_rows places guards.rise.items (rise_normal l ns guards r.kept);
          fall_of = pairwise_rows places guards.fall.items (fall_normal l ns guards r.kept);
          rise_limit = r.kept.rise_limit;
          fall_limit = r.kept.fall_limit;
          rise_rows = r.kept.rise_rows;
          fall_rows = r.kept.fall_rows;
          rise_distinct = distinct_unmap (linear_of places) guards.rise.items r.kept.rise_distinct;
          fall_distinct = distinct_unmap (linear_of places) guards.fall.items r.kept.fall_distinct;
        });
        means = subst (λ (z : Guards). Pairwise (MeansRule ns z) (map plain_rule all) rules) (sym same)
            (subst (λ (rs : List PlainRule). Pairwise (MeansRule ns (guards_so_far ns guards)) rs rules) (sym plain)
            (pairwise_with (RuleSoFar ns guards) (MeansRule ns (guards_so_far ns guards)) r.done rules (λ q z h. h.means) r.so_far));
        within = pairwise_each (RuleSoFar ns guards) (RuleWithin (length ns.shared) (length ns.locations) (length guards.rise.items) (length guards.fall.items))
            r.done rules (λ q z h. h.within) r.so_far;
        distinct = subst (λ (ms : List (List ℕ)). Distinct ms) r.names_are r.distinct;
      },
    )
