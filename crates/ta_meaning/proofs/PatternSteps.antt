-- Patterns and their events, one after another.
use Rattle.ta_meaning.proofs.Common.{pairwise_push, ◌≡◌, ℕ, ◌+◌, ◌<◌, ◌≤◌, List, [], ◌∷◌, ◌++◌, length, map, refl, sym, ap, subst, ◌∙◌, append_assoc, arith}
use Rattle.ta_meaning.proofs.Common.{append-nil, length-map, length_push, map_push, AllByRecursion, each_append, each_from-push, PlainEvent, PlainPattern}
use Rattle.ta_meaning.proofs.Common.{plain_name, plain_comparison, plain_event, plain_pattern, Spelled, TreeEvent, TreePattern, FileFault, Event, Pattern}
use Rattle.ta_meaning.proofs.Common.{EachFrom, Distinct, Name, EventWithin, event_name, PatternWithin, pattern_name, Names, all_names, Pairwise, MeansEvent}
use Rattle.ta_meaning.proofs.Common.{MeansEvents, MeansPattern, FirstOrMemory, in_conditions, declared_faults, condition_faults, event_faults, events_faults}
use Rattle.ta_meaning.proofs.Common.{pattern_faults, patterns_faults, ResolvedCondition, ResolvedPatterns, ListedMask, DeclaredNext, ResolvedEvent}
use Rattle.ta_meaning.proofs.Common.{ResolvedEvents, ResolvedPattern, empty_before, empty_both}
use Rattle.ta_meaning.proofs.Answering.{append-left-first, append-right-first}
use Rattle.ta_meaning.proofs.Declared.{declared-legal, declared-distinct}
use Rattle.ta_meaning.specs.Inside.PatternParts.{pattern_head_faults}

declared_next : (before : List (List ℕ)) (n : Spelled) (names : List (List ℕ)) → Distinct before → declared_faults before n ≡ [] → names ≡ before ++ n.name ∷ []
    → DeclaredNext before n.name names
declared_next before n names d none is = record { next = is; distinct = subst (λ (z : List (List ℕ)). Distinct z) (sym is) (declared-distinct before n d none) }

-- a copy of a name that is declared without an error is legal
copied_legal : (before : List (List ℕ)) (n : Spelled) (text : List ℕ) → declared_faults before n ≡ [] → text ≡ n.name → Name text
copied_legal before n text none is = subst Name (sym is) (declared-legal before n none)

-- ---- one event
pub event_resolved : (ns : Names) (before : List (List ℕ)) (e : TreeEvent) (names : List (List ℕ)) (event : Event) → Distinct before
    → declared_faults before e.name ≡ [] → names ≡ before ++ e.name.name ∷ [] → event.name ≡ e.name.name
    → ListedMask before (map plain_name e.after) event.after → ResolvedCondition (all_names ns) (map plain_comparison e.condition) event.condition
    → ResolvedEvent ns before (plain_event e) names event
event_resolved ns before e names event d none is name listed resolved = record {
  means = record { name = name; after = listed.bits; condition = resolved.means };
  within = record { name = copied_legal before e.name event.name none name; after = listed.below; condition = resolved.over };
  declared = declared_next before e.name names d none is;
}

means_events-push : (ns : Names) (before : List (List ℕ)) (es : List PlainEvent) (events : List Event) (e : PlainEvent) (event : Event)
    → MeansEvents ns before es events → MeansEvent ns (before ++ map event_name events) e event → MeansEvents ns before (es ++ e ∷ []) (events ++ event ∷ [])
means_events-push ns before [] [] e event means here = (subst (λ (z : List (List ℕ)). MeansEvent ns z e event) (append-nil before) here, tt)
means_events-push ns before [] (a ∷ events) e event means here = absurd means
means_events-push ns before (b ∷ es) [] e event means here = absurd means
means_events-push ns before (b ∷ es) (a ∷ events) e event means here =
    let regroup : before ++ a.name ∷ map event_name events ≡ (before ++ b.name ∷ [])
    ++ map event_name events = ap (λ (n : List ℕ). before ++ n ∷ map event_name events) (means.0).name
    ∙ sym (append_assoc before (b.name ∷ []) (map event_name events)) in
    (means.0, means_events-push ns (before ++ b.name ∷ []) es events e event means.1 (subst (λ (z : List (List ℕ)). MeansEvent ns z e event) regroup here))

-- events are resolved, and the rest of them is left
pub record EventsTo (ns : Names) (all rest : List TreeEvent) (names : List (List ℕ)) (resolved : List Event) : Type 0 where
  pub faults : events_faults ns [] all ≡ events_faults ns names rest
  pub names_are : names ≡ map event_name resolved
  pub distinct : Distinct names
  pub done : List PlainEvent
  pub done_are : map plain_event all ≡ done ++ map plain_event rest
  pub means : MeansEvents ns [] done resolved
  pub within : EachFrom (EventWithin (length (all_names ns))) 0 resolved
  pub count : length resolved + length rest ≡ length all

pub events_begin : (ns : Names) (all : List TreeEvent) (names : List (List ℕ)) (resolved : List Event) → names ≡ [] → resolved ≡ []
    → EventsTo ns all all names resolved
events_begin ns all names resolved e f =
    let begin : EventsTo ns all all [] [] = record
    { faults = refl; names_are = refl; distinct = tt; done = []; done_are = refl; means = tt; within = tt; count = omega arith } in
    subst (λ (z : List (List ℕ)). EventsTo ns all all z resolved) (sym e) (subst (λ (z : List Event). EventsTo ns all all [] z) (sym f) begin)

module _ (ns : Names) (all : List TreeEvent) (e : TreeEvent) (rest : List TreeEvent) (names : List (List ℕ)) (resolved : List Event)
    (to : EventsTo ns all (e ∷ rest) names resolved) where
  names_count : length names ≡ length resolved
  names_count = ap (λ (z : List (List ℕ)). length z) to.names_are ∙ length-map resolved event_name

  pub few_events : length all ≤ 8 → length names < 8
  few_events few = let same = names_count in let count = to.count in omega arith

  pub events_stop : (f : FileFault) → FirstOrMemory (event_faults ns names e) f → FirstOrMemory (events_faults ns [] all) f
  events_stop f first = rw to.faults (append-left-first _ _ f first)

  pub events_go_on : (more : List (List ℕ)) (event : Event) → event_faults ns names e ≡ [] → ResolvedEvent ns names (plain_event e) more event
      → EventsTo ns all rest more (resolved ++ event ∷ [])
  events_go_on more event none r = record {
    faults = to.faults ∙ empty_before _ _ none ∙ ap (λ (z : List (List ℕ)). events_faults ns z rest) (sym r.declared.next);
    names_are = r.declared.next ∙ ap (λ (z : List (List ℕ)). z ++ e.name.name ∷ []) to.names_are
        ∙ ap (λ (n : List ℕ). map event_name resolved ++ n ∷ []) (sym r.means.name) ∙ sym (map_push event_name resolved event);
    distinct = r.declared.distinct;
    done = to.done ++ plain_event e ∷ [];
    done_are = to.done_are ∙ sym (append_assoc to.done (plain_event e ∷ []) (map plain_event rest));
    means = means_events-push ns [] to.done resolved (plain_event e) event to.means
        (subst (λ (z : List (List ℕ)). MeansEvent ns z (plain_event e) event) to.names_are r.means);
    within = each_from-push (EventWithin (length (all_names ns))) 0 resolved event to.within
        (subst (λ n. EventWithin (length (all_names ns)) n event) (let same = names_count in omega arith) r.within);
    count = let count = to.count in omega (arith, length_push resolved event);
  }

pub events_end : (ns : Names) (all : List TreeEvent) (names : List (List ℕ)) (resolved : List Event) → length all ≤ 8 → EventsTo ns all [] names resolved
    → (events_faults ns [] all ≡ []) × ResolvedEvents ns (map plain_event all) resolved
events_end ns all names resolved few to = (
  to.faults,
  record {
    means = subst (λ (z : List PlainEvent). MeansEvents ns [] z resolved) (sym (to.done_are ∙ append-nil to.done)) to.means;
    limit = let count = to.count in omega arith;
    within = to.within;
    distinct = subst (λ (z : List (List ℕ)). Distinct z) to.names_are to.distinct;
  },
)

-- ---- one pattern
in_parts : (ns : Names) (before : List (List ℕ)) (p : TreePattern) → pattern_faults ns before p ≡ pattern_head_faults ns before p
    ++ events_faults ns [] p.events
in_parts ns before p = sym (append_assoc (declared_faults before p.name) _ _
    ∙ ap (λ (fs : List FileFault). declared_faults before p.name ++ fs) (append_assoc (condition_faults (in_conditions ns) p.start) _ _))

pub pattern_stops_at_head : (ns : Names) (before : List (List ℕ)) (p : TreePattern) (f : FileFault) → FirstOrMemory (pattern_head_faults ns before p) f
    → FirstOrMemory (pattern_faults ns before p) f
pattern_stops_at_head ns before p f first = rw (in_parts ns before p) (append-left-first _ _ f first)

pub pattern_stops_at_events : (ns : Names) (before : List (List ℕ)) (p : TreePattern) (f : FileFault) → pattern_head_faults ns before p ≡ []
    → FirstOrMemory (events_faults ns [] p.events) f → FirstOrMemory (pattern_faults ns before p) f
pattern_stops_at_events ns before p f none first = rw (in_parts ns before p) (append-right-first _ _ f none first)

pub pattern_has_none : (ns : Names) (before : List (List ℕ)) (p : TreePattern) → pattern_head_faults ns before p ≡ [] → events_faults ns [] p.events ≡ []
    → pattern_faults ns before p ≡ []
pattern_has_none ns before p head events = in_parts ns before p ∙ empty_both _ _ head events

pub pattern_resolved : (ns : Names) (before : List (List ℕ)) (p : TreePattern) (names : List (List ℕ)) (pattern : Pattern) → Distinct before
    → declared_faults before p.name ≡ [] → names ≡ before ++ p.name.name ∷ [] → pattern.name ≡ p.name.name
    → ResolvedCondition (all_names ns) (map plain_comparison p.start) pattern.start → ListedMask ns.locations (map plain_name p.empty) pattern.empty
    → ResolvedEvents ns (map plain_event p.events) pattern.events → ResolvedPattern ns before (plain_pattern p) names pattern
pattern_resolved ns before p names pattern d none is name start empty each = record {
  means = record { name = name; start = start.means; empty = empty.bits; events = each.means };
  within = record {
    name = copied_legal before p.name pattern.name none name;
    start = start.over;
    empty = empty.below;
    events_limit = each.limit;
    events = each.within;
    events_distinct = each.distinct;
  };
  declared = declared_next before p.name names d none is;
}

-- ---- patterns one after another

-- patterns are resolved, and the rest of them is left
pub record PatternsTo (ns : Names) (all rest : List TreePattern) (names : List (List ℕ)) (resolved : List Pattern) : Type 0 where
  pub faults : patterns_faults ns [] all ≡ patterns_faults ns names rest
  pub names_are : names ≡ map pattern_name resolved
  pub distinct : Distinct names
  pub done : List PlainPattern
  pub done_are : map plain_pattern all ≡ done ++ map plain_pattern rest
  pub means : Pairwise (MeansPattern ns) done resolved
  pub within : AllByRecursion (PatternWithin (length (all_names ns)) (length ns.locations)) resolved
  pub count : length resolved + length rest ≡ length all

pub patterns_begin : (ns : Names) (all : List TreePattern) (names : List (List ℕ)) (resolved : List Pattern) → names ≡ [] → resolved ≡ []
    → PatternsTo ns all all names resolved
patterns_begin ns all names resolved e f =
    let begin : PatternsTo ns all all [] [] = record
    { faults = refl; names_are = refl; distinct = tt; done = []; done_are = refl; means = tt; within = tt; count = omega arith } in
    subst (λ (z : List (List ℕ)). PatternsTo ns all all z resolved) (sym e) (subst (λ (z : List Pattern). PatternsTo ns all all [] z) (sym f) begin)

module _ (ns : Names) (all : List TreePattern) (p : TreePattern) (rest : List TreePattern) (names : List (List ℕ)) (resolved : List Pattern)
    (to : PatternsTo ns all (p ∷ rest) names resolved) where
  pub patterns_stop : (f : FileFault) → FirstOrMemory (pattern_faults ns names p) f → FirstOrMemory (patterns_faults ns [] all) f
  patterns_stop f first = rw to.faults (append-left-first _ _ f first)

  pub patterns_go_on : (more : List (List ℕ)) (pattern : Pattern) → pattern_faults ns names p ≡ [] → ResolvedPattern ns names (plain_pattern p) more pattern
      → PatternsTo ns all rest more (resolved ++ pattern ∷ [])
  patterns_go_on more pattern none r = record {
    faults = to.faults ∙ empty_before _ _ none ∙ ap (λ (z : List (List ℕ)). patterns_faults ns z rest) (sym r.declared.next);
    names_are = r.declared.next ∙ ap (λ (z : List (List ℕ)). z ++ p.name.name ∷ []) to.names_are
        ∙ ap (λ (n : List ℕ). map pattern_name resolved ++ n ∷ []) (sym r.means.name) ∙ sym (map_push pattern_name resolved pattern);
    distinct = r.declared.distinct;
    done = to.done ++ plain_pattern p ∷ [];
    done_are = to.done_are ∙ sym (append_assoc to.done (plain_pattern p ∷ []) (map plain_pattern rest));
    means = pairwise_push (MeansPattern ns) to.done resolved (plain_pattern p) pattern to.means r.means;
    within = each_append (PatternWithin (length (all_names ns)) (length ns.locations)) resolved (pattern ∷ []) to.within (r.within, tt);
    count = let count = to.count in omega (arith, length_push resolved pattern);
  }

pub patterns_end : (ns : Names) (all : List TreePattern) (names : List (List ℕ)) (resolved : List Pattern) → length all ≤ 64
    → PatternsTo ns all [] names resolved → (patterns_faults ns [] all ≡ []) × ResolvedPatterns ns (map plain_pattern all) resolved
patterns_end ns all names resolved few to = (
  to.faults,
  record {
    means = subst (λ (z : List PlainPattern). Pairwise (MeansPattern ns) z resolved) (sym (to.done_are ∙ append-nil to.done)) to.means;
    shape = record {
      limit = let count = to.count in omega arith;
      within = to.within;
      distinct = subst (λ (z : List (List ℕ)). Distinct z) to.names_are to.distinct;
    };
  },
)
