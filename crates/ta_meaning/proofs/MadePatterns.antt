-- Patterns without an error mean patterns.
use Rattle.ta_meaning.proofs.Common.{◌≡◌, ℕ, ◌*◌, ◌%◌, ◌^◌, ◌<◌, ◌≤◌, true, bit_or, List, [], ◌∷◌, ◌++◌, map, length, Contains, IsBitSet, refl, sym, subst, ◌∙◌}
use Rattle.ta_meaning.proofs.Common.{arith, same_Some, plain_name, plain_event, plain_pattern, Spelled, TreeEvent, TreePattern, Distinct, Event, Pattern, Names}
use Rattle.ta_meaning.proofs.Common.{all_names, has_name, where_, else_, in_conditions, declared_faults, used_faults, listed_faults, condition_faults}
use Rattle.ta_meaning.proofs.Common.{event_faults, events_faults, pattern_faults, patterns_faults, ListedMask, ResolvedPatterns, ResolvedEvent, ResolvedEvents}
use Rattle.ta_meaning.proofs.Common.{ResolvedPattern, empty_left, empty_right}
use Rattle.ta_meaning.proofs.Answering.{not-where, none-else-left, none-else-right}
use Rattle.ta_meaning.proofs.UsedNames.{used_is_allowed}
use Rattle.ta_meaning.proofs.ListedNames.{has_name-where}
use Rattle.ta_meaning.proofs.ListedSteps.{has_name-Decides, ListedTo, listing_begins, listing_goes_on, listing_ends}
use Rattle.ta_meaning.proofs.PatternSteps.{EventsTo, events_begin, events_go_on, events_end, few_events, event_resolved, PatternsTo, patterns_begin}
use Rattle.ta_meaning.proofs.PatternSteps.{patterns_go_on, patterns_end, pattern_resolved}
use Rattle.ta_meaning.proofs.MadeForms.{condition_exists}
use Rattle.ta_syntax.specs.declared.fault.FileFault.TheVariants as fault

-- the names of places are distinct and few
pub record FineNames (ns : Names) : Type 0 where
  pub distinct : Distinct (all_names ns)
  pub locations_distinct : Distinct ns.locations
  pub parameters : length ns.parameters ≤ 32
  pub shared : length ns.shared ≤ 64
  pub locations : length ns.locations ≤ 128
  pub all : length (all_names ns) ≤ 224

-- ---- masks of names
mask_from : (declared allowed : List (List ℕ)) (all rest : List Spelled) (mask : ℕ) → Distinct allowed → length allowed ≤ 128
    → listed_faults declared allowed [] all ≡ [] → ListedTo declared allowed all rest mask → (m : ℕ) × ListedMask allowed (map plain_name all) m
mask_from declared allowed all [] mask distinct few none to = (mask, (listing_ends declared allowed all mask to).1)
mask_from declared allowed all (n ∷ rest) mask distinct few none to =
    let left = sym to.faults ∙ none in
    let once = where_ (has_name to.before n.name) (fault.Duplicate n.at) in
    let used = used_faults declared allowed n in
    let here = empty_left (else_ once used) (listed_faults declared allowed (to.before ++ n.name ∷ []) rest) left in
    let new = not-where (has_name to.before n.name) (fault.Duplicate n.at) (none-else-left once used here) in
    let rightly = none-else-right once used here in
    let place = has_name-where allowed n.name (used_is_allowed declared allowed n rightly) in
    let free : IsBitSet mask place.0 → ⊥ = λ b.
    let w = (to.mask_is.bits.bits place.0).0 b in
    let again : Contains to.before n.name = subst (Contains to.before) (same_Some w.0 n.name (sym w.1 ∙ place.1)) w.2 in
    let told : has_name to.before n.name ≡ true = (has_name-Decides to.before n.name).1 again in
    cc in
    mask_from declared allowed all rest (bit_or mask (1 * 2 ^ place.0 % 340282366920938463463374607431768211456)) distinct few none
    (listing_goes_on declared allowed all n rest mask to place.0 distinct few rightly place.1 free)

mask_exists : (declared allowed : List (List ℕ)) (listed : List Spelled) → Distinct allowed → length allowed ≤ 128
    → listed_faults declared allowed [] listed ≡ [] → (m : ℕ) × ListedMask allowed (map plain_name listed) m
mask_exists declared allowed listed distinct few none = mask_from declared allowed listed listed 0 distinct few none (listing_begins declared allowed listed)

-- ---- events and patterns
module _ (ns : Names) (fine : FineNames ns) where
  event_exists : (before : List (List ℕ)) (e : TreeEvent) → Distinct before → length before < 8 → event_faults ns before e ≡ [] → (event : Event)
      × ResolvedEvent ns before (plain_event e) (before ++ e.name.name ∷ []) event
  event_exists before e distinct few none =
      let declared = declared_faults before e.name in
      let listed = listed_faults before before [] e.after in
      let holds = condition_faults (in_conditions ns) e.condition in
      let name = empty_left declared (listed ++ holds) none in
      let later = empty_right declared (listed ++ holds) none in
      let mask = mask_exists before before e.after distinct (omega arith) (empty_left listed holds later) in
      let condition = condition_exists (in_conditions ns) e.condition fine.all e.few (empty_right listed holds later) in
      let event : Event = record { name = e.name.name; after = mask.0; condition = condition.0 } in
      (event, event_resolved ns before e (before ++ e.name.name ∷ []) event distinct name refl refl mask.1 condition.1)

  events_from : (all rest : List TreeEvent) (names : List (List ℕ)) (resolved : List Event) → length all ≤ 8 → events_faults ns [] all ≡ []
      → EventsTo ns all rest names resolved → (events : List Event) × ResolvedEvents ns (map plain_event all) events
  events_from all [] names resolved few none to = (resolved, (events_end ns all names resolved few to).1)
  events_from all (e ∷ rest) names resolved few none to =
      let left = sym to.faults ∙ none in
      let here = empty_left (event_faults ns names e) (events_faults ns (names ++ e.name.name ∷ []) rest) left in
      let event = event_exists names e to.distinct (few_events ns all e rest names resolved to few) here in
      events_from all rest (names ++ e.name.name ∷ []) (resolved ++ event.0 ∷ []) few none
      (events_go_on ns all e rest names resolved to (names ++ e.name.name ∷ []) event.0 here event.1)

  pattern_exists : (before : List (List ℕ)) (p : TreePattern) → Distinct before → pattern_faults ns before p ≡ [] → (pattern : Pattern)
      × ResolvedPattern ns before (plain_pattern p) (before ++ p.name.name ∷ []) pattern
  pattern_exists before p distinct none =
      let declared = declared_faults before p.name in
      let holds = condition_faults (in_conditions ns) p.start in
      let listed = listed_faults (all_names ns) ns.locations [] p.empty in
      let many = events_faults ns [] p.events in
      let name = empty_left declared (holds ++ (listed ++ many)) none in
      let later = empty_right declared (holds ++ (listed ++ many)) none in
      let last = empty_right holds (listed ++ many) later in
      let start = condition_exists (in_conditions ns) p.start fine.all p.few_start (empty_left holds (listed ++ many) later) in
      let empty = mask_exists (all_names ns) ns.locations p.empty fine.locations_distinct (let few = fine.locations in omega arith)
      (empty_left listed many last) in
      let events = events_from p.events p.events [] [] p.few_events (empty_right listed many last) (events_begin ns p.events [] [] refl refl) in
      let pattern : Pattern = record { name = p.name.name; start = start.0; empty = empty.0; events = events.0 } in (
        pattern,
        pattern_resolved ns before p (before ++ p.name.name ∷ []) pattern distinct name refl refl start.1 empty.1 events.1,
      )

  patterns_from : (all rest : List TreePattern) (names : List (List ℕ)) (resolved : List Pattern) → length all ≤ 64 → patterns_faults ns [] all ≡ []
      → PatternsTo ns all rest names resolved → (patterns : List Pattern) × ResolvedPatterns ns (map plain_pattern all) patterns
  patterns_from all [] names resolved few none to = (resolved, (patterns_end ns all names resolved few to).1)
  patterns_from all (p ∷ rest) names resolved few none to =
      let left = sym to.faults ∙ none in
      let here = empty_left (pattern_faults ns names p) (patterns_faults ns (names ++ p.name.name ∷ []) rest) left in
      let pattern = pattern_exists names p to.distinct here in
      patterns_from all rest (names ++ p.name.name ∷ []) (resolved ++ pattern.0 ∷ []) few none
      (patterns_go_on ns all p rest names resolved to (names ++ p.name.name ∷ []) pattern.0 here pattern.1)

  pub patterns_exist : (patterns : List TreePattern) → length patterns ≤ 64 → patterns_faults ns [] patterns ≡ [] → (resolved : List Pattern)
      × ResolvedPatterns ns (map plain_pattern patterns) resolved
  patterns_exist patterns few none = patterns_from patterns patterns [] [] few none (patterns_begin ns patterns [] [] refl refl)
