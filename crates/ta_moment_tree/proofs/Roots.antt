-- the starts with which the search of moments begins
use Rattle.ta_moment_tree.proofs.Common.{◌≡◌, ◌≢◌, inl, inr, ◌∙◌, ℕ, ◌+◌, ◌<◌, ◌≤◌, ◌^◌, List, [], ◌∷◌, cond, length, map, not, slice_get, Option, Some, None}
use Rattle.ta_moment_tree.proofs.Common.{refl, sym, ap, subst, arith, lit<, filter, range_with_len, cases_eq, eq-eqb, ne_eqb, option_map, length-map}
use Rattle.ta_moment_tree.proofs.Common.{slice_get-map, slice_get_within, count_few, numbers_rise, rises_filter, Automaton, Pattern, candidates, has_later}
use Rattle.ta_moment_tree.proofs.Common.{Asking, root, Maker, moment_search, pending_of, start_of}
use Rattle.ta_base.proofs.Ranges.{rises_within}
use Rattle.ta_encode.specs.TreeCalls.{IsRoot}

-- the candidates: none, or those events that are the last
abbrev pub last_events : Pattern → List ℕ
last_events p = filter (λ e. not (has_later p e)) (range_with_len 0 (length p.events))

pub no_events : (p : Pattern) → length p.events ≡ 0 → candidates p ≡ None ∷ []
no_events p none = ap (λ b. cond b (None ∷ []) (map Some (last_events p))) (eq-eqb (length p.events) 0 none)

pub some_events : (p : Pattern) → length p.events ≢ 0 → candidates p ≡ map Some (last_events p)
some_events p some = ap (λ b. cond b (None ∷ []) (map Some (last_events p))) (ne_eqb (length p.events) 0 some)

pub event_below : (p : Pattern) (number e : ℕ) → slice_get (last_events p) number ≡ Some e → e < length p.events
event_below p number e at =
    let high = 0 + length p.events in
    let within = rises_within 0 high (last_events p)
    (rises_filter (λ e. not (has_later p e)) 0 high (range_with_len 0 (length p.events)) (numbers_rise 0 (length p.events))) number e at in
    let below = within.1 in
    omega arith

few_candidates : (p : Pattern) → length p.events ≤ 8 → length (candidates p) ≤ 8
few_candidates p few = elim (cases_eq (length p.events) 0) [
  | inl none ↦ omega (arith, ap length (no_events p none))
  | inr some ↦ omega (arith, ap length (some_events p some), length-map (last_events p) Some, count_few (λ e. not (has_later p e)) (length p.events), few)
]

root_at : (a : Automaton) (p : Pattern) (asking : Asking) (maker : Maker) (number : ℕ) (c : Option (Option ℕ)) → length p.events ≤ 8
    → slice_get (candidates p) number ≡ c → IsRoot (moment_search a p asking maker) number (option_map start_of c)
root_at a p asking maker number None few is = slice_get-map (λ (c : Option ℕ). pending_of (root c)) (candidates p) number
    ∙ ap (option_map (λ (c : Option ℕ). pending_of (root c))) is
root_at a p asking maker number (Some c) few is =
    let below = slice_get_within (candidates p) number c is in
    let large : 64 < 2 ^ 31 = lit< tt in
    record {
      is = slice_get-map (λ (c : Option ℕ). pending_of (root c)) (candidates p) number ∙ ap (option_map (λ (c : Option ℕ). pending_of (root c))) is;
      small = omega (arith, few_candidates p few);
    }

-- the start of a candidate
pub root_of : (a : Automaton) (p : Pattern) (asking : Asking) (maker : Maker) (number : ℕ) (start : Option ℕ) → length p.events ≤ 8
    → start ≡ option_map start_of (slice_get (candidates p) number) → IsRoot (moment_search a p asking maker) number start
root_of a p asking maker number start few is = subst (λ (s : Option ℕ). IsRoot (moment_search a p asking maker) number s) (sym is)
    (root_at a p asking maker number (slice_get (candidates p) number) few refl)
