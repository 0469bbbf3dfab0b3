-- what resolving a comparison over the first places says of a guard
use Rattle.ta_meaning.proofs.Common.{Limits, ◌≡◌, ℕ, ◌+◌, List, [], ◌∷◌, take, sym, subst, Row, plain_comparison, TreeComparison, FileFault, Comparison}
use Rattle.ta_meaning.proofs.Common.{guard_names, Guards, Scope, FirstOrMemory, in_guards, comparison_faults, guard_faults, kinds_of, first_places}
use Rattle.ta_meaning.proofs.Common.{ResolvedComparison, Places}
use Rattle.ta_meaning.proofs.Answering.{else-left-first}
use Rattle.ta_meaning.proofs.PlaceNames.{guard_names_are, in_guards_are}
use Rattle.ta_meaning.proofs.GuardNumbers.{OneRow}

pub guard_none : (places : Places) (c : TreeComparison) → comparison_faults (first_places places.names (places.parameters + places.shared)) c ≡ []
    → comparison_faults (in_guards (kinds_of places)) c ≡ []
guard_none places c h = subst (λ (s : Scope). comparison_faults s c ≡ []) (sym (in_guards_are places)) h

pub guard_resolved : (places : Places) (c : TreeComparison) (rows : Comparison)
    → ResolvedComparison (take (places.parameters + places.shared) places.names) (plain_comparison c) rows
    → ResolvedComparison (guard_names (kinds_of places)) (plain_comparison c) rows
guard_resolved places c rows h = subst (λ (ns : List (List ℕ)). ResolvedComparison ns (plain_comparison c) rows) (sym (guard_names_are places)) h

pub guard_first : (l : Limits) (places : Places) (parameters : ℕ) (g : Guards) (c : TreeComparison) (e : FileFault)
    → FirstOrMemory (comparison_faults (first_places places.names (places.parameters + places.shared)) c) e
    → FirstOrMemory (guard_faults l parameters (in_guards (kinds_of places)) g c) e
guard_first l places parameters g c e h =
    else-left-first (comparison_faults (in_guards (kinds_of places)) c) _ e
    (subst (λ (s : Scope). FirstOrMemory (comparison_faults s c) e) (sym (in_guards_are places)) h)

pub one_row_from : (places : Places) (c : TreeComparison) (rows : Comparison) (row : Row)
    → comparison_faults (first_places places.names (places.parameters + places.shared)) c ≡ []
    → ResolvedComparison (take (places.parameters + places.shared) places.names) (plain_comparison c) rows → rows.rows ≡ row ∷ []
    → OneRow (kinds_of places) c row
one_row_from places c rows row none resolved only = record {
  none = guard_none places c none;
  rows = rows;
  resolved = guard_resolved places c rows resolved;
  only = only;
}
