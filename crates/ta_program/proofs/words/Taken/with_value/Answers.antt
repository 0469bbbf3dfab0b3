use Rattle.ta_program.proofs.Common.{List, ℕ, Bool, false, None, Option, Some, refl, sym, ap, option_map, is_some, if◌then◌else◌, ◌≡◌, ◌∙◌, option_value}
use Rattle.std.specs.Prelude.{slice_set}
use Rattle.std.proofs.Math.ListN.{get_or-map}
use Rattle.std.proofs.lemmas.List.{map-set}
use Rattle.ta_program.specs.Taken.{taken_of}
use Rattle.ta_program.proofs.words.Taken.with_value.Goals as goal

is_some_map : {X Y : Type 0} (f : X → Y) (x : Option X) → is_some (option_map f x) ≡ is_some x
is_some_map f None = refl
is_some_map f (Some x) = refl

-- the values of the options by their texts, also with one more
pub returns-clause-taken : goal.returns-clause-taken
returns-clause-taken c =
    let n = c.args.number in
    let values = c.args.self.values in
    let before = taken_of c.args.self in
    let free : is_some (option_value before n) ≡ false =
    ap is_some (get_or-map (option_map (λ w. w.now)) values n None) ∙ (is_some_map (λ w. w.now) _ ∙ (sym c.is_some.ensures ∙ c.if-is_some.false)) in
    let so_far = λ (vs : List (Option (List ℕ))). record before { values = vs; awaits = None } in
    let more = so_far (slice_set before.values n (Some c.args.value.now)) in
    ap (λ (vs : List (Option (List ℕ))). Some (so_far vs)) (map-set (option_map (λ w. w.now)) values n (Some c.args.value))
    ∙ ap (λ (b : Bool). if b then None else Some more) (sym free)
