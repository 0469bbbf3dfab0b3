use Rattle.ta_meaning.proofs.Common.{◌≡◌, ℕ, ◌||◌, Bool, List, [], ◌∷◌, map, refl, ap, ◌∙◌, rules, tests, list_any, YieldsList-from_slice, any_from_yields_List}
use Rattle.ta_meaning.proofs.Common.{has_name}
use Rattle.std.proofs.Common.{bytes_eq}
use Rattle.ta_meaning.proofs.named.has_name.Goals as goal

-- some item has the name where the names of the items have it
has_name-map : {X : Type 0} (f : X → List ℕ) (xs : List X) (n : List ℕ) → list_any (λ x. bytes_eq (f x) n) xs ≡ has_name (map f xs) n
has_name-map f [] n = refl
has_name-map f (x ∷ xs) n = ap (λ (b : Bool). bytes_eq (f x) n || b) (has_name-map f xs n)

pub returns : goal.returns
returns g c = any_from_yields_List (λ x. bytes_eq (g.T.Named.named x) c.args.name.now) _ _ c.any.result c.any.ensures.ran
    (YieldsList-from_slice c.args.items.now c.iter.ensures.rest) (λ x b q k. search (rules, tests))
    ∙ has_name-map g.T.Named.named c.args.items.now c.args.name.now
