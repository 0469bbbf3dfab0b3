use Rattle.ta_program.proofs.Common.{◌≡◌, ◌∙◌, ◌+◌, ◌<◌, ◌++◌, ◌∷◌, [], ap, sym, suc, ℕ, List, append_assoc, append-nil, arith, drop, get_or, length, map}
use Rattle.ta_program.proofs.Common.{pair_of}
use Rattle.std.proofs.Common.{drop-cons}
use Rattle.std.proofs.lemmas.List.{drop_all}
use Rattle.ta_program.proofs.show.pairs_of.Goals as goal

-- the images of the items so far, and of those that are left, after one more
mapped_rest : {A B : Type 0} (f : A → B) (xs : List A) (i : ℕ) (d : A) (y : B) (old items : List B) → i < length xs → y ≡ f (get_or xs i d)
    → old ++ map f (drop i xs) ≡ map f xs → items ≡ old ++ y ∷ [] → items ++ map f (drop (i + 1) xs) ≡ map f xs
mapped_rest f xs i d y old items h same inv is =
    let next : suc i ≡ i + 1 = omega arith in
    let more = ap (map f) (drop-cons xs i d h ∙ ap (λ (k : ℕ). get_or xs i d ∷ drop k xs) next) in
    ap (λ (zs : List _). zs ++ map f (drop (i + 1) xs)) is ∙ append_assoc old (y ∷ []) (map f (drop (i + 1) xs))
    ∙ ap (λ (z : _). old ++ z ∷ map f (drop (i + 1) xs)) same ∙ ap (λ (zs : List _). old ++ zs) (sym more) ∙ inv

pub loop-order-preserved : goal.loop-order-preserved
loop-order-preserved c =
    mapped_rest pair_of c.args.orders.now c.loop-order.order-index c.order-item.result (pair_of c.order-item.result) c.loop-order.pairs.items
    c.push.new.self.items c.loop-order-test.true (ap pair_of c.order-item.is) c.loop-order.invariant c.in_ok-push.ensures.items

pub returns : goal.returns
returns c =
    let none = ap (map pair_of) (drop_all c.loop-order.order-index c.args.orders.now c.loop-order-test.false) in
    c.from_vec.ensures ∙ sym (append-nil c.loop-order.pairs.items) ∙ ap (λ (rest : List _). c.loop-order.pairs.items ++ rest) (sym none)
    ∙ c.loop-order.invariant
