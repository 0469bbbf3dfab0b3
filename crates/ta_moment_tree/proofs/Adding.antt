-- rows that are written one after another
use Rattle.ta_moment_tree.proofs.Common.{◌≡◌, ◌∙◌, ℕ, ◌+◌, ◌<◌, List, [], ◌∷◌, ◌++◌, get_or, length, map, take, refl, sym, ap, append_assoc, Bool, true, false}
use Rattle.ta_moment_tree.proofs.Common.{cond, filter, flat_map, append-nil, map-append, take_more, filter-append, flat_map-append, Row, UnknownForm, form_of}
use Rattle.ta_moment_tree.proofs.Common.{forms_of, AddsForms}

pub adds_none : (rows : List Row) → AddsForms [] rows rows
adds_none rows = record { more = []; is = sym (append-nil rows); are = refl }

pub adds_one : (before after : List Row) (row : Row) → after ≡ before ++ row ∷ [] → AddsForms (form_of row.form ∷ []) before after
adds_one before after row e = record { more = row ∷ []; is = e; are = refl }

pub adds_both : (fs gs : List UnknownForm) (before middle after : List Row) → AddsForms fs before middle → AddsForms gs middle after
    → AddsForms (fs ++ gs) before after
adds_both fs gs before middle after h k = record {
  more = h.more ++ k.more;
  is = k.is ∙ ap (λ (xs : List Row). xs ++ k.more) h.is ∙ append_assoc before h.more k.more;
  are = map-append (λ (row : Row). form_of row.form) h.more k.more ∙ ap (λ (xs : List UnknownForm). xs ++ forms_of k.more) h.are
      ∙ ap (λ (xs : List UnknownForm). fs ++ xs) k.are;
}

pub adds_same : (fs gs : List UnknownForm) (before after : List Row) → fs ≡ gs → AddsForms fs before after → AddsForms gs before after
adds_same fs gs before after e h = record { more = h.more; is = h.is; are = h.are ∙ e }

pub adds_more : (fs gs hs : List UnknownForm) (before middle after : List Row) → fs ++ gs ≡ hs → AddsForms fs before middle → AddsForms gs middle after
    → AddsForms hs before after
adds_more fs gs hs before middle after e h k = adds_same (fs ++ gs) hs before after e (adds_both fs gs before middle after h k)

-- the steps of loops
pub map_more : {X : Type 0} (f : X → UnknownForm) (xs : List X) (i : ℕ) (d : X) → i < length xs → map f (take i xs)
    ++ f (get_or xs i d) ∷ [] ≡ map f (take (i + 1) xs)
map_more f xs i d b = sym (ap (map f) (take_more xs i d b) ∙ map-append f (take i xs) (get_or xs i d ∷ []))

pub flat_more : {X : Type 0} (f : X → List UnknownForm) (xs : List X) (i : ℕ) (d : X) → i < length xs → flat_map f (take i xs)
    ++ f (get_or xs i d) ≡ flat_map f (take (i + 1) xs)
flat_more f xs i d b = sym (ap (flat_map f) (take_more xs i d b) ∙ flat_map-append f (take i xs) (get_or xs i d ∷ [])
    ∙ ap (λ ys. flat_map f (take i xs) ++ ys) (append-nil (f (get_or xs i d))))

-- one more item, which passes or not
kept_more : (test : UnknownForm → Bool) (g : ℕ → UnknownForm) (xs : List ℕ) (i d : ℕ) (b : Bool) → i < length xs → test (g (get_or xs i d)) ≡ b
    → filter test (map g (take (i + 1) xs)) ≡ filter test (map g (take i xs)) ++ cond b (g (get_or xs i d) ∷ []) []
kept_more test g xs i d b less t =
    let old = filter test (map g (take i xs)) in
    ap (λ ys. filter test (map g ys)) (take_more xs i d less) ∙ ap (filter test) (map-append g (take i xs) (get_or xs i d ∷ []))
    ∙ filter-append test (map g (take i xs)) (g (get_or xs i d) ∷ []) ∙ ap (λ c. old ++ cond c (g (get_or xs i d) ∷ []) []) t

pub kept_one : (test : UnknownForm → Bool) (g : ℕ → UnknownForm) (xs : List ℕ) (i d : ℕ) → i < length xs → test (g (get_or xs i d)) ≡ true
    → filter test (map g (take i xs)) ++ g (get_or xs i d) ∷ [] ≡ filter test (map g (take (i + 1) xs))
kept_one test g xs i d less t = sym (kept_more test g xs i d true less t)

pub kept_none : (test : UnknownForm → Bool) (g : ℕ → UnknownForm) (xs : List ℕ) (i d : ℕ) → i < length xs → test (g (get_or xs i d)) ≡ false
    → filter test (map g (take i xs)) ≡ filter test (map g (take (i + 1) xs))
kept_none test g xs i d less t = sym (kept_more test g xs i d false less t ∙ append-nil (filter test (map g (take i xs))))

pub adds_forms : (fs : List UnknownForm) (before after : List Row) → AddsForms fs before after → forms_of after ≡ forms_of before ++ fs
adds_forms fs before after h = ap forms_of h.is ∙ map-append (λ (row : Row). form_of row.form) before h.more ∙ ap (λ gs. forms_of before ++ gs) h.are
