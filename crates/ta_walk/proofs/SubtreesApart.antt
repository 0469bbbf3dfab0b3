-- the words that a visit meets, where no node is a split: none of them twice
use Rattle.ta_walk.proofs.Common.{◌≡◌, ◌⊎◌, inl, inr, ℕ, suc, ◌<◌, ◌≤◌, List, [], ◌∷◌, ◌++◌, length, map, arith, refl, sym, ap, ◌∙◌, subst, AllByRecursion}
use Rattle.ta_walk.proofs.Common.{Distinct, In, each_in, in_append, in_map, Node, Element, Pending, Search, longer, parts, HasSplit, answered}
use Rattle.ta_cert.specs.declared.line.Node.TheVariants as node

-- a start set and a past that go on from a word, or are its own
abbrev pub Under : Pending Element → ℕ → List Element → Type 0
Under w start [] = (w.start ≡ start) × (w.past ≡ [])
Under w start (e ∷ past) = ((w.start ≡ start) × (w.past ≡ e ∷ past)) ⊎ Under w start past

pub under_here : (w : Pending Element) (start : ℕ) (past : List Element) → w.start ≡ start → w.past ≡ past → Under w start past
under_here w start [] s e = (s, e)
under_here w start (f ∷ past) s e = inl (s, e)

pub under_start : (w : Pending Element) (start : ℕ) (past : List Element) → Under w start past → w.start ≡ start
under_start w start [] u = u.0
under_start w start (f ∷ past) (inl u) = u.0
under_start w start (f ∷ past) (inr u) = under_start w start past u

under_long : (w : Pending Element) (start : ℕ) (past : List Element) → Under w start past → length w.past ≤ length past
under_long w start [] u = omega (arith, ap length u.1)
under_long w start (f ∷ past) (inl u) = omega (arith, ap length u.1)
under_long w start (f ∷ past) (inr u) = omega (arith, under_long w start past u)

-- what goes on from two words of one length
under_both : (v w : Pending Element) (start : ℕ) (past : List Element) → Under v start past → Under w start past → length v.past ≡ length w.past
    → v.past ≡ w.past
under_both v w start [] u t e = u.1 ∙ sym t.1
under_both v w start (f ∷ past) (inl u) (inl t) e = u.1 ∙ sym t.1
under_both v w start (f ∷ past) (inl u) (inr t) e = absurd (omega (arith, ap length u.1, under_long w start past t))
under_both v w start (f ∷ past) (inr u) (inl t) e = absurd (omega (arith, ap length t.1, under_long v start past u))
under_both v w start (f ∷ past) (inr u) (inr t) e = under_both v w start past u t e

-- what goes on from a longer word goes on from the word
under_longer : (w : Pending Element) (e : Element) (start : ℕ) (past : List Element) → Under (longer w e) start past → Under w start past
under_longer w e start [] u = absurd (let none = u.1 in cc)
under_longer w e start (f ∷ past) (inl u) = inr (under_here w start past u.0 (let same = u.1 in cc))
under_longer w e start (f ∷ past) (inr u) = inr (under_longer w e start past u)

-- nothing goes on from both
abbrev pub Apart : Pending Element → Pending Element → Type 0
Apart v w = (start : ℕ) (past : List Element) → Under v start past → Under w start past → ⊥

abbrev pub AllApart : List (Pending Element) → Type 0
AllApart [] = Unit {0}
AllApart (w ∷ ws) = ((v : Pending Element) → In v ws → Apart w v) × AllApart ws

longer_apart : (w : Pending Element) (e f : Element) → (e ≡ f → ⊥) → Apart (longer w e) (longer w f)
longer_apart w e f other start past u t = other (let same : e ∷ w.past ≡ f ∷ w.past = under_both (longer w e) (longer w f) start past u t refl in cc)

-- the words that are longer than one, before words apart from it
longer_apart_all : (w : Pending Element) (es : List Element) (ws : List (Pending Element)) → Distinct es → ((v : Pending Element) → In v ws → Apart w v)
    → AllApart ws → AllApart (map (longer w) es ++ ws)
longer_apart_all w [] ws d others all = all
longer_apart_all w (e ∷ es) ws d others all = (
  λ v h. elim (in_append v (map (longer w) es) ws h) [
    | inl g ↦ (let f = in_map (longer w) v es g in subst (Apart (longer w e)) (sym f.2) (longer_apart w e f.0 (each_in (λ x. e ≡ x → ⊥) es f.0 d.0 f.1)))
    | inr g ↦ λ start past u t. others v g start past (under_longer w e start past u) t
  ],
  longer_apart_all w es ws d.1 others all,
)

-- a node that is no split
abbrev pub IsPlain : Node → Type 0
IsPlain (node.Split unknown floor) = ⊥
IsPlain n = Unit {0}

pub split_or_plain : (ns : List Node) → HasSplit ns ⊎ AllByRecursion IsPlain ns
split_or_plain [] = inr tt
split_or_plain (node.Split unknown floor ∷ ns) = inl (record { unknown = unknown; floor = floor; is = inl refl })
split_or_plain (n ∷ ns) = elim (split_or_plain ns) [ inl s ↦ inl (record { unknown = s.unknown; floor = s.floor; is = inr s.is }) | inr all ↦ inr (tt, all) ]

-- no two answers of a node are equal
abbrev pub Branches : Search Element → Type 0
Branches s = (start : ℕ) (past : List Element) (n : Node) → Distinct (answered s start past n)

-- it leaves words apart from each other and from the others
pub parts_apart : (s : Search Element) (w : Pending Element) (ws : List (Pending Element)) (n : Node) → Branches s → IsPlain n → AllApart (w ∷ ws)
    → AllApart (parts s w n ++ ws)
parts_apart s w ws (node.Leaf ts) branches plain all = all.1
parts_apart s w ws (node.Split unknown floor) branches plain all = absurd plain
parts_apart s w ws n branches plain all = longer_apart_all w (answered s w.start w.past n) ws (branches w.start w.past n) all.0 all.1

-- what goes on from one of some words
pub record UnderSome (ws : List (Pending Element)) (start : ℕ) (past : List Element) : Type 0 where
  pub word : Pending Element
  pub one : In word ws
  pub under : Under word start past

-- what goes on from a word that a node leaves goes on from the word at which it stands
under_part : (s : Search Element) (w v : Pending Element) (n : Node) (start : ℕ) (past : List Element) → IsPlain n → In v (parts s w n) → Under v start past
    → Under w start past
under_part s w v (node.Leaf ts) start past plain one u = absurd one
under_part s w v (node.Split unknown floor) start past plain one u = absurd plain
under_part s w v n start past plain one u =
    let f = in_map (longer w) v (answered s w.start w.past n) one in
    under_longer w f.0 start past (subst (λ (x : Pending Element). Under x start past) f.2 u)

-- it isn't the word itself
part_longer : (s : Search Element) (w v : Pending Element) (n : Node) → IsPlain n → In v (parts s w n) → length w.past < length v.past
part_longer s w v (node.Leaf ts) plain one = absurd one
part_longer s w v (node.Split unknown floor) plain one = absurd plain
part_longer s w v n plain one =
    let f = in_map (longer w) v (answered s w.start w.past n) one in
    let same : length v.past ≡ suc (length w.past) = ap (λ (x : Pending Element). length x.past) f.2 in
    omega arith

pub under_before : (s : Search Element) (w : Pending Element) (ws : List (Pending Element)) (n : Node) (start : ℕ) (past : List Element) → IsPlain n
    → UnderSome (parts s w n ++ ws) start past → UnderSome (w ∷ ws) start past
under_before s w ws n start past plain u =
    elim (in_append u.word (parts s w n) ws u.one) [
      | inl g ↦ record { word = w; one = inl refl; under = under_part s w u.word n start past plain g u.under }
      | inr g ↦ record { word = u.word; one = inr g; under = u.under }
    ]

-- the word at which a node stands comes no more behind it
pub not_again : (s : Search Element) (w : Pending Element) (ws : List (Pending Element)) (n : Node) → IsPlain n → AllApart (w ∷ ws)
    → UnderSome (parts s w n ++ ws) w.start w.past → ⊥
not_again s w ws n plain all u =
    elim (in_append u.word (parts s w n) ws u.one) [
      | inl g ↦ absurd (omega (arith, part_longer s w u.word n plain g, under_long u.word w.start w.past u.under))
      | inr g ↦ all.0 u.word g w.start w.past (under_here w w.start w.past refl refl) u.under
    ]

-- a start set and a past
abbrev pub mark : Pending Element → ℕ × List Element
mark w = (w.start, w.past)

-- those of the words at which the nodes of a visit stand, and then of the words that are left
abbrev pub marks : Search Element → List (Pending Element) → List Node → List (ℕ × List Element)
marks s ws [] = map mark ws
marks s [] (n ∷ ns) = []
marks s (w ∷ ws) (n ∷ ns) = mark w ∷ marks s (parts s w n ++ ws) ns
