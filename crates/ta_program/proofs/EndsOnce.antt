-- a file has one list of endings
use Rattle.ta_program.proofs.Common.{◌≡◌, inl, inr, List, [], ◌∷◌, ◌++◌, length, length-append, arith, sym, ap, ◌∙◌, refl, same_parts, Pattern, File, Endings}
use Rattle.ta_program.proofs.Common.{IsEnding, LastMoved, RestAdded, events_below, FileEndings, IsEnds}
use Rattle.ta_base.proofs.Bits.{mask-one}
use Rattle.ta_automaton.specs.declared.pattern.Event.{Event}
use Rattle.ta_meaning.proofs.EqualParts.{condition-equal, event-equal, file-equal, pattern-equal}

-- the last events that are moved are the same
moved_same : (old xs ys : List Event) → LastMoved old xs → LastMoved old ys → xs ≡ ys
moved_same old xs ys m n =
    let first = ap (λ (es : List Event). length es) m.was in
    let second = ap (λ (es : List Event). length es) n.was in
    let long : length m.front ≡ length n.front = omega (arith, length-append m.front (m.last ∷ []), length-append n.front (n.last ∷ [])) in
    let parts = same_parts m.front n.front (m.last ∷ []) (n.last ∷ []) long (sym m.was ∙ n.was) in
    let lasts : m.last ∷ [] ≡ n.last ∷ [] = parts.1 in
    let last : m.last ≡ n.last = cc in
    let moved : m.moved ≡ n.moved = event-equal m.moved n.moved
    (m.name ∙ ap (λ (e : Event). e.name) last ∙ sym n.name)
    (m.after ∙ ap (λ (es : List Event). events_below (length es)) parts.0 ∙ sym n.after)
    (m.condition ∙ ap (λ (e : Event). e.condition) last ∙ sym n.condition) in
    m.is ∙ ap (λ (es : List Event). es ++ m.moved ∷ []) parts.0 ∙ ap (λ (e : Event). n.front ++ e ∷ []) moved ∙ sym n.is

-- so are events that are added
added_same : (old xs ys : List Event) → RestAdded old xs → RestAdded old ys → xs ≡ ys
added_same old xs ys m n =
    let event : m.event ≡ n.event = event-equal m.event n.event (m.name ∙ sym n.name) (m.after ∙ sym n.after)
    (condition-equal m.event.condition n.event.condition (m.condition ∙ sym n.condition)) in
    m.is ∙ ap (λ (e : Event). e ∷ []) event ∙ sym n.is

not_both : (old xs ys : List Event) → LastMoved old xs → RestAdded old ys → ⊥
not_both old xs ys m n = let size = ap (λ (es : List Event). length es) (sym m.was ∙ n.none) in omega (arith, length-append m.front (m.last ∷ []))

ending_same : (p q r : Pattern) → IsEnding p q → IsEnding p r → q ≡ r
ending_same p q r h k =
    pattern-equal q r (h.name ∙ sym k.name) (h.start ∙ sym k.start) (h.empty ∙ sym k.empty) (elim h.events [
      | inl m ↦ elim k.events [ inl n ↦ moved_same p.events q.events r.events m n | inr n ↦ absurd (not_both p.events q.events r.events m n) ]
      | inr m ↦ elim k.events [ inl n ↦ absurd (not_both p.events r.events q.events n m) | inr n ↦ added_same p.events q.events r.events m n ]
    ])

endings_same : (ps qs rs : List Pattern) → Endings ps qs → Endings ps rs → qs ≡ rs
endings_same [] [] [] h k = refl
endings_same [] [] (r ∷ rs) h k = absurd k
endings_same [] (q ∷ qs) rs h k = absurd h
endings_same (p ∷ ps) [] rs h k = absurd h
endings_same (p ∷ ps) (q ∷ qs) [] h k = absurd k
endings_same (p ∷ ps) (q ∷ qs) (r ∷ rs) h k =
    ap (λ (x : Pattern). x ∷ qs) (ending_same p q r h.0 k.0) ∙ ap (λ (xs : List Pattern). r ∷ xs) (endings_same ps qs rs h.1 k.1)

pub ends_once : (file : File) (d e : FileEndings) → IsEnds file d → IsEnds file e → d ≡ e
ends_once file d e h k =
    let ending : d.ending ≡ e.ending = file-equal d.ending e.ending (h.endings.automaton ∙ sym k.endings.automaton)
    (endings_same file.patterns d.ending.patterns e.ending.patterns h.endings.patterns k.endings.patterns) in
    let added : d.added ≡ e.added = mask-one _ d.added e.added h.endings.added k.endings.added in
    λ i. record { ending = ending i; added = added i }
