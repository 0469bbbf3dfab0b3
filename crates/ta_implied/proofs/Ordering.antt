-- guards in an order in which no chain of pairs leads back
--
-- Guards are inserted one by one: a guard goes in front of the first one to which a chain leads from it, else behind all. No chain
-- leads back to it from one in front, since it would lead on to that first one, which the order excludes; nor from one behind,
-- since that would close a circle. Whether a chain leads from one guard to another is decided pair by pair.
use Rattle.ta_implied.proofs.Common.{◌⊎◌, inl, inr, ℕ, List, [], ◌∷◌, sym, refl, subst, eqb_tells, In, each_from_in, each_in, ChainLeads, HasNoCircle}
use Rattle.ta_implied.proofs.Common.{GuardsInOrder, LeadsSome, AreOrdered, GuardsCanBeOrdered}
use Rattle.ta_implied.proofs.Chains.{Reaches, nothing_leads, leads_along, leads_join, one_more, through}

-- whether guards are one or a chain leads from the first to the last, where it is known whether a chain does
reaches_or_not : (pairs : List (ℕ × ℕ)) (first last : ℕ) → LeadsSome pairs first last ⊎ (LeadsSome pairs first last → ⊥) → Reaches pairs first last
    ⊎ (Reaches pairs first last → ⊥)
reaches_or_not pairs first last (inl l) = inl (inr l)
reaches_or_not pairs first last (inr none) = elim (eqb_tells first last) [
  | inl e ↦ inl (inl e.1)
  | inr ne ↦ inr (λ r. elim r [ inl e ↦ ne.1 e | inr l ↦ none l ])
]

-- along one more pair
across : (pairs : List (ℕ × ℕ)) (pair : ℕ × ℕ) (first last : ℕ) → Reaches pairs first pair.0 → Reaches pairs pair.1 last → LeadsSome (pair ∷ pairs) first last
across pairs pair first last to from = on to (one_more (pair ∷ pairs) pair.0 pair.1 last (inl refl) (lifted from))
  where
    lifted : Reaches pairs pair.1 last → Reaches (pair ∷ pairs) pair.1 last
    lifted (inl e) = inl e
    lifted (inr l) = inr (l.0, leads_along pairs (pair ∷ pairs) (λ q i. inr i) l.0 pair.1 last l.1)

    on : Reaches pairs first pair.0 → LeadsSome (pair ∷ pairs) pair.0 last → LeadsSome (pair ∷ pairs) first last
    on (inl e) l = subst (λ g. LeadsSome (pair ∷ pairs) g last) (sym e) l
    on (inr k) l = leads_join (pair ∷ pairs) k.0 first pair.0 last (leads_along pairs (pair ∷ pairs) (λ q i. inr i) k.0 first pair.0 k.1) l

leads_or_not : (pairs : List (ℕ × ℕ)) (pair : ℕ × ℕ) (first last : ℕ) → LeadsSome pairs first last ⊎ (LeadsSome pairs first last → ⊥)
    → Reaches pairs first pair.0 ⊎ (Reaches pairs first pair.0 → ⊥) → Reaches pairs pair.1 last ⊎ (Reaches pairs pair.1 last → ⊥)
    → LeadsSome (pair ∷ pairs) first last ⊎ (LeadsSome (pair ∷ pairs) first last → ⊥)
leads_or_not pairs pair first last (inl l) to from = inl (l.0, leads_along pairs (pair ∷ pairs) (λ q i. inr i) l.0 first last l.1)
leads_or_not pairs pair first last (inr none) (inl to) (inl from) = inl (across pairs pair first last to from)
leads_or_not pairs pair first last (inr none) (inr not_to) from = inr
    (λ l. elim (through pairs pair.0 pair.1 l.0 first last l.1) [ inl k ↦ none k | inr r ↦ not_to r.0 ])
leads_or_not pairs pair first last (inr none) (inl to) (inr not_from) = inr
    (λ l. elim (through pairs pair.0 pair.1 l.0 first last l.1) [ inl k ↦ none k | inr r ↦ not_from r.1 ])

pub decide_leads : (pairs : List (ℕ × ℕ)) (first last : ℕ) → LeadsSome pairs first last ⊎ (LeadsSome pairs first last → ⊥)
decide_leads [] first last = inr (λ l. nothing_leads l.0 first last l.1)
decide_leads (pair ∷ pairs) first last =
    leads_or_not pairs pair first last (decide_leads pairs first last) (reaches_or_not pairs first pair.0 (decide_leads pairs first pair.0))
    (reaches_or_not pairs pair.1 last (decide_leads pairs pair.1 last))

-- one more guard stands before the first to which a chain leads from it
insert_by : (pairs : List (ℕ × ℕ)) → HasNoCircle pairs → (guard x : ℕ) (xs : List ℕ) → GuardsInOrder pairs (x ∷ xs) → LeadsSome pairs guard x
    ⊎ (LeadsSome pairs guard x → ⊥) → AreOrdered pairs (guard ∷ xs) → AreOrdered pairs (guard ∷ x ∷ xs)
insert_by pairs none guard x xs h (inl l) rest = record {
  ys = guard ∷ x ∷ xs;
  in_order = (each_from_in (λ y. LeadsSome pairs y guard → ⊥) (x ∷ xs) not_back, h);
  all = λ y i. i;
  only = λ y i. i;
}
  where
    not_back : (y : ℕ) → In y (x ∷ xs) → LeadsSome pairs y guard → ⊥
    not_back y (inl e) k = let circle = leads_join pairs k.0 y guard x k.1 l in none circle.0 x (subst (λ g. ChainLeads pairs circle.0 g x) e circle.1)
    not_back y (inr i) k = each_in (λ z. LeadsSome pairs z x → ⊥) xs y h.0 i (leads_join pairs k.0 y guard x k.1 l)
insert_by pairs none guard x xs h (inr not_to) rest = record {
  ys = x ∷ rest.ys;
  in_order = (each_from_in (λ y. LeadsSome pairs y x → ⊥) rest.ys (λ y i. not_back y (rest.only y i)), rest.in_order);
  all = λ y i. all y i;
  only = λ y i. only y i;
}
  where
    not_back : (y : ℕ) → In y (guard ∷ xs) → LeadsSome pairs y x → ⊥
    not_back y (inl e) k = not_to (subst (λ g. LeadsSome pairs g x) e k)
    not_back y (inr i) k = each_in (λ z. LeadsSome pairs z x → ⊥) xs y h.0 i k

    all : (y : ℕ) → In y (guard ∷ x ∷ xs) → In y (x ∷ rest.ys)
    all y (inl e) = inr (rest.all y (inl e))
    all y (inr (inl e)) = inl e
    all y (inr (inr i)) = inr (rest.all y (inr i))

    only : (y : ℕ) → In y (x ∷ rest.ys) → In y (guard ∷ x ∷ xs)
    only y (inl e) = inr (inl e)
    only y (inr i) = elim (rest.only y i) [ inl e ↦ inl e | inr g ↦ inr (inr g) ]

insert : (pairs : List (ℕ × ℕ)) → HasNoCircle pairs → (guard : ℕ) (xs : List ℕ) → GuardsInOrder pairs xs → AreOrdered pairs (guard ∷ xs)
insert pairs none guard [] h = record { ys = guard ∷ []; in_order = (tt, tt); all = λ y i. i; only = λ y i. i }
insert pairs none guard (x ∷ xs) h = insert_by pairs none guard x xs h (decide_leads pairs guard x) (insert pairs none guard xs h.1)

-- under pairs without a circle any guards can be put into such an order
pub ordered : GuardsCanBeOrdered
ordered pairs none [] = record { ys = []; in_order = tt; all = λ y i. i; only = λ y i. i }
ordered pairs none (x ∷ xs) =
    let rest = ordered pairs none xs in
    let more = insert pairs none x rest.ys rest.in_order in
    record {
      ys = more.ys;
      in_order = more.in_order;
      all = λ y i. more.all y (elim i [ inl e ↦ inl e | inr g ↦ inr (rest.all y g) ]);
      only = λ y i. elim (more.only y i) [ inl e ↦ inl e | inr g ↦ inr (rest.only y g) ];
    }
