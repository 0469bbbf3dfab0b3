-- chains of pairs
use Rattle.ta_implied.proofs.Common.{◌≡◌, ◌≢◌, ◌⊎◌, inl, inr, ℕ, zero, suc, List, [], ◌∷◌, sym, ap, ◌∙◌, subst, In, ChainLeads, HasNoCircle, LeadsSome}

-- no pairs have no chains
pub nothing_leads : (more first last : ℕ) → ChainLeads [] more first last → ⊥
nothing_leads zero first last h = h
nothing_leads (suc more) first last h = h.1

-- a chain of pairs that are all in another list is one of that list
pub leads_along : (xs ys : List (ℕ × ℕ)) → ((q : ℕ × ℕ) → In q xs → In q ys) → (more first last : ℕ) → ChainLeads xs more first last
    → ChainLeads ys more first last
leads_along xs ys h zero first last l = h (first, last) l
leads_along xs ys h (suc more) first last l = (l.0, h (first, l.0) l.1, leads_along xs ys h more l.0 last l.2)

-- a chain, or none where the guards are one
abbrev pub Reaches : List (ℕ × ℕ) → ℕ → ℕ → Type 0
Reaches pairs first last = (first ≡ last) ⊎ LeadsSome pairs first last

pub one_more : (pairs : List (ℕ × ℕ)) (first next last : ℕ) → In (first, next) pairs → Reaches pairs next last → LeadsSome pairs first last
one_more pairs first next last h (inl same) = (zero, subst (λ g. In (first, g) pairs) same h)
one_more pairs first next last h (inr l) = (suc l.0, (next, h, l.1))

pub leads_join : (pairs : List (ℕ × ℕ)) (more first next last : ℕ) → ChainLeads pairs more first next → LeadsSome pairs next last → LeadsSome pairs first last
leads_join pairs zero first next last h l = one_more pairs first next last h (inr l)
leads_join pairs (suc more) first next last h l = one_more pairs first h.0 last h.1 (inr (leads_join pairs more h.0 next last h.2 l))

-- a chain in which one more pair may stand goes without it, or up to it and on from it
pub through : (pairs : List (ℕ × ℕ)) (before after more first last : ℕ) → ChainLeads ((before, after) ∷ pairs) more first last → LeadsSome pairs first last
    ⊎ (Reaches pairs first before × Reaches pairs after last)
through pairs before after zero first last (inl e) = inr (inl (ap (λ (q : ℕ × ℕ). q.0) e), inl (sym (ap (λ (q : ℕ × ℕ). q.1) e)))
through pairs before after zero first last (inr i) = inl (zero, i)
through pairs before after (suc more) first last h = by_first h.1 (through pairs before after more h.0 last h.2)
  where
    by_first : In (first, h.0) ((before, after) ∷ pairs) → LeadsSome pairs h.0 last ⊎ (Reaches pairs h.0 before × Reaches pairs after last)
        → LeadsSome pairs first last ⊎ (Reaches pairs first before × Reaches pairs after last)
    by_first (inl e) (inl l) = inr (inl (ap (λ (q : ℕ × ℕ). q.0) e), inr (subst (λ g. LeadsSome pairs g last) (ap (λ (q : ℕ × ℕ). q.1) e) l))
    by_first (inl e) (inr r) = inr (inl (ap (λ (q : ℕ × ℕ). q.0) e), r.1)
    by_first (inr i) (inl l) = inl (one_more pairs first h.0 last i (inr l))
    by_first (inr i) (inr r) = inr (inr (one_more pairs first h.0 before i r.0), r.1)

-- where no chain leads from its guard after to its guard before, one more pair of different guards makes no circle
pub still_no_circle : (pairs : List (ℕ × ℕ)) (before after : ℕ) → HasNoCircle pairs → before ≢ after → ((more : ℕ) → ChainLeads pairs more after before → ⊥)
    → HasNoCircle ((before, after) ∷ pairs)
still_no_circle pairs before after none apart open_end more guard h = elim (through pairs before after more guard guard h) [
  | inl l ↦ none l.0 guard l.1
  | inr r ↦ closed r.1 r.0
]
  where
    closed : Reaches pairs after guard → Reaches pairs guard before → ⊥
    closed (inl e) (inl d) = apart (sym (e ∙ d))
    closed (inl e) (inr l) = open_end l.0 (subst (λ g. ChainLeads pairs l.0 g before) (sym e) l.1)
    closed (inr l) (inl e) = open_end l.0 (subst (λ g. ChainLeads pairs l.0 after g) e l.1)
    closed (inr l) (inr k) = (let all = leads_join pairs l.0 after guard before l.1 k in open_end all.0 all.1)
