-- a position before the proofs: the first line, the pairs and their leaves
use Rattle.ta_automaton.specs.Narrow.{IsNarrow}
use Rattle.ta_check.proofs.Common.{◌≡◌, ◌≢◌, inl, inr, ℕ, ℤ, List, [], ◌∷◌, ◌++◌, None, Some, Ok, Err, sym, ◌∙◌, subst, refl, In-left, In-right, in_append}
use Rattle.ta_check.proofs.Common.{Automaton, In, JoinsPair, MayJoin, with_pair, leads_along, here_is, HasVersion, Subject, kind_of, search_of, place_of}
use Rattle.ta_check.proofs.Common.{opened, Position, Standing, NothingIsLeft, ShowsWaiting, TakesOrder, Waits, Between, IsIdle, IsPositionAt, SameMembers}
use Rattle.ta_check.proofs.Common.{LineAnswers}
use Rattle.ta_cert.specs.declared.line.Line.TheVariants as line
use Rattle.ta_cert.specs.declared.line.Node.TheVariants as node
use Rattle.ta_cert.specs.declared.fault.CertFault.TheVariants as fault
use Rattle.ta_implied.proofs.Placing.{in_placed, placed_in}
use Rattle.ta_base.proofs.Members.{no_members, same_members_back}

-- the first line
pub header_taken : (subject : Subject) (s : Position) (at : Standing) (number version : ℕ) → HasVersion subject version → IsPositionAt subject s at
    → LineAnswers subject at number (line.Header version) (record s { version = version; current = None }) (Ok tt)
header_taken subject s at number version has is = (
  opened at version,
  record { has = has; leads = refl },
  record {
    version = refl;
    narrow = has.1;
    pairs = is.pairs;
    waiting = is.waiting;
    may = λ pair some. let may = is.may pair some in record { join = may.join; early = may.early };
    begun = is.begun;
    place = inl (record { current = refl; left = refl });
  },
)

-- before any proof no proof is being read
before_proofs : (subject : Subject) (s : Position) (at : Standing) → at.begun ≡ [] → IsPositionAt subject s at → Between s at.pending
before_proofs subject s at none is = elim is.place [
  | inl between ↦ between
  | inr inside ↦ absurd (let some : [] ≡ (inside.number ∷ inside.older) = sym none ∙ inside.begun in cc)
]

-- what is free by a position's fields
pub free_from : (subject : Subject) (s : Position) (at : Standing) → IsPositionAt subject s at → s.waiting ≡ None → s.current ≡ None
    → (s.version ≡ 2 → s.orders ≢ []) → NothingIsLeft at
free_from subject s at is none nowhere some = record {
  none = is.waiting ∙ none;
  some = λ two empty. some (sym is.version ∙ two) (no_members at.pairs s.orders empty is.pairs);
  done = elim is.place [
    | inl between ↦ between.left
    | inr inside ↦ absurd (let both : None ≡ Some inside.number = sym nowhere ∙ inside.current in cc)
  ];
}

pub record FreeFields (s : Position) : Type 0 where
  pub none : s.waiting ≡ None
  pub nowhere : s.current ≡ None
  pub some : s.version ≡ 2 → s.orders ≢ []

pub free_back : (subject : Subject) (s : Position) (at : Standing) → IsPositionAt subject s at → NothingIsLeft at → FreeFields s
free_back subject s at is free = record {
  none = sym is.waiting ∙ free.none;
  nowhere = elim is.place [
    | inl between ↦ between.current
    | inr inside ↦ absurd
        (let left = here_is (search_of (kind_of at.version) subject s.orders inside.pattern) (place_of (kind_of at.version) s) at.pending inside.within in
        let gone = sym free.done ∙ left in cc)
  ];
  some = λ two empty. free.some (is.version ∙ two) (no_members s.orders at.pairs empty (same_members_back at.pairs s.orders is.pairs));
}

-- where no proof is being read and no pair waits, nothing is left
pub idle_at : (subject : Subject) (s : Position) (at : Standing) → IsPositionAt subject s at → s.waiting ≡ None → s.current ≡ None → IsIdle at
idle_at subject s at is none nowhere = record {
  none = is.waiting ∙ none;
  done = elim is.place [
    | inl between ↦ between.left
    | inr inside ↦ absurd (let both : None ≡ Some inside.number = sym nowhere ∙ inside.current in cc)
  ];
}

-- only which pairs there are counts
pub join_same : (a : Automaton) (xs ys : List (ℕ × ℕ)) (pair : ℕ × ℕ) → SameMembers xs ys → MayJoin a xs pair → MayJoin a ys pair
join_same a xs ys pair same may = record {
  is = may.is;
  fresh = λ there. may.fresh ((same pair).1 there);
  closes_none = λ more chain. may.closes_none more (leads_along ys xs (λ q. (same q).1) more pair.1 pair.0 chain);
}

-- a pair that may come waits for its leaf
pub order_taken : (subject : Subject) (s : Position) (at : Standing) (number before later : ℕ) → IsPositionAt subject s at → TakesOrder at
    → MayJoin subject.file.automaton s.orders (before, later)
    → LineAnswers subject at number (line.Tree (node.Order before later)) (record s { waiting = Some (before, later) }) (Ok tt)
order_taken subject s at number before later is takes may =
    let join = join_same subject.file.automaton s.orders at.pairs (before, later) (same_members_back at.pairs s.orders is.pairs) may in
    let between = before_proofs subject s at takes.early is in
    let waits : Waits subject at (node.Order before later) (record at { waiting = Some (before, later) }) = record
    { pair = (before, later); is = refl; takes = takes; may = join; leads = refl } in (
      record at { waiting = Some (before, later) },
      inr (inr waits),
      record {
        version = is.version;
        narrow = is.narrow;
        pairs = is.pairs;
        waiting = refl;
        may = λ pair some. (let same : (before, later) ≡ pair = cc in record
            { join = subst (MayJoin subject.file.automaton at.pairs) same join; early = takes.early });
        begun = is.begun;
        place = inl (record { current = between.current; left = between.left });
      },
    )

pub order_bad : (subject : Subject) (s : Position) (at : Standing) (number before later : ℕ) (new : Position) → IsPositionAt subject s at → TakesOrder at
    → (MayJoin subject.file.automaton s.orders (before, later) → ⊥)
    → LineAnswers subject at number (line.Tree (node.Order before later)) new (Err (fault.Pair number))
order_bad subject s at number before later new is takes bad = (
  refl,
  record {
    before = before;
    later = later;
    is = refl;
    takes = takes;
    bad = λ may. bad (join_same subject.file.automaton at.pairs s.orders (before, later) is.pairs may);
  },
)

-- a pair behind others
same_placed : (xs ys new : List (ℕ × ℕ)) (pair : ℕ × ℕ) → SameMembers xs ys → new ≡ with_pair pair ys → SameMembers (xs ++ pair ∷ []) new
same_placed xs ys new pair same whole = λ q. (
  λ there. subst (In q) (sym whole) (placed_in pair ys q (elim (in_append q xs (pair ∷ []) there) [
    | inl old ↦ inr ((same q).0 old)
    | inr last ↦ elim last [ inl is ↦ inl is | inr none ↦ absurd none ]
  ])),
  λ there. elim (in_placed pair ys q (subst (In q) whole there)) [
    | inl is ↦ In-right q xs (pair ∷ []) (inl is)
    | inr old ↦ In-left q xs (pair ∷ []) ((same q).1 old)
  ],
)

-- the leaf that shows a pair
pub shown_taken : (subject : Subject) (s : Position) (at : Standing) (number before later : ℕ) (ts : List (ℕ × ℤ)) (new : List (ℕ × ℕ))
    → s.waiting ≡ Some (before, later) → IsPositionAt subject s at → JoinsPair subject.file.automaton (before, later) ts s.orders new
    → LineAnswers subject at number (line.Tree (node.Leaf ts)) (record s { orders = new; waiting = None }) (Ok tt)
shown_taken subject s at number before later ts new waits is joined =
    let pair : ℕ × ℕ = (before, later) in
    let may = is.may pair (is.waiting ∙ waits) in
    let between = before_proofs subject s at may.early is in
    let shows : ShowsWaiting subject at (node.Leaf ts) (record at { pairs = at.pairs ++ pair ∷ []; waiting = None }) = record {
      pair = pair;
      waits = is.waiting ∙ waits;
      multipliers = ts;
      is = refl;
      shown = joined.shown;
      leads = refl;
    } in (
      record at { pairs = at.pairs ++ pair ∷ []; waiting = None },
      inr (inl shows),
      record {
        version = is.version;
        narrow = is.narrow;
        pairs = same_placed at.pairs s.orders new pair is.pairs joined.whole;
        waiting = refl;
        may = λ q some. absurd (let none : None ≡ Some q = some in cc);
        begun = is.begun;
        place = inl (record { current = between.current; left = between.left });
      },
    )

-- a pair that waits may join
pub waits_join : (subject : Subject) (s : Position) (at : Standing) (before later : ℕ) → s.waiting ≡ Some (before, later) → IsPositionAt subject s at
    → MayJoin subject.file.automaton s.orders (before, later)
waits_join subject s at before later waits is = join_same subject.file.automaton at.pairs s.orders (before, later) is.pairs
    (is.may (before, later) (is.waiting ∙ waits)).join
