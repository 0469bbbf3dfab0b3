-- Lines lead to one standing, and those that lead on have no error
use Rattle.ta_check.proofs.Common.{◌≡◌, ◌⊎◌, inl, inr, ℕ, ◌<◌, ℤ, List, [], ◌∷◌, ◌++◌, length, None, Some, sym, ap, subst, ◌∙◌, arith, Line, Node}
use Rattle.ta_check.proofs.Common.{CertFault, IsShown, Pending, Search, MayAsk, parts, MayStand, leaf_back, LeafFault, no_fault, IsJudged, Subject, kind_of}
use Rattle.ta_check.proofs.Common.{Standing, FactAt, search_there, AtWord, BeginsProof, ShowsWaiting, Stands, TakesOrder, Leads, AtSomeWord, HasForm, IsNoPair}
use Rattle.ta_check.proofs.Common.{IsQuestion, IsMisplaced, IsNoLeaf, FirstLeafFault, LeafFails, PairFails, IsAtFault, check_stays, none-some, IsMisplacedNode}
use Rattle.ta_check.proofs.Common.{MayJoin, Waits}
use Rattle.ta_cert.specs.declared.line.Line.TheVariants as line
use Rattle.ta_encode.proofs.Asking.{none_asked}
use Rattle.ta_cert.specs.declared.line.Node.TheVariants as node
use Rattle.ta_cert.specs.declared.fault.CertFault.TheVariants as fault
use Rattle.ta_check.proofs.LeafFaults.{shows_or_fails}
use Rattle.ta_check.proofs.Searches.{search_exists, stands_form}

-- one word is the first that is left
pub record SameWord {E : Type 0} (p q : Search E) (w v : Pending E) (ws vs : List (Pending E)) : Type 0 where
  pub search : p ≡ q
  pub word : w ≡ v
  pub words : ws ≡ vs

pub word_once : (subject : Subject) (s : Standing) (p q : Search (FactAt s)) (w v : Pending (FactAt s)) (ws vs : List (Pending (FactAt s)))
    → AtWord subject s p w ws → AtWord subject s q v vs → SameWord p q w v ws vs
word_once subject s p q w v ws vs a b =
    let begun : (a.number ∷ a.older) ≡ (b.number ∷ b.older) = sym a.begun ∙ b.begun in
    let number : a.number ≡ b.number = cc in
    let some : Some p ≡ Some q = sym a.searched ∙ ap (search_there subject s) number ∙ b.searched in
    let pending : (w ∷ ws) ≡ (v ∷ vs) = sym a.pending ∙ b.pending in
    record { search = cc; word = cc; words = cc }

-- a node leads to one standing
stands_once : (subject : Subject) (s : Standing) (n : Node) (x y : Standing) → Stands subject s n x → Stands subject s n y → x ≡ y
stands_once subject s n x y a b =
    let same = word_once subject s a.search b.search a.word b.word a.words b.words a.at b.at in
    let left : List (Pending (FactAt s)) → Standing = λ ws. record s { pending = ws } in
    a.leads
    ∙ ap (λ p. left (parts p a.word n ++ a.words)) same.search
    ∙ ap (λ w. left (parts b.search w n ++ a.words)) same.word
    ∙ ap (λ ws. left (parts b.search b.word n ++ ws)) same.words
    ∙ sym b.leads

-- one pair waits
pub waits_once : (s : Standing) (pair other : ℕ × ℕ) → s.waiting ≡ Some pair → s.waiting ≡ Some other → pair ≡ other
waits_once s pair other a b = let e : Some pair ≡ Some other = sym a ∙ b in cc

-- a leaf of a pair leads to one standing
shows_once : (subject : Subject) (s : Standing) (n : Node) (x y : Standing) → ShowsWaiting subject s n x → ShowsWaiting subject s n y → x ≡ y
shows_once subject s n x y a b =
    let more : ℕ × ℕ → Standing = λ pair. record s { pairs = s.pairs ++ pair ∷ []; waiting = None } in
    a.leads ∙ ap more (waits_once s a.pair b.pair a.waits b.waits) ∙ sym b.leads

-- where a pair may come no proof began
early_word : (subject : Subject) (s : Standing) {n : Node} {x y : Standing} → Stands subject s n x → Waits subject s n y → ⊥
early_word subject s stands waits = let none : [] ≡ (stands.at.number ∷ stands.at.older) = sym waits.takes.early ∙ stands.at.begun in cc

-- a pair leads to one standing
pair_once : (subject : Subject) (s : Standing) (n : Node) (x y : Standing) → Waits subject s n x → Waits subject s n y → x ≡ y
pair_once subject s n x y a b =
    let same : node.Order a.pair.0 a.pair.1 ≡ node.Order b.pair.0 b.pair.1 = sym a.is ∙ b.is in
    let before : a.pair.0 ≡ b.pair.0 = cc in
    let after : a.pair.1 ≡ b.pair.1 = cc in
    a.leads ∙ ap (λ k. record s { waiting = Some (k, a.pair.1) }) before ∙ ap (λ k. record s { waiting = Some (b.pair.0, k) }) after ∙ sym b.leads

-- the line of a pattern leads to one standing
begins_once : (subject : Subject) (s : Standing) (number : ℕ) (x y : Standing) → BeginsProof subject s number x → BeginsProof subject s number y → x ≡ y
begins_once subject s number x y a b =
    let both : Some a.search ≡ Some b.search = sym a.searched ∙ b.searched in
    let same : a.search ≡ b.search = cc in
    a.leads ∙ ap (λ (q : Search (FactAt s)). record s { begun = number ∷ s.begun; pending = q.roots }) same ∙ sym b.leads

-- a line leads to one standing
pub leads_once : (subject : Subject) (s : Standing) (l : Line) (x y : Standing) → Leads subject s l x → Leads subject s l y → x ≡ y
leads_once subject s (line.Header version) x y a b = a.leads ∙ sym b.leads
leads_once subject s (line.Pattern number) x y a b = begins_once subject s number x y a b
leads_once subject s (line.Tree n) x y (inl a) (inl b) = stands_once subject s n x y a b
leads_once subject s (line.Tree n) x y (inl a) (inr (inl b)) = absurd (none-some b.pair (sym a.at.none ∙ b.waits))
leads_once subject s (line.Tree n) x y (inl a) (inr (inr b)) = absurd (early_word subject s a b)
leads_once subject s (line.Tree n) x y (inr (inl a)) (inl b) = absurd (none-some a.pair (sym b.at.none ∙ a.waits))
leads_once subject s (line.Tree n) x y (inr (inl a)) (inr (inl b)) = shows_once subject s n x y a b
leads_once subject s (line.Tree n) x y (inr (inl a)) (inr (inr b)) = absurd (none-some a.pair (sym b.takes.none ∙ a.waits))
leads_once subject s (line.Tree n) x y (inr (inr a)) (inl b) = absurd (early_word subject s b a)
leads_once subject s (line.Tree n) x y (inr (inr a)) (inr (inl b)) = absurd (none-some b.pair (sym a.takes.none ∙ b.waits))
leads_once subject s (line.Tree n) x y (inr (inr a)) (inr (inr b)) = pair_once subject s n x y a b
leads_once subject s line.End x y a b = a.leads ∙ sym b.leads

-- a node that stands does so at the first word that is left
may_stand : (subject : Subject) (s : Standing) (n : Node) (after : Standing) (p : Search (FactAt s)) (w : Pending (FactAt s)) (ws : List (Pending (FactAt s)))
    → AtWord subject s p w ws → Stands subject s n after → MayStand p (IsJudged p) w n
may_stand subject s n after p w ws at stands =
    let same = word_once subject s stands.search p stands.word w stands.words ws stands.at at in
    subst (λ v. MayStand p (IsJudged p) v n) same.word (subst (λ q. MayStand q (IsJudged q) stands.word n) same.search stands.may)

-- so does a node that leads on there
may_lead : (subject : Subject) (s : Standing) (n : Node) (after : Standing) (p : Search (FactAt s)) (w : Pending (FactAt s)) (ws : List (Pending (FactAt s)))
    → AtWord subject s p w ws → Leads subject s (line.Tree n) after → MayStand p (IsJudged p) w n
may_lead subject s n after p w ws at (inl stands) = may_stand subject s n after p w ws at stands
may_lead subject s n after p w ws at (inr (inl shows)) = absurd (none-some shows.pair (sym at.none ∙ shows.waits))
may_lead subject s n after p w ws at (inr (inr waits)) = absurd (let none : [] ≡ (at.number ∷ at.older) = sym waits.takes.early ∙ at.begun in cc)

-- a node that stands has a form of the version
form_of : (subject : Subject) (s : Standing) (n : Node) (after : Standing) → Stands subject s n after → HasForm (kind_of s.version) subject.claim n
form_of subject s n after stands = stands_form (kind_of s.version) subject s.pairs stands.at.number stands.search stands.at.searched stands.word n stands.may

-- a pair that may come does
no_pair_waits : (subject : Subject) (s : Standing) (n : Node) (after : Standing) → IsNoPair s n → Waits subject s n after → ⊥
no_pair_waits subject s n after none waits = let never : ¬ TakesOrder s = subst (IsNoPair s) waits.is none in never waits.takes

-- a misplaced node doesn't lead on
node_stops : (subject : Subject) (s : Standing) (n : Node) (after : Standing) → IsMisplacedNode subject s n → Leads subject s (line.Tree n) after → ⊥
node_stops subject s n after m (inr (inr waits)) = no_pair_waits subject s n after m.no_pair waits
node_stops subject s n after m (inl stands) = elim m.out [
  | inl without ↦ without (form_of subject s n after stands)
  | inr unawaited ↦ elim unawaited [
    | inl idle ↦ (let none : [] ≡ (stands.word ∷ stands.words) = sym idle.done ∙ stands.at.pending in cc)
    | inr waits ↦ none-some waits.0.pair (sym stands.at.none ∙ waits.0.waits)
  ]
]
node_stops subject s n after m (inr (inl shows)) = elim m.out [
  | inl without ↦ without (subst (HasForm (kind_of s.version) subject.claim) (sym shows.is) tt)
  | inr unawaited ↦ elim unawaited [
    | inl idle ↦ none-some shows.pair (sym idle.none ∙ shows.waits)
    | inr waits ↦ (let leaf : IsNoLeaf (node.Leaf shows.multipliers) = subst IsNoLeaf shows.is waits.1 in leaf)
  ]
]

-- a line that leads on is not misplaced
in_place : (subject : Subject) (s : Standing) (l : Line) (after : Standing) → IsMisplaced subject s l → Leads subject s l after → ⊥
in_place subject s (line.Header version) after m leads = m leads.has
in_place subject s (line.Pattern number) after m leads = m leads.free
in_place subject s (line.Tree n) after m leads = node_stops subject s n after m leads
in_place subject s line.End after m leads = m leads.free

pub leaf_of_leaf : (ts us : List (ℕ × ℤ)) → node.Leaf ts ≡ node.Leaf us → ts ≡ us
leaf_of_leaf ts us e = cc

-- a leaf that leads on has no error
leaf_leads : (subject : Subject) (s : Standing) (ts : List (ℕ × ℤ)) (f : LeafFault) (after : Standing)
    → AtSomeWord subject s (λ search w. FirstLeafFault search w ts f) ⊎ PairFails subject s ts f → Leads subject s (line.Tree (node.Leaf ts)) after → ⊥
leaf_leads subject s ts f after (inl at) leads =
    let wrong : FirstLeafFault at.search at.word ts f = at.holds in
    let judged : IsJudged at.search at.word ts = may_lead subject s (node.Leaf ts) after at.search at.word at.words at.at leads in
    no_fault wrong.system ts f wrong.first (
      leaf_back at.search at.word wrong.system ts wrong.is judged.leaf,
      check_stays at.search at.word wrong.system ts wrong.is judged.in_range,
    )
leaf_leads subject s ts f after (inr fails) (inl stands) = none-some fails.pair (sym stands.at.none ∙ fails.waits)
leaf_leads subject s ts f after (inr fails) (inr (inr waits)) = none-some fails.pair (sym waits.takes.none ∙ fails.waits)
leaf_leads subject s ts f after (inr fails) (inr (inl shows)) =
    let pair : shows.pair ≡ fails.pair = waits_once s shows.pair fails.pair shows.waits fails.waits in
    let same : shows.multipliers ≡ ts = sym (leaf_of_leaf ts shows.multipliers shows.is) in
    shows_or_fails subject.file.automaton fails.pair ts f
    (subst (λ q. IsShown subject.file.automaton q ts) pair (subst (λ us. IsShown subject.file.automaton shows.pair us) same shows.shown)) fails.fails

leaf_holds : (subject : Subject) (s : Standing) (l : Line) (f : LeafFault) (after : Standing) → LeafFails subject s l f → Leads subject s l after → ⊥
leaf_holds subject s l f after fails leads = leaf_leads subject s fails.multipliers f after fails.at (subst (λ m. Leads subject s m after) fails.is leads)

-- a question that may stand may be asked
may_ask : {E : Type 0} (p : Search E) (w : Pending E) (n : Node) → IsQuestion n → MayStand p (IsJudged p) w n → MayAsk p w.start w.past n
may_ask p w node.Extend asks may = absurd asks
may_ask p w (node.Leaf ts) asks may = absurd asks
may_ask p w (node.Split unknown floor) asks may = absurd asks
may_ask p w (node.Guard guard) asks may = may
may_ask p w (node.Order before later) asks may = may
may_ask p w (node.Stuck rule) asks may = may

-- a line that leads on is not in error
pub not_both : (subject : Subject) (s : Standing) (number : ℕ) (l : Line) (f : CertFault) (after : Standing) → IsAtFault subject s number l f
    → Leads subject s l after → ⊥
not_both subject s number l (fault.Line n) after at leads = in_place subject s l after at.1 leads
not_both subject s number l (fault.UnknownPattern n) after (place, k, here, beyond) leads =
    let begins = subst (λ m. Leads subject s m after) here.is leads in
    let exists : k < length subject.file.patterns = search_exists (kind_of s.version) subject s.pairs k begins.search begins.searched in
    omega arith
not_both subject s number l (fault.RepeatedPattern n) after (place, k, here, old) leads = (subst (λ m. Leads subject s m after) here.is leads).new old
not_both subject s number l (fault.Pair n) after (place, bad) leads = pair_holds (subst (λ m. Leads subject s m after) bad.is leads)
  where
    pair_holds : Leads subject s (line.Tree (node.Order bad.before bad.later)) after → ⊥
    pair_holds (inl stands) = let none : [] ≡ (stands.at.number ∷ stands.at.older) = sym bad.takes.early ∙ stands.at.begun in cc
    pair_holds (inr (inl shows)) = let is = shows.is in cc
    pair_holds (inr (inr waits)) =
        let same : node.Order bad.before bad.later ≡ node.Order waits.pair.0 waits.pair.1 = waits.is in
        let before : waits.pair.0 ≡ bad.before = cc in
        let later : waits.pair.1 ≡ bad.later = cc in
        bad.bad (subst (λ k. MayJoin subject.file.automaton s.pairs (bad.before, k)) later
        (subst (λ k. MayJoin subject.file.automaton s.pairs (k, waits.pair.1)) before waits.may))
not_both subject s number l (fault.ExtendComplete n) after (place, vain) leads =
    let at = vain.at in
    let may : MayAsk at.search at.word.start at.word.past node.Extend = may_lead subject s node.Extend after at.search at.word at.words at.at
    (subst (λ m. Leads subject s m after) vain.is leads) in
    none_asked at.search at.word.start at.word.past node.Extend may at.holds
not_both subject s number l (fault.Question n) after (place, question, asks, vain) leads =
    let at = vain.at in
    let may = may_ask at.search at.word question asks
    (may_lead subject s question after at.search at.word at.words at.at (subst (λ m. Leads subject s m after) vain.is leads)) in
    none_asked at.search at.word.start at.word.past question may at.holds
not_both subject s number l (fault.SplitVariable n) after (place, splits) leads =
    let at = splits.at in
    let may : splits.unknown < at.search.unknowns at.word.start at.word.past = may_lead subject s (node.Split splits.unknown splits.floor) after at.search
    at.word at.words at.at (subst (λ m. Leads subject s m after) splits.is leads) in
    let beyond = at.holds in
    omega arith
not_both subject s number l (fault.Row n row) after at leads = leaf_holds subject s l _ after at.1 leads
not_both subject s number l (fault.Overflow n column) after at leads = leaf_holds subject s l _ after at.1 leads
not_both subject s number l (fault.Positive n unknown) after at leads = leaf_holds subject s l _ after at.1 leads
not_both subject s number l (fault.NotNegative n) after at leads = leaf_holds subject s l _ after at.1 leads
not_both subject s number l _ after at leads = absurd at
