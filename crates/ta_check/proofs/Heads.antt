-- lines behind the first line of a certificate: its pairs with their leaves, and then its proofs
use Rattle.ta_check.proofs.Common.{◌≡◌, inl, inr, ℕ, suc, ℤ, true, List, [], ◌∷◌, ◌++◌, map, None, Some, sym, ap, ◌∙◌, refl, subst, append_assoc, append-nil}
use Rattle.ta_check.proofs.Common.{false≢true, AllByRecursion, apart_before, In-left, In-right, Line, Node, Order, IsNode, has_end, AreLater, AreOrders}
use Rattle.ta_check.proofs.Common.{order_lines, pair_of, Automaton, Good, IsPair, IsShown, MayJoin, leads_along, Subject, ShowsPair, Standing, NothingIsLeft}
use Rattle.ta_check.proofs.Common.{ShowsWaiting, TakesOrder, Waits, LeadThrough, none-some, each_back}
use Rattle.ta_cert.specs.declared.line.Line.TheVariants as line
use Rattle.ta_cert.specs.declared.line.Node.TheVariants as node
use Rattle.ta_implied.proofs.Joining.{good_behind}
use Rattle.ta_check.proofs.Following.{waits_once}
use Rattle.ta_check.proofs.Behind.{Behind, behind, behind_last, behind_pattern, standing}

-- lines behind the first line and some pairs: more pairs with their leaves, and then proofs
pub record OrdersBehind (subject : Subject) (version : ℕ) (pairs : List (ℕ × ℕ)) (ls : List Line) (after : Standing) : Type 0 where
  pub orders : List Order
  pub rest : List Line
  pub lines : ls ≡ order_lines orders ++ rest
  pub ordered : AreOrders orders
  pub shown : AllByRecursion (ShowsPair subject.file.automaton) orders
  pub good : Good subject.file.automaton pairs → Good subject.file.automaton (pairs ++ map pair_of orders)
  pub some : version ≡ 2 → pairs ++ map pair_of orders ≡ [] → ⊥
  pub second : (orders ≡ [] → ⊥) → version ≡ 2
  pub behind : Behind subject (standing version (pairs ++ map pair_of orders) [] []) rest after

-- no more pairs
none_more : (subject : Subject) (version : ℕ) (pairs : List (ℕ × ℕ)) (ls : List Line) (after : Standing) → NothingIsLeft (standing version pairs [] [])
    → Behind subject (standing version pairs [] []) ls after → OrdersBehind subject version pairs ls after
none_more subject version pairs ls after free b = record {
  orders = [];
  rest = ls;
  lines = refl;
  ordered = tt;
  shown = tt;
  good = λ good. subst (Good subject.file.automaton) (sym (append-nil pairs)) good;
  some = λ two empty. free.some two (sym (append-nil pairs) ∙ empty);
  second = λ more. absurd (more refl);
  behind = subst (λ (xs : List (ℕ × ℕ)). Behind subject (standing version xs [] []) ls after) (sym (append-nil pairs)) b;
}

-- one pair more
pub one_order : (subject : Subject) (version : ℕ) (pairs : List (ℕ × ℕ)) (o n : Node) (ls : List Line) (after next : Standing) (ts : List (ℕ × ℤ)) → IsNode o
    → IsNode n → (waits : Waits subject (standing version pairs [] []) o next) → n ≡ node.Leaf ts → IsShown subject.file.automaton waits.pair ts
    → OrdersBehind subject version (pairs ++ waits.pair ∷ []) ls after → OrdersBehind subject version pairs (line.Tree o ∷ line.Tree n ∷ ls) after
one_order subject version pairs o n ls after next ts guards leaf waits is shown b =
    let pair = waits.pair in
    let one : Order = record { before = pair.0; after = pair.1; multipliers = ts } in
    let form : IsNode (node.Order pair.0 pair.1) = subst IsNode waits.is guards in
    let all : (pairs ++ pair ∷ []) ++ map pair_of b.orders ≡ pairs ++ map pair_of (one ∷ b.orders) = append_assoc pairs (pair ∷ []) (map pair_of b.orders) in
    record {
      orders = one ∷ b.orders;
      rest = b.rest;
      lines = ap (λ (m : Node). line.Tree m ∷ line.Tree n ∷ ls) waits.is ∙ ap (λ (m : Node). line.Tree (node.Order pair.0 pair.1) ∷ line.Tree m ∷ ls) is
          ∙ ap (λ (xs : List Line). line.Tree (node.Order pair.0 pair.1) ∷ line.Tree (node.Leaf ts) ∷ xs) b.lines;
      ordered = (record { before = form.0; after = form.1; leaf = subst IsNode is leaf }, b.ordered);
      shown = (shown, b.shown);
      good = λ good. subst (Good subject.file.automaton) all
          (b.good (good_behind subject.file.automaton pairs pair good waits.may
          (record { system = shown.system; is = shown.is; multipliers = ts; leaf = shown.leaf })));
      some = λ two empty. b.some two (all ∙ empty);
      second = λ more. waits.takes.version;
      behind = subst (λ (xs : List (ℕ × ℕ)). Behind subject (standing version xs [] []) b.rest after) all b.behind;
    }

-- where the leaf of a pair leads
shown_at : (subject : Subject) (version : ℕ) (pairs : List (ℕ × ℕ)) (pair : ℕ × ℕ) (n : Node) (next last : Standing)
    → next ≡ record (standing version pairs [] []) { waiting = Some pair } → (shows : ShowsWaiting subject next n last) → (shows.pair ≡ pair)
    × (last ≡ standing version (pairs ++ pair ∷ []) [] [])
shown_at subject version pairs pair n next last is shows =
    let waits : next.waiting ≡ Some pair = ap (λ (t : Standing). t.waiting) is in
    let same = waits_once next shows.pair pair shows.waits waits in (
      same,
      shows.leads ∙ ap (λ (t : Standing). record t { pairs = t.pairs ++ shows.pair ∷ []; waiting = None }) is
          ∙ ap (λ (q : ℕ × ℕ). standing version (pairs ++ q ∷ []) [] []) same,
    )

-- lines behind the first line
pub heads : (subject : Subject) (version : ℕ) (pairs : List (ℕ × ℕ)) (ls : List Line) (after : Standing) → AreLater subject.line_bytes ls → has_end ls ≡ true
    → LeadThrough subject (standing version pairs [] []) ls after → OrdersBehind subject version pairs ls after
heads subject version pairs [] after later ended lead = absurd (false≢true ended)
heads subject version pairs (line.Header v ∷ ls) after later ended lead = absurd (false≢true (sym later.2))
heads subject version pairs (line.Pattern k ∷ ls) after later ended (next, begins, lead) =
    let began = ap (λ (t : Standing). t.begun) begins.leads in
    none_more subject version pairs (line.Pattern k ∷ ls) after begins.free
    (behind_pattern subject (standing version pairs [] []) k next ls after later.0 begins
    (behind subject next ls after (ap (λ (t : Standing). t.waiting) begins.leads) (λ e. let gone : k ∷ [] ≡ [] = sym began ∙ e in cc) later.4 ended lead))
heads subject version pairs (line.Tree n ∷ ls) after later ended (next, inl stands, lead) = absurd
    (let none : [] ≡ (stands.word ∷ stands.words) = stands.at.pending in cc)
heads subject version pairs (line.Tree n ∷ ls) after later ended (next, inr (inl shows), lead) = absurd (let none : None ≡ Some shows.pair = shows.waits in cc)
heads subject version pairs (line.End ∷ ls) after later ended (next, ends, lead) = none_more subject version pairs (line.End ∷ ls) after ends.free
    (behind_last subject (standing version pairs [] []) next ls after later ends lead)
heads subject version pairs (line.Tree o ∷ []) after later ended (next, inr (inr waits), lead) = absurd (false≢true ended)
heads subject version pairs (line.Tree o ∷ line.Header v ∷ ls) after later ended (next, inr (inr waits), lead) = absurd (false≢true (sym later.4.2))
heads subject version pairs (line.Tree o ∷ line.Pattern k ∷ ls) after later ended (next, inr (inr waits), (last, second, lead)) = absurd
    (none-some waits.pair (sym second.free.none ∙ (ap (λ (t : Standing). t.waiting) waits.leads)))
heads subject version pairs (line.Tree o ∷ line.End ∷ ls) after later ended (next, inr (inr waits), (last, second, lead)) = absurd
    (none-some waits.pair (sym second.free.none ∙ (ap (λ (t : Standing). t.waiting) waits.leads)))
heads subject version pairs (line.Tree o ∷ line.Tree n ∷ ls) after later ended (next, inr (inr waits), (last, inl stands, lead)) = absurd
    (none-some waits.pair (sym stands.at.none ∙ (ap (λ (t : Standing). t.waiting) waits.leads)))
heads subject version pairs (line.Tree o ∷ line.Tree n ∷ ls) after later ended (next, inr (inr waits), (last, inr (inr second), lead)) = absurd
    (none-some waits.pair (sym second.takes.none ∙ (ap (λ (t : Standing). t.waiting) waits.leads)))
heads subject version pairs (line.Tree o ∷ line.Tree n ∷ ls) after later ended (next, inr (inr waits), (last, inr (inl shows), lead)) =
    let at = shown_at subject version pairs waits.pair n next last waits.leads shows in
    one_order subject version pairs o n ls after next shows.multipliers later.0 later.4.0 waits shows.is
    (subst (λ (q : ℕ × ℕ). IsShown subject.file.automaton q shows.multipliers) at.0 shows.shown)
    (heads subject version (pairs ++ waits.pair ∷ []) ls after later.4.4 ended (subst (λ (t : Standing). LeadThrough subject t ls after) at.1 lead))

joins : (a : Automaton) (xs rest : List (ℕ × ℕ)) (pair : ℕ × ℕ) → Good a (xs ++ pair ∷ rest) → MayJoin a xs pair
joins a xs rest pair good = record {
  is = (each_back (IsPair a) xs (pair ∷ rest) good.pairs_are).0;
  fresh = apart_before xs rest pair good.distinct;
  closes_none = λ more chain. good.acyclic (suc more) pair.0 (
    pair.1,
    In-right pair xs (pair ∷ rest) (inl refl),
    leads_along xs (xs ++ pair ∷ rest) (λ q there. In-left q xs (pair ∷ rest) there) more pair.1 pair.0
        chain,
  );
}

-- the lines of orders lead through them
pub lead_orders : (subject : Subject) (pairs : List (ℕ × ℕ)) (orders : List Order) (ls : List Line) → Good subject.file.automaton (pairs ++ map pair_of orders)
    → AllByRecursion (ShowsPair subject.file.automaton) orders
    → ((after : Standing) × LeadThrough subject (standing 2 (pairs ++ map pair_of orders) [] []) ls after) → (after : Standing)
    × LeadThrough subject (standing 2 pairs [] []) (order_lines orders ++ ls) after
lead_orders subject pairs [] ls good shown lead =
    (lead.0, subst (λ (xs : List (ℕ × ℕ)). LeadThrough subject (standing 2 xs [] []) ls lead.0) (append-nil pairs) lead.1)
lead_orders subject pairs (o ∷ os) ls good shown lead =
    let pair : ℕ × ℕ = pair_of o in
    let all : (pairs ++ pair ∷ []) ++ map pair_of os ≡ pairs ++ map pair_of (o ∷ os) = append_assoc pairs (pair ∷ []) (map pair_of os) in
    let rest = lead_orders subject (pairs ++ pair ∷ []) os ls (subst (Good subject.file.automaton) (sym all) good) shown.1
    (lead.0, subst (λ (xs : List (ℕ × ℕ)). LeadThrough subject (standing 2 xs [] []) ls lead.0) (sym all) lead.1) in
    let at = standing 2 pairs [] [] in
    let takes : TakesOrder at = record { version = refl; none = refl; early = refl } in
    let next : Standing = record at { waiting = Some pair } in
    let waits : Waits subject at (node.Order o.before o.after) next = record
    { pair = pair; is = refl; takes = takes; may = joins subject.file.automaton pairs (map pair_of os) pair good; leads = refl } in
    let shows : ShowsWaiting subject next (node.Leaf o.multipliers) (standing 2 (pairs ++ pair ∷ []) [] []) = record
    { pair = pair; waits = refl; multipliers = o.multipliers; is = refl; shown = shown.0; leads = refl } in
    (rest.0, (next, inr (inr waits), (standing 2 (pairs ++ pair ∷ []) [] [], inr (inl shows), rest.1)))
